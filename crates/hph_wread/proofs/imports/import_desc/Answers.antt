use Rattle.std.proofs.Common.{subst}
use Rattle.hph_wread.specs.Kinds.{KindByte}
use Rattle.hph_wread.specs.Reading.{Took}
use Rattle.hph_wread.proofs.Combinators.{took_then, handed_on}
use Rattle.hph_wread.proofs.SharedThings.{kind_fails, func_fails, table_fails, memory_fails, global_fails}
use Rattle.hph_wread.proofs.imports.import_desc.Goals as goal

pub returns-in_err-kind-clause-stopped : goal.returns-in_err-kind-clause-stopped
returns-in_err-kind-clause-stopped c =
    let e = c.in_err-kind.field-0.0 in
    handed_on _ c.from_residual.result e c.from_residual.ensures.1 (kind_fails e c.in_err-kind.ensures.stopped)

pub returns-in_err-ty-in-Func-clause-stopped : goal.returns-in_err-ty-in-Func-clause-stopped
returns-in_err-ty-in-Func-clause-stopped c =
    let e = c.in_err-ty-in-Func.field-0.0 in
    let kind = subst (λ k. Took (KindByte k) c.args.bytes.now c.in_ok-kind.behind.now) c.in-Func.is c.in_ok-kind.ensures.read in
    handed_on _ c.from_residual-in_err-ty-in-Func.result e c.from_residual-in_err-ty-in-Func.ensures.1 (func_fails kind e c.in_err-ty-in-Func.ensures.stopped)

pub returns-in_ok-ty-in-Func-clause-read : goal.returns-in_ok-ty-in-Func-clause-read
returns-in_ok-ty-in-Func-clause-read c =
    took_then (subst (λ k. Took (KindByte k) c.args.bytes.now c.in_ok-kind.behind.now) c.in-Func.is c.in_ok-kind.ensures.read) c.in_ok-ty-in-Func.ensures.read

pub returns-in_err-table-in-Table-clause-stopped : goal.returns-in_err-table-in-Table-clause-stopped
returns-in_err-table-in-Table-clause-stopped c =
    let e = c.in_err-table-in-Table.field-0.0 in
    let kind = subst (λ k. Took (KindByte k) c.args.bytes.now c.in_ok-kind.behind.now) c.in-Table.is c.in_ok-kind.ensures.read in
    handed_on _ c.from_residual-in_err-table-in-Table.result e c.from_residual-in_err-table-in-Table.ensures.1 (table_fails kind e c.in_err-table-in-Table.ensures.stopped)

pub returns-in_ok-table-in-Table-clause-read : goal.returns-in_ok-table-in-Table-clause-read
returns-in_ok-table-in-Table-clause-read c =
    took_then (subst (λ k. Took (KindByte k) c.args.bytes.now c.in_ok-kind.behind.now) c.in-Table.is c.in_ok-kind.ensures.read) c.in_ok-table-in-Table.ensures.read

pub returns-in_err-memory-in-Memory-clause-stopped : goal.returns-in_err-memory-in-Memory-clause-stopped
returns-in_err-memory-in-Memory-clause-stopped c =
    let e = c.in_err-memory-in-Memory.field-0.0 in
    let kind = subst (λ k. Took (KindByte k) c.args.bytes.now c.in_ok-kind.behind.now) c.in-Memory.is c.in_ok-kind.ensures.read in
    handed_on _ c.from_residual-in_err-memory-in-Memory.result e c.from_residual-in_err-memory-in-Memory.ensures.1 (memory_fails kind e c.in_err-memory-in-Memory.ensures.stopped)

pub returns-in_ok-memory-in-Memory-clause-read : goal.returns-in_ok-memory-in-Memory-clause-read
returns-in_ok-memory-in-Memory-clause-read c =
    took_then (subst (λ k. Took (KindByte k) c.args.bytes.now c.in_ok-kind.behind.now) c.in-Memory.is c.in_ok-kind.ensures.read) c.in_ok-memory-in-Memory.ensures.read

pub returns-in_err-global-in-Global-clause-stopped : goal.returns-in_err-global-in-Global-clause-stopped
returns-in_err-global-in-Global-clause-stopped c =
    let e = c.in_err-global-in-Global.field-0.0 in
    let kind = subst (λ k. Took (KindByte k) c.args.bytes.now c.in_ok-kind.behind.now) c.in-Global.is c.in_ok-kind.ensures.read in
    handed_on _ c.from_residual-in_err-global-in-Global.result e c.from_residual-in_err-global-in-Global.ensures.1 (global_fails kind e c.in_err-global-in-Global.ensures.stopped)

pub returns-in_ok-global-in-Global-clause-read : goal.returns-in_ok-global-in-Global-clause-read
returns-in_ok-global-in-Global-clause-read c =
    took_then (subst (λ k. Took (KindByte k) c.args.bytes.now c.in_ok-kind.behind.now) c.in-Global.is c.in_ok-kind.ensures.read) c.in_ok-global-in-Global.ensures.read
