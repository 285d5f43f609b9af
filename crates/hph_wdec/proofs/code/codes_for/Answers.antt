use Rattle.std.proofs.Common.{arith}
use Rattle.hph_wasm.specs.ModuleGrammar.{Code}
use Rattle.hph_wread.proofs.Combinators.{handed_on}
use Rattle.hph_wread.proofs.Vectors.{took_vector}
use Rattle.hph_wdec.proofs.CodeParts.{codes_count, codes_other_count, codes_entries}
use Rattle.hph_wdec.proofs.code.codes_for.Goals as goal

pub returns-in_err-count-clause-stopped : goal.returns-in_err-count-clause-stopped
returns-in_err-count-clause-stopped c =
    let e = c.in_err-count.field-0.0 in
    handed_on _ c.from_residual.result e c.from_residual.ensures.1 (codes_count c.args.functions e c.in_err-count.ensures.stopped)

pub returns-then-count-functions-clause-stopped : goal.returns-then-count-functions-clause-stopped
returns-then-count-functions-clause-stopped c =
    codes_other_count c.args.functions (c.types_are_read_in_one_way.ensures.unsigned 32) c.in_ok-count.count c.in_ok-count.ensures.read (λ same. omega (arith, same))

pub returns-in_err-codes-clause-stopped : goal.returns-in_err-codes-clause-stopped
returns-in_err-codes-clause-stopped c =
    let e = c.in_err-codes.field-0.0 in
    handed_on _ c.from_residual-in_err-codes.result e c.from_residual-in_err-codes.ensures.1
    (codes_entries c.args.functions (c.types_are_read_in_one_way.ensures.unsigned 32) c.in_ok-count.count (omega arith) c.in_ok-count.ensures.read e c.in_err-codes.ensures.stopped)

pub returns-clause-read : goal.returns-clause-read
returns-clause-read c = took_vector Code c.in_ok-codes.codes c.in_ok-count.count c.in_ok-count.ensures.read c.in_ok-codes.ensures.count c.in_ok-codes.ensures.read
