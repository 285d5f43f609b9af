use Rattle.std.proofs.Common.{arith}
use Rattle.hph_wread.proofs.PlainInstructions.{bare_took, index_fails, access_fails, named_index_took, named_access_took, no_instruction}
use Rattle.hph_wread.proofs.Combinators.{handed_on}
use Rattle.hph_wread.proofs.plain.plain.Goals as goal

pub returns-in_err-index-clause-stopped : goal.returns-in_err-index-clause-stopped
returns-in_err-index-clause-stopped c =
    let e = c.in_err-index.field-0.0 in
    let f = c.in_err-index.ensures.stopped in
    handed_on _ c.from_residual.result e c.from_residual.ensures.1 (index_fails c.opcodes_are_the_tables.ensures.apart c.in-Some-index_form.form c.args.code c.in-Some-index_form.ensures c.requires.first e f)

pub returns-in_err-at-clause-stopped : goal.returns-in_err-at-clause-stopped
returns-in_err-at-clause-stopped c =
    let e = c.in_err-at.field-0.0 in
    let f = c.in_err-at.ensures.stopped in
    handed_on _ c.from_residual-in_err-at.result e c.from_residual-in_err-at.ensures.1 (access_fails c.opcodes_are_the_tables.ensures.apart c.in-Some-access_form.form c.args.code c.in-Some-access_form.ensures c.requires.first e f)

pub returns-in-Some-clause-read : goal.returns-in-Some-clause-read
returns-in-Some-clause-read c = bare_took c.in-Some.instr c.args.code c.in-Some.ensures.0 c.in-Some.ensures.1 c.requires.first

pub returns-in-Some-index_form-clause-read : goal.returns-in-Some-index_form-clause-read
returns-in-Some-index_form-clause-read c = named_index_took c.with_index.result c.in-Some-index_form.form c.in_ok-index.index c.args.code c.in-Some-index_form.ensures c.with_index.ensures c.requires.first c.in_ok-index.ensures.read

pub returns-in-Some-access_form-clause-read : goal.returns-in-Some-access_form-clause-read
returns-in-Some-access_form-clause-read c = named_access_took c.with_argument.result c.in-Some-access_form.form c.in_ok-at.at c.args.code c.in-Some-access_form.ensures c.with_argument.ensures c.requires.first c.in_ok-at.ensures.read

pub unknown-requires-clause-none : goal.unknown-requires-clause-none
unknown-requires-clause-none c = no_instruction c.args.code c.requires.plain c.in_default.ensures c.in_default-index_form.ensures c.in_default-access_form.ensures (λ e. omega (arith, e)) (λ e. omega (arith, e)) (λ e. omega (arith, e)) (λ e. omega (arith, e))
