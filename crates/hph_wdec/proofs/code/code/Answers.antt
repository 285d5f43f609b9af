use Rattle.std.proofs.Common.{sym, subst}
use Rattle.hph_wasm.specs.ModuleGrammar.{Code}
use Rattle.hph_wasm.specs.Unsupported.{Any, StopsCode}
use Rattle.hph_wread.specs.Reading.{Fails}
use Rattle.hph_wread.proofs.Combinators.{handed_on}
use Rattle.hph_wdec.specs.Locals.{LocalsAndBody}
use Rattle.hph_wdec.proofs.SizedParts.{sized_took}
use Rattle.hph_wdec.proofs.CodeParts.{code_size, code_inside, code_unfilled}
use Rattle.hph_wdec.proofs.code.code.Goals as goal

pub returns-in_err-size-clause-stopped : goal.returns-in_err-size-clause-stopped
returns-in_err-size-clause-stopped c =
    let e = c.in_err-size.field-0.0 in
    handed_on _ c.from_residual.result e c.from_residual.ensures.1 (code_size e c.in_err-size.ensures.stopped)

pub returns-in-Err-clause-stopped : goal.returns-in-Err-clause-stopped
returns-in-Err-clause-stopped c =
    subst (λ e. Fails (Any Code) StopsCode c.args.bytes.now e) (sym c.moved.ensures)
    (code_inside c.within.result.1.now (c.types_are_read_in_one_way.ensures.unsigned 32) c.in_ok-size.size c.in_ok-size.ensures.read c.within.ensures.inside c.within.ensures.whole
    c.in-Err.fault c.in-Err.ensures.stopped)

pub returns-then-not-is_filled-clause-stopped : goal.returns-then-not-is_filled-clause-stopped
returns-then-not-is_filled-clause-stopped c =
    code_unfilled c.within.result.1.now (c.types_are_read_in_one_way.ensures.unsigned 32) c.in_ok-size.size c.in_ok-size.ensures.read c.within.ensures.inside c.within.ensures.whole
    c.sections_are_read_in_one_way.ensures.locals c.instructions_are_read_in_one_way.ensures.expressions
    c.parts_stop_in_one_place.ensures.locals c.parts_stop_in_one_place.ensures.expressions
    c.in-Ok.code c.in-Ok.ensures.fit c.in-Ok.ensures.read c.if-not-is_filled.ensures

pub returns-else-not-is_filled-clause-read : goal.returns-else-not-is_filled-clause-read
returns-else-not-is_filled-clause-read c =
    sized_took c.within.result.1.now (c.types_are_read_in_one_way.ensures.unsigned 32) c.in_ok-size.size c.in_ok-size.ensures.read c.within.ensures.inside c.within.ensures.whole
    (LocalsAndBody c.in-Ok.code) c.in-Ok.ensures.read c.if-not-is_filled.ensures
