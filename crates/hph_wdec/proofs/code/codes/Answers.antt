use Rattle.std.proofs.Common.{sym, subst}
use Rattle.hph_wasm.specs.Grammar.{Vector}
use Rattle.hph_wasm.specs.ModuleGrammar.{Code}
use Rattle.hph_wread.specs.Reading.{Fails}
use Rattle.hph_wread.proofs.Combinators.{handed_on}
use Rattle.hph_wdec.specs.Next.{CodesFor, StopsCodesFor}
use Rattle.hph_wdec.proofs.SizedParts.{sized_took}
use Rattle.hph_wdec.proofs.CodeParts.{codes_size, codes_missing, codes_unfilled}
use Rattle.hph_wdec.proofs.code.codes.Goals as goal

pub returns-in_err-size-clause-stopped : goal.returns-in_err-size-clause-stopped
returns-in_err-size-clause-stopped c =
    let e = c.in_err-size.field-0.0 in
    handed_on _ c.from_residual.result e c.from_residual.ensures.1 (codes_size c.args.functions e c.in_err-size.ensures.stopped)

pub returns-in-Err-clause-stopped : goal.returns-in-Err-clause-stopped
returns-in-Err-clause-stopped c =
    subst (λ e. Fails (CodesFor c.args.functions) (StopsCodesFor c.args.functions) c.args.bytes.now e) (sym c.moved.ensures)
    (codes_missing c.within.result.1.now c.args.functions (c.types_are_read_in_one_way.ensures.unsigned 32) c.in_ok-size.size c.in_ok-size.ensures.read
    c.within.ensures.inside c.within.ensures.whole c.in-Err.fault c.in-Err.ensures.stopped)

pub returns-then-not-is_filled-clause-stopped : goal.returns-then-not-is_filled-clause-stopped
returns-then-not-is_filled-clause-stopped c =
    codes_unfilled c.within.result.1.now c.args.functions (c.types_are_read_in_one_way.ensures.unsigned 32) c.in_ok-size.size c.in_ok-size.ensures.read
    c.within.ensures.inside c.within.ensures.whole c.sections_are_read_in_one_way.ensures.codes c.parts_stop_in_one_place.ensures.codes
    c.in-Ok.codes c.in-Ok.ensures.count c.in-Ok.ensures.fit c.in-Ok.ensures.read c.if-not-is_filled.ensures

pub returns-else-not-is_filled-clause-read : goal.returns-else-not-is_filled-clause-read
returns-else-not-is_filled-clause-read c =
    sized_took c.within.result.1.now (c.types_are_read_in_one_way.ensures.unsigned 32) c.in_ok-size.size c.in_ok-size.ensures.read c.within.ensures.inside c.within.ensures.whole
    (Vector Code c.in-Ok.codes) c.in-Ok.ensures.read c.if-not-is_filled.ensures
