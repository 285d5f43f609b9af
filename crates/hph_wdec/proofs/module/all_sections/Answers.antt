use Rattle.std.proofs.Common.{◌≡◌, [], length, sym, ap, subst, arith}
use Rattle.hph_wread.proofs.Combinators.{handed_on}
use Rattle.hph_wdec.specs.Next.{parts_read}
use Rattle.hph_wdec.proofs.SoFar.{SoFar, so_far_begins, so_far_more, so_far_fails, header_fails}
use Rattle.hph_wdec.proofs.module.all_sections.Goals as goal

pub returns-in_err-rest-clause-fault : goal.returns-in_err-rest-clause-fault
returns-in_err-rest-clause-fault c =
    let e = c.in_err-rest.field-0.0 in
    handed_on _ c.from_residual.result e c.from_residual.ensures.1 (header_fails c.sections_are_read_in_turn.ensures.no_header e c.in_err-rest.ensures.stopped)

pub loop-rest-init : goal.loop-rest-init
loop-rest-init c =
    subst (λ s. SoFar c.args.bytes.now (parts_read s) s.last c.in_ok-rest.rest.now) (sym c.new-sections.ensures) (so_far_begins c.in_ok-rest.ensures.read)

pub returns-in_err-rest-2-clause-fault : goal.returns-in_err-rest-2-clause-fault
returns-in_err-rest-2-clause-fault c =
    let e = c.in_err-rest-2.field-0.0 in
    let law = c.sections_are_read_in_turn.ensures in
    let more : ¬ (c.loop-rest.rest.now ≡ []) = λ none. (let empty : length c.loop-rest.rest.now ≡ 0 = ap length none in grind arith) in
    handed_on _ c.from_residual-in_err-rest-2.result e c.from_residual-in_err-rest-2.ensures.1
    (so_far_fails law.stops law.fails (parts_read c.loop-rest.sections) c.loop-rest.sections.last c.loop-rest.invariant more e c.in_err-rest-2.ensures.stopped)

pub loop-rest-preserved : goal.loop-rest-preserved
loop-rest-preserved c =
    so_far_more c.sections_are_read_in_turn.ensures.goes_on (parts_read c.loop-rest.sections) (parts_read c.add.new.self) c.loop-rest.sections.last c.add.new.self.last
    c.loop-rest.invariant c.in_ok-rest-2.ensures.read (c.in_ok-rest-2.ensures.supported c.loop-rest.invariant.read.supported)
