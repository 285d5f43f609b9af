use Rattle.std.proofs.Common.{◌∙◌, ap, true, false, reverse}
use Rattle.hph_wvalid.proofs.Bodies.{around, outermost, told_body, body_told, valid_answer, fault_answer}
use Rattle.hph_wvalid.proofs.body.first_fault.Goals as goal

pub returns-then-branch : goal.returns-then-branch
returns-then-branch c =
    let m = c.args.m.now in let ty = c.args.ty.now in let func = c.args.func.now in
    valid_answer m ty func _ c.check_inside.new.at (body_told m ty func) (told_body m ty func c.check_inside.new.at c.as_slice-4.result.now c.as_slice-3.result.now
    c.in_ok-label.label (around ty func c.new.result) _ true
    c.as_slice-4.ensures (c.as_slice-3.ensures ∙ c.in_ok-given.ensures ∙ ap reverse c.as_slice.ensures) (c.in_ok-label.ensures ∙ ap reverse c.as_slice-2.ensures)
    (outermost ty func c.new.result c.new.ensures) c.if-branch.true c.in_ok-check_inside.ensures.told)

pub returns : goal.returns
returns c =
    let m = c.args.m.now in let ty = c.args.ty.now in let func = c.args.func.now in
    fault_answer m ty func _ c.check_inside.new.at (body_told m ty func) (told_body m ty func c.check_inside.new.at c.as_slice-4.result.now c.as_slice-3.result.now
    c.in_ok-label.label (around ty func c.new.result) _ false
    c.as_slice-4.ensures (c.as_slice-3.ensures ∙ c.in_ok-given.ensures ∙ ap reverse c.as_slice.ensures) (c.in_ok-label.ensures ∙ ap reverse c.as_slice-2.ensures)
    (outermost ty func c.new.result c.new.ensures) c.if-branch.false c.in_ok-check_inside.ensures.told)
