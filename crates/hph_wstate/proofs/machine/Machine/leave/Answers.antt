use Rattle.hph_wstate.specs.Machine.{held}
use Rattle.std.proofs.Common.{◌≡◌, ◌∙◌, ap, length}
use Rattle.hph_wstate.proofs.Standing.{left_done, labels_counted, counts_returned_to}
use Rattle.hph_wstate.proofs.machine.Machine.leave.Goals as goal

pub returns-in-Some : goal.returns-in-Some
returns-in-Some c =
    let none : c.args.self.now.own_entered ≡ 0 = labels_counted _ _ _ _ _ c.args.self.now.counted ∙ ap length c.requires in
    left_done c.args.self.now.code.now (held c.args.self.now) _ _ _ _ _ _ _ _ none c.in-Some.ensures c.replace-left.ensures.after

pub invariant_of-self-in-Some : goal.invariant_of-self-in-Some
invariant_of-self-in-Some c =
    let none : c.args.self.now.own_entered ≡ 0 = labels_counted _ _ _ _ _ c.args.self.now.counted ∙ ap length c.requires in
    record { counted = counts_returned_to _ _ _ _ _ _ _ none c.in-Some.ensures c.args.self.now.counted }
