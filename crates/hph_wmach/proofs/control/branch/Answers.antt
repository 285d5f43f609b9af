use Rattle.hph_wstate.specs.Machine.{core}
use Rattle.hph_wmach.proofs.Branches.{branch_out_done, branch_past_done}
use Rattle.hph_wmach.proofs.control.branch.Goals as goal

pub returns-then-number-label_count : goal.returns-then-number-label_count
returns-then-number-label_count g c = λ m state trap stuck. branch_out_done g.H.AnyHost.meaning m (core c.args.machine.now) _ _ _ (core c.give_back.new.machine)
    c.if-number-label_count.true c.label_count.ensures state trap stuck (c.give_back.ensures m state trap stuck)

pub returns-else-number-label_count : goal.returns-else-number-label_count
returns-else-number-label_count g c = λ m state trap stuck. branch_past_done g.H.AnyHost.meaning m (core c.args.machine.now) _ _ c.in-None.ensures
    c.if-number-label_count.false c.label_count.ensures state trap stuck
