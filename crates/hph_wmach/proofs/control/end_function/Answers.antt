use Rattle.std.proofs.Common.{◌∙◌}
use Rattle.hph_wstate.specs.Machine.{core}
use Rattle.hph_wmach.proofs.Branches.{end_function_done}
use Rattle.hph_wmach.proofs.control.end_function.Goals as goal

pub returns-then-value_count-wanted : goal.returns-then-value_count-wanted
returns-then-value_count-wanted g c = λ m state. end_function_done g.H.AnyHost.meaning m (core c.args.machine.now) (core c.leave_on.new.machine) _ _ _ state _ _
    c.requires c.in-Some.ensures c.value_count.ensures (c.if-value_count-wanted.true ∙ c.count_of-wanted.ensures) (c.leave_on.ensures m state)
