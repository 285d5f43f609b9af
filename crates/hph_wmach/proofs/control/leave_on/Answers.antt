use Rattle.hph_wstate.specs.Machine.{core}
use Rattle.hph_wmach.proofs.Branches.{leave_done}
use Rattle.hph_wmach.proofs.control.leave_on.Goals as goal

pub returns : goal.returns
returns g c = λ m state frame frames e. leave_done g.H.AnyHost.meaning m (core c.args.machine.now) (core c.leave.new.self) c.leave.result _ state
    c.leave.ensures (c.behind_call.ensures m state) frame frames e
