use Rattle.hph_wstate.specs.Machine.{core}
use Rattle.hph_wmach.proofs.Branches.{give_back_done}
use Rattle.hph_wmach.proofs.control.give_back.Goals as goal

pub returns-in-Ok : goal.returns-in-Ok
returns-in-Ok g c = λ m state trap stuck. give_back_done g.H.AnyHost.meaning m (core c.args.machine.now) (core c.keep.new.self) (core c.skip.new.self)
    (core c.put.new.self) (core c.leave_on.new.machine) _ _ _ _ state trap stuck c.in-Some.ensures c.in-Some-keep.ensures c.skip.ensures c.in-Ok.ensures
    (c.leave_on.ensures m state)
