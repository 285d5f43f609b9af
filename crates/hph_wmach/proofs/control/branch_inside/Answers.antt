use Rattle.hph_wstate.specs.Machine.{core}
use Rattle.hph_wmach.proofs.Branches.{branch_short_done, branch_done, there_kept}
use Rattle.hph_wmach.proofs.control.branch_inside.Goals as goal

pub returns-in-None : goal.returns-in-None
returns-in-None g c = λ m state trap stuck. branch_short_done g.H.AnyHost.meaning m _ _ _ _ c.requires c.in-None.ensures state trap stuck

pub skip-requires-clause-there : goal.skip-requires-clause-there
skip-requires-clause-there g c = there_kept _ _ _ _ _ c.requires c.in-Some.ensures

pub returns-in-Ok : goal.returns-in-Ok
returns-in-Ok g c = λ m state trap stuck. branch_done g.H.AnyHost.meaning m (core c.args.machine.now) (core c.keep.new.self) (core c.skip.new.self)
    (core c.go_outside.new.self) (core c.put.new.self) _ _ _ _ c.requires c.in-Some.ensures c.skip.ensures c.go_outside.ensures c.in-Ok.ensures state stuck
