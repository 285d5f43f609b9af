use Rattle.hph_wstate.specs.Machine.{held}
use Rattle.std.proofs.Common.{◌≤◌, arith}
use Rattle.hph_wstate.proofs.Standing.{outside_done}
use Rattle.hph_wstate.proofs.machine.Machine.go_outside.Goals as goal

pub returns-in-Some : goal.returns-in-Some
returns-in-Some c =
    let h : 1 ≤ c.args.self.now.own_entered = omega arith in
    outside_done c.args.self.now.code.now (held c.args.self.now) _ _ _ _ _ _ _ _ _ h c.in-Some.ensures c.way_on-self.ensures
