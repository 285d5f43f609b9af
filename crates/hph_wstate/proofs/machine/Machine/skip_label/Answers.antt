use Rattle.std.proofs.Common.{◌≤◌, arith}
use Rattle.hph_wstate.proofs.Standing.{skip_done}
use Rattle.hph_wstate.proofs.machine.Machine.skip_label.Goals as goal

pub returns-in-Some : goal.returns-in-Some
returns-in-Some c =
    let h : 1 ≤ c.args.self.now.own_entered = omega arith in
    skip_done _ _ _ _ _ _ _ _ _ _ h c.in-Some.ensures c.discard.ensures
