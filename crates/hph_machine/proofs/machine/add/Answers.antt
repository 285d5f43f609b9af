use Rattle.std.proofs.Common.{◌≡◌, ◌<◌, ◌≤◌, ◌+◌, ◌^◌, arith}
use Rattle.hph_sys.specs.Shape.{Shape}
use Rattle.hph_core.proofs.Worth.{is_of_use}
use Rattle.hph_machine.specs.Values.{state_of}
use Rattle.hph_machine.proofs.machine.add.Goals as goal

pub add-requires-clause-room : goal.add-requires-clause-room
add-requires-clause-room g c =
    let sys : Shape = g.S.System.shape c.args.system.now in
    let law = g.met.S.System.laws c.args.system.now in
    let bounded = (is_of_use sys (state_of c.args.state.now) law c.requires.rule).bounded in
    let few = c.requires.rule.few in
    omega arith
