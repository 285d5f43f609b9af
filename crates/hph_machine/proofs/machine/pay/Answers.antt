use Rattle.std.proofs.Common.{◌≡◌, ◌<◌}
use Rattle.hph_machine.specs.Values.{state_of}
use Rattle.hph_machine.proofs.Owing.{owed_pending}
use Rattle.hph_machine.proofs.machine.pay.Goals as goal

pub pay-requires-clause-some : goal.pay-requires-clause-some
pay-requires-clause-some g c = owed_pending (g.S.System.shape c.args.system.now) (state_of c.args.state.now) c.requires.rule c.args.worker c.requires.owed
