use Rattle.hph_wstate.specs.Machine.{core}
use Rattle.hph_wstate.proofs.Standing.{skip_step}
use Rattle.hph_wstate.proofs.machine.Machine.skip.Goals as goal

pub loop-k-preserved : goal.loop-k-preserved
loop-k-preserved c = skip_step (core c.args.self.now) (core c.loop-k.self) (core c.skip_label.new.self) c.loop-k._k c.skip_label.result
    c.requires.empty c.loop-k.invariant c.skip_label.ensures
