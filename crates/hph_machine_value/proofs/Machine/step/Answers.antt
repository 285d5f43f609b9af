use Rattle.hph_machine.specs.Values.{state_of}
use Rattle.hph_machine_value.proofs.Steps.{step_keeps}
use Rattle.hph_machine_value.proofs.Machine.step.Goals as goal

pub invariant_of-self : goal.invariant_of-self
invariant_of-self g c =
    let system = c.self.inside.system.now in
    step_keeps (g.S.System.shape system) (g.met.S.System.laws system) (state_of c.self.inside.state) (state_of c.step.new.state) c.args.event.now c.step.result c.self.invariant c.step.ensures.taken c.step.ensures.unchanged
