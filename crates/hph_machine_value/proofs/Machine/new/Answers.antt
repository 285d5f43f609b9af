use Rattle.hph_machine.specs.Values.{state_of}
use Rattle.hph_machine_value.proofs.Steps.{begins_well}
use Rattle.hph_machine_value.proofs.Machine.new.Goals as goal

pub invariant_of-result : goal.invariant_of-result
invariant_of-result g c =
    let system = c.args.system.now in
    begins_well (g.S.System.shape system) (g.met.S.System.laws system) c.args.workers (state_of c.in_ok-state.state) c.requires.few c.in_ok-state.ensures
