use Rattle.hph_wasm.proofs.PlacedSteps.{traps_at_opcodes, traps_have_one_place}
use Rattle.hph_wasm.proofs.laws.traps_are_at_opcodes.Goals as goal

pub returns : goal.returns
returns g c = record { placed = λ host m. traps_at_opcodes m host; one_place = λ host m. traps_have_one_place m host }
