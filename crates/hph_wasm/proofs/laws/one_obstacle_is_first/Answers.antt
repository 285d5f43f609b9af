use Rattle.hph_wasm.proofs.Obstacles.{has_one_obstacle}
use Rattle.hph_wasm.proofs.laws.one_obstacle_is_first.Goals as goal

pub returns : goal.returns
returns g c = has_one_obstacle
