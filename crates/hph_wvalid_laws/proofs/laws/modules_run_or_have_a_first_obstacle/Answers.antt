use Rattle.hph_wvalid_laws.proofs.FirstObstacles.{readiness_decided}
use Rattle.hph_wvalid_laws.proofs.laws.modules_run_or_have_a_first_obstacle.Goals as goal

pub returns : goal.returns
returns g c host m = readiness_decided host m
