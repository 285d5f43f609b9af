use Rattle.hph_wasm.proofs.Rewritings.{step_rewrites, step_traps}
use Rattle.hph_wasm.proofs.laws.steps_are_rewritings.Goals as goal

pub returns : goal.returns
returns g c = record { rewritten = step_rewrites; trapped = step_traps }
