use Rattle.std.proofs.Common.{◌≡◌, drop}
use Rattle.hph_ast.specs.Places as places
use Rattle.hph_cursor.proofs.places.last_step.Given as goal

abbrev pub invariant-loop-step : goal.invariant-loop-step
invariant-loop-step l = places.last_step l.last (drop l.step-index l.steps) ≡ places.last_step l.fn.first l.steps
