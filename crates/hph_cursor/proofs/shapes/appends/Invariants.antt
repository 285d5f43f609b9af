use Rattle.std.proofs.Common.{◌≡◌, drop}
use Rattle.std.specs.List.{list_any}
use Rattle.hph_ast.specs.Shapes as shapes
use Rattle.hph_cursor.proofs.shapes.appends.Given as goal

abbrev pub invariant-loop-step : goal.invariant-loop-step
invariant-loop-step l = list_any shapes.is_append (drop l.step-index l.steps) ≡ list_any shapes.is_append l.steps
