use Rattle.std.proofs.Common.{◌≡◌, drop}
use Rattle.hph_ast.specs.Places as places
use Rattle.hph_cursor.proofs.places.last_operand.Given as goal

abbrev pub invariant-loop-operand : goal.invariant-loop-operand
invariant-loop-operand l = places.last_operand l.last (drop l.operand-index l.operands) ≡ places.last_operand l.fn.first l.operands
