use Rattle.std.proofs.Common.{◌≡◌, drop}
use Rattle.hph_ast.specs.Places as places
use Rattle.hph_cursor.proofs.places.last_expr.Given as goal

abbrev pub invariant-loop-expr : goal.invariant-loop-expr
invariant-loop-expr l = places.last_expr l.last (drop l.expr-index l.exprs) ≡ places.last_expr l.fn.first l.exprs
