use Rattle.std.proofs.Common.{◌≡◌, drop}
use Rattle.hph_ast.specs.Places as places
use Rattle.hph_cursor.proofs.places.last_class.Given as goal

abbrev pub invariant-loop-class : goal.invariant-loop-class
invariant-loop-class l = places.last_class l.last (drop l.class-index l.classes) ≡ places.last_class l.fn.first l.classes
