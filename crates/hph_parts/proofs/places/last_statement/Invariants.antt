use Rattle.std.proofs.Common.{◌≡◌, drop}
use Rattle.hph_ast.specs.Statements as places
use Rattle.hph_parts.proofs.places.last_statement.Given as goal

abbrev pub invariant-loop-statement : goal.invariant-loop-statement
invariant-loop-statement l = places.last_statement l.last (drop l.statement-index l.statements) ≡ places.last_statement l.fn.first l.statements
