use Rattle.std.proofs.Common.{◌≡◌, drop}
use Rattle.hph_ast.specs.Statements as places
use Rattle.hph_parts.proofs.places.last_branch.Given as goal

abbrev pub invariant-loop-branch : goal.invariant-loop-branch
invariant-loop-branch l = places.last_branch l.last (drop l.branch-index l.branches) ≡ places.last_branch l.fn.first l.branches
