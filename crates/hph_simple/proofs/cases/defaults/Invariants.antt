use Rattle.std.proofs.Common.{◌≡◌, ◌+◌, ◌≤◌, take}
use Rattle.std.specs.Prelude.{count_by}
use Rattle.hph_ast.specs.Statements as grammar
use Rattle.hph_simple.proofs.cases.defaults.Given as goal

abbrev pub invariant-loop-case : goal.invariant-loop-case
invariant-loop-case l = (l.count ≡ count_by grammar.is_default (take l.case-index l.cases)) × (l.count ≤ l.case-index)
