-- What was added is what is found in the items so far.
use Rattle.std.proofs.Common.{◌≡◌, ◌++◌, take}
use Rattle.std.specs.Prelude.{flat_map}
use Rattle.hph_program.specs.Sources.{includes_in}
use Rattle.hph_included.specs.Literals.{in_branch, in_case, shapes}
use Rattle.hph_included.proofs.literals.+statement.Given as goal

abbrev pub invariant-in_statements-loop-one : goal.invariant-in_statements-loop-one
invariant-in_statements-loop-one l = shapes l.found.items ≡ shapes l.fn.found.items ++ flat_map includes_in (take l.one-index l.body)

abbrev pub invariant-in_branches-loop-branch : goal.invariant-in_branches-loop-branch
invariant-in_branches-loop-branch l = shapes l.found.items ≡ shapes l.fn.found.items ++ flat_map in_branch (take l.branch-index l.branches)

abbrev pub invariant-in_cases-loop-case : goal.invariant-in_cases-loop-case
invariant-in_cases-loop-case l = shapes l.found.items ≡ shapes l.fn.found.items ++ flat_map in_case (take l.case-index l.cases)
