-- What is found in the items that are left is all that is missing.
use Rattle.std.proofs.Common.{◌≡◌, drop}
use Rattle.std.specs.Prelude.{flat_map}
use Rattle.hph_ast.specs.RefusedStatements.{statement_refused}
use Rattle.hph_accept.specs.Order.{earliest}
use Rattle.hph_accept.specs.Enclosed.{seen}
use Rattle.hph_accept.specs.Parts.{member_of, case_found, else_if_found}
use Rattle.hph_accept.proofs.statements.+statement.Given as goal

abbrev pub invariant-statements-loop-one : goal.invariant-statements-loop-one
invariant-statements-loop-one l = earliest l.fn.met (flat_map (λ x. statement_refused x (seen l.context)) l.body) ≡ earliest l.met (flat_map (λ x. statement_refused x (seen l.context)) (drop l.one-index l.body))

abbrev pub invariant-else_ifs-loop-branch : goal.invariant-else_ifs-loop-branch
invariant-else_ifs-loop-branch l = earliest l.fn.met (flat_map (λ x. else_if_found x (seen l.context)) l.branches) ≡ earliest l.met (flat_map (λ x. else_if_found x (seen l.context)) (drop l.branch-index l.branches))

abbrev pub invariant-cases-loop-one : goal.invariant-cases-loop-one
invariant-cases-loop-one l = earliest l.fn.met (flat_map (λ x. case_found x (seen l.context)) l.cases) ≡ earliest l.met (flat_map (λ x. case_found x (seen l.context)) (drop l.one-index l.cases))

abbrev pub invariant-members-loop-one : goal.invariant-members-loop-one
invariant-members-loop-one l = earliest l.fn.met (flat_map (λ x. (member_of x).refused (seen l.context)) l.members) ≡ earliest l.met (flat_map (λ x. (member_of x).refused (seen l.context)) (drop l.one-index l.members))
