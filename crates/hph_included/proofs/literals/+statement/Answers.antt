-- Statements without includes, three parts in turn, and one item more.
use Rattle.std.specs.Prelude.{[], flat_map}
use Rattle.std.specs.Option.{option_map_or}
use Rattle.std.proofs.Common.{arith, ap, sym, ◌∙◌, ◌++◌}
use Rattle.hph_program.specs.Sources.{includes_in}
use Rattle.hph_included.specs.Literals.{in_branch, in_case, shapes}
use Rattle.hph_included.proofs.Includes.{ends, nothing_more, one_more, three_in_turn, case_body, branch_body, in-If}
use Rattle.hph_included.proofs.literals.+statement.Goals as goal

pub in_branches-loop-branch-preserved : goal.in_branches-loop-branch-preserved
in_branches-loop-branch-preserved t c =
    one_more in_branch c.args.branches.now c.loop-branch.branch-index c.branch-item.result _ _ _ (omega arith) c.branch-item.is c.loop-branch.invariant
    (c.in_ok-in_statement.ensures ∙ ap (λ l. shapes c.loop-branch.found.items ++ l) (ap includes_in c.get.ensures ∙ sym (branch_body c.branch-item.result)))

pub in_cases-loop-case-preserved : goal.in_cases-loop-case-preserved
in_cases-loop-case-preserved t c =
    one_more in_case c.args.cases.now c.loop-case.case-index c.case-item.result _ _ _ (omega arith) c.case-item.is c.loop-case.invariant
    (c.in_ok-in_statements.ensures ∙ ap (λ l. shapes c.loop-case.found.items ++ l) (ap (flat_map includes_in) c.as_slice.ensures ∙ sym (case_body c.case-item.result)))

pub in_statement-returns-in_ok-in_branches-in-If : goal.in_statement-returns-in_ok-in_branches-in-If
in_statement-returns-in_ok-in_branches-in-If t c =
    ends c.in_other.result _ _ (λ last.
    three_in_turn (shapes c.args.found.now.items) (includes_in c.in-If.body) (flat_map in_branch c.in-If.more) (option_map_or includes_in c.in-If.other []) _ _ _
    (c.in_ok-in_statement-in-If.ensures ∙ ap (λ x. shapes c.args.found.now.items ++ includes_in x) c.get-in-If.ensures)
    (c.in_ok-in_branches-in-If.ensures ∙ ap (λ l. shapes c.in_statement.new.found.items ++ flat_map in_branch l) c.as_slice-in-If.ensures) last
    ∙ ap (λ l. shapes c.args.found.now.items ++ l) (sym (ap includes_in c.in-If.is ∙ in-If _ _ _ _ _))) c.in_other.ensures

pub in_statement-returns-in-Empty : goal.in_statement-returns-in-Empty
in_statement-returns-in-Empty t c = nothing_more _ _ c.in-Empty.is

pub in_statement-returns-in-Empty-2 : goal.in_statement-returns-in-Empty-2
in_statement-returns-in-Empty-2 t c = nothing_more _ _ c.in-Empty.is

pub in_statement-returns-in-Empty-3 : goal.in_statement-returns-in-Empty-3
in_statement-returns-in-Empty-3 t c = nothing_more _ _ c.in-Empty.is

pub in_statement-returns-in-Empty-4 : goal.in_statement-returns-in-Empty-4
in_statement-returns-in-Empty-4 t c = nothing_more _ _ c.in-Empty.is

pub in_statement-returns-in-Empty-5 : goal.in_statement-returns-in-Empty-5
in_statement-returns-in-Empty-5 t c = nothing_more _ _ c.in-Empty.is

pub in_statement-returns-in-Empty-6 : goal.in_statement-returns-in-Empty-6
in_statement-returns-in-Empty-6 t c = nothing_more _ _ c.in-Empty.is

pub in_statement-returns-in-Empty-7 : goal.in_statement-returns-in-Empty-7
in_statement-returns-in-Empty-7 t c = nothing_more _ _ c.in-Empty.is

pub in_statement-returns-in-Empty-8 : goal.in_statement-returns-in-Empty-8
in_statement-returns-in-Empty-8 t c = nothing_more _ _ c.in-Empty.is

pub in_statement-returns-in-Empty-9 : goal.in_statement-returns-in-Empty-9
in_statement-returns-in-Empty-9 t c = nothing_more _ _ c.in-Empty.is

pub in_statement-returns-in-Empty-10 : goal.in_statement-returns-in-Empty-10
in_statement-returns-in-Empty-10 t c = nothing_more _ _ c.in-Empty.is

pub in_statement-returns-in-Empty-11 : goal.in_statement-returns-in-Empty-11
in_statement-returns-in-Empty-11 t c = nothing_more _ _ c.in-Empty.is

pub in_statement-returns-in-Empty-12 : goal.in_statement-returns-in-Empty-12
in_statement-returns-in-Empty-12 t c = nothing_more _ _ c.in-Empty.is
