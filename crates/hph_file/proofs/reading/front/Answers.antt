use Rattle.std.proofs.Common.{◌≡◌, ap, sym, subst, ◌∙◌, Some, None, Ok, Err}
use Rattle.hph_ast.specs.RefusedTokens.{token_construct}
use Rattle.hph_file.specs.Answers.{IsFirst}
use Rattle.hph_file.specs.Trees.{IsTree}
use Rattle.hph_file.proofs.FirstFaults.{of_token, of_tokens, of_tree, handed_on}
use Rattle.hph_file.proofs.reading.front.Goals as goal

pub returns-in-Some-clause-fault : goal.returns-in-Some-clause-fault
returns-in-Some-clause-fault c =
    of_token c.args.bytes.now c.in_ok-tokens.tokens.items c.in-Some.kind c.in-Some.offset c.in_ok-tokens.ensures.spelled
    (ap token_construct (sym c.deref.ensures.value) ∙ sym c.token_construct.ensures ∙ c.in-Some.is)

pub returns-in_err-tree-clause-fault : goal.returns-in_err-tree-clause-fault
returns-in_err-tree-clause-fault c =
    let e = c.in_err-tree.field-0.0 in
    let tokens = c.in_ok-tokens.tokens.items in
    let free : token_construct tokens ≡ None = ap token_construct (sym c.deref.ensures.value) ∙ sym c.token_construct.ensures ∙ c.in_default.is in
    handed_on (IsFirst c.args.bytes.now) c.from_residual-in_err-tree.result e c.from_residual-in_err-tree.ensures.1
    (of_tokens c.args.bytes.now tokens e c.in_ok-tokens.ensures.spelled free (subst (λ ts. IsTree ts (Err e)) c.deref-2.ensures.value c.in_err-tree.ensures))

pub returns-in-Some-tree_construct-clause-fault : goal.returns-in-Some-tree_construct-clause-fault
returns-in-Some-tree_construct-clause-fault c =
    let tokens = c.in_ok-tokens.tokens.items in
    let tree = c.in_ok-tree.tree in
    let free : token_construct tokens ≡ None = ap token_construct (sym c.deref.ensures.value) ∙ sym c.token_construct.ensures ∙ c.in_default.is in
    of_tree c.args.bytes.now tokens tree c.in-Some-tree_construct.kind c.in-Some-tree_construct.offset c.in_ok-tokens.ensures.spelled free
    (subst (λ ts. IsTree ts (Ok tree)) c.deref-2.ensures.value c.in_ok-tree.ensures) (sym c.tree_construct.ensures ∙ c.in-Some-tree_construct.is)
