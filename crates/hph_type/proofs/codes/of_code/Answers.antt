use Rattle.std.proofs.Common.{◌∙◌, sym, ap, Some}
use Rattle.std.specs.Prelude.{◌==◌}
use Rattle.std.proofs.lemmas.Bool.{cond-true, cond-false, eq-eqb, ne_eqb}
use Rattle.hph_type.specs.Codes.{code, decoded, of_code}
use Rattle.hph_type.proofs.codes.of_code.Goals as goal

pub returns-then-code-c : goal.returns-then-code-c
unfolding of_code
returns-then-code-c c =
    ap Some c.decoded-t.ensures
    ∙ sym (cond-true (code (decoded c.args.c) == c.args.c) _ _
    (eq-eqb _ _ (ap code (sym c.decoded-t.ensures) ∙ sym c.code.ensures ∙ c.if-code-c.true)))

pub returns-else-code-c : goal.returns-else-code-c
unfolding of_code
returns-else-code-c c =
    sym (cond-false (code (decoded c.args.c) == c.args.c) _ _
    (ne_eqb _ _ (λ same. c.if-code-c.false (c.code.ensures ∙ ap code c.decoded-t.ensures ∙ same))))
