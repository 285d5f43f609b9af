use Rattle.std.proofs.Common.{ap, sym, ◌∙◌}
use Rattle.std.specs.Option.{option_map}
use Rattle.hph_lex.specs.Answers.{key_told}
use Rattle.hph_lex.proofs.Places.{element_place, open_element, element_within}
use Rattle.hph_lex.proofs.interpolation.element.Goals as goal

pub returns-then-not-begins-clause-is : goal.returns-then-not-begins-clause-is
returns-then-not-begins-clause-is c = λ at ts n.
    open_element at c.args.bytes.now c.after-inside.result.now c.after.result.now
    (key_told c.in-Some.key) ts n c.requires c.after-inside.ensures
    (ap (option_map key_told) (sym c.in-Some.is) ∙ c.in_ok-key.ensures.value) c.after.ensures (sym c.if-not-begins.ensures)

pub returns-clause-is : goal.returns-clause-is
returns-clause-is c = λ at.
    element_place at c.args.bytes.now c.after-inside.result.now c.after.result.now
    (key_told c.in-Some.key) c.requires c.after-inside.ensures
    (ap (option_map key_told) (sym c.in-Some.is) ∙ c.in_ok-key.ensures.value) c.after.ensures (sym c.if-not-begins.ensures)

pub returns-clause-within : goal.returns-clause-within
returns-clause-within c =
    element_within c.args.bytes.now c.after-inside.result.now c.after.result.now c.in-Some.key.length c.requires c.after-inside.ensures
    c.after.ensures (sym c.if-not-begins.ensures)
