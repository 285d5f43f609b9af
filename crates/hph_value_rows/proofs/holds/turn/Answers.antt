use Rattle.std.proofs.Common.{◌≡◌, ◌∙◌, ◌<◌, ◌+◌, ◌∷◌, length, Some, ap, sym, arith}
use Rattle.std.proofs.lemmas.Option.{slice_get_within}
use Rattle.std.specs.Prelude.{slice_get}
use Rattle.hph_value.specs.declared.value.Value as code
use Rattle.hph_value.specs.declared.value.Elements.{Elements}
use Rattle.hph_value.specs.Shown.{value_of}
use Rattle.hph_effects.specs.Hosts.{an_iterator, hold_on}
use Rattle.hph_effects.specs.Holds.{next}
use Rattle.hph_host_state.specs.declared.item.Turns.TheVariants.{Over}
use Rattle.hph_host_state.specs.States.{left, seen}
use Rattle.hph_host_state.proofs.Takings.{retold}
use Rattle.hph_value_rows.proofs.Pairs.{turn_left, turns_end}
use Rattle.hph_value_rows.proofs.holds.turn.Goals as goal

pub end-requires : goal.end-requires
end-requires c =
    turns_end c.args.elements c.args.at (c.in-None.ensures ∙ ap (λ (e : Elements code.Value). slice_get e.map.pairs c.args.at) c.get.ensures)

pub prove-unreachable-requires : goal.prove-unreachable-requires
prove-unreachable-requires c =
    let there : Some (c.in-Some.key.now, c.in-Some.value.now) ≡ slice_get c.args.elements.map.pairs c.args.at =
    c.in-Some.ensures ∙ ap (λ (e : Elements code.Value). slice_get e.map.pairs c.args.at) c.get.ensures in
    let inside : c.args.at < length c.args.elements.map.pairs = slice_get_within _ _ _ (sym there) in
    let count : c.len-pairs.result ≡ length c.args.elements.map.pairs =
    c.len-pairs.ensures.value ∙ ap (λ (e : Elements code.Value). length e.map.pairs) c.get-in-Some.ensures in
    omega arith

pub returns-in_ok-value-in-Some : goal.returns-in_ok-value-in-Some
returns-in_ok-value-in-Some c = λ out.
    let there : Some (c.in-Some.key.now, c.in-Some.value.now) ≡ slice_get c.args.elements.map.pairs c.args.at =
    c.in-Some.ensures ∙ ap (λ (e : Elements code.Value). slice_get e.map.pairs c.args.at) c.get.ensures in
    let h = seen out c.args.state.now in
    retold c.take_turn.result out _
    (next (hold_on (an_iterator ((c.in-Some.key.now, value_of c.in_ok-value-in-Some.value) ∷ left (Over c.args.elements (c.args.at + 1)))) h)) c.take_turn.new.state
    (ap (λ ps. next (hold_on (an_iterator ps) h)) (turn_left c.args.elements c.args.at c.in-Some.key.now c.in-Some.value.now there
    ∙ ap (λ v. (c.in-Some.key.now, value_of v) ∷ left (Over c.args.elements (c.args.at + 1))) (sym c.in_ok-value-in-Some.ensures.cases)))
    (c.take_turn.ensures c.in-Some.key.now c.in_ok-key-in-Some.ensures out)
