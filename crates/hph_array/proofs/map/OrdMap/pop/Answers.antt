use Rattle.std.proofs.Common.{◌≡◌, ℕ, ◌<◌, ◌++◌, ◌∷◌, [], length, length-append, ap, sym, arith, true≢false, ◌∙◌}
use Rattle.std.proofs.lemmas.List.{nil_from_length}
use Rattle.hph_array.specs.Array.{AreBelow}
use Rattle.hph_array.proofs.NextKeyLaws.{AreBelow-front, AreBelow-fallen, fallen-at_most}
use Rattle.hph_array.proofs.MapSteps.{pop-whole, pop-none, last-whole}
use Rattle.hph_array.proofs.map.OrdMap.pop.Goals as goal

none_there : (n : ℕ) → (0 < n → ⊥) → n ≡ 0
none_there n none = omega (arith, none)

pub returns-in_err-key-clause-rest : goal.returns-in_err-key-clause-rest
returns-in_err-key-clause-rest g c =
    let no_key : length c.self.inside.keys ≡ 0 =
    none_there _ (λ there. true≢false (sym (c.in_err-key.ensures.found.1 there))) in
    let rest = ap length c.in_err-key.ensures.keys ∙ length-append c.pop.new.self [] in
    rw (← c.self.view_is)
    (pop-none _ _ c.self.inside.values.items c.self.inside.next
    (nil_from_length _ (omega (arith, rest, no_key))) (nil_from_length _ no_key))

pub invariant_of-self-2 : goal.invariant_of-self-2
invariant_of-self-2 g c =
    let longer = ap length c.in_ok-key.ensures.keys ∙ length-append c.pop.new.self (c.in_ok-key.key ∷ []) in
    let was : AreBelow c.self.inside.next (c.pop.new.self ++ c.in_ok-key.key ∷ []) =
    rw (sym c.in_ok-key.ensures.keys) c.self.invariant.below in
    record {
      same_length = omega (arith, longer, c.in_ok-value.ensures.len, c.self.invariant.same_length);
      below = rw c.fallen_key-self-inside.ensures
          (AreBelow-fallen c.self.inside.next c.pop.new.self c.in_ok-key.key (AreBelow-front _ _ _ was)
          c.in_ok-key.ensures.gone);
      within = omega (
        arith,
        c.fallen_key-self-inside.ensures,
        fallen-at_most c.self.inside.next c.in_ok-key.key,
        c.self.invariant.within,
      );
    }

pub returns-clause-value : goal.returns-clause-value
returns-clause-value g c =
    let longer = ap length c.in_ok-key.ensures.keys ∙ length-append c.pop.new.self (c.in_ok-key.key ∷ []) in
    rw (← c.self.view_is, c.in_ok-key.ensures.keys, c.in_ok-value.ensures.items)
    (sym (last-whole c.pop.new.self c.pop-2.new.self.items c.self.inside.next
    (omega (arith, longer, c.in_ok-value.ensures.len, c.self.invariant.same_length))
    c.in_ok-key.key c.in_ok-value.value))

pub returns-clause-rest : goal.returns-clause-rest
returns-clause-rest g c =
    let longer = ap length c.in_ok-key.ensures.keys ∙ length-append c.pop.new.self (c.in_ok-key.key ∷ []) in
    rw (← c.self.view_is, c.in_ok-key.ensures.keys, c.in_ok-value.ensures.items, c.fallen_key-self-inside.ensures)
    (pop-whole c.pop.new.self c.pop-2.new.self.items c.self.inside.next
    (omega (arith, longer, c.in_ok-value.ensures.len, c.self.invariant.same_length))
    c.in_ok-key.key c.in_ok-value.value)
