use Rattle.std.proofs.Common.{sym, ◌∙◌, arith, ap, length, subst}
use Rattle.std.specs.Option.{is_some}
use Rattle.std.proofs.lemmas.Map.Made.{length-remove_key}
use Rattle.hph_array.specs.Key.{key_eq}
use Rattle.hph_array.specs.Array.{MakeArray}
use Rattle.hph_array.proofs.Places.{is_some-lookup-zip}
use Rattle.hph_array.proofs.Rising.{is_some-position, remove_key-absent}
use Rattle.hph_array.proofs.NextKeyLaws.{AreBelow-remove}
use Rattle.hph_array.proofs.MapSteps.{unset-there, unset-absent}
use Rattle.hph_array.proofs.map.OrdMap.unset.Goals as goal

pub invariant_of-self : goal.invariant_of-self
invariant_of-self g c =
    let absent = sym (ap is_some c.in_default.ensures.place ∙ is_some-position (key_eq c.args.key.now) c.self.inside.keys) in
    subst (λ ks. MakeArray ks c.self.inside.values.items c.self.inside.next)
    (remove_key-absent (key_eq c.args.key.now) c.self.inside.keys absent ∙ sym c.in_default.ensures.keys)
    c.self.invariant

pub invariant_of-self-2 : goal.invariant_of-self-2
invariant_of-self-2 g c =
    let there = ap is_some c.in-Some.ensures.place ∙ is_some-position (key_eq c.args.key.now) c.self.inside.keys in
    let shorter = length-remove_key (key_eq c.args.key.now) c.self.inside.keys (sym there) in record {
      same_length = omega (arith, c.remove-2.ensures.len, shorter, ap length c.remove.ensures.keys, c.self.invariant.same_length);
      below = rw c.remove.ensures.keys
          (AreBelow-remove c.self.inside.next (key_eq c.args.key.now) c.self.inside.keys c.self.invariant.below);
      within = c.self.invariant.within;
    }

pub returns-clause-rest : goal.returns-clause-rest
returns-clause-rest g c =
    rw (← c.self.view_is, c.remove.ensures.keys, c.remove-2.ensures.items)
    (unset-there c.self.inside.keys c.self.inside.values.items c.self.inside.next
    c.self.invariant.same_length c.args.key.now c.in-Some.at (sym c.in-Some.ensures.place))

pub returns-clause-found : goal.returns-clause-found
returns-clause-found g c =
    rw (← c.self.view_is)
    (ap is_some c.in-Some.ensures.place ∙ is_some-position (key_eq c.args.key.now) c.self.inside.keys
    ∙ sym (is_some-lookup-zip (key_eq c.args.key.now) c.self.inside.keys c.self.inside.values.items
    c.self.invariant.same_length))

pub returns-in_default-clause-rest : goal.returns-in_default-clause-rest
returns-in_default-clause-rest g c =
    let absent = sym (ap is_some c.in_default.ensures.place ∙ is_some-position (key_eq c.args.key.now) c.self.inside.keys) in
    rw (← c.self.view_is)
    (unset-absent c.self.inside.keys c.self.inside.values.items c.self.inside.next
    c.self.invariant.same_length c.args.key.now _ (c.in_default.ensures.keys ∙ sym (remove_key-absent (key_eq c.args.key.now) c.self.inside.keys absent)) absent)

pub returns-in_default-clause-found : goal.returns-in_default-clause-found
returns-in_default-clause-found g c =
    rw (← c.self.view_is)
    (ap is_some c.in_default.ensures.place ∙ is_some-position (key_eq c.args.key.now) c.self.inside.keys
    ∙ sym (is_some-lookup-zip (key_eq c.args.key.now) c.self.inside.keys c.self.inside.values.items
    c.self.invariant.same_length))
