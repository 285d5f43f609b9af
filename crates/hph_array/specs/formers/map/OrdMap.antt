-- Where a map keeps its values, so that a value type may contain itself through it. Source: this project's own.
use Rattle.std.specs.Prelude.{◌≡◌, ℕ, max, List, [], ◌∷◌, map, length}
use Rattle.std.specs.List.{zip, AllByRecursion-prop}
use Rattle.std.specs.Map.{values_of}
use Rattle.std.proofs.Common.{refl, sym, ap, ◌∙◌, arith}
use lib.ListN.{length-map}
use Rattle.std.specs.declared.alloc.Global.{Global}
use Rattle.std.specs.contracts.alloc.Global as global
use Rattle.std.specs.contracts.impls.GlobalAllocator.TheImpl.{ghosts}
use Rattle.std.specs.formers.vec.Vec as vec
use mathlib.Core.Former.{Former, Count, Row, one_more, this, const, pair, list, via, list_count, list_put, children}
use native.Mathlib.Nat.{ℕ_set}
use native.Mathlib.Bridge.{le_prop}
use base.Stored.{gcons, code_map, coded×, coded_list, coded_ℕ}
use denote.RattleType.{RattleType}
use denote.HoleLaws.{Alike}
use denote.HolePlaces.{Recodes, struct_places, laid}
use denote.Hole.Carrier.{listed}
use denote.Hole.Fix.{over}
use denote.Model.Placed.{held, view_places_where}
use denote.Param.Nested.{deepest}
use denote.Param.Weighed.{Weighed, most, none_max, List-puts, w_pair, w_const}
use Rattle.hph_array.specs.declared.key.Key.{Key}
use Rattle.hph_array.specs.contracts.key.Key as key
use Rattle.hph_array.specs.declared.map.OrdMap.TheInside.{Inside}
use Rattle.hph_array.specs.declared.map.OrdMap.TheView.{view, invariant}
use Rattle.hph_array.specs.contracts.map.OrdMap as contract
use Rattle.hph_array.specs.contracts.map.OrdMap.TheInside as inside
use Rattle.hph_array.specs.Array.{Array, MakeArray}

-- a key and one of g's values
abbrev entry : Former {0} → Former {0}
entry g = pair (const Key) g

-- The values of an array are those of its pairs.
abbrev pub the_former : Former {0} → Former {0}
the_former g =
    via (pair (list (entry g)) (const ℕ)) (λ X. Array (g.Of X)) (λ X a. (a.pairs, a.next_key))
    (λ X parts. record { pairs = parts.0; next_key = parts.1 }) (λ X a. refl) (λ X parts. refl)

-- ---- measures

-- The largest measure of pairs is that of their values.
most_values : {X : Type 0} (μ : X → ℕ) (pairs : List (Key × X))
    → most (λ p. max 0 (μ p.1)) pairs ≡ most μ (values_of pairs)
most_values μ [] = refl
most_values μ (p ∷ pairs) = λ i. max (sym (none_max (μ p.1)) i) (most_values μ pairs i)

-- A row of values goes by the largest measure among them.
pub pairs_puts : {g : Former {0}} (w : Weighed g) (X : Type 0) (μ : X → ℕ) (pairs : List (Key × g.Of X))
    (n : Count) (t : Row X n)
    → deepest μ (list_count (entry g) (map ((entry g).shape X) pairs) n) (list_put (entry g) X pairs n t) ≡ max
    (most (w.weight X μ) (values_of pairs)) (deepest μ n t)
pairs_puts w X μ pairs n t = List-puts (w_pair (w_const Key) w) X μ pairs n t
    ∙ ap (λ m. max m (deepest μ n t)) (most_values (w.weight X μ) pairs)

-- The measure of an array is the largest of its values'.
abbrev pub the_weighed : {g : Former {0}} → Weighed g → Weighed (the_former g)
the_weighed w = record {
  weight = λ X μ a. most (w.weight X μ) (values_of a.pairs);
  puts = λ X μ a. pairs_puts w X μ a.pairs;
}

-- The array without pairs holds no value.
pub the_empty : Array ⊥
the_empty = record { pairs = []; next_key = 0 }

-- ---- values

-- the values, in the order of the pairs
abbrev pub the_items : (X : Type 0) → Array X → List X
the_items X a = values_of a.pairs

-- Pairs hold their values.
pairs_listed : (X : Type 0) (pairs : List (Key × X))
    → listed _ (children (list (entry this)) X pairs) ≡ values_of pairs
pairs_listed X [] = refl
pairs_listed X (p ∷ pairs) = ap (λ values. p.1 ∷ values) (pairs_listed X pairs)

-- An array holds the values of its pairs.
pub the_items_listed : (X : Type 0) (a : Array X) → listed _ (children (the_former this) X a) ≡ the_items X a
the_items_listed X a = pairs_listed X a.pairs

-- ---- places

-- the fields of a map, with the values that they hold
abbrev fields : Former {0}
fields =
    via (pair (const (List Key))
    (pair (vec.the_former this Global) (const ℕ))) Inside
    (λ X m. (m.keys, (m.values, m.next))) (λ X parts. record { keys = parts.0; values = parts.1.0; next = parts.1.1 })
    (λ X m. refl) (λ X parts. refl)

-- the pair with a function applied to its value
abbrev on_value : {X Y : Type 0} → (X → Y) → Key × X → Key × Y
on_value h p = (p.0, h p.1)

-- A function on the values goes along the pairs.
zip-map : {X Y : Type 0} (h : X → Y) (keys : List Key) (values : List X)
    → zip keys (map h values) ≡ map (on_value h) (zip keys values)
zip-map h [] values = refl
zip-map h (k ∷ keys) [] = refl
zip-map h (k ∷ keys) (v ∷ values) = ap (λ pairs. (k, h v) ∷ pairs) (zip-map h keys values)

-- Pairs hold what the values at the same places hold.
held-zip : (X : Type 0) (keys : List Key) (values : List X) → length values ≡ length keys
    → held (list (entry this)) X (zip keys values) ≡ held (list this) X values
held-zip X [] [] e = refl
held-zip X [] (v ∷ values) e = absurd (omega arith)
held-zip X (k ∷ keys) [] e = absurd (omega arith)
held-zip X (k ∷ keys) (v ∷ values) e =
    ap (λ (r : (n : Count) × Row X n). (one_more r.0, (v, r.1))) (held-zip X keys values (omega arith))

-- That columns make an array has one proof.
MakeArray-prop : {V : Type 0} (keys : List Key) (values : List V) (next : ℕ) → IsProp (MakeArray keys values next)
MakeArray-prop keys values next p q i = record {
  same_length = ℕ_set _ _ p.same_length q.same_length i;
  below = AllByRecursion-prop _ (λ k. le_prop) keys p.below q.below i;
  within = le_prop p.within q.within i;
}

module _ {X Y : Type 0} (h : X → Y) (keys : List Key) (values : List X) (next : ℕ) where
  -- Whether columns make an array doesn't turn on the values.
  MakeArray-map : MakeArray keys values next → MakeArray keys (map h values) next
  MakeArray-map m = record { same_length = length-map values h ∙ m.same_length; below = m.below; within = m.within }

  -- The same, back.
  MakeArray-unmap : MakeArray keys (map h values) next → MakeArray keys values next
  MakeArray-unmap m = record
      { same_length = sym (length-map values h) ∙ m.same_length; below = m.below; within = m.within }

module _ (R R' : RattleType) (h : R.Denot → R'.Denot) where
  -- It owns and lends what its values own and lend.
  pub the_places : Alike R R' h
      → Alike (contract.the_row R) (contract.the_row R') ((the_former this).map R.Denot R'.Denot h)
  the_places a =
      view_places_where fields (the_former this) view
      (λ X Y k m i. record { pairs = zip-map k m.keys m.values.items i; next_key = m.next })
      (λ X m. length m.values.items ≡ length m.keys)
      (λ X Y k m e. sym (length-map m.values.items k) ∙ e)
      (λ X m e. held-zip X m.keys m.values.items e)
      R.Denot R'.Denot h (contract.the_row R).coded (contract.the_row R').coded
      (invariant R.Denot) (invariant R'.Denot)
      (λ m. MakeArray-prop m.keys m.values.items m.next) (λ m. MakeArray-prop m.keys m.values.items m.next)
      (λ m. MakeArray-map h m.keys m.values.items m.next)
      (λ m. MakeArray-unmap h m.keys m.values.items m.next)
      (λ m make. make.same_length)
      (over (inside.the_row R)) (over (inside.the_row R'))
      (struct_places (inside.the_type R) (inside.the_type R') (λ keys. keys, (vec.mapped h, (λ next. next, tt))) _
      (λ d. refl) refl (
        (refl, (λ keys. refl, λ keys. refl)),
        (laid _ _ _ (vec.the_places global.the_row ghosts R R' h a), ((refl, (λ next. refl, λ next. refl)), tt)),
      ))

  -- Pairs are stored as their values are stored.
  pairs_recoded : Recodes R R' h → (pairs : List (Key × R.Denot))
      → (coded_list (coded× key.the_row.coded R'.coded)).code
      (map (on_value h) pairs) ≡ (coded_list (coded× key.the_row.coded R.coded)).code pairs
  pairs_recoded e pairs =
      sym (code_map (coded× key.the_row.coded R.coded).code (coded× key.the_row.coded R'.coded).code (on_value h)
      (λ p i. gcons (key.the_row.coded.code p.0) (sym (e p.1) i)) pairs)

  -- It is stored as its values are stored.
  pub the_codes_placed : Recodes R R' h
      → Recodes (contract.the_row R) (contract.the_row R') ((the_former this).map R.Denot R'.Denot h)
  the_codes_placed e a = ap (λ x. gcons x (coded_ℕ.code a.next_key)) (pairs_recoded e a.pairs)
