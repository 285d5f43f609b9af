-- Arrays and their pairs, as values in code have them and as the definitions do.
use Rattle.std.proofs.Common.{◌≡◌, ◌∙◌, ◌+◌, ℕ, zero, suc, Bool, true, false, cond, List, [], ◌∷◌, map, drop, Option, None, Some, Result, Ok, Err, max, refl, ap, sym, add-one}
use Rattle.std.specs.Prelude.{slice_get}
use Rattle.hph_array.specs.declared.key.Key.{Key}
use Rattle.hph_array.specs.Key.{key_eq, number_after}
use Rattle.hph_array.specs.Array.{Array, array_map, put, set}
use Rattle.hph_php.specs.declared.fatal.Fatal.{Fatal}
use Rattle.hph_php.specs.Values.{Value, paired, listed, array_of, array_value}
use Rattle.hph_php.specs.Conversions.{map_ok, to_key}
use Rattle.hph_php.specs.Operations.{with_key}
use Rattle.hph_php.specs.Statements.{turns_of}
use Rattle.hph_effects.specs.Hosts.{HostState, Held, an_item, an_iterator, Replied, misuse, done, push_item, settled}
use Rattle.hph_effects.specs.Values.{with_element}
use Rattle.hph_effects.specs.Holds.{copied}
use Rattle.hph_value.specs.declared.value.Value as code
use Rattle.hph_value.specs.declared.value.Elements.{Elements}
use Rattle.hph_value.specs.Shown.{value_of}
use Rattle.hph_value.proofs.Shown.{arr_shown}
use Rattle.hph_host_state.specs.declared.item.Item.{Item}
use Rattle.hph_host_state.specs.declared.item.Held as code_held
use Rattle.hph_host_state.specs.declared.item.Held.TheVariants as held
use Rattle.hph_host_state.specs.declared.item.Turns.{Turns}
use Rattle.hph_host_state.specs.declared.item.Turns.TheVariants.{Over}
use Rattle.hph_host_state.specs.declared.state.State.{State}
use Rattle.hph_wasm.specs.Configuration.{Goes}
use Rattle.hph_php.specs.Conversions.{value_of_key}
use Rattle.hph_effects.specs.Hosts.{Serving, a_value, hold_on}
use Rattle.hph_effects.specs.Holds.{next}
use Rattle.hph_host_state.specs.States.{item_of, left, held_of, seen}

listed_paired : (pairs : List (Key × Value)) → listed (paired pairs) ≡ pairs
listed_paired [] = refl
listed_paired (p ∷ pairs) = ap (λ l. p ∷ l) (listed_paired pairs)

array_back : (a : Array Value) → array_of (paired a.pairs) a.next_key ≡ a
array_back a = ap (λ (l : List (Key × Value)). record { pairs = l; next_key = a.next_key }) (listed_paired a.pairs)

-- What a rule makes of an array is pushed.
pub element_told : (go : Array Value → Result (Array Value) Fatal) (v : Value) (a : Array Value) (h : HostState)
    → v ≡ array_value a → with_element go v h ≡ settled (map_ok array_value (go a)) h
element_told go v a h is = ap (λ w. with_element go w h) is ∙ ap (λ b. settled (map_ok array_value (go b)) h) (array_back a)

module _ {V W : Type 0} (f : V → W) where
  put_map : (pairs : List (Key × V)) (key : Key) (v : V) → put (map (λ p. (p.0, f p.1)) pairs) key (f v) ≡ map (λ p. (p.0, f p.1)) (put pairs key v)
  put_map [] key v = refl
  put_map (p ∷ pairs) key v =
      elim (key_eq key p.0) as (λ t. cond t ((p.0, f v) ∷ map (λ p. (p.0, f p.1)) pairs) ((p.0, f p.1) ∷ put (map (λ p. (p.0, f p.1)) pairs) key (f v))
      ≡ map (λ p. (p.0, f p.1)) (cond t ((p.0, v) ∷ pairs) (p ∷ put pairs key v))) [
        | true ↦ refl
        | false ↦ ap (λ l. (p.0, f p.1) ∷ l) (put_map pairs key v)
      ]

  set_map : (a : Array V) (key : Key) (v : V) → set (array_map f a) key (f v) ≡ array_map f (set a key v)
  set_map a key v = ap (λ (l : List (Key × W)). record { pairs = l; next_key = max a.next_key (number_after key) }) (put_map a.pairs key v)

-- An element at a key is set in code as by the rule.
pub set_told : (k : Value) (key : Key) (v : code.Value) (a m : Array code.Value) (r : Value)
    → to_key k ≡ Ok key → m ≡ set a key v → r ≡ array_value (array_map value_of m)
    → map_ok array_value (with_key k (value_of v) (array_map value_of a)) ≡ Ok r
set_told k key v a m r is_key is_set is =
    ap (λ t. map_ok array_value (map_ok (λ key. set (array_map value_of a) key (value_of v)) t)) is_key
    ∙ (ap (λ (b : Array Value). Ok (array_value b)) (set_map value_of a key v)
    ∙ (ap (λ (b : Array code.Value). Ok (array_value (array_map value_of b))) (sym is_set) ∙ ap Ok (sym is)))

-- The turns over an array are its pairs.
pub turns_shown : (a : Elements code.Value) → turns_of (value_of (code.Arr a)) ≡ Ok (array_map value_of a.map).pairs
turns_shown a = ap turns_of (arr_shown a) ∙ ap Ok (listed_paired (array_map value_of a.map).pairs)

-- ---- what is held last

pub held_item : (holds : List code_held.Held) (item : Item) (h : HostState) → Some (held.Item item) ≡ slice_get holds 0
    → copied (map held_of holds) h ≡ done (push_item (item_of item) h)
held_item [] item h is = let no : ⊥ = cc in absurd no
held_item (x ∷ holds) item h is = let same : x ≡ held.Item item = cc in ap (λ y. copied (held_of y ∷ map held_of holds) h) same

pub held_loop : (holds : List code_held.Held) (turns : Turns) (h : HostState) → Some (held.Loop turns) ≡ slice_get holds 0
    → copied (map held_of holds) h ≡ misuse h
held_loop [] turns h is = let no : ⊥ = cc in absurd no
held_loop (x ∷ holds) turns h is = let same : x ≡ held.Loop turns = cc in ap (λ y. copied (held_of y ∷ map held_of holds) h) same

pub held_nothing : (holds : List code_held.Held) (h : HostState) → None ≡ slice_get holds 0 → copied (map held_of holds) h ≡ misuse h
held_nothing [] h is = refl
held_nothing (x ∷ holds) h is = let no : ⊥ = cc in absurd no

-- ---- pairs that are left

module _ {A B : Type 0} (f : A → B) where
  pub next_left : (xs : List A) (at : ℕ) (x : A) → slice_get xs at ≡ Some x → drop at (map f xs) ≡ f x ∷ drop (suc at) (map f xs)
  next_left [] at x is = let no : ⊥ = cc in absurd no
  next_left (y ∷ xs) zero x is = let same : y ≡ x = cc in ap (λ z. f z ∷ map f xs) same
  next_left (y ∷ xs) (suc at) x is = next_left xs at x is

  pub none_left : (xs : List A) (at : ℕ) → slice_get xs at ≡ None → drop at (map f xs) ≡ []
  none_left [] zero is = refl
  none_left [] (suc at) is = refl
  none_left (y ∷ xs) zero is = let no : ⊥ = cc in absurd no
  none_left (y ∷ xs) (suc at) is = none_left xs at is

-- ---- turns of a loop

pair_of : Key × code.Value → Key × Value
pair_of pair = (pair.0, value_of pair.1)

-- A pair that is there is the next one, and the others are behind it.
pub turn_left : (elements : Elements code.Value) (at : ℕ) (key : Key) (value : code.Value) → Some (key, value) ≡ slice_get elements.map.pairs at
    → left (Over elements at) ≡ (key, value_of value) ∷ left (Over elements (at + 1))
unfolding pair_of
turn_left elements at key value is =
    next_left pair_of elements.map.pairs at (key, value) (sym is) ∙ ap (λ n. (key, value_of value) ∷ drop n (map pair_of elements.map.pairs)) (sym (add-one at))

pub turns_end : (elements : Elements code.Value) (at : ℕ) → None ≡ slice_get elements.map.pairs at → left (Over elements at) ≡ []
unfolding pair_of
turns_end elements at is = none_left pair_of elements.map.pairs at (sym is)

-- A loop is held again, and its pair is put on the stack.
pub turn_taken : (old first second : State) (rest : Turns) (holds : List code_held.Held) (key value : code.Value) (k : Key) (out : List ℕ)
    → holds ≡ held.Loop rest ∷ old.holds
    → seen out first ≡ push_item (a_value (value_of key)) (seen out (record old { holds = holds }))
    → seen out second ≡ push_item (a_value (value_of value)) (seen out first)
    → value_of key ≡ value_of_key k
    → next (hold_on (an_iterator ((k, value_of value) ∷ left rest)) (seen out old)) ≡ Goes (Serving (seen out second)) (Some 1)
turn_taken old first second rest holds key value k out held_so put_key put_value is =
    ap (λ h. Goes (Serving h) (Some 1)) (sym (put_value ∙ ap (push_item (a_value (value_of value)))
    (put_key ∙ (ap (λ v. push_item (a_value v) (seen out (record old { holds = holds }))) is
    ∙ ap (λ hs. push_item (a_value (value_of_key k)) (seen out (record old { holds = hs }))) held_so))))
