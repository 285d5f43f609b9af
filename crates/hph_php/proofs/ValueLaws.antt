-- Laws of values and arrays: pairs are their list, a set is read back, and an append takes the next key.
use Rattle.std.proofs.Common.{◌≡◌, ◌≤◌, ◌+◌, ◌^◌, ◌==◌, ◌++◌, Bool, true, false, cond, List, [], ◌∷◌, Some, Ok, Err, refl, ap, sym, ◌∙◌, pos, arith, rules, true≢false}
use Rattle.std.specs.List.{IsDistinct}
use Rattle.std.specs.Map.{lookup}
use Rattle.hph_array.specs.declared.key.Key.{Key}
use Rattle.hph_array.specs.declared.key.Key.TheVariants as key
use Rattle.hph_array.specs.Key.{key_eq, key_eq_equiv}
use Rattle.hph_array.specs.Array.{put}
use Rattle.hph_array.specs.Array as array
use Rattle.hph_php.specs.declared.fatal.Fatal.TheVariants.{AppendFull}
use Rattle.hph_php.specs.Values.{Value, Null, Int, Arr, IsValue, Pairs, no_pair, pair, listed, paired}
use Rattle.hph_php.specs.Arrays.{Array, get, set, unset, append}

pub list_of_pairs : (ps : List (Key × Value)) → listed (paired ps) ≡ ps
list_of_pairs [] = refl
list_of_pairs (p ∷ ps) = ap (λ l. p ∷ l) (list_of_pairs ps)

pub pairs_of_list : (ps : Pairs) → paired (listed ps) ≡ ps
pairs_of_list no_pair = refl
pairs_of_list (pair k v rest) = ap (λ l. pair k v l) (pairs_of_list rest)

module _ {V : Type 0} where
  -- What is put at a key is found there, at the first pair.
  put_here : (k x : Key) (v w : V) (es r : List (Key × V)) (b : Bool) → key_eq k x ≡ b → lookup (key_eq k) r ≡ Some v
      → lookup (key_eq k) (cond b ((x, v) ∷ es) ((x, w) ∷ r)) ≡ Some v
  put_here k x v w es r true e ih = ap (λ c. cond c (Some v) (lookup (key_eq k) es)) e
  put_here k x v w es r false e ih = ap (λ c. cond c (Some w) (lookup (key_eq k) r)) e ∙ ih

  found : (es : List (Key × V)) (k : Key) (v : V) → lookup (key_eq k) (put es k v) ≡ Some v
  found [] k v = ap (λ c. cond c (Some v) (lookup (key_eq k) [])) (key_eq_equiv.refl k)
  found (e ∷ es) k v = put_here k e.0 v e.1 es (put es k v) (key_eq k e.0) refl (found es k v)

  -- `$a[k] = v; $a[k]` is v.
  pub get_of_set : (a : Array V) (k : Key) (v : V) → get (set a k v) k ≡ Some v
  get_of_set a k v = found a.pairs k v

  -- Where an append goes well, the pair is last, at the next key, which then is one more.
  pub append_last : (a : Array V) (v : V) → (a.next_key == 2 ^ 63) ≡ false
      → append a v ≡ Ok (record { pairs = a.pairs ++ (key.Int (pos a.next_key), v) ∷ []; next_key = a.next_key + 1 })
  append_last a v e = ap (λ b. cond b (Err AppendFull) (Ok (array.append a v))) e

  -- An unset keeps the next key.
  pub next_key_of_unset : (a : Array V) (k : Key) → (unset a k).next_key ≡ a.next_key
  next_key_of_unset a k = refl

-- ---- which values there are

greatest_int : IsValue (Int (pos 9223372036854775807))
greatest_int = refl

past_the_greatest : IsValue (Int (pos 9223372036854775808)) → ⊥
past_the_greatest h = true≢false (sym h)

-- [5 => null] with the next key 5
low_next_key : IsValue (Arr (pair (key.Int (pos 5)) Null no_pair) 5) → ⊥
low_next_key h = let low : 6 ≤ 5 = h.0.below.0 in omega (arith, low)

-- [5 => null] with the next key 6
one_pair : IsValue (Arr (pair (key.Int (pos 5)) Null no_pair) 6)
unfolding IsDistinct
one_pair =
    let below : 6 ≤ 6 = omega arith in
    let within : 6 ≤ 2 ^ 63 = omega arith in
    (record { distinct = search rules; below = (below, tt); within = within }, (refl, (tt, tt)))
