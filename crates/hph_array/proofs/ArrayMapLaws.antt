-- The operations go along a function on the values: what they give is that of the array of its answers.
use Rattle.std.proofs.Common.{◌≡◌, ℕ, Bool, true, false, cond, List, [], ◌∷◌, ◌++◌, map, Option, None, Some}
use Rattle.std.proofs.Common.{refl, ap, ◌∙◌, pos}
use Rattle.std.specs.Map.{lookup, remove_entry, set_value}
use Rattle.std.specs.Option.{option_map, option_map_or}
use Rattle.hph_array.specs.declared.key.Key.{Key}
use Rattle.hph_array.specs.declared.key.Key.TheVariants.{Int}
use Rattle.hph_array.specs.Key.{key_eq}
use Rattle.hph_array.specs.Array.{Array, get, put, set, append, unset, replace, last, front, pop, fallen, array_map}
use Rattle.hph_array.proofs.MapSteps.{same_array}

module _ {V W : Type 0} (f : V → W) where
  -- the pair with the function applied to its value
  abbrev on_pair : Key × V → Key × W
  on_pair pair = (pair.0, f pair.1)

  -- A choice of values goes along the function.
  got : (b : Bool) (v : V) (r : Option W) (s : Option V) → r ≡ option_map f s
      → cond b (Some (f v)) r ≡ option_map f (cond b (Some v) s)
  got true v r s e = refl
  got false v r s e = e

  -- A look-up goes along the function.
  lookup-map : (test : Key → Bool) (es : List (Key × V))
      → lookup test (map on_pair es) ≡ option_map f (lookup test es)
  lookup-map test [] = refl
  lookup-map test (e ∷ es) = got (test e.0) e.1 (lookup test (map on_pair es)) (lookup test es) (lookup-map test es)

  -- `get` of an array of answers.
  pub get-array_map : (a : Array V) (k : Key) → get (array_map f a) k ≡ option_map f (get a k)
  get-array_map a k = lookup-map (key_eq k) a.pairs

  -- A choice of pairs goes along the function.
  chosen : (b : Bool) (x y : List (Key × V)) (r s : List (Key × W)) → r ≡ map on_pair x → s ≡ map on_pair y
      → cond b r s ≡ map on_pair (cond b x y)
  chosen true x y r s e g = e
  chosen false x y r s e g = g

  -- A put goes along the function.
  put-map : (es : List (Key × V)) (k : Key) (v : V) → put (map on_pair es) k (f v) ≡ map on_pair (put es k v)
  put-map [] k v = refl
  put-map (e ∷ es) k v =
      chosen (key_eq k e.0) ((e.0, v) ∷ es) (e ∷ put es k v) _ (on_pair e ∷ put (map on_pair es) k (f v)) refl
      (ap (λ l. on_pair e ∷ l) (put-map es k v))

  -- `set` of an array of answers.
  pub set-array_map : (a : Array V) (k : Key) (v : V) → set (array_map f a) k (f v) ≡ array_map f (set a k v)
  set-array_map a k v = same_array _ _ _ _ (put-map a.pairs k v) refl

  -- A pair put last goes along the function.
  map-push : (es : List (Key × V)) (p : Key × V) → map on_pair es ++ on_pair p ∷ [] ≡ map on_pair (es ++ p ∷ [])
  map-push [] p = refl
  map-push (e ∷ es) p = ap (λ l. on_pair e ∷ l) (map-push es p)

  -- `append` to an array of answers.
  pub append-array_map : (a : Array V) (v : V) → append (array_map f a) (f v) ≡ array_map f (append a v)
  append-array_map a v = same_array _ _ _ _ (map-push a.pairs (Int (pos a.next_key), v)) refl

  -- A removal goes along the function.
  remove_entry-map : (test : Key → Bool) (es : List (Key × V))
      → remove_entry test (map on_pair es) ≡ map on_pair (remove_entry test es)
  remove_entry-map test [] = refl
  remove_entry-map test (e ∷ es) =
      chosen (test e.0) es (e ∷ remove_entry test es) _ (on_pair e ∷ remove_entry test (map on_pair es)) refl
      (ap (λ l. on_pair e ∷ l) (remove_entry-map test es))

  -- `unset` of an array of answers.
  pub unset-array_map : (a : Array V) (k : Key) → unset (array_map f a) k ≡ array_map f (unset a k)
  unset-array_map a k = same_array _ _ _ _ (remove_entry-map (key_eq k) a.pairs) refl

  -- A replacement goes along the function.
  set_value-map : (test : Key → Bool) (es : List (Key × V)) (v : V)
      → set_value test (map on_pair es) (f v) ≡ map on_pair (set_value test es v)
  set_value-map test [] v = refl
  set_value-map test (e ∷ es) v =
      chosen (test e.0) ((e.0, v) ∷ es) (e ∷ set_value test es v) _
      (on_pair e ∷ set_value test (map on_pair es) (f v)) refl (ap (λ l. on_pair e ∷ l) (set_value-map test es v))

  -- `replace` in an array of answers.
  pub replace-array_map : (a : Array V) (k : Key) (v : V)
      → replace (array_map f a) k (f v) ≡ array_map f (replace a k v)
  replace-array_map a k v = same_array _ _ _ _ (set_value-map (key_eq k) a.pairs v) refl

  -- `last` of pairs of answers.
  pub last-map : (es : List (Key × V)) → last (map on_pair es) ≡ option_map on_pair (last es)
  last-map [] = refl
  last-map (e ∷ []) = refl
  last-map (e ∷ second ∷ es) = last-map (second ∷ es)

  -- The pairs before the last go along the function.
  front-map : (es : List (Key × V)) → front (map on_pair es) ≡ map on_pair (front es)
  front-map [] = refl
  front-map (e ∷ []) = refl
  front-map (e ∷ second ∷ es) = ap (λ l. on_pair e ∷ l) (front-map (second ∷ es))

  -- The next key after a pop asks for the key alone.
  fallen_by : (next : ℕ) (o : Option (Key × V))
      → option_map_or (λ pair. fallen next pair.0) (option_map on_pair o) next ≡ option_map_or
      (λ pair. fallen next pair.0) o next
  fallen_by next None = refl
  fallen_by next (Some p) = refl

  -- `pop` of an array of answers.
  pub pop-array_map : (a : Array V) → pop (array_map f a) ≡ array_map f (pop a)
  pop-array_map a = same_array _ _ _ _ (front-map a.pairs)
      (ap (λ o. option_map_or (λ pair. fallen a.next_key pair.0) o a.next_key) (last-map a.pairs)
      ∙ fallen_by a.next_key (last a.pairs))
