-- Elements of arrays, and unsets that go into them.
use Rattle.std.proofs.Common.{◌≡◌, ◌∙◌, ℕ, true, false, List, [], ◌∷◌, ◌++◌, Option, None, Some, Result, Ok, Err, refl, sym, ap}
use Rattle.std.specs.Option.{option_map, option_map_or, is_some}
use Rattle.hph_array.specs.declared.key.Key.{Key}
use Rattle.hph_array.specs.Array.{Array, get, set, unset, array_map}
use Rattle.hph_array.proofs.ArrayMapLaws.{get-array_map}
use Rattle.hph_php.specs.declared.fatal.Fatal.{Fatal}
use Rattle.hph_php.specs.Values.{Value, Null, Boolean, Int, Str, Arr, Obj, Pairs, array_of, array_value, paired}
use Rattle.hph_php.specs.State.{Heap}
use Rattle.hph_php.specs.Conversions.{and_then, map_ok, to_key}
use Rattle.hph_php.specs.Paths.{PathStep, by_key, WriteBelow, Written, around, array_for_write, left_alone, unset_below, unset_step, unset_last, unset_path}
use Rattle.hph_php.proofs.ValueLaws.{list_of_pairs, pairs_of_list}
use Rattle.hph_value.specs.declared.value.Value as code
use Rattle.hph_value.specs.declared.value.Stop.{Stop}
use Rattle.hph_value.specs.declared.value.Stop.TheVariants as stop
use Rattle.hph_value.specs.Shown.{value_of, TellsBy}
use Rattle.hph_walk.specs.declared.step.Step.{Step}
use Rattle.hph_walk.specs.declared.step.Step.TheVariants as steps
use Rattle.hph_walk.specs.Steps.{steps_of}
use Rattle.hph_walk_write.specs.declared.level.Level.{Level}
use Rattle.hph_walk_write.specs.Levels.{closed, written_in}
use Rattle.hph_walk_write.specs.Unsets.{has_pairs, element_of, IsThere, IsOpenAt, IsIn, IsLeft, IsUnsetting, Ends, left_at, place_left}
use Rattle.hph_walk_write.proofs.Closing.{closed-more, written_more}

module _ {A B : Type 0} (f : A → B) where
  pub is_some-map : (o : Option A) → is_some (option_map f o) ≡ is_some o
  is_some-map None = refl
  is_some-map (Some a) = refl

array_back : (a : Array Value) → array_of (paired a.pairs) a.next_key ≡ a
array_back a = ap (λ (ps : List (Key × Value)). record { pairs = ps; next_key = a.next_key }) (list_of_pairs a.pairs)

-- An element of an array.
pub array_element : (a : Array Value) (k : Key) → element_of (array_value a) k ≡ get a k
array_element a k = ap (λ (b : Array Value). get b k) (array_back a)

-- An element of an array in code.
pub element_shown : (m : Array code.Value) (k : Key) → element_of (array_value (array_map value_of m)) k ≡ option_map value_of (get m k)
element_shown m k = array_element (array_map value_of m) k ∙ get-array_map value_of m k

-- What is written as an array, and has pairs, is one.
pub written_array : (v : Value) (a : Array Value) → has_pairs v ≡ Ok true → array_for_write (Some v) ≡ Ok a → v ≡ array_value a
written_array Null a has is = let no : ⊥ = cc in absurd no
written_array (Boolean true) a has is = let no : ⊥ = cc in absurd no
written_array (Boolean false) a has is = let no : ⊥ = cc in absurd no
written_array (Int z) a has is = let no : ⊥ = cc in absurd no
written_array (Str bytes) a has is = let no : ⊥ = cc in absurd no
written_array (Arr pairs next_key) a has is =
    let same : array_of pairs next_key ≡ a = cc in
    ap (λ (ps : Pairs). Arr ps next_key) (sym (pairs_of_list pairs)) ∙ ap array_value same
written_array (Obj number) a has is = let no : ⊥ = cc in absurd no

module _ (heap : Heap) (within : Option ℕ) where
  -- An unset goes into an element that is there.
  unset_in : (a : Array Value) (by : Value) (key : Key) (inner : Value) (below : WriteBelow) → to_key by ≡ Ok key → get a key ≡ Some inner
      → unset_step heap within (by_key by) below (Some (array_value a)) ≡ map_ok (around (set a key)) (below (Some inner))
  unset_in a by key inner below is_key there =
      ap (λ (b : Array Value). unset_below heap within by below b) (array_back a)
      ∙ (ap (λ r. and_then r (λ k. option_map_or (λ v. map_ok (around (set a k)) (below (Some v))) (get a k) (left_alone heap within))) is_key
      ∙ ap (λ o. option_map_or (λ v. map_ok (around (set a key)) (below (Some v))) o (left_alone heap within)) there)

  pub proceeds : (value : Value) (step : PathStep) (key : Key) (level : Level) (inner : Value)
      → IsThere value step key → IsOpenAt value key level inner → IsIn heap within value step level inner
  proceeds value step key level inner there opened = record {
    unsets = λ below.
        ap (λ s. unset_step heap within s below (Some value)) there.is_step
        ∙ (ap (λ v. unset_step heap within (by_key there.by) below (Some v)) opened.is_array
        ∙ (unset_in opened.array there.by key inner below there.is_key opened.there
        ∙ ap (λ (f : Value → Value). map_ok (written_in f) (below (Some inner))) (λ i v. sym (opened.fills v) i)));
    keeps = opened.keeps;
  }

  -- An unset of an element of an array.
  pub unset_here : (value : Value) (a : Array Value) (by : Value) (key : Key) → value ≡ array_value a → to_key by ≡ Ok key
      → map_ok (left_at (Some value)) (unset_last heap within (by_key by) (Some value)) ≡ Ok (place_left heap (Some (array_value (unset a key))))
  unset_here value a by key is is_key =
      ap (λ v. map_ok (left_at (Some v)) (unset_last heap within (by_key by) (Some v))) is
      ∙ (ap (λ (b : Array Value). map_ok (left_at (Some (array_value a))) (map_ok (λ k. place_left heap (Some (array_value (unset b k)))) (to_key by))) (array_back a)
      ∙ ap (λ r. map_ok (left_at (Some (array_value a))) (map_ok (λ k. place_left heap (Some (array_value (unset a k)))) r)) is_key)

  -- An unset goes by its first step, where another is behind it.
  unset_first : (step : PathStep) (rest : List PathStep) (last : PathStep) (place : Option Value)
      → unset_path heap within (step ∷ (rest ++ last ∷ [])) place ≡ unset_step heap within step (unset_path heap within (rest ++ last ∷ [])) place
  unset_first step [] last place = refl
  unset_first step (s ∷ rest) last place = refl

  module _ (value : Value) (front : List PathStep) (last : PathStep) where
    pub unsetting_more : (levels : List Level) (inner : Value) (step : PathStep) (rest : List PathStep) (level : Level) (next : Value)
        → IsUnsetting heap within value front last levels inner (step ∷ rest) → IsIn heap within inner step level next
        → IsUnsetting heap within value front last (levels ++ level ∷ []) next rest
    unsetting_more levels inner step rest level next so_far entered = record {
      unsets =
          so_far.unsets
          ∙ (ap (map_ok (written_in (closed levels))) (unset_first step rest last (Some inner) ∙ entered.unsets (unset_path heap within (rest ++ last ∷ [])))
          ∙ written_more levels level (unset_path heap within (rest ++ last ∷ []) (Some next)));
      keeps = closed-more levels level next ∙ (ap (closed levels) entered.keeps ∙ so_far.keeps);
    }

    -- Where a step goes to nothing, nothing is done.
    pub unset_left : (levels : List Level) (inner : Value) (step : PathStep) (rest : List PathStep) (left : Value)
        → IsUnsetting heap within value front last levels inner (step ∷ rest) → IsLeft heap within inner step left
        → map_ok (left_at (Some value)) (unset_path heap within (front ++ last ∷ []) (Some value)) ≡ Ok (place_left heap (Some (closed levels left)))
    unset_left levels inner step rest left so_far stays =
        ap (map_ok (left_at (Some value)))
        (so_far.unsets
        ∙ ap (map_ok (written_in (closed levels))) (unset_first step rest last (Some inner) ∙ stays.unsets (unset_path heap within (rest ++ last ∷ []))))
        ∙ ap (λ v. Ok (place_left heap (Some v))) (sym so_far.keeps ∙ ap (closed levels) (sym stays.same))

  -- What a place has may be put in before it is closed over, or behind.
  placed_in : (c : Value → Value) (inner value : Value) (place : Option Value) → c inner ≡ value
      → option_map_or Some (option_map c place) (Some value) ≡ option_map c (option_map_or Some place (Some inner))
  placed_in c inner value None same = ap Some (sym same)
  placed_in c inner value (Some v) same = refl

  pub settled_in : (c : Value → Value) (inner value : Value) (r : Result Written Fatal) → c inner ≡ value
      → map_ok (left_at (Some value)) (map_ok (written_in c) r) ≡ map_ok (written_in c) (map_ok (left_at (Some inner)) r)
  settled_in c inner value (Ok w) same = ap (λ (p : Option Value). Ok (record { place = p; objects = w.objects })) (placed_in c inner value w.place same)
  settled_in c inner value (Err kind) same = refl

  -- Nothing is unset where nothing is set.
  pub unset_none : (path : List Step) → unset_path heap within (steps_of path) None ≡ left_alone heap within
  unset_none [] = refl
  unset_none (steps.Key key ∷ []) = refl
  unset_none (steps.End ∷ []) = refl
  unset_none (steps.Key key ∷ step ∷ rest) = refl
  unset_none (steps.End ∷ step ∷ rest) = refl

-- An unset that ends behind arrays that are open ends.
pub ends_behind : (answer : Result code.Value Stop) (value : Value) (front : List PathStep) (last : PathStep) (levels : List Level) (inner : Value)
    → ((heap : Heap) (within : Option ℕ) → IsUnsetting heap within value front last levels inner []) → Ends answer inner last
    → (heap : Heap) (within : Option ℕ)
    → TellsBy (λ left. place_left heap (Some (closed levels (value_of left)))) answer
    (map_ok (left_at (Some value)) (unset_path heap within (front ++ last ∷ []) (Some value)))
ends_behind (Ok left) value front last levels inner so_far ends heap within =
    ap (map_ok (left_at (Some value))) (so_far heap within).unsets
    ∙ (settled_in heap within (closed levels) inner value (unset_last heap within last (Some inner)) (so_far heap within).keeps
    ∙ ap (map_ok (written_in (closed levels))) (ends heap within))
ends_behind (Err (stop.Fatal kind)) value front last levels inner so_far ends heap within =
    ap (map_ok (left_at (Some value))) (so_far heap within).unsets
    ∙ (settled_in heap within (closed levels) inner value (unset_last heap within last (Some inner)) (so_far heap within).keeps
    ∙ ap (map_ok (written_in (closed levels))) (ends heap within))
ends_behind (Err stop.NoMemory) value front last levels inner so_far ends heap within = tt

-- What is told of no answer doesn't go by how an answer is seen.
pub same_end : {A B : Type 0} (f g : A → B) (stop : Stop) (given : Result B Fatal) → TellsBy f (Err stop) given → TellsBy g (Err stop) given
same_end f g (stop.Fatal kind) given told = told
same_end f g stop.NoMemory given told = tt
