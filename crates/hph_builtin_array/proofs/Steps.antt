-- One pair, one piece or one value after another.
use Rattle.std.proofs.Common.{◌≡◌, ◌∙◌, ◌+◌, ◌++◌, ◌≤◌, ℕ, suc, zero, Bool, true, false, cond, List, [], ◌∷◌, map, fold, length, drop}
use Rattle.std.proofs.Common.{Option, None, Some, Result, Ok, Err, is_some, refl, sym, ap, append_assoc, arith}
use Rattle.std.specs.Prelude.{slice_get}
use Rattle.std.specs.Borrow.{Bor}
use Rattle.std.specs.Option.{option_copied}
use Rattle.std.specs.List.{flat_map}
use Rattle.std.specs.Map.{values_of, lookup}
use Rattle.std.proofs.Math.ListN.{drop_of_length-le}
use Rattle.hph_array.specs.declared.key.Key.{Key}
use Rattle.hph_array.specs.Key.{key_eq}
use Rattle.hph_array.specs.Array.{Array, array_map, append, get}
use Rattle.hph_php.specs.declared.fatal.Fatal.{Fatal}
use Rattle.hph_php.specs.Values.{Value, Str}
use Rattle.hph_php.specs.Builtins.{is_among, or_else, texts_of}
use Rattle.hph_php.specs.Comparison.{loosely_equal, identical}
use Rattle.hph_php.specs.Conversions.{and_then, map_ok, to_text}
use Rattle.hph_php.specs.StringFunctions.{explode, implode}
use Rattle.hph_value.specs.declared.value.Value as code
use Rattle.hph_value.specs.declared.value.Stop.{Stop}
use Rattle.hph_value.specs.declared.value.Stop.TheVariants.{Fatal as Fatally, NoMemory}
use Rattle.hph_value.specs.Shown.{value_of, TellsBy}
use Rattle.hph_builtin_array.specs.declared.lists.Side.{Side}
use Rattle.hph_builtin_array.specs.declared.lists.Side.TheVariants.{Keys, Values}
use Rattle.hph_builtin_array.specs.Sides.{shown_pairs, side_of, values_on, lead, joined_behind}

-- ---- what stands next

drop_at : {X : Type 0} (xs : List X) (i : ℕ) (x : X) → slice_get xs i ≡ Some x → drop i xs ≡ x ∷ drop (i + 1) xs
drop_at [] i x e = let no : ⊥ = cc in absurd no
drop_at (y ∷ xs) zero x e = let same : y ≡ x = cc in ap (λ z. z ∷ xs) same
drop_at (y ∷ xs) (suc i) x e =
    let more : suc i + 1 ≡ suc (i + 1) = omega arith in
    rw more (drop_at xs i x e)

pub past : {X : Type 0} (xs : List X) (i : ℕ) → slice_get xs i ≡ None → length xs ≤ i
past [] i e = omega arith
past (y ∷ xs) zero e = let no : ⊥ = cc in absurd no
past (y ∷ xs) (suc i) e = let rest : length xs ≤ i = past xs i e in omega arith

-- ---- lists

side_next : (side : Side) (p : Key × code.Value) (pairs : List (Key × code.Value))
    → values_on side (shown_pairs (p ∷ pairs)) ≡ side_of side (p.0, value_of p.1) ∷ values_on side (shown_pairs pairs)
side_next Keys p pairs = refl
side_next Values p pairs = refl

side_end : (side : Side) → values_on side [] ≡ []
side_end Keys = refl
side_end Values = refl

pub listed_next : (side : Side) (a : Array Value) (pairs : List (Key × code.Value)) (i : ℕ) (p : Key × code.Value) → slice_get pairs i ≡ Some p
    → fold append a (values_on side (shown_pairs (drop i pairs)))
    ≡ fold append (append a (side_of side (p.0, value_of p.1))) (values_on side (shown_pairs (drop (i + 1) pairs)))
listed_next side a pairs i p e =
    ap (λ l. fold append a (values_on side (shown_pairs l))) (drop_at pairs i p e)
    ∙ ap (λ l. fold append a l) (side_next side p (drop (i + 1) pairs))

pub all_listed : (side : Side) (a : Array Value) (pairs : List (Key × code.Value)) (i : ℕ) → length pairs ≤ i
    → fold append a (values_on side (shown_pairs (drop i pairs))) ≡ a
all_listed side a pairs i h =
    ap (λ l. fold append a (values_on side (shown_pairs l))) (drop_of_length-le pairs h) ∙ ap (λ l. fold append a l) (side_end side)

pub piece_next : (a : Array Value) (separator bytes front rest : List ℕ) → explode separator bytes ≡ front ∷ explode separator rest
    → fold append a (map Str (explode separator bytes)) ≡ fold append (append a (Str front)) (map Str (explode separator rest))
piece_next a separator bytes front rest e = ap (λ l. fold append a (map Str l)) e

pub last_piece : (a : Array Value) (separator bytes : List ℕ) → explode separator bytes ≡ bytes ∷ []
    → fold append a (map Str (explode separator bytes)) ≡ append a (Str bytes)
last_piece a separator bytes e = ap (λ l. fold append a (map Str l)) e

-- ---- members

abbrev pub test : Bool → Value → Value → Result Bool Fatal
test strict x y = cond strict (Ok (identical x y)) (loosely_equal x y)

pub among_next : (strict : Bool) (v : Value) (pairs : List (Key × code.Value)) (i : ℕ) (p : Key × code.Value) → slice_get pairs i ≡ Some p
    → is_among strict v (values_of (shown_pairs (drop i pairs)))
    ≡ or_else (test strict v (value_of p.1)) (is_among strict v (values_of (shown_pairs (drop (i + 1) pairs))))
among_next strict v pairs i p e = ap (λ l. is_among strict v (values_of (shown_pairs l))) (drop_at pairs i p e)

pub among_none : (strict : Bool) (v : Value) (pairs : List (Key × code.Value)) (i : ℕ) → length pairs ≤ i
    → is_among strict v (values_of (shown_pairs (drop i pairs))) ≡ Ok false
among_none strict v pairs i h = ap (λ l. is_among strict v (values_of (shown_pairs l))) (drop_of_length-le pairs h)

pub first_true : (test rest all : Result Bool Fatal) (b : Bool) → test ≡ Ok b → b ≡ true → or_else test rest ≡ all → all ≡ Ok true
first_true test rest all b e t g = sym g ∙ ap (λ r. or_else r rest) (e ∙ ap (λ x. Ok x) t)

pub first_false : (test rest all : Result Bool Fatal) (b : Bool) → test ≡ Ok b → b ≡ false → or_else test rest ≡ all → rest ≡ all
first_false test rest all b e t g = sym (ap (λ r. or_else r rest) (e ∙ ap (λ x. Ok x) t)) ∙ g

-- a first test that stops
pub test_stops : (stop : Stop) (first rest all : Result Bool Fatal) → TellsBy (λ (b : Bool). b) (Err stop) first → or_else first rest ≡ all
    → TellsBy (λ (b : Bool). b) (Err stop) all
test_stops (Fatally kind) first rest all t e = sym e ∙ ap (λ r. or_else r rest) t
test_stops NoMemory first rest all t e = tt

module _ {V W : Type 0} (f : V → W) where
  pub there_map : (pairs : List (Key × V)) (key : Key) → is_some (lookup (key_eq key) (map (λ p. (p.0, f p.1)) pairs)) ≡ is_some (lookup (key_eq key) pairs)
  there_map [] key = refl
  there_map (p ∷ pairs) key =
      elim (key_eq key p.0) as (λ t. is_some (cond t (Some (f p.1)) (lookup (key_eq key) (map (λ p. (p.0, f p.1)) pairs))) ≡ is_some (cond t (Some p.1) (lookup (key_eq key) pairs))) [
        | true ↦ refl
        | false ↦ there_map pairs key
      ]

some_copied : (o : Option (Bor code.Value)) → is_some (option_copied o) ≡ is_some o
some_copied None = refl
some_copied (Some v) = refl

pub has_shown : (o : Option (Bor code.Value)) (b : Bool) (key : Key) (given : Result Key Fatal) (a : Array code.Value) → given ≡ Ok key → option_copied o ≡ get a key → b ≡ is_some o
    → map_ok (λ k. is_some (get (array_map value_of a) k)) given ≡ Ok b
has_shown o b key given a e g t =
    ap (λ r. map_ok (λ k. is_some (get (array_map value_of a) k)) r) e
    ∙ ap (λ x. Ok x) (there_map value_of a.pairs key ∙ (ap is_some (sym g) ∙ (some_copied o ∙ sym t)))

-- ---- texts

nothing_behind : (text : List ℕ) → text ++ [] ≡ text
nothing_behind [] = refl
nothing_behind (b ∷ bs) = ap (λ l. b ∷ l) (nothing_behind bs)

first_text : (separator text : List ℕ) (given : Result (List ℕ) Fatal) (rest : Result (List (List ℕ)) Fatal)
    → map_ok (λ texts. text ++ implode separator texts) (and_then given (λ more. map_ok (λ texts. more ∷ texts) rest))
    ≡ and_then (map_ok (λ more. (text ++ []) ++ more) given) (λ all. map_ok (λ texts. all ++ flat_map (λ more. separator ++ more) texts) rest)
first_text separator text (Err fatal) rest = refl
first_text separator text (Ok more) (Err fatal) = refl
first_text separator text (Ok more) (Ok texts) =
    ap (λ l. Ok l) (sym (append_assoc text more (flat_map (λ m. separator ++ m) texts))
    ∙ ap (λ l. (l ++ more) ++ flat_map (λ m. separator ++ m) texts) (sym (nothing_behind text)))

later_text : (separator text : List ℕ) (given : Result (List ℕ) Fatal) (rest : Result (List (List ℕ)) Fatal)
    → map_ok (λ texts. text ++ flat_map (λ more. separator ++ more) texts) (and_then given (λ more. map_ok (λ texts. more ∷ texts) rest))
    ≡ and_then (map_ok (λ more. (text ++ separator) ++ more) given) (λ all. map_ok (λ texts. all ++ flat_map (λ more. separator ++ more) texts) rest)
later_text separator text (Err fatal) rest = refl
later_text separator text (Ok more) (Err fatal) = refl
later_text separator text (Ok more) (Ok texts) =
    let behind : List ℕ = flat_map (λ m. separator ++ m) texts in
    ap (λ l. Ok l) (ap (λ l. text ++ l) (append_assoc separator more behind)
    ∙ (sym (append_assoc text separator (more ++ behind))
    ∙ sym (append_assoc (text ++ separator) more behind)))

both_texts : (separator text : List ℕ) (i : ℕ) (v : Value) (vs : List Value)
    → joined_behind separator text i (v ∷ vs)
    ≡ and_then (map_ok (λ more. (text ++ lead separator i) ++ more) (to_text v)) (λ all. joined_behind separator all (suc i) vs)
both_texts separator text zero v vs = first_text separator text (to_text v) (texts_of vs)
both_texts separator text (suc i) v vs = later_text separator text (to_text v) (texts_of vs)

pub text_next : (separator text : List ℕ) (pairs : List (Key × code.Value)) (i : ℕ) (p : Key × code.Value) → slice_get pairs i ≡ Some p
    → joined_behind separator text i (values_of (shown_pairs (drop i pairs)))
    ≡ and_then (map_ok (λ more. (text ++ lead separator i) ++ more) (to_text (value_of p.1)))
    (λ all. joined_behind separator all (i + 1) (values_of (shown_pairs (drop (i + 1) pairs))))
text_next separator text pairs i p e =
    let next : suc i ≡ i + 1 = omega arith in
    ap (λ l. joined_behind separator text i (values_of (shown_pairs l))) (drop_at pairs i p e)
    ∙ (both_texts separator text i (value_of p.1) (values_of (shown_pairs (drop (i + 1) pairs)))
    ∙ ap (λ n. and_then (map_ok (λ more. (text ++ lead separator i) ++ more) (to_text (value_of p.1))) (λ all. joined_behind separator all n (values_of (shown_pairs (drop (i + 1) pairs))))) next)

pub no_text : (separator text : List ℕ) (pairs : List (Key × code.Value)) (i : ℕ) → length pairs ≤ i
    → joined_behind separator text i (values_of (shown_pairs (drop i pairs))) ≡ Ok text
no_text separator text pairs i h = ap (λ l. joined_behind separator text i (values_of (shown_pairs l))) (drop_of_length-le pairs h) ∙ at_end i
  where
    at_end : (n : ℕ) → joined_behind separator text n [] ≡ Ok text
    at_end zero = ap (λ l. Ok l) (nothing_behind text)
    at_end (suc n) = ap (λ l. Ok l) (nothing_behind text)

-- a step that stops
pub step_goes : {A B : Type 0} (given : Result A Fatal) (a : A) (go : A → Result B Fatal) (all : Result B Fatal) → given ≡ Ok a → and_then given go ≡ all → go a ≡ all
step_goes given a go all e g = sym (ap (λ r. and_then r go) e) ∙ g

pub step_stops : {A B : Type 0} (stop : Stop) (given : Result A Fatal) (go : A → Result B Fatal) (all : Result B Fatal)
    → TellsBy (λ (a : A). a) (Err stop) given → and_then given go ≡ all → TellsBy (λ (b : B). b) (Err stop) all
step_stops (Fatally kind) given go all t e = sym e ∙ ap (λ r. and_then r go) t
step_stops NoMemory given go all t e = tt
