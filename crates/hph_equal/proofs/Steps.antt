-- One pair after another.
use Rattle.std.proofs.Common.{◌≡◌, ◌∙◌, ◌+◌, ◌<◌, ◌==◌, ◌&&◌, ℕ, suc, zero, Bool, true, false, cond, List, [], ◌∷◌, map, length, drop}
use Rattle.std.proofs.Common.{None, Some, Result, Ok, Err, refl, sym, ap, arith}
use Rattle.std.specs.Prelude.{slice_get}
use Rattle.std.specs.Option.{option_map}
use Rattle.std.specs.Map.{lookup}
use Rattle.std.proofs.lemmas.Bool.{ne_eqb, eq-eqb}
use Rattle.hph_array.specs.declared.key.Key.{Key}
use Rattle.hph_array.specs.Key.{key_eq}
use Rattle.hph_array.specs.Array.{Array, array_map, get}
use Rattle.hph_php.specs.declared.fatal.Fatal.{Fatal}
use Rattle.hph_php.specs.Values.{Value, Null, Boolean, Int, Str, Arr, Obj, Pairs, paired, listed, array_value}
use Rattle.hph_php.specs.Comparison.{loosely_equal, each_in, identical, same_pairs, and_also, is_there, by_order}
use Rattle.hph_php.specs.Conversions.{map_ok}
use Rattle.hph_value.specs.declared.value.Value as code
use Rattle.hph_value.specs.Shown.{value_of}
use Rattle.hph_value.proofs.Shown as values
use Rattle.hph_equal.specs.declared.frame.Equality.{Equality}
use Rattle.hph_equal.specs.declared.frame.Equality.TheVariants.{Loose, Strict}
use Rattle.hph_equal.specs.declared.equal.Outcome.TheVariants.{Known}
use Rattle.hph_equal.specs.Frames.{equal_by, is_array, pairs_shown, left_of, nodes, nodes_in, size_of, AreNext, Answers}

pub ruleset shown = (values.null_shown, values.bool_shown, values.int_shown, values.str_shown, values.obj_shown, values.arr_shown)

-- ---- values that are not both arrays

pub by_order_apart : (a b : Value) → (is_array a && is_array b) ≡ false → by_order a b ≡ loosely_equal a b
by_order_apart Null b e = refl
by_order_apart (Boolean x) b e = refl
by_order_apart (Int x) b e = refl
by_order_apart (Str x) b e = refl
by_order_apart (Obj x) b e = refl
by_order_apart (Arr xs n) (Arr ys m) e = let no : ⊥ = cc in absurd no
by_order_apart (Arr xs n) Null e = refl
by_order_apart (Arr xs n) (Boolean y) e = refl
by_order_apart (Arr xs n) (Int y) e = refl
by_order_apart (Arr xs n) (Str y) e = refl
by_order_apart (Arr xs n) (Obj y) e = refl

pub not_identical : (xs : Pairs) (n : ℕ) (b : Value) → is_array b ≡ false → identical (Arr xs n) b ≡ false
not_identical xs n (Arr ys m) e = let no : ⊥ = cc in absurd no
not_identical xs n Null e = refl
not_identical xs n (Boolean y) e = refl
not_identical xs n (Int y) e = refl
not_identical xs n (Str y) e = refl
not_identical xs n (Obj y) e = refl

pub right_apart : (a b : Value) → is_array b ≡ false → (is_array a && is_array b) ≡ false
right_apart a b e = rw e (elim (is_array a) as (λ t. (t && false) ≡ false) [ true ↦ refl | false ↦ refl ])

pub left_apart : (a b : Value) → is_array a ≡ false → (is_array a && is_array b) ≡ false
left_apart a b e = rw e refl

pub known_answers : (equality : Equality) (answer : Result Bool Fatal) (a b : Value) → answer ≡ equal_by equality a b → Answers equality (map_ok Known answer) a b
known_answers equality (Ok equal) a b e = sym e
known_answers equality (Err fatal) a b e = sym e

-- ---- lists of pairs

listed_paired : (pairs : List (Key × Value)) → listed (paired pairs) ≡ pairs
listed_paired [] = refl
listed_paired (p ∷ pairs) = ap (λ l. p ∷ l) (listed_paired pairs)

count_shown : (xs : List (Key × code.Value)) → length (listed (pairs_shown xs)) ≡ length xs
count_shown [] = refl
count_shown (x ∷ xs) = ap suc (count_shown xs)

drop_none : {A : Type 0} (xs : List A) → drop 0 xs ≡ xs
drop_none [] = refl
drop_none (x ∷ xs) = refl

drop_at : {A : Type 0} (xs : List A) (i : ℕ) (x : A) → slice_get xs i ≡ Some x → drop i xs ≡ x ∷ drop (i + 1) xs
drop_at [] i x e = let no : ⊥ = cc in absurd no
drop_at (y ∷ xs) zero x e = let same : y ≡ x = cc in ap (λ z. z ∷ xs) same ∙ ap (λ l. x ∷ l) (sym (drop_none xs))
drop_at (y ∷ xs) (suc i) x e =
    let more : suc i + 1 ≡ suc (i + 1) = omega arith in
    rw more (drop_at xs i x e)

drop_past : {A : Type 0} (xs : List A) (i : ℕ) → slice_get xs i ≡ None → drop i xs ≡ []
drop_past [] zero e = refl
drop_past [] (suc i) e = refl
drop_past (y ∷ xs) zero e = let no : ⊥ = cc in absurd no
drop_past (y ∷ xs) (suc i) e = drop_past xs i e

place_within : {A : Type 0} (xs : List A) (i : ℕ) (x : A) → slice_get xs i ≡ Some x → i < length xs
place_within [] i x e = let no : ⊥ = cc in absurd no
place_within (y ∷ xs) zero x e = omega arith
place_within (y ∷ xs) (suc i) x e = omega (arith, place_within xs i x e)

get_shown : (pairs : List (Key × code.Value)) (key : Key)
    → lookup (key_eq key) (map (λ pair. (pair.0, value_of pair.1)) pairs) ≡ option_map value_of (lookup (key_eq key) pairs)
get_shown [] key = refl
get_shown (p ∷ pairs) key =
    elim (key_eq key p.0) as (λ t. cond t (Some (value_of p.1)) (lookup (key_eq key) (map (λ pair. (pair.0, value_of pair.1)) pairs)) ≡ option_map value_of (cond t (Some p.1) (lookup (key_eq key) pairs))) [
      | true ↦ refl
      | false ↦ get_shown pairs key
    ]

-- ---- two arrays

count_test : (xs ys : List (Key × code.Value)) → (length (listed (pairs_shown xs)) == length (listed (pairs_shown ys))) ≡ (length xs == length ys)
count_test xs ys = (λ i. count_shown xs i == count_shown ys i)

loosely_arrays : (x y : Array code.Value) → loosely_equal (array_value (array_map value_of x)) (array_value (array_map value_of y))
    ≡ cond (length x.pairs == length y.pairs) (left_of Loose x y 0) (Ok false)
loosely_arrays x y =
    (λ i. cond (count_test x.pairs y.pairs i) (each_in (pairs_shown (sym (drop_none x.pairs) i)) (record { pairs = listed_paired (array_map value_of y).pairs i; next_key = y.next_key })) (Ok false))

other_count : (xs ys : List (Key × code.Value)) → (length xs ≡ length ys → ⊥) → same_pairs (pairs_shown xs) (pairs_shown ys) ≡ false
other_count [] [] other = absurd (other refl)
other_count [] (y ∷ ys) other = refl
other_count (x ∷ xs) [] other = refl
other_count (x ∷ xs) (y ∷ ys) other =
    let below : same_pairs (pairs_shown xs) (pairs_shown ys) ≡ false = other_count xs ys (λ e. other (ap suc e)) in
    rw below (never (key_eq x.0 y.0) (identical (value_of x.1) (value_of y.1)))
  where
    never : (t s : Bool) → (t && (s && false)) ≡ false
    never false s = refl
    never true false = refl
    never true true = refl

pub arrays_differ : (equality : Equality) (x y : Array code.Value) (a b : Value) → a ≡ array_value (array_map value_of x) → b ≡ array_value (array_map value_of y)
    → (length x.pairs ≡ length y.pairs → ⊥) → equal_by equality a b ≡ Ok false
arrays_differ Loose x y a b p q other =
    (λ i. loosely_equal (p i) (q i)) ∙ loosely_arrays x y
    ∙ ap (λ t. cond t (left_of Loose x y 0) (Ok false)) (ne_eqb (length x.pairs) (length y.pairs) other)
arrays_differ Strict x y a b p q other = (λ i. Ok (identical (p i) (q i))) ∙ ap Ok (other_count x.pairs y.pairs other)

pub arrays_answer : (equality : Equality) (x y : Array code.Value) (a b : Value) → a ≡ array_value (array_map value_of x) → b ≡ array_value (array_map value_of y)
    → length x.pairs ≡ length y.pairs → equal_by equality a b ≡ left_of equality x y 0
arrays_answer Loose x y a b p q same =
    (λ i. loosely_equal (p i) (q i)) ∙ loosely_arrays x y
    ∙ ap (λ t. cond t (left_of Loose x y 0) (Ok false)) (eq-eqb (length x.pairs) (length y.pairs) same)
arrays_answer Strict x y a b p q same =
    (λ i. Ok (identical (p i) (q i)))
    ∙ (λ i. Ok (same_pairs (pairs_shown (sym (drop_none x.pairs) i)) (pairs_shown (sym (drop_none y.pairs) i))))

pub arrays_size : (x : Array code.Value) (a : Value) → a ≡ array_value (array_map value_of x) → suc (size_of x 0) < nodes a
arrays_size x a p =
    let same : nodes a ≡ suc (suc (size_of x 0)) = ap nodes p ∙ (λ i. suc (suc (nodes_in (pairs_shown (sym (drop_none x.pairs) i))))) in
    omega arith

pub are_arrays : (x : Array code.Value) (a : Value) → a ≡ array_value (array_map value_of x) → is_array a ≡ true
are_arrays x a p = ap is_array p

-- ---- a pair

next_size : (x : Array code.Value) (i : ℕ) (p : Key × code.Value) → slice_get x.pairs i ≡ Some p → size_of x i ≡ nodes (value_of p.1) + size_of x (i + 1)
next_size x i p at = ap (λ l. nodes_in (pairs_shown l)) (drop_at x.pairs i p at)

loose_next : (x y : Array code.Value) (i : ℕ) (p : Key × code.Value) → slice_get x.pairs i ≡ Some p
    → left_of Loose x y i ≡ and_also (is_there (loosely_equal (value_of p.1)) (option_map value_of (get y p.0))) (left_of Loose x y (i + 1))
loose_next x y i p at =
    ap (λ l. each_in (pairs_shown l) (array_map value_of y)) (drop_at x.pairs i p at)
    ∙ ap (λ o. and_also (is_there (loosely_equal (value_of p.1)) o) (left_of Loose x y (i + 1))) (get_shown y.pairs p.0)

pub loose_values : (x y : Array code.Value) (i : ℕ) (key : Key) (v w : code.Value) → slice_get x.pairs i ≡ Some (key, v) → get y key ≡ Some w
    → AreNext Loose v w x y i
loose_values x y i key v w at there = record {
  answer = loose_next x y i (key, v) at ∙ ap (λ o. and_also (is_there (loosely_equal (value_of v)) (option_map value_of o)) (left_of Loose x y (i + 1))) there;
  sizes = next_size x i (key, v) at;
  within = place_within x.pairs i (key, v) at;
}

pub loose_missing : (x y : Array code.Value) (i : ℕ) (key : Key) (v : code.Value) → slice_get x.pairs i ≡ Some (key, v) → get y key ≡ None
    → left_of Loose x y i ≡ Ok false
loose_missing x y i key v at there =
    loose_next x y i (key, v) at ∙ ap (λ o. and_also (is_there (loosely_equal (value_of v)) (option_map value_of o)) (left_of Loose x y (i + 1))) there

pub loose_end : (x y : Array code.Value) (i : ℕ) → slice_get x.pairs i ≡ None → left_of Loose x y i ≡ Ok true
loose_end x y i past = ap (λ l. each_in (pairs_shown l) (array_map value_of y)) (drop_past x.pairs i past)

strict_next : (x y : Array code.Value) (i : ℕ) (p q : Key × code.Value) → slice_get x.pairs i ≡ Some p → slice_get y.pairs i ≡ Some q
    → left_of Strict x y i ≡ Ok (key_eq p.0 q.0 && (identical (value_of p.1) (value_of q.1) && same_pairs (pairs_shown (drop (i + 1) x.pairs)) (pairs_shown (drop (i + 1) y.pairs))))
strict_next x y i p q at other = (λ j. Ok (same_pairs (pairs_shown (drop_at x.pairs i p at j)) (pairs_shown (drop_at y.pairs i q other j))))

both_also : (t s : Bool) → ◌≡◌ {A = Result Bool Fatal} (Ok (t && s)) (and_also (Ok t) (Ok s))
both_also true s = refl
both_also false s = refl

pub strict_values : (x y : Array code.Value) (i : ℕ) (key other_key : Key) (v w : code.Value) → slice_get x.pairs i ≡ Some (key, v) → slice_get y.pairs i ≡ Some (other_key, w)
    → key_eq key other_key ≡ true → AreNext Strict v w x y i
strict_values x y i key other_key v w at other same =
    let rest : Bool = same_pairs (pairs_shown (drop (i + 1) x.pairs)) (pairs_shown (drop (i + 1) y.pairs)) in
    record {
      answer = strict_next x y i (key, v) (other_key, w) at other ∙ (ap (λ t. Ok (t && (identical (value_of v) (value_of w) && rest))) same ∙ both_also (identical (value_of v) (value_of w)) rest);
      sizes = next_size x i (key, v) at;
      within = place_within x.pairs i (key, v) at;
    }

pub strict_other_key : (x y : Array code.Value) (i : ℕ) (key other_key : Key) (v w : code.Value) → slice_get x.pairs i ≡ Some (key, v) → slice_get y.pairs i ≡ Some (other_key, w)
    → key_eq key other_key ≡ false → left_of Strict x y i ≡ Ok false
strict_other_key x y i key other_key v w at other differ =
    let rest : Bool = same_pairs (pairs_shown (drop (i + 1) x.pairs)) (pairs_shown (drop (i + 1) y.pairs)) in
    strict_next x y i (key, v) (other_key, w) at other ∙ ap (λ t. Ok (t && (identical (value_of v) (value_of w) && rest))) differ

pub strict_shorter : (x y : Array code.Value) (i : ℕ) (p : Key × code.Value) → slice_get x.pairs i ≡ Some p → slice_get y.pairs i ≡ None → left_of Strict x y i ≡ Ok false
strict_shorter x y i p at past = (λ j. Ok (same_pairs (pairs_shown (drop_at x.pairs i p at j)) (pairs_shown (drop_past y.pairs i past j))))

pub strict_longer : (x y : Array code.Value) (i : ℕ) (q : Key × code.Value) → slice_get x.pairs i ≡ None → slice_get y.pairs i ≡ Some q → left_of Strict x y i ≡ Ok false
strict_longer x y i q past at = (λ j. Ok (same_pairs (pairs_shown (drop_past x.pairs i past j)) (pairs_shown (drop_at y.pairs i q at j))))

pub strict_end : (x y : Array code.Value) (i : ℕ) → slice_get x.pairs i ≡ None → slice_get y.pairs i ≡ None → left_of Strict x y i ≡ Ok true
strict_end x y i past other = (λ j. Ok (same_pairs (pairs_shown (drop_past x.pairs i past j)) (pairs_shown (drop_past y.pairs i other j))))
