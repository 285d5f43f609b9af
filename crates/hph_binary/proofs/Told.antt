-- Answers that go on, and unions of the arrays that arrays in code are.
use Rattle.std.proofs.Common.{◌≡◌, ◌∙◌, ℤ, Bool, true, false, cond, List, [], ◌∷◌, map, fold, max, Some, Result, Ok, Err, is_some, refl, ap, subst}
use Rattle.std.specs.declared.cmp.Ordering.{Ordering}
use Rattle.std.specs.Map.{lookup}
use Rattle.hph_array.specs.declared.key.Key.{Key}
use Rattle.hph_array.specs.Key.{key_eq, number_after}
use Rattle.hph_array.specs.Array.{Array, array_map, get, put, set}
use Rattle.hph_php.specs.declared.fatal.Fatal.{Fatal}
use Rattle.hph_php.specs.Arrays.{with_new, union}
use Rattle.hph_php.specs.Comparison.{loose_order}
use Rattle.hph_num.specs.Arithmetic.{sum_of}
use Rattle.hph_php.specs.Conversions.{and_then, map_ok, number_of, settled}
use Rattle.hph_php.specs.Operators.{on_numbers, on_bits, ordered, plus}
use Rattle.hph_php.specs.Values.{Value, Null, Boolean, Int, Str, Arr, Obj, paired, listed, array_of, array_value}
use Rattle.hph_ops.specs.Numbers.{numbers}
use Rattle.hph_value.specs.declared.value.Value as code
use Rattle.hph_value.specs.declared.value.Stop.{Stop}
use Rattle.hph_value.specs.Shown.{value_of, Tells}
use Rattle.hph_equal.specs.Frames.{is_array}
use Rattle.hph_value.proofs.Shown as values
use Rattle.hph_binary.specs.Operands.{unless_strings}

pub ruleset shown = (values.null_shown, values.bool_shown, values.int_shown, values.str_shown, values.obj_shown, values.arr_shown)

then_mapped : {A B C : Type 0} (f : B → C) (r : Result A Fatal) (go : A → Result B Fatal) → map_ok f (and_then r go) ≡ and_then r (λ a. map_ok f (go a))
then_mapped f (Ok a) go = refl
then_mapped f (Err fatal) go = refl

pub numbers_told : (op : ℤ → ℤ → Result ℤ Fatal) (x y : Value) → map_ok Int (numbers op x y) ≡ on_numbers op x y
numbers_told op x y = first (number_of x) (number_of y)
  where
    first : (r s : Result ℤ Fatal) → map_ok Int (and_then r (λ a. and_then s (λ b. op a b))) ≡ and_then r (λ a. and_then s (λ b. map_ok Int (op a b)))
    first (Err fatal) s = refl
    first (Ok a) s = then_mapped Int s (λ b. op a b)

pub bits_told : (op : ℤ → ℤ → ℤ) (x y : Value) → unless_strings x y (map_ok Int (numbers (λ a b. Ok (op a b)) x y)) ≡ on_bits op x y
bits_told op (Str x) (Str y) = refl
bits_told op (Str x) Null = numbers_told (λ a b. Ok (op a b)) (Str x) Null
bits_told op (Str x) (Boolean y) = numbers_told (λ a b. Ok (op a b)) (Str x) (Boolean y)
bits_told op (Str x) (Int y) = numbers_told (λ a b. Ok (op a b)) (Str x) (Int y)
bits_told op (Str x) (Arr ys m) = numbers_told (λ a b. Ok (op a b)) (Str x) (Arr ys m)
bits_told op (Str x) (Obj y) = numbers_told (λ a b. Ok (op a b)) (Str x) (Obj y)
bits_told op Null y = numbers_told (λ a b. Ok (op a b)) Null y
bits_told op (Boolean x) y = numbers_told (λ a b. Ok (op a b)) (Boolean x) y
bits_told op (Int x) y = numbers_told (λ a b. Ok (op a b)) (Int x) y
bits_told op (Arr xs n) y = numbers_told (λ a b. Ok (op a b)) (Arr xs n) y
bits_told op (Obj x) y = numbers_told (λ a b. Ok (op a b)) (Obj x) y

pub tests_told : (test : Ordering → Bool) (x y : Value) → map_ok Boolean (map_ok test (loose_order x y)) ≡ ordered test x y
tests_told test x y = both (loose_order x y)
  where
    both : (r : Result Ordering Fatal) → map_ok Boolean (map_ok test r) ≡ map_ok (λ o. Boolean (test o)) r
    both (Ok o) = refl
    both (Err fatal) = refl

pub order_told : (f : Ordering → ℤ) (r : Result Ordering Fatal) → map_ok Int (map_ok f r) ≡ map_ok (λ o. Int (f o)) r
order_told f (Ok o) = refl
order_told f (Err fatal) = refl

pub bits_tell : (op : ℤ → ℤ → ℤ) (x y : Value) (number : Result ℤ Fatal) (answer : Result code.Value Stop) → number ≡ numbers (λ a b. Ok (op a b)) x y
    → Tells answer (unless_strings x y (map_ok Int number)) → Tells answer (on_bits op x y)
bits_tell op x y number answer e t =
    subst (λ (g : Result Value Fatal). Tells answer g) (ap (λ n. unless_strings x y (map_ok Int n)) e ∙ bits_told op x y) t

abbrev sums : ℤ → ℤ → Result ℤ Fatal
sums a b = settled (sum_of a b)

plus_left : (a b : Value) → is_array a ≡ false → map_ok Int (numbers sums a b) ≡ plus a b
plus_left (Arr xs n) b e = let no : ⊥ = cc in absurd no
plus_left Null b e = numbers_told sums Null b
plus_left (Boolean x) b e = numbers_told sums (Boolean x) b
plus_left (Int x) b e = numbers_told sums (Int x) b
plus_left (Str x) b e = numbers_told sums (Str x) b
plus_left (Obj x) b e = numbers_told sums (Obj x) b

-- the sum, where the left operand is no array
pub left_tells : (a b : Value) (number : Result ℤ Fatal) (answer : Result code.Value Stop) → number ≡ numbers sums a b → Tells answer (map_ok Int number)
    → is_array a ≡ false → Tells answer (plus a b)
left_tells a b number answer e t none = subst (λ (g : Result Value Fatal). Tells answer g) (ap (map_ok Int) e ∙ plus_left a b none) t

pub ruleset told = (numbers_told, bits_told, tests_told, order_told)

-- ---- unions

module _ {V W : Type 0} (f : V → W) where
  put_map : (pairs : List (Key × V)) (key : Key) (v : V) → put (map (λ p. (p.0, f p.1)) pairs) key (f v) ≡ map (λ p. (p.0, f p.1)) (put pairs key v)
  put_map [] key v = refl
  put_map (p ∷ pairs) key v =
      elim (key_eq key p.0) as (λ t. cond t ((p.0, f v) ∷ map (λ p. (p.0, f p.1)) pairs) ((p.0, f p.1) ∷ put (map (λ p. (p.0, f p.1)) pairs) key (f v))
      ≡ map (λ p. (p.0, f p.1)) (cond t ((p.0, v) ∷ pairs) (p ∷ put pairs key v))) [
        | true ↦ refl
        | false ↦ ap (λ l. (p.0, f p.1) ∷ l) (put_map pairs key v)
      ]

  there_map : (pairs : List (Key × V)) (key : Key) → is_some (lookup (key_eq key) (map (λ p. (p.0, f p.1)) pairs)) ≡ is_some (lookup (key_eq key) pairs)
  there_map [] key = refl
  there_map (p ∷ pairs) key =
      elim (key_eq key p.0) as (λ t. is_some (cond t (Some (f p.1)) (lookup (key_eq key) (map (λ p. (p.0, f p.1)) pairs))) ≡ is_some (cond t (Some p.1) (lookup (key_eq key) pairs))) [
        | true ↦ refl
        | false ↦ there_map pairs key
      ]

  set_map : (a : Array V) (key : Key) (v : V) → set (array_map f a) key (f v) ≡ array_map f (set a key v)
  set_map a key v = ap (λ (l : List (Key × W)). record { pairs = l; next_key = max a.next_key (number_after key) }) (put_map a.pairs key v)

  new_map : (a : Array V) (p : Key × V) → with_new (array_map f a) (p.0, f p.1) ≡ array_map f (with_new a p)
  new_map a p =
      (λ i. cond (there_map a.pairs p.0 i) (array_map f a) (set_map a p.0 p.1 i)) ∙ by (is_some (get a p.0))
    where
      by : (t : Bool) → cond t (array_map f a) (array_map f (set a p.0 p.1)) ≡ array_map f (cond t a (set a p.0 p.1))
      by true = refl
      by false = refl

  union_map : (a : Array V) (pairs : List (Key × V)) → fold with_new (array_map f a) (map (λ p. (p.0, f p.1)) pairs) ≡ array_map f (fold with_new a pairs)
  union_map a [] = refl
  union_map a (p ∷ pairs) = ap (λ b. fold with_new b (map (λ p. (p.0, f p.1)) pairs)) (new_map a p) ∙ union_map (with_new a p) pairs

listed_paired : (pairs : List (Key × Value)) → listed (paired pairs) ≡ pairs
listed_paired [] = refl
listed_paired (p ∷ pairs) = ap (λ l. p ∷ l) (listed_paired pairs)

array_back : (a : Array Value) → array_of (paired a.pairs) a.next_key ≡ a
array_back a = ap (λ (l : List (Key × Value)). record { pairs = l; next_key = a.next_key }) (listed_paired a.pairs)

pub union_told : (x y : Array code.Value) (a b : Value) → a ≡ array_value (array_map value_of x) → b ≡ array_value (array_map value_of y)
    → plus a b ≡ Ok (array_value (array_map value_of (union x y)))
union_told x y a b p q =
    (λ i. plus (p i) (q i))
    ∙ ((λ i. Ok (array_value (union (array_back (array_map value_of x) i) (array_back (array_map value_of y) i))))
    ∙ ap (λ (c : Array Value). Ok (array_value c)) (union_map value_of x y.pairs))
