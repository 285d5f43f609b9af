-- Laws of comparison: the loose order turns round with its operands, `==` is its equality but for two arrays, and `===` is
-- reflexive.
use Rattle.std.proofs.Common.{◌≡◌, ◌⊎◌, inl, inr, ◌==◌, ◌&&◌, ℕ, ℤ, Bool, true, false, List, Result, Ok, Err, [], if◌then◌else◌, refl, ap}
use Rattle.std.proofs.Common.{sym, ◌∙◌, eq-eqb, eqb-true, true≢false}
use Rattle.std.specs.declared.cmp.Ordering.{Ordering}
use Rattle.std.specs.declared.cmp.Ordering.TheVariants.{Less, Equal, Greater}
use Rattle.std.specs.Ordering.{ordering_reverse, int_cmp, bool_cmp}
use Rattle.std.specs.Cmp.{bool_cmp_total, both_ways}
use Rattle.std.specs.Bool.{beq}
use Rattle.std.specs.Cmp.Lexicographic.{bytes_decides}
use Rattle.std.specs.Cmp.{signed_Decides}
use Rattle.std.proofs.lemmas.Cmp.{int_cmp_total, nat_list_cmp_total}
use Rattle.hph_array.specs.Key.{key_eq_equiv}
use Rattle.hph_php.specs.declared.fatal.Fatal.{Fatal}
use Rattle.hph_php.specs.declared.fatal.Fatal.TheVariants.{ArrayOrder, ObjectCompare}
use Rattle.hph_php.specs.Values.{Value, Null, Boolean, Int, Str, Arr, Obj, Pairs, no_pair, pair}
use Rattle.hph_php.specs.Conversions.{map_ok, to_bool}
use Rattle.hph_php.specs.NumericStrings.{Numeric, NoNumber, Whole, FloatLike, numeric_of}
use Rattle.hph_php.specs.Comparison.{bytes_order, int_with, strings_with, loose_order, loosely_equal, by_order, identical, same_pairs}

-- ---- `===`

bools_equal : (b : Bool) → beq b b ≡ true
bools_equal true = refl
bools_equal false = refl

both : {a b : Bool} → a ≡ true → b ≡ true → (a && b) ≡ true
both {a} {b} p q = ap (λ c. c && b) p ∙ q

mutual
  -- A value is identical with itself.
  pub identical_with_itself : (v : Value) → identical v v ≡ true
  identical_with_itself Null = refl
  identical_with_itself (Boolean b) = bools_equal b
  identical_with_itself (Int z) = (signed_Decides z z).1 refl
  identical_with_itself (Str bytes) = (bytes_decides bytes bytes).1 refl
  identical_with_itself (Arr ps n) = same_pairs_as_itself ps
  identical_with_itself (Obj n) = eq-eqb n n refl

  same_pairs_as_itself : (ps : Pairs) → same_pairs ps ps ≡ true
  same_pairs_as_itself no_pair = refl
  same_pairs_as_itself (pair k v rest) = both (key_eq_equiv.refl k) (both (identical_with_itself v) (same_pairs_as_itself rest))

-- ---- `==`

-- Equality is that of the loose order, but for two arrays, which have no order.
pub equal_by_order : (a b : Value) → (loose_order a b ≡ Err ArrayOrder) ⊎ (loosely_equal a b ≡ by_order a b)
equal_by_order (Arr xs n) (Arr ys m) = inl refl
equal_by_order (Arr xs n) Null = inr refl
equal_by_order (Arr xs n) (Boolean y) = inr refl
equal_by_order (Arr xs n) (Int y) = inr refl
equal_by_order (Arr xs n) (Str y) = inr refl
equal_by_order (Arr xs n) (Obj y) = inr refl
equal_by_order Null b = inr refl
equal_by_order (Boolean x) b = inr refl
equal_by_order (Int x) b = inr refl
equal_by_order (Str x) b = inr refl
equal_by_order (Obj x) b = inr refl

-- ---- the loose order

-- Bools, ints and byte strings.
bools_turned : (x y : Bool) → bool_cmp y x ≡ ordering_reverse (bool_cmp x y)
bools_turned x y = bool_cmp_total.antisymm y x

ints_turned : (x y : ℤ) → int_cmp y x ≡ ordering_reverse (int_cmp x y)
ints_turned x y = int_cmp_total.antisymm y x

bytes_turned : (x y : List ℕ) → bytes_order y x ≡ ordering_reverse (bytes_order x y)
bytes_turned x y = nat_list_cmp_total.antisymm y x

twice : (o : Ordering) → o ≡ ordering_reverse (ordering_reverse o)
twice Less = refl
twice Equal = refl
twice Greater = refl

turned_twice : (r : Result Ordering Fatal) → r ≡ map_ok ordering_reverse (map_ok ordering_reverse r)
turned_twice (Ok o) = ap Ok (twice o)
turned_twice (Err fatal) = refl

strings_turned : (x y : List ℕ) (a b : Numeric) → strings_with y x b a ≡ map_ok ordering_reverse (strings_with x y a b)
strings_turned x y (Whole m) (Whole n) = ap Ok (ints_turned m n)
strings_turned x y (Whole m) FloatLike = refl
strings_turned x y (Whole m) NoNumber = ap Ok (bytes_turned x y)
strings_turned x y FloatLike (Whole n) = refl
strings_turned x y FloatLike FloatLike = refl
strings_turned x y FloatLike NoNumber = ap Ok (bytes_turned x y)
strings_turned x y NoNumber (Whole n) = ap Ok (bytes_turned x y)
strings_turned x y NoNumber FloatLike = ap Ok (bytes_turned x y)
strings_turned x y NoNumber NoNumber = ap Ok (bytes_turned x y)

objects_turned : (b c : Bool) → b ≡ c
    → (if c then Ok Equal else Err ObjectCompare) ≡ map_ok {A = Ordering} ordering_reverse (if b then Ok Equal else Err ObjectCompare)
objects_turned true true e = refl
objects_turned true false e = absurd (true≢false e)
objects_turned false true e = absurd (true≢false (sym e))
objects_turned false false e = refl

same_number : (x y : ℕ) → (x == y) ≡ (y == x)
same_number x y = both_ways (x == y) (y == x) (λ e. eq-eqb y x (sym (eqb-true x y e))) (λ e. eq-eqb x y (sym (eqb-true y x e)))

-- The order turns round with its operands.
pub order_turned : (a b : Value) → loose_order b a ≡ map_ok ordering_reverse (loose_order a b)
order_turned Null Null = refl
order_turned Null (Boolean y) = ap Ok (bools_turned false y)
order_turned Null (Int y) = ap Ok (bools_turned false (to_bool (Int y)))
order_turned Null (Str y) = ap Ok (bytes_turned [] y)
order_turned Null (Arr ys m) = ap Ok (bools_turned false (to_bool (Arr ys m)))
order_turned Null (Obj y) = ap Ok (bools_turned false true)
order_turned (Boolean x) Null = ap Ok (bools_turned x false)
order_turned (Boolean x) (Boolean y) = ap Ok (bools_turned x y)
order_turned (Boolean x) (Int y) = ap Ok (bools_turned x (to_bool (Int y)))
order_turned (Boolean x) (Str y) = ap Ok (bools_turned x (to_bool (Str y)))
order_turned (Boolean x) (Arr ys m) = ap Ok (bools_turned x (to_bool (Arr ys m)))
order_turned (Boolean x) (Obj y) = ap Ok (bools_turned x true)
order_turned (Int x) Null = ap Ok (bools_turned (to_bool (Int x)) false)
order_turned (Int x) (Boolean y) = ap Ok (bools_turned (to_bool (Int x)) y)
order_turned (Int x) (Int y) = ap Ok (ints_turned x y)
order_turned (Int x) (Str y) = refl
order_turned (Int x) (Arr ys m) = refl
order_turned (Int x) (Obj y) = refl
order_turned (Str x) Null = ap Ok (bytes_turned x [])
order_turned (Str x) (Boolean y) = ap Ok (bools_turned (to_bool (Str x)) y)
order_turned (Str x) (Int y) = turned_twice (int_with y x (numeric_of x))
order_turned (Str x) (Str y) = strings_turned x y (numeric_of x) (numeric_of y)
order_turned (Str x) (Arr ys m) = refl
order_turned (Str x) (Obj y) = refl
order_turned (Arr xs n) Null = ap Ok (bools_turned (to_bool (Arr xs n)) false)
order_turned (Arr xs n) (Boolean y) = ap Ok (bools_turned (to_bool (Arr xs n)) y)
order_turned (Arr xs n) (Int y) = refl
order_turned (Arr xs n) (Str y) = refl
order_turned (Arr xs n) (Arr ys m) = refl
order_turned (Arr xs n) (Obj y) = refl
order_turned (Obj x) Null = ap Ok (bools_turned true false)
order_turned (Obj x) (Boolean y) = ap Ok (bools_turned true y)
order_turned (Obj x) (Int y) = refl
order_turned (Obj x) (Str y) = refl
order_turned (Obj x) (Arr ys m) = refl
order_turned (Obj x) (Obj y) = objects_turned (x == y) (y == x) (same_number x y)
