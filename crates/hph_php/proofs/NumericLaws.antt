-- A string is a whole number by the definition exactly where the rule in its own words says so.
use Rattle.std.proofs.Common.{◌≡◌, ◌<◌, ◌+◌, ◌==◌, ◌++◌, ℕ, ℤ, Bool, true, false, not, ◌&&◌, ◌||◌, cond, if◌then◌else◌}
use Rattle.std.proofs.Common.{List, [], ◌∷◌, length, drop, arith, refl, ap, sym, subst, ◌∙◌, nat_le, eqb-true, true≢false}
use Rattle.std.proofs.lemmas.Bool.Decides.{nat_tests}
use Rattle.hph_ast.specs.Bytes.{is_digit, lower, begins_with, front, behind}
use Rattle.hph_ast.specs.Numbers.{begins_exponent, begins_signed_digit}
use Rattle.hph_num.specs.Range.{fits_i64}
use Rattle.hph_php.specs.NumericStrings.{Numeric, NoNumber, Whole, FloatLike, is_space, is_sign, is_negative, unsigned, has_digit, digits}
use Rattle.hph_php.specs.NumericStrings.{behind_digits, behind_sign, behind_exponent, whole, within, numeric_of, Sign, no_sign, plus}
use Rattle.hph_php.specs.NumericStrings.{minus, sign_bytes, is_minus, Are, IsWhole}

-- ---- the number by its parts: whether it is negative, whether a digit stands first, its digits, and what stands behind them

abbrev fraction_in : Bool → List ℕ → Bool
fraction_in some rest = begins_with (λ b. b == 46) rest && (some || begins_with is_digit (drop 1 rest))

abbrev left_in : Bool → List ℕ → List ℕ
left_in some rest = if fraction_in some rest then behind is_digit (drop 1 rest) else rest

abbrev chosen : Bool → Bool → Bool → Bool → Numeric → Numeric
chosen ends some fraction exponent number =
    if ends then (if not (some || fraction) then NoNumber else (if fraction || exponent then FloatLike else number)) else NoNumber

abbrev parts : Bool → Bool → List ℕ → List ℕ → Numeric
parts negative some ds rest =
    chosen (length (behind is_space (behind_exponent (left_in some rest))) == 0) some (fraction_in some rest)
    (begins_exponent (left_in some rest)) (within (whole negative ds))

by_parts : (bs : List ℕ) → numeric_of bs ≡ parts (is_negative bs) (has_digit bs) (digits bs) (behind_digits bs)
by_parts bs = refl

-- ---- bytes that pass a test, and those behind them

module _ (test : ℕ → Bool) where
  front-behind : (bs : List ℕ) → front test bs ++ behind test bs ≡ bs
  front-behind [] = refl
  front-behind (b ∷ bs) = here (test b) (front-behind bs)
    where
      here : (t : Bool) → front test bs ++ behind test bs ≡ bs
          → cond t (b ∷ front test bs) [] ++ cond t (behind test bs) (b ∷ bs) ≡ b ∷ bs
      here true ih = ap (λ l. b ∷ l) ih
      here false ih = refl

  front_passes : (bs : List ℕ) → Are test (front test bs)
  front_passes [] = tt
  front_passes (b ∷ bs) = here (test b) refl (front_passes bs)
    where
      here : (t : Bool) → test b ≡ t → Are test (front test bs) → Are test (cond t (b ∷ front test bs) [])
      here true e ih = (e, ih)
      here false e ih = tt

  some_front : (bs : List ℕ) → begins_with test bs ≡ true → 0 < length (front test bs)
  some_front [] h = absurd (true≢false (sym h))
  some_front (b ∷ bs) h =
      let first : front test (b ∷ bs) ≡ b ∷ front test bs = ap (λ t. cond t (b ∷ front test bs) []) h in
      subst (λ l. 0 < length l) (sym first) (omega arith)

  all_pass : (bs : List ℕ) → behind test bs ≡ [] → Are test bs
  all_pass [] h = tt
  all_pass (b ∷ bs) h = here (test b) refl h (all_pass bs)
    where
      here : (t : Bool) → test b ≡ t → cond t (behind test bs) (b ∷ bs) ≡ [] → (behind test bs ≡ [] → Are test bs)
          → (test b ≡ true) × Are test bs
      here true e h ih = (e, ih h)
      here false e h ih = let no : ⊥ = cc in absurd no

  behind_passing : (bs rest : List ℕ) → Are test bs → behind test (bs ++ rest) ≡ behind test rest
  behind_passing [] rest h = refl
  behind_passing (b ∷ bs) rest h =
      ap (λ t. cond t (behind test (bs ++ rest)) (b ∷ (bs ++ rest))) h.0 ∙ behind_passing bs rest h.1

  front_passing : (bs rest : List ℕ) → Are test bs → front test rest ≡ [] → front test (bs ++ rest) ≡ bs ++ []
  front_passing [] rest h e = e
  front_passing (b ∷ bs) rest h e =
      ap (λ t. cond t (b ∷ front test (bs ++ rest)) []) h.0 ∙ ap (λ l. b ∷ l) (front_passing bs rest h.1 e)

pub append_none : (bs : List ℕ) → bs ++ [] ≡ bs
append_none [] = refl
append_none (b ∷ bs) = ap (λ l. b ∷ l) (append_none bs)

-- ---- spaces and digits

no_space : (d : ℕ) → is_digit d ≡ true → is_space d ≡ false
no_space d h = grind (arith, nat_tests)

digit_no_sign : (d : ℕ) → is_digit d ≡ true → is_sign d ≡ false
digit_no_sign d h = grind (arith, nat_tests)

no_minus : (d : ℕ) → is_digit d ≡ true → (d == 45) ≡ false
no_minus d h = grind (arith, nat_tests)

no_digit : (b : ℕ) → is_space b ≡ true → is_digit b ≡ false
no_digit b h = grind (arith, nat_tests)

no_point : (b : ℕ) → is_space b ≡ true → (b == 46) ≡ false
no_point b h = grind (arith, nat_tests)

no_letter : (b : ℕ) → is_space b ≡ true → (nat_le 65 b && nat_le b 90) ≡ false
no_letter b h = grind (arith, nat_tests)

space_no_e : (b : ℕ) → is_space b ≡ true → (101 == b) ≡ false
space_no_e b h = grind (arith, nat_tests)

no_e : (b : ℕ) → is_space b ≡ true → (101 == lower b) ≡ false
no_e b h = ap (λ t. 101 == cond t (b + 32) b) (no_letter b h) ∙ space_no_e b h

-- ---- from the rule to the definition: spaces end a number

digits_end : (after : List ℕ) → Are is_space after → front is_digit after ≡ []
digits_end [] h = refl
digits_end (b ∷ bs) h = ap (λ t. cond t (b ∷ front is_digit bs) []) (no_digit b h.0)

none_passed : (after : List ℕ) → Are is_space after → behind is_digit after ≡ after
none_passed [] h = refl
none_passed (b ∷ bs) h = ap (λ t. cond t (behind is_digit bs) (b ∷ bs)) (no_digit b h.0)

no_fraction : (after : List ℕ) → Are is_space after → fraction_in true after ≡ false
no_fraction [] h = refl
no_fraction (b ∷ bs) h = ap (λ t. t && (true || begins_with is_digit bs)) (no_point b h.0)

no_exponent : (after : List ℕ) → Are is_space after → begins_exponent after ≡ false
no_exponent [] h = refl
no_exponent (b ∷ bs) h = ap (λ t. (t && true) && begins_signed_digit bs) (no_e b h.0)

spaces_end : (after : List ℕ) → Are is_space after → behind is_space after ≡ []
spaces_end after h = ap (behind is_space) (sym (append_none after)) ∙ behind_passing is_space after [] h

-- digits before spaces are their number
alone : (negative : Bool) (ds after : List ℕ) → Are is_space after → parts negative true ds after ≡ within (whole negative ds)
alone negative ds after h =
    let w : Numeric = within (whole negative ds) in
    let left : left_in true after ≡ after = ap (λ t. if t then behind is_digit (drop 1 after) else after) (no_fraction after h) in
    let rest : behind_exponent after ≡ after =
    ap (λ t. if t then behind is_digit (behind_sign (drop 1 after)) else after) (no_exponent after h) in
    let ends : (length (behind is_space (behind_exponent (left_in true after))) == 0) ≡ true =
    ap (λ l. length (behind is_space (behind_exponent l)) == 0) left ∙ ap (λ l. length (behind is_space l) == 0) rest
    ∙ ap (λ l. length l == 0) (spaces_end after h) in
    ap (λ t. chosen t true (fraction_in true after) (begins_exponent (left_in true after)) w) ends
    ∙ ap (λ t. chosen true true t (begins_exponent (left_in true after)) w) (no_fraction after h)
    ∙ ap (λ t. chosen true true false t w) (ap begins_exponent left ∙ no_exponent after h)

module _ (after : List ℕ) where
  sign_first : (s : Sign) (ds : List ℕ) → Are is_digit ds → 0 < length ds
      → behind is_space (sign_bytes s ++ (ds ++ after)) ≡ sign_bytes s ++ (ds ++ after)
  sign_first plus ds h some = refl
  sign_first minus ds h some = refl
  sign_first no_sign [] h some = absurd (omega (arith, some))
  sign_first no_sign (d ∷ ds) h some = ap (λ t. cond t (behind is_space (ds ++ after)) (d ∷ (ds ++ after))) (no_space d h.0)

  behind_first : (s : Sign) (ds : List ℕ) → Are is_digit ds → 0 < length ds → behind_sign (sign_bytes s ++ (ds ++ after)) ≡ ds ++ after
  behind_first plus ds h some = refl
  behind_first minus ds h some = refl
  behind_first no_sign [] h some = absurd (omega (arith, some))
  behind_first no_sign (d ∷ ds) h some = ap (λ t. cond t (ds ++ after) (d ∷ (ds ++ after))) (digit_no_sign d h.0)

  minus_first : (s : Sign) (ds : List ℕ) → Are is_digit ds → 0 < length ds
      → begins_with (λ b. b == 45) (sign_bytes s ++ (ds ++ after)) ≡ is_minus s
  minus_first plus ds h some = refl
  minus_first minus ds h some = refl
  minus_first no_sign [] h some = absurd (omega (arith, some))
  minus_first no_sign (d ∷ ds) h some = no_minus d h.0

  digit_first : (ds : List ℕ) → Are is_digit ds → 0 < length ds → begins_with is_digit (ds ++ after) ≡ true
  digit_first [] h some = absurd (omega (arith, some))
  digit_first (d ∷ ds) h some = h.0

framed : (before ds after : List ℕ) (s : Sign) → Are is_space before → Are is_digit ds → 0 < length ds → Are is_space after
    → numeric_of (before ++ (sign_bytes s ++ (ds ++ after))) ≡ within (whole (is_minus s) ds)
framed before ds after s spaces are some ends =
    let bs : List ℕ = before ++ (sign_bytes s ++ (ds ++ after)) in
    let start : behind is_space (before ++ (sign_bytes s ++ (ds ++ after))) ≡ sign_bytes s ++ (ds ++ after) =
    behind_passing is_space before (sign_bytes s ++ (ds ++ after)) spaces ∙ sign_first after s ds are some in
    ap (λ n. parts n (has_digit bs) (digits bs) (behind_digits bs))
    (ap (begins_with (λ b. b == 45)) start ∙ minus_first after s ds are some)
    ∙ ap (λ l. parts (is_minus s) (begins_with is_digit l) (front is_digit l) (behind is_digit l))
    (ap behind_sign start ∙ behind_first after s ds are some)
    ∙ ap (λ b. parts (is_minus s) b (front is_digit (ds ++ after)) (behind is_digit (ds ++ after))) (digit_first after ds are some)
    ∙ ap (λ l. parts (is_minus s) true l (behind is_digit (ds ++ after)))
    (front_passing is_digit ds after are (digits_end after ends) ∙ append_none ds)
    ∙ ap (λ l. parts (is_minus s) true ds l) (behind_passing is_digit ds after are ∙ none_passed after ends)
    ∙ alone (is_minus s) ds after ends

pub numeric_of_whole : (bytes : List ℕ) (z : ℤ) → IsWhole bytes z → numeric_of bytes ≡ Whole z
numeric_of_whole bytes z w =
    ap numeric_of w.spelled ∙ framed w.before w.ds w.after w.sign w.spaces_before w.are_digits w.some_digit w.spaces_after
    ∙ ap within w.value ∙ ap (λ t. cond t (Whole z) FloatLike) w.fits

-- ---- from the definition to the rule

is_whole : Numeric → Bool
is_whole (Whole z) = true
is_whole NoNumber = false
is_whole FloatLike = false

number_in : ℤ → Numeric → ℤ
number_in default (Whole z) = z
number_in default NoNumber = default
number_in default FloatLike = default

module _ (z : ℤ) where
  not_none : NoNumber ≡ Whole z → ⊥
  unfolding is_whole
  not_none e = true≢false (sym (ap is_whole e))

  not_float : FloatLike ≡ Whole z → ⊥
  unfolding is_whole
  not_float e = true≢false (sym (ap is_whole e))

  chosen_whole : (ends some fraction exponent : Bool) (w : Numeric) → chosen ends some fraction exponent w ≡ Whole z
      → (ends ≡ true) × (some ≡ true) × (fraction ≡ false) × (exponent ≡ false) × (w ≡ Whole z)
  chosen_whole false some fraction exponent w e = absurd (not_none e)
  chosen_whole true some true exponent w e = absurd (both some e)
    where
      both : (b : Bool) → (if not (b || true) then NoNumber else FloatLike) ≡ Whole z → ⊥
      both true e = not_float e
      both false e = not_float e
  chosen_whole true true false true w e = absurd (not_float e)
  chosen_whole true true false false w e = (refl, refl, refl, refl, e)
  chosen_whole true false false exponent w e = absurd (not_none e)

  within_whole : (y : ℤ) → within y ≡ Whole z → (y ≡ z) × (fits_i64 z ≡ true)
  unfolding number_in
  within_whole y e = here (fits_i64 y) refl e
    where
      here : (t : Bool) → fits_i64 y ≡ t → cond t (Whole y) FloatLike ≡ Whole z → (y ≡ z) × (fits_i64 z ≡ true)
      here true f e = let same : y ≡ z = ap (number_in y) e in (same, ap fits_i64 (sym same) ∙ f)
      here false f e = absurd (not_float e)

-- the sign that stands first
record Split (t : List ℕ) : Type 0 where
  sign : Sign
  spelled : sign_bytes sign ++ behind_sign t ≡ t
  negative : begins_with (λ b. b == 45) t ≡ is_minus sign

split : (t : List ℕ) → Split t
split [] = record { sign = no_sign; spelled = refl; negative = refl }
split (b ∷ bs) = here (b == 43) (b == 45) refl refl
  where
    here : (p m : Bool) → (b == 43) ≡ p → (b == 45) ≡ m → Split (b ∷ bs)
    here true m e f =
        let same : b ≡ 43 = eqb-true b 43 e in
        record {
          sign = plus;
          spelled = ap (λ l. 43 ∷ l) (ap (λ t. cond (t || (b == 45)) bs (b ∷ bs)) e) ∙ ap (λ c. c ∷ bs) (sym same);
          negative = ap (λ c. c == 45) same;
        }
    here false true e f =
        let same : b ≡ 45 = eqb-true b 45 f in
        record {
          sign = minus;
          spelled = ap (λ l. 45 ∷ l) (ap (λ c. behind_sign (c ∷ bs)) same) ∙ ap (λ c. c ∷ bs) (sym same);
          negative = f;
        }
    here false false e f = record {
      sign = no_sign;
      spelled = ap (λ t. cond (t || (b == 45)) bs (b ∷ bs)) e ∙ ap (λ t. cond (false || t) bs (b ∷ bs)) f;
      negative = f;
    }

no_length : (l : List ℕ) → (length l == 0) ≡ true → l ≡ []
no_length [] h = refl
no_length (b ∷ bs) h = absurd (omega (arith, eqb-true (length (b ∷ bs)) 0 h))

pub whole_of_numeric : (bytes : List ℕ) (z : ℤ) → numeric_of bytes ≡ Whole z → IsWhole bytes z
whole_of_numeric bs z e =
    let c = chosen_whole z _ _ _ _ _ e in
    let s : Split (behind is_space bs) = split (behind is_space bs) in
    let left : left_in (has_digit bs) (behind_digits bs) ≡ behind_digits bs =
    ap (λ t. if t then behind is_digit (drop 1 (behind_digits bs)) else behind_digits bs) c.2 in
    let rest : behind_exponent (behind_digits bs) ≡ behind_digits bs =
    ap (λ t. if t then behind is_digit (behind_sign (drop 1 (behind_digits bs))) else behind_digits bs)
    (ap begins_exponent (sym left) ∙ c.3) in
    let ends : behind is_space (behind_digits bs) ≡ [] =
    ap (behind is_space) (sym rest) ∙ ap (λ l. behind is_space (behind_exponent l)) (sym left) ∙ no_length _ c.0 in
    let number : (whole (is_negative bs) (digits bs) ≡ z) × (fits_i64 z ≡ true) = within_whole z _ c.4 in
    record {
      before = front is_space bs;
      sign = s.sign;
      ds = digits bs;
      after = behind_digits bs;
      spelled = sym (ap (λ l. front is_space bs ++ (sign_bytes s.sign ++ l)) (front-behind is_digit (unsigned bs))
          ∙ ap (λ l. front is_space bs ++ l) s.spelled ∙ front-behind is_space bs);
      spaces_before = front_passes is_space bs;
      are_digits = front_passes is_digit (unsigned bs);
      some_digit = some_front is_digit (unsigned bs) c.1;
      spaces_after = all_pass is_space (behind_digits bs) ends;
      value = ap (λ n. whole n (digits bs)) (sym s.negative) ∙ number.0;
      fits = number.1;
    }
