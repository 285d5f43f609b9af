-- The decimal of an int is read as that int, so it is one as a key.
use Rattle.std.proofs.Common.{◌≡◌, ◌<◌, ◌≤◌, ◌+◌, ◌-◌, ◌*◌, ◌/◌, ◌%◌, ◌^◌, ◌++◌, ℕ, suc, ℤ, pos, negsuc, neg_ℤ, Bool, true, false, ◌&&◌}
use Rattle.std.proofs.Common.{cond}
use Rattle.std.proofs.Common.{List, [], ◌∷◌, length, fold, Ok, arith, refl, ap, sym, ◌∙◌, nat_le, ltb-true, true≢false}
use Rattle.std.specs.Fmt.{decimal, signed_decimal}
use Rattle.std.specs.Str.{bytes_eq}
use Rattle.std.specs.Cmp.Lexicographic.{bytes_decides}
use Rattle.std.proofs.lemmas.Bool.Decides.{nat_tests}
use Rattle.std.proofs.lemmas.Fmt.{decimal_by_steps}
use Rattle.hph_ast.specs.Bytes.{is_digit, digit_value, lower}
use Rattle.hph_ast.specs.Strings.{value_of}
use Rattle.hph_num.specs.Range.{fits_i64}
use Rattle.hph_array.specs.declared.key.Key.{Key}
use Rattle.hph_array.specs.declared.key.Key.TheVariants as key
use Rattle.hph_php.specs.Values.{Str}
use Rattle.hph_php.specs.NumericStrings.{Numeric, NoNumber, Whole, FloatLike, numeric_of, no_sign, minus, Are, IsWhole}
use Rattle.hph_php.proofs.NumericLaws.{append_none, numeric_of_whole}
use Rattle.hph_php.specs.Conversions.{key_if_decimal, key_of_text, to_key}

-- ---- decimals are digits of their number

record Spells (n : ℕ) (ds : List ℕ) : Type 0 where
  are_digits : Are is_digit ds
  value : value_of 10 ds ≡ n
  some : 0 < length ds

digit_of : (n : ℕ) → n < 10 → is_digit (48 + n) ≡ true
digit_of n h = grind (arith, nat_tests)

value_here : (d : ℕ) → is_digit d ≡ true → digit_value d ≡ d - 48
value_here d h = ap (λ b. cond b (d - 48) (cond (nat_le 97 (lower d) && nat_le (lower d) 102) (lower d - 87) 16)) h

value_of_digit : (n : ℕ) → n < 10 → digit_value (48 + n) ≡ n
value_of_digit n h =
    let less : 48 + n - 48 ≡ n = omega arith in
    value_here (48 + n) (digit_of n h) ∙ less

fold_last : (f : ℕ → ℕ → ℕ) (a : ℕ) (xs : List ℕ) (y : ℕ) → fold f a (xs ++ y ∷ []) ≡ f (fold f a xs) y
fold_last f a [] y = refl
fold_last f a (x ∷ xs) y = fold_last f (f a x) xs y

digits_last : (xs : List ℕ) (y : ℕ) → Are is_digit xs → is_digit y ≡ true → Are is_digit (xs ++ y ∷ [])
digits_last [] y h e = (e, tt)
digits_last (x ∷ xs) y h e = (h.0, digits_last xs y h.1 e)

last_there : (xs : List ℕ) (y : ℕ) → 0 < length (xs ++ y ∷ [])
last_there [] y = omega arith
last_there (x ∷ xs) y = omega arith

one_digit : (n : ℕ) → n < 10 → Spells n ((48 + n) ∷ [])
one_digit n h =
    let sum : 10 * 0 + n ≡ n = omega arith in
    record { are_digits = (digit_of n h, tt); value = ap (λ v. 10 * 0 + v) (value_of_digit n h) ∙ sum; some = omega arith }

more_digits : (n : ℕ) (ds : List ℕ) → 10 ≤ n → Spells (n / 10) ds → Spells n (ds ++ ((48 + n % 10) ∷ []))
more_digits n ds h s =
    let low : n % 10 < 10 = grind arith in
    let sum : 10 * (n / 10) + n % 10 ≡ n = grind arith in
    record {
      are_digits = digits_last ds (48 + n % 10) s.are_digits (digit_of (n % 10) low);
      value = fold_last (λ m d. 10 * m + digit_value d) 0 ds (48 + n % 10) ∙ ap (λ m. 10 * m + digit_value (48 + n % 10)) s.value
          ∙ ap (λ v. 10 * (n / 10) + v) (value_of_digit (n % 10) low) ∙ sum;
      some = last_there ds (48 + n % 10);
    }

spelled : (n : ℕ) → n < 2 ^ 64 → Spells n (decimal n)
spelled n h = decimal_by_steps Spells one_digit more_digits n h

-- ---- keys

-- A decimal is a whole number: a minus or none, and digits.
whole_decimal : (z : ℤ) → fits_i64 z ≡ true → IsWhole (signed_decimal z) z
whole_decimal (pos n) h =
    let below : n < 2 ^ 63 = ltb-true n (2 ^ 63) h in
    let s : Spells n (decimal n) = spelled n (omega arith) in
    record {
      before = [];
      sign = no_sign;
      ds = decimal n;
      after = [];
      spelled = sym (append_none (decimal n));
      spaces_before = tt;
      are_digits = s.are_digits;
      some_digit = s.some;
      spaces_after = tt;
      value = ap pos s.value;
      fits = h;
    }
whole_decimal (negsuc n) h =
    let below : n < 2 ^ 63 = ltb-true n (2 ^ 63) h in
    let s : Spells (suc n) (decimal (suc n)) = spelled (suc n) (omega arith) in
    record {
      before = [];
      sign = minus;
      ds = decimal (suc n);
      after = [];
      spelled = ap (λ l. 45 ∷ l) (sym (append_none (decimal (suc n))));
      spaces_before = tt;
      are_digits = s.are_digits;
      some_digit = s.some;
      spaces_after = tt;
      value = ap (λ v. neg_ℤ (pos v)) s.value;
      fits = h;
    }

-- So it is read as its int.
numeric_of-decimal : (z : ℤ) → fits_i64 z ≡ true → numeric_of (signed_decimal z) ≡ Whole z
numeric_of-decimal z h = numeric_of_whole (signed_decimal z) z (whole_decimal z h)

-- As a key it is that int.
pub key_of_decimal : (z : ℤ) → fits_i64 z ≡ true → to_key (Str (signed_decimal z)) ≡ Ok (key.Int z)
key_of_decimal z h =
    ap (λ x. Ok (key_if_decimal (signed_decimal z) x)) (numeric_of-decimal z h)
    ∙ ap (λ b. Ok (cond b (key.Int z) (key.Str (signed_decimal z)))) ((bytes_decides (signed_decimal z) (signed_decimal z)).1 refl)

int_in : ℤ → Key → ℤ
int_in default (key.Int z) = z
int_in default (key.Str bytes) = default

is_int : Key → Bool
is_int (key.Int z) = true
is_int (key.Str bytes) = false

by_test : (t : Bool) (bytes : List ℕ) (y z : ℤ) → bytes_eq (signed_decimal y) bytes ≡ t → cond t (key.Int y) (key.Str bytes) ≡ key.Int z
    → bytes ≡ signed_decimal z
unfolding int_in is_int
by_test true bytes y z e same = sym ((bytes_decides (signed_decimal y) bytes).0 e) ∙ ap (λ k. signed_decimal (int_in y k)) same
by_test false bytes y z e same = absurd (true≢false (sym (ap is_int same)))

by_reading : (bytes : List ℕ) (n : Numeric) (z : ℤ) → key_if_decimal bytes n ≡ key.Int z → bytes ≡ signed_decimal z
unfolding is_int
by_reading bytes (Whole y) z same = by_test (bytes_eq (signed_decimal y) bytes) bytes y z refl same
by_reading bytes NoNumber z same = absurd (true≢false (sym (ap is_int same)))
by_reading bytes FloatLike z same = absurd (true≢false (sym (ap is_int same)))

-- No other string is an int as a key.
pub decimal_of_key : (bytes : List ℕ) (z : ℤ) → key_of_text bytes ≡ key.Int z → bytes ≡ signed_decimal z
decimal_of_key bytes z same = by_reading bytes (numeric_of bytes) z same
