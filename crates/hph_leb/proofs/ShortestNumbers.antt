-- The shortest forms of numbers, a byte at a time: of numbers of `7 * more + last` bits, of which the last byte spells `last`.
use Rattle.std.proofs.Common.{◌≡◌, ◌<◌, ◌≤◌, ℕ, zero, suc, ◌+◌, ◌*◌, ◌/◌, ◌%◌, ◌^◌, [], ◌∷◌, cond, true, false, refl, ap, subst, arith, ◌∙◌, sym, lit<, FitsSigned, w32, w64}
use Rattle.std.proofs.lemmas.Nat.{div_below, pow-add}
use Rattle.std.proofs.Math.Nat.{pow-le-pow_right}
use Rattle.std.specs.Prelude.{ℤ, pos, negsuc}
use Rattle.hph_wasm.specs.Leb128.{shortest_unsigned, shortest_signed, i32_bytes, i64_bytes, fits_seven, low_seven, above_seven}

-- how far a number is from 0, or a negative one from -1
abbrev pub magnitude : ℤ → ℕ
magnitude (pos n) = n
magnitude (negsuc n) = n

-- seven bits fewer are above the seven low ones
pub div_fits : (more last n : ℕ) → n < 2 ^ (7 * suc more + last) → n / 128 < 2 ^ (7 * more + last)
div_fits more last n fits =
    let seven_more : 7 * suc more + last ≡ (7 * more + last) + 7 = omega arith in
    div_below n 128 (2 ^ (7 * more + last)) (lit< tt) (subst (λ k. n < k) (ap (λ k. 2 ^ k) seven_more ∙ pow-add 2 (7 * more + last) 7) fits)

-- a number of seven bits is its own byte
pub one_byte : (more n : ℕ) → n < 128 → shortest_unsigned more n ≡ n ∷ []
unfolding shortest_unsigned
one_byte zero n small = refl
one_byte (suc more) n small = grind arith

-- a longer one begins with its seven low bits
pub first_byte : (more n : ℕ) → 128 ≤ n → shortest_unsigned (suc more) n ≡ (n % 128 + 128) ∷ shortest_unsigned more (n / 128)
unfolding shortest_unsigned
first_byte more n large = grind arith

-- a first byte, and fewer behind it
pub record UnsignedStep (more n : ℕ) : Type 0 where
  pub less : ℕ
  pub fits : n / 128 < 2 ^ (7 * less + 4)
  pub bytes : shortest_unsigned more n ≡ (n % 128 + 128) ∷ shortest_unsigned less (n / 128)

-- a number of more than seven bits has a first byte, and fewer behind it
pub unsigned_step : (more n : ℕ) → 128 ≤ n → n < 2 ^ (7 * more + 4) → UnsignedStep more n
unsigned_step zero n large fits = absurd (omega arith)
unsigned_step (suc more) n large fits = record { less = more; fits = div_fits more 4 n fits; bytes = first_byte more n large }

-- a signed number of seven bits is one byte
pub one_signed_byte : (more : ℕ) (z : ℤ) → fits_seven z ≡ true → shortest_signed more z ≡ low_seven z ∷ []
unfolding shortest_signed
one_signed_byte zero z small = refl
one_signed_byte (suc more) z small = ap (λ b. cond b (low_seven z ∷ []) ((low_seven z + 128) ∷ shortest_signed more (above_seven z))) small

-- a longer one begins with its seven low bits
pub first_signed_byte : (more : ℕ) (z : ℤ) → fits_seven z ≡ false → shortest_signed (suc more) z ≡ (low_seven z + 128) ∷ shortest_signed more (above_seven z)
unfolding shortest_signed
first_signed_byte more z large = ap (λ b. cond b (low_seven z ∷ []) ((low_seven z + 128) ∷ shortest_signed more (above_seven z))) large

-- seven bits fewer are above the seven low ones of a signed number
pub above_seven_fits : (more last : ℕ) (z : ℤ) → magnitude z < 2 ^ (7 * suc more + last) → magnitude (above_seven z) < 2 ^ (7 * more + last)
above_seven_fits more last (pos n) fits = div_fits more last n fits
above_seven_fits more last (negsuc n) fits = div_fits more last n fits

-- a number of six bits and a sign fits in seven
pub small_fits_seven : (z : ℤ) → magnitude z < 2 ^ 6 → fits_seven z ≡ true
small_fits_seven (pos n) small = grind arith
small_fits_seven (negsuc n) small = grind arith

-- so does one of fewer
pub last_fits_seven : (last : ℕ) (z : ℤ) → last ≤ 6 → magnitude z < 2 ^ last → fits_seven z ≡ true
last_fits_seven last z few fits = small_fits_seven z (omega (arith, pow-le-pow_right {n = 2} (lit< tt) few))

-- a first byte of a signed number, and fewer behind it
pub record SignedStep (more : ℕ) (z : ℤ) : Type 0 where
  pub less : ℕ
  pub fits : magnitude (above_seven z) < 2 ^ (7 * less + 0)
  pub bytes : shortest_signed more z ≡ (low_seven z + 128) ∷ shortest_signed less (above_seven z)

-- a signed number of more than seven bits has a first byte, and fewer behind it
pub signed_step : (more : ℕ) (z : ℤ) → fits_seven z ≡ false → magnitude z < 2 ^ (7 * more + 0) → SignedStep more z
signed_step zero z large fits = let short = last_fits_seven 0 z (omega arith) fits in absurd (cc)
signed_step (suc more) z large fits = record { less = more; fits = above_seven_fits more 0 z fits; bytes = first_signed_byte more z large }

-- more bytes than a number needs change nothing
pub shortest_signed-enough : (more wide : ℕ) (z : ℤ) → more ≤ wide → magnitude z < 2 ^ (7 * more + 6) → shortest_signed wide z ≡ shortest_signed more z
shortest_signed-enough zero wide z few fits =
    let short = small_fits_seven z fits in one_signed_byte wide z short ∙ sym (one_signed_byte zero z short)
shortest_signed-enough (suc more) zero z few fits = absurd (omega arith)
shortest_signed-enough (suc more) (suc wide) z few fits =
    elim (fits_seven z) as (λ b. fits_seven z ≡ b → shortest_signed (suc wide) z ≡ shortest_signed (suc more) z) [
      | true ↦ λ short. one_signed_byte (suc wide) z short ∙ sym (one_signed_byte (suc more) z short)
      | false ↦ λ large.
          let behind = shortest_signed-enough more wide (above_seven z) (omega arith) (above_seven_fits more 6 z fits) in
          first_signed_byte wide z large ∙ ap (λ bytes. (low_seven z + 128) ∷ bytes) behind ∙ sym (first_signed_byte more z large)
    ] refl

-- a number of 32 bits has 31 beside its sign
pub magnitude-fits_32 : (z : ℤ) → FitsSigned w32 z → magnitude z < 2 ^ 31
magnitude-fits_32 (pos n) fits = fits.sfits
magnitude-fits_32 (negsuc n) fits = fits.sfits

-- and one of 64 bits has 63
pub magnitude-fits_64 : (z : ℤ) → FitsSigned w64 z → magnitude z < 2 ^ 63
magnitude-fits_64 (pos n) fits = fits.sfits
magnitude-fits_64 (negsuc n) fits = fits.sfits

-- as one of 64 bits, a number of 32 has the same bytes
pub i64_bytes-narrow : (z : ℤ) → FitsSigned w32 z → i64_bytes z ≡ i32_bytes z
i64_bytes-narrow z fits = shortest_signed-enough 4 9 z (omega arith) (omega (arith, magnitude-fits_32 z fits))
