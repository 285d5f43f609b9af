-- The shortest forms of numbers are spellings, and no spelling is shorter.
use Rattle.std.proofs.Common.{◌≡◌, ◌<◌, ◌≤◌, ℕ, zero, suc, ◌+◌, ◌-◌, ◌*◌, ◌/◌, ◌%◌, ◌^◌, List, [], ◌∷◌, length, true, false, refl, ap, subst, sym, arith, inl, inr, lit<, FitsSigned, w32, w64}
use Rattle.std.proofs.lemmas.Bool.{cases_lt}
use Rattle.std.proofs.lemmas.Nat.{mod_below}
use Rattle.std.specs.Prelude.{ℤ, pos, negsuc, ◌+ℤ◌, ◌*ℤ◌}
use Rattle.std.proofs.lemmas.Int.{ints}
use Rattle.hph_wasm.specs.Leb128.{Unsigned, Signed, shortest_unsigned, shortest_signed, u32_bytes, i32_bytes, i64_bytes, fits_seven, low_seven, above_seven}
use Rattle.hph_leb.proofs.Bytewise.{Unsigned-cons, Signed-cons}
use Rattle.hph_leb.proofs.ShortestNumbers.{magnitude, div_fits, one_byte, first_byte, one_signed_byte, first_signed_byte, above_seven_fits, last_fits_seven, magnitude-fits_32, magnitude-fits_64}

-- the shortest form of a number of so many bits spells it
unsigned_spelled : (more n : ℕ) → n < 2 ^ (7 * more + 4) → Unsigned (7 * more + 4) n (shortest_unsigned more n)
unsigned_spelled zero n fits = rw (one_byte zero n (omega arith)) (omega arith, fits, refl)
unsigned_spelled (suc more) n fits =
    elim (cases_lt n 128) [
      | inl small ↦ rw (one_byte (suc more) n small) (small, fits, refl)
      | inr large ↦
          let seven_fewer : 7 * more + 4 ≡ (7 * suc more + 4) - 7 = omega arith in
          let behind = subst (λ bits. Unsigned bits (n / 128) (shortest_unsigned more (n / 128))) seven_fewer (unsigned_spelled more (n / 128) (div_fits more 4 n fits)) in
          rw (first_byte more n large)
          (Unsigned-cons (7 * suc more + 4) n (n % 128 + 128) (n / 128) (shortest_unsigned more (n / 128)) (omega arith) (omega (arith, mod_below n 128 (lit< tt))) (omega arith) (omega arith) behind)
    ]

-- the shortest form of a number of 32 bits spells it
pub u32_spelled : (n : ℕ) → n < 2 ^ 32 → Unsigned 32 n (u32_bytes n)
u32_spelled n fits = unsigned_spelled 4 n fits

-- a signed number of seven bits is spelled by them
one_signed_byte-spelled : (bits : ℕ) (z : ℤ) → fits_seven z ≡ true → magnitude z < 2 ^ (bits - 1) → Signed bits z (low_seven z ∷ [])
one_signed_byte-spelled bits (pos n) small fits = let h : n < 64 = grind arith in inl (omega arith, omega arith, ap pos (omega arith))
one_signed_byte-spelled bits (negsuc n) small fits = let h : n < 64 = grind arith in inr (omega arith, omega arith, omega arith, omega (arith, ints))

-- a number is its seven low bits and what is above them
low_and_above : (z : ℤ) → z +ℤ pos 128 ≡ pos (low_seven z + 128) +ℤ (pos 128 *ℤ above_seven z)
low_and_above (pos n) = ap pos (omega arith)
low_and_above (negsuc n) = let h = mod_below n 128 (lit< tt) in omega (arith, ints)

-- seven bits are below 128
low_seven_below : (z : ℤ) → low_seven z < 128
low_seven_below (pos n) = mod_below n 128 (lit< tt)
low_seven_below (negsuc n) = omega arith

-- a signed number of seven bits has one byte
short_signed_spelled : (more last : ℕ) (z : ℤ) → fits_seven z ≡ true → magnitude z < 2 ^ (7 * more + last) → Signed (7 * more + last + 1) z (shortest_signed more z)
short_signed_spelled more last z small fits =
    let sign_apart : 7 * more + last ≡ (7 * more + last + 1) - 1 = omega arith in
    rw (one_signed_byte more z small) (one_signed_byte-spelled (7 * more + last + 1) z small (subst (λ k. magnitude z < 2 ^ k) sign_apart fits))

-- the shortest form of a signed number of so many bits and a sign spells it
signed_spelled : (more last : ℕ) (z : ℤ) → last ≤ 6 → magnitude z < 2 ^ (7 * more + last) → Signed (7 * more + last + 1) z (shortest_signed more z)
signed_spelled zero last z few fits =
    let none : 7 * zero + last ≡ last = omega arith in
    short_signed_spelled zero last z (last_fits_seven last z few (subst (λ k. magnitude z < 2 ^ k) none fits)) fits
signed_spelled (suc more) last z few fits =
    elim (fits_seven z) as (λ b. fits_seven z ≡ b → Signed (7 * suc more + last + 1) z (shortest_signed (suc more) z)) [
      | true ↦ λ small. short_signed_spelled (suc more) last z small fits
      | false ↦ λ large.
          let seven_fewer : 7 * more + last + 1 ≡ (7 * suc more + last + 1) - 7 = omega arith in
          let behind = subst (λ bits. Signed bits (above_seven z) (shortest_signed more (above_seven z))) seven_fewer (signed_spelled more last (above_seven z) few (above_seven_fits more last z fits)) in
          rw (first_signed_byte more z large)
          (Signed-cons (7 * suc more + last + 1) z (low_seven z + 128) (above_seven z) (shortest_signed more (above_seven z)) (omega arith) (omega (arith, low_seven_below z)) (omega arith) (low_and_above z) behind)
    ] refl

-- the shortest form of a signed number of 32 bits spells it
pub i32_spelled : (z : ℤ) → FitsSigned w32 z → Signed 32 z (i32_bytes z)
i32_spelled z fits = signed_spelled 4 3 z (omega arith) (magnitude-fits_32 z fits)

-- and so does that of one of 64 bits
pub i64_spelled : (z : ℤ) → FitsSigned w64 z → Signed 64 z (i64_bytes z)
i64_spelled z fits = signed_spelled 9 0 z (omega arith) (magnitude-fits_64 z fits)

-- where no more bytes may follow, there is one
length-last_byte : (n : ℕ) → length (shortest_unsigned zero n) ≡ 1
unfolding shortest_unsigned
length-last_byte n = refl

-- the same of signed numbers
length-last_signed_byte : (z : ℤ) → length (shortest_signed zero z) ≡ 1
unfolding shortest_signed
length-last_signed_byte z = refl

-- no spelling of an unsigned number is shorter
pub unsigned_least : (more bits n : ℕ) (bytes : List ℕ) → Unsigned bits n bytes → length (shortest_unsigned more n) ≤ length bytes
unsigned_least more bits n [] spells = absurd spells
unsigned_least more bits n (b ∷ []) spells = rw (one_byte more n (omega (arith, spells.0, spells.2))) (omega arith)
unsigned_least zero bits n (b ∷ c ∷ bytes) spells = omega (arith, length-last_byte n)
unsigned_least (suc more) bits n (b ∷ c ∷ bytes) spells =
    elim (cases_lt n 128) [
      | inl small ↦ rw (one_byte (suc more) n small) (omega arith)
      | inr large ↦
          let high : n / 128 ≡ spells.3 = omega (arith, spells.0, spells.1, spells.4) in
          let rest : length (shortest_unsigned more (n / 128)) ≤ length (c ∷ bytes) = unsigned_least more (bits - 7) (n / 128) (c ∷ bytes) (subst (λ m. Unsigned (bits - 7) m (c ∷ bytes)) (sym high) spells.5) in
          rw (first_byte more n large) (omega arith)
    ]

-- what one byte spells fits in seven bits
one_byte_fits : (bits : ℕ) (z : ℤ) (b : ℕ) → Signed bits z (b ∷ []) → fits_seven z ≡ true
one_byte_fits bits (pos n) b (inl spells) = let small : n < 64 = omega (arith, ints, spells.0, spells.2) in grind arith
one_byte_fits bits (negsuc n) b (inl spells) = absurd (omega (arith, ints, spells.2))
one_byte_fits bits (pos n) b (inr spells) = absurd (omega (arith, ints, spells.1, spells.3))
one_byte_fits bits (negsuc n) b (inr spells) = let small : n < 64 = omega (arith, ints, spells.0, spells.3) in grind arith

-- a first byte leaves what is above seven bits
above_first_byte : (z high : ℤ) (b : ℕ) → 128 ≤ b → b < 256 → z +ℤ pos 128 ≡ pos b +ℤ (pos 128 *ℤ high) → above_seven z ≡ high
above_first_byte (pos n) (pos h) b low top is = let same : n + 128 ≡ b + 128 * h = omega (arith, ints) in ap pos (omega arith)
above_first_byte (pos n) (negsuc h) b low top is = absurd (omega (arith, ints))
above_first_byte (negsuc n) (pos h) b low top is = absurd (omega (arith, ints))
above_first_byte (negsuc n) (negsuc h) b low top is = let same : n + b ≡ 255 + 128 * h = omega (arith, ints) in ap negsuc (omega arith)

-- no spelling of a signed number is shorter
pub signed_least : (more bits : ℕ) (z : ℤ) (bytes : List ℕ) → Signed bits z bytes → length (shortest_signed more z) ≤ length bytes
signed_least more bits z [] spells = absurd spells
signed_least more bits z (b ∷ []) spells = rw (one_signed_byte more z (one_byte_fits bits z b spells)) (omega arith)
signed_least zero bits z (b ∷ c ∷ bytes) spells = omega (arith, length-last_signed_byte z)
signed_least (suc more) bits z (b ∷ c ∷ bytes) spells =
    elim (fits_seven z) as (λ fit. fits_seven z ≡ fit → length (shortest_signed (suc more) z) ≤ length (b ∷ c ∷ bytes)) [
      | true ↦ λ small. rw (one_signed_byte (suc more) z small) (omega arith)
      | false ↦ λ large.
          let high : above_seven z ≡ spells.3 = above_first_byte z spells.3 b spells.0 spells.1 spells.4 in
          let rest : length (shortest_signed more (above_seven z)) ≤ length (c ∷ bytes) = signed_least more (bits - 7) (above_seven z) (c ∷ bytes) (subst (λ y. Signed (bits - 7) y (c ∷ bytes)) (sym high) spells.5) in
          rw (first_signed_byte more z large) (omega arith)
    ] refl
