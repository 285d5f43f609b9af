-- Numbers in LEB128: section 5.2.2 of the WebAssembly Core Specification 1.0.
use Rattle.std.specs.Prelude.{◌≡◌, ◌<◌, ◌≤◌, ◌⊎◌, ℕ, zero, suc, ◌+◌, ◌-◌, ◌*◌, ◌/◌, ◌%◌, ◌^◌, ℤ, pos, negsuc, ◌+ℤ◌, ◌*ℤ◌, Bool, List, [], ◌∷◌, nat_lt, if◌then◌else◌}

-- bytes spell an unsigned number of so many bits
abbrev pub Unsigned : ℕ → ℕ → List ℕ → Type 0
Unsigned bits n [] = ⊥
Unsigned bits n (b ∷ []) = (b < 2 ^ 7) × (b < 2 ^ bits) × (n ≡ b)
Unsigned bits n (b ∷ c ∷ bytes) = (2 ^ 7 ≤ b) × (b < 2 ^ 8) × (7 < bits) × (high : ℕ) × (n + 2 ^ 7 ≡ b + 2 ^ 7 * high) × Unsigned (bits - 7) high (c ∷ bytes)

-- bytes spell a signed number of so many bits
abbrev pub Signed : ℕ → ℤ → List ℕ → Type 0
Signed bits z [] = ⊥
Signed bits z (b ∷ []) = ((b < 2 ^ 6) × (b < 2 ^ (bits - 1)) × (z ≡ pos b)) ⊎ ((2 ^ 6 ≤ b) × (b < 2 ^ 7) × (2 ^ 7 ≤ b + 2 ^ (bits - 1)) × (z +ℤ pos (2 ^ 7) ≡ pos b))
Signed bits z (b ∷ c ∷ bytes) = (2 ^ 7 ≤ b) × (b < 2 ^ 8) × (7 < bits) × (high : ℤ) × (z +ℤ pos (2 ^ 7) ≡ pos b +ℤ (pos (2 ^ 7) *ℤ high)) × Signed (bits - 7) high (c ∷ bytes)

-- The shortest spelling of an unsigned number, in at most so many bytes and one more.
unfoldable pub shortest_unsigned : ℕ → ℕ → List ℕ
shortest_unsigned zero n = n ∷ []
shortest_unsigned (suc more) n = if nat_lt n 128 then n ∷ [] else (n % 128 + 128) ∷ shortest_unsigned more (n / 128)

-- the seven low bits of a number, and what is above them
abbrev pub low_seven : ℤ → ℕ
low_seven (pos n) = n % 128
low_seven (negsuc n) = 127 - n % 128

abbrev pub above_seven : ℤ → ℤ
above_seven (pos n) = pos (n / 128)
above_seven (negsuc n) = negsuc (n / 128)

-- whether seven bits, of which the highest is the sign, are enough
abbrev pub fits_seven : ℤ → Bool
fits_seven (pos n) = nat_lt n 64
fits_seven (negsuc n) = nat_lt n 64

-- The shortest spelling of a signed number, in at most so many bytes and one more.
unfoldable pub shortest_signed : ℕ → ℤ → List ℕ
shortest_signed zero z = low_seven z ∷ []
shortest_signed (suc more) z = if fits_seven z then low_seven z ∷ [] else (low_seven z + 128) ∷ shortest_signed more (above_seven z)

-- numbers of 32 bits
abbrev pub u32_bytes : ℕ → List ℕ
u32_bytes n = shortest_unsigned 4 n

abbrev pub i32_bytes : ℤ → List ℕ
i32_bytes z = shortest_signed 4 z

-- numbers of 64 bits
abbrev pub i64_bytes : ℤ → List ℕ
i64_bytes z = shortest_signed 9 z
