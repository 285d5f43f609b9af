-- Spellings in LEB128 from elsewhere: 624485 and -123456 of Wikipedia's page on LEB128, and 3, -2 and the malformed ones of the notes in the Core Specification 1.0, 5.2.2.
use Rattle.std.proofs.Common.{◌≡◌, ℕ, [], ◌∷◌, refl, arith, inl, inr}
use Rattle.std.specs.Prelude.{ℤ, pos, negsuc}
use Rattle.hph_wasm.specs.Leb128.{Unsigned, Signed, shortest_unsigned, shortest_signed, u32_bytes, i32_bytes}

-- 624485 is E5 8E 26, and is written so
unsigned_624485 : Unsigned 32 624485 (0xE5 ∷ 0x8E ∷ 0x26 ∷ [])
unsigned_624485 = (omega arith, omega arith, omega arith, 4878, refl, (omega arith, omega arith, omega arith, 38, refl, (omega arith, omega arith, refl)))

written_624485 : u32_bytes 624485 ≡ 0xE5 ∷ 0x8E ∷ 0x26 ∷ []
unfolding shortest_unsigned
written_624485 = refl

-- -123456 is C0 BB 78, and is written so
signed_-123456 : Signed 32 (negsuc 123455) (0xC0 ∷ 0xBB ∷ 0x78 ∷ [])
signed_-123456 = (omega arith, omega arith, omega arith, negsuc 964, refl, (omega arith, omega arith, omega arith, negsuc 7, refl, inr (omega arith, omega arith, omega arith, refl)))

written_-123456 : i32_bytes (negsuc 123455) ≡ 0xC0 ∷ 0xBB ∷ 0x78 ∷ []
unfolding shortest_signed
written_-123456 = refl

-- 64 and -65 need a second byte, since the sixth bit is the sign
written_64 : i32_bytes (pos 64) ≡ 0xC0 ∷ 0x00 ∷ []
unfolding shortest_signed
written_64 = refl

written_-65 : i32_bytes (negsuc 64) ≡ 0xBF ∷ 0x7F ∷ []
unfolding shortest_signed
written_-65 = refl

-- the greatest numbers of 32 bits have five bytes
written_4294967295 : u32_bytes 4294967295 ≡ 0xFF ∷ 0xFF ∷ 0xFF ∷ 0xFF ∷ 0x0F ∷ []
unfolding shortest_unsigned
written_4294967295 = refl

written_2147483647 : i32_bytes (pos 2147483647) ≡ 0xFF ∷ 0xFF ∷ 0xFF ∷ 0xFF ∷ 0x07 ∷ []
unfolding shortest_signed
written_2147483647 = refl

written_-2147483648 : i32_bytes (negsuc 2147483647) ≡ 0x80 ∷ 0x80 ∷ 0x80 ∷ 0x80 ∷ 0x78 ∷ []
unfolding shortest_signed
written_-2147483648 = refl

-- 3 may be spelled by more bytes than it needs
overlong_3 : Unsigned 32 3 (0x83 ∷ 0x00 ∷ [])
overlong_3 = (omega arith, omega arith, omega arith, 0, refl, (omega arith, omega arith, refl))

-- -2 is 7E, FE 7F and FE FF 7F
signed_-2 : Signed 16 (negsuc 1) (0x7E ∷ [])
signed_-2 = inr (omega arith, omega arith, omega arith, refl)

signed_-2-in_two : Signed 16 (negsuc 1) (0xFE ∷ 0x7F ∷ [])
signed_-2-in_two = (omega arith, omega arith, omega arith, negsuc 0, refl, inr (omega arith, omega arith, omega arith, refl))

signed_-2-in_three : Signed 16 (negsuc 1) (0xFE ∷ 0xFF ∷ 0x7F ∷ [])
signed_-2-in_three = (omega arith, omega arith, omega arith, negsuc 0, refl, (omega arith, omega arith, omega arith, negsuc 0, refl, inr (omega arith, omega arith, omega arith, refl)))

-- a last byte has no bits above those of the number: 83 10 is no number of 8 bits, nor are 83 3E and FF 7B signed ones
unused_bits : (n : ℕ) → Unsigned 8 n (0x83 ∷ 0x10 ∷ []) → ⊥
unused_bits n p = omega (arith, p.5.1)

unused_bits-pos : (z : ℤ) → Signed 8 z (0x83 ∷ 0x3E ∷ []) → ⊥
unused_bits-pos z p = elim p.5 [ inl q ↦ omega (arith, q.1) | inr q ↦ omega (arith, q.0) ]

unused_bits-neg : (z : ℤ) → Signed 8 z (0xFF ∷ 0x7B ∷ []) → ⊥
unused_bits-neg z p = elim p.5 [ inl q ↦ omega (arith, q.0) | inr q ↦ omega (arith, q.2) ]

-- six bytes are too many for 32 bits
six_bytes : (n a b c d e f : ℕ) → Unsigned 32 n (a ∷ b ∷ c ∷ d ∷ e ∷ f ∷ []) → ⊥
six_bytes n a b c d e f p = omega (arith, p.5.5.5.5.2)
