-- Spellings by the rule, worked out by hand from section 5.2.2 of the WebAssembly Core Specification 1.0, and readings of them.
use Rattle.std.proofs.Common.{◌≡◌, zero, suc, ◌-◌, ◌^◌, [], ◌∷◌, Some, None, refl, arith}
use Rattle.std.specs.Prelude.{pos, negsuc}
use Rattle.hph_wasm.specs.Leb128.{Unsigned, shortest_unsigned, shortest_signed, u32_bytes, i32_bytes, i64_bytes}
use Rattle.hph_leb.specs.Reading.{IsReading}

-- 127 is the largest number of one byte
one_byte_at_most : u32_bytes 127 ≡ 0x7F ∷ []
unfolding shortest_unsigned
one_byte_at_most = refl

-- 128 has a byte of its lowest bits before it
two_bytes_at_least : u32_bytes 128 ≡ 0x80 ∷ 0x01 ∷ []
unfolding shortest_unsigned
two_bytes_at_least = refl

-- -64 is the least number of one byte
least_signed_byte : i32_bytes (negsuc 63) ≡ 0x40 ∷ []
unfolding shortest_signed
least_signed_byte = refl

-- a positive number whose seventh bit is set needs a byte for its sign
sign_needs_a_byte : i32_bytes (pos 64) ≡ 0xC0 ∷ 0x00 ∷ []
unfolding shortest_signed
sign_needs_a_byte = refl

-- the greatest number of 64 bits has a tenth byte for its sign alone
greatest_i64 : i64_bytes (pos (2 ^ 63 - 1)) ≡ 0xFF ∷ 0xFF ∷ 0xFF ∷ 0xFF ∷ 0xFF ∷ 0xFF ∷ 0xFF ∷ 0xFF ∷ 0xFF ∷ 0x00 ∷ []
unfolding shortest_signed
greatest_i64 = refl

-- and so has the least
least_i64 : i64_bytes (negsuc (2 ^ 63 - 1)) ≡ 0x80 ∷ 0x80 ∷ 0x80 ∷ 0x80 ∷ 0x80 ∷ 0x80 ∷ 0x80 ∷ 0x80 ∷ 0x80 ∷ 0x7F ∷ []
unfolding shortest_signed
least_i64 = refl

-- a front of two bytes spells 0, and the byte behind it is left
overlong_zero : IsReading (Unsigned 32) (0x80 ∷ 0x00 ∷ 0x05 ∷ []) (Some (0, 2))
overlong_zero = (omega arith, (omega arith, omega arith, omega arith, 0, refl, (omega arith, omega arith, refl)))

-- a byte that asks for another spells no number alone
unfinished : IsReading (Unsigned 32) (0x80 ∷ []) None
unfinished n zero spells = spells
unfinished n (suc zero) spells = omega (arith, spells.0)
unfinished n (suc (suc count)) spells = omega (arith, spells.0)
