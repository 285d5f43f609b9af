-- Values as numbers (Core Specification 1.0, 4.2.1 and 4.3).
use Rattle.std.specs.Prelude.{ℕ, ◌-◌, ◌^◌, ℤ, pos, negsuc, List, map}
use Rattle.hph_wasm.specs.declared.types.ValType.{ValType}
use Rattle.hph_wasm.specs.declared.types.ValType.TheVariants.{I32, I64}
use Rattle.hph_wasm.specs.declared.value.Value.{Value}
use Rattle.hph_wasm.specs.declared.value.Value.TheVariants as value

-- How many bits the values of a type have.
abbrev pub width : ValType → ℕ
width I32 = 32
width I64 = 64

-- The value of a type that a number is.
abbrev pub value_of : ValType → ℕ → Value
value_of I32 n = value.I32 n
value_of I64 n = value.I64 n

-- The type of a value.
abbrev pub type_of : Value → ValType
type_of (value.I32 n) = I32
type_of (value.I64 n) = I64

-- The types of values.
abbrev pub types : List Value → List ValType
types values = map type_of values

-- The number of its bits.
abbrev pub number_of : Value → ℕ
number_of (value.I32 n) = n
number_of (value.I64 n) = n

-- A signed number as the number of its 32 bits, in two's complement (4.3.2).
abbrev pub i32_bits : ℤ → ℕ
i32_bits (pos n) = n
i32_bits (negsuc n) = 2 ^ 32 - 1 - n

-- The same with 64 bits.
abbrev pub i64_bits : ℤ → ℕ
i64_bits (pos n) = n
i64_bits (negsuc n) = 2 ^ 64 - 1 - n

-- Locals behind the parameters begin with zero (4.4.7.1).
abbrev pub zero_values : List ValType → List Value
zero_values types = map (λ ty. value_of ty 0) types
