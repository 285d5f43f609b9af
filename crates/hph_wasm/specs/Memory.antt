-- Memories: lists of bytes, which loads and stores see as numbers with the lowest byte first (Core Specification 1.0, 4.3.1 and 4.4.4).
use Rattle.std.specs.Prelude.{ℕ, zero, suc, ◌+◌, ◌*◌, ◌/◌, ◌%◌, List, [], ◌∷◌, ◌++◌, length, take, drop, nat_le, if◌then◌else◌, Option, Some, None}
use Rattle.hph_wasm.specs.declared.types.ValType.{ValType}
use Rattle.hph_wasm.specs.declared.types.ValType.TheVariants.{I32, I64}
use Rattle.hph_wasm.specs.declared.value.Value.{Value}
use Rattle.hph_wasm.specs.declared.instr.Sign.{Sign}
use Rattle.hph_wasm.specs.declared.instr.NarrowLoad.{NarrowLoad}
use Rattle.hph_wasm.specs.declared.instr.NarrowLoad.TheVariants.{I32From8, I32From16, I64From8, I64From16, I64From32}
use Rattle.hph_wasm.specs.declared.instr.NarrowStore.{NarrowStore}
use Rattle.hph_wasm.specs.declared.instr.NarrowStore.TheVariants.{I32To8, I32To16, I64To8, I64To16, I64To32}
use Rattle.hph_wasm.specs.Values.{width, value_of}
use Rattle.hph_wasm.specs.Integers.{extended}

-- The lowest bytes of a number, so many.
abbrev pub bytes_of : ℕ → ℕ → List ℕ
bytes_of zero n = []
bytes_of (suc count) n = n % 256 ∷ bytes_of count (n / 256)

-- The number that bytes are.
abbrev pub number_in : List ℕ → ℕ
number_in [] = 0
number_in (b ∷ bytes) = b + 256 * number_in bytes

-- The number at an address, of so many bytes, if all of them are there.
unfoldable pub loaded : (address count : ℕ) → List ℕ → Option ℕ
loaded address count memory =
    if nat_le (address + count) (length memory) then Some (number_in (take count (drop address memory))) else None

-- The memory with a number at an address, if there is room for so many bytes.
unfoldable pub stored : (address count number : ℕ) → List ℕ → Option (List ℕ)
stored address count number memory =
    if nat_le (address + count) (length memory)
    then Some (take address memory ++ (bytes_of count number ++ drop (address + count) memory)) else None

-- How many bytes a value of a type has.
abbrev pub byte_width : ValType → ℕ
byte_width ty = width ty / 8

-- The type of the value that a narrow load gives.
abbrev pub load_type : NarrowLoad → ValType
load_type (I32From8 sign) = I32
load_type (I32From16 sign) = I32
load_type (I64From8 sign) = I64
load_type (I64From16 sign) = I64
load_type (I64From32 sign) = I64

-- How many bytes it loads.
abbrev pub load_bytes : NarrowLoad → ℕ
load_bytes (I32From8 sign) = 1
load_bytes (I32From16 sign) = 2
load_bytes (I64From8 sign) = 1
load_bytes (I64From16 sign) = 2
load_bytes (I64From32 sign) = 4

-- How it fills the bits above those.
abbrev pub load_sign : NarrowLoad → Sign
load_sign (I32From8 sign) = sign
load_sign (I32From16 sign) = sign
load_sign (I64From8 sign) = sign
load_sign (I64From16 sign) = sign
load_sign (I64From32 sign) = sign

-- The value that it makes of the number of those bytes.
abbrev pub narrow_value : NarrowLoad → ℕ → Value
narrow_value load n = value_of (load_type load) (extended (load_sign load) (load_bytes load * 8) (width (load_type load)) n)

-- The type of the value that a narrow store takes.
abbrev pub store_type : NarrowStore → ValType
store_type I32To8 = I32
store_type I32To16 = I32
store_type I64To8 = I64
store_type I64To16 = I64
store_type I64To32 = I64

-- How many bytes it stores.
abbrev pub store_bytes : NarrowStore → ℕ
store_bytes I32To8 = 1
store_bytes I32To16 = 2
store_bytes I64To8 = 1
store_bytes I64To16 = 2
store_bytes I64To32 = 4
