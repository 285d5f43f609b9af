-- The bytes that instructions begin with: section 5.4 of the WebAssembly Core Specification 1.0 and its index of instructions.
-- They are the codes of the table of opcodes in the library of case tables, as a law says.
use Rattle.std.specs.Prelude.{ℕ, ◌+◌, [], None, pos}
use Rattle.hph_wasm.specs.declared.types.ValType.{ValType}
use Rattle.hph_wasm.specs.declared.types.ValType.TheVariants.{I32, I64}
use Rattle.hph_wasm.specs.declared.instr.Sign.{Sign}
use Rattle.hph_wasm.specs.declared.instr.Sign.TheVariants.{Signed, Unsigned}
use Rattle.hph_wasm.specs.declared.instr.Unary as unary
use Rattle.hph_wasm.specs.declared.instr.Unary.TheVariants.{Clz, Ctz, Popcnt}
use Rattle.hph_wasm.specs.declared.instr.Binary as binary
use Rattle.hph_wasm.specs.declared.instr.Binary.TheVariants.{Add, Sub, Mul, Div, Rem, And, Or, Xor, Shl, Shr, Rotl, Rotr}
use Rattle.hph_wasm.specs.declared.instr.Comparison.{Comparison}
use Rattle.hph_wasm.specs.declared.instr.Comparison.TheVariants.{Eq, Ne, Lt, Gt, Le, Ge}
use Rattle.hph_wasm.specs.declared.instr.NarrowLoad.{NarrowLoad}
use Rattle.hph_wasm.specs.declared.instr.NarrowLoad.TheVariants.{I32From8, I32From16, I64From8, I64From16, I64From32}
use Rattle.hph_wasm.specs.declared.instr.NarrowStore.{NarrowStore}
use Rattle.hph_wasm.specs.declared.instr.NarrowStore.TheVariants.{I32To8, I32To16, I64To8, I64To16, I64To32}
use Rattle.hph_wasm.specs.declared.instr.Instr.{Instr, Unreachable, Nop, Block', Loop', If', Br, BrIf, BrTable, Return, Call, CallIndirect, Drop, Select, LocalGet, LocalSet, LocalTee, GlobalGet, GlobalSet, Load, LoadNarrow, Store, StoreNarrow, I32Const, I64Const, Eqz, Compare, Unary, Binary, Wrap, Extend, end_of-Instr, None'}

-- the code of an operation, where that for signed numbers comes first
abbrev pub by_sign : Sign → ℕ → ℕ
by_sign Signed code = code
by_sign Unsigned code = code + 1

-- memory instructions (5.4.4)
abbrev pub load_code : ValType → ℕ
load_code I32 = 0x28
load_code I64 = 0x29

abbrev pub narrow_load_code : NarrowLoad → ℕ
narrow_load_code (I32From8 s) = by_sign s 0x2C
narrow_load_code (I32From16 s) = by_sign s 0x2E
narrow_load_code (I64From8 s) = by_sign s 0x30
narrow_load_code (I64From16 s) = by_sign s 0x32
narrow_load_code (I64From32 s) = by_sign s 0x34

abbrev pub store_code : ValType → ℕ
store_code I32 = 0x36
store_code I64 = 0x37

abbrev pub narrow_store_code : NarrowStore → ℕ
narrow_store_code I32To8 = 0x3A
narrow_store_code I32To16 = 0x3B
narrow_store_code I64To8 = 0x3C
narrow_store_code I64To16 = 0x3D
narrow_store_code I64To32 = 0x3E

-- numeric instructions (5.4.5): tests and comparisons, with those of i32 first
abbrev pub eqz_code : ValType → ℕ
eqz_code I32 = 0x45
eqz_code I64 = 0x50

abbrev pub comparison_code : ValType → Comparison → ℕ
comparison_code I32 Eq = 0x46
comparison_code I32 Ne = 0x47
comparison_code I32 (Lt s) = by_sign s 0x48
comparison_code I32 (Gt s) = by_sign s 0x4A
comparison_code I32 (Le s) = by_sign s 0x4C
comparison_code I32 (Ge s) = by_sign s 0x4E
comparison_code I64 Eq = 0x51
comparison_code I64 Ne = 0x52
comparison_code I64 (Lt s) = by_sign s 0x53
comparison_code I64 (Gt s) = by_sign s 0x55
comparison_code I64 (Le s) = by_sign s 0x57
comparison_code I64 (Ge s) = by_sign s 0x59

-- operations on one number
abbrev pub unary_code : ValType → unary.Unary → ℕ
unary_code I32 Clz = 0x67
unary_code I32 Ctz = 0x68
unary_code I32 Popcnt = 0x69
unary_code I64 Clz = 0x79
unary_code I64 Ctz = 0x7A
unary_code I64 Popcnt = 0x7B

-- operations on two numbers
abbrev pub binary_code : ValType → binary.Binary → ℕ
binary_code I32 Add = 0x6A
binary_code I32 Sub = 0x6B
binary_code I32 Mul = 0x6C
binary_code I32 (Div s) = by_sign s 0x6D
binary_code I32 (Rem s) = by_sign s 0x6F
binary_code I32 And = 0x71
binary_code I32 Or = 0x72
binary_code I32 Xor = 0x73
binary_code I32 Shl = 0x74
binary_code I32 (Shr s) = by_sign s 0x75
binary_code I32 Rotl = 0x77
binary_code I32 Rotr = 0x78
binary_code I64 Add = 0x7C
binary_code I64 Sub = 0x7D
binary_code I64 Mul = 0x7E
binary_code I64 (Div s) = by_sign s 0x7F
binary_code I64 (Rem s) = by_sign s 0x81
binary_code I64 And = 0x83
binary_code I64 Or = 0x84
binary_code I64 Xor = 0x85
binary_code I64 Shl = 0x86
binary_code I64 (Shr s) = by_sign s 0x87
binary_code I64 Rotl = 0x89
binary_code I64 Rotr = 0x8A

-- the opcode of an instruction (5.4.1 to 5.4.5)
abbrev pub opcode : Instr → ℕ
opcode Unreachable = 0x00
opcode Nop = 0x01
opcode (Block' ty shape body) = 0x02
opcode (Loop' ty shape body) = 0x03
opcode (If' ty shape body other) = 0x04
opcode (Br label) = 0x0C
opcode (BrIf label) = 0x0D
opcode (BrTable labels label) = 0x0E
opcode Return = 0x0F
opcode (Call func) = 0x10
opcode (CallIndirect ty) = 0x11
opcode Drop = 0x1A
opcode Select = 0x1B
opcode (LocalGet local) = 0x20
opcode (LocalSet local) = 0x21
opcode (LocalTee local) = 0x22
opcode (GlobalGet global) = 0x23
opcode (GlobalSet global) = 0x24
opcode (Load t at) = load_code t
opcode (LoadNarrow part at) = narrow_load_code part
opcode (Store t at) = store_code t
opcode (StoreNarrow part at) = narrow_store_code part
opcode (I32Const value) = 0x41
opcode (I64Const value) = 0x42
opcode (Eqz t) = eqz_code t
opcode (Compare t o) = comparison_code t o
opcode (Unary t o) = unary_code t o
opcode (Binary t o) = binary_code t o
opcode Wrap = 0xA7
opcode (Extend s) = by_sign s 0xAC

-- what stands before the second branch of an `if`, and at the end of a block and of an expression
abbrev pub else_code : ℕ
else_code = 0x05

abbrev pub end_code : ℕ
end_code = 0x0B

-- an instruction's form: the one of the same opcode whose immediates are 0 or empty
abbrev pub form : Instr → Instr
form (Block' ty shape body) = Block' (record { result = None }) [] end_of-Instr
form (Loop' ty shape body) = Loop' (record { result = None }) [] end_of-Instr
form (If' ty shape body other) = If' (record { result = None }) [] end_of-Instr None'
form (Br label) = Br 0
form (BrIf label) = BrIf 0
form (BrTable labels label) = BrTable [] 0
form (Call func) = Call 0
form (CallIndirect ty) = CallIndirect 0
form (LocalGet local) = LocalGet 0
form (LocalSet local) = LocalSet 0
form (LocalTee local) = LocalTee 0
form (GlobalGet global) = GlobalGet 0
form (GlobalSet global) = GlobalSet 0
form (Load t at) = Load t (record { align = 0; offset = 0 })
form (LoadNarrow part at) = LoadNarrow part (record { align = 0; offset = 0 })
form (Store t at) = Store t (record { align = 0; offset = 0 })
form (StoreNarrow part at) = StoreNarrow part (record { align = 0; offset = 0 })
form (I32Const value) = I32Const (pos 0)
form (I64Const value) = I64Const (pos 0)
form i = i

-- how many immediates stand behind an opcode: a block's type, a number, a vector, each part of a memory argument, a fixed byte
abbrev pub immediates : Instr → ℕ
immediates (Block' ty shape body) = 1
immediates (Loop' ty shape body) = 1
immediates (If' ty shape body other) = 1
immediates (Br label) = 1
immediates (BrIf label) = 1
immediates (BrTable labels label) = 2
immediates (Call func) = 1
immediates (CallIndirect ty) = 2
immediates (LocalGet local) = 1
immediates (LocalSet local) = 1
immediates (LocalTee local) = 1
immediates (GlobalGet global) = 1
immediates (GlobalSet global) = 1
immediates (Load t at) = 2
immediates (LoadNarrow part at) = 2
immediates (Store t at) = 2
immediates (StoreNarrow part at) = 2
immediates (I32Const value) = 1
immediates (I64Const value) = 1
immediates i = 0
