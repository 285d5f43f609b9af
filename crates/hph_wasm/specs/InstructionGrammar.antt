-- The binary format of instructions: section 5.4 of the WebAssembly Core Specification 1.0.
use Rattle.std.specs.Prelude.{◌≡◌, ℕ, List, []}
use Rattle.hph_wasm.specs.Leb128.{Unsigned, Signed}
use Rattle.hph_wasm.specs.Grammar.{Grammar, Byte, ◌⊳◌, Each, Vector, ResultType}
use Rattle.hph_wasm.specs.Codes.{opcode, else_code, end_code}
use Rattle.hph_wasm.specs.declared.instr.MemArg.{MemArg}
use Rattle.hph_wasm.specs.declared.instr.Instr.{Instr, Unreachable, Nop, Block', Loop', If', Br, BrIf, BrTable, Return, Call, CallIndirect, Drop, Select, LocalGet, LocalSet, LocalTee, GlobalGet, GlobalSet, Load, LoadNarrow, Store, StoreNarrow, I32Const, I64Const, Eqz, Compare, Unary, Binary, Wrap, Extend, Row_of-Instr, end_of-Instr, more_of-Instr, Held-Instr-If-2, None', Some'}

-- the opcode of an instruction
abbrev pub Opcode : Instr → Grammar
Opcode i = Byte (opcode i)

-- the end of a block, and of an expression
abbrev pub End : Grammar
End = Byte end_code

-- memory arguments (5.4.4)
abbrev pub MemoryArgument : MemArg → Grammar
MemoryArgument at = Unsigned 32 at.align ⊳ Unsigned 32 at.offset

abbrev mutual
  -- an instruction: its opcode, and what it needs behind that
  pub Instruction : Instr → List ℕ → Type 0
  -- control (5.4.1)
  Instruction Unreachable bytes = Opcode Unreachable bytes
  Instruction Nop bytes = Opcode Nop bytes
  Instruction (Block' ty shape body) bytes = (Opcode (Block' ty shape body) ⊳ ResultType ty ⊳ Instructions body ⊳ End) bytes
  Instruction (Loop' ty shape body) bytes = (Opcode (Loop' ty shape body) ⊳ ResultType ty ⊳ Instructions body ⊳ End) bytes
  Instruction (If' ty shape body other) bytes =
      (Opcode (If' ty shape body other) ⊳ ResultType ty ⊳ Instructions body ⊳ Otherwise other) bytes
  Instruction (Br label) bytes = (Opcode (Br label) ⊳ Unsigned 32 label) bytes
  Instruction (BrIf label) bytes = (Opcode (BrIf label) ⊳ Unsigned 32 label) bytes
  Instruction (BrTable labels label) bytes = (Opcode (BrTable labels label) ⊳ Vector (Unsigned 32) labels ⊳ Unsigned 32 label) bytes
  Instruction Return bytes = Opcode Return bytes
  Instruction (Call func) bytes = (Opcode (Call func) ⊳ Unsigned 32 func) bytes
  Instruction (CallIndirect ty) bytes = (Opcode (CallIndirect ty) ⊳ Unsigned 32 ty ⊳ Byte 0x00) bytes
  -- parametric (5.4.2)
  Instruction Drop bytes = Opcode Drop bytes
  Instruction Select bytes = Opcode Select bytes
  -- variables (5.4.3)
  Instruction (LocalGet local) bytes = (Opcode (LocalGet local) ⊳ Unsigned 32 local) bytes
  Instruction (LocalSet local) bytes = (Opcode (LocalSet local) ⊳ Unsigned 32 local) bytes
  Instruction (LocalTee local) bytes = (Opcode (LocalTee local) ⊳ Unsigned 32 local) bytes
  Instruction (GlobalGet global) bytes = (Opcode (GlobalGet global) ⊳ Unsigned 32 global) bytes
  Instruction (GlobalSet global) bytes = (Opcode (GlobalSet global) ⊳ Unsigned 32 global) bytes
  -- memory (5.4.4)
  Instruction (Load t at) bytes = (Opcode (Load t at) ⊳ MemoryArgument at) bytes
  Instruction (LoadNarrow part at) bytes = (Opcode (LoadNarrow part at) ⊳ MemoryArgument at) bytes
  Instruction (Store t at) bytes = (Opcode (Store t at) ⊳ MemoryArgument at) bytes
  Instruction (StoreNarrow part at) bytes = (Opcode (StoreNarrow part at) ⊳ MemoryArgument at) bytes
  -- numbers (5.4.5)
  Instruction (I32Const value) bytes = (Opcode (I32Const value) ⊳ Signed 32 value) bytes
  Instruction (I64Const value) bytes = (Opcode (I64Const value) ⊳ Signed 64 value) bytes
  Instruction (Eqz t) bytes = Opcode (Eqz t) bytes
  Instruction (Compare t o) bytes = Opcode (Compare t o) bytes
  Instruction (Unary t o) bytes = Opcode (Unary t o) bytes
  Instruction (Binary t o) bytes = Opcode (Binary t o) bytes
  Instruction Wrap bytes = Opcode Wrap bytes
  Instruction (Extend s) bytes = Opcode (Extend s) bytes

  -- the instructions inside a block
  pub Instructions : {n : _} → Row_of-Instr n → List ℕ → Type 0
  Instructions end_of-Instr bytes = bytes ≡ []
  Instructions (more_of-Instr i rest) bytes = (Instruction i ⊳ Instructions rest) bytes

  -- what stands behind the first branch of an `if`: its end, or a second branch
  pub Otherwise : Held-Instr-If-2 → List ℕ → Type 0
  Otherwise None' bytes = End bytes
  Otherwise (Some' shape body) bytes = (Byte else_code ⊳ Instructions body ⊳ End) bytes

-- an expression: instructions and an end (5.4.6)
abbrev pub Expression : List Instr → Grammar
Expression body = Each Instruction body ⊳ End
