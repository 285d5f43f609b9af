-- What stands behind opcodes: section 5.4 of the WebAssembly Core Specification 1.0.
use Rattle.std.specs.Prelude.{◌<◌, ◌⊎◌, ℕ}
use Rattle.hph_wasm.specs.OneWay.{StopsSequence}
use Rattle.hph_wasm.specs.Unsupported.{Stop, AtByte, left_out, StopsInstruction}
use Rattle.hph_wasm.specs.Codes.{load_code, narrow_load_code, store_code, narrow_store_code}
use Rattle.hph_wasm.specs.declared.instr.Instr.{Instr, Unreachable, Nop, Br, BrIf, Return, Call, Drop, Select, LocalGet, LocalSet, LocalTee, GlobalGet, GlobalSet, Load, LoadNarrow, Store, StoreNarrow, Eqz, Compare, Unary, Binary, Wrap, Extend}
use Rattle.hph_wasm.specs.declared.instr.MemArg.{MemArg}
use Rattle.hph_wread.specs.declared.forms.BlockForm.{BlockForm}
use Rattle.hph_wread.specs.declared.forms.BlockForm.TheVariants.{Block, Loop, If}
use Rattle.hph_wread.specs.declared.forms.IndexForm.{IndexForm}
use Rattle.hph_wread.specs.declared.forms.IndexForm.TheVariants as index
use Rattle.hph_wread.specs.declared.forms.AccessForm.{AccessForm}
use Rattle.hph_wread.specs.declared.forms.AccessForm.TheVariants as access

-- the opcodes that begin blocks
abbrev pub block_code : BlockForm → ℕ
block_code Block = 0x02
block_code Loop = 0x03
block_code If = 0x04

-- the opcodes that an index stands behind
abbrev pub index_code : IndexForm → ℕ
index_code index.Br = 0x0C
index_code index.BrIf = 0x0D
index_code index.Call = 0x10
index_code index.LocalGet = 0x20
index_code index.LocalSet = 0x21
index_code index.LocalTee = 0x22
index_code index.GlobalGet = 0x23
index_code index.GlobalSet = 0x24

abbrev pub indexed : IndexForm → ℕ → Instr
indexed index.Br n = Br n
indexed index.BrIf n = BrIf n
indexed index.Call n = Call n
indexed index.LocalGet n = LocalGet n
indexed index.LocalSet n = LocalSet n
indexed index.LocalTee n = LocalTee n
indexed index.GlobalGet n = GlobalGet n
indexed index.GlobalSet n = GlobalSet n

-- the opcodes that a memory argument stands behind
abbrev pub access_code : AccessForm → ℕ
access_code (access.Load t) = load_code t
access_code (access.LoadNarrow part) = narrow_load_code part
access_code (access.Store t) = store_code t
access_code (access.StoreNarrow part) = narrow_store_code part

abbrev pub accessed : AccessForm → MemArg → Instr
accessed (access.Load t) at = Load t at
accessed (access.LoadNarrow part) at = LoadNarrow part at
accessed (access.Store t) at = Store t at
accessed (access.StoreNarrow part) at = StoreNarrow part at

-- operations on numbers, whose opcodes nothing stands behind
abbrev pub IsNumeric : Instr → Type 0
IsNumeric (Eqz t) = Unit {0}
IsNumeric (Compare t o) = Unit {0}
IsNumeric (Unary t o) = Unit {0}
IsNumeric (Binary t o) = Unit {0}
IsNumeric i = ⊥

-- instructions whose opcodes nothing stands behind
abbrev pub IsBare : Instr → Type 0
IsBare Unreachable = Unit {0}
IsBare Nop = Unit {0}
IsBare Return = Unit {0}
IsBare Drop = Unit {0}
IsBare Select = Unit {0}
IsBare Wrap = Unit {0}
IsBare (Extend s) = Unit {0}
IsBare i = IsNumeric i

-- an opcode that is left out
abbrev pub StopsOpcode : Stop
StopsOpcode = AtByte left_out

-- where something that is left out stops the reading of an instruction, in any number of blocks, where so many may be open
abbrev pub StopsInside : ℕ → Stop
StopsInside room at feature bytes = (blocks : ℕ) × StopsInstruction blocks room at feature bytes

-- and the reading of instructions one behind the other
abbrev pub StopsBody : ℕ → Stop
StopsBody room at feature bytes = (blocks : ℕ) × StopsSequence blocks room at feature bytes

-- an opcode that no block begins with
abbrev pub IsPlain : ℕ → Type 0
IsPlain code = (code < 2) ⊎ (4 < code)
