-- Instructions, tables, globals and elements with their bytes, made by hand from the Core Specification 1.0, 5.3 to 5.5.
use Rattle.std.proofs.Common.{◌≡◌, [], ◌∷◌, flat_map, refl, arith, inr, None, Some}
use Rattle.std.specs.Prelude.{pos, negsuc, true}
use Rattle.hph_wasm.specs.Leb128.{shortest_unsigned, shortest_signed}
use Rattle.hph_wasm.specs.Grammar.{TableType}
use Rattle.hph_wasm.specs.InstructionGrammar.{Instruction}
use Rattle.hph_wasm.specs.ModuleGrammar.{GlobalWithValue, Elements}
use Rattle.hph_wasm.specs.Spelling.{instr_bytes, table_type_bytes, global_bytes, element_bytes}
use Rattle.hph_wasm.specs.declared.types.ValType.TheVariants.{I32, I64}
use Rattle.hph_wasm.specs.declared.types.BlockType.{BlockType}
use Rattle.hph_wasm.specs.declared.instr.Sign.TheVariants.{Signed}
use Rattle.hph_wasm.specs.declared.instr.Binary.TheVariants.{Div}
use Rattle.hph_wasm.specs.declared.instr.Instr.{Block, Loop', If', Nop, Unreachable, BrTable, CallIndirect, Load, I32Const, I64Const, Binary, end_of-Instr, more_of-Instr, None', Some'}
use Rattle.hph_wasm.specs.declared.module.Global.{Global}
use Rattle.hph_wasm.specs.declared.module.Element.{Element}
use Rattle.hph_wasm.proofs.InstructionRows.{Instructions-row_of, instr_bytes-Block}
use Rattle.hph_wasm.proofs.FormatExamples.{then, one_byte, constant}

-- a block that gives a constant
block : Instruction (Block (record { result = Some I32 }) (I32Const (pos 5) ∷ [])) (0x02 ∷ 0x7F ∷ 0x41 ∷ 0x05 ∷ 0x0B ∷ [])
block = then (0x02 ∷ []) _ refl (then (0x7F ∷ []) _ refl (then (0x41 ∷ 0x05 ∷ []) _
    (Instructions-row_of (I32Const (pos 5) ∷ []) (0x41 ∷ 0x05 ∷ []) (then (0x41 ∷ 0x05 ∷ []) _ (constant 5 (omega arith)) refl)) refl))

-- and its bytes are written so
written_block : instr_bytes (Block (record { result = Some I32 }) (I32Const (pos 5) ∷ [])) ≡ 0x02 ∷ 0x7F ∷ 0x41 ∷ 0x05 ∷ 0x0B ∷ []
unfolding shortest_signed
written_block = instr_bytes-Block (record { result = Some I32 }) (I32Const (pos 5) ∷ [])

abbrev nothing : BlockType
nothing = record { result = None }

-- an `if` with no `else`: `if nop end`
if_alone : Instruction (If' nothing (tt ∷ []) (more_of-Instr Nop end_of-Instr) None') (0x04 ∷ 0x40 ∷ 0x01 ∷ 0x0B ∷ [])
if_alone = then (0x04 ∷ []) _ refl (then (0x40 ∷ []) _ refl (then (0x01 ∷ []) _ (then (0x01 ∷ []) _ refl refl) refl))

-- with an `else`: `if nop else unreachable end`
if_and_else : Instruction (If' nothing (tt ∷ []) (more_of-Instr Nop end_of-Instr)
    (Some' (tt ∷ []) (more_of-Instr Unreachable end_of-Instr))) (0x04 ∷ 0x40 ∷ 0x01 ∷ 0x05 ∷ 0x00 ∷ 0x0B ∷ [])
if_and_else = then (0x04 ∷ []) _ refl (then (0x40 ∷ []) _ refl (then (0x01 ∷ []) _ (then (0x01 ∷ []) _ refl refl)
    (then (0x05 ∷ []) _ refl (then (0x00 ∷ []) _ (then (0x00 ∷ []) _ refl refl) refl))))

-- an empty `else` is one: `if else end`
if_and_empty_else : Instruction (If' nothing [] end_of-Instr (Some' [] end_of-Instr)) (0x04 ∷ 0x40 ∷ 0x05 ∷ 0x0B ∷ [])
if_and_empty_else = then (0x04 ∷ []) _ refl (then (0x40 ∷ []) _ refl (then [] _ refl (then (0x05 ∷ []) _ refl (then [] _ refl refl))))

-- a loop that gives an i64
loop_gives : Instruction (Loop' (record { result = Some I64 }) (tt ∷ []) (more_of-Instr (I64Const (negsuc 0)) end_of-Instr))
    (0x03 ∷ 0x7E ∷ 0x42 ∷ 0x7F ∷ 0x0B ∷ [])
loop_gives = then (0x03 ∷ []) _ refl (then (0x7E ∷ []) _ refl (then (0x42 ∷ 0x7F ∷ []) _
    (then (0x42 ∷ 0x7F ∷ []) _ (then (0x42 ∷ []) _ refl (inr (omega arith, omega arith, omega arith, refl))) refl) refl))

-- the labels of a table, and the one for every greater number
branch_table : Instruction (BrTable (0 ∷ 1 ∷ []) 2) (0x0E ∷ 0x02 ∷ 0x00 ∷ 0x01 ∷ 0x02 ∷ [])
branch_table = then (0x0E ∷ []) _ refl (then (0x02 ∷ 0x00 ∷ 0x01 ∷ []) _
    (then (0x02 ∷ []) _ (one_byte 2 (omega arith))
    (then (0x00 ∷ []) _ (one_byte 0 (omega arith)) (then (0x01 ∷ []) _ (one_byte 1 (omega arith)) refl)))
    (one_byte 2 (omega arith)))

-- a type, and the byte 00
indirect_call : Instruction (CallIndirect 1) (0x11 ∷ 0x01 ∷ 0x00 ∷ [])
indirect_call = then (0x11 ∷ []) _ refl (then (0x01 ∷ []) _ (one_byte 1 (omega arith)) refl)

-- an alignment of 2^3, and an offset of 16
load : Instruction (Load I64 (record { align = 3; offset = 16 })) (0x29 ∷ 0x03 ∷ 0x10 ∷ [])
load = then (0x29 ∷ []) _ refl (then (0x03 ∷ []) _ (one_byte 3 (omega arith)) (one_byte 16 (omega arith)))

-- `i32.div_s`
division : Instruction (Binary I32 (Div Signed)) (0x6D ∷ [])
division = refl

-- a table of 1 function or more
table : TableType (record { min = 1; max = None }) (0x70 ∷ 0x00 ∷ 0x01 ∷ [])
table = then (0x70 ∷ []) _ refl (then (0x00 ∷ []) _ refl (one_byte 1 (omega arith)))

-- a global that can be set, and 5 at first
abbrev five : Global
five = record { ty = record { value = I32; mutable = true }; init = I32Const (pos 5) ∷ [] }

global : GlobalWithValue five (0x7F ∷ 0x01 ∷ 0x41 ∷ 0x05 ∷ 0x0B ∷ [])
global = then (0x7F ∷ 0x01 ∷ []) _ (then (0x7F ∷ []) _ refl refl)
    (then (0x41 ∷ 0x05 ∷ []) _ (then (0x41 ∷ 0x05 ∷ []) _ (constant 5 (omega arith)) refl) refl)

-- function 2 in the table's place 1
abbrev second : Element
second = record { table = 0; offset = I32Const (pos 1) ∷ []; funcs = 2 ∷ [] }

element : Elements second (0x00 ∷ 0x41 ∷ 0x01 ∷ 0x0B ∷ 0x01 ∷ 0x02 ∷ [])
element = then (0x00 ∷ []) _ (one_byte 0 (omega arith)) (then (0x41 ∷ 0x01 ∷ 0x0B ∷ []) _
    (then (0x41 ∷ 0x01 ∷ []) _ (then (0x41 ∷ 0x01 ∷ []) _ (constant 1 (omega arith)) refl) refl)
    (then (0x01 ∷ []) _ (one_byte 1 (omega arith)) (then (0x02 ∷ []) _ (one_byte 2 (omega arith)) refl)))

-- and they are written so
written_table : table_type_bytes (record { min = 1; max = None }) ≡ 0x70 ∷ 0x00 ∷ 0x01 ∷ []
unfolding shortest_unsigned
written_table = refl

written_global : global_bytes five ≡ 0x7F ∷ 0x01 ∷ 0x41 ∷ 0x05 ∷ 0x0B ∷ []
unfolding shortest_signed
written_global = refl

written_element : element_bytes second ≡ 0x00 ∷ 0x41 ∷ 0x01 ∷ 0x0B ∷ 0x01 ∷ 0x02 ∷ []
unfolding shortest_unsigned shortest_signed
written_element = refl

written_branches : flat_map instr_bytes (BrTable (0 ∷ 1 ∷ []) 2 ∷ CallIndirect 1 ∷ Load I64 (record { align = 3; offset = 16 }) ∷
    I64Const (negsuc 0) ∷ [])
    ≡ 0x0E ∷ 0x02 ∷ 0x00 ∷ 0x01 ∷ 0x02 ∷ 0x11 ∷ 0x01 ∷ 0x00 ∷ 0x29 ∷ 0x03 ∷ 0x10 ∷ 0x42 ∷ 0x7F ∷ []
unfolding shortest_unsigned shortest_signed
written_branches = refl

written_if : instr_bytes (If' nothing (tt ∷ []) (more_of-Instr Nop end_of-Instr)
    (Some' (tt ∷ []) (more_of-Instr Unreachable end_of-Instr))) ≡ 0x04 ∷ 0x40 ∷ 0x01 ∷ 0x05 ∷ 0x00 ∷ 0x0B ∷ []
written_if = refl
