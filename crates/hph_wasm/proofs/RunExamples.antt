-- How many reductions each kind of instruction takes, and where traps are. A run's first reduction enters main, and its last leaves it.
use Rattle.std.proofs.Common.{◌≡◌, List, [], ◌∷◌, ◌++◌, refl}
use Rattle.std.specs.Prelude.{ℕ, pos, None, Some, true, codes}
use Rattle.hph_wasm.specs.declared.types.ValType.TheVariants.{I32}
use Rattle.hph_wasm.specs.declared.types.BlockType.{BlockType}
use Rattle.hph_wasm.specs.declared.instr.Instr.{Instr, Unreachable, Nop, Block', Loop', If', Br, BrIf, BrTable, Return, Call, CallIndirect, Drop, LocalGet, LocalSet, LocalTee, GlobalGet, GlobalSet, Load, I32Const, Binary, end_of-Instr, more_of-Instr, None', Some'}
use Rattle.hph_wasm.specs.declared.instr.Sign.TheVariants.{Signed}
use Rattle.hph_wasm.specs.declared.instr.Binary.TheVariants.{Add, Div}
use Rattle.hph_wasm.specs.declared.module.ImportDesc.TheVariants as import_desc
use Rattle.hph_wasm.specs.declared.module.ExportDesc.TheVariants as export_desc
use Rattle.hph_wasm.specs.declared.module.Func.{Func}
use Rattle.hph_wasm.specs.declared.module.Module.{Module}
use Rattle.hph_wasm.specs.Integers.{binary, quotient}
use Rattle.hph_wasm.specs.Memory.{loaded, stored}
use Rattle.hph_wasm.specs.Instantiation.{empty_table}
use Rattle.hph_wasm.specs.Outcome.{End, Done, More, Trap}
use Rattle.hph_wasm.specs.Configuration.{Goes, Host}
use Rattle.hph_wasm.specs.Run.{wasm, invoked}
use Rattle.hph_wasm.proofs.Printer.{printer, PrinterStop}

-- A module with nothing in it.
abbrev pub nothing : Module
nothing = record {
  types = [];
  imports = [];
  funcs = [];
  tables = [];
  memories = [];
  globals = [];
  exports = [];
  elements = [];
  segments = [];
}

-- A function [] -> [] with one local of type i32.
abbrev function : List Instr → Func
function body = record { ty = 0; locals = I32 ∷ []; body = body }

-- Function 0 is main, and 1 is another; a table has 1 in entry 0, and nothing in entry 1; a global begins with 40.
abbrev program : (main other : List Instr) → Module
program main other = record nothing {
  types = record { params = []; results = [] } ∷ record { params = I32 ∷ []; results = [] } ∷ [];
  funcs = function main ∷ function other ∷ [];
  tables = record { min = 2; max = None } ∷ [];
  globals = record { ty = record { value = I32; mutable = true }; init = I32Const (pos 40) ∷ [] } ∷ [];
  exports = record { name = codes "main"; desc = export_desc.Func 0 } ∷ [];
  elements = record { table = 0; offset = I32Const (pos 0) ∷ []; funcs = 1 ∷ [] } ∷ [];
}

-- How a run of main stands after so many reductions.
abbrev after : ℕ → List Instr → End PrinterStop
after n main = (wasm printer [] (program main []) n).end

-- Blocks by their instructions.
abbrev none : BlockType
none = record { result = None }

abbrev block_of : Instr → Instr
block_of i = Block' none (tt ∷ []) (more_of-Instr i end_of-Instr)

abbrev loop_of : Instr → Instr
loop_of i = Loop' none (tt ∷ []) (more_of-Instr i end_of-Instr)

abbrev if_of : Instr → Instr
if_of i = If' none (tt ∷ []) (more_of-Instr i end_of-Instr) None'

abbrev if_else_of : Instr → Instr → Instr
if_else_of i j = If' none (tt ∷ []) (more_of-Instr i end_of-Instr) (Some' (tt ∷ []) (more_of-Instr j end_of-Instr))

abbrev pub one : Instr
one = I32Const (pos 1)

abbrev zero_const : Instr
zero_const = I32Const (pos 0)

-- An empty main is entered and left.
enters_main : after 1 [] ≡ More
enters_main = refl

leaves_main : after 2 [] ≡ Done
leaves_main = refl

-- A plain instruction is one.
plain_is_one : after 2 (Nop ∷ []) ≡ More
plain_is_one = refl

plain_ends : after 3 (Nop ∷ []) ≡ Done
plain_ends = refl

tee_is_one : after 5 (one ∷ LocalTee 0 ∷ Drop ∷ []) ≡ Done
tee_is_one = refl

-- A return, and a branch to the outermost label, are one and leave main.
return_is_one : after 2 (Return ∷ Unreachable ∷ []) ≡ Done
return_is_one = refl

outermost_branch_is_one : after 2 (Br 0 ∷ Unreachable ∷ []) ≡ Done
outermost_branch_is_one = refl

-- So is a return out of a block, which was entered by one.
return_from_block : after 3 (block_of Return ∷ Unreachable ∷ []) ≡ Done
return_from_block = refl

-- A branch out of a block is one, and so is the end of a block.
branch_from_block : after 4 (block_of (Br 0) ∷ []) ≡ Done
branch_from_block = refl

block_ends : after 4 (block_of Nop ∷ []) ≡ More
block_ends = refl

block_ended : after 5 (block_of Nop ∷ []) ≡ Done
block_ended = refl

-- A branch that isn't taken is one, and one that is taken is two.
not_taken : after 5 (zero_const ∷ BrIf 0 ∷ Nop ∷ []) ≡ Done
not_taken = refl

half_taken : after 3 (one ∷ BrIf 0 ∷ Nop ∷ []) ≡ More
half_taken = refl

taken : after 4 (one ∷ BrIf 0 ∷ Unreachable ∷ []) ≡ Done
taken = refl

-- A branch by a table is two; greater numbers take the last label.
by_table : after 4 (one ∷ BrTable (5 ∷ []) 0 ∷ Unreachable ∷ []) ≡ Done
by_table = refl

-- A branch to a loop enters it again.
around_again : after 1000 (loop_of (Br 0) ∷ []) ≡ More
around_again = refl

loop_ends : after 5 (loop_of Nop ∷ []) ≡ Done
loop_ends = refl

-- A branch of an `if` is entered by one, also where there is no `else`.
first_branch : after 6 (one ∷ if_of Nop ∷ []) ≡ Done
first_branch = refl

absent_branch : after 4 (zero_const ∷ if_of Unreachable ∷ []) ≡ More
absent_branch = refl

absent_branch_ends : after 5 (zero_const ∷ if_of Unreachable ∷ []) ≡ Done
absent_branch_ends = refl

second_branch : after 6 (zero_const ∷ if_else_of Unreachable Nop ∷ []) ≡ Done
second_branch = refl

-- A call is two, and the end of a function is one.
call_is_two : after 4 (Call 1 ∷ []) ≡ More
call_is_two = refl

called : after 5 (Call 1 ∷ []) ≡ Done
called = refl

-- The second of the two enters the function.
before_entry : invoked printer [] (program (Call 1 ∷ []) []) 2 ≡ 0 ∷ []
before_entry = refl

at_entry : invoked printer [] (program (Call 1 ∷ []) []) 3 ≡ 0 ∷ 1 ∷ []
at_entry = refl

-- So is a call through the table.
through_table : after 6 (zero_const ∷ CallIndirect 0 ∷ []) ≡ Done
unfolding empty_table
through_table = refl

-- One that traps is one: at an empty entry, at a type that the function doesn't have, and behind the table.
empty_entry : after 3 (one ∷ CallIndirect 0 ∷ []) ≡ Trap 0 1
unfolding empty_table
empty_entry = refl

other_type : after 3 (zero_const ∷ CallIndirect 1 ∷ []) ≡ Trap 0 1
unfolding empty_table
other_type = refl

behind_table : after 3 (I32Const (pos 2) ∷ CallIndirect 0 ∷ []) ≡ Trap 0 1
unfolding empty_table
behind_table = refl

-- A trap has the number of its opcode, `else` and `end` counted.
trap_in_block : after 5 (block_of Nop ∷ Unreachable ∷ []) ≡ Trap 0 3
trap_in_block = refl

trap_in_second_branch : after 4 (zero_const ∷ if_else_of Nop Unreachable ∷ []) ≡ Trap 0 4
trap_in_second_branch = refl

-- It is in the function that runs.
trap_in_other : (wasm printer [] (program (Call 1 ∷ []) (one ∷ zero_const ∷ Binary I32 (Div Signed) ∷ [])) 6).end ≡ Trap 1 2
unfolding binary quotient
trap_in_other = refl

-- No memory has room.
no_memory : after 3 (zero_const ∷ Load I32 (record { align = 2; offset = 0 }) ∷ []) ≡ Trap 0 1
unfolding loaded
no_memory = refl

-- Locals and globals keep what is written to them: 40 and 2 are 42, which selects the first of two branches.
forty_two : after 11 (GlobalGet 0 ∷ I32Const (pos 2) ∷ Binary I32 Add ∷ GlobalSet 0 ∷ GlobalGet 0 ∷ LocalSet 0 ∷ LocalGet 0 ∷ if_else_of Return Unreachable ∷ []) ≡ Done
unfolding binary
forty_two = refl

-- The lowest byte comes first, and the bytes around stay.
little_end_first : stored 1 2 4660 (9 ∷ 9 ∷ 9 ∷ 9 ∷ []) ≡ Some (9 ∷ 52 ∷ 18 ∷ 9 ∷ [])
unfolding stored
little_end_first = refl

read_back : loaded 1 2 (9 ∷ 52 ∷ 18 ∷ 9 ∷ []) ≡ Some 4660
unfolding loaded
read_back = refl

past_the_end : loaded 3 2 (9 ∷ 52 ∷ 18 ∷ 9 ∷ []) ≡ None
unfolding loaded
past_the_end = refl

-- A host whose functions all print 7 and give nothing.
abbrev bell : Host (List ℕ) PrinterStop
bell = record { row = λ module_name name ty. Some 0; effect = λ row output arguments memory. Goes (output ++ 7 ∷ []) None; output = λ output. output }

-- Where main is an import, entering it is the whole call.
imported_main : Module
imported_main = record nothing {
  types = record { params = []; results = [] } ∷ [];
  imports = record { «module» = codes "bell"; name = codes "ring"; desc = import_desc.Func 0 } ∷ [];
  exports = record { name = codes "main"; desc = export_desc.Func 0 } ∷ [];
}

rings : wasm bell [] imported_main 1 ≡ record { output = 7 ∷ []; end = Done }
unfolding imported_main
rings = refl

nothing_of_its_own : invoked bell [] imported_main 1 ≡ []
unfolding imported_main
nothing_of_its_own = refl
