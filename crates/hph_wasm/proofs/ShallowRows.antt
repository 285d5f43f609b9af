-- How deep blocks are nested in a row of instructions, and in its list.
use Rattle.std.proofs.Common.{ℕ, List, sym, subst}
use Rattle.hph_wasm.specs.BlockDepth.{AllShallow, AreShallow}
use Rattle.hph_wasm.specs.declared.instr.Instr.{Instr, Row_of-Instr, end_of-Instr, more_of-Instr}
use Rattle.hph_wasm.proofs.InstructionRows.{row_of, list_of, list_of-row_of}

-- where the row is shallow, its list is
pub AreShallow-list_of : {m : _} (row : Row_of-Instr m) (room : ℕ) → AllShallow row room → AreShallow room (list_of row)
AreShallow-list_of end_of-Instr room shallow = tt
AreShallow-list_of (more_of-Instr i row) room shallow = (shallow.0, AreShallow-list_of row room shallow.1)

-- and the other way round
pub AllShallow-from_list : {m : _} (row : Row_of-Instr m) (room : ℕ) → AreShallow room (list_of row) → AllShallow row room
AllShallow-from_list end_of-Instr room shallow = tt
AllShallow-from_list (more_of-Instr i row) room shallow = (shallow.0, AllShallow-from_list row room shallow.1)

-- so the row of a shallow list is
pub AllShallow-row_of : (body : List Instr) (room : ℕ) → AreShallow room body → AllShallow (row_of body) room
AllShallow-row_of body room shallow = AllShallow-from_list (row_of body) room
    (subst (AreShallow room) (sym (list_of-row_of body)) shallow)
