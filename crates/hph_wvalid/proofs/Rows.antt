-- A row of instructions and its list.
use Rattle.std.proofs.Common.{List}
use Rattle.hph_wasm.specs.Validity.{Context, IsRow, IsSequence}
use Rattle.hph_wasm.specs.declared.instr.Instr.{Row_of-Instr, end_of-Instr, more_of-Instr, items-the_row-Instr}
use Rattle.hph_wasm.specs.declared.types.ValType.{ValType}
use Rattle.hph_wasm.specs.declared.module.Module.{Module}

pub listed : {n : _} (m : Module) (c : Context) (row : Row_of-Instr n) (from to : List ValType) → IsRow m c row from to → IsSequence m c (items-the_row-Instr _ row) from to
listed m c end_of-Instr from to h = h
listed m c (more_of-Instr i rest) from to h = (h.0, h.1, listed m c rest h.0 to h.2)

pub rowed : {n : _} (m : Module) (c : Context) (row : Row_of-Instr n) (from to : List ValType) → IsSequence m c (items-the_row-Instr _ row) from to → IsRow m c row from to
rowed m c end_of-Instr from to h = h
rowed m c (more_of-Instr i rest) from to h = (h.0, h.1, rowed m c rest h.0 to h.2)
