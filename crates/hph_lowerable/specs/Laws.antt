-- What the condition of lowering is worth.
use Rattle.hph_ast.specs.declared.program.Program.{Program}
use Rattle.hph_program.specs.WellFormed.{IsWellFormed}
use Rattle.hph_lowerable.specs.Lowerable.{IsLowerable}

-- a well-formed program may be lowered
abbrev pub WellFormedIsLowerable : Type 0
WellFormedIsLowerable = (p : Program) → IsWellFormed p → IsLowerable p
