-- What well-formedness is worth of programs that are read.
use Rattle.std.specs.Prelude.{ℕ, List}
use Rattle.hph_src.specs.Files.{Files}
use Rattle.hph_ast.specs.declared.program.Program.{Program}
use Rattle.hph_program.specs.Names.{AgreesOnNames}
use Rattle.hph_program.specs.Program.{IsProgramOf}
use Rattle.hph_program.specs.WellFormed.{IsWellFormed}

-- a program of a source tree is well-formed, where its names agree
abbrev pub SourcesAreWellFormed : Type 0
SourcesAreWellFormed = (files : Files) (main : List ℕ) (p : Program) → IsProgramOf files main p → AgreesOnNames p → IsWellFormed p
