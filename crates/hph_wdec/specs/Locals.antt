-- Locals in runs (section 5.5.13 of the WebAssembly Core Specification 1.0).
use Rattle.std.specs.Prelude.{◌≡◌, ℕ, List, length}
use Rattle.hph_wasm.specs.Grammar.{Grammar, Each, ◌⊳◌}
use Rattle.hph_wasm.specs.InstructionGrammar.{Expression}
use Rattle.hph_wasm.specs.ModuleGrammar.{LocalRun, Locals, locals_of}
use Rattle.hph_wasm.specs.Unsupported.{Stop, Either, Behind, Read, AreFew, StopsLocals, StopsExpression}
use Rattle.hph_wasm.specs.declared.types.ValType.{ValType}
use Rattle.hph_wasm.specs.declared.instr.Instr.{Instr}

-- so many runs, which make these locals
abbrev pub RunsOf : ℕ → List ValType → Grammar
RunsOf count locals front = (runs : List (ℕ × ValType)) × (length runs ≡ count) × (locals_of runs ≡ locals) × Each LocalRun runs front

-- what stands behind the size of code
abbrev pub LocalsAndBody : List ValType × List Instr → Grammar
LocalsAndBody code = Locals code.0 ⊳ Expression code.1

abbrev pub StopsLocalsAndBody : Stop
StopsLocalsAndBody = Either StopsLocals (Behind (Read Locals AreFew) StopsExpression)
