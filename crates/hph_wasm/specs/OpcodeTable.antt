-- The table of opcodes, in the library of case tables, and the opcodes of instructions (Core Specification 1.0, 5.4).
use Rattle.std.specs.Prelude.{◌≡◌, ◌⊎◌, ℕ, List, [], ◌∷◌, Option, Some, None, nat_eq, if◌then◌else◌}
use Rattle.hph_case.specs.declared.cases.Row.{Row}
use Rattle.hph_wasm.specs.Codes.{opcode, else_code, end_code}
use Rattle.hph_wasm.specs.declared.instr.Instr.{Instr}

-- the tag of the row that has a code
abbrev pub tag_at : List Row → ℕ → Option ℕ
tag_at [] code = None
tag_at (r ∷ rows) code = if nat_eq r.code code then Some r.tag else tag_at rows code

-- the code of an instruction, of an `else` or of an `end`
abbrev pub IsCode : ℕ → Type 0
IsCode code = ((i : Instr) × (opcode i ≡ code)) ⊎ ((code ≡ else_code) ⊎ (code ≡ end_code))
