-- Code that may be lacking, what the code of one function goes by, and the smallest pieces. A function that is imported is called by
-- the number of its row, as if all rows were imported in order; where a module imports fewer, the layout renumbers. This project's own.
use Rattle.std.specs.Prelude.{ℕ, pos, ◌^◌, ◌++◌, Bool, List, [], ◌∷◌, length, Option, None, Some, nat_lt, if◌then◌else◌}
use Rattle.std.specs.Option.{option_map}
use Rattle.hph_wasm.specs.declared.instr.Instr.{Instr, Call, I32Const, I64Const}
use Rattle.hph_wasm.specs.declared.types.BlockType.{BlockType}
use Rattle.hph_php.specs.State.{Name}
use Rattle.hph_effects.specs.declared.row.Row.{Row}
use Rattle.hph_effects.specs.declared.row.Row.TheVariants as r
use Rattle.hph_effects.specs.Rows.{row_number}
use Rattle.hph_plan.specs.Plan.{Plan, place_in, slot_in}

abbrev pub Code : Type 0
Code = Option (List Instr)

abbrev pub with_code : Code → (List Instr → List Instr) → Code
with_code None go = None
with_code (Some code) go = Some (go code)

abbrev pub with_both : Code → Code → (List Instr → List Instr → List Instr) → Code
with_both a b go = with_some a (λ code. with_code b (go code))
  where
    with_some : Code → (List Instr → Code) → Code
    with_some None go = None
    with_some (Some code) go = go code

-- the import of a row
abbrev pub call : Row → Instr
call row = Call (row_number row)

abbrev pub plain : List Instr → Code
plain code = Some code

-- one after the other
abbrev pub all : List Code → Code
all [] = Some []
all (c ∷ cs) = with_both c (all cs) (λ code rest. code ++ rest)

abbrev pub no_value : BlockType
no_value = record { result = None }

abbrev pub number : ℕ → Instr
number n = I32Const (pos n)

-- What the code of one function goes by: its file, the names of its slots, its class, whether it is a function's body, and the
-- number of a local that holds nothing across code.
pub record Scope : Type 0 where
  pub file : ℕ
  pub names : List Name
  pub class : Option ℕ
  pub in_function : Bool
  pub scratch : ℕ

abbrev pub slot_of : Scope → Name → Option ℕ
slot_of scope name = slot_in scope.names name

-- code by a number that there may not be
abbrev pub by_number : Option ℕ → (ℕ → List Instr) → Code
by_number n go = option_map go n

abbrev pub int_code : ℕ → Code
int_code n = if nat_lt n (2 ^ 63) then Some (I64Const (pos n) ∷ call r.Int ∷ []) else None

abbrev pub at_text : Plan → List ℕ → Instr → Code
at_text plan bytes row = by_number (place_in plan.texts 0 bytes) (λ p. number p ∷ number (length bytes) ∷ row ∷ [])

abbrev pub text_code : Plan → List ℕ → Code
text_code plan bytes = at_text plan bytes (call r.Str)
