-- Which functions a module imports: those of the rows that its code calls, in the order of rows, so that a host sees what a module
-- may ask of it. The code was made as if all rows were imported; its calls are renumbered. This project's own.
use Rattle.std.specs.Prelude.{◌≡◌, ℕ, ◌+◌, ◌-◌, ◌==◌, Bool, List, [], ◌∷◌, filter, filter_map, flat_map, length, map, position, Option, None, Some}
use Rattle.std.specs.List.{list_any}
use Rattle.std.specs.Option.{option_map_or, unwrap_or}
use Rattle.std.proofs.Common.{refl}
use Rattle.hph_wasm.specs.declared.instr.Instr.{Instr, Block', Loop', If', Call, Drop, Row_of-Instr, end_of-Instr, more_of-Instr, Held-Instr-If-2, None', Some'}
use Rattle.hph_wasm.specs.declared.module.Func.{Func}
use Rattle.hph_wasm.specs.Opcodes.{Opcode, Of, opcodes}
use Rattle.hph_effects.specs.declared.row.Row.{Row}
use Rattle.hph_effects.specs.declared.row.Row.TheVariants as r
use Rattle.hph_effects.specs.Rows.{row_number, row_with, all_rows}

-- ---- rows that are used

abbrev pub called_by : Opcode → Option ℕ
called_by (Of (Call function)) = Some function
called_by _ = None

-- the functions that code calls by their numbers, inside its blocks too
abbrev pub called_in : List Instr → List ℕ
called_in code = filter_map called_by (opcodes code)

abbrev pub is_called : List ℕ → Row → Bool
is_called called row = list_any (λ function. function == row_number row) called

abbrev pub used_rows : List Func → List Row
used_rows functions = filter (is_called (flat_map (λ (f : Func). called_in f.body) functions)) all_rows

-- ---- numbers of functions

-- where a row stands among those that are imported
abbrev pub import_number : List Row → Row → ℕ
import_number used row = unwrap_or (position (λ other. row_number other == row_number row) used) 0

-- A function of the program stands as far behind the imports as it stood behind all rows.
abbrev pub renumbered : List Row → ℕ → ℕ
renumbered used function =
    option_map_or (import_number used) (row_with function) (length used + (function - length all_rows))

module _ (used : List Row) where
  abbrev mutual
    pub renumbered_instr : Instr → Instr
    renumbered_instr (Block' ty shape body) = Block' ty shape (renumbered_row body)
    renumbered_instr (Loop' ty shape body) = Loop' ty shape (renumbered_row body)
    renumbered_instr (If' ty shape body other) = If' ty shape (renumbered_row body) (renumbered_other other)
    renumbered_instr (Call function) = Call (renumbered used function)
    renumbered_instr i = i

    pub renumbered_row : {n : _} → Row_of-Instr n → Row_of-Instr n
    renumbered_row end_of-Instr = end_of-Instr
    renumbered_row (more_of-Instr i rest) = more_of-Instr (renumbered_instr i) (renumbered_row rest)

    pub renumbered_other : Held-Instr-If-2 → Held-Instr-If-2
    renumbered_other None' = None'
    renumbered_other (Some' shape body) = Some' shape (renumbered_row body)

  abbrev pub renumbered_function : Func → Func
  renumbered_function f = record f { body = map renumbered_instr f.body }

-- ---- examples: `echo` of a text alone asks for `write` alone

only_write : used_rows (record { ty = 0; locals = []; body = Call 0 ∷ Drop ∷ Call 72 ∷ [] } ∷ []) ≡ r.Write ∷ []
only_write = refl

behind_the_imports : map (renumbered (r.Write ∷ r.Echo ∷ [])) (0 ∷ 40 ∷ 72 ∷ 73 ∷ []) ≡ 0 ∷ 1 ∷ 2 ∷ 3 ∷ []
behind_the_imports = refl
