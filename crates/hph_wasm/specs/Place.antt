-- Where a trap is: the function, and which of its instructions, counted by opcodes from 0. This project's own.
-- It is told from what is left of the function, so no reduction has to count.
use Rattle.std.specs.Prelude.{ℕ, ◌+◌, ◌-◌, List, [], ◌∷◌, Option, Some, None, slice_get}
use Rattle.hph_wasm.specs.declared.instr.Instr.{Instr}
use Rattle.hph_wasm.specs.declared.module.Module.{Module}
use Rattle.hph_wasm.specs.Rows.{list_size}
use Rattle.hph_wasm.specs.Functions.{Function, Imported, Defined, functions}
use Rattle.hph_wasm.specs.Outcome.{End, Trap}
use Rattle.hph_wasm.specs.Configuration.{Label, Frame, Setting}

-- The opcodes of a function that are left outside the innermost block, its own `end` among them.
abbrev pub size_outside : List Label → ℕ
size_outside [] = 1
size_outside (label ∷ labels) = label.after + (list_size label.rest + size_outside labels)

-- The opcodes of a function's body with its `end`; of an import there are none.
abbrev pub body_size : Option Function → ℕ
body_size (Some (Defined func)) = list_size func.body + 1
body_size (Some (Imported import ty)) = 0
body_size None = 0

-- A trap of the innermost function with so many opcodes left.
abbrev pub trap_before : {E : Type 0} → Module → ℕ → List Frame → End E
trap_before m size_left [] = Trap 0 0
trap_before m size_left (frame ∷ frames) = Trap frame.function (body_size (slice_get (functions m) frame.function) - size_left)

-- A trap at the first of these instructions; outside of all functions it is at 0, 0.
abbrev pub trap_at : {H E : Type 0} → Module → List Instr → Setting H → End E
trap_at m code at = trap_before m (list_size code + size_outside at.labels) at.frames
