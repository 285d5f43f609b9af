-- Where a machine stands.
use Rattle.std.specs.Prelude.{◌≡◌, ◌+◌, ℕ}
use Rattle.hph_wasm.specs.declared.module.Module.{Module}
use Rattle.hph_wasm.specs.Outcome.{Trap}
use Rattle.hph_wasm.specs.Place.{size_outside, trap_before}
use Rattle.hph_wasm.specs.Rows.{list_size}
use Rattle.hph_wstate.specs.Core.{Core}
use Rattle.hph_wrun.specs.declared.place.Place.{Place}

-- A trap of the instruction that stands so many opcodes before the next one is told to be at this place.
abbrev pub IsPlace : (E : Type 0) → Module → ℕ → Core → Place → Type 0
IsPlace E m passed core place = trap_before {E = E} m (passed + (list_size core.code + size_outside core.labels)) core.frames ≡ Trap place.function place.instruction
