-- Locals in runs (section 5.5.13 of the WebAssembly Core Specification 1.0).
use Rattle.std.specs.Prelude.{ℕ, ◌+◌, List, [], ◌∷◌, if◌then◌else◌}
use Rattle.hph_wasm.specs.Spelling.{same_type}
use Rattle.hph_wasm.specs.declared.types.ValType.{ValType}

-- so many locals of a type, some at least, before the runs of those behind them
abbrev pub with_locals : ℕ → ValType → List (ℕ × ValType) → List (ℕ × ValType)
with_locals count t [] = (count, t) ∷ []
with_locals count t (run ∷ runs) = if same_type t run.1 then (run.0 + count, t) ∷ runs else (count, t) ∷ run ∷ runs
