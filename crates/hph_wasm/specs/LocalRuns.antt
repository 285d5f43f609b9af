-- Locals kept in runs of one type, each with how many locals there are up to the last of it.
use Rattle.std.specs.Prelude.{◌≡◌, ◌<◌, ◌-◌, ℕ, List, [], ◌∷◌, ◌++◌}
use Rattle.hph_wasm.specs.ModuleGrammar.{locals_of}
use Rattle.hph_wasm.specs.declared.locals.RunOfLocals.{RunOfLocals}
use Rattle.hph_wasm.specs.declared.types.ValType.{ValType}

-- how many locals there are up to the end of runs that stand behind so many
abbrev pub end_of : ℕ → List RunOfLocals → ℕ
end_of from [] = from
end_of from (run ∷ runs) = end_of run.end runs

-- each run has locals
abbrev pub IsRising : ℕ → List RunOfLocals → Type 0
IsRising from [] = Unit {0}
IsRising from (run ∷ runs) = (from < run.end) × IsRising run.end runs

-- the runs as bytes spell them: how many locals, of which type
abbrev pub counted : ℕ → List RunOfLocals → List (ℕ × ValType)
counted from [] = []
counted from (run ∷ runs) = (run.end - from, run.ty) ∷ counted run.end runs

-- the locals that the runs make
abbrev pub expanded : List RunOfLocals → List ValType
expanded runs = locals_of (counted 0 runs)

-- there is a last run, and it is of this type
pub record EndsIn (ty : ValType) (runs : List RunOfLocals) : Type 0 where
  pub before : List RunOfLocals
  pub last : RunOfLocals
  pub split : runs ≡ before ++ last ∷ []
  pub same : last.ty ≡ ty
