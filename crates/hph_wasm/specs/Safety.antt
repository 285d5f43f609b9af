-- Soundness of validity (Core Specification 1.0, appendix, Soundness): in a run of a valid module there is always a rule to apply.
use Rattle.std.specs.Prelude.{◌≡◌, ℕ, Some, codes}
use Rattle.hph_wasm.specs.declared.module.Module.{Module}
use Rattle.hph_wasm.specs.Configuration.{Host, Configuration, Running, Calling, Trapped, Stuck, Ended}
use Rattle.hph_wasm.specs.Reduction.{reduce}
use Rattle.hph_wasm.specs.Run.{start, exported_function}
use Rattle.hph_wasm.specs.Fitting.{Fits}

-- Every configuration of a run from the module's main fits.
abbrev pub RunsFit : {H E : Type 0} → Host H E → H → Module → Type 0
RunsFit host state m = (f n : ℕ) → exported_function (codes "main") m.exports ≡ Some f → Fits m (reduce host m n (start state m f))

-- No rule applies, and the run is not over.
abbrev pub IsStuck : {H E : Type 0} → Configuration H E → Type 0
IsStuck (Running code values at) = ⊥
IsStuck (Calling f rest values at) = ⊥
IsStuck (Trapped code at) = ⊥
IsStuck (Stuck code at) = Unit {0}
IsStuck (Ended end h) = ⊥

-- No reduction of a run gets stuck.
abbrev pub IsNeverStuck : {H E : Type 0} → Host H E → H → Module → Type 0
IsNeverStuck host state m = (f n : ℕ) → exported_function (codes "main") m.exports ≡ Some f →
    IsStuck (reduce host m n (start state m f)) → ⊥
