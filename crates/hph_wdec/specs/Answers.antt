-- What a reader of modules answers.
use Rattle.std.specs.Prelude.{◌≡◌, ◌≤◌, ℕ, ◌+◌, List, length, Result, Ok, Err}
use Rattle.hph_wasm.specs.Unsupported.{IsUnsupported, IsMalformed}
use Rattle.hph_wasm.specs.declared.feature.Feature.{Feature}
use Rattle.hph_wasm.specs.declared.module.Module.{Module}
use Rattle.hph_wread.specs.declared.fault.Fault.{Fault}
use Rattle.hph_wread.specs.declared.fault.Fault.TheVariants as fault
use Rattle.hph_wdec.specs.declared.module_fault.ModuleFault.{ModuleFault}
use Rattle.hph_wdec.specs.declared.module_fault.ModuleFault.TheVariants.{Malformed, Unsupported, NoMemory}

-- why no module was read of these bytes
abbrev pub IsFault : List ℕ → ModuleFault → Type 0
IsFault bytes (Malformed offset) = (offset ≤ length bytes) × IsMalformed bytes
IsFault bytes (Unsupported offset feature) = IsUnsupported bytes offset feature
IsFault bytes NoMemory = Unit {0}

-- the same, where a place is told by the number of bytes that are left from it on
abbrev pub IsFaultLeaving : List ℕ → Fault → Type 0
IsFaultLeaving bytes (fault.Malformed left) = (left ≤ length bytes) × IsMalformed bytes
IsFaultLeaving bytes (fault.Unsupported left feature) = (offset : ℕ) × (offset + left ≡ length bytes) × IsUnsupported bytes offset feature
IsFaultLeaving bytes fault.NoMemory = Unit {0}

-- with enough memory, this module
abbrev pub IsModule : Module → Result Module ModuleFault → Type 0
IsModule m (Ok n) = n ≡ m
IsModule m (Err (Malformed offset)) = ⊥
IsModule m (Err (Unsupported offset feature)) = ⊥
IsModule m (Err NoMemory) = Unit {0}

-- with enough memory, this feature at this offset
abbrev pub IsFeatureAt : ℕ → Feature → Result Module ModuleFault → Type 0
IsFeatureAt at name (Ok n) = ⊥
IsFeatureAt at name (Err (Malformed offset)) = ⊥
IsFeatureAt at name (Err (Unsupported offset feature)) = (offset ≡ at) × (feature ≡ name)
IsFeatureAt at name (Err NoMemory) = Unit {0}

-- with enough memory, that the bytes are malformed
abbrev pub IsRefusal : Result Module ModuleFault → Type 0
IsRefusal (Ok n) = ⊥
IsRefusal (Err (Malformed offset)) = Unit {0}
IsRefusal (Err (Unsupported offset feature)) = ⊥
IsRefusal (Err NoMemory) = Unit {0}
