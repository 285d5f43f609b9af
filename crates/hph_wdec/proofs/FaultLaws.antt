-- With enough memory there is one answer.
use Rattle.std.proofs.Common.{◌≡◌, ℕ, List}
use Rattle.std.specs.Prelude.{Err}
use Rattle.hph_wasm.specs.ModuleGrammar.{SpellsModule}
use Rattle.hph_wasm.specs.Unsupported.{IsSupported, IsUnsupported, IsMalformed}
use Rattle.hph_wasm.specs.declared.feature.Feature.{Feature}
use Rattle.hph_wasm.specs.declared.module.Module.{Module}
use Rattle.hph_wdec.specs.Answers.{IsFault, IsModule, IsFeatureAt, IsRefusal}
use Rattle.hph_wdec.specs.declared.module_fault.ModuleFault.{ModuleFault}
use Rattle.hph_wdec.specs.declared.module_fault.ModuleFault.TheVariants.{Malformed, Unsupported, NoMemory}

-- what bytes that are a module, or meet a feature, or neither, can be
abbrev pub OneOffset : Type 0
OneOffset = (bytes : List ℕ) (n k : ℕ) (f g : Feature) → IsUnsupported bytes n f → IsUnsupported bytes k g → n ≡ k

abbrev pub OneName : Type 0
OneName = (bytes : List ℕ) (n k : ℕ) (f g : Feature) → IsUnsupported bytes n f → IsUnsupported bytes k g → f ≡ g

abbrev pub NoneInModules : Type 0
NoneInModules = (bytes : List ℕ) (m : Module) (n : ℕ) (f : Feature) → SpellsModule bytes m → IsSupported m → ¬ IsUnsupported bytes n f

pub fault_spells : NoneInModules → (bytes : List ℕ) (e : ModuleFault) → IsFault bytes e → (m : Module) → SpellsModule bytes m → IsSupported m → IsModule m (Err e)
fault_spells none bytes (Malformed offset) f m spells supported = f.1.0 m spells
fault_spells none bytes (Unsupported offset feature) f m spells supported = none bytes m offset feature spells supported f
fault_spells none bytes NoMemory f m spells supported = tt

pub fault_unsupported : OneOffset → OneName → (bytes : List ℕ) (e : ModuleFault) → IsFault bytes e → (at : ℕ) (name : Feature) → IsUnsupported bytes at name →
    IsFeatureAt at name (Err e)
fault_unsupported one name_law bytes (Malformed offset) f at name u = f.1.1 at name u
fault_unsupported one name_law bytes (Unsupported offset feature) f at name u = (one bytes offset at feature name f u, name_law bytes offset at feature name f u)
fault_unsupported one name_law bytes NoMemory f at name u = tt

pub fault_malformed : (bytes : List ℕ) (e : ModuleFault) → IsFault bytes e → IsMalformed bytes → IsRefusal (Err e)
fault_malformed bytes (Malformed offset) f malformed = tt
fault_malformed bytes (Unsupported offset feature) f malformed = malformed.1 offset feature f
fault_malformed bytes NoMemory f malformed = tt
