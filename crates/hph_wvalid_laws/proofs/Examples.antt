-- Small modules, of which it is decided whether they are valid, and where else their first fault is.
use Rattle.std.proofs.Common.{◌≡◌, inl, inr, ℕ, List, [], ◌∷◌, Option, Some, None, refl}
use Rattle.std.specs.Prelude.{pos, codes}
use Rattle.hph_wasm.specs.declared.instr.Instr.{Instr, Drop, Nop, Block', I32Const, end_of-Instr, more_of-Instr}
use Rattle.hph_wasm.specs.declared.module.ImportDesc.TheVariants as import_desc
use Rattle.hph_wasm.specs.declared.module.Func.{Func}
use Rattle.hph_wasm.specs.declared.module.Module.{Module}
use Rattle.hph_wasm.specs.Faults.{outside_code}
use Rattle.hph_wvalid_laws.specs.Decided.{ModuleIsDecided}
use Rattle.hph_wvalid_laws.proofs.FirstFaults.{all-or-first, outside_by, outside_decided, body_by, body_decided, typed_by, function_by, function_decided, functions_decided, module_by, module_decided}

-- The place of the first fault, where there is one.
abbrev place : {m : Module} → ModuleIsDecided m → Option (ℕ × ℕ)
place (inl valid) = None
place (inr (f, k, first)) = Some (f, k)

-- A function that takes and gives nothing.
abbrev plain : List Instr → Func
plain body = record { ty = 0; locals = []; body = body }

abbrev seven : Instr
seven = I32Const (pos 7)

-- A module of such functions.
abbrev of_functions : List Func → Module
of_functions funcs = record {
  types = record { params = []; results = [] } ∷ [];
  imports = [];
  funcs = funcs;
  tables = [];
  memories = [];
  globals = [];
  exports = [];
  elements = [];
  segments = [];
}

-- This one is valid.
drops_what_is_there : place (module_decided (of_functions (plain (seven ∷ Drop ∷ []) ∷ []))) ≡ None
unfolding module_decided module_by outside_decided outside_by functions_decided function_decided function_by typed_by body_decided body_by all-or-first
drops_what_is_there = refl

-- The second function is at fault at its second `drop`, opcode 2. That the third one is at fault too comes later.
drops_too_much : place (module_decided (of_functions (plain (Nop ∷ []) ∷ plain (seven ∷ Drop ∷ Drop ∷ []) ∷ plain (Drop ∷ []) ∷ []))) ≡ Some (1, 2)
unfolding module_decided module_by outside_decided outside_by functions_decided function_decided function_by typed_by body_decided body_by all-or-first
drops_too_much = refl

-- A value that is left at the end of a block is a fault at its `end`, opcode 2. Functions are numbered imports first.
leaves_too_much : place (module_decided (record (of_functions (plain (Block' (record { result = None }) (tt ∷ []) (more_of-Instr seven end_of-Instr) ∷ []) ∷ [])) {
  imports = record { «module» = codes "php1"; name = codes "nothing"; desc = import_desc.Func 0 } ∷ [];
})) ≡ Some (1, 2)
unfolding module_decided module_by outside_decided outside_by functions_decided function_decided function_by typed_by body_decided body_by all-or-first
leaves_too_much = refl

-- A memory whose least size is above its greatest is a fault outside code, which comes before any in a body.
shrinks : place (module_decided (record (of_functions (plain (Drop ∷ []) ∷ [])) { memories = record { min = 2; max = Some 1 } ∷ [] })) ≡ Some (outside_code, 0)
unfolding module_decided module_by outside_decided outside_by
shrinks = refl
