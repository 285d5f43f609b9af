-- What holds of every configuration in a run of a valid module: its values have the types that its instructions need.
use Rattle.std.specs.Prelude.{◌≡◌, List, [], ◌∷◌, ◌++◌, Some, map, length, reverse}
use Rattle.hph_wasm.specs.declared.instr.Instr.{Instr}
use Rattle.hph_wasm.specs.declared.types.ValType.{ValType}
use Rattle.hph_wasm.specs.declared.types.FuncType.{FuncType}
use Rattle.hph_wasm.specs.declared.module.Module.{Module}
use Rattle.hph_wasm.specs.Values.{types}
use Rattle.hph_wasm.specs.Functions.{func_type, globals}
use Rattle.hph_wasm.specs.Validity.{Context, IsSequence}
use Rattle.hph_wasm.specs.Configuration.{Label, Frame, Store, Setting, Configuration, Running, Calling, Trapped, Stuck, Ended}

-- What stands around instructions, by its parts.
abbrev pub context : List ValType → List (List ValType) → List ValType → Context
context locals labels result = record { locals = locals; labels = labels; result = result }

module _ (m : Module) where
  -- Around instructions that end with values of these types: what is outside each label leads on, to the function's result, and so
  -- does what a branch to it goes on with.
  abbrev pub LabelsFit : List ValType → List ValType → List Label → List (List ValType) → List ValType → Type 0
  LabelsFit locals result [] labels gives = (labels ≡ result ∷ []) × (gives ≡ result)
  LabelsFit locals result (label ∷ outer) [] gives = ⊥
  LabelsFit locals result (label ∷ outer) (takes ∷ labels) gives = (next : List ValType) ×
      IsSequence m (context locals labels result) label.rest (gives ++ types label.values) next ×
      IsSequence m (context locals labels result) (label.continuation ++ label.rest) (takes ++ types label.values) next ×
      (label.arity ≡ length takes) × LabelsFit locals result outer labels next

  -- Instructions on a stack of these types, inside those labels of a function.
  abbrev pub CodeFits : List ValType → List Label → List Instr → List ValType → List ValType → Type 0
  CodeFits locals outer code stack result = (labels : List (List ValType)) × (gives : List ValType) ×
      IsSequence m (context locals labels result) code stack gives × LabelsFit locals result outer labels gives

  -- Frames of which the innermost returns values of these types.
  abbrev pub FramesFit : List Frame → List ValType → Type 0
  FramesFit [] result = ⊥
  FramesFit (frame ∷ []) result = frame.arity ≡ length result
  FramesFit (frame ∷ caller ∷ frames) result = (frame.arity ≡ length result) × (outer : List ValType) ×
      CodeFits (types frame.locals) frame.labels frame.rest (result ++ types frame.values) outer × FramesFit (caller ∷ frames) outer

  -- The globals have their types.
  abbrev pub StoreFits : {H : Type 0} → Store H → Type 0
  StoreFits store = types store.globals ≡ map (λ ty. ty.value) (globals m)

  -- Instructions on a stack of these types, in their function and its callers.
  abbrev pub FitsIn : {H : Type 0} → Setting H → List Instr → List ValType → Type 0
  FitsIn at code stack = (result : List ValType) × CodeFits (types at.locals) at.labels code stack result ×
      FramesFit at.frames result × StoreFits at.store

  -- The same behind a call; outside all frames nothing comes behind.
  abbrev pub FitsBehind : {H : Type 0} → List Frame → Setting H → List Instr → List ValType → Type 0
  FitsBehind [] at code stack = StoreFits at.store
  FitsBehind (frame ∷ frames) at code stack = (result : List ValType) ×
      CodeFits (types at.locals) at.labels code stack result × FramesFit (frame ∷ frames) result × StoreFits at.store

  -- A configuration whose instructions find values of the types that they need; none that is stuck.
  abbrev pub Fits : {H E : Type 0} → Configuration H E → Type 0
  Fits (Running code values at) = FitsIn at code (types values)
  Fits (Calling f rest values at) = (ty : FuncType) × (func_type m f ≡ Some ty) × (below : List ValType) ×
      (types values ≡ reverse ty.params ++ below) × FitsBehind at.frames at rest (reverse ty.results ++ below)
  Fits (Trapped code at) = Unit {0}
  Fits (Stuck code at) = ⊥
  Fits (Ended end h) = Unit {0}
