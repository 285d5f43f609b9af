-- Validity of instructions (Core Specification 1.0, 3.3). Stacks of types have the last type first. Code behind an instruction that
-- never goes on is typed from whichever stack makes it valid, which is what its polymorphic type says.
use Rattle.std.specs.Prelude.{◌≡◌, ◌<◌, ◌≤◌, ◌^◌, ℕ, List, [], ◌∷◌, ◌++◌, length, reverse, option_to_list, Bool, true, Some, slice_get}
use Rattle.std.specs.List.{AllByRecursion}
use Rattle.hph_wasm.specs.declared.instr.Instr.{Instr, Unreachable, Nop, Block', Loop', If', Br, BrIf, BrTable, Return, Call, CallIndirect, Drop, Select, LocalGet, LocalSet, LocalTee, GlobalGet, GlobalSet, Load, LoadNarrow, Store, StoreNarrow, I32Const, I64Const, Eqz, Compare, Unary, Binary, Wrap, Extend, Row_of-Instr, end_of-Instr, more_of-Instr, Held-Instr-If-2, None', Some'}
use Rattle.hph_wasm.specs.declared.instr.MemArg.{MemArg}
use Rattle.hph_wasm.specs.declared.types.ValType.{ValType}
use Rattle.hph_wasm.specs.declared.types.ValType.TheVariants.{I32, I64}
use Rattle.hph_wasm.specs.declared.types.BlockType.{BlockType}
use Rattle.hph_wasm.specs.declared.types.FuncType.{FuncType}
use Rattle.hph_wasm.specs.declared.module.Func.{Func}
use Rattle.hph_wasm.specs.declared.module.Module.{Module}
use Rattle.hph_wasm.specs.Functions.{func_type, tables, memories, globals}
use Rattle.hph_wasm.specs.Memory.{byte_width, load_type, load_bytes, store_type, store_bytes}

-- What stands around an instruction besides the module (3.1.1): the types of the locals, what a branch to each label takes
-- from the innermost outwards, and the function's results.
pub record Context : Type 0 where
  pub locals : List ValType
  pub labels : List (List ValType)
  pub result : List ValType

-- The context inside a label, at which a branch takes these types.
abbrev pub under_label : List ValType → Context → Context
under_label label c = record c { labels = label ∷ c.labels }

-- What a block gives, the last type first.
abbrev pub results_of : BlockType → List ValType
results_of ty = option_to_list ty.result

-- An instruction of type [takes] -> [gives] leads from one stack to another.
abbrev pub Takes : List ValType → List ValType → List ValType → List ValType → Type 0
Takes takes gives from to = (below : List ValType) × (from ≡ takes ++ below) × (to ≡ gives ++ below)

-- An instruction takes values of these types and never goes on.
abbrev pub Ends : List ValType → List ValType → Type 0
Ends takes from = (below : List ValType) × (from ≡ takes ++ below)

-- There is a memory, and the alignment is at most the size of what is accessed (3.3.4).
abbrev pub IsAccess : Module → ℕ → MemArg → Type 0
IsAccess m bytes arg = (0 < length (memories m)) × (2 ^ arg.align ≤ bytes)

-- The global with a number has this type.
abbrev pub IsGlobal : Module → ℕ → ValType → Bool → Type 0
IsGlobal m x ty mutable = slice_get (globals m) x ≡ Some (record { value = ty; mutable = mutable })

abbrev mutual
  -- An instruction leads from one stack to another (3.3.1 to 3.3.5).
  pub IsInstr : Module → Context → Instr → List ValType → List ValType → Type 0
  IsInstr m c Unreachable from to = Unit {0}
  IsInstr m c Nop from to = from ≡ to
  IsInstr m c (Block' ty shape body) from to = IsRow m (under_label (results_of ty) c) body [] (results_of ty) ×
      Takes [] (results_of ty) from to
  IsInstr m c (Loop' ty shape body) from to = IsRow m (under_label [] c) body [] (results_of ty) × Takes [] (results_of ty) from to
  IsInstr m c (If' ty shape body other) from to = IsRow m (under_label (results_of ty) c) body [] (results_of ty) ×
      IsElse m (under_label (results_of ty) c) other (results_of ty) × Takes (I32 ∷ []) (results_of ty) from to
  IsInstr m c (Br k) from to = (label : List ValType) × (slice_get c.labels k ≡ Some label) × Ends label from
  IsInstr m c (BrIf k) from to = (label : List ValType) × (slice_get c.labels k ≡ Some label) × Takes (I32 ∷ label) label from to
  IsInstr m c (BrTable ks k) from to = (label : List ValType) × (slice_get c.labels k ≡ Some label) ×
      AllByRecursion (λ j. slice_get c.labels j ≡ Some label) ks × Ends (I32 ∷ label) from
  IsInstr m c Return from to = Ends c.result from
  IsInstr m c (Call f) from to = (ty : FuncType) × (func_type m f ≡ Some ty) ×
      Takes (reverse ty.params) (reverse ty.results) from to
  IsInstr m c (CallIndirect number) from to = (ty : FuncType) × (slice_get m.types number ≡ Some ty) × (0 < length (tables m)) ×
      Takes (I32 ∷ reverse ty.params) (reverse ty.results) from to
  IsInstr m c Drop from to = (ty : ValType) × Takes (ty ∷ []) [] from to
  IsInstr m c Select from to = (ty : ValType) × Takes (I32 ∷ ty ∷ ty ∷ []) (ty ∷ []) from to
  IsInstr m c (LocalGet x) from to = (ty : ValType) × (slice_get c.locals x ≡ Some ty) × Takes [] (ty ∷ []) from to
  IsInstr m c (LocalSet x) from to = (ty : ValType) × (slice_get c.locals x ≡ Some ty) × Takes (ty ∷ []) [] from to
  IsInstr m c (LocalTee x) from to = (ty : ValType) × (slice_get c.locals x ≡ Some ty) × Takes (ty ∷ []) (ty ∷ []) from to
  IsInstr m c (GlobalGet x) from to = (ty : ValType) × (mutable : Bool) × IsGlobal m x ty mutable × Takes [] (ty ∷ []) from to
  IsInstr m c (GlobalSet x) from to = (ty : ValType) × IsGlobal m x ty true × Takes (ty ∷ []) [] from to
  IsInstr m c (Load ty arg) from to = IsAccess m (byte_width ty) arg × Takes (I32 ∷ []) (ty ∷ []) from to
  IsInstr m c (LoadNarrow load arg) from to = IsAccess m (load_bytes load) arg × Takes (I32 ∷ []) (load_type load ∷ []) from to
  IsInstr m c (Store ty arg) from to = IsAccess m (byte_width ty) arg × Takes (ty ∷ I32 ∷ []) [] from to
  IsInstr m c (StoreNarrow store arg) from to = IsAccess m (store_bytes store) arg × Takes (store_type store ∷ I32 ∷ []) [] from to
  IsInstr m c (I32Const z) from to = Takes [] (I32 ∷ []) from to
  IsInstr m c (I64Const z) from to = Takes [] (I64 ∷ []) from to
  IsInstr m c (Eqz ty) from to = Takes (ty ∷ []) (I32 ∷ []) from to
  IsInstr m c (Compare ty o) from to = Takes (ty ∷ ty ∷ []) (I32 ∷ []) from to
  IsInstr m c (Unary ty o) from to = Takes (ty ∷ []) (ty ∷ []) from to
  IsInstr m c (Binary ty o) from to = Takes (ty ∷ ty ∷ []) (ty ∷ []) from to
  IsInstr m c Wrap from to = Takes (I64 ∷ []) (I32 ∷ []) from to
  IsInstr m c (Extend sign) from to = Takes (I32 ∷ []) (I64 ∷ []) from to

  -- The same of the instructions inside a block.
  pub IsRow : {n : _} → Module → Context → Row_of-Instr n → List ValType → List ValType → Type 0
  IsRow m c end_of-Instr from to = from ≡ to
  IsRow m c (more_of-Instr i rest) from to = (mid : List ValType) × IsInstr m c i from mid × IsRow m c rest mid to

  -- The same of a second branch; where there is none it has no instructions, so it gives nothing.
  pub IsElse : Module → Context → Held-Instr-If-2 → List ValType → Type 0
  IsElse m c None' to = [] ≡ to
  IsElse m c (Some' shape body) to = IsRow m c body [] to

-- A sequence of instructions leads from one stack to another (3.3.6).
abbrev pub IsSequence : Module → Context → List Instr → List ValType → List ValType → Type 0
IsSequence m c [] from to = from ≡ to
IsSequence m c (i ∷ rest) from to = (mid : List ValType) × IsInstr m c i from mid × IsSequence m c rest mid to

-- An expression of the type [results] (3.3.7).
abbrev pub IsExpression : Module → Context → List Instr → List ValType → Type 0
IsExpression m c code results = IsSequence m c code [] (reverse results)

-- What a function's body stands in: its parameters and locals, and one label that a return goes to (3.4.1).
abbrev pub body_context : FuncType → Func → Context
body_context ty func = record { locals = ty.params ++ func.locals; labels = reverse ty.results ∷ []; result = reverse ty.results }

-- A body gives the results of its type.
abbrev pub IsBody : Module → FuncType → Func → Type 0
IsBody m ty func = IsExpression m (body_context ty func) func.body ty.results

-- A function's type is there, and its body has its results (3.4.1).
abbrev pub IsFunc : Module → Func → Type 0
IsFunc m func = (ty : FuncType) × (slice_get m.types func.ty ≡ Some ty) × IsBody m ty func
