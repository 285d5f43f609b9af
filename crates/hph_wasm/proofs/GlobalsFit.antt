-- The globals of a module that imports none begin with values of their types.
use Rattle.std.proofs.Common.{◌≡◌, ◌∙◌, ℕ, suc, ◌+◌, ℤ, List, [], ◌∷◌, ◌++◌, Some, length, map, refl, sym, ap, subst, arith}
use Rattle.std.specs.Prelude.{slice_get}
use Rattle.std.specs.List.{AllByRecursion}
use Rattle.hph_wasm.specs.declared.instr.Instr.{Instr, Unreachable, Nop, Block', Loop', If', Br, BrIf, BrTable, Return, Call, CallIndirect, Drop, Select, LocalGet, LocalSet, LocalTee, GlobalGet, GlobalSet, Load, LoadNarrow, StoreNarrow, I32Const, I64Const, Eqz, Compare, Unary, Binary, Wrap, Extend}
use Rattle.hph_wasm.specs.declared.instr.Instr as instr
use Rattle.hph_wasm.specs.declared.types.ValType.{ValType}
use Rattle.hph_wasm.specs.declared.types.ValType.TheVariants.{I32, I64}
use Rattle.hph_wasm.specs.declared.types.GlobalType.{GlobalType}
use Rattle.hph_wasm.specs.declared.module.ImportDesc.{ImportDesc}
use Rattle.hph_wasm.specs.declared.module.ImportDesc.TheVariants as import_desc
use Rattle.hph_wasm.specs.declared.module.Import.{Import}
use Rattle.hph_wasm.specs.declared.module.Global.{Global}
use Rattle.hph_wasm.specs.declared.module.Module.{Module}
use Rattle.hph_wasm.specs.Values.{type_of, value_of}
use Rattle.hph_wasm.specs.Choice.{if_some}
use Rattle.hph_wasm.specs.Functions.{with_global, imported_globals, globals}
use Rattle.hph_wasm.specs.Validity.{IsInstr, IsSequence}
use Rattle.hph_wasm.specs.ModuleValidity.{outer_context, IsConstant, IsGlobalDefinition, IsValidOutside}
use Rattle.hph_wasm.specs.Instantiation.{constant_value, initial_value, globals_at_start}
use Rattle.hph_wasm.specs.Configuration.{Host}
use Rattle.hph_wasm.specs.Run.{HasThing, HasImport, IsLinked}
use Rattle.hph_wasm.specs.Values.{types}

-- The kinds of constant instructions.
data ConstantKind (types : List GlobalType) : Instr → Type 0 where
  is_i32 : (z : ℤ) → ConstantKind types (I32Const z)
  is_i64 : (z : ℤ) → ConstantKind types (I64Const z)
  is_global : (x : ℕ) (ty : GlobalType) → slice_get types x ≡ Some ty → ConstantKind types (GlobalGet x)

-- A constant instruction is of one of them.
constant_kind : (types : List GlobalType) (i : Instr) → IsConstant types i → ConstantKind types i
constant_kind types (I32Const z) is = is_i32 z
constant_kind types (I64Const z) is = is_i64 z
constant_kind types (GlobalGet x) is = is_global x is.0 is.1
constant_kind types Unreachable is = absurd is
constant_kind types Nop is = absurd is
constant_kind types (Block' ty shape body) is = absurd is
constant_kind types (Loop' ty shape body) is = absurd is
constant_kind types (If' ty shape body other) is = absurd is
constant_kind types (Br k) is = absurd is
constant_kind types (BrIf k) is = absurd is
constant_kind types (BrTable ks k) is = absurd is
constant_kind types Return is = absurd is
constant_kind types (Call f) is = absurd is
constant_kind types (CallIndirect number) is = absurd is
constant_kind types Drop is = absurd is
constant_kind types Select is = absurd is
constant_kind types (LocalGet y) is = absurd is
constant_kind types (LocalSet y) is = absurd is
constant_kind types (LocalTee y) is = absurd is
constant_kind types (GlobalSet y) is = absurd is
constant_kind types (Load ty arg) is = absurd is
constant_kind types (LoadNarrow load arg) is = absurd is
constant_kind types (instr.Store ty arg) is = absurd is
constant_kind types (StoreNarrow store arg) is = absurd is
constant_kind types (Eqz ty) is = absurd is
constant_kind types (Compare ty o) is = absurd is
constant_kind types (Unary ty o) is = absurd is
constant_kind types (Binary ty o) is = absurd is
constant_kind types Wrap is = absurd is
constant_kind types (Extend sign) is = absurd is

module _ (m : Module) where
  -- A constant that sees no globals puts one value onto the stack.
  constant_grows : (i : Instr) (from to : List ValType) → ConstantKind [] i → IsInstr m outer_context i from to →
      length to ≡ suc (length from)
  constant_grows i from to (is_i32 z) (below, taken, given) = ap length given ∙ ap (λ l. suc (length l)) (sym taken)
  constant_grows i from to (is_i64 z) (below, taken, given) = ap length given ∙ ap (λ l. suc (length l)) (sym taken)
  constant_grows i from to (is_global x global there) typed = let none : ⊥ = cc in absurd none

  -- Constants put as many as they are.
  constants_grow : (code : List Instr) (from to : List ValType) → AllByRecursion (IsConstant []) code →
      IsSequence m outer_context code from to → length to ≡ length from + length code
  constants_grow [] from to constants ends = let same : length from ≡ length to = ap length ends in omega (arith, same)
  constants_grow (i ∷ code) from to constants (mid, first, rest) =
      let one = constant_grows i from mid (constant_kind [] i constants.0) first in
      let others = constants_grow code mid to constants.1 rest in
      omega (arith, one, others)

  -- A constant of a type gives a value of the type.
  constant_type : (i : Instr) (ty : ValType) → ConstantKind [] i → IsSequence m outer_context (i ∷ []) [] (ty ∷ []) →
      type_of (if_some (constant_value [] (i ∷ [])) (value_of ty 0) (λ v. v)) ≡ ty
  constant_type i ty (is_i32 z) (to, (below, taken, given), ends) = let same : I32 ≡ ty = cc in same
  constant_type i ty (is_i64 z) (to, (below, taken, given), ends) = let same : I64 ≡ ty = cc in same
  constant_type i ty (is_global x global there) typed = let none : ⊥ = cc in absurd none

  -- So does a constant expression.
  expression_type : (code : List Instr) (ty : ValType) → AllByRecursion (IsConstant []) code →
      IsSequence m outer_context code [] (ty ∷ []) → type_of (if_some (constant_value [] code) (value_of ty 0) (λ v. v)) ≡ ty
  expression_type [] ty constants typed = let grown = constants_grow [] [] (ty ∷ []) constants typed in absurd (omega (arith, grown))
  expression_type (i ∷ []) ty constants typed = constant_type i ty (constant_kind [] i constants.0) typed
  expression_type (i ∷ j ∷ code) ty constants typed =
      let grown = constants_grow (i ∷ j ∷ code) [] (ty ∷ []) constants typed in absurd (omega (arith, grown))

  -- Each global's initial value is of its type.
  initial_types : (definitions : List Global) → imported_globals m.imports ≡ [] → AllByRecursion (IsGlobalDefinition m) definitions →
      types (map initial_value definitions) ≡ map (λ ty. ty.value) (map (λ global. global.ty) definitions)
  initial_types [] none valid = refl
  initial_types (global ∷ definitions) none valid =
      let constants = subst (λ types. AllByRecursion (IsConstant types) global.init) none valid.0.1 in
      ap (λ t. t ∷ types (map initial_value definitions)) (expression_type global.init global.ty.value constants valid.0.0) ∙
      ap (λ ts. global.ty.value ∷ ts) (initial_types definitions none valid.1)

  module _ {H E : Type 0} (host : Host H E) where
    -- What a host has is no global.
    no_global_at : (import : Import) (desc : ImportDesc) (rest : List GlobalType) → HasThing host m import desc → with_global desc rest ≡ rest
    no_global_at import (import_desc.Func ty) rest has = refl
    no_global_at import (import_desc.Table limits) rest has = refl
    no_global_at import (import_desc.Memory limits) rest has = refl
    no_global_at import (import_desc.Global ty) rest has = absurd has

    -- So a module that is linked imports none.
    no_globals : (imports : List Import) → AllByRecursion (HasImport host m) imports → imported_globals imports ≡ []
    no_globals [] all = refl
    no_globals (import ∷ imports) all =
        no_global_at import import.desc (imported_globals imports) all.0 ∙ no_globals imports all.1

    -- Its globals have their types at the start.
    pub globals_fit : IsValidOutside m → IsLinked host m → types (globals_at_start m) ≡ map (λ ty. ty.value) (globals m)
    globals_fit valid linked =
        let none = no_globals m.imports linked.imports in
        initial_types m.globals none valid.globals ∙
        ap (λ imported. map (λ ty. ty.value) (imported ++ map (λ global. global.ty) m.globals)) (sym none)
