-- The tests outside of code are the rules.
use Rattle.std.proofs.Common.{◌≡◌, ◌≤◌, ◌<◌, ◌^◌, ◌∙◌, ℕ, zero, suc, ◌+◌, List, [], ◌∷◌, ◌++◌, map, length, Option, Some, None, Bool, true, false, cond, refl, sym, ap, subst, arith}
use Rattle.std.specs.Prelude.{◌&&◌, ◌↔◌, nat_lt, nat_le, IfSome, IfOk, IsTrue, slice_get}
use Rattle.std.specs.declared.alloc.AllocError.{AllocError}
use Rattle.std.specs.declared.result.Result.{Result}
use Rattle.std.specs.declared.result.Result.TheVariants.{Ok, Err}
use Rattle.std.specs.List.{AllByRecursion}
use Rattle.std.proofs.lemmas.Bool.{le-leb, lt-ltb, leb-true, ltb-true}
use Rattle.std.proofs.lemmas.List.{length-map}
use Rattle.hph_wasm.specs.declared.instr.Instr.{Instr, Unreachable, Nop, Block', Loop', If', Br, BrIf, BrTable, Return, Call, CallIndirect, Drop, Select, LocalGet, LocalSet, LocalTee, GlobalGet, GlobalSet, Load, LoadNarrow, StoreNarrow, I32Const, I64Const, Eqz, Compare, Unary, Binary, Wrap, Extend}
use Rattle.hph_wasm.specs.declared.instr.Instr as instr
use Rattle.hph_wasm.specs.declared.types.ValType.{ValType}
use Rattle.hph_wasm.specs.declared.types.ValType.TheVariants.{I32, I64}
use Rattle.hph_wasm.specs.declared.types.Limits.{Limits}
use Rattle.hph_wasm.specs.declared.types.GlobalType.{GlobalType}
use Rattle.hph_wasm.specs.declared.module.ImportDesc.{ImportDesc}
use Rattle.hph_wasm.specs.declared.module.ImportDesc.TheVariants as import_desc
use Rattle.hph_wasm.specs.declared.module.ExportDesc.{ExportDesc}
use Rattle.hph_wasm.specs.declared.module.ExportDesc.TheVariants as export_desc
use Rattle.hph_wasm.specs.declared.module.Import.{Import}
use Rattle.hph_wasm.specs.declared.module.Func.{Func}
use Rattle.hph_wasm.specs.declared.module.Global.{Global}
use Rattle.hph_wasm.specs.declared.module.Export.{Export}
use Rattle.hph_wasm.specs.declared.module.Element.{Element}
use Rattle.hph_wasm.specs.declared.module.Segment.{Segment}
use Rattle.hph_wasm.specs.declared.module.Module.{Module}
use Rattle.hph_wasm.specs.Choice.{if_some}
use Rattle.hph_wasm.specs.Functions.{functions, type_number, tables, memories, imported_globals, globals}
use Rattle.hph_wasm.specs.Validity.{IsInstr, IsSequence, IsExpression}
use Rattle.hph_wasm.specs.ModuleValidity.{IsLimits, IsTable, IsMemory, HasOneTable, HasOneMemory, IsFuncType, IsImportDesc, IsExportDesc, outer_context, IsConstant, IsGlobalDefinition, IsOffset, IsElement, IsSegment, IsNamedOnce, IsValidOutside}
use Rattle.hph_wvalid.specs.declared.stack.Kind.TheVariants.{Known}
use Rattle.hph_wvalid.specs.Checking.{is_kind}
use Rattle.hph_wvalid.specs.Spaces.{spaces_of}
use Rattle.hph_wvalid.specs.Outside.{every, is_func_type, is_max, is_limits, is_import, is_export, constant_type, is_initial, is_global, is_element, is_segment, are_types, are_contents}
use Rattle.hph_wvalid.proofs.Pops.{kind_true, kind_is}
use Rattle.hph_wvalid.proofs.Decisions.{Tells, and_true, true_and}
use Rattle.hph_wvalid.proofs.Names.{named_tells}

both_tell : (a b : Bool) (P Q : Type 0) → Tells a P → Tells b Q → Tells (a && b) (P × Q)
both_tell a b P Q s t = (
  (λ e. let parts = and_true a b e in (s.0 parts.0, t.0 parts.1)),
  (λ h. true_and a b (s.1 h.0) (t.1 h.1)),
)

le_tells : (a b : ℕ) → Tells (nat_le a b) (a ≤ b)
le_tells a b = (leb-true a b, le-leb a b)

lt_tells : (a b : ℕ) → Tells (nat_lt a b) (a < b)
lt_tells a b = (ltb-true a b, lt-ltb a b)

every_tells : {X : Type 0} (test : X → Bool) (P : X → Type 0) → ((x : X) → Tells (test x) (P x)) → (xs : List X) → Tells (every test xs) (AllByRecursion P xs)
every_tells test P told [] = ((λ e. tt), (λ h. refl))
every_tells test P told (x ∷ xs) = both_tell (test x) (every test xs) (P x) (AllByRecursion P xs) (told x) (every_tells test P told xs)

max_tells : (range min : ℕ) (o : Option ℕ) → Tells (is_max range min o) (IfSome o (λ max. (max ≤ range) × (min ≤ max)))
max_tells range min None = ((λ e. tt), (λ h. refl))
max_tells range min (Some max) = both_tell (nat_le max range) (nat_le min max) (max ≤ range) (min ≤ max) (le_tells max range) (le_tells min max)

limits_tell : (range : ℕ) (limits : Limits) → Tells (is_limits range limits) (IsLimits range limits)
limits_tell range limits = both_tell (nat_le limits.min range) (is_max range limits.min limits.max) (limits.min ≤ range)
    (IfSome limits.max (λ max. (max ≤ range) × (limits.min ≤ max))) (le_tells limits.min range) (max_tells range limits.min limits.max)

import_tells : (m : Module) (desc : ImportDesc) → Tells (is_import (length m.types) desc) (IsImportDesc m desc)
import_tells m (import_desc.Func ty) = lt_tells ty (length m.types)
import_tells m (import_desc.Table limits) = limits_tell (2 ^ 32) limits
import_tells m (import_desc.Memory limits) = limits_tell 65536 limits
import_tells m (import_desc.Global ty) = ((λ e. tt), (λ h. refl))

function_tells : (m : Module) (f : ℕ) → Tells (nat_lt f (length (map type_number (functions m)))) (f < length (functions m))
function_tells m f = subst (λ n. Tells (nat_lt f n) (f < length (functions m))) (sym (length-map (functions m) type_number)) (lt_tells f (length (functions m)))

export_tells : (m : Module) (desc : ExportDesc) → Tells (is_export (spaces_of m) desc) (IsExportDesc m desc)
export_tells m (export_desc.Func f) = function_tells m f
export_tells m (export_desc.Table t) = lt_tells t (length (tables m))
export_tells m (export_desc.Memory n) = lt_tells n (length (memories m))
export_tells m (export_desc.Global x) = lt_tells x (length (globals m))

-- A global that can't be set has its type.
got : (o : Option GlobalType) (u : ValType) → if_some o None (λ ty. cond ty.mutable None (Some ty.value)) ≡ Some u → (g : GlobalType) × (o ≡ Some g) × (g.mutable ≡ false) × (g.value ≡ u)
got None u e = let no : ⊥ = cc in absurd no
got (Some g) u e = let s = steady g.mutable g.value e in (g, refl, s.0, s.1)
  where
    steady : (b : Bool) (v : ValType) → cond b None (Some v) ≡ Some u → (b ≡ false) × (v ≡ u)
    steady true v e = let no : ⊥ = cc in absurd no
    steady false v e = (refl, cc)

module _ (m : Module) (types : List GlobalType) (seen : (x : ℕ) (g : GlobalType) → slice_get types x ≡ Some g → slice_get (globals m) x ≡ Some g) where
  -- A constant is valid, and gives a value of its type.
  constant_sound : (i : Instr) (u : ValType) → constant_type types i ≡ Some u → IsConstant types i × ((from : List ValType) → IsInstr m outer_context i from (u ∷ from))
  constant_sound (I32Const z) u e = let same : I32 ≡ u = cc in (tt, (λ from. (from, refl, ap (λ u. u ∷ from) (sym same))))
  constant_sound (I64Const z) u e = let same : I64 ≡ u = cc in (tt, (λ from. (from, refl, ap (λ u. u ∷ from) (sym same))))
  constant_sound (GlobalGet x) u e =
      let g = got (slice_get types x) u e in
      ((g.0, g.1, g.2), (λ from. (g.0.value, g.0.mutable, seen x g.0 g.1, (from, refl, ap (λ u. u ∷ from) (sym g.3)))))
  constant_sound Unreachable u e = let no : ⊥ = cc in absurd no
  constant_sound Nop u e = let no : ⊥ = cc in absurd no
  constant_sound (Block' ty shape body) u e = let no : ⊥ = cc in absurd no
  constant_sound (Loop' ty shape body) u e = let no : ⊥ = cc in absurd no
  constant_sound (If' ty shape body other) u e = let no : ⊥ = cc in absurd no
  constant_sound (Br k) u e = let no : ⊥ = cc in absurd no
  constant_sound (BrIf k) u e = let no : ⊥ = cc in absurd no
  constant_sound (BrTable ks k) u e = let no : ⊥ = cc in absurd no
  constant_sound Return u e = let no : ⊥ = cc in absurd no
  constant_sound (Call f) u e = let no : ⊥ = cc in absurd no
  constant_sound (CallIndirect n) u e = let no : ⊥ = cc in absurd no
  constant_sound Drop u e = let no : ⊥ = cc in absurd no
  constant_sound Select u e = let no : ⊥ = cc in absurd no
  constant_sound (LocalGet x) u e = let no : ⊥ = cc in absurd no
  constant_sound (LocalSet x) u e = let no : ⊥ = cc in absurd no
  constant_sound (LocalTee x) u e = let no : ⊥ = cc in absurd no
  constant_sound (GlobalSet x) u e = let no : ⊥ = cc in absurd no
  constant_sound (Load ty arg) u e = let no : ⊥ = cc in absurd no
  constant_sound (LoadNarrow load arg) u e = let no : ⊥ = cc in absurd no
  constant_sound (instr.Store ty arg) u e = let no : ⊥ = cc in absurd no
  constant_sound (StoreNarrow store arg) u e = let no : ⊥ = cc in absurd no
  constant_sound (Eqz ty) u e = let no : ⊥ = cc in absurd no
  constant_sound (Compare ty o) u e = let no : ⊥ = cc in absurd no
  constant_sound (Unary ty o) u e = let no : ⊥ = cc in absurd no
  constant_sound (Binary ty o) u e = let no : ⊥ = cc in absurd no
  constant_sound Wrap u e = let no : ⊥ = cc in absurd no
  constant_sound (Extend sign) u e = let no : ⊥ = cc in absurd no

  -- What is constant and valid has a type, and gives a value of it.
  constant_complete : (i : Instr) (from mid : List ValType) → IsConstant types i → IsInstr m outer_context i from mid → (u : ValType) × (constant_type types i ≡ Some u) × (mid ≡ u ∷ from)
  constant_complete (I32Const z) from mid h r = (I32, refl, r.2 ∙ ap (λ l. I32 ∷ l) (sym r.1))
  constant_complete (I64Const z) from mid h r = (I64, refl, r.2 ∙ ap (λ l. I64 ∷ l) (sym r.1))
  constant_complete (GlobalGet x) from mid h r =
      let here : slice_get (globals m) x ≡ Some h.0 = seen x h.0 h.1 in
      let same : h.0 ≡ record { value = r.0; mutable = r.1 } = some_same (sym here ∙ r.2) in (
        r.0,
        ap (λ o. if_some o None (λ (ty : GlobalType). cond ty.mutable None (Some ty.value))) h.1 ∙ ap (λ b. cond b None (Some h.0.value)) h.2 ∙ ap (λ (g : GlobalType). Some g.value) same,
        r.3.2 ∙ ap (λ l. r.0 ∷ l) (sym r.3.1),
      )
    where
      some_same : {a b : GlobalType} → Some a ≡ Some b → a ≡ b
      some_same e = cc
  constant_complete Unreachable from mid h r = absurd h
  constant_complete Nop from mid h r = absurd h
  constant_complete (Block' ty shape body) from mid h r = absurd h
  constant_complete (Loop' ty shape body) from mid h r = absurd h
  constant_complete (If' ty shape body other) from mid h r = absurd h
  constant_complete (Br k) from mid h r = absurd h
  constant_complete (BrIf k) from mid h r = absurd h
  constant_complete (BrTable ks k) from mid h r = absurd h
  constant_complete Return from mid h r = absurd h
  constant_complete (Call f) from mid h r = absurd h
  constant_complete (CallIndirect n) from mid h r = absurd h
  constant_complete Drop from mid h r = absurd h
  constant_complete Select from mid h r = absurd h
  constant_complete (LocalGet x) from mid h r = absurd h
  constant_complete (LocalSet x) from mid h r = absurd h
  constant_complete (LocalTee x) from mid h r = absurd h
  constant_complete (GlobalSet x) from mid h r = absurd h
  constant_complete (Load ty arg) from mid h r = absurd h
  constant_complete (LoadNarrow load arg) from mid h r = absurd h
  constant_complete (instr.Store ty arg) from mid h r = absurd h
  constant_complete (StoreNarrow store arg) from mid h r = absurd h
  constant_complete (Eqz ty) from mid h r = absurd h
  constant_complete (Compare ty o) from mid h r = absurd h
  constant_complete (Unary ty o) from mid h r = absurd h
  constant_complete (Binary ty o) from mid h r = absurd h
  constant_complete Wrap from mid h r = absurd h
  constant_complete (Extend sign) from mid h r = absurd h

  -- Constants give a value each.
  grown : (code : List Instr) (from to : List ValType) → AllByRecursion (IsConstant types) code → IsSequence m outer_context code from to → length to ≡ length code + length from
  grown [] from to h r = let same = ap length r in omega (arith, same)
  grown (i ∷ code) from to h r =
      let one = constant_complete i from r.0 h.0 r.1 in
      let rest = grown code r.0 to h.1 r.2 in
      let longer = ap length one.2 in
      omega (arith, rest, longer)

  tested : {A : Type 0} (o : Option A) (go : A → Bool) → if_some o false go ≡ true → (x : A) × (o ≡ Some x) × (go x ≡ true)
  tested None go e = let no : ⊥ = cc in absurd no
  tested (Some x) go e = (x, refl, e)

  initial_sound : (ty : ValType) (code : List Instr) → is_initial types ty code ≡ true → IsExpression m outer_context code (ty ∷ []) × AllByRecursion (IsConstant types) code
  initial_sound ty [] e = let no : ⊥ = cc in absurd no
  initial_sound ty (i ∷ []) e =
      let u = tested (constant_type types i) (λ other. is_kind ty (Known other)) e in
      let one = constant_sound i u.0 u.1 in
      ((u.0 ∷ [], one.1 [], ap (λ u. u ∷ []) (kind_true ty (Known u.0) u.2)), (one.0, tt))
  initial_sound ty (i ∷ j ∷ code) e = let no : ⊥ = cc in absurd no

  initial_complete : (ty : ValType) (code : List Instr) → IsExpression m outer_context code (ty ∷ []) × AllByRecursion (IsConstant types) code → is_initial types ty code ≡ true
  initial_complete ty [] h = let e : [] ≡ ty ∷ [] = h.0 in let no : ⊥ = cc in absurd no
  initial_complete ty (i ∷ []) h =
      let one = constant_complete i [] h.0.0 h.1.0 h.0.1 in
      let given : one.0 ∷ [] ≡ ty ∷ [] = sym one.2 ∙ h.0.2 in
      let same : one.0 ≡ ty = cc in
      ap (λ o. if_some o false (λ other. is_kind ty (Known other))) one.1 ∙ kind_is ty (Known one.0) same
  initial_complete ty (i ∷ j ∷ code) h =
      let longer = grown (i ∷ j ∷ code) [] (ty ∷ []) h.1 h.0 in absurd (omega (arith, longer))

  pub initial_tells : (ty : ValType) (code : List Instr) → Tells (is_initial types ty code) (IsExpression m outer_context code (ty ∷ []) × AllByRecursion (IsConstant types) code)
  initial_tells ty code = (initial_sound ty code, initial_complete ty code)

-- What is found in front is found in the whole.
front : {X : Type 0} (xs ys : List X) (i : ℕ) (x : X) → slice_get xs i ≡ Some x → slice_get (xs ++ ys) i ≡ Some x
front [] ys i x e = let no : ⊥ = cc in absurd no
front (y ∷ xs) ys zero x e = e
front (y ∷ xs) ys (suc i) x e = front xs ys i x e

global_tells : (m : Module) (global : Global) → Tells (is_global (imported_globals m.imports) global) (IsGlobalDefinition m global)
global_tells m global = initial_tells m (imported_globals m.imports) (front (imported_globals m.imports) _) global.ty.value global.init

flat : (b : Bool) (P Q R : Type 0) → Tells b (P × (Q × R)) → Tells b (P × Q × R)
flat b P Q R t = ((λ e. let h = t.0 e in (h.0, h.1.0, h.1.1)), (λ h. t.1 (h.0, (h.1, h.2))))

element_tells : (m : Module) (element : Element) → Tells (is_element (spaces_of m) element) (IsElement m element)
element_tells m element = flat (is_element (spaces_of m) element) (element.table < length (tables m)) (IsOffset m element.offset)
    (AllByRecursion (λ f. f < length (functions m)) element.funcs)
    (both_tell _ _ _ _ (lt_tells element.table (length (tables m)))
    (both_tell _ _ _ _ (initial_tells m (globals m) (λ x g e. e) I32 element.offset)
    (every_tells _ _ (function_tells m) element.funcs)))

segment_tells : (m : Module) (segment : Segment) → Tells (is_segment (spaces_of m) segment) (IsSegment m segment)
segment_tells m segment = both_tell _ _ _ _ (lt_tells segment.memory (length (memories m))) (initial_tells m (globals m) (λ x g e. e) I32 segment.offset)

module _ (m : Module) where
  types_tell : Tells (are_types m (spaces_of m)) (AllByRecursion IsFuncType m.types × (AllByRecursion (λ import. IsImportDesc m import.desc) m.imports ×
      (AllByRecursion (λ func. func.ty < length m.types) m.funcs × (AllByRecursion IsTable m.tables × (HasOneTable m ×
      (AllByRecursion IsMemory m.memories × HasOneMemory m))))))
  types_tell = both_tell _ _ _ _ (every_tells is_func_type IsFuncType (λ ty. le_tells (length ty.results) 1) m.types)
      (both_tell _ _ _ _ (every_tells (λ (import : Import). is_import (length m.types) import.desc) (λ import. IsImportDesc m import.desc) (λ import. import_tells m import.desc) m.imports)
      (both_tell _ _ _ _ (every_tells (λ (func : Func). nat_lt func.ty (length m.types)) (λ func. func.ty < length m.types) (λ func. lt_tells func.ty (length m.types)) m.funcs)
      (both_tell _ _ _ _ (every_tells (is_limits (2 ^ 32)) (IsLimits (2 ^ 32)) (limits_tell (2 ^ 32)) m.tables)
      (both_tell _ _ _ _ (le_tells (length (tables m)) 1)
      (both_tell _ _ _ _ (every_tells (is_limits 65536) (IsLimits 65536) (limits_tell 65536) m.memories) (le_tells (length (memories m)) 1))))))

  contents_tell : Tells (are_contents m (spaces_of m)) (AllByRecursion (IsGlobalDefinition m) m.globals ×
      (AllByRecursion (λ export. IsExportDesc m export.desc) m.exports × (AllByRecursion (IsElement m) m.elements ×
      (AllByRecursion (IsSegment m) m.segments × IsNamedOnce m.exports))))
  contents_tell = both_tell _ _ _ _ (every_tells (is_global (imported_globals m.imports)) (IsGlobalDefinition m) (global_tells m) m.globals)
      (both_tell _ _ _ _ (every_tells (λ (export : Export). is_export (spaces_of m) export.desc) (λ export. IsExportDesc m export.desc) (λ export. export_tells m export.desc) m.exports)
      (both_tell _ _ _ _ (every_tells (is_element (spaces_of m)) (IsElement m) (element_tells m) m.elements)
      (both_tell _ _ _ _ (every_tells (is_segment (spaces_of m)) (IsSegment m) (segment_tells m) m.segments) (named_tells m.exports))))

  -- What passes both tests is valid outside code.
  pub outside_valid : are_types m (spaces_of m) ≡ true → are_contents m (spaces_of m) ≡ true → IsValidOutside m
  outside_valid e f =
      let t = types_tell.0 e in let u = contents_tell.0 f in
      record {
        types = t.0;
        imports = t.1.0;
        func_types = t.1.1.0;
        tables = t.1.1.1.0;
        one_table = t.1.1.1.1.0;
        memories = t.1.1.1.1.1.0;
        one_memory = t.1.1.1.1.1.1;
        globals = u.0;
        exports = u.1.0;
        named_once = u.1.1.1.1;
        elements = u.1.1.0;
        segments = u.1.1.1.0;
      }

  -- And what is valid there passes both.
  pub valid_outside : IsValidOutside m → (are_types m (spaces_of m) ≡ true) × (are_contents m (spaces_of m) ≡ true)
  valid_outside v = (
    types_tell.1 (v.types, (v.imports, (v.func_types, (v.tables, (v.one_table, (v.memories, v.one_memory)))))),
    contents_tell.1 (v.globals, (v.exports, (v.elements, (v.segments, v.named_once)))),
  )

  -- Where the types are valid, what the test of the contents answers tells validity.
  pub by_contents : are_types m (spaces_of m) ≡ true → (answer : Result Bool AllocError) → IfOk answer (λ valid. valid ≡ are_contents m (spaces_of m)) →
      IfOk answer (λ valid. IsTrue valid ↔ IsValidOutside m)
  by_contents types (Ok valid) e = ((λ passed. outside_valid types (sym e ∙ passed)), (λ h. e ∙ (valid_outside h).1))
  by_contents types (Err error) e = tt

  pub without_types : are_types m (spaces_of m) ≡ false → IsTrue false ↔ IsValidOutside m
  without_types e = (
    (λ no. (let none : ⊥ = cc in absurd none)),
    (λ h. (let both = (valid_outside h).0 in let none : ⊥ = cc in absurd none)),
  )
