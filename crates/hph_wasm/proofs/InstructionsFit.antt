-- Where an instruction is valid on the stack that is there, what it leads to fits.
use Rattle.std.proofs.Common.{◌≡◌, ◌∙◌, ℕ, zero, suc, ◌+◌, List, [], ◌∷◌, ◌++◌, Option, Some, length, reverse, refl, sym, ap, subst}
use Rattle.std.specs.Prelude.{Bool, nat_eq, nat_lt, option_map, slice_get, slice_set, slice_index_or}
use Rattle.std.specs.List.{AllByRecursion}
use Rattle.std.proofs.lemmas.Bool.{lt-ltb}
use Rattle.std.proofs.lemmas.Option.{slice_get-map}
use Rattle.hph_wasm.specs.declared.instr.Instr.{Instr, Unreachable, Nop, Block', Loop', If', Br, BrIf, BrTable, Return, Call, CallIndirect, Drop, Select, LocalGet, LocalSet, LocalTee, GlobalGet, GlobalSet, Load, LoadNarrow, StoreNarrow, I32Const, I64Const, Eqz, Compare, Unary, Binary, Wrap, Extend, Row_of-Instr, Held-Instr-If-2, items-the_row-Instr}
use Rattle.hph_wasm.specs.declared.instr.Instr as instr
use Rattle.hph_wasm.specs.declared.instr.NarrowLoad.{NarrowLoad}
use Rattle.hph_wasm.specs.declared.types.ValType.{ValType}
use Rattle.hph_wasm.specs.declared.types.ValType.TheVariants.{I32, I64}
use Rattle.hph_wasm.specs.declared.types.BlockType.{BlockType}
use Rattle.hph_wasm.specs.declared.types.FuncType.{FuncType}
use Rattle.hph_wasm.specs.declared.value.Value.{Value}
use Rattle.hph_wasm.specs.declared.module.Module.{Module}
use Rattle.hph_wasm.specs.Choice.{if_zero}
use Rattle.hph_wasm.specs.Values.{width, value_of, type_of, i32_bits, i64_bits}
use Rattle.hph_wasm.specs.Integers.{truth, unary, binary, comparison, wrapped, extended}
use Rattle.hph_wasm.specs.Memory.{loaded, stored, byte_width, load_type, load_bytes, narrow_value, store_type, store_bytes}
use Rattle.hph_wasm.specs.Functions.{func_type, globals}
use Rattle.hph_wasm.specs.Rows.{else_size, else_code}
use Rattle.hph_wasm.specs.Instantiation.{table_of}
use Rattle.hph_wasm.specs.Validity.{Context, under_label, results_of, IsGlobal, IsInstr, IsRow, IsElse, IsSequence}
use Rattle.hph_wasm.specs.Configuration.{Host, Label, Store, Setting, Configuration, Running, Calling}
use Rattle.hph_wasm.specs.Reduction.{with_memory, with_globals, selected, same_func_type, block_label, then_label, loop_label, block_entry, entry_call, local_write, global_write, memory_write, instr_step}
use Rattle.hph_wasm.proofs.Choices.{if_some-cases, cond-cases, cond-true, if_zero-cases, if_some-there}
use Rattle.hph_wasm.proofs.Rows.{row-sequence, else-sequence}
use Rattle.hph_wasm.proofs.Typing.{types-value, value_at, within_values, types-set, popped-there, top-there, same_func_type-same}
use Rattle.hph_wasm.specs.Fitting.{context, LabelsFit, CodeFits, FramesFit, StoreFits, FitsBehind, Fits}
use Rattle.hph_wasm.specs.Values.{types}
use Rattle.hph_wasm.proofs.Leaving.{return_step_fits, branch_step_fits}

-- A label in a table, or the one for greater numbers, takes what all of them take.
table_label : (labels : List (List ValType)) (ks : List ℕ) (n k : ℕ) (takes : List ValType) → slice_get labels k ≡ Some takes →
    AllByRecursion (λ j. slice_get labels j ≡ Some takes) ks → slice_get labels (slice_index_or ks n k) ≡ Some takes
table_label labels [] n k takes there all = there
table_label labels (j ∷ ks) zero k takes there all = all.0
table_label labels (j ∷ ks) (suc n) k takes there all = table_label labels ks n k takes there all.1

module _ (m : Module) {H E : Type 0} (host : Host H E) (entry_typed : (n f : ℕ) → slice_get (table_of m) n ≡ Some (Some f) →
    (ty : FuncType) × (func_type m f ≡ Some ty)) (rest : List Instr) (at : Setting H) (trap stuck : Configuration H E) (trap_fits : Fits m trap)
    (result : List ValType) (labels : List (List ValType)) (gives : List ValType)
    (labels_fit : LabelsFit m (types at.locals) result at.labels labels gives) (frames_fit : FramesFit m at.frames result)
    (store_fits : StoreFits m at.store) where
  -- The same, at this host.
  abbrev Here : Configuration H E → Type 0
  Here c = Fits m c

  -- What stands around the instructions.
  abbrev around : Context
  around = context (types at.locals) labels result

  -- From a stack of these types the instructions behind lead on.
  abbrev Leads : List ValType → Type 0
  Leads stack = IsSequence m around rest stack gives

  -- They go on with values of those types.
  on : (values : List Value) (stack : List ValType) → types values ≡ stack → Leads stack → Here (Running rest values at)
  on values stack typed leads = (result, (labels, gives, subst Leads (sym typed) leads, labels_fit), frames_fit, store_fits)

  -- The same with other locals of the same types.
  on_locals : (values locals : List Value) (stack : List ValType) → types values ≡ stack → types locals ≡ types at.locals → Leads stack →
      Here (Running rest values (record at { locals = locals }))
  on_locals values locals stack typed same leads = (
    result,
    subst (λ ts. CodeFits m ts at.labels rest (types values) result) (sym same) (labels, gives, subst Leads (sym typed) leads, labels_fit),
    frames_fit,
    store_fits,
  )

  -- The same with another store.
  on_store : (values : List Value) (store : Store H) (stack : List ValType) → types values ≡ stack → StoreFits m store → Leads stack →
      Here (Running rest values (record at { store = store }))
  on_store values store stack typed fits leads = (result, (labels, gives, subst Leads (sym typed) leads, labels_fit), frames_fit, fits)

  -- They go on with a value of a type on top.
  on_value : (v : Value) (ty : ValType) (values : List Value) (below mid : List ValType) → type_of v ≡ ty → types values ≡ below →
      mid ≡ ty ∷ below → Leads mid → Here (Running rest (v ∷ values) at)
  on_value v ty values below mid is typed stack leads =
      on (v ∷ values) mid (ap (λ t. t ∷ types values) is ∙ ap (λ ts. ty ∷ ts) typed ∙ sym stack) leads

  -- The same with the number of one.
  on_number : (ty : ValType) (n : ℕ) (values : List Value) (below mid : List ValType) → types values ≡ below → mid ≡ ty ∷ below →
      Leads mid → Here (Running rest (value_of ty n ∷ values) at)
  on_number ty n values below mid typed stack leads = on_value (value_of ty n) ty values below mid (types-value ty n) typed stack leads

  -- A function is called whose arguments are on top.
  calls : (f : ℕ) (ty : FuncType) (values : List Value) (below : List ValType) → func_type m f ≡ Some ty →
      types values ≡ reverse ty.params ++ below → Leads (reverse ty.results ++ below) → Here (Calling f rest values at)
  calls f ty values below known typed leads = (ty, known, below, typed, behind at.frames frames_fit)
    where
      behind : (frames : List _) → FramesFit m frames result → FitsBehind m frames at rest (reverse ty.results ++ below)
      behind [] fits = absurd fits
      behind (frame ∷ frames) fits = (result, (labels, gives, leads, labels_fit), fits, store_fits)

  -- A label takes what is on top.
  to_label : (k : ℕ) (values : List Value) (takes below : List ValType) → slice_get labels k ≡ Some takes → types values ≡ takes ++ below →
      (mid : List ValType) → Leads mid → Here (Running (Br k ∷ rest) values at)
  to_label k values takes below there typed mid leads =
      (result, (labels, gives, (mid, (takes, there, (below, typed)), leads), labels_fit), frames_fit, store_fits)

  -- Instructions are entered under a label.
  enters : (label : Label) (inside : List Instr) (takes results : List ValType) → IsSequence m (under_label takes around) inside [] results →
      label.rest ≡ rest → Leads (results ++ types label.values) →
      IsSequence m around (label.continuation ++ label.rest) (takes ++ types label.values) gives → label.arity ≡ length takes →
      Here (block_entry host m label inside at)
  enters label inside takes results valid outside leads again arity =
      let code = subst (λ rest. IsSequence m around rest (results ++ types label.values) gives) (sym outside) leads in
      (result, (takes ∷ labels, results, valid, (gives, code, again, arity, labels_fit)), frames_fit, store_fits)

  -- A block is entered; a branch to its label goes on behind it.
  enters_block : (ty : BlockType) (after : ℕ) (inside : List Instr) (values : List Value) →
      IsSequence m (under_label (results_of ty) around) inside [] (results_of ty) → Leads (results_of ty ++ types values) →
      Here (block_entry host m (record (block_label ty values rest) { after = after }) inside at)
  enters_block ty after inside values valid leads =
      enters (record (block_label ty values rest) { after = after }) inside (results_of ty) (results_of ty) valid refl leads leads refl

  -- The branches of an `if`.
  enters_branch : (ty : BlockType) {shape : _} (body : Row_of-Instr shape) (other : Held-Instr-If-2) (n : ℕ) (values : List Value) →
      IsRow m (under_label (results_of ty) around) body [] (results_of ty) →
      IsElse m (under_label (results_of ty) around) other (results_of ty) → Leads (results_of ty ++ types values) →
      Here (if_zero n (block_entry host m (block_label ty values rest) (else_code other) at)
      (block_entry host m (then_label ty other values rest) (items-the_row-Instr _ body) at))
  enters_branch ty body other n values valid other_valid leads = if_zero-cases Here n _ _
      (λ _. enters_block ty 1 (else_code other) values (else-sequence m _ other (results_of ty) other_valid) leads)
      (λ _ _. enters_block ty (1 + else_size other) (items-the_row-Instr _ body) values (row-sequence m _ body [] (results_of ty) valid) leads)

  -- A call through the table finds a function of the type, or traps.
  calls_entry : (n number : ℕ) (wanted : FuncType) (values : List Value) (below : List ValType) → slice_get m.types number ≡ Some wanted →
      types values ≡ reverse wanted.params ++ below → Leads (reverse wanted.results ++ below) →
      Here (entry_call host m (slice_get (table_of m) n) number rest values at trap stuck)
  calls_entry n number wanted values below known typed leads =
      if_some-cases Here (slice_get (table_of m) n) trap _ trap_fits (λ function there.
      if_some-cases Here function trap _ trap_fits (λ f is.
      let (ty, has_type) = entry_typed n f (there ∙ ap Some is) in
      if_some-there Here (func_type m f) ty stuck _ has_type (if_some-there Here (slice_get m.types number) wanted stuck _ known
      (cond-cases Here (same_func_type ty wanted) (Calling f rest values at) trap (λ same.
      let equal : wanted ≡ ty = sym (same_func_type-same ty wanted same) in
      calls f ty values below has_type (typed ∙ ap (λ (ty : FuncType). reverse ty.params ++ below) equal)
      (subst (λ (ty : FuncType). Leads (reverse ty.results ++ below)) equal leads)) trap_fits))))

  -- A local that is there is written.
  writes_local : (x : ℕ) (v : Value) (ty : ValType) (values : List Value) (stack : List ValType) → slice_get (types at.locals) x ≡ Some ty →
      type_of v ≡ ty → types values ≡ stack → Leads stack → Here (local_write host m x v rest values at stuck)
  writes_local x v ty values stack there is typed leads =
      cond-true Here (nat_lt x (length at.locals)) _ stuck (lt-ltb _ _ (within_values at.locals x ty there))
      (on_locals values (slice_set at.locals x v) stack typed (types-set at.locals x v (there ∙ ap Some (sym is))) leads)

  -- The type of a global is that of its value.
  global_type : (x : ℕ) (ty : ValType) (mutable : Bool) → IsGlobal m x ty mutable → slice_get (types at.store.globals) x ≡ Some ty
  global_type x ty mutable there =
      ap (λ ts. slice_get ts x) store_fits ∙ slice_get-map (λ ty. ty.value) (globals m) x ∙ ap (option_map (λ ty. ty.value)) there

  -- A global that is there is written.
  writes_global : (x : ℕ) (v : Value) (ty : ValType) (values : List Value) (stack : List ValType) →
      slice_get (types at.store.globals) x ≡ Some ty → type_of v ≡ ty → types values ≡ stack → Leads stack →
      Here (global_write host m x v rest values at stuck)
  writes_global x v ty values stack there is typed leads =
      cond-true Here (nat_lt x (length at.store.globals)) _ stuck (lt-ltb _ _ (within_values at.store.globals x ty there))
      (on_store values (with_globals (slice_set at.store.globals x v) at.store) stack typed
      (types-set at.store.globals x v (there ∙ ap Some (sym is)) ∙ store_fits) leads)

  -- The memory is written, or the store traps.
  writes_memory : (written : Option (List ℕ)) (values : List Value) (stack : List ValType) → types values ≡ stack → Leads stack →
      Here (memory_write host m written rest values at trap)
  writes_memory written values stack typed leads =
      if_some-cases Here written trap _ trap_fits (λ memory _. on_store values (with_memory memory at.store) stack typed store_fits leads)

  -- A narrow load gives a value of its type.
  narrow-type : (load : NarrowLoad) (n : ℕ) → type_of (narrow_value load n) ≡ load_type load
  narrow-type load n = types-value (load_type load) _

  -- What an instruction leads to fits.
  pub instr_step_fits : (i : Instr) (values : List Value) (mid : List ValType) → IsInstr m around i (types values) mid → Leads mid →
      Here (instr_step host m i rest values at trap stuck)
  instr_step_fits Unreachable values mid valid leads = trap_fits
  instr_step_fits Nop values mid valid leads = on values mid valid leads
  instr_step_fits (Block' ty shape body) values mid (inside, (below, from, to)) leads =
      enters_block ty 1 (items-the_row-Instr _ body) values (row-sequence m _ body [] (results_of ty) inside)
      (subst Leads (to ∙ ap (λ ts. results_of ty ++ ts) (sym from)) leads)
  instr_step_fits (Loop' ty shape body) values mid (inside, (below, from, to)) leads =
      enters (loop_label (Loop' ty shape body) values rest) (items-the_row-Instr _ body) [] (results_of ty)
      (row-sequence m _ body [] (results_of ty) inside) refl (subst Leads (to ∙ ap (λ ts. results_of ty ++ ts) (sym from)) leads)
      (mid, (inside, (below, from, to)), leads) refl
  instr_step_fits (If' ty shape body other) values mid (inside, other_inside, (below, from, to)) leads =
      popped-there Here I32 values below stuck _ from (λ n others typed.
      enters_branch ty body other n others inside other_inside (subst Leads (to ∙ ap (λ ts. results_of ty ++ ts) (sym typed)) leads))
  instr_step_fits (Br k) values mid (takes, there, (below, from)) leads =
      branch_step_fits m host k values at.labels at stuck result labels gives takes below labels_fit there from frames_fit store_fits
  instr_step_fits (BrIf k) values mid (takes, there, (below, from, to)) leads =
      popped-there Here I32 values (takes ++ below) stuck _ from (λ n others typed. if_zero-cases Here n _ _
      (λ _. on others mid (typed ∙ sym to) leads) (λ _ _. to_label k others takes below there typed mid leads))
  instr_step_fits (BrTable ks k) values mid (takes, there, all, (below, from)) leads =
      popped-there Here I32 values (takes ++ below) stuck _ from (λ n others typed.
      to_label (slice_index_or ks n k) others takes below (table_label labels ks n k takes there all) typed mid leads)
  instr_step_fits Return values mid (below, from) leads =
      return_step_fits m host values at.frames at.store stuck result below from frames_fit store_fits
  instr_step_fits (Call f) values mid (ty, known, (below, from, to)) leads = calls f ty values below known from (subst Leads to leads)
  instr_step_fits (CallIndirect number) values mid (ty, known, table, (below, from, to)) leads =
      popped-there Here I32 values (reverse ty.params ++ below) stuck _ from (λ n others typed.
      calls_entry n number ty others below known typed (subst Leads to leads))
  instr_step_fits Drop values mid (ty, (below, from, to)) leads =
      top-there Here ty values below stuck _ from (λ v others is typed. on others mid (typed ∙ sym to) leads)
  instr_step_fits Select values mid (ty, (below, from, to)) leads =
      popped-there Here I32 values (ty ∷ ty ∷ below) stuck _ from (λ n others typed.
      top-there Here ty others (ty ∷ below) stuck _ typed (λ upper others is_upper typed.
      top-there Here ty others below stuck _ typed (λ lower others is_lower typed.
      on_value (selected n lower upper) ty others below mid
      (if_zero-cases (λ v. type_of v ≡ ty) n upper lower (λ _. is_upper) (λ _ _. is_lower)) typed to leads)))
  instr_step_fits (LocalGet x) values mid (ty, there, (below, from, to)) leads =
      let (v, is_there, is) = value_at at.locals x ty there in
      if_some-there Here (slice_get at.locals x) v stuck _ is_there (on_value v ty values below mid is from to leads)
  instr_step_fits (LocalSet x) values mid (ty, there, (below, from, to)) leads =
      top-there Here ty values below stuck _ from (λ v others is typed. writes_local x v ty others mid there is (typed ∙ sym to) leads)
  instr_step_fits (LocalTee x) values mid (ty, there, (below, from, to)) leads =
      top-there Here ty values below stuck _ from (λ v others is typed. writes_local x v ty (v ∷ others) mid there is
      (ap (λ t. t ∷ types others) is ∙ ap (λ ts. ty ∷ ts) typed ∙ sym to) leads)
  instr_step_fits (GlobalGet x) values mid (ty, mutable, there, (below, from, to)) leads =
      let (v, is_there, is) = value_at at.store.globals x ty (global_type x ty mutable there) in
      if_some-there Here (slice_get at.store.globals x) v stuck _ is_there (on_value v ty values below mid is from to leads)
  instr_step_fits (GlobalSet x) values mid (ty, there, (below, from, to)) leads =
      top-there Here ty values below stuck _ from (λ v others is typed.
      writes_global x v ty others mid (global_type x ty _ there) is (typed ∙ sym to) leads)
  instr_step_fits (Load ty arg) values mid (access, (below, from, to)) leads =
      popped-there Here I32 values below stuck _ from (λ address others typed.
      if_some-cases Here (loaded (address + arg.offset) (byte_width ty) at.store.memory) trap _ trap_fits
      (λ n _. on_number ty n others below mid typed to leads))
  instr_step_fits (LoadNarrow load arg) values mid (access, (below, from, to)) leads =
      popped-there Here I32 values below stuck _ from (λ address others typed.
      if_some-cases Here (loaded (address + arg.offset) (load_bytes load) at.store.memory) trap _ trap_fits
      (λ n _. on_value (narrow_value load n) (load_type load) others below mid (narrow-type load n) typed to leads))
  instr_step_fits (instr.Store ty arg) values mid (access, (below, from, to)) leads =
      popped-there Here ty values (I32 ∷ below) stuck _ from (λ n others typed.
      popped-there Here I32 others below stuck _ typed (λ address others typed.
      writes_memory (stored (address + arg.offset) (byte_width ty) n at.store.memory) others mid (typed ∙ sym to) leads))
  instr_step_fits (StoreNarrow store arg) values mid (access, (below, from, to)) leads =
      popped-there Here (store_type store) values (I32 ∷ below) stuck _ from (λ n others typed.
      popped-there Here I32 others below stuck _ typed (λ address others typed.
      writes_memory (stored (address + arg.offset) (store_bytes store) n at.store.memory) others mid (typed ∙ sym to) leads))
  instr_step_fits (I32Const z) values mid (below, from, to) leads = on_number I32 (i32_bits z) values below mid from to leads
  instr_step_fits (I64Const z) values mid (below, from, to) leads = on_number I64 (i64_bits z) values below mid from to leads
  instr_step_fits (Eqz ty) values mid (below, from, to) leads = popped-there Here ty values below stuck _ from (λ n others typed.
      on_number I32 (truth (nat_eq n 0)) others below mid typed to leads)
  instr_step_fits (Compare ty o) values mid (below, from, to) leads = popped-there Here ty values (ty ∷ below) stuck _ from (λ j others typed.
      popped-there Here ty others below stuck _ typed (λ i others typed.
      on_number I32 (truth (comparison o (width ty) i j)) others below mid typed to leads))
  instr_step_fits (Unary ty o) values mid (below, from, to) leads = popped-there Here ty values below stuck _ from (λ n others typed.
      on_number ty (unary o (width ty) n) others below mid typed to leads)
  instr_step_fits (Binary ty o) values mid (below, from, to) leads = popped-there Here ty values (ty ∷ below) stuck _ from (λ j others typed.
      popped-there Here ty others below stuck _ typed (λ i others typed.
      if_some-cases Here (binary o (width ty) i j) trap _ trap_fits (λ n _. on_number ty n others below mid typed to leads)))
  instr_step_fits Wrap values mid (below, from, to) leads = popped-there Here I64 values below stuck _ from (λ n others typed.
      on_number I32 (wrapped 32 n) others below mid typed to leads)
  instr_step_fits (Extend sign) values mid (below, from, to) leads = popped-there Here I32 values below stuck _ from (λ n others typed.
      on_number I64 (extended sign 32 64 n) others below mid typed to leads)
