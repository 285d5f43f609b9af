-- Each instruction is rewritten by its rule, or traps by one.
use Rattle.std.proofs.Common.{◌≡◌, ◌≢◌, ℕ, zero, suc, zero-add, ◌+◌, List, [], ◌∷◌, ◌++◌, length, take, refl, sym, ap, subst, ◌∙◌, Option, Some, None, true, false}
use Rattle.std.proofs.lemmas.Bool.{ltb-true}
use Rattle.std.specs.Prelude.{nat_le, nat_lt, slice_get, slice_set}
use Rattle.hph_wasm.specs.declared.instr.Instr.{Instr, Unreachable, Nop, Block', Loop', If', Br, BrIf, BrTable, Return, Call, CallIndirect, Drop, Select, LocalGet, LocalSet, LocalTee, GlobalGet, GlobalSet, Load, LoadNarrow, StoreNarrow, I32Const, I64Const, Eqz, Compare, Unary, Binary, Wrap, Extend, items-the_row-Instr}
use Rattle.hph_wasm.specs.declared.instr.Instr as instr
use Rattle.hph_wasm.specs.declared.types.ValType.{ValType}
use Rattle.hph_wasm.specs.declared.types.ValType.TheVariants.{I32, I64}
use Rattle.hph_wasm.specs.declared.types.FuncType.{FuncType}
use Rattle.hph_wasm.specs.declared.value.Value.{Value}
use Rattle.hph_wasm.specs.declared.value.Value.TheVariants as value
use Rattle.hph_wasm.specs.declared.module.Module.{Module}
use Rattle.hph_wasm.specs.Choice.{if_zero}
use Rattle.hph_wasm.specs.Values.{width, value_of}
use Rattle.hph_wasm.specs.Integers.{binary}
use Rattle.hph_wasm.specs.Memory.{loaded, stored, byte_width, load_bytes, narrow_value, store_type, store_bytes}
use Rattle.hph_wasm.specs.Functions.{func_type}
use Rattle.hph_wasm.specs.Rows.{else_code}
use Rattle.hph_wasm.specs.Instantiation.{table_of}
use Rattle.hph_wasm.specs.Configuration.{Host, Label, Frame, Store, Setting, Configuration, Running, Trapped, Stuck}
use Rattle.hph_wasm.specs.Reduction.{with_memory, with_globals, selected, same_types, same_func_type, block_label, then_label, after_return, return_step, branch_step, entry_call, memory_write, instr_step}
use Rattle.hph_wasm.specs.Sequences.{Plain, Sequence, join, plain, stack, on_stack, is_block, is_loop, is_if}
use Rattle.hph_wasm.specs.PlainRules.{PlainRule, TrapRule}
use Rattle.hph_wasm.specs.PlainRules as plain_rule
use Rattle.hph_wasm.specs.Rewriting.{Rule, under_labels, under_frames, in_setting, RewritesTo, IsTrapStep}
use Rattle.hph_wasm.specs.Rewriting as rule
use Rattle.hph_wasm.proofs.Choices.{if_some-cases, if_some-either, cond-cases, cond-either, popped-cases, with_top-cases}
use Rattle.hph_wasm.proofs.SequenceLaws.{on_top, take-length}
use Rattle.hph_wasm.proofs.Typing.{same_func_type-same}
use Rattle.hph_wasm.proofs.Contexts.{whole, GoesTo, rewrites_at, leaves}
use Rattle.hph_wasm.proofs.BranchRewritings.{in_no_label, in_all_labels, return_step_rewrites, branch_step_rewrites}

-- The same types are found to be the same.
pub same_types-true : (types : List ValType) → same_types types types ≡ true
same_types-true [] = refl
same_types-true (I32 ∷ types) = same_types-true types
same_types-true (I64 ∷ types) = same_types-true types

-- So those that aren't found to be the same aren't.
others-differ : (ty other : FuncType) → same_func_type ty other ≡ false → ty ≢ other
others-differ ty other differ same =
    let found : same_func_type ty ty ≡ false = subst (λ o. same_func_type ty o ≡ false) (sym same) differ in
    let params = same_types-true ty.params in
    let results = same_types-true ty.results in
    let none : ⊥ = cc in none

module _ {H E : Type 0} (host : Host H E) (m : Module) (rest : List Instr) (at : Setting H) where
  -- An instruction on a stack leads to a configuration by a rule, or traps by one.
  abbrev Led : Instr → List Value → Configuration H E → Type 0
  Led i values c = GoesTo host m (in_setting (join (stack values) (plain (i ∷ rest))) at) c × IsTrapStep m (Running (i ∷ rest) values at) c

  -- What instructions behind a stack are, where the stack is what was taken from it and what is below.
  taken_from : (i : Instr) (values taken below : List Value) → values ≡ taken ++ below →
      join (stack below) (join (on_stack taken (Plain i)) (plain rest)) ≡ join (stack values) (plain (i ∷ rest))
  taken_from i values taken below same =
      on_top taken below (Plain i) (plain rest) ∙ ap (λ values. join (stack values) (plain (i ∷ rest))) (sym same)

  -- A plain instruction leaves values on the stack.
  plainly : (i : Instr) (values taken below given : List Value) (s : Store H) (locals : List Value) → values ≡ taken ++ below →
      PlainRule i at.store at.locals taken s locals given → Led i values (Running rest (given ++ below) (record at { locals = locals; store = s }))
  plainly i values taken below given s locals same r = (
    subst (λ code. RewritesTo host m (in_setting code at) (whole host m at.labels at.frames s locals (join (stack (given ++ below)) (plain rest))))
        (taken_from i values taken below same)
        (leaves host m at.labels at.frames given below rest (rule.plainly i at.store s at.locals locals taken given r)),
    tt,
  )

  -- Another instruction leaves others.
  rewritten : (i : Instr) (values taken below : List Value) (becomes : Sequence) → values ≡ taken ++ below →
      Rule host m at.store at.locals (on_stack taken (Plain i)) at.store at.locals becomes →
      RewritesTo host m (in_setting (join (stack values) (plain (i ∷ rest))) at) (in_setting (join (stack below) (join becomes (plain rest))) at)
  rewritten i values taken below becomes same r =
      subst (λ code. RewritesTo host m (in_setting code at) (in_setting (join (stack below) (join becomes (plain rest))) at))
      (taken_from i values taken below same) (rewrites_at host m at.labels at.frames below rest r)

  -- An instruction traps.
  traps : (i : Instr) (values taken below : List Value) → values ≡ taken ++ below → TrapRule m i at.store taken →
      Led i values (Trapped (i ∷ rest) at)
  traps i values taken below same r = (tt, (refl, refl, taken, below, same, r))

  -- No rule applies.
  none_applies : (i : Instr) (values : List Value) → Led i values (Stuck (i ∷ rest) at)
  none_applies i values = (tt, tt)

  -- What is below the value that was taken.
  second : (v w : Value) (values below lower : List Value) → values ≡ v ∷ below → below ≡ w ∷ lower → values ≡ v ∷ w ∷ lower
  second v w values below lower first then = first ∙ ap (λ values. v ∷ values) then

  -- An `if` is entered at one of its branches.
  branch_led : (ty : _) (shape : _) (body : _) (other : _) (n : ℕ) (values below : List Value) → values ≡ value.I32 n ∷ below →
      Led (If' ty shape body other) values (if_zero n
      (Running (else_code other) [] (record at { labels = block_label ty below rest ∷ at.labels }))
      (Running (items-the_row-Instr _ body) [] (record at { labels = then_label ty other below rest ∷ at.labels })))
  branch_led ty shape body other zero values below same = (
    rewritten (If' ty shape body other) values (value.I32 0 ∷ []) below _ same
        (rule.if_else at.store at.locals (If' ty shape body other) ty (items-the_row-Instr _ body) (else_code other) (is_if ty shape body other)),
    tt,
  )
  branch_led ty shape body other (suc n) values below same = (
    rewritten (If' ty shape body other) values (value.I32 (suc n) ∷ []) below _ same
        (rule.if_then at.store at.locals (If' ty shape body other) ty (items-the_row-Instr _ body) (else_code other) n (is_if ty shape body other)),
    tt,
  )

  -- A conditional branch is decided.
  decided : (k n : ℕ) (values below : List Value) → values ≡ value.I32 n ∷ below →
      Led (BrIf k) values (if_zero n (Running rest below at) (Running (Br k ∷ rest) below at))
  decided k zero values below same =
      plainly (BrIf k) values (value.I32 0 ∷ []) below [] at.store at.locals same (plain_rule.no_branch at.store at.locals k)
  decided k (suc n) values below same =
      (rewritten (BrIf k) values (value.I32 (suc n) ∷ []) below _ same (rule.branch_if at.store at.locals k n), tt)

  -- A value is selected.
  selecting : (n : ℕ) (lower upper : Value) (values below : List Value) → values ≡ value.I32 n ∷ upper ∷ lower ∷ below →
      Led Select values (Running rest (selected n lower upper ∷ below) at)
  selecting zero lower upper values below same =
      plainly Select values (value.I32 0 ∷ upper ∷ lower ∷ []) below (upper ∷ []) at.store at.locals same
      (plain_rule.select_upper at.store at.locals lower upper)
  selecting (suc n) lower upper values below same =
      plainly Select values (value.I32 (suc n) ∷ upper ∷ lower ∷ []) below (lower ∷ []) at.store at.locals same
      (plain_rule.select_lower at.store at.locals n lower upper)

  -- A call through the table.
  through_table : (number n : ℕ) (values below : List Value) → values ≡ value.I32 n ∷ below →
      Led (CallIndirect number) values (entry_call host m (slice_get (table_of m) n) number rest below at
      (Trapped (CallIndirect number ∷ rest) at) (Stuck (CallIndirect number ∷ rest) at))
  through_table number n values below same =
      let led = Led (CallIndirect number) values in
      let trapped = traps (CallIndirect number) values (value.I32 n ∷ []) below same in
      let no_rule = none_applies (CallIndirect number) values in
      if_some-either led (slice_get (table_of m) n) _ _ (λ absent. trapped (plain_rule.no_entry at.store number n absent)) (λ entry there.
      if_some-either led entry _ _ (λ empty. trapped (plain_rule.empty_entry at.store number n (there ∙ ap Some empty))) (λ f is.
      if_some-cases led (func_type m f) _ _ no_rule (λ ty known. if_some-cases led (slice_get m.types number) _ _ no_rule (λ wanted typed.
      cond-either led (same_func_type ty wanted) _ _
      (λ alike. (
        rewritten (CallIndirect number) values (value.I32 n ∷ []) below _ same
            (rule.call_indirect at.store at.locals number n f ty (there ∙ ap Some is) known (typed ∙ ap Some (sym (same_func_type-same ty wanted alike)))),
        tt,
      ))
      (λ differ. trapped (plain_rule.other_type at.store number n f ty wanted (there ∙ ap Some is) known typed (others-differ ty wanted differ)))))))

  -- A store writes, or traps.
  storing : (i : Instr) (values taken below : List Value) (written : Option (List ℕ)) → values ≡ taken ++ below →
      (written ≡ None → TrapRule m i at.store taken) →
      ((memory : List ℕ) → written ≡ Some memory → PlainRule i at.store at.locals taken (with_memory memory at.store) at.locals []) →
      Led i values (memory_write host m written rest below at (Trapped (i ∷ rest) at))
  storing i values taken below written same outside inside =
      if_some-either (Led i values) written _ _ (λ absent. traps i values taken below same (outside absent))
      (λ memory is. plainly i values taken below [] (with_memory memory at.store) at.locals same (inside memory is))

  -- Neither a return nor a branch traps.
  caller_no_trap : (i : Instr) (values results : List Value) (frame : Frame) (frames : List Frame) (store : Store H) →
      IsTrapStep m (Running (i ∷ rest) values at) (after_return host m frame frames results store)
  caller_no_trap i values results frame [] store = tt
  caller_no_trap i values results frame (caller ∷ frames) store = tt

  return_no_trap : (i : Instr) (values : List Value) (frames : List Frame) (store : Store H) →
      IsTrapStep m (Running (i ∷ rest) values at) (return_step host m values frames store (Stuck (i ∷ rest) at))
  return_no_trap i values [] store = tt
  return_no_trap i values (frame ∷ frames) store =
      cond-cases (IsTrapStep m (Running (i ∷ rest) values at)) (nat_le frame.arity (length values)) _ _
      (λ _. caller_no_trap i values (take frame.arity values) frame frames store) tt

  branch_no_trap : (i : Instr) (values : List Value) (k : ℕ) (labels : List Label) →
      IsTrapStep m (Running (i ∷ rest) values at) (branch_step host m k values labels at (Stuck (i ∷ rest) at))
  branch_no_trap i values zero [] = return_no_trap i values at.frames at.store
  branch_no_trap i values (suc k) [] = tt
  branch_no_trap i values zero (label ∷ labels) =
      cond-cases (IsTrapStep m (Running (i ∷ rest) values at)) (nat_le label.arity (length values)) _ _ (λ _. tt) tt
  branch_no_trap i values (suc k) (label ∷ labels) = branch_no_trap i values k labels

  -- A return leaves its function's frame.
  returning : (values : List Value) → Led Return values (return_step host m values at.frames at.store (Stuck (Return ∷ rest) at))
  returning values =
      let code = join (stack values) (plain (Return ∷ rest)) in (
        return_step_rewrites host m values at.frames at.store at.locals (under_labels code at.labels) (Stuck (Return ∷ rest) at)
            (λ arity outer enough. let (k, stands) = in_all_labels (on_stack (take arity values) (Plain Return)) 0 code at.labels (in_no_label Return values rest arity) in
            rule.return_out at.store outer arity at.locals (under_labels code at.labels) k (take arity values) (take-length arity values enough) stands)
            tt,
        return_no_trap Return values at.frames at.store,
      )

  -- A branch leaves labels.
  branching : (k : ℕ) (values : List Value) → Led (Br k) values (branch_step host m k values at.labels at (Stuck (Br k ∷ rest) at))
  branching k values = (
    branch_step_rewrites host m k values at (Stuck (Br k ∷ rest) at) (λ before. tt) k 0 (join (stack values) (plain (Br k ∷ rest))) at.labels
        (sym (zero-add k)) (in_no_label (Br k) values rest),
    branch_no_trap (Br k) values k at.labels,
  )

  -- Each instruction.
  pub instr_led : (i : Instr) (values : List Value) → Led i values (instr_step host m i rest values at (Trapped (i ∷ rest) at) (Stuck (i ∷ rest) at))
  instr_led Unreachable values = traps Unreachable values [] values refl (plain_rule.unreachable at.store)
  instr_led Nop values = plainly Nop values [] values [] at.store at.locals refl (plain_rule.nop at.store at.locals)
  instr_led (Block' ty shape body) values = (
    rewritten (Block' ty shape body) values [] values _ refl
        (rule.block at.store at.locals (Block' ty shape body) ty (items-the_row-Instr _ body) (is_block ty shape body)),
    tt,
  )
  instr_led (Loop' ty shape body) values = (
    rewritten (Loop' ty shape body) values [] values _ refl
        (rule.loop at.store at.locals (Loop' ty shape body) (items-the_row-Instr _ body) (is_loop ty shape body)),
    tt,
  )
  instr_led (If' ty shape body other) values = popped-cases (Led (If' ty shape body other) values) I32 values _ _ (none_applies (If' ty shape body other) values)
      (λ n below same. branch_led ty shape body other n values below same)
  instr_led (Br k) values = branching k values
  instr_led (BrIf k) values = popped-cases (Led (BrIf k) values) I32 values _ _ (none_applies (BrIf k) values)
      (λ n below same. decided k n values below same)
  instr_led (BrTable ks k) values = popped-cases (Led (BrTable ks k) values) I32 values _ _ (none_applies (BrTable ks k) values) (λ n below same.
      (rewritten (BrTable ks k) values (value.I32 n ∷ []) below _ same (rule.branch_table at.store at.locals ks k n), tt))
  instr_led Return values = returning values
  instr_led (Call f) values = (rewritten (Call f) values [] values _ refl (rule.call at.store at.locals f), tt)
  instr_led (CallIndirect number) values = popped-cases (Led (CallIndirect number) values) I32 values _ _ (none_applies (CallIndirect number) values)
      (λ n below same. through_table number n values below same)
  instr_led Drop values = with_top-cases (Led Drop values) values _ _ (none_applies Drop values) (λ v below same.
      plainly Drop values (v ∷ []) below [] at.store at.locals same (plain_rule.drop at.store at.locals v))
  instr_led Select values = popped-cases (Led Select values) I32 values _ _ (none_applies Select values) (λ n below same.
      with_top-cases (Led Select values) below _ _ (none_applies Select values) (λ upper lower_values then.
      with_top-cases (Led Select values) lower_values _ _ (none_applies Select values) (λ lower lowest last.
      selecting n lower upper values lowest
      (second (value.I32 n) upper values below (lower ∷ lowest) same (then ∙ ap (λ values. upper ∷ values) last)))))
  instr_led (LocalGet x) values = if_some-cases (Led (LocalGet x) values) (slice_get at.locals x) _ _ (none_applies (LocalGet x) values) (λ v there.
      plainly (LocalGet x) values [] values (v ∷ []) at.store at.locals refl (plain_rule.local_get at.store at.locals x v there))
  instr_led (LocalSet x) values = with_top-cases (Led (LocalSet x) values) values _ _ (none_applies (LocalSet x) values) (λ v below same.
      cond-cases (Led (LocalSet x) values) (nat_lt x (length at.locals)) _ _ (λ there.
      plainly (LocalSet x) values (v ∷ []) below [] at.store (slice_set at.locals x v) same
      (plain_rule.local_set at.store at.locals x v (ltb-true x (length at.locals) there))) (none_applies (LocalSet x) values))
  instr_led (LocalTee x) values = with_top-cases (Led (LocalTee x) values) values _ _ (none_applies (LocalTee x) values) (λ v below same.
      cond-cases (Led (LocalTee x) values) (nat_lt x (length at.locals)) _ _ (λ there.
      plainly (LocalTee x) values (v ∷ []) below (v ∷ []) at.store (slice_set at.locals x v) same
      (plain_rule.local_tee at.store at.locals x v (ltb-true x (length at.locals) there))) (none_applies (LocalTee x) values))
  instr_led (GlobalGet x) values = if_some-cases (Led (GlobalGet x) values) (slice_get at.store.globals x) _ _ (none_applies (GlobalGet x) values) (λ v there.
      plainly (GlobalGet x) values [] values (v ∷ []) at.store at.locals refl (plain_rule.global_get at.store at.locals x v there))
  instr_led (GlobalSet x) values = with_top-cases (Led (GlobalSet x) values) values _ _ (none_applies (GlobalSet x) values) (λ v below same.
      cond-cases (Led (GlobalSet x) values) (nat_lt x (length at.store.globals)) _ _ (λ there.
      plainly (GlobalSet x) values (v ∷ []) below [] (with_globals (slice_set at.store.globals x v) at.store) at.locals same
      (plain_rule.global_set at.store at.locals x v (ltb-true x (length at.store.globals) there))) (none_applies (GlobalSet x) values))
  instr_led (Load ty arg) values = popped-cases (Led (Load ty arg) values) I32 values _ _ (none_applies (Load ty arg) values) (λ address below same.
      if_some-either (Led (Load ty arg) values) (loaded (address + arg.offset) (byte_width ty) at.store.memory) _ _
      (λ outside. traps (Load ty arg) values (value.I32 address ∷ []) below same (plain_rule.load_outside at.store ty arg address outside))
      (λ n there. plainly (Load ty arg) values (value.I32 address ∷ []) below (value_of ty n ∷ []) at.store at.locals same
      (plain_rule.load at.store at.locals ty arg address n there)))
  instr_led (LoadNarrow o arg) values = popped-cases (Led (LoadNarrow o arg) values) I32 values _ _ (none_applies (LoadNarrow o arg) values) (λ address below same.
      if_some-either (Led (LoadNarrow o arg) values) (loaded (address + arg.offset) (load_bytes o) at.store.memory) _ _
      (λ outside. traps (LoadNarrow o arg) values (value.I32 address ∷ []) below same (plain_rule.load_narrow_outside at.store o arg address outside))
      (λ n there. plainly (LoadNarrow o arg) values (value.I32 address ∷ []) below (narrow_value o n ∷ []) at.store at.locals same
      (plain_rule.load_narrow at.store at.locals o arg address n there)))
  instr_led (instr.Store ty arg) values = popped-cases (Led (instr.Store ty arg) values) ty values _ _ (none_applies (instr.Store ty arg) values) (λ n below same.
      popped-cases (Led (instr.Store ty arg) values) I32 below _ _ (none_applies (instr.Store ty arg) values) (λ address lower then.
      storing (instr.Store ty arg) values (value_of ty n ∷ value.I32 address ∷ []) lower
      (stored (address + arg.offset) (byte_width ty) n at.store.memory) (second (value_of ty n) (value.I32 address) values below lower same then)
      (plain_rule.store_outside at.store ty arg address n) (λ memory. plain_rule.store at.store at.locals ty arg address n memory)))
  instr_led (StoreNarrow o arg) values = popped-cases (Led (StoreNarrow o arg) values) (store_type o) values _ _ (none_applies (StoreNarrow o arg) values) (λ n below same.
      popped-cases (Led (StoreNarrow o arg) values) I32 below _ _ (none_applies (StoreNarrow o arg) values) (λ address lower then.
      storing (StoreNarrow o arg) values (value_of (store_type o) n ∷ value.I32 address ∷ []) lower
      (stored (address + arg.offset) (store_bytes o) n at.store.memory)
      (second (value_of (store_type o) n) (value.I32 address) values below lower same then)
      (plain_rule.store_narrow_outside at.store o arg address n) (λ memory. plain_rule.store_narrow at.store at.locals o arg address n memory)))
  instr_led (I32Const z) values = plainly (I32Const z) values [] values _ at.store at.locals refl (plain_rule.i32_const at.store at.locals z)
  instr_led (I64Const z) values = plainly (I64Const z) values [] values _ at.store at.locals refl (plain_rule.i64_const at.store at.locals z)
  instr_led (Eqz ty) values = popped-cases (Led (Eqz ty) values) ty values _ _ (none_applies (Eqz ty) values) (λ n below same.
      plainly (Eqz ty) values (value_of ty n ∷ []) below _ at.store at.locals same (plain_rule.testop at.store at.locals ty n))
  instr_led (Compare ty o) values = popped-cases (Led (Compare ty o) values) ty values _ _ (none_applies (Compare ty o) values) (λ j below same.
      popped-cases (Led (Compare ty o) values) ty below _ _ (none_applies (Compare ty o) values) (λ i lower then.
      plainly (Compare ty o) values (value_of ty j ∷ value_of ty i ∷ []) lower _ at.store at.locals
      (second (value_of ty j) (value_of ty i) values below lower same then) (plain_rule.relop at.store at.locals ty o i j)))
  instr_led (Unary ty o) values = popped-cases (Led (Unary ty o) values) ty values _ _ (none_applies (Unary ty o) values) (λ n below same.
      plainly (Unary ty o) values (value_of ty n ∷ []) below _ at.store at.locals same (plain_rule.unop at.store at.locals ty o n))
  instr_led (Binary ty o) values = popped-cases (Led (Binary ty o) values) ty values _ _ (none_applies (Binary ty o) values) (λ j below same.
      popped-cases (Led (Binary ty o) values) ty below _ _ (none_applies (Binary ty o) values) (λ i lower then.
      let both = second (value_of ty j) (value_of ty i) values below lower same then in
      if_some-either (Led (Binary ty o) values) (binary o (width ty) i j) _ _
      (λ undefined. traps (Binary ty o) values (value_of ty j ∷ value_of ty i ∷ []) lower both (plain_rule.undefined at.store ty o i j undefined))
      (λ n is. plainly (Binary ty o) values (value_of ty j ∷ value_of ty i ∷ []) lower (value_of ty n ∷ []) at.store at.locals both
      (plain_rule.binop at.store at.locals ty o i j n is))))
  instr_led Wrap values = popped-cases (Led Wrap values) I64 values _ _ (none_applies Wrap values) (λ n below same.
      plainly Wrap values (value.I64 n ∷ []) below _ at.store at.locals same (plain_rule.wrap at.store at.locals n))
  instr_led (Extend sign) values = popped-cases (Led (Extend sign) values) I32 values _ _ (none_applies (Extend sign) values) (λ n below same.
      plainly (Extend sign) values (value.I32 n ∷ []) below _ at.store at.locals same (plain_rule.extend at.store at.locals sign n))
