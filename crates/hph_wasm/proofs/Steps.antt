-- The kinds of steps that instructions make, for what is kept by all steps of a kind.
use Rattle.std.proofs.Common.{◌≡◌, ◌⊎◌, inl, inr, ◌∙◌, ℕ, ◌+◌, List, [], ◌∷◌, ◌++◌, append_assoc, Option, length, length-append, refl, sym, ap, arith}
use Rattle.std.specs.Prelude.{nat_eq, nat_lt, slice_get, slice_set, slice_index_or}
use Rattle.hph_wasm.specs.declared.instr.Instr.{Instr, Unreachable, Nop, Block', Loop', If', Br, BrIf, BrTable, Return, Call, CallIndirect, Drop, Select, LocalGet, LocalSet, LocalTee, GlobalGet, GlobalSet, Load, LoadNarrow, StoreNarrow, I32Const, I64Const, Eqz, Compare, Unary, Binary, Wrap, Extend, Row_of-Instr, end_of-Instr, more_of-Instr, items-the_row-Instr, Held-Instr-If-2, None', Some'}
use Rattle.hph_wasm.specs.declared.instr.Instr as instr
use Rattle.hph_wasm.specs.declared.types.ValType.TheVariants.{I32, I64}
use Rattle.hph_wasm.specs.declared.types.BlockType.{BlockType}
use Rattle.hph_wasm.specs.declared.value.Value.{Value}
use Rattle.hph_wasm.specs.declared.value.Value.TheVariants as value
use Rattle.hph_wasm.specs.declared.module.Module.{Module}
use Rattle.hph_wasm.specs.Values.{width, value_of, i32_bits, i64_bits}
use Rattle.hph_wasm.specs.Integers.{truth, unary, binary, comparison, wrapped, extended}
use Rattle.hph_wasm.specs.Memory.{loaded, stored, byte_width, load_bytes, narrow_value, store_type, store_bytes}
use Rattle.hph_wasm.specs.Functions.{func_type}
use Rattle.hph_wasm.specs.Rows.{else_code}
use Rattle.hph_wasm.specs.Instantiation.{table_of}
use Rattle.hph_wasm.specs.Configuration.{Host, Label, Setting, Configuration, Running, Calling}
use Rattle.hph_wasm.specs.Reduction.{selected, same_func_type, block_label, then_label, loop_label, block_entry, return_step, branch_step, entry_call, local_write, global_write, memory_write, instr_step}
use Rattle.hph_wasm.specs.Opcodes.{Opcode, Of, ElseOfCode, EndOfCode, instr_opcodes, row_opcodes, else_opcodes, opcodes}
use Rattle.hph_wasm.proofs.OpcodeLists.{row_opcodes-list, else_opcodes-length}
use Rattle.hph_wasm.proofs.Choices.{if_some-cases, cond-cases, if_zero-cases, popped-cases, with_top-cases}

-- An instruction that isn't `br`, which alone stands for others.
abbrev pub IsNoBranch : Instr → Type 0
IsNoBranch (Br k) = ⊥
IsNoBranch _ = Unit {0}

-- An instruction of one opcode, as those are that go on as a branch.
abbrev pub IsConditional : Instr → Type 0
IsConditional i = instr_opcodes i ≡ Of i ∷ []

-- An instruction is entered at these instructions inside it, under this label: where they stand among its opcodes, and what a
-- branch to the label goes on with.
pub record Entry (i : Instr) (rest : List Instr) (label : Label) (inside : List Instr) : Type 0 where
  pub own : IsNoBranch i
  pub before : List Opcode
  pub behind : List Opcode
  pub split : instr_opcodes i ≡ Of i ∷ (before ++ (opcodes inside ++ behind))
  pub passed : length behind ≡ label.after
  pub outside : label.rest ≡ rest
  pub again : (label.continuation ≡ []) ⊎ (label.continuation ≡ i ∷ [])

-- A block and its label.
block_at : (ty : BlockType) (shape : _) (body : Row_of-Instr _) (rest : List Instr) (values : List Value) →
    Entry (Block' ty shape body) rest (block_label ty values rest) (items-the_row-Instr _ body)
block_at ty shape body rest values = record {
  own = tt;
  before = [];
  behind = EndOfCode ∷ [];
  split = ap (λ l. Of (Block' ty shape body) ∷ (l ++ EndOfCode ∷ [])) (row_opcodes-list body);
  passed = refl;
  outside = refl;
  again = inl refl;
}

-- A loop and its label.
loop_at : (ty : BlockType) (shape : _) (body : Row_of-Instr _) (rest : List Instr) (values : List Value) →
    Entry (Loop' ty shape body) rest (loop_label (Loop' ty shape body) values rest) (items-the_row-Instr _ body)
loop_at ty shape body rest values = record {
  own = tt;
  before = [];
  behind = EndOfCode ∷ [];
  split = ap (λ l. Of (Loop' ty shape body) ∷ (l ++ EndOfCode ∷ [])) (row_opcodes-list body);
  passed = refl;
  outside = refl;
  again = inr refl;
}

-- The first branch of an `if`, behind which its `else` stands.
then_at : (ty : BlockType) (shape : _) (body : Row_of-Instr _) (other : Held-Instr-If-2) (rest : List Instr) (values : List Value) →
    Entry (If' ty shape body other) rest (then_label ty other values rest) (items-the_row-Instr _ body)
then_at ty shape body other rest values = record {
  own = tt;
  before = [];
  behind = else_opcodes other ++ EndOfCode ∷ [];
  split = ap (λ l. Of (If' ty shape body other) ∷ (l ++ (else_opcodes other ++ EndOfCode ∷ []))) (row_opcodes-list body);
  passed = omega (arith, length-append (else_opcodes other) (EndOfCode ∷ []), else_opcodes-length other);
  outside = refl;
  again = inl refl;
}

-- The second branch of an `if`, before which the first one and the `else` stand.
else_at : (ty : BlockType) (shape : _) (body : Row_of-Instr _) (other : Held-Instr-If-2) (rest : List Instr) (values : List Value) →
    Entry (If' ty shape body other) rest (block_label ty values rest) (else_code other)
else_at ty shape body None' rest values = record {
  own = tt;
  before = row_opcodes body;
  behind = EndOfCode ∷ [];
  split = refl;
  passed = refl;
  outside = refl;
  again = inl refl;
}
else_at ty shape body (Some' other_shape other) rest values = record {
  own = tt;
  before = row_opcodes body ++ ElseOfCode ∷ [];
  behind = EndOfCode ∷ [];
  split = ap (λ l. Of (If' ty shape body (Some' other_shape other)) ∷ l) (
      ap (λ l. row_opcodes body ++ (ElseOfCode ∷ (l ++ EndOfCode ∷ []))) (row_opcodes-list other) ∙
      sym (append_assoc (row_opcodes body) (ElseOfCode ∷ []) (opcodes (items-the_row-Instr _ other) ++ EndOfCode ∷ [])));
  passed = refl;
  outside = refl;
  again = inl refl;
}

module _ {H E : Type 0} (host : Host H E) (m : Module) (P : Configuration H E → Type 0) (rest : List Instr) (at : Setting H)
    (trap stuck : Configuration H E) (on_stuck : P stuck) where
  -- What holds of each kind of step that an instruction can make.
  pub record Kept (i : Instr) : Type 0 where
    -- It traps.
    pub traps : IsNoBranch i → P trap
    -- It goes on with what comes behind it, with other values, locals, or a store of the same host.
    pub goes : (values locals : List Value) (memory : List ℕ) (globals : List Value) →
        P (Running rest values (record at { locals = locals; store = record { host = at.store.host; memory = memory; globals = globals } }))
    -- It goes on as a branch.
    pub jumps : (k : ℕ) (values : List Value) → IsConditional i → P (Running (Br k ∷ rest) values at)
    -- It calls a function.
    pub calls : (f : ℕ) (values : List Value) → P (Calling f rest values at)
    -- It is entered.
    pub enters : (label : Label) (inside : List Instr) → Entry i rest label inside → P (block_entry host m label inside at)
    -- It leaves labels, or its function.
    pub branches : (k : ℕ) (values : List Value) → i ≡ Br k → P (branch_step host m k values at.labels at stuck)
    pub returns : (values : List Value) → i ≡ Return → P (return_step host m values at.frames at.store stuck)

  module _ (i : Instr) (kept : Kept i) where
    -- It goes on with other values.
    on : (values : List Value) → P (Running rest values at)
    on values = kept.goes values at.locals at.store.memory at.store.globals

    -- A call through the table.
    entry_call-kept : IsNoBranch i → (entry : Option (Option ℕ)) (number : ℕ) (values : List Value) →
        P (entry_call host m entry number rest values at trap stuck)
    entry_call-kept can entry number values =
        if_some-cases P entry trap _ (kept.traps can) (λ function _. if_some-cases P function trap _ (kept.traps can) (λ f _.
        if_some-cases P (func_type m f) stuck _ on_stuck (λ ty _. if_some-cases P (slice_get m.types number) stuck _ on_stuck (λ wanted _.
        cond-cases P (same_func_type ty wanted) (Calling f rest values at) trap (λ _. kept.calls f values) (kept.traps can)))))

    -- A local is written.
    local_write-kept : (x : ℕ) (v : Value) (values : List Value) → P (local_write host m x v rest values at stuck)
    local_write-kept x v values = cond-cases P (nat_lt x (length at.locals)) _ stuck
        (λ _. kept.goes values (slice_set at.locals x v) at.store.memory at.store.globals) on_stuck

    -- A global is written.
    global_write-kept : (x : ℕ) (v : Value) (values : List Value) → P (global_write host m x v rest values at stuck)
    global_write-kept x v values = cond-cases P (nat_lt x (length at.store.globals)) _ stuck
        (λ _. kept.goes values at.locals at.store.memory (slice_set at.store.globals x v)) on_stuck

    -- The memory is written.
    memory_write-kept : IsNoBranch i → (written : Option (List ℕ)) (values : List Value) → P (memory_write host m written rest values at trap)
    memory_write-kept can written values =
        if_some-cases P written trap _ (kept.traps can) (λ memory _. kept.goes values at.locals memory at.store.globals)

  -- The step of an instruction is of one of those kinds.
  pub instr_step-kept : (i : Instr) (values : List Value) → Kept i → P (instr_step host m i rest values at trap stuck)
  instr_step-kept Unreachable values kept = kept.traps tt
  instr_step-kept Nop values kept = on Nop kept values
  instr_step-kept (Block' ty shape body) values kept = kept.enters _ _ (block_at ty shape body rest values)
  instr_step-kept (Loop' ty shape body) values kept = kept.enters _ _ (loop_at ty shape body rest values)
  instr_step-kept (If' ty shape body other) values kept = popped-cases P I32 values stuck _ on_stuck (λ n below _.
      if_zero-cases P n _ _ (λ _. kept.enters _ _ (else_at ty shape body other rest below))
      (λ _ _. kept.enters _ _ (then_at ty shape body other rest below)))
  instr_step-kept (Br k) values kept = kept.branches k values refl
  instr_step-kept (BrIf k) values kept = popped-cases P I32 values stuck _ on_stuck (λ n below _.
      if_zero-cases P n _ _ (λ _. on (BrIf k) kept below) (λ _ _. kept.jumps k below refl))
  instr_step-kept (BrTable ks k) values kept = popped-cases P I32 values stuck _ on_stuck (λ n below _.
      kept.jumps (slice_index_or ks n k) below refl)
  instr_step-kept Return values kept = kept.returns values refl
  instr_step-kept (Call f) values kept = kept.calls f values
  instr_step-kept (CallIndirect number) values kept = popped-cases P I32 values stuck _ on_stuck (λ n below _.
      entry_call-kept (CallIndirect number) kept tt (slice_get (table_of m) n) number below)
  instr_step-kept Drop values kept = with_top-cases P values stuck _ on_stuck (λ v below _. on Drop kept below)
  instr_step-kept Select values kept = popped-cases P I32 values stuck _ on_stuck (λ n below _.
      with_top-cases P below stuck _ on_stuck (λ upper below _. with_top-cases P below stuck _ on_stuck (λ lower below _.
      on Select kept (selected n lower upper ∷ below))))
  instr_step-kept (LocalGet x) values kept =
      if_some-cases P (slice_get at.locals x) stuck _ on_stuck (λ v _. on (LocalGet x) kept (v ∷ values))
  instr_step-kept (LocalSet x) values kept =
      with_top-cases P values stuck _ on_stuck (λ v below _. local_write-kept (LocalSet x) kept x v below)
  instr_step-kept (LocalTee x) values kept =
      with_top-cases P values stuck _ on_stuck (λ v below _. local_write-kept (LocalTee x) kept x v (v ∷ below))
  instr_step-kept (GlobalGet x) values kept =
      if_some-cases P (slice_get at.store.globals x) stuck _ on_stuck (λ v _. on (GlobalGet x) kept (v ∷ values))
  instr_step-kept (GlobalSet x) values kept =
      with_top-cases P values stuck _ on_stuck (λ v below _. global_write-kept (GlobalSet x) kept x v below)
  instr_step-kept (Load ty arg) values kept = popped-cases P I32 values stuck _ on_stuck (λ address below _.
      if_some-cases P (loaded (address + arg.offset) (byte_width ty) at.store.memory) trap _ (kept.traps tt)
      (λ n _. on (Load ty arg) kept (value_of ty n ∷ below)))
  instr_step-kept (LoadNarrow load arg) values kept = popped-cases P I32 values stuck _ on_stuck (λ address below _.
      if_some-cases P (loaded (address + arg.offset) (load_bytes load) at.store.memory) trap _ (kept.traps tt)
      (λ n _. on (LoadNarrow load arg) kept (narrow_value load n ∷ below)))
  instr_step-kept (instr.Store ty arg) values kept = popped-cases P ty values stuck _ on_stuck (λ n below _.
      popped-cases P I32 below stuck _ on_stuck (λ address below _. memory_write-kept (instr.Store ty arg) kept tt
      (stored (address + arg.offset) (byte_width ty) n at.store.memory) below))
  instr_step-kept (StoreNarrow store arg) values kept = popped-cases P (store_type store) values stuck _ on_stuck (λ n below _.
      popped-cases P I32 below stuck _ on_stuck (λ address below _. memory_write-kept (StoreNarrow store arg) kept tt
      (stored (address + arg.offset) (store_bytes store) n at.store.memory) below))
  instr_step-kept (I32Const z) values kept = on (I32Const z) kept (value.I32 (i32_bits z) ∷ values)
  instr_step-kept (I64Const z) values kept = on (I64Const z) kept (value.I64 (i64_bits z) ∷ values)
  instr_step-kept (Eqz ty) values kept = popped-cases P ty values stuck _ on_stuck (λ n below _.
      on (Eqz ty) kept (value.I32 (truth (nat_eq n 0)) ∷ below))
  instr_step-kept (Compare ty o) values kept = popped-cases P ty values stuck _ on_stuck (λ j below _.
      popped-cases P ty below stuck _ on_stuck (λ i below _.
      on (Compare ty o) kept (value.I32 (truth (comparison o (width ty) i j)) ∷ below)))
  instr_step-kept (Unary ty o) values kept = popped-cases P ty values stuck _ on_stuck (λ n below _.
      on (Unary ty o) kept (value_of ty (unary o (width ty) n) ∷ below))
  instr_step-kept (Binary ty o) values kept = popped-cases P ty values stuck _ on_stuck (λ j below _.
      popped-cases P ty below stuck _ on_stuck (λ i below _.
      if_some-cases P (binary o (width ty) i j) trap _ (kept.traps tt) (λ n _. on (Binary ty o) kept (value_of ty n ∷ below))))
  instr_step-kept Wrap values kept = popped-cases P I64 values stuck _ on_stuck (λ n below _.
      on Wrap kept (value.I32 (wrapped 32 n) ∷ below))
  instr_step-kept (Extend sign) values kept = popped-cases P I32 values stuck _ on_stuck (λ n below _.
      on (Extend sign) kept (value.I64 (extended sign 32 64 n) ∷ below))
