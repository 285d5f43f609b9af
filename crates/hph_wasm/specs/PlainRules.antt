-- The rules of plain instructions (Core Specification 1.0, 4.4.1 to 4.4.5): in a store and the locals of a frame, an instruction takes
-- values off the stack, of which the lists have the last one first, and gives others.
use Rattle.std.specs.Prelude.{◌≡◌, ◌≢◌, ◌<◌, ℕ, suc, ◌+◌, ℤ, List, [], ◌∷◌, length, Some, None, slice_get, slice_set, nat_eq}
use Rattle.hph_wasm.specs.declared.instr.Instr.{Instr, Unreachable, Nop, Br, BrIf, BrTable, CallIndirect, Drop, Select, LocalGet, LocalSet, LocalTee, GlobalGet, GlobalSet, Load, LoadNarrow, StoreNarrow, I32Const, I64Const, Eqz, Compare, Unary, Binary, Wrap, Extend}
use Rattle.hph_wasm.specs.declared.instr.Instr as instr
use Rattle.hph_wasm.specs.declared.instr.MemArg.{MemArg}
use Rattle.hph_wasm.specs.declared.instr.Sign.{Sign}
use Rattle.hph_wasm.specs.declared.instr.NarrowLoad.{NarrowLoad}
use Rattle.hph_wasm.specs.declared.instr.NarrowStore.{NarrowStore}
use Rattle.hph_wasm.specs.declared.instr.Unary as unary_of
use Rattle.hph_wasm.specs.declared.instr.Binary as binary_of
use Rattle.hph_wasm.specs.declared.instr.Comparison.{Comparison}
use Rattle.hph_wasm.specs.declared.types.ValType.{ValType}
use Rattle.hph_wasm.specs.declared.types.FuncType.{FuncType}
use Rattle.hph_wasm.specs.declared.value.Value.{Value}
use Rattle.hph_wasm.specs.declared.value.Value.TheVariants as value
use Rattle.hph_wasm.specs.declared.module.Module.{Module}
use Rattle.hph_wasm.specs.Values.{width, value_of, i32_bits, i64_bits}
use Rattle.hph_wasm.specs.Integers.{truth, unary, binary, comparison, wrapped, extended}
use Rattle.hph_wasm.specs.Memory.{loaded, stored, byte_width, load_bytes, narrow_value, store_type, store_bytes}
use Rattle.hph_wasm.specs.Functions.{func_type}
use Rattle.hph_wasm.specs.Instantiation.{table_of}
use Rattle.hph_wasm.specs.Configuration.{Store}
use Rattle.hph_wasm.specs.Reduction.{with_memory, with_globals}

module _ {H : Type 0} where
  -- An instruction, in a store and locals, takes values; it leaves a store and locals, and gives values.
  pub data PlainRule : Instr → Store H → List Value → List Value → Store H → List Value → List Value → Type 0 where
    -- 4.4.1
    i32_const : (s : Store H) (locals : List Value) (z : ℤ) → PlainRule (I32Const z) s locals [] s locals (value.I32 (i32_bits z) ∷ [])
    i64_const : (s : Store H) (locals : List Value) (z : ℤ) → PlainRule (I64Const z) s locals [] s locals (value.I64 (i64_bits z) ∷ [])
    unop : (s : Store H) (locals : List Value) (ty : ValType) (o : unary_of.Unary) (n : ℕ) →
        PlainRule (Unary ty o) s locals (value_of ty n ∷ []) s locals (value_of ty (unary o (width ty) n) ∷ [])
    binop : (s : Store H) (locals : List Value) (ty : ValType) (o : binary_of.Binary) (i j n : ℕ) → binary o (width ty) i j ≡ Some n →
        PlainRule (Binary ty o) s locals (value_of ty j ∷ value_of ty i ∷ []) s locals (value_of ty n ∷ [])
    testop : (s : Store H) (locals : List Value) (ty : ValType) (n : ℕ) →
        PlainRule (Eqz ty) s locals (value_of ty n ∷ []) s locals (value.I32 (truth (nat_eq n 0)) ∷ [])
    relop : (s : Store H) (locals : List Value) (ty : ValType) (o : Comparison) (i j : ℕ) →
        PlainRule (Compare ty o) s locals (value_of ty j ∷ value_of ty i ∷ []) s locals
        (value.I32 (truth (comparison o (width ty) i j)) ∷ [])
    wrap : (s : Store H) (locals : List Value) (n : ℕ) →
        PlainRule Wrap s locals (value.I64 n ∷ []) s locals (value.I32 (wrapped 32 n) ∷ [])
    extend : (s : Store H) (locals : List Value) (sign : Sign) (n : ℕ) →
        PlainRule (Extend sign) s locals (value.I32 n ∷ []) s locals (value.I64 (extended sign 32 64 n) ∷ [])
    -- 4.4.2
    drop : (s : Store H) (locals : List Value) (v : Value) → PlainRule Drop s locals (v ∷ []) s locals []
    select_lower : (s : Store H) (locals : List Value) (n : ℕ) (lower upper : Value) →
        PlainRule Select s locals (value.I32 (suc n) ∷ upper ∷ lower ∷ []) s locals (lower ∷ [])
    select_upper : (s : Store H) (locals : List Value) (lower upper : Value) →
        PlainRule Select s locals (value.I32 0 ∷ upper ∷ lower ∷ []) s locals (upper ∷ [])
    -- 4.4.3, with `local.tee` one reduction
    local_get : (s : Store H) (locals : List Value) (x : ℕ) (v : Value) → slice_get locals x ≡ Some v →
        PlainRule (LocalGet x) s locals [] s locals (v ∷ [])
    local_set : (s : Store H) (locals : List Value) (x : ℕ) (v : Value) → x < length locals →
        PlainRule (LocalSet x) s locals (v ∷ []) s (slice_set locals x v) []
    local_tee : (s : Store H) (locals : List Value) (x : ℕ) (v : Value) → x < length locals →
        PlainRule (LocalTee x) s locals (v ∷ []) s (slice_set locals x v) (v ∷ [])
    global_get : (s : Store H) (locals : List Value) (x : ℕ) (v : Value) → slice_get s.globals x ≡ Some v →
        PlainRule (GlobalGet x) s locals [] s locals (v ∷ [])
    global_set : (s : Store H) (locals : List Value) (x : ℕ) (v : Value) → x < length s.globals →
        PlainRule (GlobalSet x) s locals (v ∷ []) (with_globals (slice_set s.globals x v) s) locals []
    -- 4.4.4
    load : (s : Store H) (locals : List Value) (ty : ValType) (arg : MemArg) (address n : ℕ) →
        loaded (address + arg.offset) (byte_width ty) s.memory ≡ Some n →
        PlainRule (Load ty arg) s locals (value.I32 address ∷ []) s locals (value_of ty n ∷ [])
    load_narrow : (s : Store H) (locals : List Value) (o : NarrowLoad) (arg : MemArg) (address n : ℕ) →
        loaded (address + arg.offset) (load_bytes o) s.memory ≡ Some n →
        PlainRule (LoadNarrow o arg) s locals (value.I32 address ∷ []) s locals (narrow_value o n ∷ [])
    store : (s : Store H) (locals : List Value) (ty : ValType) (arg : MemArg) (address n : ℕ) (memory : List ℕ) →
        stored (address + arg.offset) (byte_width ty) n s.memory ≡ Some memory →
        PlainRule (instr.Store ty arg) s locals (value_of ty n ∷ value.I32 address ∷ []) (with_memory memory s) locals []
    store_narrow : (s : Store H) (locals : List Value) (o : NarrowStore) (arg : MemArg) (address n : ℕ) (memory : List ℕ) →
        stored (address + arg.offset) (store_bytes o) n s.memory ≡ Some memory →
        PlainRule (StoreNarrow o arg) s locals (value_of (store_type o) n ∷ value.I32 address ∷ []) (with_memory memory s) locals []
    -- 4.4.5
    nop : (s : Store H) (locals : List Value) → PlainRule Nop s locals [] s locals []
    no_branch : (s : Store H) (locals : List Value) (k : ℕ) → PlainRule (BrIf k) s locals (value.I32 0 ∷ []) s locals []

  -- An instruction, in a store, traps at values on the stack.
  pub data TrapRule (m : Module) : Instr → Store H → List Value → Type 0 where
    unreachable : (s : Store H) → TrapRule m Unreachable s []
    undefined : (s : Store H) (ty : ValType) (o : binary_of.Binary) (i j : ℕ) → binary o (width ty) i j ≡ None →
        TrapRule m (Binary ty o) s (value_of ty j ∷ value_of ty i ∷ [])
    load_outside : (s : Store H) (ty : ValType) (arg : MemArg) (address : ℕ) →
        loaded (address + arg.offset) (byte_width ty) s.memory ≡ None → TrapRule m (Load ty arg) s (value.I32 address ∷ [])
    load_narrow_outside : (s : Store H) (o : NarrowLoad) (arg : MemArg) (address : ℕ) →
        loaded (address + arg.offset) (load_bytes o) s.memory ≡ None → TrapRule m (LoadNarrow o arg) s (value.I32 address ∷ [])
    store_outside : (s : Store H) (ty : ValType) (arg : MemArg) (address n : ℕ) →
        stored (address + arg.offset) (byte_width ty) n s.memory ≡ None →
        TrapRule m (instr.Store ty arg) s (value_of ty n ∷ value.I32 address ∷ [])
    store_narrow_outside : (s : Store H) (o : NarrowStore) (arg : MemArg) (address n : ℕ) →
        stored (address + arg.offset) (store_bytes o) n s.memory ≡ None →
        TrapRule m (StoreNarrow o arg) s (value_of (store_type o) n ∷ value.I32 address ∷ [])
    no_entry : (s : Store H) (number n : ℕ) → slice_get (table_of m) n ≡ None → TrapRule m (CallIndirect number) s (value.I32 n ∷ [])
    empty_entry : (s : Store H) (number n : ℕ) → slice_get (table_of m) n ≡ Some None →
        TrapRule m (CallIndirect number) s (value.I32 n ∷ [])
    other_type : (s : Store H) (number n f : ℕ) (ty wanted : FuncType) → slice_get (table_of m) n ≡ Some (Some f) →
        func_type m f ≡ Some ty → slice_get m.types number ≡ Some wanted → ty ≢ wanted →
        TrapRule m (CallIndirect number) s (value.I32 n ∷ [])
