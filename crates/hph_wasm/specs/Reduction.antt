-- Reduction (Core Specification 1.0, 4.4), one rule a case. How many reductions a rule takes is this project's count: a plain
-- instruction is one, also where it traps; entering a block, a loop or a branch of an `if` is one, and leaving it by its end;
-- `br` and `return` are one, whatever they leave; `br_if` is one where it doesn't branch and two where it does; `br_table` is two;
-- a call is two, of which the second enters the function or is the whole call of an import; leaving a function by its end is one,
-- and its outermost label goes with it.
use Rattle.std.specs.Prelude.{ℕ, zero, suc, ◌+◌, List, [], ◌∷◌, ◌++◌, map, length, reverse, take, Bool, true, false, ◌&&◌, Option, Some, None, if◌then◌else◌, nat_eq, nat_le, nat_lt, slice_get, slice_set, slice_index_or}
use Rattle.hph_wasm.specs.declared.instr.Instr.{Instr, Unreachable, Nop, Block', Loop', If', Br, BrIf, BrTable, Return, Call, CallIndirect, Drop, Select, LocalGet, LocalSet, LocalTee, GlobalGet, GlobalSet, Load, LoadNarrow, StoreNarrow, I32Const, I64Const, Eqz, Compare, Unary, Binary, Wrap, Extend, Held-Instr-If-2, items-the_row-Instr}
use Rattle.hph_wasm.specs.declared.instr.Instr as instr
use Rattle.hph_wasm.specs.declared.value.Value.{Value}
use Rattle.hph_wasm.specs.declared.value.Value.TheVariants as value
use Rattle.hph_wasm.specs.declared.types.ValType.{ValType}
use Rattle.hph_wasm.specs.declared.types.ValType.TheVariants.{I32, I64}
use Rattle.hph_wasm.specs.declared.types.BlockType.{BlockType}
use Rattle.hph_wasm.specs.declared.types.FuncType.{FuncType}
use Rattle.hph_wasm.specs.declared.module.Import.{Import}
use Rattle.hph_wasm.specs.declared.module.Func.{Func}
use Rattle.hph_wasm.specs.declared.module.Module.{Module}
use Rattle.hph_wasm.specs.Choice.{if_some, if_zero, popped, with_top}
use Rattle.hph_wasm.specs.Values.{width, value_of, number_of, i32_bits, i64_bits, zero_values}
use Rattle.hph_wasm.specs.Integers.{truth, unary, binary, comparison, wrapped, extended}
use Rattle.hph_wasm.specs.Memory.{loaded, stored, byte_width, load_bytes, narrow_value, store_type, store_bytes}
use Rattle.hph_wasm.specs.Functions.{Function, Imported, Defined, functions, type_number, func_type}
use Rattle.hph_wasm.specs.Rows.{else_size, else_code}
use Rattle.hph_wasm.specs.Instantiation.{table_of}
use Rattle.hph_wasm.specs.Validity.{results_of}
use Rattle.hph_wasm.specs.Outcome.{Done, Stopped}
use Rattle.hph_wasm.specs.Configuration.{Reply, Goes, Stops, Host, Label, Frame, Store, Setting, Configuration, Running, Calling, Trapped, Stuck, Ended}

-- Two lists of types are the same.
abbrev pub same_types : List ValType → List ValType → Bool
same_types [] [] = true
same_types (I32 ∷ types) (I32 ∷ others) = same_types types others
same_types (I64 ∷ types) (I64 ∷ others) = same_types types others
same_types _ _ = false

-- Two function types are the same.
abbrev pub same_func_type : FuncType → FuncType → Bool
same_func_type ty other = same_types ty.params other.params && same_types ty.results other.results

-- The arguments of a call, the first one first, and the values below them.
pub record Arguments : Type 0 where
  pub passed : List Value
  pub below : List Value

-- Takes a value of each of these types off the stack, onto those taken before.
abbrev pub arguments_onto : List Value → List ValType → List Value → Option Arguments
arguments_onto passed [] values = Some (record { passed = passed; below = values })
arguments_onto passed (ty ∷ types) values = popped ty values None (λ n values. arguments_onto (value_of ty n ∷ passed) types values)

-- The arguments of a call with these parameters, if values of their types are on top, the last parameter's topmost.
abbrev pub arguments : List ValType → List Value → Option Arguments
arguments params values = arguments_onto [] (reverse params) values

-- The result of a host's function as a value of its type, if the function's type has just that result.
abbrev pub results : List ValType → Option ℕ → Option (List Value)
results [] None = Some []
results (ty ∷ []) (Some n) = Some (value_of ty n ∷ [])
results _ _ = None

-- How many values a block gives.
abbrev pub arity_of : BlockType → ℕ
arity_of ty = length (results_of ty)

-- The label of a block: a branch to it goes on behind its `end` (4.4.5.3).
abbrev pub block_label : BlockType → List Value → List Instr → Label
block_label ty values rest = record { arity = arity_of ty; continuation = []; values = values; rest = rest; after = 1 }

-- The label of a first branch: an `else` may stand before its `end` (4.4.5.5).
abbrev pub then_label : BlockType → Held-Instr-If-2 → List Value → List Instr → Label
then_label ty other values rest = record (block_label ty values rest) { after = 1 + else_size other }

-- The label of a loop: a branch to it goes on with the loop (4.4.5.4).
abbrev pub loop_label : Instr → List Value → List Instr → Label
loop_label i values rest = record { arity = 0; continuation = i ∷ []; values = values; rest = rest; after = 1 }

-- The store with another state of the host.
abbrev pub with_host : {H : Type 0} → H → Store H → Store H
with_host h store = record store { host = h }

-- The store with another memory.
abbrev pub with_memory : {H : Type 0} → List ℕ → Store H → Store H
with_memory memory store = record store { memory = memory }

-- The store with other values of its globals.
abbrev pub with_globals : {H : Type 0} → List Value → Store H → Store H
with_globals globals store = record store { globals = globals }

-- The value that `select` leaves: the lower one, unless the condition is 0 (4.4.2.2).
abbrev pub selected : ℕ → (lower upper : Value) → Value
selected n lower upper = if_zero n upper lower

-- What a function of the host replies to these arguments, given as their numbers (4.4.7.3).
abbrev pub reply_of : {H E : Type 0} → Host H E → ℕ → List Value → Store H → Reply H E
reply_of host row passed store = host.effect row store.host (map number_of passed) store.memory

module _ {H E : Type 0} (host : Host H E) (m : Module) where
  -- Instructions behind a call, or at the end of the run.
  abbrev pub after_call : List Frame → List Instr → List Value → Setting H → Configuration H E
  after_call [] rest values at = Ended Done at.store.host
  after_call (frame ∷ frames) rest values at = Running rest values at

  -- Back in the caller of the innermost frame.
  abbrev pub after_return : Frame → List Frame → List Value → Store H → Configuration H E
  after_return frame frames values store = after_call frames frame.rest (values ++ frame.values)
      (record { locals = frame.locals; labels = frame.labels; frames = frames; store = store })

  -- The end of a function (4.4.7.2): its results alone are on the stack.
  abbrev pub end_of_function : List Value → List Frame → Store H → Configuration H E → Configuration H E
  end_of_function values [] store stuck = stuck
  end_of_function values (frame ∷ frames) store stuck =
      if nat_eq frame.arity (length values) then after_return frame frames values store else stuck

  -- The end of a block (4.4.6.2), or of a function.
  abbrev pub end_of_code : List Value → List Label → Setting H → Configuration H E
  end_of_code values [] at = end_of_function values at.frames at.store (Stuck [] at)
  end_of_code values (label ∷ labels) at = Running label.rest (values ++ label.values) (record at { labels = labels })

  -- Instructions are entered with a label (4.4.6.1).
  abbrev pub block_entry : Label → List Instr → Setting H → Configuration H E
  block_entry label body at = Running body [] (record at { labels = label ∷ at.labels })

  -- A return (4.4.5.9): a function's results are on top.
  abbrev pub return_step : List Value → List Frame → Store H → Configuration H E → Configuration H E
  return_step values [] store stuck = stuck
  return_step values (frame ∷ frames) store stuck =
      if nat_le frame.arity (length values) then after_return frame frames (take frame.arity values) store else stuck

  -- A branch to the label with a number, from the innermost outwards; a function's outermost one is that of its frame (4.4.5.6).
  abbrev pub branch_step : ℕ → List Value → List Label → Setting H → Configuration H E → Configuration H E
  branch_step zero values [] at stuck = return_step values at.frames at.store stuck
  branch_step (suc k) values [] at stuck = stuck
  branch_step zero values (label ∷ labels) at stuck =
      if nat_le label.arity (length values)
      then Running (label.continuation ++ label.rest) (take label.arity values ++ label.values) (record at { labels = labels }) else stuck
  branch_step (suc k) values (label ∷ labels) at stuck = branch_step k values labels at stuck

  -- An entry of the table is called if it is a function of the type with a number (4.4.5.11).
  abbrev pub entry_call : Option (Option ℕ) → ℕ → List Instr → List Value → Setting H → (trap stuck : Configuration H E) →
      Configuration H E
  entry_call entry number rest values at trap stuck = if_some entry trap (λ function. if_some function trap (λ f.
      if_some (func_type m f) stuck (λ ty. if_some (slice_get m.types number) stuck (λ wanted.
      if same_func_type ty wanted then Calling f rest values at else trap))))

  -- The locals with another value, if there is such a local (4.4.3.2).
  abbrev pub local_write : ℕ → Value → List Instr → List Value → Setting H → Configuration H E → Configuration H E
  local_write x v rest values at stuck =
      if nat_lt x (length at.locals) then Running rest values (record at { locals = slice_set at.locals x v }) else stuck

  -- The globals with another value, if there is such a global (4.4.3.5).
  abbrev pub global_write : ℕ → Value → List Instr → List Value → Setting H → Configuration H E → Configuration H E
  global_write x v rest values at stuck =
      if nat_lt x (length at.store.globals)
      then Running rest values (record at { store = with_globals (slice_set at.store.globals x v) at.store }) else stuck

  -- The memory after a store, which traps where there is no room (4.4.4.2).
  abbrev pub memory_write : Option (List ℕ) → List Instr → List Value → Setting H → Configuration H E → Configuration H E
  memory_write written rest values at trap = if_some written trap (λ memory.
      Running rest values (record at { store = with_memory memory at.store }))

  -- An instruction, with what is left where it traps and where no rule applies (4.4.1 to 4.4.5).
  abbrev pub instr_step : Instr → List Instr → List Value → Setting H → Configuration H E → Configuration H E → Configuration H E
  instr_step Unreachable rest values at trap stuck = trap
  instr_step Nop rest values at trap stuck = Running rest values at
  instr_step (Block' ty shape body) rest values at trap stuck =
      block_entry (block_label ty values rest) (items-the_row-Instr _ body) at
  instr_step (Loop' ty shape body) rest values at trap stuck =
      block_entry (loop_label (Loop' ty shape body) values rest) (items-the_row-Instr _ body) at
  instr_step (If' ty shape body other) rest values at trap stuck = popped I32 values stuck (λ n values. if_zero n
      (block_entry (block_label ty values rest) (else_code other) at)
      (block_entry (then_label ty other values rest) (items-the_row-Instr _ body) at))
  instr_step (Br k) rest values at trap stuck = branch_step k values at.labels at stuck
  instr_step (BrIf k) rest values at trap stuck =
      popped I32 values stuck (λ n values. if_zero n (Running rest values at) (Running (Br k ∷ rest) values at))
  instr_step (BrTable ks k) rest values at trap stuck =
      popped I32 values stuck (λ n values. Running (Br (slice_index_or ks n k) ∷ rest) values at)
  instr_step Return rest values at trap stuck = return_step values at.frames at.store stuck
  instr_step (Call f) rest values at trap stuck = Calling f rest values at
  instr_step (CallIndirect number) rest values at trap stuck =
      popped I32 values stuck (λ n values. entry_call (slice_get (table_of m) n) number rest values at trap stuck)
  instr_step Drop rest values at trap stuck = with_top values stuck (λ v values. Running rest values at)
  instr_step Select rest values at trap stuck = popped I32 values stuck (λ n values.
      with_top values stuck (λ upper values. with_top values stuck (λ lower values. Running rest (selected n lower upper ∷ values) at)))
  instr_step (LocalGet x) rest values at trap stuck = if_some (slice_get at.locals x) stuck (λ v. Running rest (v ∷ values) at)
  instr_step (LocalSet x) rest values at trap stuck = with_top values stuck (λ v values. local_write x v rest values at stuck)
  instr_step (LocalTee x) rest values at trap stuck = with_top values stuck (λ v values. local_write x v rest (v ∷ values) at stuck)
  instr_step (GlobalGet x) rest values at trap stuck = if_some (slice_get at.store.globals x) stuck (λ v. Running rest (v ∷ values) at)
  instr_step (GlobalSet x) rest values at trap stuck = with_top values stuck (λ v values. global_write x v rest values at stuck)
  instr_step (Load ty arg) rest values at trap stuck = popped I32 values stuck (λ address values.
      if_some (loaded (address + arg.offset) (byte_width ty) at.store.memory) trap (λ n. Running rest (value_of ty n ∷ values) at))
  instr_step (LoadNarrow load arg) rest values at trap stuck = popped I32 values stuck (λ address values.
      if_some (loaded (address + arg.offset) (load_bytes load) at.store.memory) trap (λ n. Running rest (narrow_value load n ∷ values) at))
  instr_step (instr.Store ty arg) rest values at trap stuck = popped ty values stuck (λ n values. popped I32 values stuck (λ address values.
      memory_write (stored (address + arg.offset) (byte_width ty) n at.store.memory) rest values at trap))
  instr_step (StoreNarrow store arg) rest values at trap stuck = popped (store_type store) values stuck (λ n values.
      popped I32 values stuck (λ address values.
      memory_write (stored (address + arg.offset) (store_bytes store) n at.store.memory) rest values at trap))
  instr_step (I32Const z) rest values at trap stuck = Running rest (value.I32 (i32_bits z) ∷ values) at
  instr_step (I64Const z) rest values at trap stuck = Running rest (value.I64 (i64_bits z) ∷ values) at
  instr_step (Eqz ty) rest values at trap stuck =
      popped ty values stuck (λ n values. Running rest (value.I32 (truth (nat_eq n 0)) ∷ values) at)
  instr_step (Compare ty o) rest values at trap stuck = popped ty values stuck (λ j values. popped ty values stuck (λ i values.
      Running rest (value.I32 (truth (comparison o (width ty) i j)) ∷ values) at))
  instr_step (Unary ty o) rest values at trap stuck =
      popped ty values stuck (λ n values. Running rest (value_of ty (unary o (width ty) n) ∷ values) at)
  instr_step (Binary ty o) rest values at trap stuck = popped ty values stuck (λ j values. popped ty values stuck (λ i values.
      if_some (binary o (width ty) i j) trap (λ n. Running rest (value_of ty n ∷ values) at)))
  instr_step Wrap rest values at trap stuck =
      popped I64 values stuck (λ n values. Running rest (value.I32 (wrapped 32 n) ∷ values) at)
  instr_step (Extend sign) rest values at trap stuck =
      popped I32 values stuck (λ n values. Running rest (value.I64 (extended sign 32 64 n) ∷ values) at)

  -- The frame of a function (4.2.12.3), with what its caller goes on with.
  abbrev pub function_frame : ℕ → FuncType → List Value → List Instr → Setting H → Frame
  function_frame f ty below rest at =
      record { function = f; arity = length ty.results; values = below; rest = rest; locals = at.locals; labels = at.labels }

  -- A function is entered (4.4.7.1): its locals are the arguments, and zeros behind them.
  abbrev pub function_entry : ℕ → FuncType → Func → Arguments → List Instr → Setting H → Configuration H E
  function_entry f ty func call rest at = Running func.body [] (record {
    locals = call.passed ++ zero_values func.locals;
    labels = [];
    frames = function_frame f ty call.below rest at ∷ at.frames;
    store = at.store;
  })

  -- What a host has replied (4.4.7.3).
  abbrev pub after_reply : Reply H E → FuncType → List Value → List Instr → Setting H → Configuration H E → Configuration H E
  after_reply (Goes h result) ty below rest at stuck = if_some (results ty.results result) stuck (λ values.
      after_call at.frames rest (values ++ below) (record at { store = with_host h at.store }))
  after_reply (Stops h reason) ty below rest at stuck = Ended (Stopped reason) h

  -- A function of the host is called.
  abbrev pub host_call : Import → FuncType → Arguments → List Instr → Setting H → Configuration H E → Configuration H E
  host_call import ty call rest at stuck = if_some (host.row import.«module» import.name ty) stuck (λ row.
      after_reply (reply_of host row call.passed at.store) ty call.below rest at stuck)

  -- The function with a number, which is this, is invoked with arguments (4.4.7).
  abbrev pub invocation_of : ℕ → Function → FuncType → Arguments → List Instr → Setting H → Configuration H E → Configuration H E
  invocation_of f (Imported import number) ty call rest at stuck = host_call import ty call rest at stuck
  invocation_of f (Defined func) ty call rest at stuck = function_entry f ty func call rest at

  -- The function with a number is invoked on the values of the stack (4.4.7).
  abbrev pub invocation : ℕ → List Instr → List Value → Setting H → Configuration H E → Configuration H E
  invocation f rest values at stuck = if_some (slice_get (functions m) f) stuck (λ function.
      if_some (slice_get m.types (type_number function)) stuck (λ ty.
      if_some (arguments ty.params values) stuck (λ call.
      invocation_of f function ty call rest at stuck)))

  -- One reduction. Where a run has ended, trapped or got stuck there is none.
  abbrev pub step : Configuration H E → Configuration H E
  step (Running [] values at) = end_of_code values at.labels at
  step (Running (i ∷ rest) values at) = instr_step i rest values at (Trapped (i ∷ rest) at) (Stuck (i ∷ rest) at)
  step (Calling f rest values at) = invocation f rest values at (Stuck (Call f ∷ rest) at)
  step (Trapped code at) = Trapped code at
  step (Stuck code at) = Stuck code at
  step (Ended end h) = Ended end h

  -- At most so many reductions.
  abbrev pub reduce : ℕ → Configuration H E → Configuration H E
  reduce zero c = c
  reduce (suc n) c = reduce n (step c)
