-- The bytes of code and data spell them.
use Rattle.std.proofs.Common.{◌≡◌, ◌<◌, ◌≤◌, ℕ, ◌+◌, ◌^◌, List, [], ◌∷◌, ◌++◌, length, flat_map, true, false, if◌then◌else◌, refl, ap, arith, add-one, ◌∙◌}
use Rattle.std.specs.Prelude.{replicate}
use Rattle.hph_wasm.specs.Leb128.{u32_bytes}
use Rattle.hph_wasm.specs.Codes.{load_code, narrow_load_code, store_code, narrow_store_code, else_code, end_code}
use Rattle.hph_wasm.specs.Grammar.{result_byte}
use Rattle.hph_wasm.specs.InstructionGrammar.{MemoryArgument, Instruction, Instructions, Otherwise, Expression}
use Rattle.hph_wasm.specs.ModuleGrammar.{LocalRun, Locals, Code, Data, GlobalWithValue, Elements}
use Rattle.hph_wasm.specs.Spelling.{counted_bytes, vector_bytes, memory_argument_bytes, instr_bytes, row_bytes, otherwise_bytes, expression_bytes, global_type_bytes, global_bytes, element_bytes, same_type, with_local, runs_of, run_bytes, value_type_bytes, locals_bytes, segment_bytes}
use Rattle.hph_wasm.specs.declared.types.ValType.{ValType}
use Rattle.hph_wasm.specs.declared.types.ValType.TheVariants.{I32, I64}
use Rattle.hph_wasm.specs.declared.instr.MemArg.{MemArg}
use Rattle.hph_wasm.specs.declared.instr.Instr.{Instr, Unreachable, Nop, Block', Loop', If', Br, BrIf, BrTable, Return, Call, CallIndirect, Drop, Select, LocalGet, LocalSet, LocalTee, GlobalGet, GlobalSet, Load, LoadNarrow, Store, StoreNarrow, I32Const, I64Const, Eqz, Compare, Unary, Binary, Wrap, Extend, Row_of-Instr, end_of-Instr, more_of-Instr, Held-Instr-If-2, None', Some'}
use Rattle.hph_wenc.specs.Fits.{MemArgFits, InstrFits, RowFits, OtherwiseFits, ExpressionFits, GlobalFits, ElementFits, SegmentFits}
use Rattle.hph_wenc.proofs.NumberLaws.{NumbersAreSpelled}
use Rattle.hph_wenc.proofs.SpelledParts.{both, Spelled, bytes_spelled, each_spelled, vector_spelled, indices_spelled, global_type_spelled}
use Rattle.hph_wenc.proofs.Vectors.{front_short, rest_short}
use Rattle.hph_wenc.proofs.Runs.{CountAtMost-runs_of, length-runs_of}

-- the bytes of a memory argument spell it
memory_argument_spelled : NumbersAreSpelled → (at : MemArg) → MemArgFits at → MemoryArgument at (memory_argument_bytes at)
memory_argument_spelled numbers at fits = both _ _ (numbers.u32 at.align fits.0) (numbers.u32 at.offset fits.1)

mutual
  pub instruction_spelled : NumbersAreSpelled → (i : Instr) → InstrFits i → Instruction i (instr_bytes i)
  instruction_spelled numbers Unreachable fits = refl
  instruction_spelled numbers Nop fits = refl
  instruction_spelled numbers (Block' ty shape body) fits = both (0x02 ∷ []) _ refl (both (result_byte ty.result ∷ []) _ refl (both (row_bytes body) (end_code ∷ []) (instructions_spelled numbers body fits) refl))
  instruction_spelled numbers (Loop' ty shape body) fits = both (0x03 ∷ []) _ refl (both (result_byte ty.result ∷ []) _ refl (both (row_bytes body) (end_code ∷ []) (instructions_spelled numbers body fits) refl))
  instruction_spelled numbers (If' ty shape body other) fits = both (0x04 ∷ []) _ refl (both (result_byte ty.result ∷ []) _ refl (both (row_bytes body) (otherwise_bytes other) (instructions_spelled numbers body fits.0) (otherwise_spelled numbers other fits.1)))
  instruction_spelled numbers (Br label) fits = both (0x0C ∷ []) _ refl (numbers.u32 label fits)
  instruction_spelled numbers (BrIf label) fits = both (0x0D ∷ []) _ refl (numbers.u32 label fits)
  instruction_spelled numbers (BrTable labels label) fits = both (0x0E ∷ []) _ refl (both _ _ (indices_spelled numbers labels fits.0) (numbers.u32 label fits.1))
  instruction_spelled numbers Return fits = refl
  instruction_spelled numbers (Call func) fits = both (0x10 ∷ []) _ refl (numbers.u32 func fits)
  instruction_spelled numbers (CallIndirect ty) fits = both (0x11 ∷ []) _ refl (both (u32_bytes ty) (0x00 ∷ []) (numbers.u32 ty fits) refl)
  instruction_spelled numbers Drop fits = refl
  instruction_spelled numbers Select fits = refl
  instruction_spelled numbers (LocalGet local) fits = both (0x20 ∷ []) _ refl (numbers.u32 local fits)
  instruction_spelled numbers (LocalSet local) fits = both (0x21 ∷ []) _ refl (numbers.u32 local fits)
  instruction_spelled numbers (LocalTee local) fits = both (0x22 ∷ []) _ refl (numbers.u32 local fits)
  instruction_spelled numbers (GlobalGet global) fits = both (0x23 ∷ []) _ refl (numbers.u32 global fits)
  instruction_spelled numbers (GlobalSet global) fits = both (0x24 ∷ []) _ refl (numbers.u32 global fits)
  instruction_spelled numbers (Load t at) fits = both (load_code t ∷ []) _ refl (memory_argument_spelled numbers at fits)
  instruction_spelled numbers (LoadNarrow part at) fits = both (narrow_load_code part ∷ []) _ refl (memory_argument_spelled numbers at fits)
  instruction_spelled numbers (Store t at) fits = both (store_code t ∷ []) _ refl (memory_argument_spelled numbers at fits)
  instruction_spelled numbers (StoreNarrow part at) fits = both (narrow_store_code part ∷ []) _ refl (memory_argument_spelled numbers at fits)
  instruction_spelled numbers (I32Const value) fits = both (0x41 ∷ []) _ refl (numbers.i32 value fits)
  instruction_spelled numbers (I64Const value) fits = both (0x42 ∷ []) _ refl (numbers.i64 value fits)
  instruction_spelled numbers (Eqz t) fits = refl
  instruction_spelled numbers (Compare t o) fits = refl
  instruction_spelled numbers (Unary t o) fits = refl
  instruction_spelled numbers (Binary t o) fits = refl
  instruction_spelled numbers Wrap fits = refl
  instruction_spelled numbers (Extend s) fits = refl

  pub instructions_spelled : NumbersAreSpelled → {n : _} (row : Row_of-Instr n) → RowFits row → Instructions row (row_bytes row)
  instructions_spelled numbers end_of-Instr fits = refl
  instructions_spelled numbers (more_of-Instr i rest) fits = both (instr_bytes i) (row_bytes rest) (instruction_spelled numbers i fits.0) (instructions_spelled numbers rest fits.1)

  otherwise_spelled : NumbersAreSpelled → (other : Held-Instr-If-2) → OtherwiseFits other → Otherwise other (otherwise_bytes other)
  otherwise_spelled numbers None' fits = refl
  otherwise_spelled numbers (Some' shape body) fits = both (else_code ∷ []) _ refl (both (row_bytes body) (end_code ∷ []) (instructions_spelled numbers body fits) refl)

-- the bytes of an expression spell it
pub expression_spelled : NumbersAreSpelled → (body : List Instr) → ExpressionFits body → length (expression_bytes body) < 2 ^ 32 → Expression body (expression_bytes body)
expression_spelled numbers body fits short = both _ _ (each_spelled Instruction instr_bytes InstrFits (λ i fit _. instruction_spelled numbers i fit) body fits (front_short (flat_map instr_bytes body) _ short)) refl

-- equal by the test, equal
same_type-equal : (t s : ValType) → same_type t s ≡ true → t ≡ s
same_type-equal I32 I32 same = refl
same_type-equal I32 I64 same = cc
same_type-equal I64 I32 same = cc
same_type-equal I64 I64 same = refl

-- the locals that runs make
made_of : List (ℕ × ValType) → List ValType
made_of runs = flat_map (λ run. replicate run.0 run.1) runs

-- one more local in the runs is one more that they make
made_of-with_local : (t : ValType) (runs : List (ℕ × ValType)) → made_of (with_local t runs) ≡ t ∷ made_of runs
unfolding made_of
made_of-with_local t [] = refl
made_of-with_local t (run ∷ runs) =
    elim (same_type t run.1) as (λ same. same_type t run.1 ≡ same → made_of (if same then (run.0 + 1, t) ∷ runs else (1, t) ∷ run ∷ runs) ≡ t ∷ made_of (run ∷ runs)) [
      | true ↦ λ same. ap (λ count. replicate count t ++ made_of runs) (add-one run.0) ∙ ap (λ s. t ∷ (replicate run.0 s ++ made_of runs)) (same_type-equal t run.1 same)
      | false ↦ λ other. refl
    ] refl

-- the longest runs make the locals that they are of
made_of-runs_of : (locals : List ValType) → made_of (runs_of locals) ≡ locals
unfolding made_of
made_of-runs_of [] = refl
made_of-runs_of (t ∷ locals) = made_of-with_local t (runs_of locals) ∙ ap (λ made. t ∷ made) (made_of-runs_of locals)

-- the longest runs spell the locals
pub locals_spelled : NumbersAreSpelled → (locals : List ValType) → length locals < 2 ^ 32 → length (locals_bytes locals) < 2 ^ 32 → Locals locals (locals_bytes locals)
unfolding made_of
locals_spelled numbers locals few short =
    let runs = runs_of locals in
    let few_runs : length runs < 2 ^ 32 = omega (arith, length-runs_of locals) in
    record {
      runs = runs;
      made = made_of-runs_of locals;
      few = few;
      spelled = vector_spelled numbers LocalRun run_bytes (λ run. run.0 ≤ length locals) (λ run least _. both (u32_bytes run.0) (value_type_bytes run.1) (numbers.u32 run.0 (omega arith)) refl) runs (CountAtMost-runs_of locals) few_runs short;
    }

-- a function's code, by its locals and body
abbrev pub pair_bytes : List ValType × List Instr → List ℕ
pair_bytes code = counted_bytes (locals_bytes code.0 ++ expression_bytes code.1)

-- what is asked of a function's code
abbrev pub PairFits : List ValType × List Instr → Type 0
PairFits code = (length code.0 < 2 ^ 32) × ExpressionFits code.1

-- the bytes of a function's code spell it
pub code_spelled : NumbersAreSpelled → Spelled Code pair_bytes PairFits
code_spelled numbers code fits short =
    let content = locals_bytes code.0 ++ expression_bytes code.1 in
    let all : length content < 2 ^ 32 = rest_short (u32_bytes (length content)) content short in
    record {
      size = u32_bytes (length content);
      body = content;
      split = refl;
      counted = numbers.u32 (length content) all;
      inside = both _ _ (locals_spelled numbers code.0 fits.0 (front_short _ (expression_bytes code.1) all)) (expression_spelled numbers code.1 fits.1 (rest_short (locals_bytes code.0) _ all));
    }

-- the bytes of a data segment spell it
pub segment_spelled : NumbersAreSpelled → Spelled Data segment_bytes SegmentFits
segment_spelled numbers s fits short =
    let behind : length (expression_bytes s.offset ++ counted_bytes s.bytes) < 2 ^ 32 = rest_short (u32_bytes s.memory) _ short in
    let bytes : length s.bytes < 2 ^ 32 = rest_short (u32_bytes (length s.bytes)) _ (rest_short (expression_bytes s.offset) _ behind) in
    both _ _ (numbers.u32 s.memory fits.0) (both _ _ (expression_spelled numbers s.offset fits.1 (front_short (expression_bytes s.offset) _ behind)) (bytes_spelled numbers s.bytes bytes))

-- the bytes of a global spell it
pub global_spelled : NumbersAreSpelled → Spelled GlobalWithValue global_bytes GlobalFits
global_spelled numbers g fits short = both (global_type_bytes g.ty) (expression_bytes g.init) (global_type_spelled g.ty) (expression_spelled numbers g.init fits (rest_short (global_type_bytes g.ty) (expression_bytes g.init) short))

-- the bytes of an element segment spell it
pub element_spelled : NumbersAreSpelled → Spelled Elements element_bytes ElementFits
element_spelled numbers e fits short =
    let behind : length (expression_bytes e.offset ++ vector_bytes u32_bytes e.funcs) < 2 ^ 32 = rest_short (u32_bytes e.table) _ short in
    both _ _ (numbers.u32 e.table fits.0) (both _ _ (expression_spelled numbers e.offset fits.1 (front_short (expression_bytes e.offset) _ behind)) (indices_spelled numbers e.funcs fits.2))
