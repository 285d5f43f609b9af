-- Reading globals and segments, part by part (Core Specification 1.0, 5.5.9, 5.5.12 and 5.5.14).
use Rattle.std.proofs.Common.{ℕ, List}
use Rattle.hph_wasm.specs.Leb128.{Unsigned}
use Rattle.hph_wasm.specs.Grammar.{Grammar, ◌⊳◌, Vector, Bytes, GlobalOf}
use Rattle.hph_wasm.specs.InstructionGrammar.{Expression}
use Rattle.hph_wasm.specs.ModuleGrammar.{GlobalWithValue, Elements, Data}
use Rattle.hph_wasm.specs.OneWay.{OneForm, OneStop}
use Rattle.hph_wasm.specs.Unsupported.{Any, Nowhere, IsAnything, IsShallowExpression, InVector, StopsValueType, StopsExpression, StopsGlobal, StopsOffset}
use Rattle.hph_wasm.specs.declared.types.GlobalType.{GlobalType}
use Rattle.hph_wasm.specs.declared.instr.Instr.{Instr}
use Rattle.hph_wread.specs.declared.fault.Fault.{Fault}
use Rattle.hph_wread.specs.Reading.{Took, Fails}
use Rattle.hph_wread.proofs.Combinators.{fails_map, fails_first, fails_second, behind_first, behind_second, stops_first, stops_before, took_any, one_end}
use Rattle.hph_wread.proofs.Vectors.{took_apart}

-- a global is its type and an expression
global_parts : (front : List ℕ) → Any GlobalWithValue front → (Any GlobalOf ⊳ Any Expression) front
global_parts front p =
    let g = p.1 in record { front = g.front; rest = g.rest; split = g.split; first = (p.0.ty, g.first, tt); second = (p.0.init, g.second, tt) }

pub global_type_fails : {bytes : List ℕ} (e : Fault) → Fails (Any GlobalOf) StopsValueType bytes e → Fails (Any GlobalWithValue) StopsGlobal bytes e
global_type_fails e f = fails_map global_parts (λ place feature t. t) (λ place feature t. t) e
    (fails_first (Any GlobalOf) (Any Expression) StopsExpression (λ front q. q) e f)

pub global_init_fails : {bytes mid : List ℕ} → OneForm GlobalOf → OneStop GlobalOf IsAnything StopsValueType → (ty : GlobalType) →
    Took (GlobalOf ty) bytes mid → (e : Fault) → Fails (Any Expression) StopsExpression mid e → Fails (Any GlobalWithValue) StopsGlobal bytes e
global_init_fails o stops ty p e f = fails_map global_parts (λ place feature t. t) (λ place feature t. t) e
    (fails_second StopsValueType (one_end o) (λ front q. q) (took_apart stops ty p tt) (took_any GlobalOf ty p) e f)

-- a number, an expression, and something in which nothing stops
abbrev Offset : Grammar → Grammar
Offset Q = Any (Unsigned 32) ⊳ Any Expression ⊳ Q

offset_number : (Q : Grammar) {bytes : List ℕ} (e : Fault) → Fails (Any (Unsigned 32)) Nowhere bytes e → Fails (Offset Q) StopsOffset bytes e
offset_number Q e f = behind_first (Any Expression ⊳ Q) StopsExpression e f

offset_place : (Q : Grammar) {bytes mid : List ℕ} → OneForm (Unsigned 32) → (n : ℕ) → Took (Unsigned 32 n) bytes mid → (e : Fault) →
    Fails (Any Expression) StopsExpression mid e → Fails (Offset Q) StopsOffset bytes e
offset_place Q o n p e f = behind_second (one_end o) (took_any (Unsigned 32) n p) e (stops_first Q e f)

offset_rest : {Q : Grammar} {bytes mid next : List ℕ} → OneForm (Unsigned 32) → OneForm Expression → OneStop Expression IsShallowExpression StopsExpression →
    (n : ℕ) → Took (Unsigned 32 n) bytes mid → (offset : List Instr) → IsShallowExpression offset → Took (Expression offset) mid next → (e : Fault) →
    Fails Q Nowhere next e → Fails (Offset Q) StopsOffset bytes e
offset_rest o expression stops n p offset shallow q e f = behind_second (one_end o) (took_any (Unsigned 32) n p) e
    (stops_before StopsExpression (one_end expression) (took_apart stops offset q shallow) (took_any Expression offset q) e f)

-- an element segment
element_parts : (front : List ℕ) → Any Elements front → Offset (Any (Vector (Unsigned 32))) front
element_parts front p =
    let one = p.1 in
    let two = one.second in
    record {
      front = one.front;
      rest = one.rest;
      split = one.split;
      first = (p.0.table, one.first, tt);
      second = record { front = two.front; rest = two.rest; split = two.split; first = (p.0.offset, two.first, tt); second = (p.0.funcs, two.second, tt) };
    }

as_element : {bytes : List ℕ} (e : Fault) → Fails (Offset (Any (Vector (Unsigned 32)))) StopsOffset bytes e → Fails (Any Elements) StopsOffset bytes e
as_element e f = fails_map element_parts (λ place feature t. t) (λ place feature t. t) e f

pub element_table : {bytes : List ℕ} (e : Fault) → Fails (Any (Unsigned 32)) Nowhere bytes e → Fails (Any Elements) StopsOffset bytes e
element_table e f = as_element e (offset_number (Any (Vector (Unsigned 32))) e f)

pub element_offset : {bytes mid : List ℕ} → OneForm (Unsigned 32) → (n : ℕ) → Took (Unsigned 32 n) bytes mid → (e : Fault) →
    Fails (Any Expression) StopsExpression mid e → Fails (Any Elements) StopsOffset bytes e
element_offset o n p e f = as_element e (offset_place (Any (Vector (Unsigned 32))) o n p e f)

-- nothing stops in numbers
pub numbers_stop_nowhere : {bytes : List ℕ} (e : Fault) → Fails (Any (Vector (Unsigned 32))) (InVector (Unsigned 32) IsAnything Nowhere) bytes e →
    Fails (Any (Vector (Unsigned 32))) Nowhere bytes e
numbers_stop_nowhere e f = fails_map (λ front q. q) (λ place feature t. t.1.stops.stops.stops) (λ place feature t. absurd t) e f

pub element_funcs : {bytes mid next : List ℕ} → OneForm (Unsigned 32) → OneForm Expression → OneStop Expression IsShallowExpression StopsExpression →
    (n : ℕ) → Took (Unsigned 32 n) bytes mid → (offset : List Instr) → IsShallowExpression offset → Took (Expression offset) mid next → (e : Fault) →
    Fails (Any (Vector (Unsigned 32))) (InVector (Unsigned 32) IsAnything Nowhere) next e → Fails (Any Elements) StopsOffset bytes e
element_funcs o expression stops n p offset shallow q e f = as_element e (offset_rest o expression stops n p offset shallow q e (numbers_stop_nowhere e f))

-- a data segment
data_parts : (front : List ℕ) → Any Data front → Offset (Any Bytes) front
data_parts front p =
    let one = p.1 in
    let two = one.second in
    record {
      front = one.front;
      rest = one.rest;
      split = one.split;
      first = (p.0.memory, one.first, tt);
      second = record { front = two.front; rest = two.rest; split = two.split; first = (p.0.offset, two.first, tt); second = (p.0.bytes, two.second, tt) };
    }

as_data : {bytes : List ℕ} (e : Fault) → Fails (Offset (Any Bytes)) StopsOffset bytes e → Fails (Any Data) StopsOffset bytes e
as_data e f = fails_map data_parts (λ place feature t. t) (λ place feature t. t) e f

pub data_memory : {bytes : List ℕ} (e : Fault) → Fails (Any (Unsigned 32)) Nowhere bytes e → Fails (Any Data) StopsOffset bytes e
data_memory e f = as_data e (offset_number (Any Bytes) e f)

pub data_offset : {bytes mid : List ℕ} → OneForm (Unsigned 32) → (n : ℕ) → Took (Unsigned 32 n) bytes mid → (e : Fault) →
    Fails (Any Expression) StopsExpression mid e → Fails (Any Data) StopsOffset bytes e
data_offset o n p e f = as_data e (offset_place (Any Bytes) o n p e f)

pub data_bytes : {bytes mid next : List ℕ} → OneForm (Unsigned 32) → OneForm Expression → OneStop Expression IsShallowExpression StopsExpression →
    (n : ℕ) → Took (Unsigned 32 n) bytes mid → (offset : List Instr) → IsShallowExpression offset → Took (Expression offset) mid next → (e : Fault) →
    Fails (Any Bytes) Nowhere next e → Fails (Any Data) StopsOffset bytes e
data_bytes o expression stops n p offset shallow q e f = as_data e (offset_rest o expression stops n p offset shallow q e f)
