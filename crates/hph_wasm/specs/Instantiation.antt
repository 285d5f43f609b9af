-- What instantiation makes of a module that imports functions alone (Core Specification 1.0, 4.5.4): the initial values of its
-- globals, its table and its memory.
use Rattle.std.specs.Prelude.{◌≡◌, ◌≤◌, ℕ, ◌+◌, ◌*◌, List, [], ◌∷◌, ◌++◌, map, length, take, drop, replicate, Option, Some, None, slice_get}
use Rattle.std.specs.List.{AllByRecursion}
use Rattle.hph_wasm.specs.declared.instr.Instr.{Instr, GlobalGet, I32Const, I64Const}
use Rattle.hph_wasm.specs.declared.value.Value.{Value}
use Rattle.hph_wasm.specs.declared.value.Value.TheVariants as value
use Rattle.hph_wasm.specs.declared.types.Limits.{Limits}
use Rattle.hph_wasm.specs.declared.module.Global.{Global}
use Rattle.hph_wasm.specs.declared.module.Element.{Element}
use Rattle.hph_wasm.specs.declared.module.Segment.{Segment}
use Rattle.hph_wasm.specs.declared.module.Module.{Module}
use Rattle.hph_wasm.specs.Choice.{if_some}
use Rattle.hph_wasm.specs.Values.{value_of, number_of, i32_bits, i64_bits}

-- The value of a constant expression, where globals have these values.
abbrev pub constant_value : List Value → List Instr → Option Value
constant_value globals (I32Const z ∷ []) = Some (value.I32 (i32_bits z))
constant_value globals (I64Const z ∷ []) = Some (value.I64 (i64_bits z))
constant_value globals (GlobalGet x ∷ []) = slice_get globals x
constant_value globals _ = None

-- What a global begins with; it sees imported globals alone, of which there are none.
abbrev pub initial_value : Global → Value
initial_value global = if_some (constant_value [] global.init) (value_of global.ty.value 0) (λ v. v)

-- The values of the globals at the start of a run.
abbrev pub globals_at_start : Module → List Value
globals_at_start m = map initial_value m.globals

-- The value of an offset, a constant expression of type i32.
abbrev pub offset_of : List Value → List Instr → ℕ
offset_of globals code = if_some (constant_value globals code) 0 number_of

-- A list with others in place of those from an offset on.
abbrev pub overwritten : {X : Type 0} → List X → ℕ → List X → List X
overwritten before offset xs = take offset before ++ (xs ++ drop (offset + length xs) before)

-- A table whose entries are empty (4.2.7).
unfoldable pub empty_table : ℕ → List (Option ℕ)
empty_table size = replicate size None

-- Functions are put into a table in the order of the element segments.
abbrev pub with_elements : List Value → List Element → List (Option ℕ) → List (Option ℕ)
with_elements globals [] table = table
with_elements globals (element ∷ elements) table =
    with_elements globals elements (overwritten table (offset_of globals element.offset) (map Some element.funcs))

-- What these tables are at the start of a run, the first of which is the only one.
abbrev pub first_table : List Value → List Limits → List Element → List (Option ℕ)
first_table globals [] elements = []
first_table globals (table ∷ more) elements = with_elements globals elements (empty_table table.min)

-- A module's table: the numbers of functions. Without a table there are no entries.
abbrev pub table_of : Module → List (Option ℕ)
table_of m = first_table (globals_at_start m) m.tables m.elements

-- A page is 65536 bytes (4.2.8), zero at first.
unfoldable pub zeros : ℕ → List ℕ
zeros pages = replicate (pages * 65536) 0

-- Bytes are put into a memory in the order of the data segments.
abbrev pub with_segments : List Value → List Segment → List ℕ → List ℕ
with_segments globals [] memory = memory
with_segments globals (segment ∷ segments) memory =
    with_segments globals segments (overwritten memory (offset_of globals segment.offset) segment.bytes)

-- What these memories are at the start of a run, the first of which is the only one.
abbrev pub first_memory : List Value → List Limits → List Segment → List ℕ
first_memory globals [] segments = []
first_memory globals (memory ∷ more) segments = with_segments globals segments (zeros memory.min)

-- What the memory is at the start of a run; without a memory there are no bytes.
abbrev pub memory_at_start : Module → List ℕ
memory_at_start m = first_memory (globals_at_start m) m.memories m.segments

-- The first of these limits says how large a table or a memory is at the start.
abbrev pub first_size : List Limits → ℕ
first_size [] = 0
first_size (limits ∷ more) = limits.min

-- Where a segment goes: from an offset on so many entries of a table, or bytes of a memory, that has so many.
pub record Placement : Type 0 where
  pub offset : ℕ
  pub count : ℕ
  pub room : ℕ

-- It ends within the table or the memory.
abbrev pub IsWithin : Placement → Type 0
IsWithin place = place.offset + place.count ≤ place.room

abbrev pub element_placement : Module → Element → Placement
element_placement m element =
    record { offset = offset_of (globals_at_start m) element.offset; count = length element.funcs; room = first_size m.tables }

abbrev pub segment_placement : Module → Segment → Placement
segment_placement m segment =
    record { offset = offset_of (globals_at_start m) segment.offset; count = length segment.bytes; room = first_size m.memories * 65536 }

-- All segments by number: the element segments, and then the data segments.
abbrev pub placements : Module → List Placement
placements m = map (element_placement m) m.elements ++ map (segment_placement m) m.segments

-- Each segment ends within its table or memory: else there is no instance to run.
abbrev pub SegmentsFit : Module → Type 0
SegmentsFit m = AllByRecursion IsWithin (placements m)

-- The first segment that doesn't.
abbrev pub IsFirstMisfit : Module → ℕ → Type 0
IsFirstMisfit m k = (place : Placement) × (slice_get (placements m) k ≡ Some place) × (IsWithin place → ⊥) ×
    AllByRecursion IsWithin (take k (placements m))
