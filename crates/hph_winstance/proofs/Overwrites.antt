-- Tables and memories while segments are put into them.
use Rattle.std.proofs.Common.{◌≡◌, ◌∙◌, ℕ, ◌+◌, ◌*◌, ◌<◌, ◌≤◌, List, [], ◌∷◌, Option, Some, None, length, map, drop, get_or, sym, ap, subst, arith}
use Rattle.std.specs.Prelude.{slice_get}
use Rattle.std.specs.List.{AllByRecursion}
use Rattle.std.proofs.lemmas.List.{at_drop_more, length-map, length-replicate}
use Rattle.hph_wasm.specs.declared.value.Value.{Value}
use Rattle.hph_wasm.specs.declared.types.Limits.{Limits}
use Rattle.hph_wasm.specs.declared.module.Element.{Element}
use Rattle.hph_wasm.specs.declared.module.Segment.{Segment}
use Rattle.hph_wasm.specs.declared.module.Module.{Module}
use Rattle.hph_wasm.specs.Instantiation.{globals_at_start, offset_of, overwritten, with_elements, with_segments, first_size, zeros, empty_table, SegmentsFit, IsWithin, element_placement, segment_placement}
use Rattle.hph_winstance.specs.Instances.{DataFits, ElementsFit}
use Rattle.hph_winstance.proofs.Firsts.{all_first, all_second, holds_at}

module _ (m : Module) (globals : List Value) (is : globals ≡ globals_at_start m) where
  -- There is room for each data segment.
  pub segment_room : (all : List Segment) (k : ℕ) (segment : Segment) (memory : List ℕ) (offset : ℕ) (bytes : List ℕ) → DataFits m →
      all ≡ m.segments → k < length all → segment ≡ get_or all k segment → length memory ≡ first_size m.memories * 65536 →
      offset ≡ offset_of globals segment.offset → bytes ≡ segment.bytes → offset + length bytes ≤ length memory
  segment_room all k segment memory offset bytes fits same within at room placed spelled =
      let fits_all = subst (λ all. AllByRecursion IsWithin (map (segment_placement m) all)) (sym same) fits in
      let fit : offset_of (globals_at_start m) segment.offset + length segment.bytes ≤ first_size m.memories * 65536 =
      holds_at IsWithin (segment_placement m) all k segment fits_all within at in
      let offset_is : offset ≡ offset_of (globals_at_start m) segment.offset = placed ∙ ap (λ globals. offset_of globals segment.offset) is in
      let count_is : length bytes ≡ length segment.bytes = ap length spelled in
      omega arith

  -- There is room for each element segment.
  pub element_room : (all : List Element) (k : ℕ) (element : Element) (table : List (Option ℕ)) (offset : ℕ) (entries : List (Option ℕ)) →
      ElementsFit m → all ≡ m.elements → k < length all → element ≡ get_or all k element → length table ≡ first_size m.tables →
      offset ≡ offset_of globals element.offset → entries ≡ map Some element.funcs → offset + length entries ≤ length table
  element_room all k element table offset entries fits same within at room placed spelled =
      let fits_all = subst (λ all. AllByRecursion IsWithin (map (element_placement m) all)) (sym same) fits in
      let fit : offset_of (globals_at_start m) element.offset + length element.funcs ≤ first_size m.tables =
      holds_at IsWithin (element_placement m) all k element fits_all within at in
      let offset_is : offset ≡ offset_of (globals_at_start m) element.offset = placed ∙ ap (λ globals. offset_of globals element.offset) is in
      let count_is : length entries ≡ length element.funcs = ap length spelled ∙ length-map element.funcs Some in
      omega arith

-- One more data segment is put.
pub segment_put : (globals : List Value) (all : List Segment) (k : ℕ) (segment : Segment) (memory : List ℕ) (offset : ℕ) (bytes new : List ℕ) →
    k < length all → segment ≡ get_or all k segment → offset ≡ offset_of globals segment.offset → bytes ≡ segment.bytes →
    new ≡ overwritten memory offset bytes → with_segments globals (drop k all) memory ≡ with_segments globals (drop (k + 1) all) new
segment_put globals all k segment memory offset bytes new within at placed spelled written =
    at_drop_more (λ all. with_segments globals all memory) all k segment within ∙
    ap (λ (segment : Segment). with_segments globals (segment ∷ drop (k + 1) all) memory) (sym at) ∙
    ap (λ offset. with_segments globals (drop (k + 1) all) (overwritten memory offset segment.bytes)) (sym placed) ∙
    ap (λ bytes. with_segments globals (drop (k + 1) all) (overwritten memory offset bytes)) (sym spelled) ∙
    ap (with_segments globals (drop (k + 1) all)) (sym written)

-- One more element segment is put.
pub element_put : (globals : List Value) (all : List Element) (k : ℕ) (element : Element) (table : List (Option ℕ)) (offset : ℕ)
    (entries new : List (Option ℕ)) → k < length all → element ≡ get_or all k element → offset ≡ offset_of globals element.offset →
    entries ≡ map Some element.funcs → new ≡ overwritten table offset entries →
    with_elements globals (drop k all) table ≡ with_elements globals (drop (k + 1) all) new
element_put globals all k element table offset entries new within at placed spelled written =
    at_drop_more (λ all. with_elements globals all table) all k element within ∙
    ap (λ (element : Element). with_elements globals (element ∷ drop (k + 1) all) table) (sym at) ∙
    ap (λ offset. with_elements globals (drop (k + 1) all) (overwritten table offset (map Some element.funcs))) (sym placed) ∙
    ap (λ entries. with_elements globals (drop (k + 1) all) (overwritten table offset entries)) (sym spelled) ∙
    ap (with_elements globals (drop (k + 1) all)) (sym written)

first_is : (all : List Limits) (limits : Limits) → Some limits ≡ slice_get all 0 → limits.min ≡ first_size all
first_is [] limits there = let none : ⊥ = cc in absurd none
first_is (first ∷ all) limits there = let same : limits ≡ first = cc in ap (λ (l : Limits). l.min) same

-- A memory of zeros has its pages, and an empty table its entries.
pub zeros_room : (all : List Limits) (limits : Limits) (memory : List ℕ) → Some limits ≡ slice_get all 0 → memory ≡ zeros limits.min →
    length memory ≡ first_size all * 65536
unfolding zeros
zeros_room all limits memory there is = ap length is ∙ length-replicate (limits.min * 65536) 0 ∙ ap (λ n. n * 65536) (first_is all limits there)

pub empty_room : (all : List Limits) (limits : Limits) (table : List (Option ℕ)) → Some limits ≡ slice_get all 0 →
    table ≡ empty_table limits.min → length table ≡ first_size all
unfolding empty_table
empty_room all limits table there is = ap length is ∙ length-replicate {A = Option ℕ} limits.min None ∙ first_is all limits there

-- Where all segments fit, the data segments do, and the element segments.
pub data_fits : (m : Module) → SegmentsFit m → DataFits m
data_fits m fit = all_second IsWithin (map (element_placement m) m.elements) (map (segment_placement m) m.segments) fit

pub elements_fit : (m : Module) → SegmentsFit m → ElementsFit m
elements_fit m fit = all_first IsWithin (map (element_placement m) m.elements) (map (segment_placement m) m.segments) fit
