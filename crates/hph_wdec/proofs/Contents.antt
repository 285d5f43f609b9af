-- The contents of sections, by their kinds (Core Specification 1.0, 5.5.2).
use Rattle.std.proofs.Common.{◌≡◌, ℕ, List, length, sym, subst, arith}
use Rattle.std.specs.Prelude.{Result, Ok, Err, IfOk, IfErr, OnOk}
use Rattle.hph_wasm.specs.Leb128.{Unsigned}
use Rattle.hph_wasm.specs.Grammar.{Grammar, Vector, Sized, FunctionType, TableType, MemoryType}
use Rattle.hph_wasm.specs.ModuleGrammar.{Imported, GlobalWithValue, Exported, Elements, Data, Parts}
use Rattle.hph_wasm.specs.Unsupported.{Stop, Any, Nowhere, InSized, InVector, IsAnything, HasShallowValue, HasShallowEntry, HasShallowPlace, IsSmallImport, IsSmallTable, IsSmallMemory, StopsFunctionType, StopsImported, StopsTableType, StopsMemoryType, StopsGlobal, StopsOffset}
use Rattle.hph_wasm.specs.declared.feature.Feature.{Feature}
use Rattle.hph_wasm.specs.Reading.{Things, Content, with_things, HaveCode}
use Rattle.hph_wread.specs.declared.fault.Fault.{Fault}
use Rattle.hph_wread.specs.declared.fault.Fault.TheVariants.{Malformed}
use Rattle.hph_wread.specs.Reading.{Took, Fails}
use Rattle.hph_wread.proofs.Combinators.{fails_map}
use Rattle.hph_wdec.specs.declared.kinds.SectionKind.{SectionKind}
use Rattle.hph_wdec.specs.declared.kinds.SectionKind.TheVariants as kind
use Rattle.hph_wdec.specs.Next.{kind_of, ContentOf, StopsSized, Gives, CodesFor, StopsCodesFor}

-- what a call gives, in other words
pub on_ok : {Y E : Type 0} (A B : Y → Type 0) (r : Result Y E) → ((y : Y) → A y → B y) → IfOk r A → IfOk r B
on_ok A B (Ok y) h a = h y a
on_ok A B (Err e) h a = tt

-- with a fact that goes with it
pub on_ok_fact : {Y E : Type 0} (A B : Y → Type 0) (P : Type 0) (r : Result Y E) → ((y : Y) → P → A y → B y) → OnOk r P → IfOk r A → IfOk r B
on_ok_fact A B P (Ok y) h p a = h y p a
on_ok_fact A B P (Err e) h p a = tt

pub on_err : {Y E : Type 0} (A B : E → Type 0) (r : Result Y E) → ((e : E) → A e → B e) → IfErr r A → IfErr r B
on_err A B (Ok y) h a = tt
on_err A B (Err e) h a = h e a

-- entries behind the size of a section
abbrev pub Entries : {X : Type 0} → (X → Grammar) → Grammar
Entries P = Any (λ xs. Sized (Vector P xs))

abbrev pub StopsEntries : {X : Type 0} → (X → Grammar) → (X → Type 0) → Stop → Stop
StopsEntries P Fits S = InSized (InVector P Fits S)

-- the content of this kind isn't there
abbrev pub ContentFails : SectionKind → Parts → List ℕ → Fault → Type 0
ContentFails k p bytes e = Fails (ContentOf (kind_of k) p) (StopsSized (kind_of k) p) bytes e

-- where nothing stops in an entry, nothing stops in the section
nowhere : {X : Type 0} (P : X → Grammar) {bytes : List ℕ} (place : ℕ) (feature : Feature) → StopsEntries P IsAnything Nowhere place feature bytes →
    InSized Nowhere place feature bytes
nowhere P place feature t = absurd t.1.stops.1.stops.stops.stops

somewhere : {X : Type 0} (P : X → Grammar) {bytes : List ℕ} (place : ℕ) (feature : Feature) → InSized Nowhere place feature bytes →
    StopsEntries P IsAnything Nowhere place feature bytes
somewhere P place feature t = absurd t.1.stops

module _ (p : Parts) {bytes : List ℕ} (e : Fault) where
  pub types_fail : Fails (Entries FunctionType) (StopsEntries FunctionType IsAnything StopsFunctionType) bytes e → ContentFails kind.Types p bytes e
  types_fail f = fails_map (λ front q. (q.0, q.2, tt)) (λ place feature t. t) (λ place feature t. t) e f

  pub imports_fail : Fails (Entries Imported) (StopsEntries Imported IsSmallImport StopsImported) bytes e → ContentFails kind.Imports p bytes e
  imports_fail f = fails_map (λ front q. (q.0, q.2, tt)) (λ place feature t. t) (λ place feature t. t) e f

  pub functions_fail : Fails (Entries (Unsigned 32)) (StopsEntries (Unsigned 32) IsAnything Nowhere) bytes e → ContentFails kind.Functions p bytes e
  functions_fail f = fails_map (λ front q. (q.0, q.2, tt)) (nowhere (Unsigned 32)) (somewhere (Unsigned 32)) e f

  pub tables_fail : Fails (Entries TableType) (StopsEntries TableType IsSmallTable StopsTableType) bytes e → ContentFails kind.Tables p bytes e
  tables_fail f = fails_map (λ front q. (q.0, q.2, tt)) (λ place feature t. t) (λ place feature t. t) e f

  pub memories_fail : Fails (Entries MemoryType) (StopsEntries MemoryType IsSmallMemory StopsMemoryType) bytes e → ContentFails kind.Memories p bytes e
  memories_fail f = fails_map (λ front q. (q.0, q.2, tt)) (λ place feature t. t) (λ place feature t. t) e f

  pub globals_fail : Fails (Entries GlobalWithValue) (StopsEntries GlobalWithValue HasShallowValue StopsGlobal) bytes e → ContentFails kind.Globals p bytes e
  globals_fail f = fails_map (λ front q. (q.0, q.2, tt)) (λ place feature t. t) (λ place feature t. t) e f

  pub exports_fail : Fails (Entries Exported) (StopsEntries Exported IsAnything Nowhere) bytes e → ContentFails kind.Exports p bytes e
  exports_fail f = fails_map (λ front q. (q.0, q.2, tt)) (nowhere Exported) (somewhere Exported) e f

  pub elements_fail : Fails (Entries Elements) (StopsEntries Elements HasShallowEntry StopsOffset) bytes e → ContentFails kind.Elements p bytes e
  elements_fail f = fails_map (λ front q. (q.0, q.2, tt)) (λ place feature t. t) (λ place feature t. t) e f

  pub codes_fail : Fails (CodesFor (length p.functions)) (StopsCodesFor (length p.functions)) bytes e → ContentFails kind.Codes p bytes e
  codes_fail f = fails_map (λ front q. (q.0, q.1, q.2)) (λ place feature t. t) (λ place feature t. t) e f

  pub segments_fail : length p.codes ≡ length p.functions → Fails (Entries Data) (StopsEntries Data HasShallowPlace StopsOffset) bytes e →
      ContentFails kind.Segments p bytes e
  segments_fail same f = fails_map (λ front q. (q.0, q.2, tt)) (λ place feature t. (
    t.0,
    record {
      front = t.1.front;
      rest = t.1.rest;
      split = t.1.split;
      before = t.1.before;
      place = t.1.place;
      counted = t.1.counted;
      stops = (same, t.1.stops);
    },
  )) (λ place feature t. (
    t.0,
    record {
      front = t.1.front;
      rest = t.1.rest;
      split = t.1.split;
      before = t.1.before;
      place = t.1.place;
      counted = t.1.counted;
      stops = t.1.stops.1;
    },
  )) e f

-- data stands behind code for each function
pub segments_early : (p : Parts) {bytes : List ℕ} → ¬ (length p.codes ≡ length p.functions) → ContentFails kind.Segments p bytes (Malformed (length bytes))
segments_early p early = record {
  reason = (omega arith, record { none = λ rest q. early q.spelled.1; nowhere = λ place feature t. early t.1.stops.0 });
}

-- the fault of a call, at a kind that is known
pub at_kind : (k k' : SectionKind) (p : Parts) {bytes : List ℕ} (e : Fault) → k ≡ k' → ContentFails k' p bytes e → ContentFails k p bytes e
at_kind k k' p {bytes} e is f = subst (λ k. ContentFails k p bytes e) (sym is) f

-- and what it gives
pub gives : (k k' : SectionKind) (p q : Parts) {bytes rest : List ℕ} → k ≡ k' → (xs : Things (kind_of k')) → HaveCode (kind_of k') xs p →
    q ≡ with_things (kind_of k') xs p → Took (Sized (Content (kind_of k') xs)) bytes rest → Took (Gives (kind_of k) p q) bytes rest
gives k k' p q {bytes} {rest} is xs code same t =
    let there : Took (Gives (kind_of k') p q) bytes rest = record { front = t.front; split = t.split; spelled = (xs, code, same, t.spelled) } in
    subst (λ k. Took (Gives (kind_of k) p q) bytes rest) (sym is) there
