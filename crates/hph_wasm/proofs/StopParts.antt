-- Types, imports and locals stop a reader in at most one place.
use Rattle.std.proofs.Common.{◌≡◌, ◌<◌, ◌≤◌, ◌∙◌, inl, inr, ℕ, List, [], ◌∷◌, ◌++◌, refl, sym, ap, subst, arith, Option, Some, None}
use Rattle.std.specs.List.{AllByRecursion}
use Rattle.hph_wasm.specs.Leb128.{Unsigned}
use Rattle.hph_wasm.specs.Grammar.{Grammar, Byte, ◌⊳◌, Vector, type_byte, ValueType, FunctionType, Between, MemoryType, TableType, GlobalOf, mutable_byte}
use Rattle.hph_wasm.specs.ModuleGrammar.{ImportedThing, Imported}
use Rattle.hph_wasm.specs.Unsupported.{IsAnything, Stop, Behind, AtByte, AtNumber, most_pages, most_entries, IsSmallMemory, IsSmallTable, IsSmallThing, IsSmallImport, float_type, StopsValueType, StopsValueTypes, StopsFunctionType, LimitsByte, StopsMemoryType, StopsTableType, StopsImportedThing, StopsImported}
use Rattle.hph_wasm.specs.declared.feature.Feature.{Feature}
use Rattle.hph_wasm.specs.declared.feature.Feature.TheVariants.{InitialMemorySize, InitialTableSize}
use Rattle.hph_wasm.specs.declared.types.ValType.{ValType}
use Rattle.hph_wasm.specs.declared.types.ValType.TheVariants.{I32, I64}
use Rattle.hph_wasm.specs.declared.module.ImportDesc.{ImportDesc}
use Rattle.hph_wasm.specs.declared.module.ImportDesc.TheVariants as import_desc
use Rattle.hph_wasm.proofs.CountedForms.{vector_form, name_form}
use Rattle.hph_wasm.proofs.OneInstruction.{value_type_form}
use Rattle.hph_wasm.proofs.OneStop.{Same, OneStop, Fronts, behind_one, behind_apart, byte_fronts, byte_one, number_one, number_apart, first_stops, second_stops, either_stops, along_stops, narrow_stops, vector_stops, coded_stops, split_front}

-- each of them asks nothing
pub all_asked : {X : Type 0} (xs : List X) → AllByRecursion (IsAnything {X = X}) xs
all_asked [] = tt
all_asked (x ∷ xs) = (tt, all_asked xs)

-- the byte of a value type is none of a float
type_byte-no_float : (t : ValType) → float_type (type_byte t) ≡ None
type_byte-no_float I32 = refl
type_byte-no_float I64 = refl

-- bytes that begin with one that stands for no feature don't stop at it
pub byte_apart : (feature_of : ℕ → Option Feature) (b at : ℕ) (feature : Feature) (front rest : List ℕ) → feature_of b ≡ None →
    Byte b front → AtByte feature_of at feature (front ++ rest) → ⊥
byte_apart feature_of b at feature front rest no_feature p stop =
    let here : AtByte feature_of at feature (b ∷ rest) = subst (λ l. AtByte feature_of at feature (l ++ rest)) p stop in
    let some : None ≡ Some feature = sym no_feature ∙ here.1 in cc

-- a value type
pub value_type_stops : OneStop ValueType IsAnything StopsValueType
value_type_stops = record {
  one = byte_one float_type;
  apart =
      λ t at feature front rest p _. byte_apart float_type (type_byte t) at feature front rest (type_byte-no_float t) p;
}

-- value types
value_types_stop : OneStop (Vector ValueType) (AllByRecursion IsAnything) StopsValueTypes
value_types_stop = vector_stops value_type_form value_type_stops

-- a function type
pub function_type_stops : OneStop FunctionType IsAnything StopsFunctionType
function_type_stops = along_stops {Fits = IsAnything} (λ ty. (ty.params, ty.results)) (coded_stops 0x60
    (narrow_stops {Fits = λ pair. Unit {0} × AllByRecursion IsAnything pair.1} (λ pair _. (tt, all_asked pair.1))
    (either_stops {First = IsAnything} (vector_form value_type_form) (narrow_stops (λ ts _. all_asked ts) value_types_stop)
    value_types_stop)))

-- the byte that limits begin with is one
limits_fronts : Fronts {X = Unit {0}} (λ _. LimitsByte)
limits_fronts = record { same = same_of }
  where
    same_of : (x y : Unit {0}) (f g r s : List ℕ) → LimitsByte f → LimitsByte g → f ++ r ≡ g ++ s → (f ≡ g) × (r ≡ s)
    same_of x y f g r s (inl p) (inl q) e = (byte_fronts 0x00).same tt tt f g r s p q e
    same_of x y f g r s (inl p) (inr q) e = let flat : 0x00 ∷ r ≡ 0x01 ∷ s = ap (λ l. l ++ r) (sym p) ∙ e ∙ ap (λ l. l ++ s) q in
        absurd (differ r s flat)
      where
        differ : (r s : List ℕ) → 0x00 ∷ r ≡ 0x01 ∷ s → ⊥
        differ r s e = let same : ◌≡◌ {A = ℕ} 0x00 0x01 = cc in omega arith
    same_of x y f g r s (inr p) (inl q) e = let flat : 0x01 ∷ r ≡ 0x00 ∷ s = ap (λ l. l ++ r) (sym p) ∙ e ∙ ap (λ l. l ++ s) q in
        absurd (differ r s flat)
      where
        differ : (r s : List ℕ) → 0x01 ∷ r ≡ 0x00 ∷ s → ⊥
        differ r s e = let same : ◌≡◌ {A = ℕ} 0x01 0x00 = cc in omega arith
    same_of x y f g r s (inr p) (inr q) e = (byte_fronts 0x01).same tt tt f g r s p q e

-- limits whose initial size isn't above the greatest
limits_apart : (most : ℕ) (name : Feature) (min : ℕ) (max : Option ℕ) (at : ℕ) (feature : Feature) (front rest : List ℕ) →
    Between min max front → min ≤ most →
    Behind LimitsByte (AtNumber (λ n. most < n) name) at feature (front ++ rest) → ⊥
limits_apart most name min None at feature front rest p fits stop =
    behind_apart {S = AtNumber (λ n. most < n) name} limits_fronts tt tt at feature p.front (p.rest ++ rest) (inl p.first)
    (λ place. number_apart (λ n. most < n) name min place feature p.rest rest p.second (λ great. omega arith))
    (subst (Behind LimitsByte (AtNumber (λ n. most < n) name) at feature) (split_front front rest p) stop)
limits_apart most name min (Some max) at feature front rest p fits stop =
    behind_apart {S = AtNumber (λ n. most < n) name} limits_fronts tt tt at feature p.front (p.rest ++ rest) (inr p.first)
    (λ place more. number_apart (λ n. most < n) name min place feature p.second.front (p.second.rest ++ rest) p.second.first
    (λ great. omega arith)
    (subst (AtNumber (λ n. most < n) name place feature) (split_front p.rest rest p.second) more))
    (subst (Behind LimitsByte (AtNumber (λ n. most < n) name) at feature) (split_front front rest p) stop)

-- limits
limits_one : (most : ℕ) (name : Feature) (at at' : ℕ) (feature feature' : Feature) (bytes : List ℕ) →
    Behind LimitsByte (AtNumber (λ n. most < n) name) at feature bytes →
    Behind LimitsByte (AtNumber (λ n. most < n) name) at' feature' bytes → Same at at' feature feature'
limits_one most name at at' feature feature' bytes =
    behind_one {S = AtNumber (λ n. most < n) name} limits_fronts tt tt at at' feature feature' bytes
    (λ place place' rest. number_one (λ n. most < n) name place place' feature feature' rest)

-- a memory type
pub memory_type_stops : OneStop MemoryType IsSmallMemory StopsMemoryType
memory_type_stops = record {
  one = limits_one most_pages InitialMemorySize;
  apart =
      λ limits. limits_apart most_pages InitialMemorySize limits.min limits.max;
}

-- a table type
pub table_type_stops : OneStop TableType IsSmallTable StopsTableType
table_type_stops =
    let limits : OneStop MemoryType IsSmallTable (Behind LimitsByte (AtNumber (λ n. most_entries < n) InitialTableSize)) =
    record {
      one = limits_one most_entries InitialTableSize;
      apart =
          λ limits. limits_apart most_entries InitialTableSize limits.min limits.max;
    } in
    coded_stops 0x70 limits

-- a global type
pub global_type_stops : OneStop GlobalOf IsAnything StopsValueType
global_type_stops = along_stops (λ ty. (ty.value, ty.mutable)) (first_stops (λ mutable. Byte (mutable_byte mutable)) value_type_stops)

-- what stops behind a byte, and what is behind another
codes_apart : {S T : Stop} (b c at at' : ℕ) (feature feature' : Feature) (bytes : List ℕ) → (b ≡ c → ⊥) →
    Behind (Byte b) S at feature bytes → Behind (Byte c) T at' feature' bytes → ⊥
codes_apart b c at at' feature feature' bytes differ p q =
    let flat : b ∷ p.rest ≡ c ∷ q.rest = ap (λ l. l ++ p.rest) (sym p.before) ∙ sym p.split ∙ q.split ∙ ap (λ l. l ++ q.rest) q.before in
    let same : b ≡ c = cc in differ same

-- bytes behind one byte don't stop behind another
code_apart : {P : Grammar} {S : Stop} (b c at : ℕ) (feature : Feature) (front rest : List ℕ) → (b ≡ c → ⊥) → (Byte b ⊳ P) front →
    Behind (Byte c) S at feature (front ++ rest) → ⊥
code_apart b c at feature front rest differ p q =
    let flat : b ∷ (p.rest ++ rest) ≡ c ∷ q.rest = ap (λ l. l ++ (p.rest ++ rest)) (sym p.first) ∙ sym (split_front front rest p) ∙
    q.split ∙ ap (λ l. l ++ q.rest) q.before in
    let same : b ≡ c = cc in differ same

-- the three kinds of imports that can stop
abbrev Tables : Stop
Tables = Behind (Byte 0x01) StopsTableType

abbrev Memories : Stop
Memories = Behind (Byte 0x02) StopsMemoryType

abbrev Globals : Stop
Globals = Behind (Byte 0x03) StopsValueType

-- what is imported
imported_one : (at at' : ℕ) (feature feature' : Feature) (bytes : List ℕ) → StopsImportedThing at feature bytes →
    StopsImportedThing at' feature' bytes → Same at at' feature feature'
imported_one at at' feature feature' bytes (inl p) (inl q) = (coded_stops 0x01 table_type_stops).one at at' feature feature' bytes p q
imported_one at at' feature feature' bytes (inl p) (inr (inl q)) =
    absurd (codes_apart {S = StopsTableType} {T = StopsMemoryType} 0x01 0x02 at at' feature feature' bytes (λ e. omega arith) p q)
imported_one at at' feature feature' bytes (inl p) (inr (inr q)) =
    absurd (codes_apart {S = StopsTableType} {T = StopsValueType} 0x01 0x03 at at' feature feature' bytes (λ e. omega arith) p q)
imported_one at at' feature feature' bytes (inr (inl p)) (inl q) =
    absurd (codes_apart {S = StopsMemoryType} {T = StopsTableType} 0x02 0x01 at at' feature feature' bytes (λ e. omega arith) p q)
imported_one at at' feature feature' bytes (inr (inl p)) (inr (inl q)) =
    (coded_stops 0x02 memory_type_stops).one at at' feature feature' bytes p q
imported_one at at' feature feature' bytes (inr (inl p)) (inr (inr q)) =
    absurd (codes_apart {S = StopsMemoryType} {T = StopsValueType} 0x02 0x03 at at' feature feature' bytes (λ e. omega arith) p q)
imported_one at at' feature feature' bytes (inr (inr p)) (inl q) =
    absurd (codes_apart {S = StopsValueType} {T = StopsTableType} 0x03 0x01 at at' feature feature' bytes (λ e. omega arith) p q)
imported_one at at' feature feature' bytes (inr (inr p)) (inr (inl q)) =
    absurd (codes_apart {S = StopsValueType} {T = StopsMemoryType} 0x03 0x02 at at' feature feature' bytes (λ e. omega arith) p q)
imported_one at at' feature feature' bytes (inr (inr p)) (inr (inr q)) =
    (coded_stops 0x03 global_type_stops).one at at' feature feature' bytes p q

imported_apart : (x : ImportDesc) (at : ℕ) (feature : Feature) (front rest : List ℕ) → ImportedThing x front → IsSmallThing x →
    StopsImportedThing at feature (front ++ rest) → ⊥
imported_apart (import_desc.Func ty) at feature front rest p fits (inl stop) =
    code_apart {P = Unsigned 32 ty} {S = StopsTableType} 0x00 0x01 at feature front rest (λ e. omega arith) p stop
imported_apart (import_desc.Func ty) at feature front rest p fits (inr (inl stop)) =
    code_apart {P = Unsigned 32 ty} {S = StopsMemoryType} 0x00 0x02 at feature front rest (λ e. omega arith) p stop
imported_apart (import_desc.Func ty) at feature front rest p fits (inr (inr stop)) =
    code_apart {P = Unsigned 32 ty} {S = StopsValueType} 0x00 0x03 at feature front rest (λ e. omega arith) p stop
imported_apart (import_desc.Table limits) at feature front rest p fits (inl stop) =
    (coded_stops 0x01 table_type_stops).apart limits at feature front rest p fits stop
imported_apart (import_desc.Table limits) at feature front rest p fits (inr (inl stop)) =
    code_apart {P = TableType limits} {S = StopsMemoryType} 0x01 0x02 at feature front rest (λ e. omega arith) p stop
imported_apart (import_desc.Table limits) at feature front rest p fits (inr (inr stop)) =
    code_apart {P = TableType limits} {S = StopsValueType} 0x01 0x03 at feature front rest (λ e. omega arith) p stop
imported_apart (import_desc.Memory limits) at feature front rest p fits (inl stop) =
    code_apart {P = MemoryType limits} {S = StopsTableType} 0x02 0x01 at feature front rest (λ e. omega arith) p stop
imported_apart (import_desc.Memory limits) at feature front rest p fits (inr (inl stop)) =
    (coded_stops 0x02 memory_type_stops).apart limits at feature front rest p fits stop
imported_apart (import_desc.Memory limits) at feature front rest p fits (inr (inr stop)) =
    code_apart {P = MemoryType limits} {S = StopsValueType} 0x02 0x03 at feature front rest (λ e. omega arith) p stop
imported_apart (import_desc.Global ty) at feature front rest p fits (inl stop) =
    code_apart {P = GlobalOf ty} {S = StopsTableType} 0x03 0x01 at feature front rest (λ e. omega arith) p stop
imported_apart (import_desc.Global ty) at feature front rest p fits (inr (inl stop)) =
    code_apart {P = GlobalOf ty} {S = StopsMemoryType} 0x03 0x02 at feature front rest (λ e. omega arith) p stop
imported_apart (import_desc.Global ty) at feature front rest p fits (inr (inr stop)) =
    (coded_stops 0x03 global_type_stops).apart ty at feature front rest p tt stop

-- an import
pub import_stops : OneStop Imported IsSmallImport StopsImported
import_stops = narrow_stops {Fits = λ i. Unit {0} × (Unit {0} × IsSmallThing i.desc)} (λ i small. (tt, (tt, small)))
    (along_stops (λ i. (i.module, (i.name, i.desc)))
    (second_stops IsAnything name_form (second_stops {Q = ImportedThing} IsAnything name_form
    (record { one = imported_one; apart = imported_apart }))))
