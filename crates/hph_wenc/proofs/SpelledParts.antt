-- The bytes of the parts of a module spell them.
use Rattle.std.proofs.Common.{◌<◌, ℕ, ◌^◌, List, [], ◌∷◌, ◌++◌, length, flat_map, Option, Some, None, refl}
use Rattle.std.specs.Prelude.{IfSome, IsUtf8}
use Rattle.std.specs.List.{AllByRecursion}
use Rattle.hph_wasm.specs.Leb128.{Unsigned, u32_bytes}
use Rattle.hph_wasm.specs.Grammar.{Grammar, ◌⊳◌, Each, Vector, Bytes, Named, ValueType, FunctionType, Between, MemoryType, TableType, GlobalOf, type_byte, mutable_byte}
use Rattle.hph_wasm.specs.ModuleGrammar.{ImportedThing, Imported, ExportedThing, Exported}
use Rattle.hph_wasm.specs.Spelling.{counted_bytes, vector_bytes, value_type_bytes, func_type_bytes, between_bytes, limits_bytes, table_type_bytes, global_type_bytes, import_desc_bytes, import_bytes, export_desc_bytes, export_bytes}
use Rattle.hph_wasm.specs.declared.types.ValType.{ValType}
use Rattle.hph_wasm.specs.declared.types.Limits.{Limits}
use Rattle.hph_wasm.specs.declared.types.GlobalType.{GlobalType}
use Rattle.hph_wasm.specs.declared.module.ImportDesc.{ImportDesc}
use Rattle.hph_wasm.specs.declared.module.ImportDesc.TheVariants as import_desc
use Rattle.hph_wasm.specs.declared.module.ExportDesc.{ExportDesc}
use Rattle.hph_wasm.specs.declared.module.ExportDesc.TheVariants as export_desc
use Rattle.hph_wenc.specs.Fits.{IndexFits, IndicesFit, ImportDescFits, ImportFits, LimitsFit, ExportDescFits, ExportFits}
use Rattle.hph_wenc.proofs.NumberLaws.{NumbersAreSpelled}
use Rattle.hph_wenc.proofs.Vectors.{front_short, rest_short, params_few, results_few}

-- one thing, and another behind it
pub both : {P Q : Grammar} (front rest : List ℕ) → P front → Q rest → (P ⊳ Q) (front ++ rest)
both front rest first second = record { front = front; rest = rest; split = refl; first = first; second = second }

-- where a thing's bytes spell it, if it fits and they are few
abbrev pub Spelled : {X : Type 0} → (X → Grammar) → (X → List ℕ) → (X → Type 0) → Type 0
Spelled {X = X} P f Fits = (x : X) → Fits x → length (f x) < 2 ^ 32 → P x (f x)

-- a counted list of bytes is a vector of them
pub bytes_spelled : NumbersAreSpelled → (bytes : List ℕ) → length bytes < 2 ^ 32 → Bytes bytes (counted_bytes bytes)
bytes_spelled numbers bytes short = both _ _ (numbers.u32 (length bytes) short) refl

-- where each thing's bytes spell it, those of all do
pub each_spelled : {X : Type 0} (P : X → Grammar) (f : X → List ℕ) (Fits : X → Type 0) → Spelled P f Fits → (xs : List X) → AllByRecursion Fits xs → length (flat_map f xs) < 2 ^ 32 → Each P xs (flat_map f xs)
each_spelled P f Fits one [] all short = refl
each_spelled P f Fits one (x ∷ xs) all short = both _ _ (one x all.0 (front_short (f x) (flat_map f xs) short)) (each_spelled P f Fits one xs all.1 (rest_short (f x) (flat_map f xs) short))

-- and a vector's do
pub vector_spelled : NumbersAreSpelled → {X : Type 0} (P : X → Grammar) (f : X → List ℕ) (Fits : X → Type 0) → Spelled P f Fits → (xs : List X) → AllByRecursion Fits xs → length xs < 2 ^ 32 → length (vector_bytes f xs) < 2 ^ 32 → Vector P xs (vector_bytes f xs)
vector_spelled numbers P f Fits one xs all few short = both _ _ (numbers.u32 (length xs) few) (each_spelled P f Fits one xs all (rest_short (u32_bytes (length xs)) _ short))

-- the bytes of indices spell them
indices_in_turn : NumbersAreSpelled → (ns : List ℕ) → AllByRecursion IndexFits ns → Each (Unsigned 32) ns (flat_map u32_bytes ns)
indices_in_turn numbers [] all = refl
indices_in_turn numbers (n ∷ ns) all = both _ _ (numbers.u32 n all.0) (indices_in_turn numbers ns all.1)

-- and a vector of them
pub indices_spelled : NumbersAreSpelled → (ns : List ℕ) → IndicesFit ns → Vector (Unsigned 32) ns (vector_bytes u32_bytes ns)
indices_spelled numbers ns fits = both _ _ (numbers.u32 (length ns) fits.0) (indices_in_turn numbers ns fits.1)

-- where nothing is asked, all fit
pub all_fit : {X : Type 0} (xs : List X) → AllByRecursion (λ _. Unit {0}) xs
all_fit [] = tt
all_fit (x ∷ xs) = (tt, all_fit xs)

-- the bytes of a vector of value types spell it
value_types_spelled : NumbersAreSpelled → (ts : List ValType) → length ts < 2 ^ 32 → length (vector_bytes value_type_bytes ts) < 2 ^ 32 → Vector ValueType ts (vector_bytes value_type_bytes ts)
value_types_spelled numbers ts few short = vector_spelled numbers ValueType value_type_bytes (λ _. Unit {0}) (λ t _ _. refl) ts (all_fit ts) few short

-- the bytes of a function type spell it
pub func_type_spelled : NumbersAreSpelled → Spelled FunctionType func_type_bytes (λ _. Unit {0})
func_type_spelled numbers ty _ short =
    let inside : length (vector_bytes value_type_bytes ty.params ++ vector_bytes value_type_bytes ty.results) < 2 ^ 32 = rest_short (0x60 ∷ []) _ short in
    both (0x60 ∷ []) _ refl (both _ _
    (value_types_spelled numbers ty.params (params_few ty short) (front_short _ (vector_bytes value_type_bytes ty.results) inside))
    (value_types_spelled numbers ty.results (results_few ty short) (rest_short (vector_bytes value_type_bytes ty.params) _ inside)))

-- the bytes of bounds spell them
between_spelled : NumbersAreSpelled → (min : ℕ) (max : Option ℕ) → min < 2 ^ 32 → IfSome max (λ n. n < 2 ^ 32) → Between min max (between_bytes min max)
between_spelled numbers min None fits more = both (0x00 ∷ []) _ refl (numbers.u32 min fits)
between_spelled numbers min (Some max) fits more = both (0x01 ∷ []) _ refl (both _ _ (numbers.u32 min fits) (numbers.u32 max more))

-- the bytes of a memory type spell it
pub limits_spelled : NumbersAreSpelled → Spelled MemoryType limits_bytes LimitsFit
limits_spelled numbers limits fits short = between_spelled numbers limits.min limits.max fits.0 fits.1

-- the bytes of a table type spell it
limits_of_table_spelled : NumbersAreSpelled → (limits : Limits) → LimitsFit limits → TableType limits (table_type_bytes limits)
limits_of_table_spelled numbers limits fits = both (0x70 ∷ []) _ refl (between_spelled numbers limits.min limits.max fits.0 fits.1)

pub table_type_spelled : NumbersAreSpelled → Spelled TableType table_type_bytes LimitsFit
table_type_spelled numbers limits fits short = limits_of_table_spelled numbers limits fits

-- the bytes of a global's type spell it
pub global_type_spelled : (ty : GlobalType) → GlobalOf ty (global_type_bytes ty)
global_type_spelled ty = both (type_byte ty.value ∷ []) (mutable_byte ty.mutable ∷ []) refl refl

-- the bytes of a name, which are followed by others
name_spelled : NumbersAreSpelled → (name rest : List ℕ) → IsUtf8 name → length (counted_bytes name ++ rest) < 2 ^ 32 → Named name (counted_bytes name)
name_spelled numbers name rest utf8 short = (utf8, bytes_spelled numbers name (rest_short (u32_bytes (length name)) name (front_short (counted_bytes name) rest short)))

-- the bytes of what is imported spell it
imported_thing_spelled : NumbersAreSpelled → (desc : ImportDesc) → ImportDescFits desc → ImportedThing desc (import_desc_bytes desc)
imported_thing_spelled numbers (import_desc.Func ty) fits = both (0x00 ∷ []) _ refl (numbers.u32 ty fits)
imported_thing_spelled numbers (import_desc.Table limits) fits = both (0x01 ∷ []) _ refl (limits_of_table_spelled numbers limits fits)
imported_thing_spelled numbers (import_desc.Memory limits) fits = both (0x02 ∷ []) _ refl (between_spelled numbers limits.min limits.max fits.0 fits.1)
imported_thing_spelled numbers (import_desc.Global ty) fits = both (0x03 ∷ []) _ refl (global_type_spelled ty)

-- the bytes of an import spell it
pub import_spelled : NumbersAreSpelled → Spelled Imported import_bytes ImportFits
import_spelled numbers i fits short =
    let rest : length (counted_bytes i.name ++ import_desc_bytes i.desc) < 2 ^ 32 = rest_short (counted_bytes i.module) _ short in
    both _ _ (name_spelled numbers i.module _ fits.0 short) (both _ _ (name_spelled numbers i.name _ fits.1 rest) (imported_thing_spelled numbers i.desc fits.2))

-- the bytes of what is exported spell it
exported_thing_spelled : NumbersAreSpelled → (desc : ExportDesc) → ExportDescFits desc → ExportedThing desc (export_desc_bytes desc)
exported_thing_spelled numbers (export_desc.Func func) fits = both (0x00 ∷ []) _ refl (numbers.u32 func fits)
exported_thing_spelled numbers (export_desc.Table table) fits = both (0x01 ∷ []) _ refl (numbers.u32 table fits)
exported_thing_spelled numbers (export_desc.Memory memory) fits = both (0x02 ∷ []) _ refl (numbers.u32 memory fits)
exported_thing_spelled numbers (export_desc.Global global) fits = both (0x03 ∷ []) _ refl (numbers.u32 global fits)

-- the bytes of an export spell it
pub export_spelled : NumbersAreSpelled → Spelled Exported export_bytes ExportFits
export_spelled numbers e fits short = both _ _ (name_spelled numbers e.name _ fits.0 short) (exported_thing_spelled numbers e.desc fits.1)
