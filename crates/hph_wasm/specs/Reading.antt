-- Reading a module section by section from the front (Core Specification 1.0, 5.5.15): what was read so far, and what may stand next.
use Rattle.std.specs.Prelude.{◌≡◌, ◌⊎◌, ℕ, ◌+◌, List, [], ◌∷◌, ◌++◌, length}
use Rattle.std.specs.List.{AllByRecursion}
use Rattle.hph_wasm.specs.Leb128.{Unsigned}
use Rattle.hph_wasm.specs.Grammar.{Grammar, Exactly, ◌⊳◌, Each, Vector, FunctionType, MemoryType, TableType}
use Rattle.hph_wasm.specs.ModuleGrammar.{Imported, GlobalWithValue, Exported, Elements, Code, Data, RawSection, BeginsWithName, without_custom, Parts, parts_of, FromTypes, header, SpellsModule}
use Rattle.hph_wasm.specs.Unsupported.{AreSupported, IsSupported, Kind, Types, Imports, Functions, Tables, Memories, Globals, Exports, ElementSegments, Codes, DataSegments, number_of, AllBelow, StopsSection, IsUnsupported, IsMalformed}
use Rattle.hph_wasm.specs.declared.feature.Feature.{Feature}
use Rattle.hph_wasm.specs.declared.types.ValType.{ValType}
use Rattle.hph_wasm.specs.declared.types.FuncType.{FuncType}
use Rattle.hph_wasm.specs.declared.types.Limits.{Limits}
use Rattle.hph_wasm.specs.declared.instr.Instr.{Instr}
use Rattle.hph_wasm.specs.declared.module.Import.{Import}
use Rattle.hph_wasm.specs.declared.module.Global.{Global}
use Rattle.hph_wasm.specs.declared.module.Export.{Export}
use Rattle.hph_wasm.specs.declared.module.Element.{Element}
use Rattle.hph_wasm.specs.declared.module.Segment.{Segment}
use Rattle.hph_wasm.specs.declared.module.Module.{Module}

-- what a kind of sections has
abbrev pub Things : Kind → Type 0
Things Types = List FuncType
Things Imports = List Import
Things Functions = List ℕ
Things Tables = List Limits
Things Memories = List Limits
Things Globals = List Global
Things Exports = List Export
Things ElementSegments = List Element
Things Codes = List (List ValType × List Instr)
Things DataSegments = List Segment

-- its content
abbrev pub Content : (kind : Kind) → Things kind → Grammar
Content Types xs = Vector FunctionType xs
Content Imports xs = Vector Imported xs
Content Functions xs = Vector (Unsigned 32) xs
Content Tables xs = Vector TableType xs
Content Memories xs = Vector MemoryType xs
Content Globals xs = Vector GlobalWithValue xs
Content Exports xs = Vector Exported xs
Content ElementSegments xs = Vector Elements xs
Content Codes xs = Vector Code xs
Content DataSegments xs = Vector Data xs

-- parts with these
abbrev pub with_things : (kind : Kind) → Things kind → Parts → Parts
with_things Types xs p = record p { types = xs }
with_things Imports xs p = record p { imports = xs }
with_things Functions xs p = record p { functions = xs }
with_things Tables xs p = record p { tables = xs }
with_things Memories xs p = record p { memories = xs }
with_things Globals xs p = record p { globals = xs }
with_things Exports xs p = record p { exports = xs }
with_things ElementSegments xs p = record p { elements = xs }
with_things Codes xs p = record p { codes = xs }
with_things DataSegments xs p = record p { segments = xs }

-- there is code for each function, and data stands behind that
abbrev pub HaveCode : (kind : Kind) → Things kind → Parts → Type 0
HaveCode Codes xs p = length xs ≡ length p.functions
HaveCode DataSegments xs p = length p.codes ≡ length p.functions
HaveCode kind xs p = Unit {0}

-- A section that may stand behind others, and the parts with it: a custom one with a name, or one of a higher number.
abbrev pub Adds : Parts → List (ℕ × List ℕ) → ℕ × List ℕ → Parts → Type 0
Adds p before section q = (kind : Kind) × (section.0 ≡ number_of kind) × AllBelow (number_of kind) before ×
    (xs : Things kind) × Content kind xs section.1 × HaveCode kind xs p × (q ≡ with_things kind xs p)

abbrev pub Follows : Parts → List (ℕ × List ℕ) → ℕ × List ℕ → Parts → Type 0
Follows p before section q = ((section.0 ≡ 0) × BeginsWithName section.1 × (q ≡ p)) ⊎ Adds p before section q

-- These parts were read of the front of the bytes, in whole sections, and nothing of them is left out.
pub record ReadSoFar (bytes : List ℕ) (p : Parts) (sections : List (ℕ × List ℕ)) (rest : List ℕ) : Type 0 where
  pub front : List ℕ
  pub split : bytes ≡ front ++ rest
  pub stand : (Exactly header ⊳ Each RawSection sections) front
  pub named : AllByRecursion (λ section. section.0 ≡ 0 → BeginsWithName section.1) sections
  pub inside : FromTypes p (without_custom sections)
  pub supported : AreSupported p

-- One more section is read.
abbrev pub ReadingGoesOn : Type 0
ReadingGoesOn = (bytes : List ℕ) (p q : Parts) (sections : List (ℕ × List ℕ)) (section : ℕ × List ℕ) (front rest : List ℕ) →
    ReadSoFar bytes p sections (front ++ rest) → RawSection section front → Follows p (without_custom sections) section q → AreSupported q →
    ReadSoFar bytes q (sections ++ section ∷ []) rest

-- All was read: a module, if there is code for each function; and else the bytes are malformed.
abbrev pub ReadingEnds : Type 0
ReadingEnds = (bytes : List ℕ) (m : Module) (sections : List (ℕ × List ℕ)) → ReadSoFar bytes (parts_of m) sections [] →
    SpellsModule bytes m × IsSupported m

abbrev pub ReadingLacksCode : Type 0
ReadingLacksCode = (bytes : List ℕ) (p : Parts) (sections : List (ℕ × List ℕ)) → ReadSoFar bytes p sections [] →
    (length p.codes ≡ length p.functions → ⊥) → IsMalformed bytes

-- Something left out is met in the next section.
abbrev pub ReadingStops : Type 0
ReadingStops = (bytes : List ℕ) (p : Parts) (sections : List (ℕ × List ℕ)) (rest : List ℕ) (at : ℕ) (feature : Feature)
    (read : ReadSoFar bytes p sections rest) →
    StopsSection p (without_custom sections) at feature rest → IsUnsupported bytes (length read.front + at) feature

-- No section may stand next, and nothing left out is met.
abbrev pub ReadingFails : Type 0
ReadingFails = (bytes : List ℕ) (p : Parts) (sections : List (ℕ × List ℕ)) (rest : List ℕ) → ReadSoFar bytes p sections rest →
    (rest ≡ [] → ⊥) →
    ((section : ℕ × List ℕ) (front more : List ℕ) (q : Parts) → rest ≡ front ++ more → RawSection section front →
    Follows p (without_custom sections) section q → ⊥) →
    ((at : ℕ) (feature : Feature) → StopsSection p (without_custom sections) at feature rest → ⊥) → IsMalformed bytes

-- The header isn't there.
abbrev pub HeaderLacks : Type 0
HeaderLacks = (bytes : List ℕ) → ((rest : List ℕ) → bytes ≡ header ++ rest → ⊥) → IsMalformed bytes
