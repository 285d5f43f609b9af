-- A section that stands among those of a module spells its part.
use Rattle.std.proofs.Common.{◌≡◌, ◌<◌, ◌∙◌, ◌⊎◌, inl, inr, ℕ, List, [], ◌∷◌, refl, sym, ap, subst, arith, true, false}
use Rattle.std.specs.Prelude.{nat_eq, MatchBool}
use Rattle.std.specs.List.{AllByRecursion}
use Rattle.hph_wasm.specs.Leb128.{Unsigned}
use Rattle.hph_wasm.specs.Grammar.{Grammar, Vector, FunctionType, MemoryType, TableType}
use Rattle.hph_wasm.specs.ModuleGrammar.{Imported, GlobalWithValue, Exported, Elements, Code, Data, Parts, Section, NoSections, FromData, FromCode, FromElements, FromExports, FromGlobals, FromMemories, FromTables, FromFunctions, FromImports, FromTypes}
use Rattle.hph_wasm.specs.Unsupported.{Kind, Types, Imports, Functions, Tables, Memories, Globals, Exports, ElementSegments, Codes, DataSegments, number_of}

-- a section among others
abbrev pub Member : ℕ × List ℕ → List (ℕ × List ℕ) → Type 0
Member y [] = ⊥
Member y (x ∷ xs) = (x ≡ y) ⊎ Member y xs

-- the numbers of these sections are above this one
abbrev pub AllAbove : ℕ → List (ℕ × List ℕ) → Type 0
AllAbove id sections = AllByRecursion (λ section. id < section.0) sections

-- so is that of each
pub member_above : (id : ℕ) (y : ℕ × List ℕ) (sections : List (ℕ × List ℕ)) → AllAbove id sections → Member y sections → id < y.0
member_above id y [] all m = absurd m
member_above id y (x ∷ xs) all (inl same) = subst (λ (section : ℕ × List ℕ). id < section.0) same all.0
member_above id y (x ∷ xs) all (inr m) = member_above id y xs all.1 m

-- numbers above one are above a lower one
above_lower : (lower id : ℕ) (sections : List (ℕ × List ℕ)) → lower < id → AllAbove id sections → AllAbove lower sections
above_lower lower id [] less all = tt
above_lower lower id (x ∷ xs) less all = (omega (arith, all.0), above_lower lower id xs less all.1)

-- sections from a kind on have its number or higher ones
pub section_above : {X : Type 0} (lower id : ℕ) (P : X → Grammar) (xs : List X) (next : List (ℕ × List ℕ) → Type 0)
    (sections : List (ℕ × List ℕ)) → lower < id →
    ((sections : List (ℕ × List ℕ)) → next sections → AllAbove id sections) → Section id P xs next sections → AllAbove lower sections
section_above lower id P xs next [] less above p = tt
section_above {X} lower id P xs next (section ∷ sections) less above p = elim (nat_eq section.0 id) as (λ b. nat_eq section.0 id ≡ b →
    MatchBool b (Vector P xs section.1 × next sections) ((xs ≡ []) × next (section ∷ sections)) → AllAbove lower (section ∷ sections)) [
      | true ↦ λ same p. (grind arith, above_lower lower id sections less (above sections p.1))
      | false ↦ λ _ p. above_lower lower id (section ∷ sections) less (above (section ∷ sections) p.1)
    ] refl p

-- the section with a kind's number spells its part
here : {X : Type 0} (id : ℕ) (P : X → Grammar) (xs : List X) (next : List (ℕ × List ℕ) → Type 0) (sections : List (ℕ × List ℕ))
    (y : ℕ × List ℕ) →
    ((sections : List (ℕ × List ℕ)) → next sections → AllAbove id sections) → Section id P xs next sections → Member y sections → y.0 ≡
    id → Vector P xs y.1
here id P xs next [] y above p m e = absurd m
here {X} id P xs next (section ∷ sections) y above p m e = elim (nat_eq section.0 id) as (λ b.
    MatchBool b (Vector P xs section.1 × next sections) ((xs ≡ []) × next (section ∷ sections)) → Vector P xs y.1) [
      | true ↦ λ p. first p.0 p.1 m
      | false ↦ λ p. absurd (none (section ∷ sections) p.1 m)
    ] p
  where
    none : (sections : List (ℕ × List ℕ)) → next sections → Member y sections → ⊥
    none sections p m = omega (arith, member_above id y sections (above sections p) m, e)

    first : Vector P xs section.1 → next sections → (section ≡ y) ⊎ Member y sections → Vector P xs y.1
    first p more (inl same) = subst (λ (section : ℕ × List ℕ). Vector P xs section.1) same p
    first p more (inr m) = absurd (none sections more m)

-- a section among those from a kind on
pub record After (next : List (ℕ × List ℕ) → Type 0) (y : ℕ × List ℕ) : Type 0 where
  pub sections : List (ℕ × List ℕ)
  pub stand : next sections
  pub member : Member y sections

-- one of another number is among those behind
later : {X : Type 0} (id : ℕ) (P : X → Grammar) (xs : List X) (next : List (ℕ × List ℕ) → Type 0) (y : ℕ × List ℕ) (n : ℕ) → y.0 ≡ n →
    (n ≡ id → ⊥) → After (Section id P xs next) y → After next y
later {X} id P xs next y n e differs after = go after.sections after.stand after.member
  where
    go : (sections : List (ℕ × List ℕ)) → Section id P xs next sections → Member y sections → After next y
    go [] p m = absurd m
    go (section ∷ sections) p m = elim (nat_eq section.0 id) as (λ b. nat_eq section.0 id ≡ b →
        MatchBool b (Vector P xs section.1 × next sections) ((xs ≡ []) × next (section ∷ sections)) → After next y) [
          | true ↦ λ same p. record { sections = sections; stand = p.1; member = behind same m }
          | false ↦ λ _ p. record { sections = section ∷ sections; stand = p.1; member = m }
        ] refl p
      where
        behind : nat_eq section.0 id ≡ true → (section ≡ y) ⊎ Member y sections → Member y sections
        behind same (inl is) = absurd (differs (sym e ∙ sym (ap (λ (section : ℕ × List ℕ). section.0) is) ∙ grind arith))
        behind same (inr m) = m

-- the numbers from each kind on
pub above_none : (sections : List (ℕ × List ℕ)) → NoSections sections → AllAbove 11 sections
above_none sections p = subst (AllAbove 11) (sym p) tt

module _ (p : Parts) where
  pub above_data : (sections : List (ℕ × List ℕ)) → FromData p sections → AllAbove 10 sections
  above_data sections = section_above 10 11 Data p.segments NoSections sections (omega arith) above_none

  pub above_code : (sections : List (ℕ × List ℕ)) → FromCode p sections → AllAbove 9 sections
  above_code sections = section_above 9 10 Code p.codes (FromData p) sections (omega arith) above_data

  pub above_elements : (sections : List (ℕ × List ℕ)) → FromElements p sections → AllAbove 7 sections
  above_elements sections = section_above 7 9 Elements p.elements (FromCode p) sections (omega arith) above_code

  pub above_exports : (sections : List (ℕ × List ℕ)) → FromExports p sections → AllAbove 6 sections
  above_exports sections = section_above 6 7 Exported p.exports (FromElements p) sections (omega arith) above_elements

  pub above_globals : (sections : List (ℕ × List ℕ)) → FromGlobals p sections → AllAbove 5 sections
  above_globals sections = section_above 5 6 GlobalWithValue p.globals (FromExports p) sections (omega arith) above_exports

  pub above_memories : (sections : List (ℕ × List ℕ)) → FromMemories p sections → AllAbove 4 sections
  above_memories sections = section_above 4 5 MemoryType p.memories (FromGlobals p) sections (omega arith) above_globals

  pub above_tables : (sections : List (ℕ × List ℕ)) → FromTables p sections → AllAbove 3 sections
  above_tables sections = section_above 3 4 TableType p.tables (FromMemories p) sections (omega arith) above_memories

  pub above_functions : (sections : List (ℕ × List ℕ)) → FromFunctions p sections → AllAbove 2 sections
  above_functions sections = section_above 2 3 (Unsigned 32) p.functions (FromTables p) sections (omega arith) above_tables

  pub above_imports : (sections : List (ℕ × List ℕ)) → FromImports p sections → AllAbove 1 sections
  above_imports sections = section_above 1 2 Imported p.imports (FromFunctions p) sections (omega arith) above_functions

  pub above_types : (sections : List (ℕ × List ℕ)) → FromTypes p sections → AllAbove 0 sections
  above_types sections = section_above 0 1 FunctionType p.types (FromImports p) sections (omega arith) above_imports

  -- a section with this number, behind those before its kind
  module _ (y : ℕ × List ℕ) (n : ℕ) (is : y.0 ≡ n) where
    to_imports : (n ≡ 1 → ⊥) → After (FromTypes p) y → After (FromImports p) y
    to_imports = later 1 FunctionType p.types (FromImports p) y n is

    to_functions : 2 < n → After (FromTypes p) y → After (FromFunctions p) y
    to_functions more after = later 2 Imported p.imports (FromFunctions p) y n is (λ e. omega arith) (to_imports (λ e. omega arith) after)

    to_tables : 3 < n → After (FromTypes p) y → After (FromTables p) y
    to_tables more after = later 3 (Unsigned 32) p.functions (FromTables p) y n is (λ e. omega arith) (to_functions (omega arith) after)

    to_memories : 4 < n → After (FromTypes p) y → After (FromMemories p) y
    to_memories more after = later 4 TableType p.tables (FromMemories p) y n is (λ e. omega arith) (to_tables (omega arith) after)

    to_globals : 5 < n → After (FromTypes p) y → After (FromGlobals p) y
    to_globals more after = later 5 MemoryType p.memories (FromGlobals p) y n is (λ e. omega arith) (to_memories (omega arith) after)

    to_exports : 6 < n → After (FromTypes p) y → After (FromExports p) y
    to_exports more after = later 6 GlobalWithValue p.globals (FromExports p) y n is (λ e. omega arith) (to_globals (omega arith) after)

    to_elements : 7 < n → After (FromTypes p) y → After (FromElements p) y
    to_elements more after = later 7 Exported p.exports (FromElements p) y n is (λ e. omega arith) (to_exports (omega arith) after)

    to_code : 9 < n → After (FromTypes p) y → After (FromCode p) y
    to_code more after = later 9 Elements p.elements (FromCode p) y n is (λ e. omega arith) (to_elements (omega arith) after)

    to_data : 10 < n → After (FromTypes p) y → After (FromData p) y
    to_data more after = later 10 Code p.codes (FromData p) y n is (λ e. omega arith) (to_code (omega arith) after)

  -- no section of these has the number of a start section
  pub no_start : (y : ℕ × List ℕ) → After (FromTypes p) y → y.0 ≡ 8 → ⊥
  no_start y after e =
      let elements = to_elements y 8 e (omega arith) after in
      let code = later 9 Elements p.elements (FromCode p) y 8 e (λ e. omega arith) elements in
      omega (arith, member_above 9 y code.sections (above_code code.sections code.stand) code.member)

  -- what the section of a kind spells
  abbrev pub Content : Kind → List ℕ → Type 0
  Content Types = Vector FunctionType p.types
  Content Imports = Vector Imported p.imports
  Content Functions = Vector (Unsigned 32) p.functions
  Content Tables = Vector TableType p.tables
  Content Memories = Vector MemoryType p.memories
  Content Globals = Vector GlobalWithValue p.globals
  Content Exports = Vector Exported p.exports
  Content ElementSegments = Vector Elements p.elements
  Content Codes = Vector Code p.codes
  Content DataSegments = Vector Data p.segments

  pub content_of : (kind : Kind) (y : ℕ × List ℕ) → After (FromTypes p) y → y.0 ≡ number_of kind → Content kind y.1
  content_of Types y after e = here 1 FunctionType p.types (FromImports p) after.sections y above_imports after.stand after.member e
  content_of Imports y after e = let at = to_imports y 2 e (λ e. omega arith) after in
      here 2 Imported p.imports (FromFunctions p) at.sections y above_functions at.stand at.member e
  content_of Functions y after e = let at = to_functions y 3 e (omega arith) after in
      here 3 (Unsigned 32) p.functions (FromTables p) at.sections y above_tables at.stand at.member e
  content_of Tables y after e = let at = to_tables y 4 e (omega arith) after in
      here 4 TableType p.tables (FromMemories p) at.sections y above_memories at.stand at.member e
  content_of Memories y after e = let at = to_memories y 5 e (omega arith) after in
      here 5 MemoryType p.memories (FromGlobals p) at.sections y above_globals at.stand at.member e
  content_of Globals y after e = let at = to_globals y 6 e (omega arith) after in
      here 6 GlobalWithValue p.globals (FromExports p) at.sections y above_exports at.stand at.member e
  content_of Exports y after e = let at = to_exports y 7 e (omega arith) after in
      here 7 Exported p.exports (FromElements p) at.sections y above_elements at.stand at.member e
  content_of ElementSegments y after e = let at = to_elements y 9 e (omega arith) after in
      here 9 Elements p.elements (FromCode p) at.sections y above_code at.stand at.member e
  content_of Codes y after e = let at = to_code y 10 e (omega arith) after in
      here 10 Code p.codes (FromData p) at.sections y above_data at.stand at.member e
  content_of DataSegments y after e = let at = to_data y 11 e (omega arith) after in
      here 11 Data p.segments NoSections at.sections y above_none at.stand at.member e
