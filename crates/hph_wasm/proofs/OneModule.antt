-- Bytes spell at most one module.
use Rattle.std.proofs.Common.{◌≡◌, ◌∙◌, ℕ, List, [], ◌∷◌, ◌++◌, map, refl, sym, ap, subst, true, false}
use Rattle.std.specs.Prelude.{nat_eq, MatchBool}
use Rattle.hph_wasm.specs.Grammar.{Grammar, Each, Vector}
use Rattle.hph_wasm.specs.ModuleGrammar.{RawSection, without_custom, Section, Parts, parts_of, type_of_func, code_of_func, NoSections, FromData, FromCode, FromElements, FromExports, FromGlobals, FromMemories, FromTables, FromFunctions, FromImports, FromTypes, header, SpellsModule}
use Rattle.hph_wasm.specs.declared.module.Func.{Func}
use Rattle.hph_wasm.specs.declared.module.Module.{Module}
use Rattle.hph_wasm.proofs.OneForm.{OneForm, one_thing, append-cancel, byte_form, pair_form, BeginsWith, BeginsWith-first}
use Rattle.hph_wasm.proofs.Leb128Laws.{unsigned_form}
use Rattle.hph_wasm.proofs.CountedForms.{vector_form, bytes_form}
use Rattle.hph_wasm.proofs.OneSection.{function_type_form, table_type_form, memory_type_form, import_form, global_form, export_form, element_form, code_form, data_form}

-- a section as it stands
pub raw_section_form : OneForm RawSection
raw_section_form = pair_form byte_form bytes_form

-- no bytes are no section
not_empty : (section : ℕ × List ℕ) (sections : List (ℕ × List ℕ)) (f : List ℕ) → Each RawSection (section ∷ sections) f → f ≡ [] → ⊥
not_empty section sections f p e =
    let begins : BeginsWith section.0 f = BeginsWith-first section.0 f p (BeginsWith-first section.0 p.front p.first ([], p.first.first)) in
    let flat : section.0 ∷ begins.0 ≡ [] = sym begins.1 ∙ e in cc

-- the sections that stand in bytes are determined by them
raw_sections_same : (xs ys : List (ℕ × List ℕ)) (f g : List ℕ) → Each RawSection xs f → Each RawSection ys g → f ≡ g → xs ≡ ys
raw_sections_same [] [] f g p q e = refl
raw_sections_same [] (y ∷ ys) f g p q e = absurd (not_empty y ys g q (sym e ∙ p))
raw_sections_same (x ∷ xs) [] f g p q e = absurd (not_empty x xs f p (e ∙ q))
raw_sections_same (x ∷ xs) (y ∷ ys) f g p q e =
    let a = raw_section_form.alike x y p.front q.front p.rest q.rest p.first q.first (sym p.split ∙ e ∙ q.split) in
    let more = raw_sections_same xs ys p.rest q.rest p.second q.second a.behind in
    λ i. a.thing i ∷ more i

-- two readings of the sections from one on agree on that one, and both go on at the same sections
record Agree {X : Type 0} (xs ys : List X) (next next' : List (ℕ × List ℕ) → Type 0) : Type 0 where
  pub things : xs ≡ ys
  pub sections : List (ℕ × List ℕ)
  pub goes_on : next sections
  pub goes_on' : next' sections

-- two readings agree on a section, whether it is there or not
section_agrees : {X : Type 0} {P : X → Grammar} (id : ℕ) (form : OneForm P) (xs ys : List X) (next next' : List (ℕ × List ℕ) → Type 0)
    (sections : List (ℕ × List ℕ)) →
    Section id P xs next sections → Section id P ys next' sections → Agree xs ys next next'
section_agrees id form xs ys next next' [] p q = record { things = p.0 ∙ sym q.0; sections = []; goes_on = p.1; goes_on' = q.1 }
section_agrees {X} {P} id form xs ys next next' (section ∷ sections) p q = elim (nat_eq section.0 id) as (λ b.
    MatchBool b (Vector P xs section.1 × next sections) ((xs ≡ []) × next (section ∷ sections)) →
    MatchBool b (Vector P ys section.1 × next' sections) ((ys ≡ []) × next' (section ∷ sections)) → Agree xs ys next next') [
      | true ↦ λ p q. record {
        things = one_thing (vector_form form) xs ys section.1 p.0 q.0;
        sections = sections;
        goes_on =
            p.1;
        goes_on' = q.1;
      }
      | false ↦ λ p q. record { things = p.0 ∙ sym q.0; sections = section ∷ sections; goes_on = p.1; goes_on' = q.1 }
    ] p q

-- functions are determined by their types and their code
funcs_same : (xs ys : List Func) → map type_of_func xs ≡ map type_of_func ys → map code_of_func xs ≡ map code_of_func ys → xs ≡ ys
funcs_same [] [] types codes = refl
funcs_same [] (y ∷ ys) types codes = cc
funcs_same (x ∷ xs) [] types codes = cc
funcs_same (x ∷ xs) (y ∷ ys) types codes =
    let type_indices : x.ty ≡ y.ty = cc in
    let code : code_of_func x ≡ code_of_func y = cc in
    let more_types : map type_of_func xs ≡ map type_of_func ys = cc in
    let more_codes : map code_of_func xs ≡ map code_of_func ys = cc in
    let more = funcs_same xs ys more_types more_codes in
    λ i. record { ty = type_indices i; locals = (code i).0; body = (code i).1 } ∷ more i

-- the sections that aren't custom are those of the same parts
pub parts_same : (m n : Parts) (sections : List (ℕ × List ℕ)) → FromTypes m sections → FromTypes n sections → m ≡ n
parts_same m n sections p q =
    let types = section_agrees 1 function_type_form m.types n.types (FromImports m) (FromImports n) sections p q in
    let imports = section_agrees 2 import_form m.imports n.imports (FromFunctions m) (FromFunctions n) types.sections types.goes_on
    types.goes_on' in
    let functions = section_agrees 3 (unsigned_form 32) m.functions n.functions (FromTables m) (FromTables n) imports.sections
    imports.goes_on imports.goes_on' in
    let tables = section_agrees 4 table_type_form m.tables n.tables (FromMemories m) (FromMemories n) functions.sections functions.goes_on
    functions.goes_on' in
    let memories = section_agrees 5 memory_type_form m.memories n.memories (FromGlobals m) (FromGlobals n) tables.sections tables.goes_on
    tables.goes_on' in
    let globals = section_agrees 6 global_form m.globals n.globals (FromExports m) (FromExports n) memories.sections memories.goes_on
    memories.goes_on' in
    let exports = section_agrees 7 export_form m.exports n.exports (FromElements m) (FromElements n) globals.sections globals.goes_on
    globals.goes_on' in
    let elements = section_agrees 9 element_form m.elements n.elements (FromCode m) (FromCode n) exports.sections exports.goes_on
    exports.goes_on' in
    let codes = section_agrees 10 code_form m.codes n.codes (FromData m) (FromData n) elements.sections elements.goes_on
    elements.goes_on' in
    let segments = section_agrees 11 data_form m.segments n.segments NoSections NoSections codes.sections codes.goes_on codes.goes_on' in
    λ i. record {
      types = types.things i;
      imports = imports.things i;
      functions = functions.things i;
      tables = tables.things i;
      memories = memories.things i;
      globals = globals.things i;
      exports = exports.things i;
      elements = elements.things i;
      codes = codes.things i;
      segments = segments.things i;
    }

-- a module is determined by its parts
parts_of-determines : (m n : Module) → parts_of m ≡ parts_of n → m ≡ n
parts_of-determines m n e =
    let funcs = funcs_same m.funcs n.funcs (ap (λ (p : Parts). p.functions) e) (ap (λ (p : Parts). p.codes) e) in
    λ i. record {
      types = (e i).types;
      imports = (e i).imports;
      funcs = funcs i;
      tables = (e i).tables;
      memories = (e i).memories;
      globals = (e i).globals;
      exports = (e i).exports;
      elements = (e i).elements;
      segments = (e i).segments;
    }

-- bytes spell at most one module
pub one_module : (bytes : List ℕ) (m n : Module) → SpellsModule bytes m → SpellsModule bytes n → m ≡ n
one_module bytes m n p q =
    let contents : p.rest ≡ q.rest = append-cancel header p.rest q.rest
    (sym (p.split ∙ ap (λ l. l ++ p.rest) p.first) ∙ q.split ∙ ap (λ l. l ++ q.rest) q.first) in
    let sections = raw_sections_same p.second.sections q.second.sections p.rest q.rest p.second.stand q.second.stand contents in
    parts_of-determines m n (parts_same (parts_of m) (parts_of n) (without_custom q.second.sections)
    (subst (λ sections. FromTypes (parts_of m) (without_custom sections)) sections p.second.inside) q.second.inside)
