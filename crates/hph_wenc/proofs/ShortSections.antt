-- The sections of a module that can be written are short.
use Rattle.std.proofs.Common.{◌≡◌, ◌<◌, ◌^◌, ℕ, List, [], ◌∷◌, ◌++◌, length, map, flat_map, arith, refl, ap, ◌∙◌, length-append, append_assoc}
use Rattle.std.proofs.lemmas.List.{length-map}
use Rattle.std.proofs.lemmas.List.Folds.{flat_map-map}
use Rattle.hph_wasm.specs.ModuleGrammar.{header}
use Rattle.hph_wasm.specs.Leb128.{u32_bytes}
use Rattle.hph_wasm.specs.Spelling.{counted_bytes, vector_bytes, section_bytes, func_type_bytes, import_bytes, type_index_bytes, table_type_bytes, limits_bytes, global_bytes, export_bytes, element_bytes, code_bytes, segment_bytes, spelling}
use Rattle.hph_wasm.specs.declared.module.Module.{Module}
use Rattle.hph_wasm.specs.declared.module.Func.{Func}
use Rattle.hph_wenc.proofs.Vectors.{front_short, rest_short, length-le-vector_bytes}
use Rattle.hph_wenc.proofs.Nonempty.{some-u32_bytes, some-counted_bytes, some-func_type_bytes, some-import_bytes, some-table_type_bytes, some-limits_bytes, some-global_bytes, some-export_bytes, some-element_bytes, some-segment_bytes}
use Rattle.hph_wenc.specs.Code.{content_of}

-- a section of things that are made of others
pub section_bytes-map : {X Y : Type 0} (id : ℕ) (f : Y → List ℕ) (g : X → Y) (xs : List X) → section_bytes id f (map g xs) ≡ section_bytes id (λ x. f (g x)) xs
section_bytes-map id f g [] = refl
section_bytes-map id f g (x ∷ xs) = ap (λ bytes. id ∷ counted_bytes bytes)
    (ap (λ n. u32_bytes n ++ flat_map f (map g (x ∷ xs))) (length-map (x ∷ xs) g) ∙ ap (λ bytes. u32_bytes (length (x ∷ xs)) ++ bytes) (flat_map-map f g (x ∷ xs)))

-- few things, and a short section of them
pub record IsShort {X : Type 0} (id : ℕ) (f : X → List ℕ) (xs : List X) : Type 0 where
  pub few : length xs < 2 ^ 32
  pub short : length (section_bytes id f xs) < 2 ^ 32

-- a short section has few things, where each has a byte
few_things : {X : Type 0} (id : ℕ) (f : X → List ℕ) (xs : List X) → ((x : X) → 0 < length (f x)) → length (section_bytes id f xs) < 2 ^ 32 → IsShort id f xs
few_things id f [] some short = record { few = omega arith; short = short }
few_things id f (x ∷ xs) some short =
    let content = vector_bytes f (x ∷ xs) in
    record { few = omega (arith, length-le-vector_bytes f (x ∷ xs) some, length-append (u32_bytes (length content)) content); short = short }

-- each section is short
pub record HasShortSections (m : Module) : Type 0 where
  pub types : IsShort 1 func_type_bytes m.types
  pub imports : IsShort 2 import_bytes m.imports
  pub functions : IsShort 3 type_index_bytes m.funcs
  pub tables : IsShort 4 table_type_bytes m.tables
  pub memories : IsShort 5 limits_bytes m.memories
  pub globals : IsShort 6 global_bytes m.globals
  pub exports : IsShort 7 export_bytes m.exports
  pub elements : IsShort 9 element_bytes m.elements
  pub codes : IsShort 10 code_bytes m.funcs
  pub segments : IsShort 11 segment_bytes m.segments

-- no section is longer than the module
pub sections_short : (m : Module) → length (spelling m) < 2 ^ 32 → HasShortSections m
unfolding spelling
sections_short m short =
    let from_types = rest_short header _ short in
    let from_imports = rest_short (section_bytes 1 func_type_bytes m.types) _ from_types in
    let from_functions = rest_short (section_bytes 2 import_bytes m.imports) _ from_imports in
    let from_tables = rest_short (section_bytes 3 type_index_bytes m.funcs) _ from_functions in
    let from_memories = rest_short (section_bytes 4 table_type_bytes m.tables) _ from_tables in
    let from_globals = rest_short (section_bytes 5 limits_bytes m.memories) _ from_memories in
    let from_exports = rest_short (section_bytes 6 global_bytes m.globals) _ from_globals in
    let from_elements = rest_short (section_bytes 7 export_bytes m.exports) _ from_exports in
    let from_codes = rest_short (section_bytes 9 element_bytes m.elements) _ from_elements in
    let from_segments = rest_short (section_bytes 10 code_bytes m.funcs) _ from_codes in
    record {
      types = few_things 1 func_type_bytes m.types some-func_type_bytes (front_short _ _ from_types);
      imports = few_things 2 import_bytes m.imports some-import_bytes (front_short _ _ from_imports);
      functions = few_things 3 type_index_bytes m.funcs (λ f. some-u32_bytes f.ty) (front_short _ _ from_functions);
      tables = few_things 4 table_type_bytes m.tables some-table_type_bytes (front_short _ _ from_tables);
      memories = few_things 5 limits_bytes m.memories some-limits_bytes (front_short _ _ from_memories);
      globals = few_things 6 global_bytes m.globals some-global_bytes (front_short _ _ from_globals);
      exports = few_things 7 export_bytes m.exports some-export_bytes (front_short _ _ from_exports);
      elements = few_things 9 element_bytes m.elements some-element_bytes (front_short _ _ from_elements);
      codes = few_things 10 code_bytes m.funcs (λ f. some-counted_bytes (content_of f)) (front_short _ _ from_codes);
      segments = few_things 11 segment_bytes m.segments some-segment_bytes from_segments;
    }

-- the codes of a short section are short
pub codes_short : (funcs : List Func) → length (section_bytes 10 code_bytes funcs) < 2 ^ 32 → length (flat_map code_bytes funcs) < 2 ^ 32
codes_short [] short = omega arith
codes_short (f ∷ funcs) short =
    let content = vector_bytes code_bytes (f ∷ funcs) in
    omega (arith, length-append (u32_bytes (length content)) content, length-append (u32_bytes (length (f ∷ funcs))) (flat_map code_bytes (f ∷ funcs)))

-- a module is its header, and the sections in turn
pub spelling-sections : (m : Module) → (((((((((header ++ section_bytes 1 func_type_bytes m.types) ++ section_bytes 2 import_bytes m.imports) ++ section_bytes 3 type_index_bytes m.funcs)
    ++ section_bytes 4 table_type_bytes m.tables) ++ section_bytes 5 limits_bytes m.memories) ++ section_bytes 6 global_bytes m.globals) ++ section_bytes 7 export_bytes m.exports)
    ++ section_bytes 9 element_bytes m.elements) ++ section_bytes 10 code_bytes m.funcs) ++ section_bytes 11 segment_bytes m.segments ≡ spelling m
unfolding spelling
spelling-sections m = simp append_assoc
