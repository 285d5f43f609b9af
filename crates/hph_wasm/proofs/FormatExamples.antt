-- The bytes of a module that prints 3, made by hand from the Core Specification 1.0, 5; a block; and sections that are no module's.
use Rattle.std.proofs.Common.{◌≡◌, ℕ, ◌<◌, ◌^◌, List, [], ◌∷◌, ◌++◌, length, map, flat_map, refl, sym, ap, arith, rules, inl, codes, None}
use Rattle.std.specs.Prelude.{pos, All, drop}
use Rattle.std.specs.List.{AllByRecursion}
use Rattle.std.proofs.lemmas.List.{append-nil, length-map}
use Rattle.std.proofs.lemmas.Str.{IsUtf8-from_ascii}
use Rattle.std.proofs.lemmas.Str.Ascii.{IsAscii-from_all}
use Rattle.hph_wasm.specs.Leb128.{Unsigned, shortest_unsigned, shortest_signed}
use Rattle.hph_wasm.specs.Grammar.{Grammar, ◌⊳◌, Each, Vector, Bytes, Named, ValueType, FunctionType, MemoryType}
use Rattle.hph_wasm.specs.InstructionGrammar.{Instruction, Expression}
use Rattle.hph_wasm.specs.ModuleGrammar.{Imported, Exported, Locals, Code, Data, RawSection, BeginsWithName, parts_of, type_of_func, code_of_func, FromTypes, SpellsModule, header}
use Rattle.hph_wasm.specs.Spelling.{spelling}
use Rattle.hph_wasm.specs.declared.types.ValType.TheVariants.{I32}
use Rattle.hph_wasm.specs.declared.instr.Instr.{Call, I32Const}
use Rattle.hph_wasm.specs.declared.types.Limits.{Limits}
use Rattle.hph_wasm.specs.declared.module.Import.{Import}
use Rattle.hph_wasm.specs.declared.module.ImportDesc.TheVariants as import_desc
use Rattle.hph_wasm.specs.declared.module.Func.{Func}
use Rattle.hph_wasm.specs.declared.module.Export.{Export}
use Rattle.hph_wasm.specs.declared.module.ExportDesc.TheVariants as export_desc
use Rattle.hph_wasm.specs.declared.module.Segment.{Segment}
use Rattle.hph_wasm.specs.declared.module.Module.{Module}
use Rattle.hph_wasm.proofs.Leb128Laws.{unsigned_form}

-- what is printed is given by its address and its length
abbrev write : Import
write = record { «module» = codes "php1"; name = codes "write"; desc = import_desc.Func 0 }

-- function 1, since function 0 is `write`
abbrev main : Func
main = record { ty = 1; locals = []; body = I32Const (pos 0) ∷ I32Const (pos 1) ∷ Call 0 ∷ [] }

abbrev main_export : Export
main_export = record { name = codes "main"; desc = export_desc.Func 1 }

abbrev one_page : Limits
one_page = record { min = 1; max = None }

abbrev three : Segment
three = record { memory = 0; offset = I32Const (pos 0) ∷ []; bytes = codes "3" }

abbrev prints_3 : Module
prints_3 = record {
  types = record { params = I32 ∷ I32 ∷ []; results = [] } ∷ record { params = []; results = [] } ∷ [];
  imports = write ∷ [];
  funcs = main ∷ [];
  tables = [];
  memories = one_page ∷ [];
  globals = [];
  exports = main_export ∷ [];
  elements = [];
  segments = three ∷ [];
}

-- the header, and a section on each line
abbrev module_bytes : List ℕ
module_bytes =
    0x00 ∷ 0x61 ∷ 0x73 ∷ 0x6D ∷ 0x01 ∷ 0x00 ∷ 0x00 ∷ 0x00 ∷
    0x01 ∷ 0x09 ∷ 0x02 ∷ 0x60 ∷ 0x02 ∷ 0x7F ∷ 0x7F ∷ 0x00 ∷ 0x60 ∷ 0x00 ∷ 0x00 ∷
    0x02 ∷ 0x0E ∷ 0x01 ∷ 0x04 ∷ 0x70 ∷ 0x68 ∷ 0x70 ∷ 0x31 ∷ 0x05 ∷ 0x77 ∷ 0x72 ∷ 0x69 ∷ 0x74 ∷ 0x65 ∷ 0x00 ∷ 0x00 ∷
    0x03 ∷ 0x02 ∷ 0x01 ∷ 0x01 ∷
    0x05 ∷ 0x03 ∷ 0x01 ∷ 0x00 ∷ 0x01 ∷
    0x07 ∷ 0x08 ∷ 0x01 ∷ 0x04 ∷ 0x6D ∷ 0x61 ∷ 0x69 ∷ 0x6E ∷ 0x00 ∷ 0x01 ∷
    0x0A ∷ 0x0A ∷ 0x01 ∷ 0x08 ∷ 0x00 ∷ 0x41 ∷ 0x00 ∷ 0x41 ∷ 0x01 ∷ 0x10 ∷ 0x00 ∷ 0x0B ∷
    0x0B ∷ 0x07 ∷ 0x01 ∷ 0x00 ∷ 0x41 ∷ 0x00 ∷ 0x0B ∷ 0x01 ∷ 0x33 ∷ []

-- the content of a custom section: its name, `name`, and nothing behind it
abbrev custom_bytes : List ℕ
custom_bytes = 0x04 ∷ 0x6E ∷ 0x61 ∷ 0x6D ∷ 0x65 ∷ []

-- the same bytes with that section behind the header
abbrev with_custom : List ℕ
with_custom = header ++ 0x00 ∷ 0x05 ∷ custom_bytes ++ drop 8 module_bytes

-- the bytes that are written of the module are those
written : spelling prints_3 ≡ module_bytes
unfolding spelling shortest_unsigned shortest_signed
written = refl

-- the content of each section
abbrev types_bytes : List ℕ
types_bytes = 0x02 ∷ 0x60 ∷ 0x02 ∷ 0x7F ∷ 0x7F ∷ 0x00 ∷ 0x60 ∷ 0x00 ∷ 0x00 ∷ []

abbrev imports_bytes : List ℕ
imports_bytes = 0x01 ∷ 0x04 ∷ 0x70 ∷ 0x68 ∷ 0x70 ∷ 0x31 ∷ 0x05 ∷ 0x77 ∷ 0x72 ∷ 0x69 ∷ 0x74 ∷ 0x65 ∷ 0x00 ∷ 0x00 ∷ []

abbrev functions_bytes : List ℕ
functions_bytes = 0x01 ∷ 0x01 ∷ []

abbrev memories_bytes : List ℕ
memories_bytes = 0x01 ∷ 0x00 ∷ 0x01 ∷ []

abbrev exports_bytes : List ℕ
exports_bytes = 0x01 ∷ 0x04 ∷ 0x6D ∷ 0x61 ∷ 0x69 ∷ 0x6E ∷ 0x00 ∷ 0x01 ∷ []

abbrev code_bytes : List ℕ
code_bytes = 0x01 ∷ 0x08 ∷ 0x00 ∷ 0x41 ∷ 0x00 ∷ 0x41 ∷ 0x01 ∷ 0x10 ∷ 0x00 ∷ 0x0B ∷ []

abbrev segments_bytes : List ℕ
segments_bytes = 0x01 ∷ 0x00 ∷ 0x41 ∷ 0x00 ∷ 0x0B ∷ 0x01 ∷ 0x33 ∷ []

-- the sections, each by its number
abbrev sections : List (ℕ × List ℕ)
sections = (1, types_bytes) ∷ (2, imports_bytes) ∷ (3, functions_bytes) ∷ (5, memories_bytes) ∷ (7, exports_bytes) ∷ (10, code_bytes) ∷
    (11, segments_bytes) ∷ []

-- a thing of these bytes, and another behind it
abbrev pub then : {P Q : Grammar} (f g : List ℕ) → P f → Q g → (P ⊳ Q) (f ++ g)
then f g p q = record { front = f; rest = g; split = refl; first = p; second = q }

-- a number below 2^7 is spelled by one byte
pub one_byte : (n : ℕ) → n < 2 ^ 7 → Unsigned 32 n (n ∷ [])
one_byte n low = (low, omega arith, refl)

-- few bytes behind their count
few_bytes : (these : List ℕ) → length these < 2 ^ 7 → Bytes these (length these ∷ these)
few_bytes these few = then (length these ∷ []) these (one_byte (length these) few) refl

-- a short name in ASCII
name : (text : List ℕ) → All (λ b. b < 2 ^ 7) text → length text < 2 ^ 7 → Named text (length text ∷ text)
name text ascii few = (IsUtf8-from_ascii text (IsAscii-from_all text ascii), few_bytes text few)

-- a vector of one thing
pub single : {X : Type 0} (P : X → Grammar) (x : X) (f : List ℕ) → P x f → Vector P (x ∷ []) (0x01 ∷ f)
single P x f p = then (0x01 ∷ []) f (one_byte 1 (omega arith))
    (record { front = f; rest = []; split = sym (append-nil f); first = p; second = refl })

-- the vectors of types in the two function types
no_values : Vector ValueType [] (0x00 ∷ [])
no_values = then (0x00 ∷ []) _ (one_byte 0 (omega arith)) refl

two_values : Vector ValueType (I32 ∷ I32 ∷ []) (0x02 ∷ 0x7F ∷ 0x7F ∷ [])
two_values = then (0x02 ∷ []) _ (one_byte 2 (omega arith)) (then (0x7F ∷ []) _ refl (then (0x7F ∷ []) _ refl refl))

-- each section spells its part of the module
types : Vector FunctionType prints_3.types types_bytes
types = then (0x02 ∷ []) _ (one_byte 2 (omega arith))
    (then (0x60 ∷ 0x02 ∷ 0x7F ∷ 0x7F ∷ 0x00 ∷ []) _ (then (0x60 ∷ []) _ refl (then (0x02 ∷ 0x7F ∷ 0x7F ∷ []) _ two_values no_values))
    (then (0x60 ∷ 0x00 ∷ 0x00 ∷ []) _ (then (0x60 ∷ []) _ refl (then (0x00 ∷ []) _ no_values no_values)) refl))

imports : Vector Imported prints_3.imports imports_bytes
imports = single Imported write _
    (then (0x04 ∷ 0x70 ∷ 0x68 ∷ 0x70 ∷ 0x31 ∷ []) _ (name (codes "php1") (search rules) (omega arith))
    (then (0x05 ∷ 0x77 ∷ 0x72 ∷ 0x69 ∷ 0x74 ∷ 0x65 ∷ []) _ (name (codes "write") (search rules) (omega arith))
    (then (0x00 ∷ []) _ refl (one_byte 0 (omega arith)))))

functions : Vector (Unsigned 32) (map type_of_func prints_3.funcs) functions_bytes
functions = single (Unsigned 32) 1 _ (one_byte 1 (omega arith))

memories : Vector MemoryType prints_3.memories memories_bytes
memories = single MemoryType one_page _ (then (0x00 ∷ []) _ refl (one_byte 1 (omega arith)))

exports : Vector Exported prints_3.exports exports_bytes
exports = single Exported main_export _
    (then (0x04 ∷ 0x6D ∷ 0x61 ∷ 0x69 ∷ 0x6E ∷ []) _ (name (codes "main") (search rules) (omega arith))
    (then (0x00 ∷ []) _ refl (one_byte 1 (omega arith))))

-- a constant from 0 to 63 is spelled by one byte
pub constant : (n : ℕ) → n < 2 ^ 6 → Instruction (I32Const (pos n)) (0x41 ∷ n ∷ [])
constant n low = then (0x41 ∷ []) _ refl (inl (low, omega arith, refl))

-- the body of `main`
body : Expression (I32Const (pos 0) ∷ I32Const (pos 1) ∷ Call 0 ∷ []) (0x41 ∷ 0x00 ∷ 0x41 ∷ 0x01 ∷ 0x10 ∷ 0x00 ∷ 0x0B ∷ [])
body = then (0x41 ∷ 0x00 ∷ 0x41 ∷ 0x01 ∷ 0x10 ∷ 0x00 ∷ []) _
    (then (0x41 ∷ 0x00 ∷ []) _ (constant 0 (omega arith))
    (then (0x41 ∷ 0x01 ∷ []) _ (constant 1 (omega arith))
    (then (0x10 ∷ 0x00 ∷ []) _ (then (0x10 ∷ []) _ refl (one_byte 0 (omega arith))) refl))) refl

-- no runs make no locals
no_locals : Locals [] (0x00 ∷ [])
no_locals = record { runs = []; made = refl; few = omega arith; spelled = then (0x00 ∷ []) _ (one_byte 0 (omega arith)) refl }

code : Vector Code (map code_of_func prints_3.funcs) code_bytes
code = single Code (code_of_func main) _ (record
    { size = 0x08 ∷ []; body = _; split = refl; counted = one_byte 8 (omega arith); inside = then (0x00 ∷ []) _ no_locals body })

segments : Vector Data prints_3.segments segments_bytes
segments = single Data three _
    (then (0x00 ∷ []) _ (one_byte 0 (omega arith))
    (then (0x41 ∷ 0x00 ∷ 0x0B ∷ []) _ (then (0x41 ∷ 0x00 ∷ []) _ (then (0x41 ∷ 0x00 ∷ []) _ (constant 0 (omega arith)) refl) refl)
    (few_bytes (codes "3") (omega arith))))

-- the sections, from the types on, spell the module
inside : FromTypes (parts_of prints_3) sections
inside = (types, (imports, (functions, (refl, (memories, (refl, (exports, (refl, (code, (segments, refl))))))))))

-- a section with its number and its size
abbrev section_bytes : ℕ × List ℕ → List ℕ
section_bytes section = section.0 ∷ length section.1 ∷ section.1

-- short sections stand in the bytes that are made of them so
sections_stand : (sections : List (ℕ × List ℕ)) → AllByRecursion (λ section. length section.1 < 2 ^ 7) sections →
    Each RawSection sections (flat_map section_bytes sections)
sections_stand [] few = refl
sections_stand (section ∷ sections) few =
    then (section_bytes section) _ (then (section.0 ∷ []) _ refl (few_bytes section.1 few.0)) (sections_stand sections few.1)

-- each of the module's sections has a number above 0
none_is_custom : AllByRecursion (λ section. section.0 ≡ 0 → BeginsWithName section.1) sections
none_is_custom = search rules

-- the bytes spell the module
spelled : SpellsModule module_bytes prints_3
spelled = then header _ refl (record {
  sections = sections;
  stand = sections_stand sections (search rules);
  named =
      none_is_custom;
  inside = inside;
})

-- and so they do with a custom section among them
spelled_with_custom : SpellsModule with_custom prints_3
spelled_with_custom = then header _ refl (record {
  sections = (0, custom_bytes) ∷ sections;
  stand = sections_stand ((0, custom_bytes) ∷ sections) (search rules);
  named = (λ _. (codes "name", [], then custom_bytes [] (name (codes "name") (search rules) (omega arith)) refl), none_is_custom);
  inside = inside;
})

-- sections in another order spell no module
imports_before_types : (m : Module) (first second : List ℕ) → FromTypes (parts_of m) ((2, first) ∷ (1, second) ∷ []) → ⊥
imports_before_types m first second p = let more : ◌≡◌ {A = List (ℕ × List ℕ)} ((1, second) ∷ []) [] = p.1.1.1.1.1.1.1.1.1.1 in cc

-- nor does code with no function (5.5.15: as many of the one as of the other)
code_with_no_function : (m : Module) → FromTypes (parts_of m) ((10, code_bytes) ∷ []) → ⊥
code_with_no_function m p =
    let functions : map type_of_func m.funcs ≡ [] = p.1.1.0 in
    let code = p.1.1.1.1.1.1.1.1.0 in
    let count = length (map code_of_func m.funcs) in
    let a = (unsigned_form 32).alike count 1 code.front (0x01 ∷ []) code.rest _ code.first (one_byte 1 (omega arith)) (sym code.split) in
    omega (arith, a.thing, ap length functions, length-map m.funcs type_of_func, length-map m.funcs code_of_func)
