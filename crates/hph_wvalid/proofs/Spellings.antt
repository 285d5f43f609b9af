-- A module has fewer functions, and each body fewer opcodes, than any spelling of the module has bytes.
use Rattle.std.proofs.Common.{◌≡◌, ◌≤◌, ◌<◌, ◌^◌, ℕ, zero, suc, ◌+◌, List, [], ◌∷◌, ◌++◌, map, length, length-append, Some, Bool, true, false, refl, sym, ap, subst, arith}
use Rattle.std.specs.Prelude.{slice_get, nat_eq, MatchBool, if◌then◌else◌}
use Rattle.std.specs.List.{AllByRecursion}
use Rattle.std.proofs.lemmas.List.{length-map}
use Rattle.hph_wasm.specs.declared.instr.Instr.{Instr, Unreachable, Nop, Block', Loop', If', Br, BrIf, BrTable, Return, Call, CallIndirect, Drop, Select, LocalGet, LocalSet, LocalTee, GlobalGet, GlobalSet, Load, LoadNarrow, StoreNarrow, I32Const, I64Const, Eqz, Compare, Unary, Binary, Wrap, Extend, Row_of-Instr, end_of-Instr, more_of-Instr, Held-Instr-If-2, None', Some'}
use Rattle.hph_wasm.specs.declared.instr.Instr as instr
use Rattle.hph_wasm.specs.declared.types.ValType.{ValType}
use Rattle.hph_wasm.specs.declared.module.ImportDesc.{ImportDesc}
use Rattle.hph_wasm.specs.declared.module.ImportDesc.TheVariants as import_desc
use Rattle.hph_wasm.specs.declared.module.Import.{Import}
use Rattle.hph_wasm.specs.declared.module.Func.{Func}
use Rattle.hph_wasm.specs.declared.module.Module.{Module}
use Rattle.hph_wasm.specs.Functions.{Function, Defined, imported_functions, with_import, functions, type_number}
use Rattle.hph_wasm.specs.Rows.{size, row_size, else_size, list_size}
use Rattle.hph_wasm.specs.Leb128.{Unsigned}
use Rattle.hph_wasm.specs.Grammar.{Grammar, Byte, ◌⊳◌, Each, Vector, FunctionType, MemoryType, TableType}
use Rattle.hph_wasm.specs.InstructionGrammar.{Instruction, Instructions, Otherwise, Expression}
use Rattle.hph_wasm.specs.ModuleGrammar.{ImportedThing, Imported, GlobalWithValue, Exported, Elements, Code, RawSection, without_custom, Section, Parts, FromData, FromCode, FromElements, FromExports, FromGlobals, FromMemories, FromTables, FromFunctions, FromImports, type_of_func, code_of_func, parts_of, SpellsModule, IsShort}

-- Of two parts the whole has the bytes of both.
halves : {P Q : Grammar} (bytes : List ℕ) (two : (P ⊳ Q) bytes) → length bytes ≡ length two.front + length two.rest
halves bytes two = let e = length-append two.front two.rest in let whole : length bytes ≡ length (two.front ++ two.rest) = ap length two.split in omega (arith, e, whole)

-- What begins with a byte has one.
one_byte : {Q : Grammar} (b : ℕ) (bytes : List ℕ) → (Byte b ⊳ Q) bytes → 1 ≤ length bytes
one_byte b bytes two = let both = halves bytes two in let one : length two.front ≡ 1 = ap length two.first in omega (arith, both, one)

mutual
  -- Each opcode is a byte.
  instr_long : (i : Instr) (bytes : List ℕ) → Instruction i bytes → size i ≤ length bytes
  instr_long (Block' ty shape body) bytes s =
      let inside = row_long body s.second.second.front s.second.second.first in
      let first : length s.front ≡ 1 = ap length s.first in
      let last : length s.second.second.rest ≡ 1 = ap length s.second.second.second in
      omega (arith, inside, first, last, halves bytes s, halves s.rest s.second, halves s.second.rest s.second.second)
  instr_long (Loop' ty shape body) bytes s =
      let inside = row_long body s.second.second.front s.second.second.first in
      let first : length s.front ≡ 1 = ap length s.first in
      let last : length s.second.second.rest ≡ 1 = ap length s.second.second.second in
      omega (arith, inside, first, last, halves bytes s, halves s.rest s.second, halves s.second.rest s.second.second)
  instr_long (If' ty shape body other) bytes s =
      let inside = row_long body s.second.second.front s.second.second.first in
      let others = else_long other s.second.second.rest s.second.second.second in
      let first : length s.front ≡ 1 = ap length s.first in
      omega (arith, inside, others, first, halves bytes s, halves s.rest s.second, halves s.second.rest s.second.second)
  instr_long (Br k) bytes s = one_byte _ bytes s
  instr_long (BrIf k) bytes s = one_byte _ bytes s
  instr_long (BrTable ks k) bytes s = one_byte _ bytes s
  instr_long (Call f) bytes s = one_byte _ bytes s
  instr_long (CallIndirect n) bytes s = one_byte _ bytes s
  instr_long (LocalGet x) bytes s = one_byte _ bytes s
  instr_long (LocalSet x) bytes s = one_byte _ bytes s
  instr_long (LocalTee x) bytes s = one_byte _ bytes s
  instr_long (GlobalGet x) bytes s = one_byte _ bytes s
  instr_long (GlobalSet x) bytes s = one_byte _ bytes s
  instr_long (Load ty arg) bytes s = one_byte _ bytes s
  instr_long (LoadNarrow load arg) bytes s = one_byte _ bytes s
  instr_long (instr.Store ty arg) bytes s = one_byte _ bytes s
  instr_long (StoreNarrow store arg) bytes s = one_byte _ bytes s
  instr_long (I32Const z) bytes s = one_byte _ bytes s
  instr_long (I64Const z) bytes s = one_byte _ bytes s
  instr_long Unreachable bytes s = let one : length bytes ≡ 1 = ap length s in omega (arith, one)
  instr_long Nop bytes s = let one : length bytes ≡ 1 = ap length s in omega (arith, one)
  instr_long Return bytes s = let one : length bytes ≡ 1 = ap length s in omega (arith, one)
  instr_long Drop bytes s = let one : length bytes ≡ 1 = ap length s in omega (arith, one)
  instr_long Select bytes s = let one : length bytes ≡ 1 = ap length s in omega (arith, one)
  instr_long (Eqz ty) bytes s = let one : length bytes ≡ 1 = ap length s in omega (arith, one)
  instr_long (Compare ty o) bytes s = let one : length bytes ≡ 1 = ap length s in omega (arith, one)
  instr_long (Unary ty o) bytes s = let one : length bytes ≡ 1 = ap length s in omega (arith, one)
  instr_long (Binary ty o) bytes s = let one : length bytes ≡ 1 = ap length s in omega (arith, one)
  instr_long Wrap bytes s = let one : length bytes ≡ 1 = ap length s in omega (arith, one)
  instr_long (Extend sign) bytes s = let one : length bytes ≡ 1 = ap length s in omega (arith, one)

  row_long : {n : _} (row : Row_of-Instr n) (bytes : List ℕ) → Instructions row bytes → row_size row ≤ length bytes
  row_long end_of-Instr bytes s = omega arith
  row_long (more_of-Instr i rest) bytes s =
      let one = instr_long i s.front s.first in let others = row_long rest s.rest s.second in omega (arith, one, others, halves bytes s)

  else_long : (other : Held-Instr-If-2) (bytes : List ℕ) → Otherwise other bytes → 1 + else_size other ≤ length bytes
  else_long None' bytes s = let one : length bytes ≡ 1 = ap length s in omega (arith, one)
  else_long (Some' shape body) bytes s =
      let inside = row_long body s.second.front s.second.first in
      let first : length s.front ≡ 1 = ap length s.first in
      let last : length s.second.rest ≡ 1 = ap length s.second.second in
      omega (arith, inside, first, last, halves bytes s, halves s.rest s.second)

list_long : (code : List Instr) (bytes : List ℕ) → Each Instruction code bytes → list_size code ≤ length bytes
list_long [] bytes s = omega arith
list_long (i ∷ rest) bytes s =
    let one = instr_long i s.front s.first in let others = list_long rest s.rest s.second in omega (arith, one, others, halves bytes s)

-- The opcodes of code with those of its end.
abbrev pub code_size : List ValType × List Instr → ℕ
code_size code = 1 + list_size code.1

code_long : (code : List ValType × List Instr) (bytes : List ℕ) → Code code bytes → code_size code ≤ length bytes
code_long code bytes s =
    let expression = s.inside.second in
    let inside = list_long code.1 expression.front expression.first in
    let last : length expression.rest ≡ 1 = ap length expression.second in
    let whole : length bytes ≡ length (s.size ++ s.body) = ap length s.split in
    omega (arith, inside, last, whole, length-append s.size s.body, halves s.body s.inside, halves s.inside.rest expression)

import_long : (import : Import) (bytes : List ℕ) → Imported import bytes → 1 ≤ length bytes
import_long import bytes s =
    let thing = thing_long import.desc s.second.rest s.second.second in omega (arith, thing, halves bytes s, halves s.rest s.second)
  where
    thing_long : (desc : ImportDesc) (bytes : List ℕ) → ImportedThing desc bytes → 1 ≤ length bytes
    thing_long (import_desc.Func ty) bytes s = one_byte _ bytes s
    thing_long (import_desc.Table limits) bytes s = one_byte _ bytes s
    thing_long (import_desc.Memory limits) bytes s = one_byte _ bytes s
    thing_long (import_desc.Global ty) bytes s = one_byte _ bytes s

-- Things of which each has at least so many bytes.
abbrev pub weight : {X : Type 0} → (X → ℕ) → List X → ℕ
weight w [] = 0
weight w (x ∷ xs) = w x + weight w xs

each_long : {X : Type 0} (w : X → ℕ) (P : X → Grammar) → ((x : X) (bytes : List ℕ) → P x bytes → w x ≤ length bytes) →
    (xs : List X) (bytes : List ℕ) → Each P xs bytes → weight w xs ≤ length bytes
each_long w P long [] bytes s = omega arith
each_long w P long (x ∷ xs) bytes s =
    let one = long x s.front s.first in let others = each_long w P long xs s.rest s.second in omega (arith, one, others, halves bytes s)

-- How many bytes stand in sections.
abbrev pub contents : List (ℕ × List ℕ) → ℕ
contents [] = 0
contents (section ∷ sections) = length section.1 + contents sections

contents_long : (sections : List (ℕ × List ℕ)) (bytes : List ℕ) → Each RawSection sections bytes → contents sections ≤ length bytes
contents_long [] bytes s = omega arith
contents_long (section ∷ sections) bytes s =
    let others = contents_long sections s.rest s.second in
    let content : length s.first.second.rest ≡ length section.1 = ap length s.first.second.second in
    omega (arith, others, content, halves bytes s, halves s.front s.first, halves s.first.rest s.first.second)

without_fewer : (sections : List (ℕ × List ℕ)) → contents (without_custom sections) ≤ contents sections
without_fewer [] = omega arith
without_fewer (section ∷ sections) = chosen (nat_eq section.0 0) (without_fewer sections)
  where
    chosen : (custom : Bool) → contents (without_custom sections) ≤ contents sections →
        contents (if custom then without_custom sections else section ∷ without_custom sections) ≤ length section.1 + contents sections
    chosen true others = omega (arith, others)
    chosen false others = omega (arith, others)

-- Behind a section stand the others: it takes as many bytes as its things.
record Behind (n : ℕ) (next : List (ℕ × List ℕ) → Type 0) (sections : List (ℕ × List ℕ)) : Type 0 where
  pub others : List (ℕ × List ℕ)
  pub stand : next others
  pub long : n + contents others ≤ contents sections

section_long : {X : Type 0} (w : X → ℕ) (id : ℕ) (P : X → Grammar) → ((x : X) (bytes : List ℕ) → P x bytes → w x ≤ length bytes) →
    (xs : List X) (next : List (ℕ × List ℕ) → Type 0) (sections : List (ℕ × List ℕ)) → Section id P xs next sections →
    Behind (weight w xs) next sections
section_long w id P long xs next [] s =
    let none : 0 ≡ weight w xs = ap (weight w) (sym s.0) in record { others = []; stand = s.1; long = omega (arith, none) }
section_long w id P long xs next (section ∷ sections) s = chosen (nat_eq section.0 id) s
  where
    chosen : (own : Bool) → MatchBool own (Vector P xs section.1 × next sections) ((xs ≡ []) × next (section ∷ sections)) →
        Behind (weight w xs) next (section ∷ sections)
    chosen true s =
        let all = each_long w P long xs s.0.rest s.0.second in
        record { others = sections; stand = s.1; long = omega (arith, all, halves section.1 s.0) }
    chosen false s =
        let none : 0 ≡ weight w xs = ap (weight w) (sym s.0) in
        record { others = section ∷ sections; stand = s.1; long = omega (arith, none) }

-- Sections of other things take no fewer than no bytes.
passed_long : {X : Type 0} (id : ℕ) (P : X → Grammar) (xs : List X) (next : List (ℕ × List ℕ) → Type 0) (sections : List (ℕ × List ℕ)) →
    Section id P xs next sections → Behind 0 next sections
passed_long id P xs next sections s =
    let b = section_long (λ _. 0) id P (λ x bytes spelled. omega arith) xs next sections s in
    record { others = b.others; stand = b.stand; long = (let long = b.long in omega (arith, long)) }

-- The imports, and the opcodes of all code, are no more than the bytes.
module_long : (m : Module) (bytes : List ℕ) → SpellsModule bytes m →
    weight (λ import. 1) m.imports + weight code_size (map code_of_func m.funcs) ≤ length bytes
module_long m bytes s =
    let all = s.second in
    let p : Parts = parts_of m in
    let types = passed_long 1 FunctionType m.types (FromImports p) (without_custom all.sections) all.inside in
    let imports = section_long (λ (import : Import). 1) 2 Imported import_long m.imports (FromFunctions p) types.others types.stand in
    let funcs = passed_long 3 (Unsigned 32) (map type_of_func m.funcs) (FromTables p) imports.others imports.stand in
    let tables = passed_long 4 TableType m.tables (FromMemories p) funcs.others funcs.stand in
    let memories = passed_long 5 MemoryType m.memories (FromGlobals p) tables.others tables.stand in
    let globals = passed_long 6 GlobalWithValue m.globals (FromExports p) memories.others memories.stand in
    let exports = passed_long 7 Exported m.exports (FromElements p) globals.others globals.stand in
    let elements = passed_long 9 Elements m.elements (FromCode p) exports.others exports.stand in
    let codes = section_long code_size 10 Code code_long (map code_of_func m.funcs) (FromData p) elements.others elements.stand in
    omega (
      arith,
      types.long,
      imports.long,
      funcs.long,
      tables.long,
      memories.long,
      globals.long,
      exports.long,
      elements.long,
      codes.long,
      without_fewer all.sections,
      contents_long all.sections s.rest all.stand,
      halves bytes s,
    )

-- The code of each function is one of them, so functions are no more.
weight_some : (funcs : List Func) → length funcs ≤ weight code_size (map code_of_func funcs)
weight_some [] = omega arith
weight_some (func ∷ funcs) = let others = weight_some funcs in omega (arith, others)

weight_ones : {X : Type 0} (xs : List X) → length xs ≡ weight (λ x. 1) xs
weight_ones [] = refl
weight_ones (x ∷ xs) = let others = weight_ones xs in omega (arith, others)

weight_bounds : (funcs : List Func) (n : ℕ) → weight code_size (map code_of_func funcs) < n → AllByRecursion (λ func. list_size func.body < n) funcs
weight_bounds [] n less = tt
weight_bounds (func ∷ funcs) n less = (omega (arith, less), weight_bounds funcs n (omega (arith, less)))

with_fewer : (import : Import) (desc : ImportDesc) (rest : List Function) → length (with_import import desc rest) ≤ 1 + length rest
with_fewer import (import_desc.Func ty) rest = omega arith
with_fewer import (import_desc.Table limits) rest = omega arith
with_fewer import (import_desc.Memory limits) rest = omega arith
with_fewer import (import_desc.Global ty) rest = omega arith

imported_fewer : (imports : List Import) → length (imported_functions imports) ≤ length imports
imported_fewer [] = omega arith
imported_fewer (import ∷ imports) = let one = with_fewer import import.desc (imported_functions imports) in let others = imported_fewer imports in omega (arith, one, others)

-- In a module with a short spelling all opcodes have numbers below 2^32.
pub bodies_short : (m : Module) → IsShort m → AllByRecursion (λ func. list_size func.body < 2 ^ 32) m.funcs
bodies_short m (bytes, spelled, short) = let all = module_long m bytes spelled in weight_bounds m.funcs (2 ^ 32) (omega (arith, all, short))

functions_added : (m : Module) → length (functions m) ≡ length (imported_functions m.imports) + length m.funcs
functions_added m =
    let both = length-append (imported_functions m.imports) (map Defined m.funcs) in
    let own = length-map m.funcs Defined in
    omega (arith, both, own)

pub functions_fewer : (m : Module) → length (functions m) ≤ length m.imports + length m.funcs
functions_fewer m = let both = functions_added m in let fewer = imported_fewer m.imports in omega (arith, both, fewer)

-- So have all functions.
pub functions_few : (m : Module) → IsShort m → length (functions m) < 2 ^ 32
functions_few m (bytes, spelled, short) =
    let all = module_long m bytes spelled in
    let fewer = functions_fewer m in
    omega (arith, all, fewer, short, weight_ones m.imports, weight_some m.funcs)

-- The number of all functions.
pub functions_counted : (m : Module) → (length (map type_number (functions m)) ≡ length (functions m)) × (length (functions m) ≡ length (imported_functions m.imports) + length m.funcs)
functions_counted m = (length-map (functions m) type_number, functions_added m)

-- What holds of each element holds of the one at a place.
pub placed_all : {X : Type 0} (P : X → Type 0) (xs : List X) (n : ℕ) (x : X) → AllByRecursion P xs → slice_get xs n ≡ Some x → P x
placed_all P [] n x h there = let no : ⊥ = cc in absurd no
placed_all P (y ∷ xs) zero x h there = let same : y ≡ x = cc in subst P same h.0
placed_all P (y ∷ xs) (suc n) x h there = placed_all P xs n x h.1 there
