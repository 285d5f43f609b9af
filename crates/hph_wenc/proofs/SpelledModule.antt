-- The bytes that are written of a module spell it.
use Rattle.std.proofs.Common.{◌<◌, ℕ, ◌^◌, List, [], ◌∷◌, ◌++◌, length, map, refl, sym, subst, arith}
use Rattle.std.proofs.lemmas.List.{append-nil, length-map}
use Rattle.std.specs.List.{AllByRecursion}
use Rattle.hph_wasm.specs.Leb128.{Unsigned, u32_bytes}
use Rattle.hph_wasm.specs.Grammar.{FunctionType, TableType, MemoryType}
use Rattle.hph_wasm.specs.ModuleGrammar.{Imported, GlobalWithValue, Exported, Elements, Code, Data, NoSections, FromData, FromCode, FromElements, FromExports, FromGlobals, FromMemories, FromTables, FromFunctions, FromImports, FromTypes, type_of_func, code_of_func, parts_of, header, SpellsModule}
use Rattle.hph_wasm.specs.Spelling.{func_type_bytes, import_bytes, type_index_bytes, table_type_bytes, limits_bytes, global_bytes, export_bytes, element_bytes, code_bytes, segment_bytes, section_bytes, spelling, IsWritable}
use Rattle.hph_wasm.specs.declared.module.Func.{Func}
use Rattle.hph_wasm.specs.declared.module.Module.{Module}
use Rattle.hph_wenc.specs.Fits.{IndexFits, ImportFits, LimitsFit, GlobalFits, ExportFits, ElementFits, CodeFits, SegmentFits, ModuleFits}
use Rattle.hph_wenc.proofs.NumberLaws.{NumbersAreSpelled}
use Rattle.hph_wenc.proofs.SpelledParts.{both, Spelled, all_fit, func_type_spelled, import_spelled, limits_spelled, table_type_spelled, export_spelled}
use Rattle.hph_wenc.proofs.SpelledCode.{pair_bytes, PairFits, code_spelled, global_spelled, element_spelled, segment_spelled}
use Rattle.hph_wenc.proofs.SpelledSections.{Written, written_end, written_section, without_custom-above, custom_named}
use Rattle.hph_wenc.proofs.ShortSections.{IsShort, HasShortSections, sections_short, section_bytes-map}

-- few locals and bodies that fit are codes that fit
pairs_fit : (funcs : List Func) → AllByRecursion (λ f. length f.locals < 2 ^ 32) funcs → AllByRecursion CodeFits funcs → AllByRecursion PairFits (map code_of_func funcs)
pairs_fit [] few all = tt
pairs_fit (f ∷ funcs) few all = ((few.0, all.0), pairs_fit funcs few.1 all.1)

-- the bytes of a type's number spell it
type_index_spelled : NumbersAreSpelled → Spelled (Unsigned 32) u32_bytes (λ ty. ty < 2 ^ 32)
type_index_spelled numbers ty fits _ = numbers.u32 ty fits

-- a section of things that are made of others is as short
IsShort-map : {X Y : Type 0} (id : ℕ) (f : Y → List ℕ) (g : X → Y) (xs : List X) → IsShort id (λ x. f (g x)) xs → IsShort id f (map g xs)
IsShort-map id f g xs short = record { few = rw length-map short.few; short = rw section_bytes-map short.short }

-- the bytes from a section on
abbrev data_on : Module → List ℕ
data_on m = section_bytes 11 segment_bytes m.segments

-- from the code section on
abbrev code_on : Module → List ℕ
code_on m = section_bytes 10 code_bytes m.funcs ++ data_on m

-- from the export section on
abbrev exports_on : Module → List ℕ
exports_on m = section_bytes 7 export_bytes m.exports ++ (section_bytes 9 element_bytes m.elements ++ code_on m)

-- from the table section on
abbrev tables_on : Module → List ℕ
tables_on m = section_bytes 4 table_type_bytes m.tables ++ (section_bytes 5 limits_bytes m.memories ++ (section_bytes 6 global_bytes m.globals ++ exports_on m))

-- from the function section on
abbrev functions_on : Module → List ℕ
functions_on m = section_bytes 3 type_index_bytes m.funcs ++ tables_on m

-- the data section is written
data_written : NumbersAreSpelled → (m : Module) → ModuleFits m → HasShortSections m → Written 10 (FromData (parts_of m)) (data_on m)
data_written numbers m fits short =
    subst (Written 10 (FromData (parts_of m))) (append-nil (data_on m))
    (written_section numbers 10 11 Data segment_bytes SegmentFits NoSections m.segments [] (segment_spelled numbers) fits.segments short.segments (omega arith) (written_end 11))

-- the code section is, and those behind it
code_written : NumbersAreSpelled → (m : Module) → IsWritable m → ModuleFits m → HasShortSections m → Written 9 (FromCode (parts_of m)) (code_on m)
code_written numbers m writable fits short =
    subst (λ bytes. Written 9 (FromCode (parts_of m)) (bytes ++ data_on m)) (section_bytes-map 10 pair_bytes code_of_func m.funcs)
    (written_section numbers 9 10 Code pair_bytes PairFits (FromData (parts_of m)) (map code_of_func m.funcs) (data_on m) (code_spelled numbers) (pairs_fit m.funcs writable.few_locals fits.codes)
    (IsShort-map 10 pair_bytes code_of_func m.funcs short.codes) (omega arith) (data_written numbers m fits short))

-- the export and element sections are, and those behind them
exports_written : NumbersAreSpelled → (m : Module) → IsWritable m → ModuleFits m → HasShortSections m → Written 6 (FromExports (parts_of m)) (exports_on m)
exports_written numbers m writable fits short =
    written_section numbers 6 7 Exported export_bytes ExportFits (FromElements (parts_of m)) m.exports _ (export_spelled numbers) fits.exports short.exports (omega arith)
    (written_section numbers 7 9 Elements element_bytes ElementFits (FromCode (parts_of m)) m.elements (code_on m) (element_spelled numbers) fits.elements short.elements (omega arith) (code_written numbers m writable fits short))

-- the table, memory and global sections are, and those behind them
tables_written : NumbersAreSpelled → (m : Module) → IsWritable m → ModuleFits m → HasShortSections m → Written 3 (FromTables (parts_of m)) (tables_on m)
tables_written numbers m writable fits short =
    written_section numbers 3 4 TableType table_type_bytes LimitsFit (FromMemories (parts_of m)) m.tables _ (table_type_spelled numbers) fits.tables short.tables (omega arith)
    (written_section numbers 4 5 MemoryType limits_bytes LimitsFit (FromGlobals (parts_of m)) m.memories _ (limits_spelled numbers) fits.memories short.memories (omega arith)
    (written_section numbers 5 6 GlobalWithValue global_bytes GlobalFits (FromExports (parts_of m)) m.globals (exports_on m) (global_spelled numbers) fits.globals short.globals (omega arith) (exports_written numbers m writable fits short)))

-- the function section is, and those behind it
functions_written : NumbersAreSpelled → (m : Module) → IsWritable m → ModuleFits m → HasShortSections m → Written 2 (FromFunctions (parts_of m)) (functions_on m)
functions_written numbers m writable fits short =
    subst (λ bytes. Written 2 (FromFunctions (parts_of m)) (bytes ++ tables_on m)) (section_bytes-map 3 u32_bytes type_of_func m.funcs)
    (written_section numbers 2 3 (Unsigned 32) u32_bytes IndexFits (FromTables (parts_of m)) (map type_of_func m.funcs) (tables_on m) (type_index_spelled numbers) fits.functions
    (IsShort-map 3 u32_bytes type_of_func m.funcs short.functions) (omega arith) (tables_written numbers m writable fits short))

-- a module that can be written and fits is spelled by its bytes
pub module_spelled : NumbersAreSpelled → (m : Module) → IsWritable m → ModuleFits m → SpellsModule (spelling m) m
unfolding spelling
module_spelled numbers m writable fits =
    let short = sections_short m writable.short in
    let written : Written 0 (FromTypes (parts_of m)) _ =
    written_section numbers 0 1 FunctionType func_type_bytes (λ _. Unit {0}) (FromImports (parts_of m)) m.types _ (func_type_spelled numbers) (all_fit m.types) short.types (omega arith)
    (written_section numbers 1 2 Imported import_bytes ImportFits (FromFunctions (parts_of m)) m.imports _ (import_spelled numbers) fits.imports short.imports (omega arith) (functions_written numbers m writable fits short)) in
    both header _ refl (record {
      sections = written.sections;
      stand = written.stand;
      named = custom_named written.sections written.above;
      inside = subst (FromTypes (parts_of m)) (sym (without_custom-above written.sections written.above)) written.inside;
    })
