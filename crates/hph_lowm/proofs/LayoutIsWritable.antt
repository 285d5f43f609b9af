-- The module of a program that isn't long can be written.
use Rattle.std.proofs.Common.{◌≡◌, ◌≤◌, ℕ, ◌+◌, ◌*◌, ◌^◌, List, [], ◌∷◌, ◌++◌, length, flat_map, arith, length-append, refl}
use Rattle.std.specs.Prelude.{pos, None}
use Rattle.std.specs.List.{concat}
use Rattle.hph_wasm.specs.Leb128.{u32_bytes}
use Rattle.hph_wasm.specs.ModuleGrammar.{header}
use Rattle.hph_wasm.specs.Spelling.{counted_bytes, func_type_bytes, limits_bytes, instr_bytes, expression_bytes, import_bytes, export_bytes, locals_bytes, run_bytes, code_bytes, segment_bytes, section_bytes, type_index_bytes, table_type_bytes, global_bytes, element_bytes, spelling, IsWritable}
use Rattle.hph_wasm.specs.declared.instr.Instr.{I32Const, Call}
use Rattle.hph_wasm.specs.declared.module.Func.{Func}
use Rattle.hph_wasm.specs.declared.module.Module.{Module}
use Rattle.hph_lowm.specs.Layout.{pages_of, write_type, main_type, write_import, main_export, prints_from, segments_of, module_of}
use Rattle.hph_lowm.proofs.SpellingLengths.{u32_short, counted_short, vector_short, joined_short, none_short, one_short, two_short, func_type_short, import_short, export_short, limits_short, const_short, call_short}

-- three instructions for each text
prints_short : (place : ℕ) (texts : List (List ℕ)) → length (flat_map instr_bytes (prints_from place texts)) ≤ 18 * length texts
prints_short place [] = omega arith
prints_short place (text ∷ texts) =
    let rest = flat_map instr_bytes (prints_from (place + length text) texts) in
    let inner : length rest ≤ 18 * length texts = prints_short (place + length text) texts in
    let a = instr_bytes (I32Const (pos place)) in
    let b = instr_bytes (I32Const (pos (length text))) in
    let c = instr_bytes (Call 0) in
    omega (arith, inner, const_short (pos place), const_short (pos (length text)), call_short 0, length-append a (b ++ (c ++ rest)), length-append b (c ++ rest), length-append c rest)

main_of : List (List ℕ) → Func
main_of texts = record { ty = 1; locals = []; body = prints_from 0 texts }

code_short : (texts : List (List ℕ)) → length (code_bytes (main_of texts)) ≤ 11 + 18 * length texts
unfolding main_of
code_short texts =
    let body = flat_map instr_bytes (prints_from 0 texts) in
    let h = prints_short 0 texts in
    let runs = vector_short run_bytes [] in
    omega (arith, h, runs, counted_short (locals_bytes [] ++ (body ++ 0x0B ∷ [])), length-append (locals_bytes []) (body ++ 0x0B ∷ []), length-append body (0x0B ∷ []))

segment_short : (bytes : List ℕ) → length (segment_bytes (record { memory = 0; offset = I32Const (pos 0) ∷ []; bytes = bytes })) ≤ 40 + length bytes
segment_short bytes =
    let place = instr_bytes (I32Const (pos 0)) in
    omega (
      arith,
      u32_short 0,
      const_short (pos 0),
      counted_short bytes,
      length-append (u32_bytes 0) (expression_bytes (I32Const (pos 0) ∷ []) ++ counted_bytes bytes),
      length-append (expression_bytes (I32Const (pos 0) ∷ [])) (counted_bytes bytes),
      length-append (place ++ []) (0x0B ∷ []),
      length-append place [],
    )

segments_short : (texts : List (List ℕ)) → length (section_bytes 11 segment_bytes (segments_of texts)) ≤ 51 + length (concat texts)
segments_short [] = omega arith
segments_short (text ∷ texts) = omega (arith, one_short 11 segment_bytes (record { memory = 0; offset = I32Const (pos 0) ∷ []; bytes = concat (text ∷ texts) }) (40 + length (concat (text ∷ texts))) (segment_short (concat (text ∷ texts))))

type_index_short : (f : Func) → length (type_index_bytes f) ≤ 5
type_index_short f = u32_short f.ty

-- a module without tables, globals and element segments is as long as its other sections
sections_short : (m : Module) → m.tables ≡ [] → m.globals ≡ [] → m.elements ≡ [] → (n1 n2 n3 n5 n7 n10 n11 : ℕ)
    → length (section_bytes 1 func_type_bytes m.types) ≤ n1 → length (section_bytes 2 import_bytes m.imports) ≤ n2
    → length (section_bytes 3 type_index_bytes m.funcs) ≤ n3 → length (section_bytes 5 limits_bytes m.memories) ≤ n5 → length (section_bytes 7 export_bytes m.exports) ≤ n7
    → length (section_bytes 10 code_bytes m.funcs) ≤ n10 → length (section_bytes 11 segment_bytes m.segments) ≤ n11 → length (spelling m) ≤ 8 + (n1 + (n2 + (n3 + (n5 + (n7 + (n10 + n11))))))
unfolding spelling
sections_short m no_tables no_globals no_elements n1 n2 n3 n5 n7 n10 n11 h1 h2 h3 h5 h7 h10 h11 =
    let h : length (spelling m) ≤ 8 + (n1 + (n2 + (n3 + (0 + (n5 + (0 + (n7 + (0 + (n10 + n11))))))))) = joined_short header _ 8 _ (omega arith) (joined_short (section_bytes 1 func_type_bytes m.types) _ n1 _ h1 (joined_short (section_bytes 2 import_bytes m.imports) _ n2 _ h2 (joined_short (section_bytes 3 type_index_bytes m.funcs) _ n3 _ h3
    (joined_short (section_bytes 4 table_type_bytes m.tables) _ 0 _ (none_short 4 table_type_bytes m.tables no_tables) (joined_short (section_bytes 5 limits_bytes m.memories) _ n5 _ h5
    (joined_short (section_bytes 6 global_bytes m.globals) _ 0 _ (none_short 6 global_bytes m.globals no_globals) (joined_short (section_bytes 7 export_bytes m.exports) _ n7 _ h7
    (joined_short (section_bytes 9 element_bytes m.elements) _ 0 _ (none_short 9 element_bytes m.elements no_elements)
    (joined_short (section_bytes 10 code_bytes m.funcs) (section_bytes 11 segment_bytes m.segments) n10 n11 h10 h11)))))))))
    in omega (arith, h)

pub spelling_short : (texts : List (List ℕ)) → length (spelling (module_of texts)) ≤ 8 + (41 + (51 + (16 + (51 + (51 + (22 + 18 * length texts + (51 + length (concat texts))))))))
unfolding main_of
spelling_short texts = sections_short (module_of texts) refl refl refl 41 51 16 51 51 (22 + 18 * length texts) (51 + length (concat texts))
    (two_short 1 func_type_bytes write_type main_type 15 (func_type_short write_type (omega arith) (omega arith)) (func_type_short main_type (omega arith) (omega arith)))
    (one_short 2 import_bytes write_import 40 (import_short write_import 0 refl (omega arith) (omega arith)))
    (one_short 3 type_index_bytes (main_of texts) 5 (type_index_short (main_of texts)))
    (one_short 5 limits_bytes (record { min = pages_of (length (concat texts)); max = None }) 40 (limits_short (pages_of (length (concat texts)))))
    (one_short 7 export_bytes main_export 40 (export_short main_export (omega arith)))
    (let h = one_short 10 code_bytes (main_of texts) (11 + 18 * length texts) (code_short texts) in omega (arith, h))
    (segments_short texts)

pub layout_is_writable : (texts : List (List ℕ)) → length (concat texts) + length texts ≤ 2 ^ 21 → IsWritable (module_of texts)
layout_is_writable texts small = record { short = omega (arith, spelling_short texts); few_locals = (omega arith, tt) }
