-- How long the spelling of a module is whose one function has blocks in one another.
use Rattle.std.proofs.Common.{◌≡◌, ◌≤◌, ℕ, ◌+◌, ◌*◌, ◌^◌, List, [], ◌∷◌, ◌++◌, length, flat_map, arith, ap, length-append}
use Rattle.hph_wasm.specs.Codes.{end_code}
use Rattle.hph_wasm.specs.ModuleGrammar.{header}
use Rattle.hph_wasm.specs.Spelling.{func_type_bytes, instr_bytes, locals_bytes, run_bytes, code_bytes, section_bytes, type_index_bytes, spelling, IsWritable}
use Rattle.hph_wasm.specs.declared.types.BlockType.{BlockType}
use Rattle.hph_wasm.specs.declared.types.FuncType.{FuncType}
use Rattle.hph_wasm.specs.declared.instr.Instr.{Instr, Block}
use Rattle.hph_wasm.specs.declared.module.Func.{Func}
use Rattle.hph_wasm.specs.declared.module.Module.{Module}
use Rattle.hph_wasm.proofs.InstructionRows.{instr_bytes-Block}
use Rattle.hph_lowm.proofs.SpellingLengths.{u32_short, counted_short, vector_short, joined_short, one_short, func_type_short}

-- one more block has three more bytes: its opcode, its type and its end
pub one_more : (ty : BlockType) (body : List Instr) (n : ℕ) → length (flat_map instr_bytes body) ≡ 3 * n → length (flat_map instr_bytes (Block ty body ∷ [])) ≡ 3 * (n + 1)
one_more ty body n same =
    let inside = flat_map instr_bytes body in
    omega (
      arith,
      same,
      length-append (instr_bytes (Block ty body)) [],
      ap length (instr_bytes-Block ty body),
      length-append inside (end_code ∷ []),
    )

abbrev nothing : FuncType
nothing = record { params = []; results = [] }

abbrev pub function_of : List Instr → Func
function_of body = record { ty = 0; locals = []; body = body }

abbrev pub deep_of : List Instr → Module
deep_of body = record {
  types = nothing ∷ [];
  imports = [];
  funcs = function_of body ∷ [];
  tables = [];
  memories = [];
  globals = [];
  exports = [];
  elements = [];
  segments = [];
}

code_short : (body : List Instr) (n : ℕ) → length (flat_map instr_bytes body) ≤ n → length (code_bytes (function_of body)) ≤ 11 + n
code_short body n few =
    let inside = flat_map instr_bytes body in
    omega (
      arith,
      few,
      vector_short run_bytes [],
      counted_short (locals_bytes [] ++ (inside ++ end_code ∷ [])),
      length-append (locals_bytes []) (inside ++ end_code ∷ []),
      length-append inside (end_code ∷ []),
    )

spelling_short : (body : List Instr) (n : ℕ) → length (flat_map instr_bytes body) ≤ n → length (spelling (deep_of body)) ≤ 8 + (26 + (16 + (22 + n)))
unfolding spelling
spelling_short body n few =
    let f = function_of body in
    let codes : length (section_bytes 10 code_bytes (f ∷ [])) ≤ 22 + n = let h = one_short 10 code_bytes f (11 + n) (code_short body n few) in omega (arith, h) in
    let indices = one_short 3 type_index_bytes f 5 (u32_short 0) in
    let types = one_short 1 func_type_bytes nothing 15 (func_type_short nothing (omega arith) (omega arith)) in
    let none : List ℕ = [] in
    let last = joined_short (section_bytes 10 code_bytes (f ∷ [])) none (22 + n) 0 codes (omega arith) in
    let third = joined_short (section_bytes 3 type_index_bytes (f ∷ [])) (section_bytes 10 code_bytes (f ∷ []) ++ none) 16 (22 + n + 0) indices last in
    let first = joined_short (section_bytes 1 func_type_bytes (nothing ∷ []))
    (section_bytes 3 type_index_bytes (f ∷ []) ++ (section_bytes 10 code_bytes (f ∷ []) ++ none)) 26 (16 + (22 + n + 0)) types third in
    let h : length (spelling (deep_of body)) ≤ 8 + (26 + (16 + (22 + n + 0))) = joined_short header
    (section_bytes 1 func_type_bytes (nothing ∷ []) ++ (section_bytes 3 type_index_bytes (f ∷ []) ++ (section_bytes 10 code_bytes (f ∷ []) ++ none)))
    8 (26 + (16 + (22 + n + 0))) (omega arith) first in
    omega (arith, h)

pub deep_is_writable : (body : List Instr) (n : ℕ) → length (flat_map instr_bytes body) ≡ 3 * n → n ≤ 2 ^ 20 → IsWritable (deep_of body)
deep_is_writable body n same few = record {
  short = omega (arith, few, spelling_short body (3 * n) (omega (arith, same)));
  few_locals = (omega arith, tt);
}
