-- How many opcodes blocks have, and how many functions a module.
use Rattle.std.proofs.Common.{◌≡◌, ◌∙◌, ◌≤◌, ℕ, ◌+◌, List, [], ◌∷◌, map, length, length-append, Some, None, refl, ap, arith}
use Rattle.std.proofs.lemmas.List.{length-map}
use Rattle.hph_wasm.specs.declared.instr.Instr.{Instr, Block, Loop, If, Row_of-Instr, end_of-Instr, more_of-Instr, items-the_row-Instr, items_hidden-the_row-Instr-0}
use Rattle.hph_wasm.specs.declared.instr.Instr.TheBlock.{hidden-the_row-Instr-0}
use Rattle.hph_wasm.specs.declared.types.BlockType.{BlockType}
use Rattle.hph_wasm.specs.declared.module.ImportDesc.{ImportDesc}
use Rattle.hph_wasm.specs.declared.module.ImportDesc.TheVariants as import_desc
use Rattle.hph_wasm.specs.declared.module.Import.{Import}
use Rattle.hph_wasm.specs.declared.module.Module.{Module}
use Rattle.hph_wasm.specs.Functions.{Function, Defined, imported_functions, with_import, functions}
use Rattle.hph_wasm.specs.Rows.{size, row_size, list_size}

size_rows : {n : _} (row : Row_of-Instr n) → row_size row ≡ list_size (items-the_row-Instr _ row)
size_rows end_of-Instr = refl
size_rows (more_of-Instr i rest) = ap (λ n. size i + n) (size_rows rest)

size_list : (list : List Instr) → row_size (hidden-the_row-Instr-0 list) ≡ list_size list
size_list list = size_rows (hidden-the_row-Instr-0 list) ∙ ap list_size (items_hidden-the_row-Instr-0 list)

pub size_block : (t : BlockType) (list : List Instr) → size (Block t list) ≡ 2 + list_size list
size_block t list = ap (λ n. 2 + n) (size_list list)

pub size_loop : (t : BlockType) (list : List Instr) → size (Loop t list) ≡ 2 + list_size list
size_loop t list = ap (λ n. 2 + n) (size_list list)

pub size_if_alone : (t : BlockType) (list : List Instr) → size (If t list None) ≡ 2 + list_size list
size_if_alone t list = ap (λ n. 2 + (n + 0)) (size_list list) ∙ omega arith

pub size_if_else : (t : BlockType) (list other : List Instr) → size (If t list (Some other)) ≡ 2 + (list_size list + (1 + list_size other))
size_if_else t list other =
    ap (λ n. 2 + (n + (1 + row_size (hidden-the_row-Instr-0 other)))) (size_list list) ∙ ap (λ n. 2 + (list_size list + (1 + n))) (size_list other)

with_fewer : (import : Import) (desc : ImportDesc) (rest : List Function) → length (with_import import desc rest) ≤ 1 + length rest
with_fewer import (import_desc.Func ty) rest = omega arith
with_fewer import (import_desc.Table limits) rest = omega arith
with_fewer import (import_desc.Memory limits) rest = omega arith
with_fewer import (import_desc.Global ty) rest = omega arith

imported_fewer : (imports : List Import) → length (imported_functions imports) ≤ length imports
imported_fewer [] = omega arith
imported_fewer (import ∷ imports) = let one = with_fewer import import.desc (imported_functions imports) in let others = imported_fewer imports in omega (arith, one, others)

-- A module has no more functions than imports and bodies.
pub functions_fewer : (m : Module) → length (functions m) ≤ length m.imports + length m.funcs
functions_fewer m =
    let both = length-append (imported_functions m.imports) (map Defined m.funcs) in
    let own = length-map m.funcs Defined in
    let fewer = imported_fewer m.imports in
    omega (arith, both, own, fewer)
