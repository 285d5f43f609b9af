use Rattle.std.proofs.Common.{◌≡◌, ◌∙◌, ◌<◌, ◌+◌, arith, rules, ap, List, Option, None, Some}
use Rattle.hph_wasm.specs.declared.instr.Instr.{Instr}
use Rattle.hph_wasm.specs.declared.types.BlockType.{BlockType}
use Rattle.hph_wasm.specs.declared.instr.Instr.TheViews.{If}
use Rattle.hph_wasm.specs.Rows.{size, list_size}
use Rattle.hph_module_tests.proofs.Counts.{size_block, size_loop, size_if_alone, size_if_else}
use Rattle.hph_module_tests.proofs.faults.+counts.Goals as goal

-- An `if` has more opcodes than its first branch.
if_more : (ty : BlockType) (body : List Instr) (other : Option (List Instr)) → list_size body + 1 < size (If ty body other)
if_more ty body None = let e = size_if_alone ty body in omega (arith, e)
if_more ty body (Some other) = let e = size_if_else ty body other in omega (arith, e)

pub opcodes-opcodes_of-requires : goal.opcodes-opcodes_of-requires
opcodes-opcodes_of-requires t c =
    let whole = ap size c.in-Block.is ∙ size_block c.in-Block.field-0 c.in-Block.body in
    let inside = ap list_size c.as_slice.ensures in
    (omega (arith, whole, inside), tt)

pub opcodes-opcodes_of-requires-in-Loop : goal.opcodes-opcodes_of-requires-in-Loop
opcodes-opcodes_of-requires-in-Loop t c =
    let whole = ap size c.in-Loop.is ∙ size_loop c.in-Loop.field-0 c.in-Loop.body in
    let inside = ap list_size c.as_slice-in-Loop.ensures in
    (omega (arith, whole, inside), tt)

pub opcodes-opcodes_of-requires-in-If : goal.opcodes-opcodes_of-requires-in-If
opcodes-opcodes_of-requires-in-If t c =
    let whole = ap size c.in-If.is in
    let inside = ap list_size c.as_slice-in-If.ensures in
    let least = if_more c.in-If.field-0 c.in-If.body c.in-If.other in
    (omega (arith, whole, inside, least), tt)

pub opcodes-opcodes_of-requires-in-Some : goal.opcodes-opcodes_of-requires-in-Some
opcodes-opcodes_of-requires-in-Some t c =
    let whole = ap size (c.in-If.is ∙ ap (If c.in-If.field-0 c.in-If.body) c.in-Some.is) ∙ size_if_else c.in-If.field-0 c.in-If.body c.in-Some.other in
    let behind = ap list_size c.as_slice-in-Some.ensures in
    (omega (arith, whole, behind), tt)

pub opcodes-returns-in_ok-opcodes_of-in-Block : goal.opcodes-returns-in_ok-opcodes_of-in-Block
opcodes-returns-in_ok-opcodes_of-in-Block t c =
    let inside = c.in_ok-opcodes_of-in-Block.ensures ∙ ap list_size c.as_slice.ensures in
    let whole : size c.args.instr.now ≡ c.in_ok-opcodes_of-in-Block.field-0 + 2 =
    let opcodes = ap size c.in-Block.is ∙ size_block c.in-Block.field-0 c.in-Block.body in omega (arith, opcodes, inside) in
    rw whole (search rules)

pub opcodes-returns-in_ok-opcodes_of-in-Loop : goal.opcodes-returns-in_ok-opcodes_of-in-Loop
opcodes-returns-in_ok-opcodes_of-in-Loop t c =
    let inside = c.in_ok-opcodes_of-in-Loop.ensures ∙ ap list_size c.as_slice-in-Loop.ensures in
    let whole : size c.args.instr.now ≡ c.in_ok-opcodes_of-in-Loop.field-0 + 2 =
    let opcodes = ap size c.in-Loop.is ∙ size_loop c.in-Loop.field-0 c.in-Loop.body in omega (arith, opcodes, inside) in
    rw whole (search rules)

pub opcodes-returns-in-None : goal.opcodes-returns-in-None
opcodes-returns-in-None t c =
    let inside = c.in_ok-opcodes_of-in-If.ensures ∙ ap list_size c.as_slice-in-If.ensures in
    let opcodes = ap size (c.in-If.is ∙ ap (If c.in-If.field-0 c.in-If.body) c.in-None.is) ∙ size_if_alone c.in-If.field-0 c.in-If.body in
    omega (arith, opcodes, inside, c.in_ok-inside-in-If.ensures)

pub opcodes-returns-in_ok-behind-in-Some : goal.opcodes-returns-in_ok-behind-in-Some
opcodes-returns-in_ok-behind-in-Some t c =
    let inside = c.in_ok-opcodes_of-in-If.ensures ∙ ap list_size c.as_slice-in-If.ensures in
    let behind = c.in_ok-opcodes_of-in-Some.ensures ∙ ap list_size c.as_slice-in-Some.ensures in
    let whole : size c.args.instr.now ≡ c.in_ok-inside-in-If.inside + c.in_ok-behind-in-Some.behind =
    let opcodes = ap size (c.in-If.is ∙ ap (If c.in-If.field-0 c.in-If.body) c.in-Some.is) ∙ size_if_else c.in-If.field-0 c.in-If.body c.in-Some.other in
    omega (arith, opcodes, inside, behind, c.in_ok-inside-in-If.ensures, c.in_ok-behind-in-Some.ensures) in
    rw whole (search rules)
