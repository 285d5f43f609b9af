use Rattle.std.proofs.Common.{◌≡◌, ◌∙◌, arith, ap, length, length-append, Some, None}
use Rattle.std.proofs.lemmas.Grind.{common_steps}
use Rattle.std.proofs.lemmas.List.Folds.{length-flat_map-take}
use denote.Param.Weighed.{most, at_most}
use Rattle.hph_wasm.specs.declared.instr.Instr.{size-Instr}
use Rattle.hph_wasm.specs.declared.instr.Instr.TheViews.{If, sized-Block, sized-Loop, sized-If}
use Rattle.hph_wasm.specs.Spelling.{instr_bytes, expression_bytes}
use Rattle.hph_wenc.specs.Code.{first_branch_bytes}
use Rattle.hph_wenc.proofs.Views.{HoldsNone, has_immediates}
use Rattle.hph_wenc.proofs.Blocks.{block_bytes, loop_bytes, if_alone_bytes, if_else_bytes, block_fits, loop_fits, if_alone_fits, if_else_fits}
use Rattle.hph_wenc.proofs.instructions.+instructions.Goals as goal

pub put_instructions-put_instruction-requires : goal.put_instructions-put_instruction-requires
put_instructions-put_instruction-requires t c =
    let within = at_most size-Instr c.args.body.now c.loop-instr.instr-index c.instr-item.result (omega arith) in
    let depth = ap size-Instr c.instr-item.is in
    let whole = length-flat_map-take instr_bytes c.args.body.now c.loop-instr.instr-index c.instr-item.result (omega arith) in
    let same = ap (λ i. length (instr_bytes i)) c.instr-item.is in
    (omega (arith, within, depth, c.decreases), omega arith)

pub put_instruction-put_block-requires : goal.put_instruction-put_block-requires
put_instruction-put_block-requires t c =
    let depth = ap size-Instr c.in-Block.is in
    let inside = ap (most size-Instr) c.as_slice.ensures in
    let whole = ap (λ i. length (instr_bytes i)) c.in-Block.is in
    let listed = ap length (block_bytes c.in-Block.ty c.in-Block.body) in
    let same = ap (λ body. length (expression_bytes body)) c.as_slice.ensures in
    (omega (arith, depth, inside, sized-Block c.in-Block.ty c.in-Block.body, c.decreases), omega (arith, whole, listed, same, c.requires))

pub put_instruction-put_block-requires-in-Loop : goal.put_instruction-put_block-requires-in-Loop
put_instruction-put_block-requires-in-Loop t c =
    let depth = ap size-Instr c.in-Loop.is in
    let inside = ap (most size-Instr) c.as_slice-in-Loop.ensures in
    let whole = ap (λ i. length (instr_bytes i)) c.in-Loop.is in
    let listed = ap length (loop_bytes c.in-Loop.ty c.in-Loop.body) in
    let same = ap (λ body. length (expression_bytes body)) c.as_slice-in-Loop.ensures in
    (omega (arith, depth, inside, sized-Loop c.in-Loop.ty c.in-Loop.body, c.decreases), omega (arith, whole, listed, same, c.requires))

pub put_instruction-put_block-requires-in-None : goal.put_instruction-put_block-requires-in-None
put_instruction-put_block-requires-in-None t c =
    let is : c.args.instr.now ≡ If c.in-If.ty c.in-If.body None = c.in-If.is ∙ ap (If c.in-If.ty c.in-If.body) c.in-None.is in
    let depth = ap size-Instr is in
    let inside = ap (most size-Instr) c.as_slice-in-None.ensures in
    let whole = ap (λ i. length (instr_bytes i)) is in
    let listed = ap length (if_alone_bytes c.in-If.ty c.in-If.body) in
    let same = ap (λ body. length (expression_bytes body)) c.as_slice-in-None.ensures in
    (omega (arith, depth, inside, sized-If c.in-If.ty c.in-If.body None, c.decreases), omega (arith, whole, listed, same, c.requires))

pub put_instruction-returns-in-Block-clause-put : goal.put_instruction-returns-in-Block-clause-put
put_instruction-returns-in-Block-clause-put t c = rw (c.in-Block.is, block_bytes) (grind (arith, common_steps))

pub put_instruction-returns-in-Block-clause-fit : goal.put_instruction-returns-in-Block-clause-fit
put_instruction-returns-in-Block-clause-fit t c = rw c.in-Block.is (block_fits c.put_block.result c.in-Block.ty c.in-Block.body (rw c.as_slice.ensures at c.put_block.ensures.fit))

pub put_instruction-returns-in-Loop-clause-put : goal.put_instruction-returns-in-Loop-clause-put
put_instruction-returns-in-Loop-clause-put t c = rw (c.in-Loop.is, loop_bytes) (grind (arith, common_steps))

pub put_instruction-returns-in-Loop-clause-fit : goal.put_instruction-returns-in-Loop-clause-fit
put_instruction-returns-in-Loop-clause-fit t c = rw c.in-Loop.is (loop_fits c.put_block-in-Loop.result c.in-Loop.ty c.in-Loop.body (rw c.as_slice-in-Loop.ensures at c.put_block-in-Loop.ensures.fit))

pub put_instruction-returns-in-None-clause-put : goal.put_instruction-returns-in-None-clause-put
put_instruction-returns-in-None-clause-put t c = rw (c.in-If.is, c.in-None.is, if_alone_bytes) (grind (arith, common_steps))

pub put_instruction-returns-in-None-clause-fit : goal.put_instruction-returns-in-None-clause-fit
put_instruction-returns-in-None-clause-fit t c =
    rw (c.in-If.is, c.in-None.is) (if_alone_fits c.put_block-in-None.result c.in-If.ty c.in-If.body (rw c.as_slice-in-None.ensures at c.put_block-in-None.ensures.fit))

pub put_instruction-put_first_branch-requires : goal.put_instruction-put_first_branch-requires
put_instruction-put_first_branch-requires t c =
    let is : c.args.instr.now ≡ If c.in-If.ty c.in-If.body (Some c.in-Some.other) = c.in-If.is ∙ ap (If c.in-If.ty c.in-If.body) c.in-Some.is in
    let depth = ap size-Instr is in
    let inside = ap (most size-Instr) c.as_slice-in-Some.ensures in
    let whole = ap (λ i. length (instr_bytes i)) is in
    let listed = ap length (if_else_bytes c.in-If.ty c.in-If.body c.in-Some.other) in
    let parts = length-append (first_branch_bytes c.in-If.body) (expression_bytes c.in-Some.other) in
    let same = ap (λ body. length (first_branch_bytes body)) c.as_slice-in-Some.ensures in
    (omega (arith, depth, inside, sized-If c.in-If.ty c.in-If.body (Some c.in-Some.other), c.decreases), omega (arith, whole, listed, parts, same, c.requires))

pub put_instruction-put_expression-requires : goal.put_instruction-put_expression-requires
put_instruction-put_expression-requires t c =
    let is : c.args.instr.now ≡ If c.in-If.ty c.in-If.body (Some c.in-Some.other) = c.in-If.is ∙ ap (If c.in-If.ty c.in-If.body) c.in-Some.is in
    let depth = ap size-Instr is in
    let inside = ap (most size-Instr) c.as_slice-in-Some-2.ensures in
    let whole = ap (λ i. length (instr_bytes i)) is in
    let listed = ap length (if_else_bytes c.in-If.ty c.in-If.body c.in-Some.other) in
    let parts = length-append (first_branch_bytes c.in-If.body) (expression_bytes c.in-Some.other) in
    let same = ap (λ body. length (expression_bytes body)) c.as_slice-in-Some-2.ensures in
    (omega (arith, depth, inside, sized-If c.in-If.ty c.in-If.body (Some c.in-Some.other), c.decreases), omega (arith, whole, listed, parts, same, c.requires))

pub put_instruction-returns-in_ok-put_first_branch-in-Some-clause-put :
    goal.put_instruction-returns-in_ok-put_first_branch-in-Some-clause-put
put_instruction-returns-in_ok-put_first_branch-in-Some-clause-put t c = rw (c.in-If.is, c.in-Some.is, if_else_bytes) (grind (arith, common_steps))

pub put_instruction-returns-in_ok-put_first_branch-in-Some-clause-fit :
    goal.put_instruction-returns-in_ok-put_first_branch-in-Some-clause-fit
put_instruction-returns-in_ok-put_first_branch-in-Some-clause-fit t c =
    rw (c.in-If.is, c.in-Some.is) (if_else_fits c.put_expression.result c.in-If.ty c.in-If.body c.in-Some.other
    (rw c.as_slice-in-Some.ensures at c.in_ok-put_first_branch-in-Some.ensures.fit) (rw c.as_slice-in-Some-2.ensures at c.put_expression.ensures.fit))

pub put_instruction-returns-in_default : goal.put_instruction-returns-in_default
put_instruction-returns-in_default t c =
    let none : HoldsNone c.args.instr.now = record { not_block = c.in_default.not-Block; not_loop = c.in_default.not-Loop; not_if = c.in_default.not-If } in
    let immediates = has_immediates c.args.instr.now none in
    record {
      put = rw immediates.bytes (grind (arith, common_steps));
      fit = rw immediates.fits c.put_immediates.ensures.fit;
    }
