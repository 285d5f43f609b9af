use Rattle.std.proofs.Common.{◌≡◌, ◌∙◌, IfOk, arith, add-one, ap, sym, subst, refl, length, None, Some}
use Rattle.std.proofs.lemmas.Option.{slice_get_read}
use Rattle.hph_wasm.specs.Rows.{size}
use Rattle.hph_wasm.specs.declared.instr.Instr.TheViews.{If}
use Rattle.hph_wvalid.specs.Checking.{Agrees, check}
use Rattle.hph_wvalid.specs.Spaces.{context_of, IsNumbered}
use Rattle.hph_wvalid.proofs.Views.{moved, block_is, loop_is, alone_is, branches_is, block_size_is, loop_size_is, alone_size_is, branches_size_is}
use Rattle.hph_wvalid.proofs.Fronts.{part_size, at_front, next_behind, fault_behind, all_behind}
use Rattle.hph_wvalid.proofs.body.+checks.Goals as goal

pub check_one-check_block-requires : goal.check_one-check_block-requires
check_one-check_block-requires t c =
    let counted = block_size_is c.args.scope.now.«module».now (context_of c.args.scope.now) c.in-Block.ty c.as_slice.result.now c.in-Block.body c.args.stack c.args.instr.now
    c.as_slice.ensures c.in-Block.is in
    (omega (arith, counted), (c.requires.numbered, omega (arith, counted, c.requires.room)))

pub check_one-check_block-requires-in-Loop : goal.check_one-check_block-requires-in-Loop
check_one-check_block-requires-in-Loop t c =
    let counted = loop_size_is c.args.scope.now.«module».now (context_of c.args.scope.now) c.in-Loop.ty c.as_slice-in-Loop.result.now c.in-Loop.body c.args.stack c.args.instr.now
    c.as_slice-in-Loop.ensures c.in-Loop.is in
    (omega (arith, counted), (c.requires.numbered, omega (arith, counted, c.requires.room)))

pub check_one-check_alone-requires : goal.check_one-check_alone-requires
check_one-check_alone-requires t c =
    let is : c.args.instr.now ≡ If c.in-If.ty c.in-If.body None = c.in-If.is ∙ ap (If c.in-If.ty c.in-If.body) c.in-None-other.is in
    let counted = alone_size_is c.args.scope.now.«module».now (context_of c.args.scope.now) c.in-If.ty c.as_slice-in-None-other.result.now c.in-If.body c.args.stack c.args.instr.now
    c.as_slice-in-None-other.ensures is in
    (omega (arith, counted), (c.requires.numbered, omega (arith, counted, c.requires.room)))

pub check_one-check_branches-requires : goal.check_one-check_branches-requires
check_one-check_branches-requires t c =
    let is : c.args.instr.now ≡ If c.in-If.ty c.in-If.body (Some c.in-Some-other.other) = c.in-If.is ∙ ap (If c.in-If.ty c.in-If.body) c.in-Some-other.is in
    let counted = branches_size_is c.args.scope.now.«module».now (context_of c.args.scope.now) c.in-If.ty c.as_slice-in-Some-other.result.now c.in-If.body c.args.stack c.args.instr.now
    c.as_slice-other.result.now c.in-Some-other.other c.as_slice-in-Some-other.ensures c.as_slice-other.ensures is in
    (omega (arith, counted), (c.requires.numbered, omega (arith, counted, c.requires.room)))

pub check_one-returns-in_ok-label-in-Block-clause-told :
    goal.check_one-returns-in_ok-label-in-Block-clause-told
check_one-returns-in_ok-label-in-Block-clause-told t c =
    let m = c.args.scope.now.«module».now in let around = context_of c.args.scope.now in
    moved (λ v n. IfOk c.check_block.result (λ o. Agrees v c.args.at.now c.check_block.new.at n o)) _ _ _ _
    (block_is m around c.in-Block.ty c.as_slice.result.now c.in-Block.body c.args.stack c.args.instr.now c.in_ok-label-in-Block.label
    c.in_ok-label-in-Block.ensures c.as_slice.ensures c.in-Block.is)
    (block_size_is m around c.in-Block.ty c.as_slice.result.now c.in-Block.body c.args.stack c.args.instr.now c.as_slice.ensures c.in-Block.is)
    c.check_block.ensures.told

pub check_one-returns-in-Loop-clause-told : goal.check_one-returns-in-Loop-clause-told
check_one-returns-in-Loop-clause-told t c =
    let m = c.args.scope.now.«module».now in let around = context_of c.args.scope.now in
    moved (λ v n. IfOk c.check_block-in-Loop.result (λ o. Agrees v c.args.at.now c.check_block-in-Loop.new.at n o)) _ _ _ _
    (loop_is m around c.in-Loop.ty c.as_slice-in-Loop.result.now c.in-Loop.body c.args.stack c.args.instr.now c.new-label.result
    c.new-label.ensures c.as_slice-in-Loop.ensures c.in-Loop.is)
    (loop_size_is m around c.in-Loop.ty c.as_slice-in-Loop.result.now c.in-Loop.body c.args.stack c.args.instr.now c.as_slice-in-Loop.ensures c.in-Loop.is)
    c.check_block-in-Loop.ensures.told

pub check_one-returns-in-None-other-clause-told : goal.check_one-returns-in-None-other-clause-told
check_one-returns-in-None-other-clause-told t c =
    let m = c.args.scope.now.«module».now in let around = context_of c.args.scope.now in
    let is : c.args.instr.now ≡ If c.in-If.ty c.in-If.body None = c.in-If.is ∙ ap (If c.in-If.ty c.in-If.body) c.in-None-other.is in
    moved (λ v n. IfOk c.check_alone.result (λ o. Agrees v c.args.at.now c.check_alone.new.at n o)) _ _ _ _
    (alone_is m around c.in-If.ty c.as_slice-in-None-other.result.now c.in-If.body c.args.stack c.args.instr.now c.in-Some.rest
    (sym c.in-Some.ensures) c.as_slice-in-None-other.ensures is)
    (alone_size_is m around c.in-If.ty c.as_slice-in-None-other.result.now c.in-If.body c.args.stack c.args.instr.now c.as_slice-in-None-other.ensures is)
    c.check_alone.ensures.told

pub check_one-returns-in-Some-other-clause-told : goal.check_one-returns-in-Some-other-clause-told
check_one-returns-in-Some-other-clause-told t c =
    let m = c.args.scope.now.«module».now in let around = context_of c.args.scope.now in
    let is : c.args.instr.now ≡ If c.in-If.ty c.in-If.body (Some c.in-Some-other.other) = c.in-If.is ∙ ap (If c.in-If.ty c.in-If.body) c.in-Some-other.is in
    moved (λ v n. IfOk c.check_branches.result (λ o. Agrees v c.args.at.now c.check_branches.new.at n o)) _ _ _ _
    (branches_is m around c.in-If.ty c.as_slice-in-Some-other.result.now c.in-If.body c.args.stack c.args.instr.now
    c.as_slice-other.result.now c.in-Some-other.other c.in-Some.rest
    (sym c.in-Some.ensures) c.as_slice-in-Some-other.ensures c.as_slice-other.ensures is)
    (branches_size_is m around c.in-If.ty c.as_slice-in-Some-other.result.now c.in-If.body c.args.stack c.args.instr.now
    c.as_slice-other.result.now c.in-Some-other.other c.as_slice-in-Some-other.ensures c.as_slice-other.ensures is)
    c.check_branches.ensures.told

pub check_all-check_one-requires : goal.check_all-check_one-requires
check_all-check_one-requires t c =
    let there = slice_get_read c.args.list.now (length c.args.list.now) c.loop-instr.instr-index c.instr-item.result refl (omega arith) c.instr-item.is in
    let part = part_size c.args.list.now c.loop-instr.instr-index c.instr-item.result there in
    (omega (arith, part, c.decreases), (subst IsNumbered (sym c.loop-instr.invariant.same) c.requires.numbered, omega (arith, part, c.loop-instr.invariant.counted, c.requires.room)))

pub check_all-loop-instr-init : goal.check_all-loop-instr-init
check_all-loop-instr-init t c =
    record { behind = at_front c.args.scope.now.«module».now (context_of c.args.scope.now) c.args.list.now c.args.stack; counted = omega arith; same = refl }

pub check_all-loop-instr-preserved : goal.check_all-loop-instr-preserved
check_all-loop-instr-preserved t c =
    let m = c.args.scope.now.«module».now in let around = context_of c.args.scope.now in let list = c.args.list.now in
    let there = slice_get_read list (length list) c.loop-instr.instr-index c.instr-item.result refl (omega arith) c.instr-item.is in
    let told : Agrees (check c.loop-instr.scope.«module».now (context_of c.loop-instr.scope) c.instr-item.result c.loop-instr.stack) c.loop-instr.at c.check_one.new.at (size c.instr-item.result) (Some c.in-Some.next) =
    subst (λ o. Agrees (check c.loop-instr.scope.«module».now (context_of c.loop-instr.scope) c.instr-item.result c.loop-instr.stack) c.loop-instr.at c.check_one.new.at (size c.instr-item.result) o) c.in-Some.is c.in_ok-check_one.ensures.told in
    let same : Agrees (check m around c.instr-item.result c.loop-instr.stack) c.loop-instr.at c.check_one.new.at (size c.instr-item.result) (Some c.in-Some.next) =
    subst (λ s. Agrees (check s.«module».now (context_of s) c.instr-item.result c.loop-instr.stack) c.loop-instr.at c.check_one.new.at (size c.instr-item.result) (Some c.in-Some.next)) c.loop-instr.invariant.same told in
    let next = next_behind m around list c.args.stack c.loop-instr.instr-index c.args.at.now c.loop-instr.at c.check_one.new.at c.instr-item.result c.loop-instr.stack c.in-Some.next
    there c.loop-instr.invariant.behind c.loop-instr.invariant.counted same in
    rw add-one (record { behind = next.0; counted = next.1; same = c.in_ok-check_one.ensures.same ∙ c.loop-instr.invariant.same })

pub check_all-returns-in-None-clause-told : goal.check_all-returns-in-None-clause-told
check_all-returns-in-None-clause-told t c =
    let m = c.args.scope.now.«module».now in let around = context_of c.args.scope.now in let list = c.args.list.now in
    let there = slice_get_read list (length list) c.loop-instr.instr-index c.instr-item.result refl (omega arith) c.instr-item.is in
    let told : Agrees (check c.loop-instr.scope.«module».now (context_of c.loop-instr.scope) c.instr-item.result c.loop-instr.stack) c.loop-instr.at c.check_one.new.at (size c.instr-item.result) None =
    subst (λ o. Agrees (check c.loop-instr.scope.«module».now (context_of c.loop-instr.scope) c.instr-item.result c.loop-instr.stack) c.loop-instr.at c.check_one.new.at (size c.instr-item.result) o) c.in-None.is c.in_ok-check_one.ensures.told in
    let same : Agrees (check m around c.instr-item.result c.loop-instr.stack) c.loop-instr.at c.check_one.new.at (size c.instr-item.result) None =
    subst (λ s. Agrees (check s.«module».now (context_of s) c.instr-item.result c.loop-instr.stack) c.loop-instr.at c.check_one.new.at (size c.instr-item.result) None) c.loop-instr.invariant.same told in
    fault_behind m around list c.args.stack c.loop-instr.instr-index c.args.at.now c.loop-instr.at c.check_one.new.at c.instr-item.result c.loop-instr.stack
    there c.loop-instr.invariant.behind c.loop-instr.invariant.counted same

pub check_all-returns-clause-told : goal.check_all-returns-clause-told
check_all-returns-clause-told t c =
    all_behind c.args.scope.now.«module».now (context_of c.args.scope.now) c.args.list.now c.args.stack c.loop-instr.instr-index c.args.at.now c.loop-instr.at c.loop-instr.stack
    (omega arith) c.loop-instr.invariant.behind c.loop-instr.invariant.counted
