-- An `if` with two branches, the first of which is valid.
use Rattle.std.proofs.Common.{◌≡◌, ◌∙◌, ℕ, ◌+◌, List, true, false, Some, None, sym, ap, subst, arith}
use Rattle.hph_wasm.specs.declared.instr.Instr.{Instr}
use Rattle.hph_wasm.specs.declared.types.ValType.{ValType}
use Rattle.hph_wasm.specs.declared.types.BlockType.{BlockType}
use Rattle.hph_wasm.specs.declared.module.Module.{Module}
use Rattle.hph_wasm.specs.Rows.{list_size}
use Rattle.hph_wasm.specs.Validity.{Context, under_label, results_of}
use Rattle.hph_wvalid.specs.Stacks.{Stack}
use Rattle.hph_wvalid.specs.Checking.{Fine, Fault, Agrees, AgreesBlock, nothing, push_all, closed_by, and_then, check_list, block_verdict, branches_verdict}
use Rattle.hph_wvalid.proofs.Views.{closed_well, closed_ill, with_results}

module _ (m : Module) (c : Context) (t : BlockType) (body other : List Instr) (stack : Stack) (label other_label given : List ValType) (from mid late to : ℕ) where
  -- The first branch is valid, and the second one goes on from what it leaves.
  second : label ≡ results_of t → given ≡ results_of t →
      AgreesBlock (closed_by 0 (list_size body) given nothing (check_list m (under_label label c) body nothing)) (from + 1) mid (list_size body) true →
      (branches_verdict m c t body other stack ≡
      closed_by (2 + list_size body) (list_size other) (results_of t) (push_all (results_of t) stack) (check_list m (under_label (results_of t) c) other nothing)) ×
      (mid ≡ from + 1 + list_size body)
  second el e h =
      let w = closed_well 1 (list_size body) (results_of t) (push_all (results_of t) stack) (from + 1) mid (check_list m (under_label label c) body nothing)
      (with_results m c t body stack label given from mid to e true h) in
      let same : block_verdict m c (results_of t) t body stack ≡ Fine (push_all (results_of t) stack) = ap (λ l. block_verdict m c l t body stack) (sym el) ∙ w.0 in
      (ap (λ v. and_then v (λ next. closed_by (2 + list_size body) (list_size other) (results_of t) next (check_list m (under_label (results_of t) c) other nothing))) same, w.1)

  pub branches_well : label ≡ results_of t → other_label ≡ results_of t → given ≡ results_of t → (pushed : Stack) → pushed ≡ push_all (results_of t) stack → to ≡ late + 1 →
      AgreesBlock (closed_by 0 (list_size body) given nothing (check_list m (under_label label c) body nothing)) (from + 1) mid (list_size body) true →
      AgreesBlock (closed_by 0 (list_size other) given nothing (check_list m (under_label other_label c) other nothing)) (mid + 1) late (list_size other) true →
      Agrees (branches_verdict m c t body other stack) from to (2 + (list_size body + (1 + list_size other))) (Some pushed)
  branches_well el eo e pushed ep et h k =
      let s = second el e h in
      let w = closed_well (2 + list_size body) (list_size other) (results_of t) (push_all (results_of t) stack) (mid + 1) late (check_list m (under_label other_label c) other nothing)
      (with_results m c t other stack other_label given mid late to e true k) in
      let whole : branches_verdict m c t body other stack ≡ Fine (push_all (results_of t) stack) = s.0 ∙
      ap (λ l. closed_by (2 + list_size body) (list_size other) (results_of t) (push_all (results_of t) stack) (check_list m (under_label l c) other nothing)) (sym eo) ∙ w.0 in
      subst (λ v. Agrees v from to (2 + (list_size body + (1 + list_size other))) (Some pushed)) (sym whole) (ep, omega (arith, w.1, s.1, et))

  pub other_ill : label ≡ results_of t → other_label ≡ results_of t → given ≡ results_of t →
      AgreesBlock (closed_by 0 (list_size body) given nothing (check_list m (under_label label c) body nothing)) (from + 1) mid (list_size body) true →
      AgreesBlock (closed_by 0 (list_size other) given nothing (check_list m (under_label other_label c) other nothing)) (mid + 1) late (list_size other) false →
      Agrees (branches_verdict m c t body other stack) from late (2 + (list_size body + (1 + list_size other))) None
  other_ill el eo e h k =
      let s = second el e h in
      let w = closed_ill (2 + list_size body) (list_size other) (results_of t) (push_all (results_of t) stack) (mid + 1) late (check_list m (under_label other_label c) other nothing)
      (with_results m c t other stack other_label given mid late to e false k) in
      let whole : branches_verdict m c t body other stack ≡ Fault (2 + list_size body + w.0) = s.0 ∙
      ap (λ l. closed_by (2 + list_size body) (list_size other) (results_of t) (push_all (results_of t) stack) (check_list m (under_label l c) other nothing)) (sym eo) ∙ w.1 in
      subst (λ v. Agrees v from late (2 + (list_size body + (1 + list_size other))) None) (sym whole) (omega (arith, w.2, s.1))
