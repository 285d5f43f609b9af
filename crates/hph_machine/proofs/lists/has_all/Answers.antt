use Rattle.std.proofs.Common.{ℕ, sym, refl, subst, ⊎_elim, arith, true≢false, get_or}
use Rattle.hph_sys.specs.Typings.{In}
use Rattle.hph_machine.proofs.Members.{in_get, in_more, in_whole}
use Rattle.hph_machine.proofs.lists.has_all.Goals as goal

pub returns-then-not-has : goal.returns-then-not-has
returns-then-not-has c = (λ t. absurd (true≢false (sym t)), λ all. let h = c.has.ensures.1 (all (get_or c.args.xs.now c.loop-x.x-index 0) (in_get c.args.xs.now c.loop-x.x-index 0 (omega arith))) in absurd (let f = c.if-not-has.true in cc))

pub loop-x-preserved : goal.loop-x-preserved
loop-x-preserved c = λ x k. ⊎_elim (c.loop-x.invariant x) (λ e. subst (λ (y : ℕ). In y c.args.list.now) (sym e) (c.has.ensures.0 (let f = c.if-not-has.false in cc))) (in_more c.args.xs.now c.loop-x.x-index x 0 (omega arith) k)

pub returns : goal.returns
returns c = (λ _ x k. c.loop-x.invariant x (in_whole c.args.xs.now c.loop-x.x-index x (omega arith) k), λ _. refl)
