use Rattle.std.proofs.Common.{ℕ, sym, refl, subst, ⊎_elim, arith, true≢false, get_or}
use Rattle.hph_sys.specs.Typings.{In}
use Rattle.hph_machine.proofs.Members.{in_get, in_more, in_whole}
use Rattle.hph_machine.proofs.lists.has_one.Goals as goal

pub returns-then-has : goal.returns-then-has
returns-then-has c = (λ _. (get_or c.args.xs.now c.loop-x.x-index 0, in_get c.args.xs.now c.loop-x.x-index 0 (omega arith), c.has.ensures.0 c.if-has.true), λ _. refl)

pub loop-x-preserved : goal.loop-x-preserved
loop-x-preserved c = λ x k h. ⊎_elim (λ old. c.loop-x.invariant x old h) (λ e. let t = c.has.ensures.1 (subst (λ (y : ℕ). In y c.args.list.now) e h) in absurd (let f = c.if-has.false in cc)) (in_more c.args.xs.now c.loop-x.x-index x 0 (omega arith) k)

pub returns : goal.returns
returns c = (λ t. absurd (true≢false (sym t)), λ some. absurd (c.loop-x.invariant some.0 (in_whole c.args.xs.now c.loop-x.x-index some.0 (omega arith) some.1) some.2))
