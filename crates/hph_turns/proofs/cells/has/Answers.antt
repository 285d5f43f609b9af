use Rattle.std.proofs.Common.{ℕ, subst, refl, arith}
use Rattle.hph_sys.specs.Typings.{In}
use Rattle.hph_turns.proofs.Steps.{in_get_of, not_in_more}
use Rattle.hph_turns.proofs.cells.has.Goals as goal

pub returns-then-y-x : goal.returns-then-y-x
returns-then-y-x c = ((λ _. subst (λ (k : ℕ). In k c.args.xs.now) c.if-y-x.true (in_get_of c.args.xs.now c.loop-y.y-index (omega arith))), λ _. refl)

pub loop-y-preserved : goal.loop-y-preserved
loop-y-preserved c = not_in_more c.args.xs.now c.loop-y.y-index c.args.x (omega arith) c.loop-y.invariant c.if-y-x.false
