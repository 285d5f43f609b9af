use Rattle.std.proofs.Common.{ℕ, sym, subst}
use Rattle.hph_sys.specs.Typings.{In}
use Rattle.hph_machine.proofs.conditions.reaches.Goals as goal

pub returns-then-holds_all : goal.returns-then-holds_all
returns-then-holds_all g c = (
  λ t. (c.holds_all.ensures.0 c.if-holds_all.true, subst (λ (o : ℕ). In o c.args.view.now.holds) c.owner.ensures (c.has.ensures.0 t)),
  λ m. c.has.ensures.1 (subst (λ (o : ℕ). In o c.args.view.now.holds) (sym c.owner.ensures) m.1),
)
