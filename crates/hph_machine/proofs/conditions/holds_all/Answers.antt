use Rattle.std.proofs.Common.{sym, subst}
use Rattle.hph_sys.specs.Typings.{In}
use Rattle.hph_machine.proofs.conditions.holds_all.Goals as goal

pub returns-then-is_hand : goal.returns-then-is_hand
returns-then-is_hand g c = (
  λ t. (c.is_hand.ensures.0 c.if-is_hand.true, λ d h. c.has_all.ensures.0 t d (subst (In d) (sym c.look.ensures) h)),
  λ m. c.has_all.ensures.1 (λ d h. m.1 d (subst (In d) c.look.ensures h)),
)
