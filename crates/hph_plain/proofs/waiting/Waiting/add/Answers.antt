use Rattle.std.proofs.Common.{◌<◌, length, sym, subst}
use Rattle.hph_plain.proofs.Waits.{stand-added}
use Rattle.hph_plain.proofs.waiting.Waiting.add.Goals as goal

pub invariant_of-self-then-not-index : goal.invariant_of-self-then-not-index
invariant_of-self-then-not-index c =
    stand-added c.self.inside.flags.items c.self.inside.stack.items c.push.new.self.items c.args.scope
    c.index.result.now (subst (λ flags. c.args.scope < length flags) (sym c.self.view_is) c.requires) c.index.ensures
    (let f = c.if-not-index.true in cc) c.in_ok-push.ensures.items c.self.invariant
