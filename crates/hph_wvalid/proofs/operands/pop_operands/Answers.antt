use Rattle.std.proofs.Common.{◌∙◌, reverse, sym}
use Rattle.hph_wvalid.proofs.Unknown.{taken_of_unknown}
use Rattle.hph_wvalid.proofs.operands.pop_operands.Goals as goal

pub returns-then-is_empty : goal.returns-then-is_empty
returns-then-is_empty c =
    sym (taken_of_unknown (reverse c.loop-rest.rest.now) c.loop-rest.stack (sym c.is_free.ensures ∙ c.if-is_free.true) (sym c.is_empty.ensures ∙ c.if-is_empty.true))
    ∙ c.loop-rest.invariant
