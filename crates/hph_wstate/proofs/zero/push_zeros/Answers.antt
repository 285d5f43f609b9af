use Rattle.hph_wstate.proofs.Zeros.{zeros_more}
use Rattle.std.proofs.Common.{◌∙◌, ap, ◌++◌, ◌∷◌, []}
use Rattle.hph_wstate.proofs.zero.push_zeros.Goals as goal

pub loop-k-preserved : goal.loop-k-preserved
loop-k-preserved c = zeros_more _ _ _ _ _ _ c.in-Some.ensures c.zero.ensures
    (c.in_ok-push-in-Some.ensures.ok ∙ ap (λ l. l ++ c.zero.result ∷ []) c.loop-k.invariant)
