use Rattle.std.proofs.Common.{◌∙◌, ◌++◌, ap, refl}
use Rattle.hph_wasm.specs.Values.{zero_values}
use Rattle.hph_wstate.specs.Machine.{held}
use Rattle.hph_wstate.proofs.Standing.{called_done, few_own}
use Rattle.hph_wstate.proofs.machine.Machine.call.Goals as goal

pub returns : goal.returns
returns c = rw c.as_slice-self.ensures (called_done c.args.func.now (held c.args.self.now) _ _ _ _ _ _ _ _ _ _ c.if-self-params.false
    (few_own _ _ _ _ _ c.args.self.now.counted) refl refl c.replace.ensures.value c.discard.ensures c.in_ok-push.ensures.ok
    (c.replace.ensures.after ∙ (c.in_ok-locals.ensures ∙ ap (λ l. l ++ zero_values c.args.func.now.locals) c.in_ok-passed.ensures)))
