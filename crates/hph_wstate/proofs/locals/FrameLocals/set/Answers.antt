use Rattle.std.proofs.Common.{◌++◌, ◌<◌, true, subst, [], sym}
use Rattle.std.specs.Prelude.{IfOk}
use Rattle.hph_wasm.specs.Choice.{if_some}
use Rattle.hph_wstate.specs.Written.{Written}
use Rattle.hph_wstate.proofs.Kept.{set_near, set_far_done}
use Rattle.hph_wstate.proofs.locals.FrameLocals.set.Goals as goal

pub returns-then-place-count : goal.returns-then-place-count
returns-then-place-count c = subst (λ l. Written c.args.x c.args.value l true (c.set.new.self ++ if_some c.self.inside.far [] (λ far. far.value)))
    c.self.view_is (subst (λ near. Written c.args.x c.args.value (c.self.inside.near ++ if_some c.self.inside.far [] (λ far. far.value)) true
    (near ++ if_some c.self.inside.far [] (λ far. far.value))) (sym c.set.ensures)
    (set_near c.self.inside.near (if_some c.self.inside.far [] (λ far. far.value)) c.args.x c.args.value
    (subst (λ n. c.args.x < n) c.len-count.ensures c.if-place-count.true)))

pub returns-else-place-count : goal.returns-else-place-count
returns-else-place-count c = subst (λ l. IfOk c.set_far.result (λ there. Written c.args.x c.args.value l there
    (c.self.inside.near ++ if_some c.set_far.new.far [] (λ far. far.value)))) c.self.view_is
    (set_far_done c.set_far.result c.self.inside.near _ _ c.args.x _ c.args.value c.len-count.ensures c.if-place-count.false c.set_far.ensures)
