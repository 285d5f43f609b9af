use Rattle.std.proofs.Common.{ap, ◌∙◌, ◌≡◌, ◌-◌, length, reverse, take, drop}
use Rattle.std.proofs.lemmas.Result.{IfOk-weaker}
use Rattle.hph_pile.proofs.Turned.{top_turned}
use Rattle.hph_pile.proofs.Pile.topmost.Goals as goal

pub returns : goal.returns
returns g c =
    let same : drop (length c.as_slice-items.result.now - c.args.count) c.as_slice-items.result.now ≡ reverse (take c.args.count c.args.self.now) =
    ap (drop (length c.as_slice-items.result.now - c.args.count)) c.as_slice-items.ensures.value ∙
    top_turned _ _ _ _ (ap length c.as_slice-items.ensures.value) c.self.view_is c.requires in
    IfOk-weaker _ (λ copy. copy ≡ drop (length c.as_slice-items.result.now - c.args.count) c.as_slice-items.result.now)
    (λ copy. copy ≡ reverse (take c.args.count c.args.self.now)) (λ copy e. e ∙ same) c.copy_from.ensures
