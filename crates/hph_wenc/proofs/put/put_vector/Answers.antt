use Rattle.std.proofs.Common.{length, arith, ap}
use Rattle.std.proofs.lemmas.List.Folds.{length-flat_map-take}
use Rattle.hph_wenc.proofs.put.put_vector.Goals as goal

pub put-requires : goal.put-requires
put-requires g c =
    let whole = length-flat_map-take g.T.Put.spelling c.args.items.now c.loop-item.item-index c.item-item.result (omega arith) in
    let same = ap (λ item. length (g.T.Put.spelling item)) c.item-item.is in
    omega arith
