use Rattle.std.proofs.Common.{◌≡◌, ap, subst, IsTrue}
use Rattle.std.specs.Prelude.{◌↔◌}
use Rattle.hph_type.specs.Kinds.{kinds_of, AreIncluded}
use Rattle.hph_type.proofs.KindLaws.{has-holds}
use Rattle.hph_type.proofs.ty.Ty.has.Goals as goal

pub returns : goal.returns
returns c =
    let kinds : kinds_of c.self.inside.kinds ≡ c.args.self.kinds = ap (λ t. t.kinds) c.self.view_is in
    let included =
    subst (λ k. IsTrue c.are_included.result ↔ AreIncluded k c.args.self.kinds) c.bit.ensures.one
    (subst (λ k. IsTrue c.are_included.result ↔ AreIncluded (kinds_of c.bit.result) k) kinds
    c.are_included.ensures) in
    has-holds _ _ _ included.0 included.1
