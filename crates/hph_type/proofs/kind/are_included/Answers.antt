use Rattle.std.proofs.Common.{◌∙◌, sym, ap}
use Rattle.std.proofs.lemmas.Bool.{eqb-true, eq-eqb}
use Rattle.hph_type.specs.Kinds.{kinds_of}
use Rattle.hph_type.proofs.KindLaws.{same_number, included-same, same-included}
use Rattle.hph_type.proofs.kind.are_included.Goals as goal

pub returns : goal.returns
returns c = (
  λ e. included-same _ _ (sym c.intersection.ensures.kinds ∙ ap kinds_of (eqb-true _ _ e)),
  λ h. eq-eqb _ _ (same_number _ _ c.intersection.ensures.within c.requires.left
      (c.intersection.ensures.kinds ∙ same-included _ _ h)),
)
