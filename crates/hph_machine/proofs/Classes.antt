-- Types whose classes are the tree's.
use Rattle.std.proofs.Common.{◌≡◌, ◌≢◌, ℕ, ◌<◌, ◌^◌, length, sym, refl, subst}
use Rattle.hph_type.specs.declared.object.ObjPart.{ObjPart}
use Rattle.hph_type.specs.declared.object.ObjPart.TheVariants.{NoObj, Of, AnyObj}
use Rattle.hph_type.specs.Types.{PhpType}
use Rattle.hph_type.specs.Classes.{Parents}
use Rattle.hph_type.specs.Order.{IsOf, IsPartOf}

module _ (tree : Parents) (t : PhpType) where
  pub of_class : (class : ℕ) → t.obj ≡ Of class → (class < length tree) × (class < 2 ^ 32) → IsOf tree t
  unfolding IsOf
  of_class class e h = subst (IsPartOf tree) (sym e) h

  pub class_of : (class : ℕ) → t.obj ≡ Of class → IsOf tree t → (class < length tree) × (class < 2 ^ 32)
  unfolding IsOf
  class_of class e h = subst (IsPartOf tree) e h

  part_other : (part : ObjPart) → ((class : ℕ) → part ≢ Of class) → IsPartOf tree part
  part_other NoObj n = tt
  part_other (Of class) n = absurd (n class refl)
  part_other AnyObj n = tt

  pub of_other : ((class : ℕ) → t.obj ≢ Of class) → IsOf tree t
  unfolding IsOf
  of_other n = part_other t.obj n
