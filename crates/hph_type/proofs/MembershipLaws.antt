-- What has a type has each type above it.
use Rattle.std.proofs.Common.{◌≡◌, ◌<◌, inl, inr, ℕ, zero, suc, true, List, [], ◌∷◌, length, subst, arith}
use Rattle.std.specs.Prelude.{◌==◌, Contains, slice_index_or}
use Rattle.std.specs.List.{list_any}
use Rattle.std.proofs.lemmas.Bool.{or_cases, eqb-true, eq-eqb, or_left, or_right}
use Rattle.hph_type.specs.declared.object.ObjPart.{ObjPart}
use Rattle.hph_type.specs.declared.object.ObjPart.TheVariants.{NoObj, Of, AnyObj}
use Rattle.hph_type.specs.Classes.{Parents, chain, is_within}
use Rattle.hph_type.specs.Order.{PartLeq, Leq}
use Rattle.hph_type.specs.Membership.{HoldsObject, HasKind, HasObject, AreWithParents}
use Rattle.hph_type.specs.Laws.{Grows}
use Rattle.hph_type.proofs.ClassLaws.{upwards, within-cases, within-up, within-refl, within-trans}

-- What a list has, some element of it equals, and the other way round.
pub any-contains : (classes : List ℕ) (class : ℕ) → list_any (λ c. c == class) classes ≡ true → Contains classes class
any-contains [] class e = absurd (let no : ⊥ = cc in no)
any-contains (c ∷ cs) class e =
    elim (or_cases (c == class) (list_any (λ x. x == class) cs) e) [
      | inl here ↦ (0, omega arith, eqb-true _ _ here)
      | inr later ↦ let rest = any-contains cs class later in (suc rest.0, omega (arith, rest.1), rest.2)
    ]

pub contains-any : (classes : List ℕ) (class k : ℕ) → k < length classes → slice_index_or classes k class ≡ class
    → list_any (λ c. c == class) classes ≡ true
contains-any [] class k within at = absurd (omega arith)
contains-any (c ∷ cs) class zero within at = or_left (c == class) _ (eq-eqb _ _ at)
contains-any (c ∷ cs) class (suc k) within at = or_right (c == class) _ (contains-any cs class k (omega arith) at)

module _ (tree : Parents) where
  -- Classes that have a class and each parent have each of its ancestors.
  up-all : (classes : List ℕ) → AreWithParents tree classes → (class ancestor : ℕ)
      → is_within tree class ancestor ≡ true → Contains classes class → Contains classes ancestor
  up-all classes whole class ancestor =
      upwards tree (λ c. is_within tree c ancestor ≡ true → Contains classes c → Contains classes ancestor)
      (λ c below w has.
      elim (within-cases tree c ancestor w) [
        | inl same ↦ subst (Contains classes) same has
        | inr up ↦ below up.0 up.1 up.2 (whole.up c up.0 has up.1)
      ]) class

  object-grows : (classes : List ℕ) → AreWithParents tree classes → (a b : ObjPart) → PartLeq tree a b
      → HoldsObject a classes → HoldsObject b classes
  object-grows classes whole NoObj b le has = absurd has
  object-grows classes whole (Of c) NoObj le has = absurd le
  object-grows classes whole (Of c) (Of d) le has = up-all classes whole c d le has
  object-grows classes whole (Of c) AnyObj le has = tt
  object-grows classes whole AnyObj NoObj le has = absurd le
  object-grows classes whole AnyObj (Of d) le has = absurd le
  object-grows classes whole AnyObj AnyObj le has = tt

  pub membership_grows : Grows tree
  unfolding Leq HasKind HasObject is_within
  membership_grows = record {
    kinds = λ a b kind le has. le.kinds kind has;
    objects = λ a b classes whole le has. object-grows classes whole a.obj b.obj le.part has;
    without_classes = record { up = λ class parent has _. absurd (omega (arith, has.1)) };
    with_chain = λ class. record {
      up = λ c parent has e.
          any-contains (chain tree class) parent
          (within-trans tree class c parent (contains-any (chain tree class) c has.0 has.1 has.2)
          (within-up tree c parent parent e (within-refl tree parent)));
    };
  }
