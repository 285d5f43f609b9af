-- Types are a lattice: their order, joins and meets.
use Rattle.std.proofs.Common.{◌≡◌, ◌≤◌, ◌∙◌, ⊎_elim, ℕ, Bool, true, false, Option, None, Some, sym, ap, refl, arith, true≢false}
use Rattle.std.specs.Prelude.{if◌then◌else◌}
use Rattle.hph_type.specs.declared.object.ObjPart.{ObjPart}
use Rattle.hph_type.specs.declared.object.ObjPart.TheVariants.{NoObj, Of, AnyObj}
use Rattle.hph_type.specs.Classes.{Parents, is_within, nearest}
use Rattle.hph_type.specs.Order.{IsPartOf, IsOf, PartLeq, Leq, of_or_any, join_part, meet_part, join, meet}
use Rattle.hph_type.specs.Laws.{IsOrder, HasJoins, HasMeets}
use Rattle.hph_type.proofs.ClassLaws.{within-refl, within-trans, within-le, within-comparable, nearest-is, nearest-absent}
use Rattle.hph_type.proofs.KindLaws.{included-refl, included-trans, included-antisym, none-included, included-all, included-either_left, included-either_right, either-included, both-included_left, both-included_right, included-both}

module _ (tree : Parents) where
  -- ---- object parts

  part-refl : (a : ObjPart) → PartLeq tree a a
  part-refl NoObj = tt
  part-refl (Of c) = within-refl tree c
  part-refl AnyObj = tt

  part-trans : (a b c : ObjPart) → PartLeq tree a b → PartLeq tree b c → PartLeq tree a c
  part-trans NoObj b c ab bc = tt
  part-trans (Of x) NoObj c ab bc = absurd ab
  part-trans (Of x) (Of y) NoObj ab bc = absurd bc
  part-trans (Of x) (Of y) (Of z) ab bc = within-trans tree x y z ab bc
  part-trans (Of x) (Of y) AnyObj ab bc = tt
  part-trans (Of x) AnyObj NoObj ab bc = absurd bc
  part-trans (Of x) AnyObj (Of z) ab bc = absurd bc
  part-trans (Of x) AnyObj AnyObj ab bc = tt
  part-trans AnyObj NoObj c ab bc = absurd ab
  part-trans AnyObj (Of y) c ab bc = absurd ab
  part-trans AnyObj AnyObj c ab bc = bc

  pub part-antisym : (a b : ObjPart) → PartLeq tree a b → PartLeq tree b a → a ≡ b
  part-antisym NoObj NoObj ab ba = refl
  part-antisym NoObj (Of d) ab ba = absurd ba
  part-antisym NoObj AnyObj ab ba = absurd ba
  part-antisym (Of c) NoObj ab ba = absurd ab
  part-antisym (Of c) (Of d) ab ba =
      let down : d ≤ c = within-le tree c d ab in
      let up : c ≤ d = within-le tree d c ba in
      ap Of (omega arith)
  part-antisym (Of c) AnyObj ab ba = absurd ba
  part-antisym AnyObj NoObj ab ba = absurd ab
  part-antisym AnyObj (Of d) ab ba = absurd ab
  part-antisym AnyObj AnyObj ab ba = refl

  part-any : (a : ObjPart) → PartLeq tree a AnyObj
  part-any NoObj = tt
  part-any (Of c) = tt
  part-any AnyObj = tt

  -- What is nearest is above both classes.
  nearest-above : (c d : ℕ) (o : Option ℕ) → nearest tree c d ≡ o
      → PartLeq tree (Of c) (of_or_any o) × PartLeq tree (Of d) (of_or_any o)
  nearest-above c d None e = (tt, tt)
  nearest-above c d (Some class) e = let is = nearest-is tree c d class e in (is.left, is.right)

  -- It is below what is above both.
  nearest-least : (c d : ℕ) (o : Option ℕ) → nearest tree c d ≡ o → (u : ObjPart) → PartLeq tree (Of c) u
      → PartLeq tree (Of d) u → PartLeq tree (of_or_any o) u
  nearest-least c d o e NoObj cu du = absurd cu
  nearest-least c d None e (Of u) cu du = absurd (nearest-absent tree c d e u cu du)
  nearest-least c d (Some class) e (Of u) cu du = (nearest-is tree c d class e).least u cu du
  nearest-least c d o e AnyObj cu du = part-any (of_or_any o)

  part-join_left : (a b : ObjPart) → PartLeq tree a (join_part tree a b)
  part-join_left NoObj b = tt
  part-join_left (Of c) NoObj = within-refl tree c
  part-join_left (Of c) (Of d) = (nearest-above c d (nearest tree c d) refl).0
  part-join_left (Of c) AnyObj = tt
  part-join_left AnyObj b = tt

  part-join_right : (a b : ObjPart) → PartLeq tree b (join_part tree a b)
  part-join_right NoObj b = part-refl b
  part-join_right (Of c) NoObj = tt
  part-join_right (Of c) (Of d) = (nearest-above c d (nearest tree c d) refl).1
  part-join_right (Of c) AnyObj = tt
  part-join_right AnyObj b = part-any b

  part-join_least : (a b u : ObjPart) → PartLeq tree a u → PartLeq tree b u → PartLeq tree (join_part tree a b) u
  part-join_least NoObj b u au bu = bu
  part-join_least (Of c) NoObj u au bu = au
  part-join_least (Of c) (Of d) u au bu = nearest-least c d (nearest tree c d) refl u au bu
  part-join_least (Of c) AnyObj u au bu = bu
  part-join_least AnyObj b u au bu = au

  -- the lower of two classes, by the two tests
  abbrev lower : Bool → Bool → ℕ → ℕ → ObjPart
  lower first second c d = if first then Of c else (if second then Of d else NoObj)

  lower-left : (first second : Bool) (c d : ℕ) → is_within tree d c ≡ second → PartLeq tree (lower first second c d) (Of c)
  lower-left true second c d s = within-refl tree c
  lower-left false true c d s = s
  lower-left false false c d s = tt

  lower-right : (first second : Bool) (c d : ℕ) → is_within tree c d ≡ first → PartLeq tree (lower first second c d) (Of d)
  lower-right true second c d f = f
  lower-right false true c d f = within-refl tree d
  lower-right false false c d f = tt

  lower-greatest : (first second : Bool) (c d : ℕ) → is_within tree c d ≡ first → is_within tree d c ≡ second
      → (l : ObjPart) → PartLeq tree l (Of c) → PartLeq tree l (Of d) → PartLeq tree l (lower first second c d)
  lower-greatest first second c d f s NoObj lc ld = tt
  lower-greatest true second c d f s (Of l) lc ld = lc
  lower-greatest false true c d f s (Of l) lc ld = ld
  lower-greatest false false c d f s (Of l) lc ld =
      ⊎_elim (λ w. true≢false (sym w ∙ f)) (λ w. true≢false (sym w ∙ s)) (within-comparable tree l c d lc ld)
  lower-greatest first second c d f s AnyObj lc ld = absurd lc

  part-meet_left : (a b : ObjPart) → PartLeq tree (meet_part tree a b) a
  part-meet_left NoObj b = tt
  part-meet_left (Of c) NoObj = tt
  part-meet_left (Of c) (Of d) = lower-left (is_within tree c d) (is_within tree d c) c d refl
  part-meet_left (Of c) AnyObj = within-refl tree c
  part-meet_left AnyObj b = part-any b

  part-meet_right : (a b : ObjPart) → PartLeq tree (meet_part tree a b) b
  part-meet_right NoObj b = tt
  part-meet_right (Of c) NoObj = tt
  part-meet_right (Of c) (Of d) = lower-right (is_within tree c d) (is_within tree d c) c d refl
  part-meet_right (Of c) AnyObj = tt
  part-meet_right AnyObj b = part-refl b

  part-meet_greatest : (a b l : ObjPart) → PartLeq tree l a → PartLeq tree l b → PartLeq tree l (meet_part tree a b)
  part-meet_greatest NoObj b l la lb = la
  part-meet_greatest (Of c) NoObj l la lb = lb
  part-meet_greatest (Of c) (Of d) l la lb =
      lower-greatest (is_within tree c d) (is_within tree d c) c d refl refl l la lb
  part-meet_greatest (Of c) AnyObj l la lb = la
  part-meet_greatest AnyObj b l la lb = lb

  -- ---- classes of the tree

  nearest-within : (c d : ℕ) (o : Option ℕ) → nearest tree c d ≡ o → IsPartOf tree (Of c) → IsPartOf tree (of_or_any o)
  nearest-within c d None e of = tt
  nearest-within c d (Some class) e of =
      let low : class ≤ c = within-le tree c class (nearest-is tree c d class e).left in
      (omega (arith, of.0), omega (arith, of.1))

  part-join_within : (a b : ObjPart) → IsPartOf tree a → IsPartOf tree b → IsPartOf tree (join_part tree a b)
  part-join_within NoObj b of_a of_b = of_b
  part-join_within (Of c) NoObj of_a of_b = of_a
  part-join_within (Of c) (Of d) of_a of_b = nearest-within c d (nearest tree c d) refl of_a
  part-join_within (Of c) AnyObj of_a of_b = tt
  part-join_within AnyObj b of_a of_b = tt

  lower-within : (first second : Bool) (c d : ℕ) → IsPartOf tree (Of c) → IsPartOf tree (Of d)
      → IsPartOf tree (lower first second c d)
  lower-within true second c d of_c of_d = of_c
  lower-within false true c d of_c of_d = of_d
  lower-within false false c d of_c of_d = tt

  part-meet_within : (a b : ObjPart) → IsPartOf tree a → IsPartOf tree b → IsPartOf tree (meet_part tree a b)
  part-meet_within NoObj b of_a of_b = tt
  part-meet_within (Of c) NoObj of_a of_b = tt
  part-meet_within (Of c) (Of d) of_a of_b = lower-within (is_within tree c d) (is_within tree d c) c d of_a of_b
  part-meet_within (Of c) AnyObj of_a of_b = of_a
  part-meet_within AnyObj b of_a of_b = of_b

  -- ---- types

  pub types_are_ordered : IsOrder tree
  unfolding Leq
  types_are_ordered = record {
    reflexive = λ a. record { kinds = included-refl a.kinds; part = part-refl a.obj };
    transitive = λ a b c ab bc. record {
      kinds = included-trans a.kinds b.kinds c.kinds ab.kinds bc.kinds;
      part = part-trans a.obj b.obj c.obj ab.part bc.part;
    };
    antisymmetric = λ a b ab ba i. record {
      kinds = included-antisym a.kinds b.kinds ab.kinds ba.kinds i;
      obj = part-antisym a.obj b.obj ab.part ba.part i;
    };
    none_least = λ a. record { kinds = none-included a.kinds; part = tt };
    top_greatest = λ a. record { kinds = included-all a.kinds; part = part-any a.obj };
  }

  pub types_have_joins : HasJoins tree
  unfolding Leq join IsOf
  types_have_joins = record {
    above_left = λ a b. record { kinds = included-either_left a.kinds b.kinds; part = part-join_left a.obj b.obj };
    above_right = λ a b. record { kinds = included-either_right a.kinds b.kinds; part = part-join_right a.obj b.obj };
    least = λ a b c ac bc. record {
      kinds = either-included a.kinds b.kinds c.kinds ac.kinds bc.kinds;
      part = part-join_least a.obj b.obj c.obj ac.part bc.part;
    };
    within = λ a b of_a of_b. part-join_within a.obj b.obj of_a of_b;
  }

  pub types_have_meets : HasMeets tree
  unfolding Leq meet IsOf
  types_have_meets = record {
    below_left = λ a b. record { kinds = both-included_left a.kinds b.kinds; part = part-meet_left a.obj b.obj };
    below_right = λ a b. record { kinds = both-included_right a.kinds b.kinds; part = part-meet_right a.obj b.obj };
    greatest = λ a b c ca cb. record {
      kinds = included-both a.kinds b.kinds c.kinds ca.kinds cb.kinds;
      part = part-meet_greatest a.obj b.obj c.obj ca.part cb.part;
    };
    within = λ a b of_a of_b. part-meet_within a.obj b.obj of_a of_b;
  }
