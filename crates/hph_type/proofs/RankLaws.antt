-- Ranks rise with types, up to the height of the tree.
use Rattle.std.proofs.Common.{◌≡◌, ◌<◌, ◌≤◌, ◌+◌, ◌⊎◌, inl, inr, length, ap, refl, arith}
use Rattle.std.proofs.lemmas.Bool.{cases_lt}
use Rattle.hph_type.specs.declared.object.ObjPart.{ObjPart}
use Rattle.hph_type.specs.declared.object.ObjPart.TheVariants.{NoObj, Of, AnyObj}
use Rattle.hph_type.specs.Classes.{Parents, depth, deepest, height}
use Rattle.hph_type.specs.Order.{IsPartOf, IsOf, PartLeq, Leq}
use Rattle.hph_type.specs.Rank.{size, part_rank, rank}
use Rattle.hph_type.specs.Laws.{HasRanks}
use Rattle.hph_type.proofs.ClassLaws.{deeper, deepest-below}
use Rattle.hph_type.proofs.KindLaws.{size-le, size-same, size-bound}

module _ (tree : Parents) where
  -- An object part that is below another has no greater rank, and an equal one only if it is that part.
  part-rises : (a b : ObjPart) → IsPartOf tree a → IsPartOf tree b → PartLeq tree a b
      → (a ≡ b) ⊎ (part_rank tree a < part_rank tree b)
  part-rises NoObj NoObj of_a of_b le = inl refl
  part-rises NoObj (Of d) of_a of_b le = inr (omega arith)
  part-rises NoObj AnyObj of_a of_b le = inr (omega arith)
  part-rises (Of c) NoObj of_a of_b le = absurd le
  part-rises (Of c) (Of d) of_a of_b le =
      elim (deeper tree c d le) [
        | inl same ↦ inl (ap Of same)
        | inr less ↦
            let low : depth tree c ≤ deepest tree = deepest-below tree (length tree) c of_a.0 in
            inr (omega arith)
      ]
  part-rises (Of c) AnyObj of_a of_b le = inr (omega arith)
  part-rises AnyObj NoObj of_a of_b le = absurd le
  part-rises AnyObj (Of d) of_a of_b le = absurd le
  part-rises AnyObj AnyObj of_a of_b le = inl refl

  part-bounded : (a : ObjPart) → part_rank tree a ≤ 2 + deepest tree
  part-bounded NoObj = omega arith
  part-bounded (Of c) = omega arith
  part-bounded AnyObj = omega arith

  pub types_have_ranks : HasRanks tree
  unfolding rank height Leq IsOf
  types_have_ranks = record {
    none_zero = refl;
    rises = λ a b of_a of_b le other.
        let kinds : size a.kinds ≤ size b.kinds = size-le a.kinds b.kinds le.kinds in
        elim (part-rises a.obj b.obj of_a of_b le.part) [
          | inl same ↦
              let equal : part_rank tree a.obj ≡ part_rank tree b.obj = ap (part_rank tree) same in
              elim (cases_lt (size a.kinds) (size b.kinds)) [
                | inl less ↦ omega arith
                | inr full ↦ absurd (other (λ i. record {
                  kinds = size-same a.kinds b.kinds le.kinds (omega arith) i;
                  obj = same i;
                }))
              ]
          | inr less ↦ omega arith
        ];
    bounded = λ a of_a.
        let kinds : size a.kinds ≤ 5 = size-bound a.kinds in
        let part : part_rank tree a.obj ≤ 2 + deepest tree = part-bounded a.obj in
        omega arith;
  }
