-- The least typing of the system of specs/Two.antt.
use Rattle.std.proofs.Common.{◌<◌, inl, inr, ℕ, zero, suc, List, [], ◌∷◌, refl, sym, subst, arith}
use Rattle.hph_type.specs.Types.{PhpType}
use Rattle.hph_type.specs.Order.{Leq, IsOf}
use Rattle.hph_type.specs.Laws.{IsOrder}
use Rattle.hph_type.proofs.OrderLaws.{types_are_ordered}
use Rattle.hph_sys.specs.Typings.{at, Below}
use Rattle.hph_sys.specs.Shape.{IsTyping}
use Rattle.hph_sys.specs.Least.{IsMet, IsSolution, IsLeast}
use Rattle.hph_sys.specs.Two.{int, two, two_least}

abbrev order : IsOrder []
order = types_are_ordered []

types : (cell : ℕ) → IsOf [] (at two_least cell)
unfolding IsOf
types zero = tt
types (suc zero) = tt
types (suc (suc cell)) = tt

met : (scope : ℕ) → scope < 2 → IsMet two two_least scope
met zero within pair (inl same) =
    subst (λ (p : ℕ × PhpType). Leq [] p.1 (at two_least p.0)) (sym same) (order.reflexive int)
met zero within pair (inr none) = absurd none
met (suc scope) within pair (inl same) =
    subst (λ (p : ℕ × PhpType). Leq [] p.1 (at two_least p.0)) (sym same) (order.reflexive int)
met (suc scope) within pair (inr none) = absurd none

solution : IsSolution two two_least
solution = record { is_typing = record { len = refl; types = types }; met = met }

below : (typing : List PhpType) → IsSolution two typing → Below [] two_least typing
below typing is zero = is.met 0 (omega arith) (0, int) (inl refl)
below typing is (suc zero) =
    order.transitive _ _ _ (is.met 0 (omega arith) (0, int) (inl refl))
    (is.met 1 (omega arith) (1, at typing 0) (inl refl))
below typing is (suc (suc cell)) = order.none_least _

pub two_is_least : IsLeast two two_least
two_is_least = record {
  is_typing = solution.is_typing;
  below = below;
  greatest = λ lower is each. each two_least solution;
}

-- Two types without classes are a typing.
pub two_typing : (a b : PhpType) → IsOf [] a → IsOf [] b → IsTyping two (a ∷ b ∷ [])
unfolding IsOf
two_typing a b of_a of_b = record { len = refl; types = each }
  where
    each : (cell : ℕ) → IsOf [] (at (a ∷ b ∷ []) cell)
    each zero = of_a
    each (suc zero) = of_b
    each (suc (suc cell)) = tt
