-- What the events need of the order of types, and of what scopes ask.
use Rattle.std.proofs.Common.{◌≡◌, ◌≢◌, ℕ, ◌<◌, ◌≤◌, ◌+◌, List, sym, subst, arith}
use Rattle.hph_type.specs.Types.{PhpType, none}
use Rattle.hph_type.specs.Classes.{Parents}
use Rattle.hph_type.specs.Order.{Leq, IsOf, join}
use Rattle.hph_type.specs.Rank.{rank}
use Rattle.hph_type.specs.Laws.{IsOrder, HasJoins, HasRanks}
use Rattle.hph_type.proofs.OrderLaws.{types_are_ordered, types_have_joins}
use Rattle.hph_type.proofs.RankLaws.{types_have_ranks}
use Rattle.hph_sys.specs.Typings.{at, Below}
use Rattle.hph_sys.specs.Shape.{Shape, IsTyping, asked}
use Rattle.hph_sys.specs.Least.{IsMet, IsSolution}
use Rattle.hph_sys.specs.Lawful.{Lawful}
use Rattle.hph_sys.specs.AskedLaws.{met-asked}

module _ (tree : Parents) where
  pub leq_refl : (a : PhpType) → Leq tree a a
  leq_refl a = (types_are_ordered tree).reflexive a

  pub leq_trans : (a b c : PhpType) → Leq tree a b → Leq tree b c → Leq tree a c
  leq_trans a b c h k = (types_are_ordered tree).transitive a b c h k

  pub leq_antisym : (a b : PhpType) → Leq tree a b → Leq tree b a → a ≡ b
  leq_antisym a b h k = (types_are_ordered tree).antisymmetric a b h k

  pub none_least : (a : PhpType) → Leq tree none a
  none_least a = (types_are_ordered tree).none_least a

  pub none_of : IsOf tree none
  unfolding IsOf
  none_of = tt

  pub leq_join : (a b : PhpType) → Leq tree a (join tree a b)
  leq_join a b = (types_have_joins tree).above_left a b

  pub join_least : (a b c : PhpType) → Leq tree a c → Leq tree b c → Leq tree (join tree a b) c
  join_least a b c h k = (types_have_joins tree).least a b c h k

  pub rank_rises : (a b : PhpType) → IsOf tree a → IsOf tree b → Leq tree a b → b ≢ a → rank tree a + 1 ≤ rank tree b
  rank_rises a b of_a of_b h n = let r = (types_have_ranks tree).rises a b of_a of_b h (λ e. n (sym e)) in omega arith

-- Where a scope's pairs are met, what it asks of a cell is below the cell's type.
pub asked_met : (sys : Shape) (T : List PhpType) (s c : ℕ) → IsMet sys T s → Leq sys.classes (asked sys s T c) (at T c)
asked_met sys T s c met = met-asked sys T s met c

-- What a scope asks below a solution is below the solution.
pub asked_below : (sys : Shape) → Lawful sys → (s : ℕ) → s < sys.scopes → (T U : List PhpType) → IsTyping sys T → IsSolution sys U → Below sys.classes T U → (c : ℕ) → Leq sys.classes (asked sys s T c) (at U c)
asked_below sys law s in_range T U typed sol below c =
    leq_trans sys.classes (asked sys s T c) (asked sys s U c) (at U c) (law.monotone s T U in_range typed sol.is_typing below c) (asked_met sys U s c (sol.met s in_range))
