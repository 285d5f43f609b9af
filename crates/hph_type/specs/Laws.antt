-- What the definitions of this crate are worth. The functions of src/laws.rt show these.
use Rattle.std.specs.Prelude.{◌≡◌, ◌≢◌, ◌<◌, ◌≤◌, ◌^◌, ℕ, List, [], Some}
use Rattle.hph_type.specs.declared.kind.Kind.{Kind}
use Rattle.hph_type.specs.Types.{PhpType, none, top}
use Rattle.hph_type.specs.Classes.{Parents, chain, height}
use Rattle.hph_type.specs.Order.{Leq, IsOf, join, meet}
use Rattle.hph_type.specs.Codes.{code, of_code}
use Rattle.hph_type.specs.Rank.{rank}
use Rattle.hph_type.specs.Membership.{HasKind, HasObject, AreWithParents}

-- Types are partly ordered, from the empty type to the type of all values.
pub record IsOrder (tree : Parents) : Type 0 where
  pub reflexive : (a : PhpType) → Leq tree a a
  pub transitive : (a b c : PhpType) → Leq tree a b → Leq tree b c → Leq tree a c
  pub antisymmetric : (a b : PhpType) → Leq tree a b → Leq tree b a → a ≡ b
  pub none_least : (a : PhpType) → Leq tree none a
  pub top_greatest : (a : PhpType) → Leq tree a top

-- The join of two types is their least upper bound.
pub record HasJoins (tree : Parents) : Type 0 where
  pub above_left : (a b : PhpType) → Leq tree a (join tree a b)
  pub above_right : (a b : PhpType) → Leq tree b (join tree a b)
  pub least : (a b c : PhpType) → Leq tree a c → Leq tree b c → Leq tree (join tree a b) c
  -- it names classes of the tree alone
  pub within : (a b : PhpType) → IsOf tree a → IsOf tree b → IsOf tree (join tree a b)

-- The meet of two types is their greatest lower bound.
pub record HasMeets (tree : Parents) : Type 0 where
  pub below_left : (a b : PhpType) → Leq tree (meet tree a b) a
  pub below_right : (a b : PhpType) → Leq tree (meet tree a b) b
  pub greatest : (a b c : PhpType) → Leq tree c a → Leq tree c b → Leq tree c (meet tree a b)
  pub within : (a b : PhpType) → IsOf tree a → IsOf tree b → IsOf tree (meet tree a b)

-- A type of the tree that rises has a greater rank, and no rank is above the height of the tree.
pub record HasRanks (tree : Parents) : Type 0 where
  pub none_zero : rank tree none ≡ 0
  pub rises : (a b : PhpType) → IsOf tree a → IsOf tree b → Leq tree a b → a ≢ b → rank tree a < rank tree b
  pub bounded : (a : PhpType) → IsOf tree a → rank tree a ≤ height tree

-- A type of the tree is told by its code, which has 64 bits, and a number that tells a type is its code.
pub record HasCodes (tree : Parents) : Type 0 where
  pub told : (t : PhpType) → IsOf tree t → of_code (code t) ≡ Some t
  pub fits : (t : PhpType) → IsOf tree t → code t < 2 ^ 64
  pub only : (number : ℕ) (t : PhpType) → of_code number ≡ Some t → code t ≡ number

-- What has a type has each type above it.
pub record Grows (tree : Parents) : Type 0 where
  pub kinds : (a b : PhpType) (kind : Kind) → Leq tree a b → HasKind a kind → HasKind b kind
  pub objects : (a b : PhpType) (classes : List ℕ) → AreWithParents tree classes → Leq tree a b → HasObject a classes
      → HasObject b classes
  -- the classes of an object are none of the tree, or a class with its ancestors
  pub without_classes : AreWithParents tree []
  pub with_chain : (class : ℕ) → AreWithParents tree (chain tree class)
