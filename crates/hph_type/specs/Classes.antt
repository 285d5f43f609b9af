-- Trees of classes. Source: PHP manual, 'Object Inheritance': a class extends at most one class, its parent.
use Rattle.std.specs.Prelude.{◌≡◌, ◌<◌, ◌≤◌, ◌+◌, ◌^◌, ◌==◌, ℕ, zero, suc, Bool, List, [], ◌∷◌, Option, None, Some, length, slice_get, max, find, nat_lt, if◌then◌else◌}
use Rattle.std.specs.List.{list_any}

-- The parent of each class at its number, None for a class that extends none.
abbrev pub Parents : Type 0
Parents = List (Option ℕ)

-- Each parent has a smaller number than the class.
abbrev pub AreBefore : Parents → Type 0
AreBefore tree = (class parent : ℕ) → slice_get tree class ≡ Some (Some parent) → parent < class

-- the parent that stands at a class, if it has a smaller number
abbrev pub before : ℕ → Option (Option ℕ) → Option ℕ
before class None = None
before class (Some None) = None
before class (Some (Some parent)) = if nat_lt parent class then Some parent else None

-- the parent of a class
unfoldable pub parent_of : Parents → ℕ → Option ℕ
parent_of tree class = before class (slice_get tree class)

-- a class, its parent, its parent's parent and so on, at most a number of them
unfoldable pub climb : Parents → ℕ → Option ℕ → List ℕ
climb tree zero class = []
climb tree (suc n) None = []
climb tree (suc n) (Some class) = class ∷ climb tree n (parent_of tree class)

-- a class and its ancestors, from the class up; there are at most as many as numbers up to its own
unfoldable pub chain : Parents → ℕ → List ℕ
chain tree class = climb tree (suc class) (Some class)

-- whether a class is another one or extends it
unfoldable pub is_within : Parents → ℕ → ℕ → Bool
is_within tree class ancestor = list_any (λ c. c == ancestor) (chain tree class)

-- the nearest class that both of two classes are or extend
unfoldable pub nearest : Parents → ℕ → ℕ → Option ℕ
nearest tree a b = find (λ c. is_within tree b c) (chain tree a)

-- the ancestors of a class, from its parent up
unfoldable pub ancestors : Parents → ℕ → List ℕ
ancestors tree class = climb tree class (parent_of tree class)

-- how many ancestors a class has
abbrev pub depth : Parents → ℕ → ℕ
depth tree class = length (ancestors tree class)

-- the greatest depth of the classes below a number
unfoldable pub deepest_below : Parents → ℕ → ℕ
deepest_below tree zero = 0
deepest_below tree (suc class) = max (deepest_below tree class) (depth tree class)

-- the greatest depth of a class, 0 where there is none
abbrev pub deepest : Parents → ℕ
deepest tree = deepest_below tree (length tree)

-- What a tree keeps: parents with smaller numbers, and the greatest depth, which fits.
pub record MakeTree (tree : Parents) (depth : ℕ) : Type 0 where
  pub before : AreBefore tree
  pub depth_is : depth ≡ deepest tree
  pub fits : depth ≤ 2 ^ 32

-- The longest rising chain of types from the empty one has this many steps: five kinds, the object part of a class of
-- the greatest depth, those of its ancestors, and all objects.
unfoldable pub height : Parents → ℕ
height tree = 7 + deepest tree
