-- The operators of PHP (PHP manual, Operators), by codes of this project's own.
-- A code from 1 on is a binary operator, from 33 on a unary one or a cast. A tag is how many operands it has.
use Rattle.std.specs.Prelude.{◌≡◌, List, [], ◌∷◌, length, true}
use Rattle.std.proofs.Common.{refl}
use Rattle.hph_case.specs.declared.cases.Row.{Row}
use Rattle.hph_case.specs.Table.{row, codes, are_distinct}

unfoldable pub operators : List Row
operators =
    row 1 2  -- +
    ∷ row 2 2  -- -
    ∷ row 3 2  -- *
    ∷ row 4 2  -- /
    ∷ row 5 2  -- %
    ∷ row 6 2  -- **
    ∷ row 7 2  -- <<
    ∷ row 8 2  -- >>
    ∷ row 9 2  -- &
    ∷ row 10 2  -- |
    ∷ row 11 2  -- ^
    ∷ row 12 2  -- .
    ∷ row 13 2  -- <
    ∷ row 14 2  -- <=
    ∷ row 15 2  -- >
    ∷ row 16 2  -- >=
    ∷ row 17 2  -- ==
    ∷ row 18 2  -- !=
    ∷ row 19 2  -- ===
    ∷ row 20 2  -- !==
    ∷ row 21 2  -- <=>
    ∷ row 22 2  -- xor
    ∷ row 33 1  -- +
    ∷ row 34 1  -- -
    ∷ row 35 1  -- ~
    ∷ row 36 1  -- !
    ∷ row 37 1  -- (int)
    ∷ row 38 1  -- (bool)
    ∷ row 39 1  -- (string)
    ∷ row 40 1  -- (array)
    ∷ []

-- no code stands twice
pub operators-distinct : are_distinct (codes operators) ≡ true
unfolding operators
operators-distinct = refl

-- how many rows it has
pub length-operators : length operators ≡ 30
unfolding operators
length-operators = refl
