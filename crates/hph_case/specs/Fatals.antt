-- The kinds of fatal errors that end a program, this project's own.
-- A kind takes nothing, so each tag is 0.
use Rattle.std.specs.Prelude.{◌≡◌, List, [], ◌∷◌, length, true}
use Rattle.std.proofs.Common.{refl}
use Rattle.hph_case.specs.declared.cases.Row.{Row}
use Rattle.hph_case.specs.Table.{row, codes, are_distinct}

unfoldable pub fatals : List Row
fatals =
    row 1 0  -- Overflow
    ∷ row 2 0  -- Float
    ∷ row 3 0  -- DivZero
    ∷ row 4 0  -- NegativeShift
    ∷ row 5 0  -- BadOperand
    ∷ row 6 0  -- ObjectUse
    ∷ row 7 0  -- StringIncrement
    ∷ row 8 0  -- ArrayOrder
    ∷ row 9 0  -- ObjectCompare
    ∷ row 10 0  -- IllegalOffset
    ∷ row 11 0  -- AppendFull
    ∷ row 12 0  -- StringOffset
    ∷ row 13 0  -- ScalarWrite
    ∷ row 14 0  -- TooFewArguments
    ∷ row 15 0  -- BadArgument
    ∷ row 16 0  -- UndefinedFunction
    ∷ row 17 0  -- UndefinedClass
    ∷ row 18 0  -- UndefinedMethod
    ∷ row 19 0  -- UndefinedProperty
    ∷ row 20 0  -- UndefinedConstant
    ∷ row 21 0  -- Redeclare
    ∷ row 22 0  -- NotObject
    ∷ row 23 0  -- Inaccessible
    ∷ row 24 0  -- StaticCall
    ∷ row 25 0  -- Misuse
    ∷ []

-- no code stands twice
pub fatals-distinct : are_distinct (codes fatals) ≡ true
unfolding fatals
fatals-distinct = refl

-- how many rows it has
pub length-fatals : length fatals ≡ 25
unfolding fatals
length-fatals = refl
