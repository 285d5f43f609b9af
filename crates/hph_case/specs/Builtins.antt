-- The functions of PHP that are built in (PHP manual, Function Reference), by codes of this project's own.
-- A tag is how many arguments a call has at least.
use Rattle.std.specs.Prelude.{◌≡◌, List, [], ◌∷◌, length, true}
use Rattle.std.proofs.Common.{refl}
use Rattle.hph_case.specs.declared.cases.Row.{Row}
use Rattle.hph_case.specs.Table.{row, codes, are_distinct}

unfoldable pub builtins : List Row
builtins =
    row 1 1  -- strlen
    ∷ row 2 1  -- count
    ∷ row 3 2  -- intdiv
    ∷ row 4 1  -- abs
    ∷ row 5 1  -- ord
    ∷ row 6 1  -- chr
    ∷ row 7 2  -- substr
    ∷ row 8 2  -- strpos
    ∷ row 9 2  -- str_repeat
    ∷ row 10 1  -- strrev
    ∷ row 11 1  -- strtolower
    ∷ row 12 1  -- strtoupper
    ∷ row 13 1  -- trim
    ∷ row 14 2  -- implode
    ∷ row 15 2  -- explode
    ∷ row 16 1  -- array_keys
    ∷ row 17 1  -- array_values
    ∷ row 18 1  -- array_push
    ∷ row 19 1  -- array_pop
    ∷ row 20 2  -- in_array
    ∷ row 21 2  -- array_key_exists
    ∷ row 22 1  -- is_int
    ∷ row 23 1  -- is_string
    ∷ row 24 1  -- is_bool
    ∷ row 25 1  -- is_array
    ∷ row 26 1  -- is_null
    ∷ row 27 1  -- is_object
    ∷ row 28 1  -- var_dump
    ∷ []

-- no code stands twice
pub builtins-distinct : are_distinct (codes builtins) ≡ true
unfolding builtins
builtins-distinct = refl

-- how many rows it has
pub length-builtins : length builtins ≡ 28
unfolding builtins
length-builtins = refl
