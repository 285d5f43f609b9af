-- The functions that a module imports from `php1`, this project's own.
-- A code is the number of the import. A tag is how many parameters it has; what it takes from the host's stacks isn't counted.
use Rattle.std.specs.Prelude.{◌≡◌, List, [], ◌∷◌, length, true}
use Rattle.std.proofs.Common.{refl}
use Rattle.hph_case.specs.declared.cases.Row.{Row}
use Rattle.hph_case.specs.Table.{row, codes, are_distinct}

unfoldable pub imports : List Row
imports =
    row 0 2  -- write
    ∷ row 1 0  -- null
    ∷ row 2 1  -- bool
    ∷ row 3 1  -- int
    ∷ row 4 2  -- str
    ∷ row 5 0  -- arr
    ∷ row 6 0  -- drop
    ∷ row 7 0  -- dup
    ∷ row 8 1  -- get
    ∷ row 9 1  -- set
    ∷ row 10 1  -- ref
    ∷ row 11 0  -- this
    ∷ row 12 2  -- bind
    ∷ row 13 2  -- bind_global
    ∷ row 14 2  -- bind_static
    ∷ row 15 1  -- unset
    ∷ row 16 1  -- op2
    ∷ row 17 1  -- op1
    ∷ row 18 0  -- truth
    ∷ row 19 0  -- pop_int
    ∷ row 20 0  -- pop_bool
    ∷ row 21 0  -- step_key
    ∷ row 22 0  -- step_append
    ∷ row 23 0  -- step_prop
    ∷ row 24 1  -- path_get
    ∷ row 25 1  -- path_set
    ∷ row 26 2  -- path_op
    ∷ row 27 2  -- path_inc
    ∷ row 28 1  -- path_try
    ∷ row 29 1  -- path_keep
    ∷ row 30 1  -- path_unset
    ∷ row 31 2  -- path_push
    ∷ row 32 1  -- path_pop
    ∷ row 33 0  -- elem
    ∷ row 34 0  -- elem_key
    ∷ row 35 0  -- hold
    ∷ row 36 0  -- held
    ∷ row 37 0  -- unhold
    ∷ row 38 0  -- iter
    ∷ row 39 0  -- next
    ∷ row 40 0  -- echo
    ∷ row 41 1  -- fn_declare
    ∷ row 42 0  -- fn_find
    ∷ row 43 2  -- builtin
    ∷ row 44 4  -- enter
    ∷ row 45 5  -- enter_m
    ∷ row 46 0  -- leave
    ∷ row 47 1  -- class_begin
    ∷ row 48 2  -- class_method
    ∷ row 49 2  -- class_prop
    ∷ row 50 1  -- class_const
    ∷ row 51 1  -- class_end
    ∷ row 52 0  -- class_known
    ∷ row 53 0  -- class
    ∷ row 54 1  -- class_decl
    ∷ row 55 1  -- class_parent
    ∷ row 56 0  -- class_static
    ∷ row 57 0  -- class_new
    ∷ row 58 1  -- parent_init
    ∷ row 59 0  -- prop_init
    ∷ row 60 0  -- ctor
    ∷ row 61 0  -- method
    ∷ row 62 1  -- smethod
    ∷ row 63 0  -- const_find
    ∷ row 64 0  -- sprop
    ∷ row 65 0  -- loc_init
    ∷ row 66 0  -- instance
    ∷ row 67 0  -- const_set
    ∷ row 68 0  -- const_get
    ∷ row 69 1  -- once
    ∷ row 70 0  -- exit
    ∷ row 71 1  -- fatal
    ∷ []

-- no code stands twice
pub imports-distinct : are_distinct (codes imports) ≡ true
unfolding imports
imports-distinct = refl

-- how many rows it has
pub length-imports : length imports ≡ 72
unfolding imports
length-imports = refl
