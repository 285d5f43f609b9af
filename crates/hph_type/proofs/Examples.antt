-- Types worked by the definitions, in the tree of five classes A, B extends A, C extends A, D and E extends B. The
-- codes are worked out by hand from the places of their bits.
use Rattle.std.proofs.Common.{◌≡◌, ◌^◌, true, false, [], ◌∷◌, None, Some, refl}
use Rattle.hph_type.specs.declared.kind.Kind.TheVariants.{Int, Str, Arr}
use Rattle.hph_type.specs.declared.object.ObjPart.{ObjPart}
use Rattle.hph_type.specs.declared.object.ObjPart.TheVariants.{Of, AnyObj}
use Rattle.hph_type.specs.Kinds.{either, only, without}
use Rattle.hph_type.specs.Types.{PhpType, none, top}
use Rattle.hph_type.specs.Classes.{Parents, parent_of, climb, chain, is_within, nearest, ancestors, deepest_below, height}
use Rattle.hph_type.specs.Order.{join, meet}
use Rattle.hph_type.specs.Codes.{code, of_code}
use Rattle.hph_type.specs.Rank.{rank}

-- A, B, C, D, E are 0 to 4
abbrev tree : Parents
tree = None ∷ Some 0 ∷ Some 0 ∷ None ∷ Some 1 ∷ []

abbrev objects : ObjPart → PhpType
objects part = record none { obj = part }

chain_of_e : chain tree 4 ≡ 4 ∷ 1 ∷ 0 ∷ []
unfolding chain climb parent_of
chain_of_e = refl

-- E extends A, and A doesn't extend E.
e_within_a : is_within tree 4 0 ≡ true
unfolding is_within chain climb parent_of
e_within_a = refl

a_not_within_e : is_within tree 0 4 ≡ false
unfolding is_within chain climb parent_of
a_not_within_e = refl

-- E and C have A in common, though E's parent is B.
join_to_common_ancestor : join tree (objects (Of 4)) (objects (Of 2)) ≡ objects (Of 0)
unfolding join nearest is_within chain climb parent_of
join_to_common_ancestor = refl

-- A class that the other extends is the nearest.
join_to_ancestor : join tree (objects (Of 1)) (objects (Of 4)) ≡ objects (Of 1)
unfolding join nearest is_within chain climb parent_of
join_to_ancestor = refl

-- E and D have no ancestor in common.
join_to_any_object : join tree (objects (Of 4)) (objects (Of 3)) ≡ objects AnyObj
unfolding join nearest is_within chain climb parent_of
join_to_any_object = refl

-- int joined with string has both kinds.
join_of_kinds : join tree (record none { kinds = only Int }) (record none { kinds = only Str })
    ≡ record none { kinds = either (only Int) (only Str) }
unfolding join
join_of_kinds = refl

meet_to_lower : meet tree (objects (Of 1)) (objects (Of 4)) ≡ objects (Of 4)
unfolding meet is_within chain climb parent_of
meet_to_lower = refl

-- No class is below both B and C.
meet_of_siblings : meet tree (objects (Of 1)) (objects (Of 2)) ≡ none
unfolding meet is_within chain climb parent_of
meet_of_siblings = refl

meet_with_top : meet tree top (objects (Of 3)) ≡ objects (Of 3)
unfolding meet
meet_with_top = refl

-- E is two classes below A.
height_of_tree : height tree ≡ 9
unfolding height deepest_below ancestors climb parent_of
height_of_tree = refl

height_without_classes : height [] ≡ 7
unfolding height deepest_below
height_without_classes = refl

-- A rises to E's depth of 2.
rank_of_a : rank tree (objects (Of 0)) ≡ 3
unfolding rank deepest_below ancestors climb parent_of
rank_of_a = refl

rank_of_top : rank tree top ≡ 9
unfolding rank deepest_below ancestors climb parent_of
rank_of_top = refl

-- Bits 2 and 3 are int and string, bit 5 says a class, and the class stands from bit 8 on: 4 + 8 + 32 + 4 * 256.
code_of_class : code (record { kinds = either (only Int) (only Str); obj = Of 4 }) ≡ 1068
unfolding code
code_of_class = refl

-- All kinds are 31, and bit 6 says any object.
code_of_top : code top ≡ 95
unfolding code
code_of_top = refl

code_of_none : code none ≡ 0
unfolding code
code_of_none = refl

-- The greatest class fills bits 8 to 39: 32 + (2^32 - 1) * 256.
code_of_greatest_class : code (objects (Of 4294967295)) ≡ 1099511627552
unfolding code
code_of_greatest_class = refl

class_of_code : of_code 1068 ≡ Some (record { kinds = either (only Int) (only Str); obj = Of 4 })
unfolding of_code code
class_of_code = refl

-- Bits 5 and 6 are never both set.
two_object_parts : of_code 96 ≡ None
unfolding of_code code
two_object_parts = refl

-- Bit 7 is never set.
stray_bit : of_code 128 ≡ None
unfolding of_code code
stray_bit = refl

-- Only a class's own part has a class.
class_without_part : of_code 256 ≡ None
unfolding of_code code
class_without_part = refl

-- No bit past 39 is set.
high_bit : of_code (2 ^ 40) ≡ None
unfolding of_code code
high_bit = refl

-- A set without a kind that it lacks is itself.
without_absent : without (only Int) Arr ≡ only Int
without_absent = refl
