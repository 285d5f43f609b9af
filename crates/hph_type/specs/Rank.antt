-- How far a type is above the empty one. Source: this project's own.
use Rattle.std.specs.Prelude.{◌+◌, ◌-◌, ℕ}
use Rattle.hph_type.specs.declared.object.ObjPart.{ObjPart}
use Rattle.hph_type.specs.declared.object.ObjPart.TheVariants.{NoObj, Of, AnyObj}
use Rattle.hph_type.specs.Kinds.{Kinds, count}
use Rattle.hph_type.specs.Types.{PhpType}
use Rattle.hph_type.specs.Classes.{Parents, depth, deepest}

-- how many kinds a set has
abbrev pub size : Kinds → ℕ
size kinds = count kinds.null + count kinds.bool + count kinds.int + count kinds.str + count kinds.arr

-- 1 for the objects of a class of the greatest depth, and 1 more for each class above it and for all objects
abbrev pub part_rank : Parents → ObjPart → ℕ
part_rank tree NoObj = 0
part_rank tree (Of class) = 1 + (deepest tree - depth tree class)
part_rank tree AnyObj = 2 + deepest tree

-- the number of kinds and the rank of the object part
unfoldable pub rank : Parents → PhpType → ℕ
rank tree t = size t.kinds + part_rank tree t.obj
