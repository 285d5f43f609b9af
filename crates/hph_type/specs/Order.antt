-- The order of types, with its bounds. Source: this project's own; a class is below the classes that it extends.
use Rattle.std.specs.Prelude.{◌<◌, ◌^◌, ℕ, IsTrue, Option, None, Some, length, if◌then◌else◌}
use Rattle.hph_type.specs.declared.object.ObjPart.{ObjPart}
use Rattle.hph_type.specs.declared.object.ObjPart.TheVariants.{NoObj, Of, AnyObj}
use Rattle.hph_type.specs.Kinds.{AreIncluded, either, both}
use Rattle.hph_type.specs.Types.{PhpType}
use Rattle.hph_type.specs.Classes.{Parents, is_within, nearest}

-- The classes that an object part names are the tree's, whose numbers have 32 bits.
abbrev pub IsPartOf : Parents → ObjPart → Type 0
IsPartOf tree (Of class) = (class < length tree) × (class < 2 ^ 32)
IsPartOf tree _ = Unit {0}

-- The classes that a type names are the tree's.
unfoldable pub IsOf : Parents → PhpType → Type 0
IsOf tree t = IsPartOf tree t.obj

-- No object is below the objects of a class, those below the objects of its ancestors, and all of these below any object.
abbrev pub PartLeq : Parents → ObjPart → ObjPart → Type 0
PartLeq tree NoObj b = Unit {0}
PartLeq tree (Of c) NoObj = ⊥
PartLeq tree (Of c) (Of d) = IsTrue (is_within tree c d)
PartLeq tree (Of c) AnyObj = Unit {0}
PartLeq tree AnyObj NoObj = ⊥
PartLeq tree AnyObj (Of d) = ⊥
PartLeq tree AnyObj AnyObj = Unit {0}

-- One type is below another: its kinds are among the other's, and its object part is below the other's.
pub record IsBelow (tree : Parents) (a b : PhpType) : Type 0 where
  pub kinds : AreIncluded a.kinds b.kinds
  pub part : PartLeq tree a.obj b.obj

unfoldable pub Leq : Parents → PhpType → PhpType → Type 0
Leq tree a b = IsBelow tree a b

-- the objects of a class if there is one, else all
abbrev pub of_or_any : Option ℕ → ObjPart
of_or_any None = AnyObj
of_or_any (Some class) = Of class

-- the objects of the nearest class that both extend
abbrev pub join_part : Parents → ObjPart → ObjPart → ObjPart
join_part tree NoObj b = b
join_part tree (Of c) NoObj = Of c
join_part tree (Of c) (Of d) = of_or_any (nearest tree c d)
join_part tree (Of c) AnyObj = AnyObj
join_part tree AnyObj b = AnyObj

-- the lower of two object parts if one is below the other, else no object
abbrev pub meet_part : Parents → ObjPart → ObjPart → ObjPart
meet_part tree NoObj b = NoObj
meet_part tree (Of c) NoObj = NoObj
meet_part tree (Of c) (Of d) =
    if is_within tree c d then Of c else (if is_within tree d c then Of d else NoObj)
meet_part tree (Of c) AnyObj = Of c
meet_part tree AnyObj b = b

-- the union, with the nearest common ancestor
unfoldable pub join : Parents → PhpType → PhpType → PhpType
join tree a b = record { kinds = either a.kinds b.kinds; obj = join_part tree a.obj b.obj }

-- the intersection, with the lower of two comparable object parts
unfoldable pub meet : Parents → PhpType → PhpType → PhpType
meet tree a b = record { kinds = both a.kinds b.kinds; obj = meet_part tree a.obj b.obj }
