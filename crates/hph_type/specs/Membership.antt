-- What has a type, said of a value's kind and of an object's classes. Source: this project's own.
use Rattle.std.specs.Prelude.{◌≡◌, ℕ, IsTrue, Some, List, Contains}
use Rattle.hph_type.specs.declared.kind.Kind.{Kind}
use Rattle.hph_type.specs.declared.object.ObjPart.{ObjPart}
use Rattle.hph_type.specs.declared.object.ObjPart.TheVariants.{NoObj, Of, AnyObj}
use Rattle.hph_type.specs.Kinds.{holds}
use Rattle.hph_type.specs.Types.{PhpType}
use Rattle.hph_type.specs.Classes.{Parents, parent_of}

-- A value of a kind has a type where the kind is in its set.
unfoldable pub HasKind : PhpType → Kind → Type 0
HasKind t kind = IsTrue (holds t.kinds kind)

-- An object part holds an object that is of these classes of the tree, its own and its ancestors.
abbrev pub HoldsObject : ObjPart → List ℕ → Type 0
HoldsObject NoObj classes = ⊥
HoldsObject (Of class) classes = Contains classes class
HoldsObject AnyObj classes = Unit {0}

-- An object of these classes has a type where the type's object part holds it.
unfoldable pub HasObject : PhpType → List ℕ → Type 0
HasObject t classes = HoldsObject t.obj classes

-- Classes that have the parent of each of them, as the classes of an object do.
pub record AreWithParents (tree : Parents) (classes : List ℕ) : Type 0 where
  pub up : (class parent : ℕ) → Contains classes class → parent_of tree class ≡ Some parent → Contains classes parent
