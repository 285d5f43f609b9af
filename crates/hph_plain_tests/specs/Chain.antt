-- A chain of three scopes over a class with two that extend it: scope 0 asks the first of these of cell 0, scope 1 asks the
-- type of cell 0 of cell 1, and scope 2 asks the type of cell 1, and the other of the classes, of cell 2.
use Rattle.std.specs.Prelude.{ℕ, zero, suc, List, [], ◌∷◌, Some, None}
use Rattle.hph_type.specs.declared.object.ObjPart.TheVariants.{Of}
use Rattle.hph_type.specs.Types.{PhpType, none}
use Rattle.hph_type.specs.Classes.{Parents}
use Rattle.hph_sys.specs.Typings.{at}
use Rattle.hph_sys.specs.Shape.{Shape}

abbrev pub parents : Parents
parents = None ∷ Some 0 ∷ Some 0 ∷ []

abbrev pub object_of : ℕ → PhpType
object_of class = record none { obj = Of class }

abbrev pub chain_look : ℕ → List ℕ
chain_look zero = 0 ∷ []
chain_look (suc zero) = 0 ∷ 1 ∷ []
chain_look (suc (suc scope)) = 1 ∷ 2 ∷ []

abbrev pub chain_readers : ℕ → List ℕ
chain_readers zero = 1 ∷ []
chain_readers (suc zero) = 2 ∷ []
chain_readers (suc (suc cell)) = []

abbrev pub chain_contrib : ℕ → List PhpType → List (ℕ × PhpType)
chain_contrib zero typing = (0, object_of 1) ∷ []
chain_contrib (suc zero) typing = (1, at typing 0) ∷ []
chain_contrib (suc (suc scope)) typing = (2, at typing 1) ∷ (2, object_of 2) ∷ []

abbrev pub chain : Shape
chain = record {
  scopes = 3;
  cells = 3;
  owner = λ cell. cell;
  look = chain_look;
  readers = chain_readers;
  contrib = chain_contrib;
  classes = parents;
}
