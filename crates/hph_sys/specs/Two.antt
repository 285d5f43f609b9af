-- A system of two scopes: scope 0 asks int of cell 0, and scope 1 asks the type of cell 0 of cell 1.
use Rattle.std.specs.Prelude.{ℕ, zero, suc, List, [], ◌∷◌}
use Rattle.hph_type.specs.declared.kind.Kind.TheVariants.{Int}
use Rattle.hph_type.specs.Kinds.{only}
use Rattle.hph_type.specs.Types.{PhpType, none}
use Rattle.hph_sys.specs.Typings.{at}
use Rattle.hph_sys.specs.Shape.{Shape}

abbrev pub int : PhpType
int = record none { kinds = only Int }

abbrev pub two_look : ℕ → List ℕ
two_look zero = 0 ∷ []
two_look (suc scope) = 0 ∷ 1 ∷ []

abbrev pub two_readers : ℕ → List ℕ
two_readers zero = 1 ∷ []
two_readers (suc cell) = []

abbrev pub two_contrib : ℕ → List PhpType → List (ℕ × PhpType)
two_contrib zero typing = (0, int) ∷ []
two_contrib (suc scope) typing = (1, at typing 0) ∷ []

abbrev pub two : Shape
two = record {
  scopes = 2;
  cells = 2;
  owner = λ cell. cell;
  look = two_look;
  readers = two_readers;
  contrib = two_contrib;
  classes = [];
}

-- its least typing: both cells are int
abbrev pub two_least : List PhpType
two_least = int ∷ int ∷ []
