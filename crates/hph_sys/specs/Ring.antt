-- A system with a cycle of two scopes: scope 0 asks int and the type of cell 1 of cell 0, and scope 1 asks the type of
-- cell 0 and string of cell 1.
use Rattle.std.specs.Prelude.{ℕ, zero, suc, List, [], ◌∷◌}
use Rattle.hph_type.specs.declared.kind.Kind.TheVariants.{Int, Str}
use Rattle.hph_type.specs.Kinds.{only, either}
use Rattle.hph_type.specs.Types.{PhpType, none}
use Rattle.hph_sys.specs.Typings.{at}
use Rattle.hph_sys.specs.Shape.{Shape}
use Rattle.hph_sys.specs.Two.{int}

abbrev pub str : PhpType
str = record none { kinds = only Str }

abbrev pub int_or_str : PhpType
int_or_str = record none { kinds = either (only Int) (only Str) }

abbrev pub ring_readers : ℕ → List ℕ
ring_readers zero = 1 ∷ []
ring_readers (suc cell) = 0 ∷ []

abbrev pub ring_contrib : ℕ → List PhpType → List (ℕ × PhpType)
ring_contrib zero typing = (0, int) ∷ (0, at typing 1) ∷ []
ring_contrib (suc scope) typing = (1, at typing 0) ∷ (1, str) ∷ []

abbrev pub ring : Shape
ring = record {
  scopes = 2;
  cells = 2;
  owner = λ cell. cell;
  look = λ scope. 0 ∷ 1 ∷ [];
  readers = ring_readers;
  contrib = ring_contrib;
  classes = [];
}

-- its least typing: both cells are int or string
abbrev pub ring_least : List PhpType
ring_least = int_or_str ∷ int_or_str ∷ []
