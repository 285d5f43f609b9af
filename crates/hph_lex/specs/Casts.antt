-- A cast as the code tells it: what it is, and how many bytes it takes.
use Rattle.std.specs.Prelude.{◌≡◌, ℕ, List, Option, Some, None}
use Rattle.hph_ast.specs.Marks.{cast_of, cast_length}
use Rattle.hph_lex.specs.Tables.{spelled}
use Rattle.hph_lex.specs.declared.spelled.Spelled.{Spelled}

pub record IsCast (bs : List ℕ) (what : Spelled) (n : ℕ) : Type 0 where
  pub is : cast_of bs ≡ Some (spelled what)
  pub length_is : n ≡ cast_length bs

abbrev pub CastOf : List ℕ → Option (Spelled × ℕ) → Type 0
CastOf bs None = cast_of bs ≡ None
CastOf bs (Some found) = IsCast bs found.0 found.1
