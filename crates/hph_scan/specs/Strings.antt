-- What a scan of a string in single quotes gives: PHP manual, Strings.
use Rattle.std.specs.Prelude.{◌≤◌, ℕ, List, length, drop, Option, Some, None}
use Rattle.hph_ast.specs.Strings.{Single}
use Rattle.hph_scan.specs.declared.single.Quoted.{Quoted}

-- a text and how many bytes spell it, with its closing quote
pub record IsQuoted (bs : List ℕ) (found : Quoted) : Type 0 where
  pub is : Single bs found.text (drop found.length bs)
  pub within : found.length ≤ length bs

-- behind the opening single quote: the string, or none where it isn't closed
abbrev pub IsSingleQuoted : List ℕ → Option Quoted → Type 0
IsSingleQuoted bs (Some found) = IsQuoted bs found
IsSingleQuoted bs None = (text rest : List ℕ) → Single bs text rest → ⊥
