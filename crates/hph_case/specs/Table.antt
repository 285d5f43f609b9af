-- What a case table is, this project's own: a list of rows, each with a code and a tag, in which no code stands twice.
use Rattle.std.specs.Prelude.{◌≡◌, ℕ, Bool, true, false, not, ◌&&◌, ◌==◌, List, [], ◌∷◌, map, Option, Some, None, slice_get, position}
use Rattle.std.proofs.Common.{refl}
use Rattle.hph_case.specs.declared.cases.Row.{Row}

abbrev pub row : ℕ → ℕ → Row
row code tag = record { code = code; tag = tag }

-- the codes, in the rows' order
abbrev pub codes : List Row → List ℕ
codes rows = map (λ (r : Row). r.code) rows

-- ---- no code stands twice

abbrev pub is_absent : ℕ → List ℕ → Bool
is_absent c [] = true
is_absent c (d ∷ ds) = not (d == c) && is_absent c ds

abbrev pub are_distinct : List ℕ → Bool
are_distinct [] = true
are_distinct (c ∷ cs) = is_absent c cs && are_distinct cs

-- ---- look-ups

-- the code that a row has
abbrev pub code_of : List Row → ℕ → Option ℕ
code_of rows i = slice_get (codes rows) i

-- the row that has a code
abbrev pub row_of : List Row → ℕ → Option ℕ
row_of rows code = position (λ (r : Row). r.code == code) rows

-- ---- a table of two rows

distinct_codes : are_distinct (codes (row 7 0 ∷ row 3 0 ∷ [])) ≡ true
distinct_codes = refl

one_code_twice : are_distinct (codes (row 7 0 ∷ row 3 0 ∷ row 7 1 ∷ [])) ≡ false
one_code_twice = refl

second_row : row_of (row 7 0 ∷ row 3 0 ∷ []) 3 ≡ Some 1
second_row = refl

second_code : code_of (row 7 0 ∷ row 3 0 ∷ []) 1 ≡ Some 3
second_code = refl

no_such_code : row_of (row 7 0 ∷ row 3 0 ∷ []) 5 ≡ None
no_such_code = refl

no_such_row : code_of (row 7 0 ∷ row 3 0 ∷ []) 2 ≡ None
no_such_row = refl
