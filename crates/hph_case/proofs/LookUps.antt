-- The look-ups of a table in which no code stands twice are inverse to each other.
use Rattle.std.proofs.Common.{◌≡◌, refl, sym, ap, ◌∙◌, ℕ, zero, suc, ◌+◌, Bool, true, false, not, ◌==◌, ◌&&◌, arith, List, [], ◌∷◌, length, get_or, slice_get, Some, None, option_map, ◌<◌, nat_lt, ltb-true, eqb-true, eq-eqb, ne_eqb, add-zero}
use Rattle.std.proofs.lemmas.Iterator.Adapters.{position_from-zero}
use Rattle.std.proofs.lemmas.List.Quantifiers.{position-Some}
use Rattle.std.proofs.lemmas.Option.{slice_get-get_or, slice_get-map, slice_get_read}
use Rattle.std.specs.List.{position_from}
use Rattle.hph_case.specs.declared.cases.Row.{Row}
use Rattle.hph_case.specs.Table.{row, codes, is_absent, are_distinct, row_of, code_of}

-- the row that is found has the code
pub row_of-Some : (rows : List Row) (code i : ℕ) → row_of rows code ≡ Some i → code_of rows i ≡ Some code
row_of-Some rows code i h =
    let at = position-Some (λ (r : Row). r.code == code) rows i (row 0 0) h in
    let here : slice_get rows i ≡ Some (get_or rows i (row 0 0)) = slice_get-get_or rows i (row 0 0) at.0 in
    slice_get-map (λ (r : Row). r.code) rows i ∙ ap (option_map (λ (r : Row). r.code)) here ∙ ap Some (eqb-true _ _ at.1)

-- two tests that are both passed
both : (a b : Bool) → (a && b) ≡ true → (a ≡ true) × (b ≡ true)
both true b h = (refl, h)
both false b h = let no : ⊥ = cc in absurd no

-- a code that is absent stands nowhere
absent : (c : ℕ) (cs : List ℕ) (k : ℕ) → is_absent c cs ≡ true → slice_get cs k ≡ Some c → ⊥
absent c [] k h at = cc
absent c (d ∷ ds) zero h at =
    let same : d ≡ c = cc in
    let differ : not (d == c) ≡ true = (both (not (d == c)) (is_absent c ds) h).0 in
    let equal : (d == c) ≡ true = eq-eqb d c same in
    cc
absent c (d ∷ ds) (suc k) h at = absent c ds k (both (not (d == c)) (is_absent c ds) h).1 at

-- a code that stands at a row is found there, where the rows are counted from n
from_row : (rows : List Row) (code n k : ℕ) → are_distinct (codes rows) ≡ true → code_of rows k ≡ Some code
    → position_from (λ (r : Row). r.code == code) n rows ≡ Some (n + k)
from_row [] code n k d at = let no : ⊥ = cc in absurd no
from_row (r ∷ rows) code n zero d at =
    let same : r.code ≡ code = cc in
    let here : (r.code == code) ≡ true = eq-eqb r.code code same in
    rw here (ap Some (sym (add-zero n)))
from_row (r ∷ rows) code n (suc k) d at =
    let parts = both (is_absent r.code (codes rows)) (are_distinct (codes rows)) d in
    let other : (r.code == code) ≡ false = ne_eqb r.code code (λ (e : r.code ≡ code). absent r.code (codes rows) k parts.0 (at ∙ ap Some (sym e))) in
    rw other (from_row rows code (n + 1) k parts.1 at ∙ ap Some (omega arith))

-- the code of a row is found at that row
pub code_of-Some : (rows : List Row) (code i : ℕ) → are_distinct (codes rows) ≡ true → code_of rows i ≡ Some code → row_of rows code ≡ Some i
code_of-Some rows code i distinct at =
    position_from-zero (λ (r : Row). r.code == code) rows ∙ from_row rows code 0 i distinct at ∙ ap Some (omega arith)

-- a code that is not found is the code of no row
pub row_of-None : (rows : List Row) (code : ℕ) → are_distinct (codes rows) ≡ true → row_of rows code ≡ None → (i : ℕ) → code_of rows i ≡ Some code → ⊥
row_of-None rows code distinct none i at = let found = code_of-Some rows code i distinct at in cc

-- the row that is read at a place has the code of that place
read : (rows : List Row) (i : ℕ) (r : Row) → i < length rows → r ≡ get_or rows i r → code_of rows i ≡ Some r.code
read rows i r within is =
    slice_get-map (λ (s : Row). s.code) rows i ∙ ap (option_map (λ (s : Row). s.code)) (slice_get_read rows (length rows) i r refl within is)

-- so its code is found at that place
pub row_of-read : (rows : List Row) (i j : ℕ) (r : Row) → are_distinct (codes rows) ≡ true → j ≡ i → true ≡ nat_lt j (length rows) → r ≡ get_or rows j r
    → row_of rows r.code ≡ Some i
row_of-read rows i j r distinct same within is =
    code_of-Some rows r.code j distinct (read rows j r (ltb-true _ _ (sym within)) is) ∙ ap Some same
