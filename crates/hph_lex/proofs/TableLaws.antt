-- The first mark that fits is the longest, since no row of the marks is longer than one before it.
use Rattle.std.proofs.Common.{◌≡◌, ℕ, zero, suc, ◌<◌, ◌≤◌, Bool, true, false, ◌&&◌, List, [], ◌∷◌, length, get_or, Some, Result, refl}
use Rattle.std.proofs.Common.{ap, sym, subst, arith}
use Rattle.std.specs.Prelude.{nat_le, if◌then◌else◌}
use Rattle.std.proofs.lemmas.Bool.Decides.{nat_tests}
use Rattle.hph_ast.specs.declared.token.Kind.{Kind}
use Rattle.hph_ast.specs.declared.refusal.Construct.{Construct}
use Rattle.hph_ast.specs.Bytes.{begins}
use Rattle.hph_ast.specs.Marks.{mark_in}
use Rattle.hph_lex.proofs.OneReading.{some_inj}

abbrev pub Row : Type 0
Row = List ℕ × Result Kind Construct

-- no row is longer than this
abbrev pub up_to : ℕ → List Row → Bool
up_to n [] = true
up_to n (row ∷ rows) = nat_le (length row.0) n && up_to n rows

-- no row is longer than one before it
abbrev pub shrinking : List Row → Bool
shrinking [] = true
shrinking (row ∷ rows) = up_to (length row.0) rows && shrinking rows

both : (s t : Bool) → (s && t) ≡ true → (s ≡ true) × (t ≡ true)
both true true e = (refl, refl)
both true false e = absurd (cc)
both false t e = absurd (cc)

-- a row of a list
data Among (row : Row) : List Row → Type 0 where
  first : {rows : List Row} → Among row (row ∷ rows)
  later : {other : Row} {rows : List Row} → Among row rows → Among row (other ∷ rows)

among : (rows : List Row) (k : ℕ) (row : Row) → k < length rows → get_or rows k row ≡ row → Among row rows
among [] k row within is = absurd (omega arith)
among (other ∷ rows) zero row within is = subst (λ other. Among row (other ∷ rows)) (sym is) first
among (other ∷ rows) (suc k) row within is = later (among rows k row (omega arith) is)

among_up_to : (row : Row) {rows : List Row} (n : ℕ) → up_to n rows ≡ true → Among row rows → length row.0 ≤ n
among_up_to row n small (first {rows = rows}) =
    let here = (both (nat_le (length row.0) n) (up_to n rows) small).0 in grind (arith, nat_tests, here)
among_up_to row n small (later {other = other} {rows = rows} more) =
    among_up_to row n (both (nat_le (length other.0) n) (up_to n rows) small).1 more

longest_among : (rows : List Row) (bs : List ℕ) (found : Result Kind Construct × ℕ) (row : Row) → shrinking rows ≡ true →
    mark_in rows bs ≡ Some found →
    Among row rows → begins row.0 bs ≡ true → length row.0 ≤ found.1
longest_among [] bs found row small is among_it fits = absurd (cc)
longest_among (top ∷ rows) bs found row small is among_it fits =
    let order = both (up_to (length top.0) rows) (shrinking rows) small in
    elim (begins top.0 bs) as (λ t. begins top.0 bs ≡ t → (if t then Some (top.1, length top.0) else mark_in rows bs) ≡ Some found →
    length row.0 ≤ found.1) [
      | true ↦ λ _ e. let same : length top.0 ≡ found.1 = ap (λ (f : Result Kind Construct × ℕ). f.1) (some_inj e) in
          let short = among_top top row rows order.0 among_it in omega (arith, same, short)
      | false ↦ λ fails e. longest_among rows bs found row order.1 e (not_top top row rows bs fails fits among_it) fits
    ] refl is
  where
    among_top : (top row : Row) (rows : List Row) → up_to (length top.0) rows ≡ true → Among row (top ∷ rows) →
        length row.0 ≤ length top.0
    among_top top _ rows small first = omega arith
    among_top top row rows small (later more) = among_up_to row (length top.0) small more

    not_top : (top row : Row) (rows : List Row) (bs : List ℕ) → begins top.0 bs ≡ false → begins row.0 bs ≡ true →
        Among row (top ∷ rows) → Among row rows
    not_top top _ rows bs fails fits first = absurd (cc)
    not_top top row rows bs fails fits (later more) = more

-- the first row that fits is at least as long as each that does
pub longest : (rows : List Row) (bs : List ℕ) (what : Result Kind Construct) (n : ℕ) (row : Row) → shrinking rows ≡ true →
    mark_in rows bs ≡ Some (what, n) →
    (k : ℕ) × (k < length rows) × (get_or rows k row ≡ row) → begins row.0 bs ≡ true → length row.0 ≤ n
longest rows bs what n row small is place fits = longest_among rows bs (what, n) row small is
    (among rows place.0 row place.1 place.2) fits
