-- What each token may give to print, and that names, marks and casts give nothing.
use Rattle.std.proofs.Common.{◌≡◌, ℕ, suc, ◌+◌, ◌≤◌, Bool, true, false, ◌&&◌, List, [], ◌∷◌, ◌++◌, length, Option, Some, None, Result, Ok, Err, refl, ap, arith}
use Rattle.std.specs.Prelude.{if◌then◌else◌, codes}
use Rattle.std.specs.Fmt.{decimal}
use Rattle.hph_ast.specs.declared.token.Token.{Token}
use Rattle.hph_ast.specs.declared.token.Kind.{Kind}
use Rattle.hph_ast.specs.declared.token.Kind.TheVariants as k
use Rattle.hph_ast.specs.declared.refusal.Construct.{Construct}
use Rattle.hph_ast.specs.Bytes.{begins, is_word}
use Rattle.hph_ast.specs.Words.{keywords, kind_in, name_kind}
use Rattle.hph_ast.specs.Marks.{marks, mark_in, casts, cast_in, cast_of, cast_name, behind_cast}

-- the bytes that a token may give to print, and one
abbrev pub weight : Kind → ℕ
weight (k.InlineText bytes) = suc (length bytes)
weight (k.Int v) = suc (length (decimal v))
weight (k.Text bytes) = suc (length bytes)
weight _ = 0

abbrev pub weights : List Token → ℕ
weights [] = 0
weights (t ∷ ts) = weight t.kind + weights ts

pub weights-append : (ts us : List Token) → weights (ts ++ us) ≡ weights ts + weights us
weights-append [] us = omega arith
weights-append (t ∷ ts) us = omega (arith, weights-append ts us)

-- ---- names

abbrev all_kinds : List (List ℕ × Kind) → ℕ
all_kinds [] = 0
all_kinds (row ∷ rows) = weight row.1 + all_kinds rows

kinds_in : (rows : List (List ℕ × Kind)) (name : List ℕ) → weight (kind_in rows name) ≤ all_kinds rows
kinds_in [] name = omega arith
kinds_in (row ∷ rows) name =
    elim (is_word row.0 name) as (λ t. weight (if t then row.1 else kind_in rows name) ≤ weight row.1 + all_kinds rows) [
      | true ↦ omega arith
      | false ↦ omega (arith, kinds_in rows name)
    ]

no_keyword : all_kinds keywords ≡ 0
no_keyword = refl

pub name_weighs_nothing : (member : Bool) (name : List ℕ) → weight (name_kind member name) ≡ 0
name_weighs_nothing true name = refl
name_weighs_nothing false name = omega (arith, kinds_in keywords name, no_keyword)

-- ---- marks and casts

abbrev pub weight_of : Result Kind Construct → ℕ
weight_of (Ok kind) = weight kind
weight_of (Err which) = 0

abbrev all_rows : List (List ℕ × Result Kind Construct) → ℕ
all_rows [] = 0
all_rows (row ∷ rows) = weight_of row.1 + all_rows rows

abbrev weight_of_mark : Option (Result Kind Construct × ℕ) → ℕ
weight_of_mark None = 0
weight_of_mark (Some found) = weight_of found.0

abbrev weight_of_cast : Option (Result Kind Construct) → ℕ
weight_of_cast None = 0
weight_of_cast (Some what) = weight_of what

marks_in : (rows : List (List ℕ × Result Kind Construct)) (bs : List ℕ) → weight_of_mark (mark_in rows bs) ≤ all_rows rows
marks_in [] bs = omega arith
marks_in (row ∷ rows) bs =
    elim (begins row.0 bs) as (λ t. weight_of_mark (if t then Some (row.1, length row.0) else mark_in rows bs) ≤ weight_of row.1 + all_rows rows) [
      | true ↦ omega arith
      | false ↦ omega (arith, marks_in rows bs)
    ]

casts_in : (rows : List (List ℕ × Result Kind Construct)) (name : List ℕ) → weight_of_cast (cast_in rows name) ≤ all_rows rows
casts_in [] name = omega arith
casts_in (row ∷ rows) name =
    elim (is_word row.0 name) as (λ t. weight_of_cast (if t then Some row.1 else cast_in rows name) ≤ weight_of row.1 + all_rows rows) [
      | true ↦ omega arith
      | false ↦ omega (arith, casts_in rows name)
    ]

no_mark : all_rows marks ≡ 0
no_mark = refl

no_cast : all_rows casts ≡ 0
no_cast = refl

casts_of : (bs : List ℕ) → weight_of_cast (cast_of bs) ≡ 0
casts_of [] = refl
casts_of (b ∷ bs) =
    elim (begins (codes "(") (b ∷ bs) && begins (codes ")") (behind_cast bs)) as (λ t. weight_of_cast (if t then cast_in casts (cast_name bs) else None) ≡ 0) [
      | true ↦ omega (arith, casts_in casts (cast_name bs), no_cast)
      | false ↦ refl
    ]

pub mark_weighs_nothing : (bs : List ℕ) {what : Result Kind Construct} {n : ℕ} → mark_in marks bs ≡ Some (what, n) → weight_of what ≡ 0
mark_weighs_nothing bs is = omega (arith, ap weight_of_mark is, marks_in marks bs, no_mark)

pub cast_weighs_nothing : (bs : List ℕ) {what : Result Kind Construct} → cast_of bs ≡ Some what → weight_of what ≡ 0
cast_weighs_nothing bs is = omega (arith, ap weight_of_cast is, casts_of bs)
