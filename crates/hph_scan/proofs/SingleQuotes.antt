-- Strings in single quotes, byte by byte.
use Rattle.std.proofs.Common.{◌≡◌, ◌≢◌, ◌<◌, ◌≤◌, ℕ, suc, Bool, true, false, ◌||◌, List, [], ◌∷◌, ◌++◌, ◌-◌, length, drop, get_or, ◌==◌}
use Rattle.std.proofs.Common.{◌⊎◌, inl, inr, refl, sym, ap, ◌∙◌, subst, append-nil, length-drop, arith}
use Rattle.std.proofs.lemmas.Bool.Decides.{Decides-eqb, nat_tests}
use Rattle.std.specs.List.{between}
use Rattle.std.proofs.lemmas.Slice.{between_to_end}
use Rattle.hph_ast.specs.Strings.{Single, escapes_single}
use Rattle.hph_ast.specs.Strings.Single.{closes, escape, plain}
use Rattle.hph_scan.specs.Fronts.{Spells}
use Rattle.hph_scan.specs.Strings.{IsQuoted}

-- A quote is no backslash.
no_escape : (b : ℕ) (bs : List ℕ) → (b == 39) ≡ true → escapes_single (b ∷ bs) ≡ true → ⊥
no_escape b bs quote esc =
    let same : b ≡ 39 = (Decides-eqb b 39).0 quote in
    let never : escapes_single (39 ∷ bs) ≡ true = subst (λ b. escapes_single (b ∷ bs) ≡ true) same esc in
    absurd (cc)

-- At the closing quote the string ends.
pub closed : {b : ℕ} {bs text rest : List ℕ} → (b == 39) ≡ true → Single (b ∷ bs) text rest → (text ≡ []) × (rest ≡ bs)
closed quote (closes is) = (refl, refl)
closed quote (escape {b} {c} {bs} esc more) = absurd (no_escape b (c ∷ bs) quote esc)
closed quote (plain byte esc more) = let none : ⊥ = cc in absurd none

-- A backslash before a quote or a backslash.
escape_back : {b c : ℕ} {bs text rest : List ℕ} → escapes_single (b ∷ c ∷ bs) ≡ true → Single (b ∷ c ∷ bs) text rest →
    (more : List ℕ) × (text ≡ c ∷ more) × Single bs more rest
escape_back {b} {c} {bs} esc (closes is) = absurd (no_escape b (c ∷ bs) is esc)
escape_back esc (escape esc' more) = (_, refl, more)
escape_back esc (plain byte esc' more) = let none : ⊥ = cc in absurd none

pub spells_escape : (b c : ℕ) (bs : List ℕ) → escapes_single (b ∷ c ∷ bs) ≡ true → Spells Single (b ∷ c ∷ bs) bs (λ more. c ∷ more)
spells_escape b c bs esc = record {
  onward = λ more rest is. escape esc is;
  back = λ all rest is. escape_back esc is;
}

-- Any other byte.
plain_back : {b : ℕ} {bs text rest : List ℕ} → (b == 39) ≡ false → escapes_single (b ∷ bs) ≡ false → Single (b ∷ bs) text rest →
    (more : List ℕ) × (text ≡ b ∷ more) × Single bs more rest
plain_back byte esc (closes is) = let none : ⊥ = cc in absurd none
plain_back byte esc (escape esc' more) = let none : ⊥ = cc in absurd none
plain_back byte esc (plain other_byte esc' more) = (_, refl, more)

pub spells_plain : (b : ℕ) (bs : List ℕ) → (b == 39) ≡ false → escapes_single (b ∷ bs) ≡ false →
    Spells Single (b ∷ bs) bs (λ more. b ∷ more)
spells_plain b bs byte esc = record {
  onward = λ more rest is. plain byte esc is;
  back = λ all rest is. plain_back byte esc is;
}

-- whether a byte may stand behind a backslash that goes with it
abbrev pub is_escaped : ℕ → Bool
is_escaped c = c == 39 || c == 92

escapes : (b c : ℕ) (bs : List ℕ) → b ≡ 92 → is_escaped c ≡ true → escapes_single (b ∷ c ∷ bs) ≡ true
escapes b c bs slash second = grind (arith, nat_tests)

escapes_no_byte : (b c : ℕ) (bs : List ℕ) → is_escaped c ≡ false → escapes_single (b ∷ c ∷ bs) ≡ false
escapes_no_byte b c bs second = grind (arith, nat_tests)

no_backslash : (b : ℕ) (bs : List ℕ) → b ≢ 92 → escapes_single (b ∷ bs) ≡ false
no_backslash b [] other = grind (arith, nat_tests)
no_backslash b (c ∷ bs) other = grind (arith, nat_tests)

-- Two bytes that stand for the second.
pub spells_second : (b : ℕ) (after : List ℕ) → 0 < length after → b ≡ 92 → is_escaped (get_or after 0 0) ≡ true →
    Spells Single (b ∷ after) (between 1 (length after) after) (λ more. get_or after 0 0 ∷ more)
spells_second b [] some slash second = absurd (omega arith)
spells_second b (c ∷ bs) some slash second =
    let rest : between 1 (length (c ∷ bs)) (c ∷ bs) ≡ bs = between_to_end (c ∷ bs) 1 (length (c ∷ bs)) (omega arith) in
    subst (λ rest. Spells Single (b ∷ c ∷ bs) rest (λ more. c ∷ more)) (sym rest) (spells_escape b c bs (escapes b c bs slash second))

-- A byte that stands for itself, and is the last, or no backslash, or a backslash before any other byte.
pub spells_last : (b : ℕ) → (b == 39) ≡ false → Spells Single (b ∷ []) [] (λ more. b ∷ more)
spells_last b other = spells_plain b [] other (grind (arith, nat_tests))

pub spells_other : (b : ℕ) (after : List ℕ) → (b == 39) ≡ false → b ≢ 92 → Spells Single (b ∷ after) after (λ more. b ∷ more)
spells_other b after other slash = spells_plain b after other (no_backslash b after slash)

pub spells_backslash : (b : ℕ) (after : List ℕ) → (b == 39) ≡ false → 0 < length after → is_escaped (get_or after 0 0) ≡ false →
    Spells Single (b ∷ after) after (λ more. b ∷ more)
spells_backslash b [] other some second = absurd (omega arith)
spells_backslash b (c ∷ bs) other some second = spells_plain b (c ∷ bs) other (escapes_no_byte b c bs second)

-- Where there is no byte there is no string.
pub not_closed : {text rest : List ℕ} → Single [] text rest → ⊥
not_closed is = elim is [ ]

-- A string has one text and one end.
pub one_single_quoted : (bs text other rest behind : List ℕ) → Single bs text rest → Single bs other behind →
    (text ≡ other) × (rest ≡ behind)
one_single_quoted _ _ other _ behind (closes is) second = let ends = closed is second in (sym ends.0, sym ends.1)
one_single_quoted _ _ other _ behind (escape {b} {c} {bs} {text} {rest} esc more) second =
    let split = escape_back esc second in
    let same = one_single_quoted bs text split.0 rest behind more split.2 in
    (ap (λ t. c ∷ t) same.0 ∙ sym split.1, same.1)
one_single_quoted _ _ other _ behind (plain {b} {bs} {text} {rest} byte esc more) second =
    let split = plain_back byte esc second in
    let same = one_single_quoted bs text split.0 rest behind more split.2 in
    (ap (λ t. b ∷ t) same.0 ∙ sym split.1, same.1)

-- A string ends within the bytes.
pub single_quoted_ends : (bs text rest : List ℕ) → Single bs text rest → (n : ℕ) × ((0 < n) × (n ≤ length bs) × (rest ≡ drop n bs))
single_quoted_ends _ _ _ (closes {bs = bs} is) = (1, (omega arith, omega arith, refl))
single_quoted_ends _ _ _ (escape {bs = bs} {text} {rest} esc more) =
    let ends = single_quoted_ends bs text rest more in
    (suc (suc ends.0), (omega arith, omega arith, ends.1.2))
single_quoted_ends _ _ _ (plain {bs = bs} {text} {rest} byte esc more) =
    let ends = single_quoted_ends bs text rest more in
    (suc ends.0, (omega arith, omega arith, ends.1.2))

-- The text so far and its quote are the string.
pub quoted : (bs rest text : List ℕ) → 0 < length rest → get_or rest 0 0 ≡ 39 → Spells Single bs rest (λ more. text ++ more) →
    IsQuoted bs (record { text = text; length = length bs - length (between 1 (length rest) rest) })
quoted bs [] text some quote spells = absurd (omega arith)
quoted bs (b ∷ after) text some quote spells =
    let closed = spells.onward [] after (closes ((Decides-eqb b 39).1 quote)) in
    let is : Single bs text after = subst (λ text. Single bs text after) (append-nil text) closed in
    let ends = single_quoted_ends bs text after is in
    let rest = ap length (between_to_end (b ∷ after) 1 (length (b ∷ after)) (omega arith)) in
    let same : length bs - length (between 1 (length (b ∷ after)) (b ∷ after)) ≡ ends.0 =
    omega (arith, rest, ap length ends.1.2, length-drop ends.0 bs) in
    record {
      is = subst (λ rest. Single bs text rest) (ends.1.2 ∙ ap (λ n. drop n bs) (sym same)) is;
      within = omega (arith, same);
    }

-- Bytes begin with a string and its quote, or with none.
abbrev HasSome : List ℕ → Type 0
HasSome bs = ((text : List ℕ) × (rest : List ℕ) × Single bs text rest) ⊎ ((text rest : List ℕ) → Single bs text rest → ⊥)

from_behind : {bs behind : List ℕ} {adds : List ℕ → List ℕ} → Spells Single bs behind adds → HasSome behind → HasSome bs
from_behind {adds = adds} spells (inl found) = inl (adds found.0, found.1, spells.onward found.0 found.1 found.2)
from_behind spells (inr none) = inr (λ text rest is. let back = spells.back text rest is in none back.0 rest back.2)

-- at the closing quote, or not
if_open : (b : ℕ) (bs : List ℕ) → ((b == 39) ≡ false → HasSome (b ∷ bs)) → HasSome (b ∷ bs)
if_open b bs have =
    elim (b == 39) as (λ t. (b == 39) ≡ t → HasSome (b ∷ bs)) [
      | true ↦ λ quote. inl ([], bs, closes quote)
      | false ↦ have
    ] refl

-- at a backslash that takes the next byte with it, or not
if_escape : (b c : ℕ) (bs : List ℕ) → (b == 39) ≡ false → HasSome bs → HasSome (c ∷ bs) → HasSome (b ∷ c ∷ bs)
if_escape b c bs other behind next =
    elim (escapes_single (b ∷ c ∷ bs)) as (λ t. escapes_single (b ∷ c ∷ bs) ≡ t → HasSome (b ∷ c ∷ bs)) [
      | true ↦ λ esc. from_behind (spells_escape b c bs esc) behind
      | false ↦ λ esc. from_behind (spells_plain b (c ∷ bs) other esc) next
    ] refl

pub single_quoted_or_none : (bs : List ℕ) → HasSome bs
single_quoted_or_none [] = inr (λ text rest is. not_closed is)
single_quoted_or_none (b ∷ []) =
    let behind = single_quoted_or_none [] in
    if_open b [] (λ other. from_behind (spells_last b other) behind)
single_quoted_or_none (b ∷ c ∷ bs) =
    let behind = single_quoted_or_none bs in
    let next = single_quoted_or_none (c ∷ bs) in
    if_open b (c ∷ bs) (λ other. if_escape b c bs other behind next)
