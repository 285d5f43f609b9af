-- Digits of a number, one by one.
use Rattle.std.proofs.Common.{◌≡◌, ◌<◌, ◌≤◌, ℕ, ◌+◌, ◌*◌, min, true, false, List, [], ◌∷◌, length, Option, Some, None, ◌==◌, ◌⊎◌, inl}
use Rattle.std.proofs.Common.{inr, cond, refl, sym, subst, arith}
use Rattle.std.specs.Prelude.{nat_lt}
use Rattle.std.proofs.lemmas.Bool.Decides.{Decides-eqb, Decides-ltb, leb_tells, nat_tests}
use Rattle.hph_ast.specs.Bytes.{digit_value}
use Rattle.hph_ast.specs.Numbers.{Digits, IsNumber, numeral}
use Rattle.hph_ast.specs.Numbers.Digits.{digit, digits, separated}
use Rattle.hph_scan.specs.Digits.{next_digit, behind_separator, HasNoValue, HasValue}
use Rattle.hph_scan.specs.declared.numeral.TheConstants.{LONG_VALUE}

-- the digits behind one have the value of all
pub record Goes (base n : ℕ) (all : List ℕ) (d : ℕ) (rest : List ℕ) : Type 0 where
  pub onward : (v : ℕ) → Digits base (base * n + d) rest v → Digits base n all v
  pub back : (v : ℕ) → Digits base n all v → Digits base (base * n + d) rest v

-- the digit is the last
pub record Ends (base n : ℕ) (all : List ℕ) (d : ℕ) : Type 0 where
  pub is : Digits base n all (base * n + d)
  pub back : (v : ℕ) → Digits base n all v → v ≡ base * n + d

-- digits behind a value have the value of all
pub record SameValue (base n : ℕ) (rest all : List ℕ) : Type 0 where
  pub onward : (v : ℕ) → Digits base n rest v → Digits base 0 all v
  pub back : (v : ℕ) → Digits base 0 all v → Digits base n rest v

-- what stands behind a digit and its separator
abbrev pub GoesOn : ℕ → ℕ → List ℕ → ℕ → List ℕ → Type 0
GoesOn base n all d [] = Ends base n all d
GoesOn base n all d (e ∷ rest) = Goes base n all d (e ∷ rest)

-- what the next digit tells of the value
abbrev pub Tells : ℕ → ℕ → List ℕ → Option (ℕ × List ℕ) → Type 0
Tells base n all None = (v : ℕ) → Digits base n all v → ⊥
Tells base n all (Some found) = GoesOn base n all found.0 found.1

-- All digits are digits of the base.
first_digit : {base n a v : ℕ} {ds : List ℕ} → Digits base n (a ∷ ds) v → digit_value a < base
first_digit (digit is) = is
first_digit (digits is more) = is
first_digit (separated is more) = is

last_digit : {base n a v : ℕ} → Digits base n (a ∷ []) v → v ≡ base * n + digit_value a
last_digit (digit is) = refl
last_digit (digits is more) = elim more [ ]

ends : (base n a : ℕ) → digit_value a < base → Ends base n (a ∷ []) (digit_value a)
ends base n a is = record { is = digit is; back = λ v whole. last_digit whole }

-- A separator needs a digit behind it.
before_last : {base n a b v : ℕ} → Digits base n (a ∷ b ∷ []) v → Digits base (base * n + digit_value a) (b ∷ []) v
before_last (digits is more) = more
before_last (separated is more) = elim more [ ]

goes_to_last : (base n a b : ℕ) → digit_value a < base → Goes base n (a ∷ b ∷ []) (digit_value a) (b ∷ [])
goes_to_last base n a b is = record { onward = λ v more. digits is more; back = λ v whole. before_last whole }

-- Behind a separator.
behind_separated : {base n a c v : ℕ} {cs : List ℕ} → base ≤ 16 → Digits base n (a ∷ 95 ∷ c ∷ cs) v →
    Digits base (base * n + digit_value a) (c ∷ cs) v
behind_separated few (digits is more) = let low = first_digit more in absurd (omega arith)
behind_separated few (separated is more) = more

behind_digit : {base n a b c v : ℕ} {cs : List ℕ} → (b == 95) ≡ false → Digits base n (a ∷ b ∷ c ∷ cs) v →
    Digits base (base * n + digit_value a) (b ∷ c ∷ cs) v
behind_digit other (digits is more) = more
behind_digit other (separated is more) = let none : ⊥ = cc in absurd none

goes_past : (base n a b c : ℕ) (cs : List ℕ) → base ≤ 16 → digit_value a < base →
    Goes base n (a ∷ b ∷ c ∷ cs) (digit_value a) (behind_separator (b ∷ c ∷ cs))
goes_past base n a b c cs few is =
    elim (b == 95) as (λ t. (b == 95) ≡ t → Goes base n (a ∷ b ∷ c ∷ cs) (digit_value a) (cond t (c ∷ cs) (b ∷ c ∷ cs))) [
      | true ↦ λ under.
          let same : b ≡ 95 = (Decides-eqb b 95).0 under in
          subst (λ b. Goes base n (a ∷ b ∷ c ∷ cs) (digit_value a) (c ∷ cs)) (sym same)
          (record { onward = λ v more. separated is more; back = λ v whole. behind_separated few whole })
      | false ↦ λ other. record { onward = λ v more. digits is more; back = λ v whole. behind_digit other whole }
    ] refl

-- What stands behind a digit that isn't the last is no end.
goes_on_past : (base n a b c : ℕ) (cs : List ℕ) → base ≤ 16 → digit_value a < base →
    GoesOn base n (a ∷ b ∷ c ∷ cs) (digit_value a) (behind_separator (b ∷ c ∷ cs))
goes_on_past base n a b c cs few is =
    elim (b == 95) as (λ t. Goes base n (a ∷ b ∷ c ∷ cs) (digit_value a) (cond t (c ∷ cs) (b ∷ c ∷ cs)) →
    GoesOn base n (a ∷ b ∷ c ∷ cs) (digit_value a) (cond t (c ∷ cs) (b ∷ c ∷ cs))) [
      | true ↦ λ goes. goes
      | false ↦ λ goes. goes
    ] (goes_past base n a b c cs few is)

goes_on : (base n a : ℕ) (ds : List ℕ) → base ≤ 16 → digit_value a < base → GoesOn base n (a ∷ ds) (digit_value a) (behind_separator ds)
goes_on base n a [] few is = ends base n a is
goes_on base n a (b ∷ []) few is = goes_to_last base n a b is
goes_on base n a (b ∷ c ∷ cs) few is = goes_on_past base n a b c cs few is

-- The next digit tells the value, or that there is none.
pub tells : (base n : ℕ) (ds : List ℕ) → base ≤ 16 → Tells base n ds (next_digit base ds)
tells base n [] few = λ v is. elim is [ ]
tells base n (a ∷ ds) few =
    elim (nat_lt (digit_value a) base) as (λ t. nat_lt (digit_value a) base ≡ t →
    Tells base n (a ∷ ds) (cond t (Some (digit_value a, behind_separator ds)) None)) [
      | true ↦ λ is. goes_on base n a ds few ((Decides-ltb (digit_value a) base).0 is)
      | false ↦ λ large. λ v is. let low = first_digit is in grind (arith, nat_tests)
    ] refl

-- Where no digit comes, there is no value.
pub no_value : (base n : ℕ) (ds all : List ℕ) → base ≤ 16 → SameValue base n ds all → next_digit base ds ≡ None → HasNoValue base all
no_value base n ds all few same none v is = subst (Tells base n ds) none (tells base n ds few) v (same.back v is)

-- Behind the last digit stands the value.
pub has_value : (base n d told : ℕ) (ds rest all : List ℕ) → base ≤ 16 → SameValue base n ds all → next_digit base ds ≡ Some (d, rest) →
    length rest ≡ 0 → told ≡ min (base * n + d) LONG_VALUE → HasValue base all told
has_value base n d told ds [] all few same found ends is =
    let last = subst (Tells base n ds) found (tells base n ds few) in
    record { value = base * n + d; is = same.onward _ last.is; told_is = is }
has_value base n d told ds (e ∷ rest) all few same found ends is = absurd (omega arith)

-- Behind any other digit the value goes on.
pub same_value : (base n d : ℕ) (ds rest all : List ℕ) → base ≤ 16 → SameValue base n ds all → next_digit base ds ≡ Some (d, rest) →
    0 < length rest → SameValue base (base * n + d) rest all
same_value base n d ds [] all few same found more = absurd (omega arith)
same_value base n d ds (e ∷ rest) all few same found more =
    let goes = subst (Tells base n ds) found (tells base n ds few) in
    record { onward = λ v is. same.onward v (goes.onward v is); back = λ v is. goes.back v (same.back v is) }

-- A digit is no separator.
no_separator : {base : ℕ} (b : ℕ) → digit_value b < base → base ≤ 16 → (b == 95) ≡ false
no_separator {base} b is few =
    elim (b == 95) as (λ t. (b == 95) ≡ t → t ≡ false) [
      | true ↦ λ under.
          let low : digit_value 95 < base = subst (λ b. digit_value b < base) ((Decides-eqb b 95).0 under) is in
          absurd (omega arith)
      | false ↦ λ other. refl
    ] refl

-- Digits have one value.
one_value : (base n : ℕ) (ds : List ℕ) (v w : ℕ) → base ≤ 16 → Digits base n ds v → Digits base n ds w → v ≡ w
one_value base n _ _ w few (digit is) second = sym (last_digit second)
one_value base n _ v w few (digits {d = d} {ds = []} is more) second = elim more [ ]
one_value base n _ v w few (digits {d = d} {ds = b ∷ []} is more) second = one_value base _ (b ∷ []) v w few more (before_last second)
one_value base n _ v w few (digits {d = d} {ds = b ∷ c ∷ cs} is more) second =
    one_value base _ (b ∷ c ∷ cs) v w few more (behind_digit (no_separator b (first_digit more) few) second)
one_value base n _ v w few (separated {d = d} {ds = []} is more) second = elim more [ ]
one_value base n _ v w few (separated {d = d} {ds = c ∷ cs} is more) second =
    one_value base _ (c ∷ cs) v w few more (behind_separated few second)

-- A number has a base up to 16.
pub numeral-base : (bs : List ℕ) → (numeral bs).base ≤ 16
numeral-base bs = grind arith

pub one_number : (bs : List ℕ) (v w : ℕ) → IsNumber bs v → IsNumber bs w → v ≡ w
one_number bs v w first second = one_value (numeral bs).base 0 (numeral bs).run v w (numeral-base bs) first second

-- Digits have a value, or none.
abbrev HasSome : ℕ → ℕ → List ℕ → Type 0
HasSome base n ds = ((v : ℕ) × Digits base n ds v) ⊎ ((v : ℕ) → Digits base n ds v → ⊥)

from_behind : {base n d : ℕ} {all rest : List ℕ} → Goes base n all d rest → HasSome base (base * n + d) rest → HasSome base n all
from_behind goes (inl found) = inl (found.0, goes.onward found.0 found.1)
from_behind goes (inr none) = inr (λ v is. none v (goes.back v is))

-- of a digit and those behind it, or of none
if_digit : (base n a : ℕ) (ds : List ℕ) → (digit_value a < base → HasSome base n (a ∷ ds)) → HasSome base n (a ∷ ds)
if_digit base n a ds have = elim (leb_tells base (digit_value a)) [
  | inl large ↦ inr (λ v is. let low = first_digit is in omega arith)
  | inr small ↦ have small.1
]

-- the digits behind a separator, or all
either : (base n b c : ℕ) (cs : List ℕ) → HasSome base n (b ∷ c ∷ cs) → HasSome base n (c ∷ cs) →
    HasSome base n (behind_separator (b ∷ c ∷ cs))
either base n b c cs all behind = elim (b == 95) as (λ t. HasSome base n (cond t (c ∷ cs) (b ∷ c ∷ cs))) [ true ↦ behind | false ↦ all ]

value_or_none : (base n : ℕ) (ds : List ℕ) → base ≤ 16 → HasSome base n ds
value_or_none base n [] few = inr (λ v is. elim is [ ])
value_or_none base n (a ∷ []) few = if_digit base n a [] (λ is. inl (_, digit is))
value_or_none base n (a ∷ b ∷ []) few =
    let behind = value_or_none base (base * n + digit_value a) (b ∷ []) few in
    if_digit base n a (b ∷ []) (λ is. from_behind (goes_to_last base n a b is) behind)
value_or_none base n (a ∷ b ∷ c ∷ cs) few =
    let behind = value_or_none base (base * n + digit_value a) (b ∷ c ∷ cs) few in
    let separated_from = value_or_none base (base * n + digit_value a) (c ∷ cs) few in
    if_digit base n a (b ∷ c ∷ cs) (λ is. from_behind (goes_past base n a b c cs few is) (either base _ b c cs behind separated_from))

-- What begins here is a number, or isn't one.
pub number_or_none : (bs : List ℕ) → ((v : ℕ) × IsNumber bs v) ⊎ ((v : ℕ) → IsNumber bs v → ⊥)
number_or_none bs = value_or_none (numeral bs).base 0 (numeral bs).run (numeral-base bs)
