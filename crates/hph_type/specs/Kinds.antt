-- Sets of kinds. Source: PHP manual, 'Types'.
use Rattle.std.specs.Prelude.{◌≡◌, ◌<◌, ◌+◌, ◌*◌, ◌/◌, ◌%◌, ◌^◌, ◌==◌, ◌&&◌, ◌||◌, ℕ, Bool, true, false, not, IsTrue, if◌then◌else◌}
use Rattle.std.proofs.Common.{refl, arith}
use Rattle.std.proofs.lemmas.Bool.{agree_below_at, eqb-true, ne_eqb}
use Rattle.std.proofs.lemmas.Bool.Decides.{Decides-eqb}
use Rattle.hph_type.specs.declared.kind.Kind.{Kind}
use Rattle.hph_type.specs.declared.kind.Kind.TheVariants.{Null, Bool as BoolKind, Int, Str, Arr}

-- A set of kinds: which of them are in it.
pub record Kinds : Type 0 where
  pub null : Bool
  pub bool : Bool
  pub int : Bool
  pub str : Bool
  pub arr : Bool

-- whether a kind is in a set
abbrev pub holds : Kinds → Kind → Bool
holds kinds Null = kinds.null
holds kinds BoolKind = kinds.bool
holds kinds Int = kinds.int
holds kinds Str = kinds.str
holds kinds Arr = kinds.arr

-- the set of the kinds that pass a test
abbrev pub kinds_where : (Kind → Bool) → Kinds
kinds_where test = record { null = test Null; bool = test BoolKind; int = test Int; str = test Str; arr = test Arr }

-- whether two kinds are one
abbrev pub same_kind : Kind → Kind → Bool
same_kind Null Null = true
same_kind BoolKind BoolKind = true
same_kind Int Int = true
same_kind Str Str = true
same_kind Arr Arr = true
same_kind _ _ = false

-- the set of one kind
abbrev pub only : Kind → Kinds
only kind = kinds_where (same_kind kind)

-- a set without a kind
abbrev pub without : Kinds → Kind → Kinds
without kinds kind = kinds_where (λ k. holds kinds k && not (same_kind kind k))

-- Each kind of the one set is in the other.
abbrev pub AreIncluded : Kinds → Kinds → Type 0
AreIncluded a b = (kind : Kind) → IsTrue (holds a kind) → IsTrue (holds b kind)

-- the union
abbrev pub either : Kinds → Kinds → Kinds
either a b = kinds_where (λ kind. holds a kind || holds b kind)

-- the intersection
abbrev pub both : Kinds → Kinds → Kinds
both a b = kinds_where (λ kind. holds a kind && holds b kind)

-- the number of a kind's bit
abbrev pub bit_number : Kind → ℕ
bit_number Null = 0
bit_number BoolKind = 1
bit_number Int = 2
bit_number Str = 3
bit_number Arr = 4

-- whether a number has a bit
abbrev pub has_bit : ℕ → ℕ → Bool
has_bit number place = (number / 2 ^ place % 2) == 1

-- the set whose kinds are the bits of a number
abbrev pub kinds_of : ℕ → Kinds
kinds_of number = kinds_where (λ kind. has_bit number (bit_number kind))

-- 1 for a kind that is there
abbrev pub count : Bool → ℕ
count there = if there then 1 else 0

-- the number whose bits are the kinds of a set
abbrev pub bits_of : Kinds → ℕ
bits_of kinds =
    count kinds.null + 2 * count kinds.bool + 4 * count kinds.int + 8 * count kinds.str + 16 * count kinds.arr

-- A number below 32 is told by its bits.
pub bits_of-kinds_of : (number : ℕ) → number < 32 → bits_of (kinds_of number) ≡ number
bits_of-kinds_of number below =
    eqb-true (bits_of (kinds_of number)) number
    (agree_below_at (λ n. bits_of (kinds_of n) == n) (λ _. true) 32 number refl below)

-- A bit that is the count of a truth value tells it.
one-count : (there : Bool) (bit : ℕ) → bit ≡ count there → (bit == 1) ≡ there
one-count true bit e = (Decides-eqb bit 1).1 e
one-count false bit e = ne_eqb bit 1 (λ one. omega (arith, e, one))

-- A count is at most 1.
count-lt : (there : Bool) → count there < 2
count-lt true = omega arith
count-lt false = omega arith

-- A set is told by its bits.
pub kinds_of-bits_of : (kinds : Kinds) → kinds_of (bits_of kinds) ≡ kinds
kinds_of-bits_of kinds =
    let a = count-lt kinds.null in
    let b = count-lt kinds.bool in
    let c = count-lt kinds.int in
    let d = count-lt kinds.str in
    let e = count-lt kinds.arr in
    λ i. record {
      null = one-count kinds.null (bits_of kinds / 2 ^ 0 % 2) (omega arith) i;
      bool = one-count kinds.bool (bits_of kinds / 2 ^ 1 % 2) (omega arith) i;
      int = one-count kinds.int (bits_of kinds / 2 ^ 2 % 2) (omega arith) i;
      str = one-count kinds.str (bits_of kinds / 2 ^ 3 % 2) (omega arith) i;
      arr = one-count kinds.arr (bits_of kinds / 2 ^ 4 % 2) (omega arith) i;
    }
