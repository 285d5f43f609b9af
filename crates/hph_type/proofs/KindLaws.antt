-- Laws of sets of kinds: inclusion is an order, and union and intersection are its bounds.
use Rattle.std.proofs.Common.{◌≡◌, ◌<◌, ◌≤◌, ◌∙◌, ⊎_elim, ℕ, Bool, true, false, IsTrue, sym, ap, subst, refl, arith, true≢false}
use Rattle.std.specs.Prelude.{◌&&◌, ◌||◌, not, ◌==◌, zero, suc, max, min, bit_and, bit_or}
use Rattle.std.proofs.lemmas.Bool.{or_left, or_right, or_cases, and_from, and_parts}
use Rattle.std.proofs.lemmas.Nat.Bits.{bit_at_and, bit_at_or, bit_at-lt}
use Rattle.hph_type.specs.declared.kind.Kind.{Kind}
use Rattle.hph_type.specs.declared.kind.Kind.TheVariants.{Null, Bool as BoolKind, Int, Str, Arr}
use Rattle.hph_type.specs.Kinds.{Kinds, holds, kinds_where, AreIncluded, either, both, same_kind, only, without, count, bit_number, has_bit, kinds_of, bits_of, bits_of-kinds_of}
use Rattle.hph_type.specs.Rank.{size}

-- A kind is in the set of the kinds that pass a test if it passes.
pub holds-where : (test : Kind → Bool) (kind : Kind) → holds (kinds_where test) kind ≡ test kind
holds-where test Null = refl
holds-where test BoolKind = refl
holds-where test Int = refl
holds-where test Str = refl
holds-where test Arr = refl

-- Sets with the same kinds are one set.
pub same_kinds : (a b : Kinds) → ((kind : Kind) → holds a kind ≡ holds b kind) → a ≡ b
same_kinds a b each i =
    record { null = each Null i; bool = each BoolKind i; int = each Int i; str = each Str i; arr = each Arr i }

-- Truth values that follow from each other are one.
both_ways_same : (a b : Bool) → (IsTrue a → IsTrue b) → (IsTrue b → IsTrue a) → a ≡ b
both_ways_same true b there back = sym (there refl)
both_ways_same false true there back = back refl
both_ways_same false false there back = refl

pub included-refl : (a : Kinds) → AreIncluded a a
included-refl a kind h = h

pub included-trans : (a b c : Kinds) → AreIncluded a b → AreIncluded b c → AreIncluded a c
included-trans a b c ab bc kind h = bc kind (ab kind h)

pub included-antisym : (a b : Kinds) → AreIncluded a b → AreIncluded b a → a ≡ b
included-antisym a b ab ba = same_kinds a b (λ kind. both_ways_same _ _ (ab kind) (ba kind))

pub none-included : (a : Kinds) → AreIncluded (kinds_where (λ _. false)) a
none-included a kind h = absurd (true≢false (sym h ∙ holds-where (λ _. false) kind))

pub included-all : (a : Kinds) → AreIncluded a (kinds_where (λ _. true))
included-all a kind h = holds-where (λ _. true) kind

pub included-either_left : (a b : Kinds) → AreIncluded a (either a b)
included-either_left a b kind h = holds-where (λ k. holds a k || holds b k) kind ∙ or_left (holds a kind) _ h

pub included-either_right : (a b : Kinds) → AreIncluded b (either a b)
included-either_right a b kind h = holds-where (λ k. holds a k || holds b k) kind ∙ or_right (holds a kind) _ h

pub either-included : (a b c : Kinds) → AreIncluded a c → AreIncluded b c → AreIncluded (either a b) c
either-included a b c ac bc kind h =
    ⊎_elim (ac kind) (bc kind)
    (or_cases (holds a kind) (holds b kind) (sym (holds-where (λ k. holds a k || holds b k) kind) ∙ h))

pub both-included_left : (a b : Kinds) → AreIncluded (both a b) a
both-included_left a b kind h =
    (and_parts (holds a kind) (holds b kind) (sym (holds-where (λ k. holds a k && holds b k) kind) ∙ h)).0

pub both-included_right : (a b : Kinds) → AreIncluded (both a b) b
both-included_right a b kind h =
    (and_parts (holds a kind) (holds b kind) (sym (holds-where (λ k. holds a k && holds b k) kind) ∙ h)).1

pub included-both : (a b c : Kinds) → AreIncluded c a → AreIncluded c b → AreIncluded c (both a b)
included-both a b c ca cb kind h =
    holds-where (λ k. holds a k && holds b k) kind ∙ and_from (holds a kind) (holds b kind) (ca kind h) (cb kind h)

-- ---- sizes

-- What is there where another is there counts no more.
count-le : (a b : Bool) → (IsTrue a → IsTrue b) → count a ≤ count b
count-le true true h = omega arith
count-le true false h = absurd (true≢false (sym (h refl)))
count-le false true h = omega arith
count-le false false h = omega arith

-- Equal counts are counts of one truth value.
count-same : (a b : Bool) → count a ≡ count b → a ≡ b
count-same true true e = refl
count-same true false e = absurd (omega arith)
count-same false true e = absurd (omega arith)
count-same false false e = refl

pub size-le : (a b : Kinds) → AreIncluded a b → size a ≤ size b
size-le a b h =
    let l0 = count-le a.null b.null (h Null) in
    let l1 = count-le a.bool b.bool (h BoolKind) in
    let l2 = count-le a.int b.int (h Int) in
    let l3 = count-le a.str b.str (h Str) in
    let l4 = count-le a.arr b.arr (h Arr) in
    omega arith

-- A set that is in another of the same size is that set.
pub size-same : (a b : Kinds) → AreIncluded a b → size a ≡ size b → a ≡ b
size-same a b h e =
    let l0 = count-le a.null b.null (h Null) in
    let l1 = count-le a.bool b.bool (h BoolKind) in
    let l2 = count-le a.int b.int (h Int) in
    let l3 = count-le a.str b.str (h Str) in
    let l4 = count-le a.arr b.arr (h Arr) in
    λ i. record {
      null = count-same a.null b.null (omega arith) i;
      bool = count-same a.bool b.bool (omega arith) i;
      int = count-same a.int b.int (omega arith) i;
      str = count-same a.str b.str (omega arith) i;
      arr = count-same a.arr b.arr (omega arith) i;
    }

-- A count is at most 1.
count-lt : (a : Bool) → count a < 2
count-lt true = omega arith
count-lt false = omega arith

pub size-bound : (a : Kinds) → size a ≤ 5
size-bound a =
    let l0 = count-lt a.null in
    let l1 = count-lt a.bool in
    let l2 = count-lt a.int in
    let l3 = count-lt a.str in
    let l4 = count-lt a.arr in
    omega arith

-- ---- bits

-- The greater of two bits is set if one of them is.
max-one : (x y : ℕ) → x < 2 → y < 2 → (max x y == 1) ≡ (x == 1 || y == 1)
max-one zero zero l m = refl
max-one zero (suc zero) l m = refl
max-one zero (suc (suc y)) l m = absurd (omega arith)
max-one (suc zero) zero l m = refl
max-one (suc zero) (suc zero) l m = refl
max-one (suc zero) (suc (suc y)) l m = absurd (omega arith)
max-one (suc (suc x)) y l m = absurd (omega arith)

-- The smaller of two bits is set if both are.
min-one : (x y : ℕ) → x < 2 → y < 2 → (min x y == 1) ≡ (x == 1 && y == 1)
min-one zero zero l m = refl
min-one zero (suc zero) l m = refl
min-one zero (suc (suc y)) l m = absurd (omega arith)
min-one (suc zero) zero l m = refl
min-one (suc zero) (suc zero) l m = refl
min-one (suc zero) (suc (suc y)) l m = absurd (omega arith)
min-one (suc (suc x)) y l m = absurd (omega arith)

has_bit-or : (a b place : ℕ) → has_bit (bit_or a b) place ≡ (has_bit a place || has_bit b place)
has_bit-or a b place =
    ap (λ bit. bit == 1) (bit_at_or a b place) ∙ max-one _ _ (bit_at-lt a place) (bit_at-lt b place)

has_bit-and : (a b place : ℕ) → has_bit (bit_and a b) place ≡ (has_bit a place && has_bit b place)
has_bit-and a b place =
    ap (λ bit. bit == 1) (bit_at_and a b place) ∙ min-one _ _ (bit_at-lt a place) (bit_at-lt b place)

-- the kinds of a number, one by one
holds-kinds_of : (number : ℕ) (kind : Kind) → holds (kinds_of number) kind ≡ has_bit number (bit_number kind)
holds-kinds_of number = holds-where (λ kind. has_bit number (bit_number kind))

-- The bits of either are the kinds of either.
pub kinds_of-or : (a b : ℕ) → kinds_of (bit_or a b) ≡ either (kinds_of a) (kinds_of b)
kinds_of-or a b =
    same_kinds _ _ (λ kind.
    holds-kinds_of (bit_or a b) kind ∙ has_bit-or a b (bit_number kind)
    ∙ (λ i. sym (holds-kinds_of a kind) i || sym (holds-kinds_of b kind) i)
    ∙ sym (holds-where (λ k. holds (kinds_of a) k || holds (kinds_of b) k) kind))

-- The bits of both are the kinds of both.
pub kinds_of-and : (a b : ℕ) → kinds_of (bit_and a b) ≡ both (kinds_of a) (kinds_of b)
kinds_of-and a b =
    same_kinds _ _ (λ kind.
    holds-kinds_of (bit_and a b) kind ∙ has_bit-and a b (bit_number kind)
    ∙ (λ i. sym (holds-kinds_of a kind) i && sym (holds-kinds_of b kind) i)
    ∙ sym (holds-where (λ k. holds (kinds_of a) k && holds (kinds_of b) k) kind))

-- Numbers below 32 with the same kinds are one number.
pub same_number : (a b : ℕ) → a < 32 → b < 32 → kinds_of a ≡ kinds_of b → a ≡ b
same_number a b la lb e = sym (bits_of-kinds_of a la) ∙ ap bits_of e ∙ bits_of-kinds_of b lb

-- A set is in another exactly where it is the intersection of both.
pub included-same : (a b : Kinds) → both a b ≡ a → AreIncluded a b
included-same a b e = subst (λ k. AreIncluded k b) e (both-included_right a b)

pub same-included : (a b : Kinds) → AreIncluded a b → both a b ≡ a
same-included a b h =
    included-antisym (both a b) a (both-included_left a b) (included-both a b a (included-refl a) h)

-- ---- one kind

-- A kind is itself.
same_kind-refl : (kind : Kind) → same_kind kind kind ≡ true
same_kind-refl Null = refl
same_kind-refl BoolKind = refl
same_kind-refl Int = refl
same_kind-refl Str = refl
same_kind-refl Arr = refl

-- A kind that is in no more than it says is one.
pub same_kind-same : (a b : Kind) → same_kind a b ≡ true → a ≡ b
same_kind-same Null Null e = refl
same_kind-same BoolKind BoolKind e = refl
same_kind-same Int Int e = refl
same_kind-same Str Str e = refl
same_kind-same Arr Arr e = refl
same_kind-same _ _ e = absurd (true≢false (sym e))

-- The set of one kind is in the sets that have the kind.
pub only-included : (kinds : Kinds) (kind : Kind) → IsTrue (holds kinds kind) → AreIncluded (only kind) kinds
only-included kinds kind h k e =
    subst (λ x. IsTrue (holds kinds x)) (same_kind-same kind k (sym (holds-where (same_kind kind) k) ∙ e)) h

pub included-only : (kinds : Kinds) (kind : Kind) → AreIncluded (only kind) kinds → IsTrue (holds kinds kind)
included-only kinds kind h = h kind (holds-where (same_kind kind) kind ∙ same_kind-refl kind)

-- A test that says whether the set of a kind is in a set tells whether the kind is there.
pub has-holds : (there : Bool) (kinds : Kinds) (kind : Kind) → (IsTrue there → AreIncluded (only kind) kinds)
    → (AreIncluded (only kind) kinds → IsTrue there) → there ≡ holds kinds kind
has-holds there kinds kind to from =
    both_ways_same there (holds kinds kind) (λ e. included-only kinds kind (to e))
    (λ h. from (only-included kinds kind h))

-- The intersection with all other kinds is the set without the kind.
pub both-without : (kinds : Kinds) (kind : Kind)
    → both kinds (kinds_where (λ k. not (same_kind kind k))) ≡ without kinds kind
both-without kinds kind =
    same_kinds _ _ (λ k.
    holds-where (λ x. holds kinds x && holds (kinds_where (λ y. not (same_kind kind y))) x) k
    ∙ ap (λ t. holds kinds k && t) (holds-where (λ y. not (same_kind kind y)) k)
    ∙ sym (holds-where (λ x. holds kinds x && not (same_kind kind x)) k))
