-- The first place of a needle, by its definition and by the search; and what stands around the first separator.
use Rattle.std.proofs.Common.{◌≡◌, ◌<◌, ◌≤◌, ◌+◌, ◌-◌, ◌&&◌, ◌==◌, ◌⊎◌, inl, inr, ℕ, zero, suc, Bool, true, false, cond, List, [], ◌∷◌, length, take, drop, Option, None, Some, IfSome}
use Rattle.std.proofs.Common.{refl, ap, sym, ◌∙◌, arith, nat_le, eqb}
use Rattle.std.proofs.Math.Dec.{leb-zero, leb-suc-zero, leb-suc-suc}
use Rattle.std.proofs.lemmas.Bool.Decides.{nat_tests}
use Rattle.std.proofs.lemmas.List.{drop-drop, length-drop}
use Rattle.std.proofs.Math.Seq.{take-length}
use Rattle.hph_builtin_text.specs.Splits.{AreSplit}
use Rattle.std.specs.Option.{option_map}
use Rattle.std.specs.Str.{bytes_eq}
use Rattle.memchr.specs.Find.{FindsNeedle, occurs_at, matches_from, match_len, first_of}
use Rattle.memchr.proofs.lemmas.ValueLemmas.{FindsNeedle-value}
use Rattle.hph_ast.specs.Bytes.{begins}
use Rattle.hph_php.specs.StringFunctions.{first_place, pieces, explode, onto_first}

-- ---- the first place

swapped : (t u v : Bool) → (t && (u && v)) ≡ (u && (t && v))
swapped true u v = refl
swapped false true v = refl
swapped false false v = refl

equal_either_way : (a b : ℕ) → eqb a b ≡ eqb b a
equal_either_way a b = grind (arith, nat_tests)

begins_taken : (needle bs : List ℕ) → begins needle bs ≡ (nat_le (length needle) (length bs) && bytes_eq (take (length needle) bs) needle)
begins_taken [] bs = ap (λ t. t && true) (sym (leb-zero (length bs)))
begins_taken (a ∷ needle) [] = ap (λ t. t && false) (sym (leb-suc-zero (length needle)))
begins_taken (a ∷ needle) (b ∷ bs) =
    let taken : Bool = bytes_eq (take (length needle) bs) needle in
    (λ i. equal_either_way a b i && begins_taken needle bs i)
    ∙ (swapped (b == a) (nat_le (length needle) (length bs)) taken
    ∙ ap (λ t. t && ((b == a) && taken)) (sym (leb-suc-suc (length needle) (length bs))))

as_far : (a b c i : ℕ) → i + b ≡ c → nat_le (i + a) c ≡ nat_le a b
as_far a b c i e = grind (arith, nat_tests)

-- The needle stands at a place exactly where the bytes from it on begin with the needle.
begins_there : (hay needle bs : List ℕ) (i : ℕ) → drop i hay ≡ bs → i + length bs ≡ length hay → occurs_at hay needle i ≡ begins needle bs
begins_there hay needle bs i p q =
    ap (λ l. nat_le (i + length needle) (length hay) && bytes_eq (take (length needle) l) needle) p
    ∙ (ap (λ t. t && bytes_eq (take (length needle) bs) needle) (as_far (length needle) (length bs) (length hay) i q)
    ∙ sym (begins_taken needle bs))

one_later : (i : ℕ) (o : Option ℕ) → option_map (λ k. (i + 1) + k) o ≡ option_map (λ k. i + k) (option_map suc o)
one_later i None = refl
one_later i (Some k) = ap (λ n. Some n) (omega arith)

by_test : (t : Bool) (i : ℕ) (later rest : List ℕ) (o : Option ℕ) → first_of rest ≡ option_map (λ k. (i + 1) + k) o
    → first_of (cond t (i ∷ later) rest) ≡ option_map (λ k. i + k) (cond t (Some 0) (option_map suc o))
unfolding first_of
by_test true i later rest o e = ap (λ n. Some n) (omega arith)
by_test false i later rest o e = e ∙ one_later i o

at_the_end : (t : Bool) (i : ℕ) (later : List ℕ) → first_of (cond t (i ∷ later) []) ≡ option_map (λ k. i + k) (cond t (Some 0) None)
unfolding first_of
at_the_end true i later = ap (λ n. Some n) (omega arith)
at_the_end false i later = refl

first_match : (hay needle bs : List ℕ) (i : ℕ) → drop i hay ≡ bs → i + length bs ≡ length hay
    → first_of (matches_from hay needle 0 i (suc (length bs))) ≡ option_map (λ k. i + k) (first_place needle bs)
unfolding matches_from
first_match hay needle [] i p q =
    ap (λ t. first_of (cond t (i ∷ []) [])) (begins_there hay needle [] i p q) ∙ at_the_end (begins needle []) i []
first_match hay needle (b ∷ bs) i p q =
    let later : List ℕ = matches_from hay needle (match_len needle - 1) (i + 1) (suc (length bs)) in
    let rest : List ℕ = matches_from hay needle 0 (i + 1) (suc (length bs)) in
    let dropped : drop (i + 1) hay ≡ bs = sym (drop-drop 1 i hay) ∙ ap (λ l. drop 1 l) p in
    let onward : first_of rest ≡ option_map (λ k. (i + 1) + k) (first_place needle bs) = first_match hay needle bs (i + 1) dropped (omega arith) in
    ap (λ t. first_of (cond t (i ∷ later) rest)) (begins_there hay needle (b ∷ bs) i p q)
    ∙ by_test (begins needle (b ∷ bs)) i later rest (first_place needle bs) onward

from_start : (o : Option ℕ) → option_map (λ k. 0 + k) o ≡ o
from_start None = refl
from_start (Some k) = ap (λ n. Some n) (omega arith)

pub found_place : (hay needle : List ℕ) (r : Option ℕ) → FindsNeedle hay needle 0 r → r ≡ first_place needle hay
found_place hay needle r found =
    let all : length hay + 1 - 0 ≡ suc (length hay) = omega arith in
    FindsNeedle-value hay needle r found
    ∙ (ap (λ n. first_of (matches_from hay needle 0 0 n)) all
    ∙ (first_match hay needle hay 0 refl (omega arith) ∙ from_start (first_place needle hay)))

pub found_within : (hay needle : List ℕ) (r : Option ℕ) → FindsNeedle hay needle 0 r → IfSome r (λ k. k + length needle ≤ length hay)
found_within hay needle None found = tt
found_within hay needle (Some k) found = found.1.fits

-- ---- pieces

-- Bytes that are passed over are dropped.
passed_over : (separator : List ℕ) (n : ℕ) (bs : List ℕ) → pieces separator n bs ≡ pieces separator 0 (drop n bs)
passed_over separator zero bs = refl
passed_over separator (suc n) [] = refl
passed_over separator (suc n) (b ∷ bs) = passed_over separator n bs

none_later : (t : Bool) (o : Option ℕ) → cond t (Some 0) (option_map suc o) ≡ None → (t ≡ false) × (o ≡ None)
none_later true o e = let no : ⊥ = cc in absurd no
none_later false None e = (refl, refl)
none_later false (Some k) e = let no : ⊥ = cc in absurd no

pub one_piece : (s : ℕ) (separator bs : List ℕ) → first_place (s ∷ separator) bs ≡ None → explode (s ∷ separator) bs ≡ bs ∷ []
one_piece s separator [] e = refl
one_piece s separator (b ∷ bs) e =
    let parts = none_later (begins (s ∷ separator) (b ∷ bs)) (first_place (s ∷ separator) bs) e in
    ap (λ t. cond t ([] ∷ pieces (s ∷ separator) (length (s ∷ separator) - 1) bs) (onto_first b (pieces (s ∷ separator) 0 bs))) parts.0
    ∙ ap (λ ps. onto_first b ps) (one_piece s separator bs parts.1)

here_or_later : (t : Bool) (o : Option ℕ) (k : ℕ) → cond t (Some 0) (option_map suc o) ≡ Some k
    → ((t ≡ true) × (k ≡ 0)) ⊎ ((t ≡ false) × ((j : ℕ) × ((o ≡ Some j) × (k ≡ suc j))))
here_or_later true o k e = let first : k ≡ 0 = cc in inl (refl, first)
here_or_later false None k e = let no : ⊥ = cc in absurd no
here_or_later false (Some j) k e = let next : k ≡ suc j = cc in inr (refl, (j, (refl, next)))

pub first_piece : (s : ℕ) (separator bs : List ℕ) (k : ℕ) → first_place (s ∷ separator) bs ≡ Some k
    → explode (s ∷ separator) bs ≡ take k bs ∷ explode (s ∷ separator) (drop (k + suc (length separator)) bs)
first_piece s separator [] k e = let no : ⊥ = cc in absurd no
first_piece s separator (b ∷ bs) k e =
    let size : ℕ = suc (length separator) in
    let here : List (List ℕ) = [] ∷ pieces (s ∷ separator) (size - 1) bs in
    let later : List (List ℕ) = onto_first b (pieces (s ∷ separator) 0 bs) in
    elim (here_or_later (begins (s ∷ separator) (b ∷ bs)) (first_place (s ∷ separator) bs) k e) [
      | inl p ↦
          let one_less : size - 1 ≡ length separator = omega arith in
          let behind : k + size ≡ suc (length separator) = omega (arith, p.1) in
          ap (λ t. cond t here later) p.0
          ∙ (ap (λ l. [] ∷ l) (passed_over (s ∷ separator) (size - 1) bs ∙ ap (λ n. pieces (s ∷ separator) 0 (drop n bs)) one_less)
          ∙ (λ i. take (sym p.1 i) (b ∷ bs) ∷ explode (s ∷ separator) (drop (sym behind i) (b ∷ bs))))
      | inr q ↦
          let j : ℕ = q.1.0 in
          let behind : k + size ≡ suc (j + size) = omega (arith, q.1.1.1) in
          ap (λ t. cond t here later) q.0
          ∙ (ap (λ ps. onto_first b ps) (first_piece s separator bs j q.1.1.0)
          ∙ (λ i. take (sym q.1.1.1 i) (b ∷ bs) ∷ explode (s ∷ separator) (drop (sym behind i) (b ∷ bs))))
    ]

whole : (bs : List ℕ) (m : ℕ) → take (length bs - m) (drop m bs) ≡ drop m bs
whole bs m = ap (λ n. take n (drop m bs)) (sym (length-drop m bs)) ∙ take-length (drop m bs)

-- What stands in front of the first separator and behind it.
pub split_at : (separator bs : List ℕ) (k n : ℕ) → 0 < length separator → n ≡ length separator → k + length separator ≤ length bs
    → Some k ≡ first_place separator bs → AreSplit separator bs (take k bs) (take (length bs - (k + n)) (drop (k + n) bs))
split_at [] bs k n some e within found = absurd (omega (arith, some))
split_at (s ∷ separator) bs k n some e within found = record {
  pieces =
      first_piece s separator bs k (sym found)
      ∙ ap (λ l. take k bs ∷ explode (s ∷ separator) l) (ap (λ m. drop (k + m) bs) (sym e) ∙ sym (whole bs (k + n)));
  shorter =
      let rest : length (take (length bs - (k + n)) (drop (k + n) bs)) ≡ length bs - (k + n) = ap length (whole bs (k + n)) ∙ length-drop (k + n) bs in
      omega arith;
}

pub unsplit : (separator bs : List ℕ) → 0 < length separator → None ≡ first_place separator bs → explode separator bs ≡ bs ∷ []
unsplit [] bs some found = absurd (omega (arith, some))
unsplit (s ∷ separator) bs some found = one_piece s separator bs (sym found)
