-- Bytes of a class at the front, and what bytes begin with.
use Rattle.std.proofs.Common.{◌≡◌, ℕ, suc, Bool, true, false, cond, ◌&&◌, ◌==◌, List, [], ◌∷◌, ◌++◌, ◌-◌, ◌≤◌, ◌<◌, length, take, drop}
use Rattle.std.proofs.Common.{length-append, refl, ap, sym, ◌∙◌, arith}
use Rattle.std.specs.Prelude.{nat_eq}
use Rattle.std.specs.List.{starts_with}
use Rattle.std.proofs.lemmas.Bool.Decides.{nat_tests}
use Rattle.std.proofs.Math.Seq.{take-append_seam}
use Rattle.std.proofs.lemmas.List.{at_drop_more}
use Rattle.hph_ast.specs.Bytes.{begins, begins_word, is_word, begins_with, front, behind, lower}

module _ (in_class : ℕ → Bool) where
  -- the front and what stands behind it are all of the bytes
  pub front-behind : (bytes : List ℕ) → bytes ≡ front in_class bytes ++ behind in_class bytes
  front-behind [] = refl
  front-behind (byte ∷ bytes) =
      elim (in_class byte) as (λ t. byte ∷ bytes ≡ cond t (byte ∷ front in_class bytes) [] ++ cond t (behind in_class bytes)
      (byte ∷ bytes)) [
        | true ↦ ap (λ l. byte ∷ l) (front-behind bytes)
        | false ↦ refl
      ]

  -- the front is what is left where as many bytes as stand behind it are cut off
  pub take-front : (bytes : List ℕ) → take (length bytes - length (behind in_class bytes)) bytes ≡ front in_class bytes
  take-front bytes =
      let class : List ℕ = front in_class bytes in
      let rest : List ℕ = behind in_class bytes in
      let all : bytes ≡ class ++ rest = front-behind bytes in
      let len : length bytes - length rest ≡ length class = omega (arith, ap length all, length-append class rest) in
      ap (λ n. take n bytes) len ∙ (ap (take (length class)) all ∙ take-append_seam class rest)

  -- what stands behind the front is what is left without it
  pub drop-front : (bytes : List ℕ) → drop (length (front in_class bytes)) bytes ≡ behind in_class bytes
  drop-front [] = refl
  drop-front (byte ∷ bytes) =
      elim (in_class byte) as (λ t. drop (length (cond t (byte ∷ front in_class bytes) [])) (byte ∷ bytes) ≡ cond t
      (behind in_class bytes) (byte ∷ bytes)) [
        | true ↦ drop-front bytes
        | false ↦ refl
      ]

  -- the front is no longer than all
  pub length-front : (bytes : List ℕ) → length (front in_class bytes) ≤ length bytes
  length-front bytes =
      omega (arith, ap length (front-behind bytes), length-append (front in_class bytes) (behind in_class bytes))

  pub length-behind : (bytes : List ℕ) → length (behind in_class bytes) ≤ length bytes
  length-behind bytes =
      omega (arith, ap length (front-behind bytes), length-append (front in_class bytes) (behind in_class bytes))

  -- bytes that begin with one of the class have a front
  pub front_some : (bytes : List ℕ) → begins_with in_class bytes ≡ true → 0 < length (front in_class bytes)
  front_some [] is = absurd (cc)
  front_some (byte ∷ bytes) is =
      elim (in_class byte) as (λ t. t ≡ true → 0 < length (cond t (byte ∷ front in_class bytes) [])) [
        | true ↦ λ e. omega arith
        | false ↦ λ e. absurd (cc)
      ] is

-- the library's test is the grammar's
pub starts_with-begins : (word bytes : List ℕ) → starts_with nat_eq bytes word ≡ begins word bytes
starts_with-begins [] bytes = refl
starts_with-begins (a ∷ word) [] = refl
starts_with-begins (a ∷ word) (b ∷ bytes) = ap (λ t. (a == b) && t) (starts_with-begins word bytes)

-- bytes begin with no more than there are
pub begins_within : (word bytes : List ℕ) → begins word bytes ≡ true → length word ≤ length bytes
begins_within [] bytes is = omega arith
begins_within (a ∷ word) [] is = absurd (cc)
begins_within (a ∷ word) (b ∷ bytes) is =
    elim (a == b) as (λ t. (t && begins word bytes) ≡ true → length (a ∷ word) ≤ length (b ∷ bytes)) [
      | true ↦ λ e. omega (arith, begins_within word bytes e)
      | false ↦ λ e. absurd (cc)
    ] is

pub begins_word_within : (word bytes : List ℕ) → begins_word word bytes ≡ true → length word ≤ length bytes
begins_word_within [] bytes is = omega arith
begins_word_within (a ∷ word) [] is = absurd (cc)
begins_word_within (a ∷ word) (b ∷ bytes) is =
    elim (a == lower b) as (λ t. (t && begins_word word bytes) ≡ true → length (a ∷ word) ≤ length (b ∷ bytes)) [
      | true ↦ λ e. omega (arith, begins_word_within word bytes e)
      | false ↦ λ e. absurd (cc)
    ] is

and_false : (t : Bool) → (t && false) ≡ false
and_false true = refl
and_false false = refl

-- a word is what begins with it and is as long
pub is_word_by_length : (word bytes : List ℕ) → is_word word bytes ≡ ((length word == length bytes) && begins_word word bytes)
is_word_by_length [] [] = refl
is_word_by_length [] (b ∷ bytes) =
    let e : (0 == suc (length bytes)) ≡ false = grind (arith, nat_tests) in sym (ap (λ t. t && true) e)
is_word_by_length (a ∷ word) [] = sym (and_false (suc (length word) == 0))
is_word_by_length (a ∷ word) (b ∷ bytes) =
    let same : (length word == length bytes) ≡ (suc (length word) == suc (length bytes)) = grind (arith, nat_tests) in
    elim (a == lower b) as (λ t. (t && is_word word bytes) ≡ ((suc (length word) == suc (length bytes)) &&
    (t && begins_word word bytes))) [
      | true ↦ is_word_by_length word bytes ∙ ap (λ t. t && begins_word word bytes) same
      | false ↦ sym (and_false (suc (length word) == suc (length bytes)))
    ]

-- where no byte is left, no more of a word is there
pub no_word_left : (word rest : List ℕ) (i : ℕ) → i < length word → length rest < 1 → begins_word (drop i word) rest ≡ false
no_word_left word (b ∷ rest) i more few = absurd (omega arith)
no_word_left word [] i more few = at_drop_more (λ w. begins_word w []) word i 0 more
