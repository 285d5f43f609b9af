-- The first place from which a test holds: there is one at most, and it is found by going from the front.
use Rattle.std.specs.Prelude.{MatchOption, unwrap_or}
use Rattle.std.proofs.Common.{Option, Some, None, subst, ◌≡◌, ℕ, zero, suc, ◌<◌, ◌≤◌, Bool, true, false, List, [], ◌∷◌, ◌⊎◌, inl, inr}
use Rattle.std.proofs.Common.{length, drop, refl, ap, sym, ◌∙◌, arith}
use Rattle.hph_ast.specs.Bytes.{First, here, later, Never}

module _ (p : List ℕ → Bool) where
  -- there is one at most
  pub one_first : (bs : List ℕ) (m n : ℕ) → First p bs m → First p bs n → m ≡ n
  one_first bs zero zero d e = refl
  one_first bs zero (suc n) (here t) (later f e) = absurd (cc)
  one_first bs (suc m) zero (later f d) (here t) = absurd (cc)
  one_first [] (suc m) (suc n) d e = elim d [ ]
  one_first (b ∷ bs) (suc m) (suc n) (later f d) (later g e) = ap suc (one_first bs m n d e)

  -- it is within the bytes, and the test holds there
  pub first_within : {bs : List ℕ} {n : ℕ} → First p bs n → n ≤ length bs
  first_within (here t) = omega arith
  first_within (later f d) = let below = first_within d in omega arith

  pub first_holds : {bs : List ℕ} {n : ℕ} → First p bs n → p (drop n bs) ≡ true
  first_holds (here t) = t
  first_holds (later f d) = first_holds d

  -- where the test holds at no place before
  pub first_from : (bs : List ℕ) (n : ℕ) → n ≤ length bs → ((k : ℕ) → k < n → p (drop k bs) ≡ false) → p (drop n bs) ≡ true → First p bs n
  first_from bs zero within before holds = here holds
  first_from [] (suc n) within before holds = absurd (omega arith)
  first_from (b ∷ bs) (suc n) within before holds =
      later (before 0 (omega arith)) (first_from bs n (omega arith) (λ k below. before (suc k) (omega arith)) holds)

  -- where it holds nowhere
  pub never_from : (bs : List ℕ) → ((k : ℕ) → k ≤ length bs → p (drop k bs) ≡ false) → Never p bs
  never_from bs nowhere n d =
      let holds = first_holds d in
      let fails = nowhere n (first_within d) in
      absurd (cc)

  -- there is one, or the test holds nowhere
  pub first_or_never : (bs : List ℕ) → ((n : ℕ) × First p bs n) ⊎ Never p bs
  first_or_never [] =
      elim (p []) as (λ t. p [] ≡ t → ((n : ℕ) × First p [] n) ⊎ Never p []) [
        | true ↦ λ holds. inl (0, here holds)
        | false ↦ λ fails. inr (never_from [] (λ k below. let k_is : k ≡ 0 = omega arith in ap (λ k. p (drop k [])) k_is ∙ fails))
      ] refl
  first_or_never (b ∷ bs) =
      elim (p (b ∷ bs)) as (λ t. p (b ∷ bs) ≡ t → ((n : ℕ) × First p (b ∷ bs) n) ⊎ Never p (b ∷ bs)) [
        | true ↦ λ holds. inl (0, here holds)
        | false ↦ λ fails. elim (first_or_never bs) [
          | inl found ↦ inl (suc found.0, later fails found.1)
          | inr never ↦ inr (λ n d. not_later fails never n d)
        ]
      ] refl
    where
      not_later : p (b ∷ bs) ≡ false → Never p bs → Never p (b ∷ bs)
      not_later fails never zero (here t) = absurd (cc)
      not_later fails never (suc n) (later f d) = never n d

  -- a test that holds at the end is met somewhere
  pub first_somewhere : p [] ≡ true → (bs : List ℕ) → Never p bs → ⊥
  first_somewhere at_end [] never = never 0 (here at_end)
  first_somewhere at_end (b ∷ bs) never =
      elim (p (b ∷ bs)) as (λ t. p (b ∷ bs) ≡ t → ⊥) [
        | true ↦ λ holds. never 0 (here holds)
        | false ↦ λ fails. first_somewhere at_end bs (λ n d. never (suc n) (later fails d))
      ] refl

-- what is found, or all of the bytes, is first where the test holds at the end
pub first_or_all : (p : List ℕ → Bool) (bs : List ℕ) (found : Option ℕ) (n : ℕ) → p [] ≡ true →
    MatchOption found (Never p bs) (λ at. First p bs at) → n ≡ unwrap_or found (length bs) → First p bs n
first_or_all p bs None n at_end never is = absurd (first_somewhere p at_end bs never)
first_or_all p bs (Some at) n at_end found is = subst (λ n. First p bs n) (sym is) found
