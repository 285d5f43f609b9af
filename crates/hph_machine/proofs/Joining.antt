-- Two seats of a list, of which one is emptied and the other changed.
use Rattle.std.proofs.Common.{◌≡◌, ◌≢◌, ℕ, zero, suc, ◌<◌, List, [], ◌∷◌, length, get_or, set, sym, refl, ap, subst, ◌∙◌, get_or-set_other, arith}
use Rattle.hph_core.specs.declared.view.View.{View}
use Rattle.hph_core.specs.State.{spent}
use Rattle.hph_core.specs.Effects.{after_join}

module _ {A : Type 0} where
  set_swap : (xs : List A) (i j : ℕ) (a b : A) → i ≢ j → set (set xs i a) j b ≡ set (set xs j b) i a
  set_swap [] i j a b n = refl
  set_swap (x ∷ xs) zero zero a b n = absurd (n refl)
  set_swap (x ∷ xs) zero (suc j) a b n = refl
  set_swap (x ∷ xs) (suc i) zero a b n = refl
  set_swap (x ∷ xs) (suc i) (suc j) a b n = ap (λ l. x ∷ l) (set_swap xs i j a b (λ e. n (ap suc e)))

  set_twice : (xs : List A) (i : ℕ) (a b : A) → set (set xs i a) i b ≡ set xs i b
  set_twice [] i a b = refl
  set_twice (x ∷ xs) zero a b = refl
  set_twice (x ∷ xs) (suc i) a b = ap (λ l. x ∷ l) (set_twice xs i a b)

  set_same : (xs : List A) (i : ℕ) (d : A) → set xs i (get_or xs i d) ≡ xs
  set_same [] i d = refl
  set_same (x ∷ xs) zero d = refl
  set_same (x ∷ xs) (suc i) d = ap (λ l. x ∷ l) (set_same xs i d)

  set_len : (xs : List A) (i : ℕ) (a : A) → length (set xs i a) ≡ length xs
  set_len [] i a = refl
  set_len (x ∷ xs) zero a = refl
  set_len (x ∷ xs) (suc i) a = ap suc (set_len xs i a)

  pub in_set : (xs : List A) (i j : ℕ) (a : A) → j < length xs → j < length (set xs i a)
  in_set xs i j a h = subst (λ (n : ℕ). j < n) (sym (set_len xs i a)) h

module _ (es : List View) (w j : ℕ) (s gone old v : View) (two : j ≢ w) (gone_is : gone ≡ get_or es j spent) (old_is : old ≡ get_or (set es j s) w spent) where
  old_was : old ≡ get_or es w spent
  old_was = old_is ∙ get_or-set_other es j w s spent (λ e. two (sym e))

  pub joined : s ≡ spent → v ≡ after_join old gone → set (set es j s) w v ≡ set (set es w (after_join (get_or es w spent) (get_or es j spent))) j spent
  joined s_is v_is = set_swap es j w s v two ∙ (ap (λ x. set (set es w v) j x) s_is ∙ ap (λ x. set (set es w x) j spent) (v_is ∙ (ap (λ x. after_join x gone) old_was ∙ ap (λ x. after_join (get_or es w spent) x) gone_is)))

  pub given_back : (back : View) → v ≡ old → back ≡ gone → set (set (set es j s) w v) j back ≡ es
  given_back back v_is back_is = ap (λ x. set x j back) (set_swap es j w s v two) ∙ (set_twice (set es w v) j s back ∙ (ap (λ x. set (set es w v) j x) (back_is ∙ gone_is) ∙ (ap (λ x. set (set es w x) j (get_or es j spent)) (v_is ∙ old_was) ∙ (ap (λ l. set l j (get_or es j spent)) (set_same es w spent) ∙ set_same es j spent))))
