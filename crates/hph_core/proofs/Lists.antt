-- Membership, lists without some of their members, and lists changed at one place.
use Rattle.std.proofs.Common.{◌≡◌, ◌≢◌, ℕ, ◌<◌, ◌+◌, eqb, Bool, true, false, not, cond, if◌then◌else◌, List, [], ◌∷◌, length, get_or, set, sym, refl, ap, subst, ◌∙◌, inl, inr, ◌⊎◌, ⊎_elim, eq-eqb, ne_eqb, arith, get_or-set_same, get_or-set_other, length-set}
use mathlib.Core.Logic.{dite}
use native.Mathlib.Decide.{ℕ_discrete}
use Rattle.hph_sys.specs.Typings.{In}
use Rattle.hph_core.specs.State.{keep_if, without}

-- g is f but for the place i, where it is x.
pub record Changed {A : Type 0} (f g : ℕ → A) (i : ℕ) (x : A) : Type 0 where
  pub here : g i ≡ x
  pub away : (j : ℕ) → j ≢ i → g j ≡ f j

module _ {A : Type 0} where
  in_kept-at : (p : A → Bool) (x y : A) (ys : List A) (b : Bool) → p y ≡ b → (In x (keep_if p ys) → In x ys × (p x ≡ true)) → In x (if b then y ∷ keep_if p ys else keep_if p ys) → In x (y ∷ ys) × (p x ≡ true)
  in_kept-at p x y ys true e ih (inl h) = (inl h, ap p h ∙ e)
  in_kept-at p x y ys true e ih (inr h) = let r = ih h in (inr r.0, r.1)
  in_kept-at p x y ys false e ih h = let r = ih h in (inr r.0, r.1)

  pub in_kept : (p : A → Bool) (x : A) (ys : List A) → In x (keep_if p ys) → In x ys × (p x ≡ true)
  in_kept p x [] h = absurd h
  in_kept p x (y ∷ ys) h = in_kept-at p x y ys (p y) refl (in_kept p x ys) h

  kept_in-here : (p : A → Bool) (x y : A) (ys : List A) → x ≡ y → p x ≡ true → In x (if p y then y ∷ keep_if p ys else keep_if p ys)
  kept_in-here p x y ys e t = let u : p y ≡ true = ap p (sym e) ∙ t in subst (λ (b : Bool). In x (if b then y ∷ keep_if p ys else keep_if p ys)) (sym u) (inl e)

  kept_in-there : (x y : A) (ks : List A) (b : Bool) → In x ks → In x (if b then y ∷ ks else ks)
  kept_in-there x y ks true h = inr h
  kept_in-there x y ks false h = h

  pub kept_in : (p : A → Bool) (x : A) (ys : List A) → In x ys → p x ≡ true → In x (keep_if p ys)
  kept_in p x [] h t = h
  kept_in p x (y ∷ ys) (inl e) t = kept_in-here p x y ys e t
  kept_in p x (y ∷ ys) (inr h) t = kept_in-there x y (keep_if p ys) (p y) (kept_in p x ys h t)

  pub changed_set : (xs : List A) (i : ℕ) (x d : A) → i < length xs → Changed (λ j. get_or xs j d) (λ j. get_or (set xs i x) j d) i x
  changed_set xs i x d h = record { here = get_or-set_same xs i x d h; away = λ j ne. get_or-set_other xs i j x d ne }

  pub unchanged : (f g : ℕ → A) (i : ℕ) (x : A) → Changed f g i x → x ≡ f i → (j : ℕ) → g j ≡ f j
  unchanged f g i x c e j = dite (ℕ_discrete j i) (λ h. subst (λ (k : ℕ). g k ≡ f k) (sym h) (c.here ∙ e)) (λ n. c.away j n)

pub eqb_true : (x y : ℕ) → eqb x y ≡ true → x ≡ y
eqb_true x y h = dite (ℕ_discrete x y) (λ e. e) (λ n. absurd (let f : eqb x y ≡ false = ne_eqb x y n in cc))

pub not_eqb : (x y : ℕ) → x ≢ y → not (eqb x y) ≡ true
not_eqb x y n = ap not (ne_eqb x y n)

pub not_eqb-ne : (x y : ℕ) → not (eqb x y) ≡ true → x ≢ y
not_eqb-ne x y h e = let f : not (eqb x y) ≡ false = ap not (eq-eqb x y e) in absurd (cc)

pub in_without : (d x : ℕ) (ys : List ℕ) → In x (without d ys) → In x ys × (x ≢ d)
in_without d x ys h = let r = in_kept (λ (y : ℕ). not (eqb y d)) x ys h in (r.0, not_eqb-ne x d r.1)

pub without_in : (d x : ℕ) (ys : List ℕ) → In x ys → x ≢ d → In x (without d ys)
without_in d x ys h n = kept_in (λ (y : ℕ). not (eqb y d)) x ys h (not_eqb x d n)

pub in_dec : (x : ℕ) (xs : List ℕ) → Dec (In x xs)
in_dec x [] = no (λ h. h)
in_dec x (y ∷ ys) = dite (ℕ_discrete x y) (λ e. yes (inl e)) (λ n. dite (in_dec x ys) (λ h. yes (inr h)) (λ m. no (λ h. ⊎_elim n m h)))
