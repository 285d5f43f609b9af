-- Sums over workers and scopes, and what findings add to them.
use Rattle.std.proofs.Common.{◌≡◌, ◌≢◌, ℕ, zero, suc, ◌<◌, ◌≤◌, ◌+◌, ◌*◌, Bool, true, false, Option, None, Some, List, [], ◌∷◌, ◌++◌, sym, refl, ap, subst, ◌∙◌, inl, inr, ◌⊎◌, ⊎_elim, arith}
use mathlib.Core.Logic.{dite}
use native.Mathlib.Decide.{ℕ_discrete}
use Rattle.hph_core.specs.declared.view.View.{View}
use Rattle.hph_core.specs.declared.view.Finding.{Finding}
use Rattle.hph_sys.specs.Typings.{In}
use Rattle.hph_core.proofs.Lists.{Changed}
use Rattle.hph_core.specs.Rule.{sum_below, tally, total, load, weight, hand_weight, one_if}

pub sum_same : (n : ℕ) (f g : ℕ → ℕ) → ((j : ℕ) → j < n → g j ≡ f j) → sum_below n g ≡ sum_below n f
sum_same zero f g h = refl
sum_same (suc n) f g h = let a = sum_same n f g (λ j l. h j (omega arith)) in let b = h n (omega arith) in omega arith

pub sum_changed : (n : ℕ) (f g : ℕ → ℕ) (i x : ℕ) → Changed f g i x → i < n → sum_below n g + f i ≡ sum_below n f + x
sum_changed zero f g i x c h = absurd (omega arith)
sum_changed (suc n) f g i x c h = dite (ℕ_discrete i n)
    (λ e. let a : sum_below n g ≡ sum_below n f = sum_same n f g (λ j l. c.away j (λ y. omega arith)) in let b : g n ≡ x = subst (λ (k : ℕ). g k ≡ x) e c.here in let d : f i ≡ f n = ap f e in omega arith)
    (λ ne. let a = sum_changed n f g i x c (omega arith) in let b : g n ≡ f n = c.away n (λ y. ne (sym y)) in omega arith)

-- one of the summands is at most the sum
pub one_in_sum : (n : ℕ) (f : ℕ → ℕ) (i : ℕ) → i < n → f i ≤ sum_below n f
one_in_sum zero f i h = absurd (omega arith)
one_in_sum (suc n) f i h = dite (ℕ_discrete i n) (λ e. let d : f i ≡ f n = ap f e in omega arith) (λ ne. let a = one_in_sum n f i (omega arith) in omega arith)

pub sum_bound : (n m : ℕ) (f : ℕ → ℕ) → ((j : ℕ) → j < n → f j ≤ m) → sum_below n f ≤ n * m
sum_bound zero m f h = omega arith
sum_bound (suc n) m f h = let a = sum_bound n m f (λ j l. h j (omega arith)) in let b = h n (omega arith) in grind arith

pub tally-append : (g : Finding → ℕ) (xs ys : List Finding) → tally g (xs ++ ys) ≡ tally g xs + tally g ys
tally-append g [] ys = omega arith
tally-append g (x ∷ xs) ys = let a = tally-append g xs ys in omega arith

pub changed_map : {A B : Type 0} (h : A → B) (f g : ℕ → A) (i : ℕ) (x : A) → Changed f g i x → Changed (λ j. h (f j)) (λ j. h (g j)) i (h x)
changed_map h f g i x c = record { here = ap h c.here; away = λ j n. ap h (c.away j n) }

sum_step : (n : ℕ) (f g : ℕ → ℕ) (i x m : ℕ) → Changed f g i x → i < n → x ≡ f i + m → sum_below n g ≡ sum_below n f + m
sum_step n f g i x m c h e = let s = sum_changed n f g i x c h in omega arith

noted_by : (g : Finding → ℕ) (v v' : View) (f : Finding) → v'.findings ≡ v.findings ++ f ∷ [] → tally g v'.findings ≡ tally g v.findings + g f
noted_by g v v' f e =
    let a : tally g v'.findings ≡ tally g v.findings + tally g (f ∷ []) = ap (tally g) e ∙ tally-append g v.findings (f ∷ []) in
    let b : tally g (f ∷ []) ≡ g f = omega arith in omega arith

pub total_noted : (g : Finding → ℕ) (E E' : ℕ → View) (w : ℕ) (v : View) (f : Finding) → Changed E E' w v → w < 64 → v.findings ≡ (E w).findings ++ f ∷ [] → total g E' ≡ total g E + g f
unfolding total
total_noted g E E' w v f c h e =
    sum_step 64 (λ j. tally g (E j).findings) (λ j. tally g (E' j).findings) w (tally g v.findings) (g f) (changed_map (λ (x : View). tally g x.findings) E E' w v c) h (noted_by g (E w) v f e)

pub load_changed : (E E' : ℕ → View) (w : ℕ) (v : View) → Changed E E' w v → w < 64 → load E' + weight (E w) ≡ load E + weight v
unfolding load
load_changed E E' w v c h = sum_changed 64 (λ j. weight (E j)) (λ j. weight (E' j)) w (weight v) (changed_map weight E E' w v c) h

hand_small : (h : Option ℕ) → hand_weight h ≤ 1
hand_small None = omega arith
hand_small (Some s) = omega arith

one_small : (b : Bool) → one_if b ≤ 1
one_small true = omega arith
one_small false = omega arith

bound_by : (a b : ℕ) → a ≤ b → a ≤ b
bound_by a b h = h

pub weight_small : (v : View) → weight v ≤ 2
weight_small v = let a = hand_small v.hand in let b = one_small v.debt in omega arith

pub load_bound : (E : ℕ → View) → load E ≤ 128
unfolding load
load_bound E = let a = sum_bound 64 2 (λ j. weight (E j)) (λ j _. weight_small (E j)) in bound_by (sum_below 64 (λ j. weight (E j))) 128 a

pub one_in_load : (E : ℕ → View) (w : ℕ) → w < 64 → weight (E w) ≤ load E
unfolding load
one_in_load E w h = one_in_sum 64 (λ j. weight (E j)) w h

module _ {A : Type 0} where
  pub in_left : (x : A) (xs ys : List A) → In x xs → In x (xs ++ ys)
  in_left x [] ys h = absurd h
  in_left x (y ∷ xs) ys (inl e) = inl e
  in_left x (y ∷ xs) ys (inr h) = inr (in_left x xs ys h)

  pub in_right : (x : A) (xs ys : List A) → In x ys → In x (xs ++ ys)
  in_right x [] ys h = h
  in_right x (y ∷ xs) ys h = inr (in_right x xs ys h)

  pub in_append : (x : A) (xs ys : List A) → In x (xs ++ ys) → In x xs ⊎ In x ys
  in_append x [] ys h = inr h
  in_append x (y ∷ xs) ys (inl e) = inl (inl e)
  in_append x (y ∷ xs) ys (inr h) = ⊎_elim (λ a. inl (inr a)) (λ b. inr b) (in_append x xs ys h)

  pub in_last : (x : A) (xs : List A) → In x (xs ++ x ∷ [])
  in_last x xs = in_right x xs (x ∷ []) (inl refl)
