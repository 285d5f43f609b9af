-- Each event keeps the parts of the rule. Entries, holders and cells are functions here.
use Rattle.std.proofs.Common.{◌≡◌, ◌≢◌, ℕ, ◌<◌, ◌≤◌, ◌+◌, suc, eqb, Bool, true, false, not, cond, List, [], ◌∷◌, ◌++◌, length, get_or, set, sym, refl, ap, subst, ◌∙◌, inl, inr, ◌⊎◌, ⊎_elim, arith, None, length-set}
use mathlib.Core.Logic.{dite}
use native.Mathlib.Decide.{ℕ_discrete}
use Rattle.hph_type.specs.Types.{PhpType}
use Rattle.hph_core.specs.declared.view.View.{View}
use Rattle.hph_core.specs.declared.view.Known.{Known}
use Rattle.hph_core.proofs.Lists.{in_kept, kept_in, changed_set, unchanged, eqb_true, not_eqb-ne, in_without, without_in}
use Rattle.hph_core.proofs.Types.{leq_trans, leq_join, join_least, asked_below}
use Rattle.hph_type.specs.Order.{Leq, join, IsOf}
use Rattle.hph_type.specs.Types.{none}
use Rattle.hph_sys.specs.Shape.{Shape, asked, IsTyping}
use Rattle.hph_sys.specs.Typings.{In, at, Below}
use Rattle.hph_sys.specs.Least.{IsSolution}
use Rattle.hph_sys.specs.Lawful.{Lawful}
use Rattle.hph_core.specs.State.{WorkerState, entry, holder, spent, fresh, without, elsewhere, others}
use Rattle.hph_core.specs.Effects.{know, held_word, after_try, after_release, after_read, after_raise}
use Rattle.hph_core.specs.Rule.{Held, IsKnown, Knows, Seated, AtMostLeast, KeepsInvariant}
use Rattle.hph_core.proofs.Lists.{Changed}
use Rattle.hph_core.specs.Conditions.{MayRaise}

module _ {A : Type 0} where
  pub look : (f g : ℕ → A) (i : ℕ) (x : A) → Changed f g i x → (j : ℕ) → ((j ≡ i) × (g j ≡ x)) ⊎ ((j ≢ i) × (g j ≡ f j))
  look f g i x c j = dite (ℕ_discrete j i) (λ e. inl (e, subst (λ (k : ℕ). g k ≡ x) (sym e) c.here)) (λ n. inr (n, c.away j n))

  -- a fact of each place, from one of the changed place and those of the others
  pub each : (P : ℕ → A → Type 0) (f g : ℕ → A) (i : ℕ) (x : A) → Changed f g i x → P i x → ((j : ℕ) → j ≢ i → P j (f j)) → (j : ℕ) → P j (g j)
  each P f g i x c here else j = ⊎_elim
      (λ y. subst (λ (k : ℕ). P k (g k)) (sym y.0) (subst (P i) (sym c.here) here))
      (λ n. subst (P j) (sym n.1) (else j n.0))
      (look f g i x c j)

module _ (E E' : ℕ → View) (H H' : ℕ → ℕ) (w : ℕ) (v : View) (moved : Changed E E' w v) (was : Held E H) where
  held_changes : ((d : ℕ) → In d v.holds → H' d ≡ w + 1) → ((d : ℕ) → H' d ≡ w + 1 → In d v.holds)
      → ((u d : ℕ) → u ≢ w → H d ≡ u + 1 → H' d ≡ u + 1) → ((u d : ℕ) → u ≢ w → H' d ≡ u + 1 → H d ≡ u + 1) → Held E' H'
  held_changes gain keep on off = record {
    word = λ u d. each (λ (k : ℕ) (x : View). In d x.holds → H' d ≡ k + 1) E E' w v moved (gain d) (λ j n h. on j d n (was.word j d h)) u;
    hold = λ u d. each (λ (k : ℕ) (x : View). H' d ≡ k + 1 → In d x.holds) E E' w v moved (keep d) (λ j n h. was.hold j d (off j d n h)) u;
  }

  -- the holders stay
  pub held_same : v.holds ≡ (E w).holds → ((d : ℕ) → H' d ≡ H d) → Held E' H'
  held_same same stay = held_changes
      (λ d i. stay d ∙ was.word w d (subst (In d) same i))
      (λ d e. subst (In d) (sym same) (was.hold w d (sym (stay d) ∙ e)))
      (λ u d n e. stay d ∙ e)
      (λ u d n e. sym (stay d) ∙ e)

  pub held_got : (d : ℕ) → H d ≡ 0 → v.holds ≡ d ∷ (E w).holds → Changed H H' d (w + 1) → Held E' H'
  held_got d free holds to =
      let away : (x u : ℕ) → H x ≡ u + 1 → x ≢ d = λ x u e y. let z : H x ≡ 0 = ap H y ∙ free in omega arith in
      held_changes
      (λ x i. ⊎_elim (λ e. ap H' e ∙ to.here) (λ h. let old = was.word w x h in to.away x (away x w old) ∙ old) (let j : In x (d ∷ (E w).holds) = subst (In x) holds i in j))
      (λ x e. subst (In x) (sym holds) (⊎_elim (λ y. let r : In x (d ∷ (E w).holds) = inl y.0 in r) (λ n. let r : In x (d ∷ (E w).holds) = inr (was.hold w x (sym n.1 ∙ e)) in r) (look H H' d (w + 1) to x)))
      (λ u x n e. to.away x (away x u e) ∙ e)
      (λ u x n e. ⊎_elim (λ y. absurd (n (let a : w + 1 ≡ u + 1 = sym y.1 ∙ e in omega arith))) (λ k. sym k.1 ∙ e) (look H H' d (w + 1) to x))

  pub held_released : (d : ℕ) → In d (E w).holds → v.holds ≡ without d (E w).holds → Changed H H' d 0 → Held E' H'
  held_released d has holds to =
      let mine : H d ≡ w + 1 = was.word w d has in
      held_changes
      (λ x i. let r = in_without d x (E w).holds (subst (In x) holds i) in to.away x r.1 ∙ was.word w x r.0)
      (λ x e. ⊎_elim (λ y. absurd (let a : 0 ≡ w + 1 = sym y.1 ∙ e in omega arith)) (λ k. subst (In x) (sym holds) (without_in d x (E w).holds (was.hold w x (sym k.1 ∙ e)) k.0)) (look H H' d 0 to x))
      (λ u x n e. ⊎_elim (λ y. absurd (n (let a : H d ≡ u + 1 = ap H (sym y.0) ∙ e in omega arith))) (λ k. k.1 ∙ e) (look H H' d 0 to x))
      (λ u x n e. ⊎_elim (λ y. absurd (let a : 0 ≡ u + 1 = sym y.1 ∙ e in omega arith)) (λ k. sym k.1 ∙ e) (look H H' d 0 to x))

module _ (sys : Shape) (E E' : ℕ → View) (T : ℕ → PhpType) (w : ℕ) (v : View) (moved : Changed E E' w v) (was : Knows sys E T) where
  -- the cells stay
  pub knows_changes : ((k : Known) → In k v.known → IsKnown sys T v k) → Knows sys E' T
  knows_changes mine = each (λ (u : ℕ) (x : View). (k : Known) → In k x.known → IsKnown sys T x k) E E' w v moved mine (λ j n. was j)

  pub seated_changes : Seated E → (E w).live ≡ true → v.live ≡ true → v.number ≡ w → Seated E'
  seated_changes s before live number = record {
    number = each (λ (u : ℕ) (x : View). x.live ≡ true → x.number ≡ u) E E' w v moved (λ _. number) (λ j n. s.number j);
    gone = each (λ (u : ℕ) (x : View). x.live ≡ false → x ≡ spent) E E' w v moved (λ dead. absurd (cc)) (λ j n. s.gone j);
  }
