-- Reductions one after another.
use Rattle.std.proofs.Common.{◌≡◌, ℕ, suc, ◌+◌, ◌≤◌, refl, sym, ap, ◌∙◌, subst, arith}
use Rattle.hph_wasm.specs.declared.module.Module.{Module}
use Rattle.hph_wasm.specs.Reduction.{reduce}
use Rattle.hph_wasm.specs.Run.{outcome_of}
use Rattle.hph_wasm.proofs.Runs.{reduce-add}
use Rattle.hph_php.specs.State.{State}
use Rattle.hph_php.specs.Answers.{Answer, Gets, Ends, More, Means, proceed, give}
use Rattle.hph_effects.specs.Effects.{php1}
use Rattle.hph_seqv.specs.Simulates.{Conf, Follows}

module _ (m : Module) where
  pub reduce_on : (i j : ℕ) (c c1 c2 : Conf) → reduce php1 m i c ≡ c1 → reduce php1 m j c1 ≡ c2 → reduce php1 m (i + j) c ≡ c2
  reduce_on i j c c1 c2 p q = reduce-add php1 m i j c ∙ ap (reduce php1 m j) p ∙ q

  -- what is shown after some reductions and then others
  shown_on : (i j : ℕ) (c c1 : Conf) → reduce php1 m i c ≡ c1 →
      outcome_of php1 m (reduce php1 m (i + j) c) ≡ outcome_of php1 m (reduce php1 m j c1)
  shown_on i j c c1 e = ap (outcome_of php1 m) (reduce_on i j c c1 (reduce php1 m j c1) e refl)

  module _ (u : ℕ) {A : Type 0} (Goal : A → State → Conf → Type 0) where
    -- after i reductions
    pub after_steps : (i b n : ℕ) (c c1 : Conf) (x : Answer A) → reduce php1 m i c ≡ c1 → Follows m u Goal b n c1 x →
        Follows m u Goal (i + b) n c x
    after_steps i b n c c1 (Gets a n' st) e f =
        let p = f.2 in (
          i + f.0,
          subst (Goal a st) (sym (reduce_on i f.0 c c1 (reduce php1 m f.0 c1) e refl)) f.1,
          record { kept = p.kept; least = omega (arith, p.least); most = omega (arith, p.most) },
        )
    after_steps i b n c c1 (Ends stop st) e f = (i + f.0, shown_on i f.0 c c1 e ∙ f.1, omega (arith, f.2))
    after_steps i b n c c1 (More st) e f = (i + f.0, shown_on i f.0 c c1 e ∙ f.1, omega (arith, f.2), omega (arith, f.3))

    -- the first of some reductions takes a unit, which pays for what follows
    pub after_unit : (i a b n : ℕ) (c c1 : Conf) (x : Answer A) → 1 ≤ i → i + a ≤ b + u → reduce php1 m i c ≡ c1 →
        Follows m u Goal a n c1 x → Follows m u Goal b (suc n) c x
    after_unit i a b n c c1 (Gets v n' st) pos pays e f =
        let p = f.2 in (
          i + f.0,
          subst (Goal v st) (sym (reduce_on i f.0 c c1 (reduce php1 m f.0 c1) e refl)) f.1,
          record { kept = omega (arith, p.kept); least = omega (arith, p.least); most = omega (arith, p.most) },
        )
    after_unit i a b n c c1 (Ends stop st) pos pays e f = (i + f.0, shown_on i f.0 c c1 e ∙ f.1, omega (arith, f.2))
    after_unit i a b n c c1 (More st) pos pays e f =
        (i + f.0, shown_on i f.0 c c1 e ∙ f.1, omega (arith, f.2), omega (arith, f.3))

    -- a larger budget
    pub enough : (a b n : ℕ) (c : Conf) (x : Answer A) → a ≤ b → Follows m u Goal a n c x → Follows m u Goal b n c x
    enough a b n c (Gets v n' st) le f =
        let p = f.2 in (f.0, f.1, record { kept = p.kept; least = p.least; most = omega (arith, p.most) })
    enough a b n c (Ends stop st) le f = (f.0, f.1, omega (arith, f.2))
    enough a b n c (More st) le f = (f.0, f.1, f.2, omega (arith, f.3))

    -- a value after i reductions
    pub got : (i b n : ℕ) (c c1 : Conf) (a : A) (st : State) → i ≤ b → reduce php1 m i c ≡ c1 → Goal a st c1 →
        Follows m u Goal b n c (Gets a n st)
    got i b n c c1 a st le e g =
        (i, subst (Goal a st) (sym e) g, record { kept = omega arith; least = omega arith; most = omega arith })

  -- what follows what is got
  pub after_bind : (u : ℕ) {A B : Type 0} (Goal : A → State → Conf → Type 0) (GoalB : B → State → Conf → Type 0)
      (a b n : ℕ) (c : Conf) (x : Answer A) (go : A → Means B) →
      Follows m u Goal a n c x →
      ((v : A) (n' : ℕ) (st : State) (c1 : Conf) → n' ≤ n → Goal v st c1 → Follows m u GoalB b n' c1 (go v n' st)) →
      Follows m u GoalB (a + b) n c (proceed x go)
  after_bind u {A = A} {B = B} Goal GoalB a b n c (Gets v n' st) go f g =
      joined (go v n' st) (g v n' st (reduce php1 m f.0 c) f.2.kept f.1)
    where
      joined : (y : Answer B) → Follows m u GoalB b n' (reduce php1 m f.0 c) y → Follows m u GoalB (a + b) n c y
      joined (Gets w n2 st2) h =
          let p = f.2 in let q = h.2 in (
            f.0 + h.0,
            subst (GoalB w st2) (sym (reduce-add php1 m f.0 h.0 c)) h.1,
            record { kept = omega (arith, p.kept, q.kept); least = omega (arith, p.least, q.least); most = omega (arith, p.most, q.most) },
          )
      joined (Ends stop st2) h = (f.0 + h.0, shown_on f.0 h.0 c (reduce php1 m f.0 c) refl ∙ h.1, omega (arith, h.2, f.2.most))
      joined (More st2) h =
          (f.0 + h.0, shown_on f.0 h.0 c (reduce php1 m f.0 c) refl ∙ h.1, omega (arith, h.2, f.2.least), omega (arith, h.3, f.2.most))
  after_bind u {A = A} {B = B} Goal GoalB a b n c (Ends stop st) go f g = (f.0, f.1, omega (arith, f.2))
  after_bind u {A = A} {B = B} Goal GoalB a b n c (More st) go f g = (f.0, f.1, f.2, omega (arith, f.3))

  -- to another place, by more reductions
  pub then_steps : (u : ℕ) {A : Type 0} (Goal GoalB : A → State → Conf → Type 0) (a b n : ℕ) (c : Conf) (x : Answer A) →
      Follows m u Goal a n c x →
      ((v : A) (st : State) (c1 : Conf) → Goal v st c1 → (i : ℕ) × (i ≤ b) × GoalB v st (reduce php1 m i c1)) →
      Follows m u GoalB (a + b) n c x
  then_steps u Goal GoalB a b n c (Gets v n' st) f g =
      let h = g v st (reduce php1 m f.0 c) f.1 in let p = f.2 in (
        f.0 + h.0,
        subst (GoalB v st) (sym (reduce-add php1 m f.0 h.0 c)) h.2,
        record { kept = p.kept; least = omega (arith, p.least); most = omega (arith, p.most, h.1) },
      )
  then_steps u Goal GoalB a b n c (Ends stop st) f g = (f.0, f.1, omega (arith, f.2))
  then_steps u Goal GoalB a b n c (More st) f g = (f.0, f.1, f.2, omega (arith, f.3))

  -- what is had at that place may be said otherwise
  pub said : (u : ℕ) {A : Type 0} (Goal GoalB : A → State → Conf → Type 0) (b n : ℕ) (c : Conf) (x : Answer A) →
      Follows m u Goal b n c x → ((v : A) (st : State) (c1 : Conf) → Goal v st c1 → GoalB v st c1) → Follows m u GoalB b n c x
  said u Goal GoalB b n c (Gets v n' st) f g = (f.0, g v st (reduce php1 m f.0 c) f.1, f.2)
  said u Goal GoalB b n c (Ends stop st) f g = f
  said u Goal GoalB b n c (More st) f g = f

  -- what is made of what is got
  pub mapped : (u : ℕ) {A B : Type 0} (Goal : A → State → Conf → Type 0) (GoalB : B → State → Conf → Type 0) (b n : ℕ) (c : Conf) (x : Answer A)
      (go : A → B) → Follows m u Goal b n c x → ((v : A) (st : State) (c1 : Conf) → Goal v st c1 → GoalB (go v) st c1) →
      Follows m u GoalB b n c (proceed x (λ v. give (go v)))
  mapped u Goal GoalB b n c (Gets v n' st) go f g = (f.0, g v st (reduce php1 m f.0 c) f.1, f.2)
  mapped u Goal GoalB b n c (Ends stop st) go f g = f
  mapped u Goal GoalB b n c (More st) go f g = f
