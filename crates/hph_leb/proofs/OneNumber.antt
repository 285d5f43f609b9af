-- Bytes begin with at most one spelling, and it spells one number.
use Rattle.std.proofs.Common.{◌≡◌, ◌∙◌, ℕ, ◌-◌, List, [], ◌∷◌, ◌++◌, sym, ap, subst, arith}
use Rattle.hph_leb.proofs.Bytewise.{IsBytewise}

-- a last byte and a first one differ in their highest bit
last_is_not_first : {X : Type 0} {Spells : ℕ → X → List ℕ → Type 0} {join : ℕ → X → X} → IsBytewise Spells join →
    (bits b c a : ℕ) (x y : X) (bytes f g : List ℕ) → Spells bits x (b ∷ []) → Spells bits y (c ∷ a ∷ bytes) → b ∷ f ≡ c ∷ g → ⊥
last_is_not_first bytewise bits b c a x y bytes f g p q e =
    let same : b ≡ c = cc in
    let large = (bytewise.more bits c a y bytes q).large in
    omega (arith, bytewise.last bits b x p, large)

-- by the number of bytes
pub one_number : {X : Type 0} {Spells : ℕ → X → List ℕ → Type 0} {join : ℕ → X → X} → IsBytewise Spells join →
    (bits : ℕ) (x y : X) (f g r s : List ℕ) → Spells bits x f → Spells bits y g → f ++ r ≡ g ++ s → (x ≡ y) × (f ≡ g)
one_number bytewise bits x y [] g r s p q e = absurd (bytewise.nonempty bits x p)
one_number bytewise bits x y (b ∷ f) [] r s p q e = absurd (bytewise.nonempty bits y q)
one_number {Spells = Spells} bytewise bits x y (b ∷ []) (c ∷ []) r s p q e =
    let same : b ≡ c = cc in
    (bytewise.one bits c x y (subst (λ b. Spells bits x (b ∷ [])) same p) q, ap (λ b. b ∷ []) same)
one_number bytewise bits x y (b ∷ []) (c ∷ d ∷ g) r s p q e = absurd (last_is_not_first bytewise bits b c d x y g r (d ∷ g ++ s) p q e)
one_number bytewise bits x y (b ∷ a ∷ f) (c ∷ []) r s p q e = absurd (last_is_not_first bytewise bits c b a y x f s (a ∷ f ++ r) q p (sym e))
one_number {join = join} bytewise bits x y (b ∷ a ∷ f) (c ∷ d ∷ g) r s p q e =
    let left = bytewise.more bits b a x f p in
    let right = bytewise.more bits c d y g q in
    let same : b ≡ c = cc in
    let behind : (a ∷ f) ++ r ≡ (d ∷ g) ++ s = cc in
    let rest = one_number bytewise (bits - 7) left.high right.high (a ∷ f) (d ∷ g) r s left.rest right.rest behind in
    (left.joined ∙ (λ i. join (same i) (rest.0 i)) ∙ sym right.joined, λ i. same i ∷ rest.1 i)
