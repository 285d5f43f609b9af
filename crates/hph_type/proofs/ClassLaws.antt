-- Laws of trees of classes: chains of ancestors, who is within whom, the nearest common ancestor, depths.
use Rattle.std.proofs.Common.{◌≡◌, ◌<◌, ◌≤◌, ◌⊎◌, ◌∙◌, inl, inr, ⊎_elim, ℕ, zero, suc, true, false, List, [], ◌∷◌, Option, None, Some, length, sym, ap, subst, refl, arith, true≢false, add-one}
use Rattle.std.specs.Prelude.{◌==◌, ◌||◌, slice_get, find, nat_lt, max, slice_index, MatchOption, ◌+◌, ◌++◌, if◌then◌else◌}
use Rattle.std.specs.List.{list_any}
use Rattle.std.proofs.lemmas.Bool.{cases_Bool, ltb-true, or_cases, or_left, or_right, cases_lt, eqb-true, eq-eqb, ne_eqb, lt-ltb, false_from_ne_true, cond-true, cond-false}
use Rattle.std.proofs.lemmas.List.{get_or_push, get_or_append_left}
use Rattle.std.proofs.lemmas.Option.{none-some, same_Some, cond_some}
use Rattle.hph_type.specs.Classes.{Parents, AreBefore, before, parent_of, climb, chain, is_within, nearest, ancestors, depth, deepest_below}

-- A parent that stands at a class has a smaller number.
before-lt : (class parent : ℕ) (entry : Option (Option ℕ)) → before class entry ≡ Some parent → parent < class
before-lt class parent None e = absurd (none-some _ e)
before-lt class parent (Some None) e = absurd (none-some _ e)
before-lt class parent (Some (Some p)) e =
    let found = cond_some (nat_lt p class) p parent e in
    subst (λ n. n < class) found.1 (ltb-true p class found.0)

module _ (tree : Parents) where
  -- A parent has a smaller number.
  pub parent-lt : (class parent : ℕ) → parent_of tree class ≡ Some parent → parent < class
  unfolding parent_of
  parent-lt class parent e = before-lt class parent (slice_get tree class) e

  -- Chains are as long as they get once the steps are more than the class.
  climb-same : (n m : ℕ) (class : Option ℕ) → ((c : ℕ) → class ≡ Some c → (c < n) × (c < m))
      → climb tree n class ≡ climb tree m class
  unfolding climb
  climb-same zero zero class fits = refl
  climb-same zero (suc m) None fits = refl
  climb-same zero (suc m) (Some c) fits = absurd (omega (arith, (fits c refl).0))
  climb-same (suc n) zero None fits = refl
  climb-same (suc n) zero (Some c) fits = absurd (omega (arith, (fits c refl).1))
  climb-same (suc n) (suc m) None fits = refl
  climb-same (suc n) (suc m) (Some c) fits =
      ap (λ cs. c ∷ cs) (climb-same n m (parent_of tree c) (λ p e.
      let less : p < c = parent-lt c p e in
      let left : c < suc n = (fits c refl).0 in
      let right : c < suc m = (fits c refl).1 in
      (omega arith, omega arith)))

  -- A chain begins with its class, and goes on with the ancestors.
  pub chain-cons : (class : ℕ) → chain tree class ≡ class ∷ ancestors tree class
  unfolding chain climb ancestors
  chain-cons class = refl

  -- The ancestors are the parent's chain.
  pub ancestors-some : (class parent : ℕ) → parent_of tree class ≡ Some parent
      → ancestors tree class ≡ chain tree parent
  unfolding chain ancestors
  ancestors-some class parent e =
      ap (climb tree class) e ∙ climb-same class (suc parent) (Some parent) (λ c same.
      let less : parent < class = parent-lt class parent e in
      let is : parent ≡ c = same_Some parent c same in
      (omega arith, omega arith))

  -- A class without parent has no ancestors.
  pub ancestors-none : (class : ℕ) → parent_of tree class ≡ None → ancestors tree class ≡ []
  unfolding ancestors climb
  ancestors-none zero e = refl
  ancestors-none (suc class) e = ap (climb tree (suc class)) e

  -- What holds of a class where it holds of its parent, holds of each class.
  module _ (P : ℕ → Type 0) (step : (class : ℕ) → ((parent : ℕ) → parent_of tree class ≡ Some parent → P parent) → P class) where
    upwards_below : (n class : ℕ) → class < n → P class
    upwards_below zero class less = absurd (omega arith)
    upwards_below (suc n) class less =
        step class (λ parent e. upwards_below n parent (let l : parent < class = parent-lt class parent e in omega arith))

    pub upwards : (class : ℕ) → P class
    upwards class = upwards_below (suc class) class (omega arith)

  -- ---- who is within whom

  abbrev Within : ℕ → ℕ → Type 0
  Within class ancestor = is_within tree class ancestor ≡ true

  -- A class is within another if it is it, or its parent is within.
  pub within-some : (class parent ancestor : ℕ) → parent_of tree class ≡ Some parent
      → is_within tree class ancestor ≡ (class == ancestor || is_within tree parent ancestor)
  unfolding is_within
  within-some class parent ancestor e =
      ap (list_any (λ c. c == ancestor)) (chain-cons class ∙ ap (λ cs. class ∷ cs) (ancestors-some class parent e))

  pub within-none : (class ancestor : ℕ) → parent_of tree class ≡ None
      → is_within tree class ancestor ≡ (class == ancestor || false)
  unfolding is_within
  within-none class ancestor e =
      ap (list_any (λ c. c == ancestor)) (chain-cons class ∙ ap (λ cs. class ∷ cs) (ancestors-none class e))

  -- The two ways to be within: the class itself, or through its parent.
  pub within-cases : (class ancestor : ℕ) → Within class ancestor
      → (class ≡ ancestor) ⊎ ((parent : ℕ) × (parent_of tree class ≡ Some parent) × Within parent ancestor)
  within-cases class ancestor w = by (parent_of tree class) refl
    where
      by : (o : Option ℕ) → parent_of tree class ≡ o
          → (class ≡ ancestor) ⊎ ((parent : ℕ) × (parent_of tree class ≡ Some parent) × Within parent ancestor)
      by None e =
          ⊎_elim (λ is. inl (eqb-true _ _ is)) (λ no. absurd (true≢false (sym no)))
          (or_cases _ _ (sym (within-none class ancestor e) ∙ w))
      by (Some parent) e =
          ⊎_elim (λ is. inl (eqb-true _ _ is)) (λ up. inr (parent, e, up))
          (or_cases _ _ (sym (within-some class parent ancestor e) ∙ w))

  -- A class is within itself.
  pub within-refl : (class : ℕ) → Within class class
  unfolding is_within
  within-refl class =
      ap (list_any (λ c. c == class)) (chain-cons class)
      ∙ or_left (class == class) _ (eq-eqb class class refl)

  -- A class whose parent is within is within.
  pub within-up : (class parent ancestor : ℕ) → parent_of tree class ≡ Some parent → Within parent ancestor
      → Within class ancestor
  within-up class parent ancestor e w =
      within-some class parent ancestor e ∙ or_right (class == ancestor) _ w

  -- An ancestor's number is no greater.
  pub within-le : (class ancestor : ℕ) → Within class ancestor → ancestor ≤ class
  within-le class ancestor =
      upwards (λ c. Within c ancestor → ancestor ≤ c) (λ c below w.
      elim (within-cases c ancestor w) [
        | inl same ↦ omega arith
        | inr up ↦
            let less : up.0 < c = parent-lt c up.0 up.1 in
            let low : ancestor ≤ up.0 = below up.0 up.1 up.2 in
            omega arith
      ]) class

  -- Within is transitive.
  pub within-trans : (class middle ancestor : ℕ) → Within class middle → Within middle ancestor
      → Within class ancestor
  within-trans class middle ancestor =
      upwards (λ c. Within c middle → Within middle ancestor → Within c ancestor) (λ c below w v.
      elim (within-cases c middle w) [
        | inl same ↦ subst (λ m. Within m ancestor) (sym same) v
        | inr up ↦ within-up c up.0 ancestor up.1 (below up.0 up.1 up.2 v)
      ]) class

  -- Of two ancestors of a class one is within the other.
  pub within-comparable : (class a b : ℕ) → Within class a → Within class b → Within a b ⊎ Within b a
  within-comparable class a b =
      upwards (λ c. Within c a → Within c b → Within a b ⊎ Within b a) (λ c below v w.
      elim (within-cases c a v) [
        | inl same ↦ inl (subst (λ m. Within m b) same w)
        | inr left ↦ elim (within-cases c b w) [
          | inl same ↦ inr (subst (λ m. Within m a) same v)
          | inr right ↦
              let is : left.0 ≡ right.0 = same_Some _ _ (sym left.1 ∙ right.1) in
              below left.0 left.1 left.2 (subst (λ m. Within m b) (sym is) right.2)
        ]
      ]) class

  -- A class that isn't within another is another class.
  pub within-other : (class ancestor : ℕ) → class < ancestor → is_within tree class ancestor ≡ false
  within-other class ancestor less =
      false_from_ne_true _ (λ w. let le : ancestor ≤ class = within-le class ancestor w in absurd (omega arith))

  -- ---- the nearest common ancestor

  -- what is nearest past a class that isn't common
  abbrev nearest_up : Option ℕ → ℕ → Option ℕ
  nearest_up None b = None
  nearest_up (Some parent) b = nearest tree parent b

  -- A common class is the nearest, else what is nearest to the parent.
  pub nearest-step : (a b : ℕ)
      → nearest tree a b ≡ (if is_within tree b a then Some a else nearest_up (parent_of tree a) b)
  unfolding nearest
  nearest-step a b = by (parent_of tree a) refl
    where
      by : (o : Option ℕ) → parent_of tree a ≡ o
          → nearest tree a b ≡ (if is_within tree b a then Some a else nearest_up o b)
      by None e = ap (find (λ c. is_within tree b c)) (chain-cons a ∙ ap (λ cs. a ∷ cs) (ancestors-none a e))
      by (Some parent) e =
          ap (find (λ c. is_within tree b c)) (chain-cons a ∙ ap (λ cs. a ∷ cs) (ancestors-some a parent e))

  -- A class that the other is within is the nearest.
  pub nearest-common : (a b : ℕ) → Within b a → nearest tree a b ≡ Some a
  nearest-common a b w = nearest-step a b ∙ cond-true (is_within tree b a) _ _ w

  pub nearest-some : (a b parent : ℕ) → is_within tree b a ≡ false → parent_of tree a ≡ Some parent
      → nearest tree a b ≡ nearest tree parent b
  nearest-some a b parent out e =
      nearest-step a b ∙ cond-false (is_within tree b a) _ _ out ∙ ap (λ o. nearest_up o b) e

  pub nearest-none : (a b : ℕ) → is_within tree b a ≡ false → parent_of tree a ≡ None → nearest tree a b ≡ None
  nearest-none a b out e =
      nearest-step a b ∙ cond-false (is_within tree b a) _ _ out ∙ ap (λ o. nearest_up o b) e

  -- What the nearest common ancestor is: both are within it, and it is within each class that both are within.
  pub record IsNearest (a b class : ℕ) : Type 0 where
    pub left : Within a class
    pub right : Within b class
    pub least : (ancestor : ℕ) → Within a ancestor → Within b ancestor → Within class ancestor

  -- A nearest common ancestor is what its name says.
  pub nearest-is : (a b class : ℕ) → nearest tree a b ≡ Some class → IsNearest a b class
  nearest-is a b class =
      upwards (λ c. nearest tree c b ≡ Some class → IsNearest c b class) (λ c below e.
      elim (cases_Bool (is_within tree b c)) [
        | inl common ↦
            let is : c ≡ class = same_Some _ _ (sym (nearest-common c b common) ∙ e) in
            record {
              left = subst (λ m. Within c m) is (within-refl c);
              right = subst (λ m. Within b m) is common;
              least = λ ancestor v w. subst (λ m. Within m ancestor) is v;
            }
        | inr out ↦ at c out e below (parent_of tree c) refl
      ]) a
    where
      at : (c : ℕ) → is_within tree b c ≡ false → nearest tree c b ≡ Some class
          → ((parent : ℕ) → parent_of tree c ≡ Some parent → nearest tree parent b ≡ Some class → IsNearest parent b class)
          → (o : Option ℕ) → parent_of tree c ≡ o → IsNearest c b class
      at c out e below None root = absurd (none-some _ (sym (nearest-none c b out root) ∙ e))
      at c out e below (Some parent) up =
          let rest = below parent up (sym (nearest-some c b parent out up) ∙ e) in
          record {
            left = within-up c parent class up rest.left;
            right = rest.right;
            least = λ ancestor v w.
                elim (within-cases c ancestor v) [
                  | inl same ↦ absurd (true≢false (sym w ∙ ap (is_within tree b) (sym same) ∙ out))
                  | inr more ↦
                      let is : more.0 ≡ parent = same_Some _ _ (sym more.1 ∙ up) in
                      rest.least ancestor (subst (λ m. Within m ancestor) is more.2) w
                ];
          }

  -- Where there is no nearest common ancestor there is no common one.
  pub nearest-absent : (a b : ℕ) → nearest tree a b ≡ None → (ancestor : ℕ) → Within a ancestor → Within b ancestor → ⊥
  nearest-absent a b none ancestor v w =
      upwards (λ c. nearest tree c b ≡ None → Within c ancestor → ⊥) (λ c below e v.
      elim (cases_Bool (is_within tree b c)) [
        | inl common ↦ none-some _ (sym e ∙ nearest-common c b common)
        | inr out ↦ elim (within-cases c ancestor v) [
          | inl same ↦ true≢false (sym w ∙ ap (is_within tree b) (sym same) ∙ out)
          | inr up ↦ below up.0 up.1 (sym (nearest-some c b up.0 out up.1) ∙ e) up.2
        ]
      ]) a none v

  -- Within the greater of two classes only its parent counts.
  pub within-lower : (class b parent : ℕ) → class < b → parent_of tree b ≡ Some parent
      → is_within tree b class ≡ is_within tree parent class
  within-lower class b parent less e =
      within-some b parent class e
      ∙ ap (λ t. t || is_within tree parent class) (ne_eqb b class (λ same. omega arith))

  pub nearest-lower : (a b parent : ℕ) → a < b → parent_of tree b ≡ Some parent
      → nearest tree a b ≡ nearest tree a parent
  nearest-lower a b parent less e =
      upwards (λ c. c < b → nearest tree c b ≡ nearest tree c parent) (λ c below l.
      nearest-step c b
      ∙ ap (λ t. if t then Some c else nearest_up (parent_of tree c) b) (within-lower c b parent l e)
      ∙ ap (λ o. if is_within tree parent c then Some c else o) (up c l below (parent_of tree c) refl)
      ∙ sym (nearest-step c parent)) a less
    where
      up : (c : ℕ) → c < b → ((p : ℕ) → parent_of tree c ≡ Some p → p < b → nearest tree p b ≡ nearest tree p parent)
          → (o : Option ℕ) → parent_of tree c ≡ o → nearest_up o b ≡ nearest_up o parent
      up c l below None root = refl
      up c l below (Some p) from = below p from (let le : p < c = parent-lt c p from in omega arith)

  pub nearest-root : (a b : ℕ) → a < b → parent_of tree b ≡ None → nearest tree a b ≡ None
  nearest-root a b less root =
      upwards (λ c. c < b → nearest tree c b ≡ None) (λ c below l.
      nearest-step c b
      ∙ cond-false (is_within tree b c) _ _
      (within-none b c root ∙ ap (λ t. t || false) (ne_eqb b c (λ same. omega arith)))
      ∙ up c l below (parent_of tree c) refl) a less
    where
      up : (c : ℕ) → c < b → ((p : ℕ) → parent_of tree c ≡ Some p → p < b → nearest tree p b ≡ None)
          → (o : Option ℕ) → parent_of tree c ≡ o → nearest_up o b ≡ None
      up c l below None root = refl
      up c l below (Some p) from = below p from (let le : p < c = parent-lt c p from in omega arith)

  -- ---- depths

  -- A class has one ancestor more than its parent.
  pub depth-some : (class parent : ℕ) → parent_of tree class ≡ Some parent
      → depth tree class ≡ suc (depth tree parent)
  depth-some class parent e = ap length (ancestors-some class parent e) ∙ ap length (chain-cons parent)

  pub depth-none : (class : ℕ) → parent_of tree class ≡ None → depth tree class ≡ 0
  depth-none class e = ap length (ancestors-none class e)

  -- A class that is within another one and isn't it is deeper.
  pub deeper : (class ancestor : ℕ) → Within class ancestor
      → (class ≡ ancestor) ⊎ (depth tree ancestor < depth tree class)
  deeper class ancestor =
      upwards (λ c. Within c ancestor → (c ≡ ancestor) ⊎ (depth tree ancestor < depth tree c)) (λ c below w.
      elim (within-cases c ancestor w) [
        | inl same ↦ inl same
        | inr up ↦
            let one : depth tree c ≡ suc (depth tree up.0) = depth-some c up.0 up.1 in
            inr (elim (below up.0 up.1 up.2) [
              | inl same ↦
                  let is : depth tree up.0 ≡ depth tree ancestor = ap (depth tree) same in
                  omega arith
              | inr more ↦ omega arith
            ])
      ]) class

  -- No class is deeper than the deepest.
  pub deepest-below : (n class : ℕ) → class < n → depth tree class ≤ deepest_below tree n
  unfolding deepest_below
  deepest-below zero class less = absurd (omega arith)
  deepest-below (suc n) class less =
      elim (cases_lt class n) [
        | inl lower ↦ let le : depth tree class ≤ deepest_below tree n = deepest-below n class lower in omega arith
        | inr last ↦
            let is : class ≡ n = omega arith in
            let same : depth tree class ≡ depth tree n = ap (depth tree) is in
            omega arith
      ]

  -- What stands at a class is its parent, where each parent has a smaller number.
  pub parent-read : AreBefore tree → (class : ℕ) (entry : Option ℕ) → slice_get tree class ≡ Some entry
      → parent_of tree class ≡ entry
  unfolding parent_of
  parent-read before_all class None e = ap (before class) e
  parent-read before_all class (Some parent) e =
      ap (before class) e
      ∙ cond-true (nat_lt parent class) _ _ (lt-ltb parent class (before_all class parent e))

  -- A class has at most as many ancestors as there are numbers below it.
  pub depth-le : (class : ℕ) → depth tree class ≤ class
  depth-le class =
      upwards (λ c. depth tree c ≤ c) (λ c below. by c below (parent_of tree c) refl) class
    where
      by : (c : ℕ) → ((p : ℕ) → parent_of tree c ≡ Some p → depth tree p ≤ p) → (o : Option ℕ) → parent_of tree c ≡ o
          → depth tree c ≤ c
      by c below None root = let none : depth tree c ≡ 0 = depth-none c root in omega arith
      by c below (Some p) up =
          let one : depth tree c ≡ suc (depth tree p) = depth-some c p up in
          let le : depth tree p ≤ p = below p up in
          let less : p < c = parent-lt c p up in
          omega arith

  -- A class without parent is within no class with a smaller number.
  pub within-root : (class ancestor : ℕ) → ancestor < class → parent_of tree class ≡ None
      → is_within tree class ancestor ≡ false
  within-root class ancestor less root =
      within-none class ancestor root ∙ ap (λ t. t || false) (ne_eqb class ancestor (λ same. omega arith))

  -- A class is within one with no smaller number only if it is that one.
  pub within-last : (class ancestor : ℕ) → class ≤ ancestor → (class == ancestor) ≡ is_within tree class ancestor
  within-last class ancestor le =
      elim (cases_lt class ancestor) [
        | inl less ↦
            ne_eqb class ancestor (λ same. omega arith) ∙ sym (within-other class ancestor less)
        | inr high ↦
            let same : class ≡ ancestor = omega arith in
            eq-eqb class ancestor same ∙ sym (ap (is_within tree class) (sym same) ∙ within-refl class)
      ]

  -- The depth of a class by its parent and the depths of the classes before it.
  pub depth-read : AreBefore tree → (class : ℕ) (entry : Option ℕ) (depths : List ℕ) (d : ℕ)
      → slice_get tree class ≡ Some entry → ((k : ℕ) → k < class → slice_index depths k ≡ depth tree k)
      → MatchOption entry (d ≡ 0) (λ p. d ≡ slice_index depths p + 1) → d ≡ depth tree class
  depth-read before_all class None depths d read each is =
      is ∙ sym (depth-none class (parent-read before_all class None read))
  depth-read before_all class (Some p) depths d read each is =
      let at : slice_index depths p ≡ depth tree p = each p (before_all class p read) in
      let one : depth tree class ≡ suc (depth tree p) =
      depth-some class p (parent-read before_all class (Some p) read) in
      omega arith

  -- One class more.
  pub deepest_below-suc : (n d : ℕ) → d ≡ depth tree n → deepest_below tree (n + 1) ≡ max (deepest_below tree n) d
  unfolding deepest_below
  deepest_below-suc n d e = ap (deepest_below tree) (add-one n) ∙ ap (max (deepest_below tree n)) (sym e)

  pub deepest_below-zero : deepest_below tree 0 ≡ 0
  unfolding deepest_below
  deepest_below-zero = refl

  -- The depths of one class more.
  pub depths-more : (depths : List ℕ) (n d : ℕ) → length depths ≡ n
      → ((k : ℕ) → k < n → slice_index depths k ≡ depth tree k) → d ≡ depth tree n
      → (k : ℕ) → k < n + 1 → slice_index (depths ++ d ∷ []) k ≡ depth tree k
  depths-more depths n d len each is k less =
      elim (cases_lt k n) [
        | inl lower ↦ get_or_append_left depths (d ∷ []) 0 k (omega arith) ∙ each k lower
        | inr high ↦
            let last : k ≡ n = omega arith in
            get_or_push depths d 0 k (len ∙ sym last) ∙ is ∙ ap (depth tree) (sym last)
      ]
