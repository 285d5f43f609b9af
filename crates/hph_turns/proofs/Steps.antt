-- The loops of a turn.
use Rattle.std.proofs.Common.{◌≡◌, ◌≢◌, ℕ, zero, suc, ◌+◌, ◌<◌, ◌≤◌, List, [], ◌∷◌, ◌++◌, length, get_or, take, drop, Option, None, Some, sym, refl, ap, subst, ◌∙◌, inl, inr, ⊎_elim, arith}
use Rattle.hph_sys.specs.Typings.{In}
use Rattle.hph_core.specs.declared.view.View.{View}
use Rattle.hph_core.specs.declared.view.Finding.{Finding}
use Rattle.hph_core.specs.declared.view.Finding.TheVariants.{Busy, Released}
use Rattle.hph_core.specs.State.{without}
use Rattle.hph_core.specs.Conditions.{last_met}
use Rattle.hph_core.specs.Effects.{after_release}
use Rattle.hph_core.proofs.Lists.{in_without, without_in}
use Rattle.hph_table.specs.Holds as holds
use mathlib.Core.Logic.{dite}
use native.Mathlib.Decide.{ℕ_discrete}
use Rattle.std.proofs.Common.{length-take, min}
use Rattle.std.proofs.lemmas.List.{get_or-take}
use Rattle.hph_table.specs.Ids.{TableId}
use Rattle.hph_turns.specs.Phases.{HoldsJust, Ascends}

abbrev pub P : Type 0
P = TableId × View

-- what a hold or a release leaves
pub record Frame (id : TableId) (p q : P) : Type 0 where
  pub table : q.0 ≡ id
  pub live : q.1.live ≡ p.1.live
  pub number : q.1.number ≡ p.1.number
  pub hand : q.1.hand ≡ p.1.hand
  pub debt : q.1.debt ≡ p.1.debt

pub record Releasing (id : TableId) (p q : P) (held : List ℕ) (i : ℕ) : Type 0 where
  pub frame : Frame id p q
  pub just : HoldsJust q.1 (drop i held)
  pub met : last_met None q.1.findings ≡ last_met None p.1.findings

pub record Holding (id : TableId) (p q : P) (look : List ℕ) (i : ℕ) : Type 0 where
  pub frame : Frame id p q
  pub just : HoldsJust q.1 (take i look)

drop_zero : (xs : List ℕ) → drop zero xs ≡ xs
drop_zero [] = refl
drop_zero (x ∷ xs) = refl

-- membership in the front and the rest of a list
in_get : (xs : List ℕ) (i : ℕ) → i < length xs → In (get_or xs i 0) xs
in_get [] i h = absurd (omega arith)
in_get (x ∷ xs) zero h = inl refl
in_get (x ∷ xs) (suc i) h = inr (in_get xs i (omega arith))

pub in_get_of : (xs : List ℕ) (i : ℕ) → i < length xs → In (get_or xs i 0) xs
in_get_of = in_get

in_take : (xs : List ℕ) (i d : ℕ) → In d (take i xs) → (j : ℕ) × (j < i) × (j < length xs) × (d ≡ get_or xs j 0)
in_take [] zero d h = absurd h
in_take [] (suc i) d h = absurd h
in_take (x ∷ xs) zero d h = absurd h
in_take (x ∷ xs) (suc i) d (inl e) = (0, omega arith, omega arith, e)
in_take (x ∷ xs) (suc i) d (inr h) = let r = in_take xs i d h in (suc r.0, (let a = r.1 in omega arith), (let a = r.2 in omega arith), r.3)

take_in : (xs : List ℕ) (i j : ℕ) → j < i → j < length xs → In (get_or xs j 0) (take i xs)
take_in [] i j h l = absurd (omega arith)
take_in (x ∷ xs) zero j h l = absurd (omega arith)
take_in (x ∷ xs) (suc i) zero h l = inl refl
take_in (x ∷ xs) (suc i) (suc j) h l = inr (take_in xs i j (omega arith) (omega arith))

in_drop : (xs : List ℕ) (i d : ℕ) → In d (drop i xs) → (j : ℕ) × (i ≤ j) × (j < length xs) × (d ≡ get_or xs j 0)
in_drop [] zero d h = absurd h
in_drop [] (suc i) d h = absurd h
in_drop (x ∷ xs) zero d (inl e) = (0, omega arith, omega arith, e)
in_drop (x ∷ xs) zero d (inr h) = let r = in_drop xs zero d (subst (In d) (sym (drop_zero xs)) h) in (suc r.0, omega arith, (let a = r.2 in omega arith), r.3)
in_drop (x ∷ xs) (suc i) d h = let r = in_drop xs i d h in (suc r.0, (let a = r.1 in omega arith), (let a = r.2 in omega arith), r.3)

drop_in : (xs : List ℕ) (i j : ℕ) → i ≤ j → j < length xs → In (get_or xs j 0) (drop i xs)
drop_in [] i j h l = absurd (omega arith)
drop_in (x ∷ xs) zero j h l = in_get (x ∷ xs) j l
drop_in (x ∷ xs) (suc i) zero h l = absurd (omega arith)
drop_in (x ∷ xs) (suc i) (suc j) h l = drop_in xs i j (omega arith) (omega arith)

pub take_in_all : (xs : List ℕ) (i d : ℕ) → In d (take i xs) → In d xs
take_in_all xs i d h = let r = in_take xs i d h in subst (λ (x : ℕ). In x xs) (sym r.3) (in_get xs r.0 r.2)

none_in : (xs : List ℕ) → ((x : ℕ) → ¬ In x xs) → xs ≡ []
none_in [] h = refl
none_in (x ∷ xs) h = absurd (h x (inl refl))

met_snoc : (m : Option (ℕ × ℕ)) (fs : List Finding) (f : Finding) → last_met m (fs ++ f ∷ []) ≡ last_met (last_met m fs) (f ∷ [])
met_snoc m [] f = refl
met_snoc m (g ∷ fs) f = met_snoc _ fs f

pub ascends_take : (xs : List ℕ) (n : ℕ) → Ascends xs → Ascends (take n xs)
ascends_take xs n up i j lt l =
    let a : length (take n xs) ≡ min n (length xs) = length-take n xs in
    let x : get_or (take n xs) i 0 ≡ get_or xs i 0 = get_or-take n xs i 0 (omega arith) in
    let y : get_or (take n xs) j 0 ≡ get_or xs j 0 = get_or-take n xs j 0 (omega arith) in
    let z = up i j lt (omega arith) in omega arith

-- a release
pub release_step : (id : TableId) (p q q' : P) (held : List ℕ) (i : ℕ) → i < length held → Ascends held → Releasing id p q held i → q'.0 ≡ id → q'.1 ≡ after_release q.1 (get_or held i 0) → Releasing id p q' held (i + 1)
release_step id p q q' held i h up was t e = let f = was.frame in
    let d : ℕ = get_or held i 0 in
    let holds : q'.1.holds ≡ without d q.1.holds = ap (λ (v : View). v.holds) e in
    record {
      frame = record { table = t; live = ap (λ (v : View). v.live) e ∙ f.live; number = ap (λ (v : View). v.number) e ∙ f.number; hand = ap (λ (v : View). v.hand) e ∙ f.hand; debt = ap (λ (v : View). v.debt) e ∙ f.debt };
      just = record {
        all = λ x k. let r = in_drop held (i + 1) x k in subst (In x) (sym holds) (without_in d x q.1.holds (was.just.all x (subst (λ (y : ℕ). In y (drop i held)) (sym r.3) (drop_in held i r.0 (let a = r.1 in omega arith) r.2)))
            (λ y. let a = up i r.0 (let b = r.1 in omega arith) r.2 in let b : get_or held r.0 0 ≡ get_or held i 0 = sym r.3 ∙ y in omega arith));
        only = λ x k. let r = in_without d x q.1.holds (subst (In x) holds k) in let s = in_drop held i x (was.just.only x r.0) in
            dite (ℕ_discrete s.0 i) (λ y. absurd (r.1 (s.3 ∙ ap (λ (n : ℕ). get_or held n 0) y)))
            (λ n. subst (λ (y : ℕ). In y (drop (i + 1) held)) (sym s.3) (drop_in held (i + 1) s.0 (let a = s.1 in omega arith) s.2));
      };
      met = ap (λ (v : View). last_met None v.findings) e ∙ (met_snoc None q.1.findings (Released d) ∙ was.met);
    }

pub released_all : (id : TableId) (p q : P) (held : List ℕ) (i : ℕ) → length held ≤ i → Releasing id p q held i → q.1.holds ≡ []
released_all id p q held i h was = none_in q.1.holds (λ x k. let r = in_drop held i x (was.just.only x k) in (let a = r.1 in let b = r.2 in absurd (omega arith)))

pub still_held : (id : TableId) (p q : P) (held : List ℕ) (i : ℕ) → i < length held → Releasing id p q held i → In (get_or held i 0) q.1.holds
still_held id p q held i h was = was.just.all (get_or held i 0) (drop_in held i i (omega arith) h)

-- a hold
pub not_yet : (id : TableId) (p q : P) (look : List ℕ) (i : ℕ) → i < length look → Ascends look → Holding id p q look i → ¬ In (get_or look i 0) q.1.holds
not_yet id p q look i h up was k = let r = in_take look i (get_or look i 0) (was.just.only (get_or look i 0) k) in (let a = up r.0 i r.1 h in let b = r.3 in omega arith)

pub hold_step : (id : TableId) (p q q' : P) (look : List ℕ) (i : ℕ) → i < length look → Holding id p q look i → q'.0 ≡ id → q'.1 ≡ holds.got q.1 (get_or look i 0) → Holding id p q' look (i + 1)
hold_step id p q q' look i h was t e = let f = was.frame in
    let d : ℕ = get_or look i 0 in
    let more : q'.1.holds ≡ d ∷ q.1.holds = ap (λ (v : View). v.holds) e in
    record {
      frame = record { table = t; live = ap (λ (v : View). v.live) e ∙ f.live; number = ap (λ (v : View). v.number) e ∙ f.number; hand = ap (λ (v : View). v.hand) e ∙ f.hand; debt = ap (λ (v : View). v.debt) e ∙ f.debt };
      just = record {
        all = λ x k. let r = in_take look (i + 1) x k in subst (In x) (sym more)
            (dite (ℕ_discrete r.0 i) (λ y. let z : In x (d ∷ q.1.holds) = inl (r.3 ∙ ap (λ (n : ℕ). get_or look n 0) y) in z)
            (λ n. let z : In x (d ∷ q.1.holds) = inr (was.just.all x (subst (λ (y : ℕ). In y (take i look)) (sym r.3) (take_in look i r.0 (let a = r.1 in omega arith) r.2))) in z));
        only = λ x k. ⊎_elim
            (λ y. subst (λ (n : ℕ). In n (take (i + 1) look)) (sym y) (take_in look (i + 1) i (omega arith) h))
            (λ k'. let r = in_take look i x (was.just.only x k') in subst (λ (n : ℕ). In n (take (i + 1) look)) (sym r.3) (take_in look (i + 1) r.0 (let a = r.1 in omega arith) r.2))
            (let z : In x (d ∷ q.1.holds) = subst (In x) more k in z);
      };
    }

pub hold_start : (id : TableId) (p : P) (look : List ℕ) → p.0 ≡ id → p.1.holds ≡ [] → Holding id p p look 0
hold_start id p look t e = record { frame = record { table = t; live = refl; number = refl; hand = refl; debt = refl }; just = record { all = λ d k. absurd (let r = in_take look 0 d k in let a = r.1 in omega arith); only = λ d k. absurd (subst (In d) e k) } }

pub busy_just : (v w : View) (d h : ℕ) (xs : List ℕ) → w ≡ holds.busy v d h → HoldsJust v xs → HoldsJust w xs
busy_just v w d h xs e was = let same : w.holds ≡ v.holds = ap (λ (x : View). x.holds) e in record { all = λ x k. subst (In x) (sym same) (was.all x k); only = λ x k. was.only x (subst (In x) same k) }

pub busy_met : (v w : View) (d h : ℕ) → w ≡ holds.busy v d h → last_met None w.findings ≡ Some (d, h)
busy_met v w d h e = ap (λ (x : View). last_met None x.findings) e ∙ met_snoc None v.findings (Busy d h)

pub not_in_more : (xs : List ℕ) (i x : ℕ) → i < length xs → ¬ In x (take i xs) → get_or xs i 0 ≢ x → ¬ In x (take (i + 1) xs)
not_in_more xs i x h none other k = let r = in_take xs (i + 1) x k in dite (ℕ_discrete r.0 i)
    (λ y. other (ap (λ (n : ℕ). get_or xs n 0) (sym y) ∙ sym r.3))
    (λ n. none (subst (λ (z : ℕ). In z (take i xs)) (sym r.3) (take_in xs i r.0 (let a = r.1 in omega arith) r.2)))

pub in_all : (xs : List ℕ) (x : ℕ) → In x xs → (j : ℕ) × (j < length xs) × (x ≡ get_or xs j 0)
in_all xs x k = let r = in_drop xs 0 x (subst (In x) (sym (drop_zero xs)) k) in (r.0, r.2, r.3)
