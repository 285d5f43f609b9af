-- What a worker's event keeps of each part of the rule.
use Rattle.std.proofs.Common.{◌≡◌, ◌≢◌, ℕ, zero, suc, ◌<◌, ◌≤◌, ◌+◌, Bool, true, false, List, [], ◌∷◌, ◌++◌, Option, None, Some, sym, refl, ap, subst, ◌∙◌, inl, inr, ◌⊎◌, ⊎_elim, arith}
use Rattle.hph_type.specs.Types.{PhpType}
use Rattle.hph_core.specs.declared.view.View.{View}
use Rattle.hph_core.specs.declared.view.Known.{Known}
use Rattle.hph_core.specs.declared.view.Finding.{Finding}
use Rattle.hph_core.specs.declared.view.Finding.TheVariants.{Done, Pending}
use Rattle.hph_core.specs.Rule.IsDue.{in_set, in_hand, done}
use Rattle.hph_core.proofs.Keeps.{look, each}
use Rattle.hph_core.proofs.Sums.{sum_same, sum_changed, total_noted, load_changed, in_left, in_append, in_last}
use Rattle.hph_sys.specs.Shape.{Shape}
use Rattle.hph_sys.specs.Typings.{In, at}
use Rattle.hph_sys.specs.Least.{IsMet}
use Rattle.hph_core.specs.State.{spent}
use Rattle.hph_core.proofs.Lists.{Changed}
use Rattle.hph_core.specs.Rule.{Held, IsKnown, Knows, Seated, IsMarked, AllMarked, IsDue, IsDropped, AllDue, AllOver, HandsIn, FewRaises, Counted, Owed, weight, hand_weight, sum_below, total, tally, is_raise, is_take, is_mark, is_put_back}
use Rattle.hph_type.specs.Rank.{rank}

-- the worker w notes f, and has the entry v
pub record Acts (E E' : ℕ → View) (w : ℕ) (v : View) (f : Finding) : Type 0 where
  pub moved : Changed E E' w v
  pub seat_in : w < 64
  pub live : (E w).live ≡ true
  pub lives : v.live ≡ true
  pub number : v.number ≡ (E w).number
  pub findings : v.findings ≡ (E w).findings ++ f ∷ []

module _ (E E' : ℕ → View) (w : ℕ) (v : View) (f : Finding) (a : Acts E E' w v f) where
  pub acts_seated : Seated E → Seated E'
  acts_seated s = record {
    number = each (λ (u : ℕ) (x : View). x.live ≡ true → x.number ≡ u) E E' w v a.moved (λ _. a.number ∙ s.number w a.live) (λ j n. s.number j);
    gone = each (λ (u : ℕ) (x : View). x.live ≡ false → x ≡ spent) E E' w v a.moved (λ dead. let l = a.lives in absurd (cc)) (λ j n. s.gone j);
  }

  pub acts_in : (u : ℕ) (g : Finding) → In g (E u).findings → In g (E' u).findings
  acts_in u g = each (λ (k : ℕ) (x : View). In g (E k).findings → In g x.findings) E E' w v a.moved (λ i. subst (In g) (sym a.findings) (in_left g (E w).findings (f ∷ []) i)) (λ j n i. i) u

  pub acts_dropped : (s : ℕ) → IsDropped E s → IsDropped E' s
  acts_dropped s d = (d.0, acts_in d.0 (Done s) d.1)

  pub acts_from : (u : ℕ) (g : Finding) → In g (E' u).findings → In g (E u).findings ⊎ (f ≡ g)
  acts_from u g = each (λ (k : ℕ) (x : View). In g x.findings → In g (E k).findings ⊎ (f ≡ g)) E E' w v a.moved
      (λ i. ⊎_elim (λ l. inl l) (λ r. ⊎_elim (λ e. inr (sym e)) (λ no. absurd no) r) (in_append g (E w).findings (f ∷ []) (subst (In g) a.findings i)))
      (λ j n i. inl i) u

  pub acts_total : (g : Finding → ℕ) → total g E' ≡ total g E + g f
  acts_total g = total_noted g E E' w v f a.moved a.seat_in a.findings

  pub acts_over : (sys : Shape) (T : List PhpType) → AllOver sys E T → (f ≡ Pending 0 → (s : ℕ) → s < sys.scopes → IsMet sys T s × IsDropped E' s) → AllOver sys E' T
  acts_over sys T was now u i s h = ⊎_elim (λ old. let r = was u old s h in (r.0, acts_dropped s r.1)) (λ e. now e s h) (acts_from u (Pending 0) i)

  pub acts_counted : (sys : Shape) (M M' : ℕ → ℕ) → Counted sys E M
      → ((s : ℕ) → is_take s f + M' s ≡ M s + (is_mark s f + is_put_back s f)) → Counted sys E' M'
  acts_counted sys M M' was step s h = let a = was s h in let b = step s in let t = acts_total (is_take s) in let m = acts_total (is_mark s) in let p = acts_total (is_put_back s) in omega arith

  pub acts_raises : (sys : Shape) (T : ℕ → PhpType) → FewRaises sys E T → ((c : ℕ) → is_raise c f ≡ 0) → FewRaises sys E' T
  acts_raises sys T was no_more c = let a = was c in let b = no_more c in let t = acts_total (is_raise c) in omega arith

  module _ (same_hand : v.hand ≡ (E w).hand) where
    pub hand_stays : (u : ℕ) → (E' u).hand ≡ (E u).hand
    hand_stays = each (λ (k : ℕ) (x : View). x.hand ≡ (E k).hand) E E' w v a.moved same_hand (λ j n. refl)

    pub hands_stay : (sys : Shape) → HandsIn sys E → HandsIn sys E'
    hands_stay sys was u s e = was u s (sym (hand_stays u) ∙ e)

    pub due_stays : (sys : Shape) (M M' : ℕ → ℕ) (T : List PhpType) → ((s : ℕ) → M s ≡ 1 → M' s ≡ 1) → AllDue sys E M T → AllDue sys E' M' T
    due_stays sys M M' T grows was s h = elim (was s h) [ in_set e ↦ in_set (grows s e) | in_hand u e ↦ in_hand u (hand_stays u ∙ e) | done met d ↦ done met (acts_dropped s d) ]

    pub waits_stay : (M M' : ℕ → ℕ) → ((s : ℕ) → M s ≡ 1 → M' s ≡ 1) → (j r : ℕ) → (M r ≡ 1) ⊎ ((u : ℕ) × (u ≢ j) × ((E u).hand ≡ Some r)) → (M' r ≡ 1) ⊎ ((u : ℕ) × (u ≢ j) × ((E' u).hand ≡ Some r))
    waits_stay M M' grows j r (inl e) = inl (grows r e)
    waits_stay M M' grows j r (inr x) = inr (x.0, x.1, hand_stays x.0 ∙ x.2)

    -- the marks of w's are marks that it had, and it still holds what they look at
    pub marked_stays : (sys : Shape) (M M' : ℕ → ℕ) → ((s : ℕ) → M s ≡ 1 → M' s ≡ 1) → AllMarked sys E M
        → ((r : ℕ) → In r v.marks → IsMarked sys E' M' w v r) → AllMarked sys E' M'
    marked_stays sys M M' grows was mine = each (λ (k : ℕ) (x : View). (r : ℕ) → In r x.marks → IsMarked sys E' M' k x r) E E' w v a.moved mine
        (λ j n r i. let m = was j r i in record { near = m.near; waits = waits_stay M M' grows j r m.waits })

    -- the same marks, and no fewer holds
    pub marks_stay : (sys : Shape) (M M' : ℕ → ℕ) → ((s : ℕ) → M s ≡ 1 → M' s ≡ 1) → AllMarked sys E M
        → v.marks ≡ (E w).marks → ((d : ℕ) → In d (E w).holds → In d v.holds) → AllMarked sys E' M'
    marks_stay sys M M' grows was same more = marked_stays sys M M' grows was
        (λ r i. let m = was w r (subst (In r) same i) in record { near = (m.near.0, m.near.1, more m.near.0 m.near.2); waits = waits_stay M M' grows w r m.waits })

  -- the weights of the other workers stay
  pub owed_changes : (sys : Shape) (M M' : ℕ → ℕ) (p p' : ℕ) → Owed sys E M p
      → p' + (sum_below sys.scopes M + weight (E w)) ≡ p + (sum_below sys.scopes M' + weight v) → Owed sys E' M' p'
  owed_changes sys M M' p p' was step = let s = load_changed E E' w v a.moved a.seat_in in omega arith

  pub knows_stays : (sys : Shape) (T : ℕ → PhpType) → Knows sys E T → ((k : Known) → In k v.known → IsKnown sys T v k) → Knows sys E' T
  knows_stays sys T was mine = each (λ (u : ℕ) (x : View). (k : Known) → In k x.known → IsKnown sys T x k) E E' w v a.moved mine (λ j n. was j)

  pub known_same : (sys : Shape) (T : ℕ → PhpType) → Knows sys E T → v.known ≡ (E w).known → ((d : ℕ) → In d (E w).holds → In d v.holds) → Knows sys E' T
  known_same sys T was same more = knows_stays sys T was (λ k i. let o = was w k (subst (In k) same i) in record { cell_in = o.cell_in; owner_is = o.owner_is; held = more k.owner o.held; type_is = o.type_is })
