-- Both seats are done, and one of them found nothing pending.
use Rattle.std.proofs.Common.{◌≡◌, ℕ, zero, suc, ◌<◌, List, [], ◌∷◌, ◌++◌, sym, refl, ap, subst, ◌∙◌, inl, inr, arith}
use Rattle.hph_type.specs.Types.{PhpType}
use Rattle.hph_sys.specs.Typings.{In}
use Rattle.hph_sys.specs.Least.{IsLeast}
use Rattle.hph_sys.specs.Two.{two, int}
use Rattle.hph_core.specs.declared.view.View.{View}
use Rattle.hph_core.specs.declared.view.Finding.{Finding}
use Rattle.hph_core.specs.declared.view.Finding.TheVariants.{Raised, Done, Released, Pending}
use Rattle.hph_core.specs.Conditions.{IsIdle}
use Rattle.hph_table.specs.Ids.{TableId}
use Rattle.hph_table.specs.Seats.{AreAll, IsEnd, views_of}
use Rattle.hph_machine_tests.specs.TwoSeats.{raiser, finder, looked}

last_in : (fs : List Finding) (f : Finding) → In f (fs ++ f ∷ [])
last_in [] f = inl refl
last_in (g ∷ fs) f = inr (last_in fs f)

pub pushed_two : {A : Type 0} → (xs ys zs : List A) (a b : A) → xs ≡ [] → ys ≡ xs ++ a ∷ [] → zs ≡ ys ++ b ∷ [] → zs ≡ a ∷ b ∷ []
pushed_two xs ys zs a b e f g = g ∙ ap (λ l. l ++ b ∷ []) (f ∙ ap (λ l. l ++ a ∷ []) e)

module _ (id : TableId) (a b : TableId × View) (a_id : a.0 ≡ id) (a_is : a.1 ≡ raiser) (b_id : b.0 ≡ id) (b_is : b.1 ≡ finder) where
  pub both_done : AreAll id 2 (a ∷ b ∷ [])
  both_done = record { each = each; has = has }
    where
      each : (p : TableId × View) → In p (a ∷ b ∷ []) → (p.0 ≡ id) × IsIdle p.1
      each p (inl e) = subst (λ (q : TableId × View). (q.0 ≡ id) × IsIdle q.1) (sym e) (a_id, subst IsIdle (sym a_is) (record { live = refl; hand = refl; holds = refl; debt = refl }))
      each p (inr (inl e)) = subst (λ (q : TableId × View). (q.0 ≡ id) × IsIdle q.1) (sym e) (b_id, subst IsIdle (sym b_is) (record { live = refl; hand = refl; holds = refl; debt = refl }))
      each p (inr (inr no_more)) = absurd no_more

      has : (j : ℕ) → j < 2 → (p : TableId × View) × In p (a ∷ b ∷ []) × (p.1.number ≡ j)
      has zero h = (a, inl refl, ap (λ (v : View). v.number) a_is)
      has (suc zero) h = (b, inr (inl refl), ap (λ (v : View). v.number) b_is)
      has (suc (suc j)) h = absurd (omega arith)

  pub all_done : (n : ℕ) (seats : List (TableId × View)) → n ≡ 2 → seats ≡ a ∷ b ∷ [] → AreAll id n seats
  all_done n seats n_is seats_are = subst (λ (m : ℕ). AreAll id m seats) (sym n_is) (subst (AreAll id 2) (sym seats_are) both_done)

  pub is_least : (seats : List (TableId × View)) (T : List PhpType) → seats ≡ a ∷ b ∷ [] → IsEnd two (views_of seats) T → IsLeast two T
  is_least seats T seats_are end = end.least b.1
      (subst (λ (l : List (TableId × View)). In b.1 (views_of l)) (sym seats_are) (inr (inl refl)))
      (subst (λ (v : View). In (Pending 0) v.findings) (sym b_is) (last_in (looked ++ Raised 1 int ∷ Done 1 ∷ Released 1 ∷ Released 0 ∷ []) (Pending 0)))
