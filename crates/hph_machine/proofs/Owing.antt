-- Where a seat has a hand or owes a unit, some are pending.
use Rattle.std.proofs.Common.{◌≡◌, ℕ, ◌<◌, ◌≤◌, ◌+◌, length, Some, None, true, false, sym, refl, ap, ◌∙◌, arith, true≢false}
use mathlib.Core.Logic.{dite}
use native.Mathlib.Decide.{dec_lt}
use Rattle.hph_sys.specs.Shape.{Shape}
use Rattle.hph_core.specs.State.{WorkerState, entry, spent}
use Rattle.hph_core.specs.declared.view.View.{View}
use Rattle.hph_core.specs.Rule.{KeepsInvariant, weight, hand_weight, one_if}
use Rattle.hph_core.proofs.Sums.{one_in_load}
use Rattle.hph_core.proofs.Seats.{get_past}

module _ (sys : Shape) (st : WorkerState) (rule : KeepsInvariant sys st) (w : ℕ) where
  some_pending : 1 ≤ weight (entry st w) → 0 < st.pending
  some_pending h = dite (dec_lt w (length st.entries))
      (λ l. let few = rule.few in let a = one_in_load (entry st) w (omega arith) in let o = rule.owed in omega arith)
      (λ n. let e : weight (entry st w) ≡ 0 = ap weight (get_past st.entries w spent (omega arith)) in absurd (let c : ⊥ = omega arith in c))

  pub owed_pending : (entry st w).debt ≡ true → 0 < st.pending
  owed_pending d = some_pending (let e : one_if (entry st w).debt ≡ 1 = ap one_if d in omega arith)

  pub hand_pending : (s : ℕ) → (entry st w).hand ≡ Some s → 0 < st.pending
  hand_pending s h = some_pending (let e : hand_weight (entry st w).hand ≡ 1 = ap hand_weight h in omega arith)
