-- The laws of specs/Laws.antt.
use Rattle.std.proofs.Common.{◌≡◌, ◌≢◌, ℕ, ◌<◌, ◌≤◌, ◌+◌, ◌-◌, ◌*◌, ◌/◌, ◌%◌, true, false, List, [], length, get_or, set, cond, Bool, zero, suc, ◌∷◌, ◌++◌, Some, sym, refl, ap, subst, ◌∙◌, inl, inr, ◌⊎◌, ⊎_elim, arith}
use mathlib.Core.Logic.{dite}
use native.Mathlib.Decide.{dec_lt, ℕ_discrete}
use Rattle.hph_type.specs.Types.{PhpType}
use Rattle.hph_sys.specs.Typings.{In, at, Below}
use Rattle.hph_sys.specs.Shape.{Shape}
use Rattle.hph_sys.specs.Least.{IsLeast}
use Rattle.hph_sys.specs.Lawful.{Lawful}
use Rattle.hph_sys.proofs.LeastLaws.{least_is_the_meet}
use Rattle.hph_core.specs.State.{WorkerState, entry, holder, member, spent, fresh}
use Rattle.hph_core.specs.Effects.{after_take, after_try, after_pay, after_done, pay, finish, split}
use Rattle.hph_core.specs.Rule.{KeepsInvariant, sum_below, weight, load}
use Rattle.hph_core.specs.Events.{start, happens, Enabled, of_hand}
use Rattle.hph_core.specs.Laws.{StartsWell, EventKeeps, EveryRunKeeps, IsOfUse, FindingsStay}
use Rattle.hph_core.specs.declared.view.View.{View}
use Rattle.hph_core.specs.declared.view.Finding.{Finding}
use Rattle.hph_core.specs.declared.view.Finding.TheVariants.{Took, Got, Busy, Paid, Done, Pending}
use Rattle.hph_core.specs.declared.event.Event.{Event}
use Rattle.hph_core.specs.declared.event.Event.TheVariants.{Peek, Take, Mark, PutBack, TryHold, Release, Read, Raise, Add, DropOne, ReadPending, Split, Join}
use Rattle.hph_core.proofs.Lists.{changed_set}
use Rattle.hph_core.proofs.Keeps.{each}
use Rattle.hph_core.proofs.Sums.{sum_bound, weight_small, in_left}
use Rattle.hph_core.proofs.Bits.{member_small}
use Rattle.hph_core.proofs.EventsKeep.{get_past, took_is, missed_is, got_is, busy_is}
use Rattle.hph_core.proofs.Seats.{join_kept}
use Rattle.hph_core.proofs.First.{start_keeps}
use Rattle.hph_core.proofs.Runs.{happens_keeps, run_keeps}

pub starts_well : (sys : Shape) → Lawful sys → StartsWell sys
starts_well sys law work workers all few = start_keeps sys law work all workers few

pub event_keeps : (sys : Shape) → Lawful sys → EventKeeps sys
event_keeps sys law st e rule enabled = happens_keeps sys law st rule e enabled

pub every_run_keeps : (sys : Shape) → Lawful sys → EveryRunKeeps sys
every_run_keeps sys law work workers es all few enabled = run_keeps sys law (start sys workers work) (start_keeps sys law work all workers few) es enabled

-- numbers of which each is at most 2, and 0 from n on
sum_within : (m n : ℕ) (f : ℕ → ℕ) → ((j : ℕ) → f j ≤ 2) → ((j : ℕ) → n ≤ j → f j ≡ 0) → n ≤ m → sum_below m f ≤ n * 2
sum_within zero n f small past h = omega arith
sum_within (suc m) n f small past h = dite (dec_lt m n)
    (λ l. let e : suc m ≡ n = omega arith in subst (λ (k : ℕ). sum_below (suc m) f ≤ k * 2) e (sum_bound (suc m) 2 f (λ j _. small j)))
    (λ no_less. let a = sum_within m n f small past (omega arith) in let b = past m (omega arith) in omega arith)

load_within : (st : WorkerState) → length st.entries ≤ 64 → load (entry st) ≤ length st.entries * 2
unfolding load
load_within st few = sum_within 64 (length st.entries) (λ w. weight (entry st w)) (λ j. weight_small (entry st j))
    (λ j h. ap weight (get_past st.entries j spent h)) few

members_within : (sys : Shape) (st : WorkerState) → sum_below sys.scopes (member st) ≤ sys.scopes * 1
members_within sys st = sum_bound sys.scopes 1 (member st) (λ j _. let b = member_small st.work j in omega arith)

add_bounds : (p a b s n : ℕ) → p ≡ a + b → a ≤ s * 1 → b ≤ n * 2 → p ≤ s + 2 * n
add_bounds p a b s n e h k = omega arith

pub is_of_use : (sys : Shape) (st : WorkerState) → Lawful sys → KeepsInvariant sys st → IsOfUse sys st
is_of_use sys st law rule = record {
  below = λ least is. rule.below least (least_is_the_meet sys least law is).solution;
  least = λ w i. record {
    is_typing = rule.typing;
    below = rule.below;
    greatest = λ lower _ each_one. each_one st.cells record { is_typing = rule.typing; met = λ s h. (rule.over w i s h).0 };
  };
  dropped = λ w i s h. (rule.over w i s h).1;
  holds_in = λ w d i. dite (dec_lt d sys.scopes) (λ l. l) (λ no_less. absurd (
      let a : holder st d ≡ w + 1 = rule.held.word w d i in
      let b : holder st d ≡ 0 = get_past st.holders d 0 (let h = rule.holders in omega arith) in omega arith));
  marks_in = λ w r i. ⊎_elim (λ e. rule.members r e) (λ x. rule.hands x.0 r x.2) (rule.marked w r i).waits;
  one_holder = λ w u d i j. let a = rule.held.word w d i in let b = rule.held.word u d j in omega arith;
  bounded = add_bounds st.pending (sum_below sys.scopes (member st)) (load (entry st)) sys.scopes (length st.entries) rule.owed (members_within sys st) (load_within st rule.few);
  busy_is_another = λ w d enabled e. enabled.2 (rule.held.hold w d e);
}

-- what a take, a try and a drop find
take_finds : (v : View) (s bit : ℕ) → (f : Finding) × ((after_take v s bit).findings ≡ v.findings ++ f ∷ [])
take_finds v s bit = dite (ℕ_discrete bit 1)
    (λ e. (Took s true, ap (λ (x : View). x.findings) (took_is v s bit e)))
    (λ n. (Took s false, ap (λ (x : View). x.findings) (missed_is v s bit n)))

try_finds : (v : View) (d found : ℕ) → (f : Finding) × ((after_try v d found).findings ≡ v.findings ++ f ∷ [])
try_finds v d found = dite (ℕ_discrete found 0)
    (λ e. (Got d, ap (λ (x : View). x.findings) (got_is v d found e)))
    (λ n. (Busy d (found - 1), ap (λ (x : View). x.findings) (busy_is v d found n)))

module _ (sys : Shape) (st : WorkerState) (w : ℕ) (seat_in : w < length st.entries) (g : Finding) where
  -- a finding more takes none away
  stays : (v : View) (f : Finding) → v.findings ≡ (entry st w).findings ++ f ∷ [] → (u : ℕ) → In g (entry st u).findings → In g (get_or (set st.entries w v) u spent).findings
  stays v f more = each (λ (k : ℕ) (x : View). In g (entry st k).findings → In g x.findings) (entry st) (λ k. get_or (set st.entries w v) k spent) w v
      (changed_set st.entries w v spent seat_in) (λ i. subst (In g) (sym more) (in_left g (entry st w).findings (f ∷ []) i)) (λ j n i. i)

  drop_stays : (b : Bool) (u : ℕ) → In g (entry st u).findings → In g (entry (cond b (pay st w) (finish st w (of_hand (entry st w).hand))) u).findings
  drop_stays true u i = stays (after_pay (entry st w)) Paid refl u i
  drop_stays false u i = stays (after_done (entry st w) (of_hand (entry st w).hand)) (Done (of_hand (entry st w).hand)) refl u i

-- a seat that was spent had found nothing
split_stays : (sys : Shape) (st : WorkerState) → KeepsInvariant sys st → (v : ℕ) → v < length st.entries → (entry st v).live ≡ false → (g : Finding) (u : ℕ) → In g (entry st u).findings → In g (entry (split st v) u).findings
split_stays sys st rule v v_in dead g = each (λ (k : ℕ) (x : View). In g (entry st k).findings → In g x.findings) (entry st) (entry (split st v)) v (fresh v)
    (changed_set st.entries v (fresh v) spent v_in) (λ i. subst (λ (x : View). In g x.findings) (rule.seated.gone v dead) i) (λ j n i. i)

module _ (sys : Shape) (law : Lawful sys) (st : WorkerState) (rule : KeepsInvariant sys st) where
  event_stays : (e : Event) → Enabled sys st e → (g : Finding) (u : ℕ) → In g (entry st u).findings → (u' : ℕ) × In g (entry (happens sys st e) u').findings
  event_stays (Peek w j) h g u i = (u, stays sys st w h.0.0 g _ _ refl u i)
  event_stays (Take w s) h g u i = let t = take_finds (entry st w) s (member st s) in (u, stays sys st w h.0.0 g _ t.0 t.1 u i)
  event_stays (Mark w r) h g u i = (u, stays sys st w h.0.0 g _ _ refl u i)
  event_stays (PutBack w s) h g u i = (u, stays sys st w h.0.0 g _ _ refl u i)
  event_stays (TryHold w d) h g u i = let t = try_finds (entry st w) d (holder st d) in (u, stays sys st w h.0.0 g _ t.0 t.1 u i)
  event_stays (Release w d) h g u i = (u, stays sys st w h.0.0 g _ _ refl u i)
  event_stays (Read w c) h g u i = (u, stays sys st w h.0.0 g _ _ refl u i)
  event_stays (Raise w c t) h g u i = (u, stays sys st w h.0.0 g _ _ refl u i)
  event_stays (Add w) h g u i = (u, stays sys st w h.0.0 g _ _ refl u i)
  event_stays (DropOne w) h g u i = (u, drop_stays sys st w h.0.0 g (entry st w).debt u i)
  event_stays (ReadPending w) h g u i = (u, stays sys st w h.0 g _ _ refl u i)
  event_stays (Split w v) h g u i = (u, split_stays sys st rule v h.2 h.3 g u i)
  event_stays (Join w v) h g u i = join_kept sys st rule w v h.4 h.0.0 h.2 h.0.1 h.3 g u i

pub findings_stay : (sys : Shape) → Lawful sys → FindingsStay sys
findings_stay sys law st e rule enabled w i = event_stays sys law st rule e enabled (Pending 0) w i
