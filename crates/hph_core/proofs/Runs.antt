-- The rule holds over every list of enabled events.
use Rattle.std.proofs.Common.{◌≡◌, ◌≢◌, ℕ, zero, suc, ◌<◌, ◌≤◌, ◌+◌, ◌-◌, Bool, true, false, cond, List, [], ◌∷◌, ◌++◌, length, get_or, set, Option, None, Some, sym, refl, ap, subst, ◌∙◌, inl, inr, ◌⊎◌, arith, length-set}
use mathlib.Core.Logic.{dite}
use native.Mathlib.Decide.{ℕ_discrete}
use Rattle.hph_core.specs.declared.view.View.{View}
use Rattle.hph_core.specs.declared.view.Finding.{Finding}
use Rattle.hph_core.specs.declared.view.Finding.TheVariants.{Done, Pending}
use Rattle.hph_core.specs.declared.event.Event.{Event}
use Rattle.hph_core.specs.declared.event.Event.TheVariants.{Peek, Take, Mark, PutBack, TryHold, Release, Read, Raise, Add, DropOne, ReadPending, Split, Join}
use Rattle.hph_core.proofs.EventsKeep as ev
use Rattle.hph_core.proofs.Seats.{Alike, alike_refl, reseated, join_keeps, total_same}
use Rattle.hph_core.proofs.Lists.{changed_set}
use Rattle.hph_core.proofs.Keeps.{each}
use Rattle.hph_sys.specs.Shape.{Shape}
use Rattle.hph_sys.specs.Typings.{In}
use Rattle.hph_sys.specs.Lawful.{Lawful}
use Rattle.hph_core.specs.State.{WorkerState, entry, spent, fresh}
use Rattle.hph_core.specs.Effects.{pay, finish, split, join_seats}
use Rattle.hph_core.specs.Rule.{KeepsInvariant}
use Rattle.hph_core.proofs.Lists.{Changed}
use Rattle.hph_core.specs.Conditions.{MayFinish}
use Rattle.hph_core.specs.Events.{happens, Enabled, run, AllEnabled, Lives, of_hand, drop_one}

drop_keeps : (sys : Shape) (law : Lawful sys) (st : WorkerState) (rule : KeepsInvariant sys st) (w : ℕ) → Lives st w → ((entry st w).debt ≡ false → (s : ℕ) × MayFinish sys st.cells (entry st w) s) → (b : Bool) → (entry st w).debt ≡ b → KeepsInvariant sys (cond b (pay st w) (finish st w (of_hand (entry st w).hand)))
drop_keeps sys law st rule w lives may true e = ev.pay_keeps sys law st rule w lives.0 lives.1 e
drop_keeps sys law st rule w lives may false e = let m = may e in
    subst (λ (s : ℕ). KeepsInvariant sys (finish st w s)) (sym (ap of_hand m.1.hand)) (ev.finish_keeps sys law st rule w lives.0 lives.1 m.0 m.1.hand m.1.met m.1.look m.1.no_debt)

-- a split makes a spent seat live
split_keeps : (sys : Shape) (st : WorkerState) (rule : KeepsInvariant sys st) (v : ℕ) → v < length st.entries → (entry st v).live ≡ false → KeepsInvariant sys (split st v)
split_keeps sys st rule v v_in dead =
    let moved : Changed (entry st) (entry (split st v)) v (fresh v) = changed_set st.entries v (fresh v) spent v_in in
    let was : entry st v ≡ spent = rule.seated.gone v dead in
    let found : (u : ℕ) → (entry (split st v) u).findings ≡ (entry st u).findings = each (λ (u : ℕ) (x : View). x.findings ≡ (entry st u).findings) (entry st) (entry (split st v)) v (fresh v) moved (ap (λ (x : View). x.findings) (sym was)) (λ j n. refl) in
    reseated sys st rule (set st.entries v (fresh v)) (let a = length-set st.entries v (fresh v) in let b = rule.few in omega arith)
    (each (λ (u : ℕ) (x : View). Alike (entry st u) x) (entry st) (entry (split st v)) v (fresh v) moved (subst (λ (x : View). Alike x (fresh v)) (sym was) record { hand = refl; holds = refl; marks = refl; debt = refl; known = refl }) (λ j n. alike_refl (entry st j)))
    record {
      number = each (λ (u : ℕ) (x : View). x.live ≡ true → x.number ≡ u) (entry st) (entry (split st v)) v (fresh v) moved (λ _. refl) (λ j n. rule.seated.number j);
      gone = each (λ (u : ℕ) (x : View). x.live ≡ false → x ≡ spent) (entry st) (entry (split st v)) v (fresh v) moved (λ l. absurd (cc)) (λ j n. rule.seated.gone j);
    }
    (λ s d. (d.0, subst (In (Done s)) (sym (found d.0)) d.1))
    (λ u i. (u, subst (In (Pending 0)) (found u) i))
    (λ g. total_same g (entry st) (entry (split st v)) found)

pub happens_keeps : (sys : Shape) → Lawful sys → (st : WorkerState) → KeepsInvariant sys st → (e : Event) → Enabled sys st e → KeepsInvariant sys (happens sys st e)
happens_keeps sys law st rule (Peek w j) h = ev.peek_keeps sys law st rule w h.0.0 h.0.1 j
happens_keeps sys law st rule (Take w s) h = ev.take_keeps sys law st rule w h.0.0 h.0.1 s h.1 h.2 (λ d i. subst (In d) h.3 i)
happens_keeps sys law st rule (Mark w r) h = ev.mark_keeps sys law st rule w h.0.0 h.0.1 r h.1.scope_in h.1.debt h.1.near
happens_keeps sys law st rule (PutBack w s) h = ev.put_back_keeps sys law st rule w h.0.0 h.0.1 s (rule.hands w s h.1.hand) h.1.hand h.1.no_debt
happens_keeps sys law st rule (TryHold w d) h = ev.try_keeps sys law st rule w h.0.0 h.0.1 d h.1
happens_keeps sys law st rule (Release w d) h = ev.release_keeps sys law st rule w h.0.0 h.0.1 d h.1 h.2
happens_keeps sys law st rule (Read w c) h = ev.read_keeps sys law st rule w h.0.0 h.0.1 c (sys.owner c) h.1 refl h.2
happens_keeps sys law st rule (Raise w c t) h = ev.raise_keeps sys law st rule w h.0.0 h.0.1 h.1.0 c (sys.owner c) t h.1.1
happens_keeps sys law st rule (Add w) h = ev.add_keeps sys law st rule w h.0.0 h.0.1 h.2
happens_keeps sys law st rule (DropOne w) h = drop_keeps sys law st rule w h.0 h.1 (entry st w).debt refl
happens_keeps sys law st rule (ReadPending w) h = ev.read_pending_keeps sys law st rule w h.0 h.1
happens_keeps sys law st rule (Split w v) h = split_keeps sys st rule v h.2 h.3
happens_keeps sys law st rule (Join w v) h = join_keeps sys st rule w v h.4 h.0.0 h.2 h.0.1 h.3

pub run_keeps : (sys : Shape) → Lawful sys → (st : WorkerState) → KeepsInvariant sys st → (es : List Event) → AllEnabled sys st es → KeepsInvariant sys (run sys st es)
run_keeps sys law st rule [] h = rule
run_keeps sys law st rule (e ∷ es) h = run_keeps sys law (happens sys st e) (happens_keeps sys law st rule e h.0) es h.1
