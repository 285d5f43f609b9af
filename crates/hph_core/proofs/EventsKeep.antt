-- Each event keeps the rule.
use Rattle.std.proofs.Common.{◌≡◌, ◌≢◌, ℕ, zero, suc, ◌<◌, ◌≤◌, ◌+◌, ◌-◌, ◌*◌, ◌/◌, ◌%◌, ◌^◌, eqb, Bool, true, false, not, cond, List, [], ◌∷◌, ◌++◌, length, get_or, set, Option, None, Some, sym, refl, ap, subst, ◌∙◌, inl, inr, ◌⊎◌, ⊎_elim, arith, length-set, eq-eqb, ne_eqb}
use mathlib.Core.Logic.{dite}
use native.Mathlib.Decide.{ℕ_discrete, dec_lt}
use Rattle.hph_type.specs.Types.{PhpType}
use Rattle.hph_core.specs.declared.view.View.{View}
use Rattle.hph_core.specs.declared.view.Known.{Known}
use Rattle.hph_core.specs.declared.view.Finding.{Finding}
use Rattle.hph_core.specs.declared.view.Finding.TheVariants.{Peeked, Took, Marked, PutBack, Got, Busy, Released, Seen, Raised, Added, Paid, Done, Pending}
use Rattle.hph_core.specs.Effects as m
use Rattle.hph_core.specs.Rule.IsDue.{in_set, in_hand, done}
use Rattle.hph_core.proofs.Lists.{in_kept, kept_in, changed_set, unchanged, eqb_true, not_eqb-ne, in_without, without_in, in_dec}
use Rattle.hph_core.proofs.Types.{leq_refl, leq_trans, leq_join, join_least, leq_antisym, rank_rises, asked_below, asked_met}
use Rattle.hph_core.proofs.Keeps.{look, each, held_same, held_got, held_released}
use Rattle.hph_core.proofs.Sums.{sum_same, sum_changed, one_in_load, one_in_sum, in_last}
use Rattle.hph_core.proofs.Bits.{bit_clears, bit_sets, member_small}
use Rattle.hph_core.proofs.Parts
use Rattle.hph_type.specs.Order.{Leq, join, IsOf}
use Rattle.hph_type.specs.Types.{none}
use Rattle.hph_sys.specs.Shape.{Shape, asked, IsTyping}
use Rattle.hph_sys.specs.Typings.{In, at, Below}
use Rattle.hph_sys.specs.Least.{IsMet, IsSolution}
use Rattle.hph_sys.specs.Lawful.{Lawful}
use Rattle.hph_core.specs.State.{WorkerState, entry, holder, member, member_of, spent, fresh, without, elsewhere, others, work_word}
use Rattle.hph_core.specs.Effects.{know, note, held_word, after_peek, after_take, after_mark, after_put_back, after_try, after_release, after_read, after_raise, after_add, after_pay, after_done, after_pending, word_with, word_without}
use Rattle.hph_core.specs.Rule.{Held, IsKnown, Knows, Seated, AtMostLeast, IsMarked, AllMarked, IsDue, IsDropped, AllDue, AllOver, HandsIn, FewRaises, Counted, Owed, KeepsInvariant, sum_below, load, total, weight, hand_weight, one_if, both, is_take, is_mark, is_put_back, is_raise}
use Rattle.hph_core.proofs.Lists.{Changed}
use Rattle.hph_core.specs.Conditions.{HoldsLook, MayRaise, MayFinish, MayPutBack, MayMark}
use Rattle.hph_type.specs.Rank.{rank}

module _ {A : Type 0} where
  pub get_past : (xs : List A) (i : ℕ) (d : A) → length xs ≤ i → get_or xs i d ≡ d
  get_past [] i d h = refl
  get_past (y ∷ ys) zero d h = absurd (omega arith)
  get_past (y ∷ ys) (suc i) d h = get_past ys i d (omega arith)

abbrev pub got : View → ℕ → View
got v d = record v { holds = d ∷ v.holds; findings = v.findings ++ Got d ∷ [] }

abbrev pub busy : View → ℕ → ℕ → View
busy v d n = record v { findings = v.findings ++ Busy d (n - 1) ∷ [] }

pub got_is : (v : View) (d n : ℕ) → n ≡ 0 → after_try v d n ≡ got v d
got_is v d n e = rw (eq-eqb n 0 e) refl

pub busy_is : (v : View) (d n : ℕ) → n ≢ 0 → after_try v d n ≡ busy v d n
busy_is v d n e = rw (ne_eqb n 0 e) refl

pub word_got : (v : View) (n : ℕ) → n ≡ 0 → held_word v n ≡ v.number + 1
word_got v n e = rw (eq-eqb n 0 e) refl

pub word_busy : (v : View) (n : ℕ) → n ≢ 0 → held_word v n ≡ n
word_busy v n e = rw (ne_eqb n 0 e) refl

abbrev pub took : View → ℕ → View
took v s = record v { hand = Some s; findings = v.findings ++ Took s true ∷ [] }

abbrev pub missed : ℕ → Finding
missed s = Took s false

pub took_is : (v : View) (s bit : ℕ) → bit ≡ 1 → after_take v s bit ≡ took v s
took_is v s bit e = rw (eq-eqb bit 1 e) refl

pub missed_is : (v : View) (s bit : ℕ) → bit ≢ 1 → after_take v s bit ≡ note v (Took s false)
missed_is v s bit e = rw (ne_eqb bit 1 e) refl

ranks_one : (a b x r q t n : ℕ) → b ≡ a + x → a ≤ r → x ≡ 1 → q + 1 ≤ t → n ≡ t → r ≡ q → b ≤ n
ranks_one a b x r q t n h1 h2 h3 h4 h5 h6 = omega arith

ranks_none : (a b x r n : ℕ) → b ≡ a + x → a ≤ r → x ≡ 0 → n ≡ r → b ≤ n
ranks_none a b x r n h1 h2 h3 h4 = omega arith

both_false : (a : Bool) → both a false ≡ 0
both_false true = refl
both_false false = refl

both_no : (a b : Bool) → a ≡ false → both a b ≡ 0
both_no a b e = rw e refl

both_yes : (a b : Bool) → a ≡ true → both a b ≡ one_if b
both_yes a b e = rw e refl

module _ (sys : Shape) (law : Lawful sys) (st : WorkerState) (rule : KeepsInvariant sys st) (w : ℕ) (seat_in : w < length st.entries) (live : (entry st w).live ≡ true) where
  abbrev E : ℕ → View
  E = entry st

  abbrev After : View → ℕ → View
  After v j = get_or (set st.entries w v) j spent

  moved : (v : View) → Changed E (After v) w v
  moved v = changed_set st.entries w v spent seat_in

  few : (v : View) → length (set st.entries w v) ≤ 64
  few v = let a = length-set st.entries w v in let b = rule.few in omega arith

  small : w < 64
  small = let b = rule.few in omega arith

  acts : (v : View) (f : Finding) → v.live ≡ true → v.number ≡ (E w).number → v.findings ≡ (E w).findings ++ f ∷ [] → Parts.Acts E (After v) w v f
  acts v f lives number findings = record { moved = moved v; seat_in = small; live = live; lives = lives; number = number; findings = findings }

  -- An event that changes none but what w knows, and its debt with the number pending
  record Quiet (v : View) (f : Finding) (p : ℕ) : Type 0 where
    hand : v.hand ≡ (E w).hand
    holds : v.holds ≡ (E w).holds
    marks : v.marks ≡ (E w).marks
    known : (k : Known) → In k v.known → IsKnown sys (at st.cells) v k
    owed : p + weight (E w) ≡ st.pending + weight v
    over : f ≡ Pending 0 → (s : ℕ) → s < sys.scopes → IsMet sys st.cells s × IsDropped E s
    no_take : (s : ℕ) → is_take s f ≡ 0
    no_mark : (s : ℕ) → is_mark s f ≡ 0
    no_put : (s : ℕ) → is_put_back s f ≡ 0
    no_raise : (c : ℕ) → is_raise c f ≡ 0

  quiet_keeps : (v : View) (f : Finding) (p : ℕ) → v.live ≡ true → v.number ≡ (E w).number → v.findings ≡ (E w).findings ++ f ∷ [] → Quiet v f p → KeepsInvariant sys (m.owing (m.acted st w v) p)
  quiet_keeps v f p lives number findings q =
      let a = acts v f lives number findings in
      record {
        typing = rule.typing;
        holders = rule.holders;
        work = rule.work;
        few = few v;
        below = rule.below;
        held = held_same E (After v) (holder st) (holder st) w v (moved v) rule.held q.holds (λ _. refl);
        known = Parts.knows_stays E (After v) w v f a sys (at st.cells) rule.known q.known;
        marked = Parts.marks_stay E (After v) w v f a q.hand sys (member st) (member st) (λ s e. e) rule.marked q.marks (λ d i. subst (In d) (sym q.holds) i);
        due = Parts.due_stays E (After v) w v f a q.hand sys (member st) (member st) st.cells (λ s e. e) rule.due;
        owed = Parts.owed_changes E (After v) w v f a sys (member st) (member st) st.pending p rule.owed (let o = q.owed in omega arith);
        over = Parts.acts_over E (After v) w v f a sys st.cells rule.over (λ e s h. let r = q.over e s h in (r.0, Parts.acts_dropped E (After v) w v f a s r.1));
        hands = Parts.hands_stay E (After v) w v f a q.hand sys rule.hands;
        members = rule.members;
        seated = Parts.acts_seated E (After v) w v f a rule.seated;
        raises = Parts.acts_raises E (After v) w v f a sys (at st.cells) rule.raises q.no_raise;
        counted = Parts.acts_counted E (After v) w v f a sys (member st) (member st) rule.counted (λ s. let x = q.no_take s in let y = q.no_mark s in let z = q.no_put s in omega arith);
      }

  same_known : (v : View) → v.known ≡ (E w).known → v.holds ≡ (E w).holds → (k : Known) → In k v.known → IsKnown sys (at st.cells) v k
  same_known v e h k i = let o = rule.known w k (subst (In k) e i) in record { cell_in = o.cell_in; owner_is = o.owner_is; held = subst (In k.owner) (sym h) o.held; type_is = o.type_is }

  pub peek_keeps : (j : ℕ) → KeepsInvariant sys (m.peek st w j)
  peek_keeps j = let n = work_word st j in quiet_keeps (after_peek (E w) j n) (Peeked j n) st.pending live refl refl
      record { hand = refl; holds = refl; marks = refl; known = same_known (after_peek (E w) j n) refl refl; owed = refl; over = λ e. absurd (cc); no_take = λ s. refl; no_mark = λ s. refl; no_put = λ s. refl; no_raise = λ c. refl }

  pub add_keeps : (E w).debt ≡ false → KeepsInvariant sys (m.add st w)
  add_keeps clear = let v = after_add (E w) in quiet_keeps v Added (st.pending + 1) live refl refl
      record { hand = refl; holds = refl; marks = refl; known = same_known v refl refl; owed = (let a : one_if (E w).debt ≡ 0 = ap one_if clear in omega arith); over = λ e. absurd (cc); no_take = λ s. refl; no_mark = λ s. refl; no_put = λ s. refl; no_raise = λ c. refl }

  pub owes_one : 0 < weight (E w) → 0 < st.pending
  owes_one h = let a = one_in_load E w small in let b = rule.owed in omega arith

  pub pay_keeps : (E w).debt ≡ true → KeepsInvariant sys (m.pay st w)
  pay_keeps owing = let v = after_pay (E w) in let a : one_if (E w).debt ≡ 1 = ap one_if owing in let p = owes_one (omega arith) in quiet_keeps v Paid (st.pending - 1) live refl refl
      record { hand = refl; holds = refl; marks = refl; known = same_known v refl refl; owed = omega arith; over = λ e. absurd (cc); no_take = λ s. refl; no_mark = λ s. refl; no_put = λ s. refl; no_raise = λ c. refl }

  -- a seat past the entries has none
  nobody : (u : ℕ) → 64 ≤ u → E u ≡ spent
  nobody u h = get_past st.entries u spent (let b = rule.few in omega arith)

  hand_small : (u s : ℕ) → (E u).hand ≡ Some s → u < 64
  hand_small u s e = dite (dec_lt u 64) (λ l. l) (λ n. let x : (E u).hand ≡ None = ap (λ (v : View). v.hand) (nobody u (omega arith)) in absurd (cc))

  hand_counts : (u s : ℕ) → (E u).hand ≡ Some s → 1 ≤ load E
  hand_counts u s e = let a = one_in_load E u (hand_small u s e) in let b : hand_weight (E u).hand ≡ 1 = ap hand_weight e in omega arith

  all_over : st.pending ≡ 0 → (s : ℕ) → s < sys.scopes → IsMet sys st.cells s × IsDropped E s
  all_over no_more s h = let o = rule.owed in elim (rule.due s h) [
    | in_set e ↦ absurd (let a = one_in_sum sys.scopes (member st) s h in omega arith)
    | in_hand u e ↦ absurd (let a = hand_counts u s e in omega arith)
    | done met d ↦ (met, d)
  ]

  pub read_pending_keeps : KeepsInvariant sys (m.read_pending st w)
  read_pending_keeps = let v = after_pending (E w) st.pending in quiet_keeps v (Pending st.pending) st.pending live refl refl
      record { hand = refl; holds = refl; marks = refl; known = same_known v refl refl; owed = refl; over = λ e. all_over (cc); no_take = λ s. refl; no_mark = λ s. refl; no_put = λ s. refl; no_raise = λ c. refl }

  module _ (c o : ℕ) (cell_in : c < sys.cells) (owner_is : o ≡ sys.owner c) (has : In o (E w).holds) where
    abbrev reads : View
    reads = after_read (E w) c o (at st.cells c)

    read_known : (k : Known) → In k reads.known → IsKnown sys (at st.cells) reads k
    read_known k (inl e) = record { cell_in = subst (λ (x : Known). x.cell < sys.cells) (sym e) cell_in; owner_is = subst (λ (x : Known). x.owner ≡ sys.owner x.cell) (sym e) owner_is; held = subst (λ (x : Known). In x.owner (E w).holds) (sym e) has; type_is = subst (λ (x : Known). at st.cells x.cell ≡ x.ty) (sym e) refl }
    read_known k (inr i) = let old = rule.known w k i in record { cell_in = old.cell_in; owner_is = old.owner_is; held = old.held; type_is = old.type_is }

    pub read_keeps : KeepsInvariant sys (m.read st w c o)
    read_keeps = quiet_keeps reads (Seen c (at st.cells c)) st.pending live refl refl
        record { hand = refl; holds = refl; marks = refl; known = read_known; owed = refl; over = λ e. absurd (cc); no_take = λ s. refl; no_mark = λ s. refl; no_put = λ s. refl; no_raise = λ c. refl }

  module _ (d : ℕ) (scope_in : d < sys.scopes) where
    held_to : (x : ℕ) → Changed (holder st) (λ j. get_or (set st.holders d x) j 0) d x
    held_to x = changed_set st.holders d x 0 (let h = rule.holders in omega arith)

    number : (E w).number ≡ w
    number = rule.seated.number w live

    -- an event on the holder of d, that takes no hand and no debt
    holds_keep : (v : View) (f : Finding) (x : ℕ) → Parts.Acts E (After v) w v f → v.hand ≡ (E w).hand → v.debt ≡ (E w).debt → Held (After v) (λ j. get_or (set st.holders d x) j 0)
        → ((k : Known) → In k v.known → IsKnown sys (at st.cells) v k) → ((r : ℕ) → In r v.marks → IsMarked sys (After v) (member st) w v r)
        → (f ≢ Pending 0) → ((s : ℕ) → is_take s f ≡ 0) → ((s : ℕ) → is_mark s f ≡ 0) → ((s : ℕ) → is_put_back s f ≡ 0) → ((c : ℕ) → is_raise c f ≡ 0) → KeepsInvariant sys (m.held_as (m.acted st w v) d x)
    holds_keep v f x a hand debt held known marks no_end no_take no_mark no_put no_raise = record {
      typing = rule.typing;
      holders = length-set st.holders d x ∙ rule.holders;
      work = rule.work;
      few = few v;
      below = rule.below;
      held = held;
      known = Parts.knows_stays E (After v) w v f a sys (at st.cells) rule.known known;
      marked = Parts.marked_stays E (After v) w v f a hand sys (member st) (member st) (λ s e. e) rule.marked marks;
      due = Parts.due_stays E (After v) w v f a hand sys (member st) (member st) st.cells (λ s e. e) rule.due;
      owed = Parts.owed_changes E (After v) w v f a sys (member st) (member st) st.pending st.pending rule.owed (let x : hand_weight v.hand ≡ hand_weight (E w).hand = ap hand_weight hand in let y : one_if v.debt ≡ one_if (E w).debt = ap one_if debt in omega arith);
      over = Parts.acts_over E (After v) w v f a sys st.cells rule.over (λ e. absurd (no_end e));
      hands = Parts.hands_stay E (After v) w v f a hand sys rule.hands;
      members = rule.members;
      seated = Parts.acts_seated E (After v) w v f a rule.seated;
      raises = Parts.acts_raises E (After v) w v f a sys (at st.cells) rule.raises no_raise;
      counted = Parts.acts_counted E (After v) w v f a sys (member st) (member st) rule.counted (λ s. let x = no_take s in let y = no_mark s in let z = no_put s in omega arith);
    }

    keeps_marks : (v : View) (f : Finding) (a : Parts.Acts E (After v) w v f) (hand : v.hand ≡ (E w).hand) → v.marks ≡ (E w).marks → ((x : ℕ) → In x (E w).holds → In x v.holds) → (r : ℕ) → In r v.marks → IsMarked sys (After v) (member st) w v r
    keeps_marks v f a hand same more r i = let m = rule.marked w r (subst (In r) same i) in record { near = (m.near.0, m.near.1, more m.near.0 m.near.2); waits = Parts.waits_stay E (After v) w v f a hand (member st) (member st) (λ s e. e) w r m.waits }

    try_got : holder st d ≡ 0 → KeepsInvariant sys (m.held_as (m.acted st w (got (E w) d)) d (w + 1))
    try_got free = let v = got (E w) d in let a = acts v (Got d) live refl refl in
        holds_keep v (Got d) (w + 1) a refl refl
        (held_got E (After v) (holder st) (λ j. get_or (set st.holders d (w + 1)) j 0) w v (moved v) rule.held d free refl (held_to (w + 1)))
        (λ k i. let o = rule.known w k i in record { cell_in = o.cell_in; owner_is = o.owner_is; held = inr o.held; type_is = o.type_is })
        (keeps_marks v (Got d) a refl refl (λ x i. inr i))
        (λ e. absurd (cc)) (λ s. refl) (λ s. refl) (λ s. refl) (λ s. refl)

    try_busy : holder st d ≢ 0 → KeepsInvariant sys (m.held_as (m.acted st w (busy (E w) d (holder st d))) d (holder st d))
    try_busy taken = let v = busy (E w) d (holder st d) in let f = Busy d (holder st d - 1) in let a = acts v f live refl refl in
        holds_keep v f (holder st d) a refl refl
        (held_same E (After v) (holder st) (λ j. get_or (set st.holders d (holder st d)) j 0) w v (moved v) rule.held refl (unchanged (holder st) (λ j. get_or (set st.holders d (holder st d)) j 0) d (holder st d) (held_to (holder st d)) refl))
        (same_known v refl refl)
        (keeps_marks v f a refl refl (λ x i. i))
        (λ e. absurd (cc)) (λ s. refl) (λ s. refl) (λ s. refl) (λ s. refl)

    pub try_keeps : KeepsInvariant sys (m.try_hold st w d)
    try_keeps = let P : View → ℕ → Type 0 = λ v x. KeepsInvariant sys (m.held_as (m.acted st w v) d x) in dite (ℕ_discrete (holder st d) 0)
        (λ e. subst (λ (v : View). P v (held_word (E w) (holder st d))) (sym (got_is (E w) d (holder st d) e)) (subst (P (got (E w) d)) (sym (word_got (E w) (holder st d) e ∙ ap (λ (n : ℕ). n + 1) number)) (try_got e)))
        (λ n. subst (λ (v : View). P v (held_word (E w) (holder st d))) (sym (busy_is (E w) d (holder st d) n)) (subst (P (busy (E w) d (holder st d))) (sym (word_busy (E w) (holder st d) n)) (try_busy n)))

    pub release_keeps : In d (E w).holds → KeepsInvariant sys (m.release st w d)
    release_keeps has = let v = after_release (E w) d in let a = acts v (Released d) live refl refl in
        holds_keep v (Released d) 0 a refl refl
        (held_released E (After v) (holder st) (λ j. get_or (set st.holders d 0) j 0) w v (moved v) rule.held d has refl (held_to 0))
        (λ k i. let i' = in_kept (λ (y : Known). not (eqb y.owner d)) k (E w).known i in let o = rule.known w k i'.0 in
        record { cell_in = o.cell_in; owner_is = o.owner_is; held = without_in d k.owner (E w).holds o.held (not_eqb-ne k.owner d i'.1); type_is = o.type_is })
        (λ r i. absurd i)
        (λ e. absurd (cc)) (λ s. refl) (λ s. refl) (λ s. refl) (λ s. refl)

  -- whose hand it is
  whose : (v : View) (u s : ℕ) → (After v u).hand ≡ Some s → ((u ≡ w) × (v.hand ≡ Some s)) ⊎ ((u ≢ w) × ((E u).hand ≡ Some s))
  whose v u s e = ⊎_elim (λ y. inl (y.0, ap (λ (x : View). x.hand) (sym y.1) ∙ e)) (λ n. inr (n.0, ap (λ (x : View). x.hand) (sym n.1) ∙ e)) (look E (After v) w v (moved v) u)

  others_hand : (v : View) (u s : ℕ) → u ≢ w → (E u).hand ≡ Some s → (After v u).hand ≡ Some s
  others_hand v u s n e = ap (λ (x : View). x.hand) ((moved v).away u n) ∙ e

  -- w's hand becomes no_more, where what it was is now in the set or was dropped
  module _ (s : ℕ) (hand : (E w).hand ≡ Some s) where
    mine_is : (r : ℕ) → (E w).hand ≡ Some r → r ≡ s
    mine_is r e = cc

    module _ (met : IsMet sys st.cells s) (full : HoldsLook sys (E w) s) (clear : (E w).debt ≡ false) where
      acts_finish : Parts.Acts E (After (after_done (E w) s)) w (after_done (E w) s) (Done s)
      acts_finish = acts (after_done (E w) s) (Done s) live refl refl

      finish_marked : (j r : ℕ) → IsMarked sys E (member st) j (E j) r → (member st r ≡ 1) ⊎ ((u : ℕ) × (u ≢ j) × ((After (after_done (E w) s) u).hand ≡ Some r))
      finish_marked j r m = ⊎_elim (λ e. inl e)
          (λ x. dite (ℕ_discrete x.0 w)
          (λ e. absurd (let d = m.near in let r_is : r ≡ s = mine_is r (ap (λ (k : ℕ). (E k).hand) (sym e) ∙ x.2) in
          let a : holder st d.0 ≡ j + 1 = rule.held.word j d.0 d.2 in
          let b : holder st d.0 ≡ w + 1 = rule.held.word w d.0 (full d.0 (subst (λ (k : ℕ). In d.0 (sys.look k)) r_is d.1)) in
          x.1 (e ∙ (let same : w ≡ j = omega arith in same))))
          (λ ne. inr (x.0, x.1, others_hand (after_done (E w) s) x.0 r ne x.2)))
          m.waits

      pub finish_keeps : KeepsInvariant sys (m.finish st w s)
      finish_keeps =
          let v = after_done (E w) s in let a = acts_finish in
          let one : hand_weight (E w).hand ≡ 1 = ap hand_weight hand in
          let p = owes_one (omega arith) in
          record {
            typing = rule.typing;
            holders = rule.holders;
            work = rule.work;
            few = few v;
            below = rule.below;
            held = held_same E (After v) (holder st) (holder st) w v (moved v) rule.held refl (λ _. refl);
            known = Parts.knows_stays E (After v) w v (Done s) a sys (at st.cells) rule.known (same_known v refl refl);
            marked = each (λ (k : ℕ) (x : View). (r : ℕ) → In r x.marks → IsMarked sys (After v) (member st) k x r) E (After v) w v (moved v)
                (λ r i. let m = rule.marked w r i in record { near = m.near; waits = finish_marked w r m })
                (λ j n r i. let m = rule.marked j r i in record { near = m.near; waits = finish_marked j r m });
            due = λ s' h. elim (rule.due s' h) [
              | in_set e ↦ in_set e
              | in_hand u e ↦ dite (ℕ_discrete u w)
                  (λ y. let is : s' ≡ s = mine_is s' (ap (λ (k : ℕ). (E k).hand) (sym y) ∙ e) in subst (IsDue sys (After v) (member st) st.cells) (sym is) (done met (w, subst (λ (x : View). In (Done s) x.findings) (sym (moved v).here) (in_last (Done s) (E w).findings))))
                  (λ ne. in_hand u (others_hand v u s' ne e))
              | done met' d ↦ done met' (Parts.acts_dropped E (After v) w v (Done s) a s' d)
            ];
            owed = Parts.owed_changes E (After v) w v (Done s) a sys (member st) (member st) st.pending (st.pending - 1) rule.owed (omega arith);
            over = Parts.acts_over E (After v) w v (Done s) a sys st.cells rule.over (λ e. absurd (cc));
            hands = λ u s' e. ⊎_elim (λ y. let bad = y.1 in absurd (cc)) (λ n. rule.hands u s' n.1) (whose v u s' e);
            members = rule.members;
            seated = Parts.acts_seated E (After v) w v (Done s) a rule.seated;
            raises = Parts.acts_raises E (After v) w v (Done s) a sys (at st.cells) rule.raises (λ c. refl);
            counted = Parts.acts_counted E (After v) w v (Done s) a sys (member st) (member st) rule.counted (λ _. omega arith);
          }

  module _ (s c o : ℕ) (t : PhpType) (may : MayRaise sys st.cells (E w) s c o t) where
    abbrev raises : View
    raises = after_raise (E w) c o t

    abbrev cells' : List PhpType
    cells' = set st.cells c t

    cells_to : Changed (at st.cells) (at cells') c t
    cells_to = changed_set st.cells c t none (let h = rule.typing.len in let k = may.cell_in in omega arith)

    scope_is : s < sys.scopes
    scope_is = rule.hands w s may.hand

    grows : Below sys.classes st.cells cells'
    grows = each (λ (j : ℕ) (x : PhpType). Leq sys.classes (at st.cells j) x) (at st.cells) (at cells') c t cells_to
        (let u = may.some in subst (λ (x : PhpType). Leq sys.classes (at st.cells c) x) (sym u.2) (leq_join sys.classes (at st.cells c) u.0)) (λ j _. leq_refl sys.classes (at st.cells j))

    raise_typing : IsTyping sys cells'
    raise_typing = record { len = length-set st.cells c t ∙ rule.typing.len; types = each (λ (j : ℕ) (x : PhpType). IsOf sys.classes x) (at st.cells) (at cells') c t cells_to may.typed (λ j _. rule.typing.types j) }

    raise_below : AtMostLeast sys cells'
    raise_below U sol = each (λ (j : ℕ) (x : PhpType). Leq sys.classes x (at U j)) (at st.cells) (at cells') c t cells_to
        (let u = may.some in subst (λ (x : PhpType). Leq sys.classes x (at U c)) (sym u.2) (join_least sys.classes (at st.cells c) u.0 (at U c) (rule.below U sol c) (leq_trans sys.classes u.0 (asked sys s st.cells c) (at U c) u.1 (asked_below sys law s scope_is st.cells U rule.typing sol (rule.below U sol) c))))
        (λ j _. rule.below U sol j)

    raise_known : (k : Known) → In k raises.known → IsKnown sys (at cells') raises k
    raise_known k (inl e) = record { cell_in = subst (λ (x : Known). x.cell < sys.cells) (sym e) may.cell_in; owner_is = subst (λ (x : Known). x.owner ≡ sys.owner x.cell) (sym e) may.owner_is; held = subst (λ (x : Known). In x.owner (E w).holds) (sym e) may.held; type_is = subst (λ (x : Known). at cells' x.cell ≡ x.ty) (sym e) cells_to.here }
    raise_known k (inr i) =
        let i' = in_kept (λ (y : Known). not (eqb y.cell c)) k (E w).known i in let old = rule.known w k i'.0 in
        record { cell_in = old.cell_in; owner_is = old.owner_is; held = old.held; type_is = cells_to.away k.cell (not_eqb-ne k.cell c i'.1) ∙ old.type_is }

    -- what another worker knows is of other cells
    raise_else : (u : ℕ) → u ≢ w → (k : Known) → In k (E u).known → IsKnown sys (at cells') (E u) k
    raise_else u n k i =
        let old = rule.known u k i in
        let other : k.cell ≢ c = λ e. n (let a : holder st k.owner ≡ u + 1 = rule.held.word u k.owner old.held in let b : holder st o ≡ w + 1 = rule.held.word w o may.held in
        let same : k.owner ≡ o = old.owner_is ∙ (ap sys.owner e ∙ sym may.owner_is) in let f : holder st k.owner ≡ holder st o = ap (holder st) same in omega arith) in
        record { cell_in = old.cell_in; owner_is = old.owner_is; held = old.held; type_is = cells_to.away k.cell other ∙ old.type_is }

    raise_acts : Parts.Acts E (After raises) w raises (Raised c t)
    raise_acts = acts raises (Raised c t) live refl refl

    -- a scope that does not read c stays met
    met_stays : (s' : ℕ) → s' < sys.scopes → ¬ In s' (sys.readers c) → IsMet sys st.cells s' → IsMet sys cells' s'
    met_stays s' h apart met p i =
        let same : sys.contrib s' cells' ≡ sys.contrib s' st.cells = law.local s' cells' st.cells h raise_typing rule.typing
        (λ c' l reads. cells_to.away c' (λ e. apart (subst (λ (k : ℕ). In s' (sys.readers k)) e reads))) in
        leq_trans sys.classes p.1 (at st.cells p.0) (at cells' p.0) (met p (subst (In p) same i)) (grows p.0)

    raise_due : AllDue sys (After raises) (member st) cells'
    raise_due s' h = elim (rule.due s' h) [
      | in_set e ↦ in_set e
      | in_hand u e ↦ in_hand u (Parts.hand_stays E (After raises) w raises (Raised c t) raise_acts refl u ∙ e)
      | done met d ↦ dite (in_dec s' (sys.readers c))
          (λ reads. ⊎_elim (λ e. in_set e) (λ x. in_hand x.0 (Parts.hand_stays E (After raises) w raises (Raised c t) raise_acts refl x.0 ∙ x.2)) (rule.marked w s' (may.marked s' reads)).waits)
          (λ apart. done (met_stays s' h apart met) (Parts.acts_dropped E (After raises) w raises (Raised c t) raise_acts s' d))
    ]

    -- nobody has found pending 0: else the cells meet all pairs, and no_more can rise
    not_over : (u : ℕ) → ¬ In (Pending 0) (E u).findings
    not_over u i = may.rises (let x = may.some in
        let met : IsMet sys st.cells s = (rule.over u i s scope_is).0 in
        let le : Leq sys.classes t (at st.cells c) = subst (λ (y : PhpType). Leq sys.classes y (at st.cells c)) (sym x.2) (join_least sys.classes (at st.cells c) x.0 (at st.cells c) (leq_refl sys.classes (at st.cells c)) (leq_trans sys.classes x.0 (asked sys s st.cells c) (at st.cells c) x.1 (asked_met sys st.cells s c met))) in
        leq_antisym sys.classes t (at st.cells c) le (subst (λ (y : PhpType). Leq sys.classes (at st.cells c) y) (sym x.2) (leq_join sys.classes (at st.cells c) x.0)))

    raise_ranks : FewRaises sys (After raises) (at cells')
    raise_ranks j = let tot = Parts.acts_total E (After raises) w raises (Raised c t) raise_acts (is_raise j) in let was = rule.raises j in dite (ℕ_discrete c j)
        (λ e. let one : one_if (eqb c j) ≡ 1 = ap one_if (eq-eqb c j e) in
        let le : Leq sys.classes (at st.cells c) t = (let u = may.some in subst (λ (x : PhpType). Leq sys.classes (at st.cells c) x) (sym u.2) (leq_join sys.classes (at st.cells c) u.0)) in
        let up : rank sys.classes (at st.cells c) + 1 ≤ rank sys.classes t = rank_rises sys.classes (at st.cells c) t (rule.typing.types c) may.typed le may.rises in
        let now : rank sys.classes (at cells' j) ≡ rank sys.classes t = ap (λ (k : ℕ). rank sys.classes (at cells' k)) (sym e) ∙ ap (rank sys.classes) cells_to.here in
        let old : rank sys.classes (at st.cells j) ≡ rank sys.classes (at st.cells c) = ap (λ (k : ℕ). rank sys.classes (at st.cells k)) (sym e) in
        ranks_one (total (is_raise j) E) (total (is_raise j) (After raises)) (one_if (eqb c j)) (rank sys.classes (at st.cells j)) (rank sys.classes (at st.cells c)) (rank sys.classes t) (rank sys.classes (at cells' j)) tot was one up now old)
        (λ ne. let no_more : one_if (eqb c j) ≡ 0 = ap one_if (ne_eqb c j ne) in
        let same : rank sys.classes (at cells' j) ≡ rank sys.classes (at st.cells j) = ap (rank sys.classes) (cells_to.away j (λ e. ne (sym e))) in
        ranks_none (total (is_raise j) E) (total (is_raise j) (After raises)) (one_if (eqb c j)) (rank sys.classes (at st.cells j)) (rank sys.classes (at cells' j)) tot was no_more same)

    pub raise_keeps : KeepsInvariant sys (m.raise st w c o t)
    raise_keeps = record {
      typing = raise_typing;
      holders = rule.holders;
      work = rule.work;
      few = few raises;
      below = raise_below;
      held = held_same E (After raises) (holder st) (holder st) w raises (moved raises) rule.held refl (λ _. refl);
      known = each (λ (u : ℕ) (x : View). (k : Known) → In k x.known → IsKnown sys (at cells') x k) E (After raises) w raises (moved raises) raise_known raise_else;
      marked = Parts.marks_stay E (After raises) w raises (Raised c t) raise_acts refl sys (member st) (member st) (λ s e. e) rule.marked refl (λ d i. i);
      due = raise_due;
      owed = Parts.owed_changes E (After raises) w raises (Raised c t) raise_acts sys (member st) (member st) st.pending st.pending rule.owed refl;
      over = λ u i. absurd (⊎_elim (not_over u) (λ e. absurd (cc)) (Parts.acts_from E (After raises) w raises (Raised c t) raise_acts u (Pending 0) i));
      hands = Parts.hands_stay E (After raises) w raises (Raised c t) raise_acts refl sys rule.hands;
      members = rule.members;
      seated = Parts.acts_seated E (After raises) w raises (Raised c t) raise_acts rule.seated;
      raises = raise_ranks;
      counted = Parts.acts_counted E (After raises) w raises (Raised c t) raise_acts sys (member st) (member st) rule.counted (λ s. omega arith);
    }

  -- the events on the work set
  module _ (s : ℕ) (scope_in : s < sys.scopes) where
    word_in : s / 64 < length st.work
    word_in = let a = rule.work in omega arith

    abbrev Without : ℕ → ℕ
    Without j = member_of (set st.work (s / 64) (word_without (work_word st (s / 64)) s)) j

    abbrev With : ℕ → ℕ
    With j = member_of (set st.work (s / 64) (word_with (work_word st (s / 64)) s)) j

    clears : Changed (member st) Without s 0
    clears = bit_clears st.work s word_in

    sets : Changed (member st) With s 1
    sets = bit_sets st.work s word_in

    with_grows : (j : ℕ) → member st j ≡ 1 → With j ≡ 1
    with_grows j e = ⊎_elim (λ y. y.1) (λ n. n.1 ∙ e) (look (member st) With s 1 sets j)

    with_in : (j : ℕ) → With j ≡ 1 → j < sys.scopes
    with_in j e = ⊎_elim (λ y. subst (λ (k : ℕ). k < sys.scopes) (sym y.0) scope_in) (λ n. rule.members j (sym n.1 ∙ e)) (look (member st) With s 1 sets j)

    without_less : (j : ℕ) → Without j ≡ 1 → (j ≢ s) × (member st j ≡ 1)
    without_less j e = ⊎_elim (λ y. absurd (let a = y.1 in omega arith)) (λ n. (n.0, sym n.1 ∙ e)) (look (member st) Without s 0 clears j)

    sum_with : sum_below sys.scopes With + member st s ≡ sum_below sys.scopes (member st) + 1
    sum_with = sum_changed sys.scopes (member st) With s 1 sets scope_in

    sum_without : sum_below sys.scopes Without + member st s ≡ sum_below sys.scopes (member st) + 0
    sum_without = sum_changed sys.scopes (member st) Without s 0 clears scope_in

    module _ (idle : (E w).hand ≡ None) (free : (d : ℕ) → ¬ In d (E w).holds) where
      take_marked : (v : View) (j r : ℕ) → v.hand ≡ Some s → IsMarked sys E (member st) j (E j) r → j ≢ w → (Without r ≡ 1) ⊎ ((u : ℕ) × (u ≢ j) × ((After v u).hand ≡ Some r))
      take_marked v j r hand m ne = ⊎_elim
          (λ e. dite (ℕ_discrete r s)
          (λ y. inr (w, (λ z. ne (sym z)), ap (λ (x : View). x.hand) (moved v).here ∙ (hand ∙ ap Some (sym y))))
          (λ n. inl (clears.away r n ∙ e)))
          (λ x. dite (ℕ_discrete x.0 w)
          (λ y. let bad : (E w).hand ≡ Some r = ap (λ (k : ℕ). (E k).hand) (sym y) ∙ x.2 in absurd (cc))
          (λ n. inr (x.0, x.1, others_hand v x.0 r n x.2)))
          m.waits

      take_got : member st s ≡ 1 → KeepsInvariant sys (m.worded (m.acted st w (took (E w) s)) s (word_without (work_word st (s / 64)) s))
      take_got bit = let v = took (E w) s in let f = Took s true in let a = acts v f live refl refl in
          let no_more : hand_weight (E w).hand ≡ 0 = ap hand_weight idle in
          record {
            typing = rule.typing;
            holders = rule.holders;
            work = length-set st.work (s / 64) (word_without (work_word st (s / 64)) s) ∙ rule.work;
            few = few v;
            below = rule.below;
            held = held_same E (After v) (holder st) (holder st) w v (moved v) rule.held refl (λ _. refl);
            known = Parts.knows_stays E (After v) w v f a sys (at st.cells) rule.known (same_known v refl refl);
            marked = each (λ (k : ℕ) (x : View). (r : ℕ) → In r x.marks → IsMarked sys (After v) Without k x r) E (After v) w v (moved v)
                (λ r i. let m = rule.marked w r i in absurd (free m.near.0 m.near.2))
                (λ j n r i. let m = rule.marked j r i in record { near = m.near; waits = take_marked v j r refl m n });
            due = λ s' h. elim (rule.due s' h) [
              | in_set e ↦ dite (ℕ_discrete s' s)
                  (λ y. in_hand w (ap (λ (x : View). x.hand) (moved v).here ∙ ap Some (sym y)))
                  (λ n. in_set (clears.away s' n ∙ e))
              | in_hand u e ↦ dite (ℕ_discrete u w)
                  (λ y. let bad : (E w).hand ≡ Some s' = ap (λ (k : ℕ). (E k).hand) (sym y) ∙ e in absurd (cc))
                  (λ n. in_hand u (others_hand v u s' n e))
              | done met d ↦ done met (Parts.acts_dropped E (After v) w v f a s' d)
            ];
            owed = Parts.owed_changes E (After v) w v f a sys (member st) Without st.pending st.pending rule.owed (let b = sum_without in omega arith);
            over = Parts.acts_over E (After v) w v f a sys st.cells rule.over (λ e. absurd (cc));
            hands = λ u s' e. ⊎_elim (λ y. let is : s ≡ s' = cc (y.1) in subst (λ (k : ℕ). k < sys.scopes) is scope_in) (λ n. rule.hands u s' n.1) (whose v u s' e);
            members = λ j e. rule.members j (without_less j e).1;
            seated = Parts.acts_seated E (After v) w v f a rule.seated;
            raises = Parts.acts_raises E (After v) w v f a sys (at st.cells) rule.raises (λ c. refl);
            counted = Parts.acts_counted E (After v) w v f a sys (member st) Without rule.counted (λ j. ⊎_elim
                (λ y. let x : both (eqb s j) true ≡ 1 = both_yes (eqb s j) true (eq-eqb s j (sym y.0)) in let z : member st j ≡ 1 = ap (member st) y.0 ∙ bit in let q = y.1 in omega arith)
                (λ n. let x : both (eqb s j) true ≡ 0 = both_no (eqb s j) true (ne_eqb s j (λ e. n.0 (sym e))) in let q = n.1 in omega arith)
                (look (member st) Without s 0 clears j));
          }

      -- a bit that was clear: none moves but the finding
      take_none : member st s ≢ 1 → KeepsInvariant sys (m.worded (m.acted st w (note (E w) (Took s false))) s (word_without (work_word st (s / 64)) s))
      take_none bit = let v = note (E w) (Took s false) in let f = Took s false in let a = acts v f live refl refl in
          let zero_bit : member st s ≡ 0 = (let b = member_small st.work s in omega arith) in
          let stays : (j : ℕ) → Without j ≡ member st j = unchanged (member st) Without s 0 clears (sym zero_bit) in
          let grow : (j : ℕ) → member st j ≡ 1 → Without j ≡ 1 = λ j e. stays j ∙ e in
          record {
            typing = rule.typing;
            holders = rule.holders;
            work = length-set st.work (s / 64) (word_without (work_word st (s / 64)) s) ∙ rule.work;
            few = few v;
            below = rule.below;
            held = held_same E (After v) (holder st) (holder st) w v (moved v) rule.held refl (λ _. refl);
            known = Parts.knows_stays E (After v) w v f a sys (at st.cells) rule.known (same_known v refl refl);
            marked = Parts.marks_stay E (After v) w v f a refl sys (member st) Without grow rule.marked refl (λ d i. i);
            due = Parts.due_stays E (After v) w v f a refl sys (member st) Without st.cells grow rule.due;
            owed = Parts.owed_changes E (After v) w v f a sys (member st) Without st.pending st.pending rule.owed (let b = sum_without in omega arith);
            over = Parts.acts_over E (After v) w v f a sys st.cells rule.over (λ e. absurd (cc));
            hands = Parts.hands_stay E (After v) w v f a refl sys rule.hands;
            members = λ j e. rule.members j (without_less j e).1;
            seated = Parts.acts_seated E (After v) w v f a rule.seated;
            raises = Parts.acts_raises E (After v) w v f a sys (at st.cells) rule.raises (λ c. refl);
            counted = Parts.acts_counted E (After v) w v f a sys (member st) Without rule.counted (λ j. let x = both_false (eqb s j) in let y = stays j in omega arith);
          }

      pub take_keeps : KeepsInvariant sys (m.take st w s)
      take_keeps = let P : View → Type 0 = λ v. KeepsInvariant sys (m.worded (m.acted st w v) s (word_without (work_word st (s / 64)) s)) in dite (ℕ_discrete (member st s) 1)
          (λ e. subst P (sym (took_is (E w) s (member st s) e)) (take_got e))
          (λ n. subst P (sym (missed_is (E w) s (member st s) n)) (take_none n))

    -- what a mark or a put back adds to the counts: at s one where the bit was clear
    counts_with : (g : ℕ → Finding → ℕ) (f : Finding) → ((j : ℕ) → g j f ≡ both (eqb s j) (not (eqb (member st s) 1))) → (j : ℕ) → With j ≡ member st j + g j f
    counts_with g f is j = let small_bit = member_small st.work s in let eq = is j in ⊎_elim
        (λ y. let bit : member st j ≡ member st s = ap (member st) y.0 in let h = both_yes (eqb s j) (not (eqb (member st s) 1)) (eq-eqb s j (sym y.0)) in
        dite (ℕ_discrete (member st s) 1)
        (λ e. let z : one_if (not (eqb (member st s) 1)) ≡ 0 = ap (λ (b : Bool). one_if (not b)) (eq-eqb (member st s) 1 e) in let q = y.1 in omega arith)
        (λ n. let z : one_if (not (eqb (member st s) 1)) ≡ 1 = ap (λ (b : Bool). one_if (not b)) (ne_eqb (member st s) 1 n) in let q = y.1 in omega arith))
        (λ n. let h = both_no (eqb s j) (not (eqb (member st s) 1)) (ne_eqb s j (λ e. n.0 (sym e))) in let q = n.1 in omega arith)
        (look (member st) With s 1 sets j)

    pub mark_keeps : (E w).debt ≡ true → ((d : ℕ) × In d (sys.look s) × In d (E w).holds) → KeepsInvariant sys (m.mark st w s)
    mark_keeps owing near = let v = after_mark (E w) s (member st s) in let f = Marked s (not (eqb (member st s) 1)) in let a = acts v f live refl refl in
        let one : one_if (E w).debt ≡ 1 = ap one_if owing in
        let small_bit = member_small st.work s in
        let paid : one_if v.debt ≡ member st s = dite (ℕ_discrete (member st s) 1)
        (λ e. ap (λ (b : Bool). one_if (cond b (E w).debt false)) (eq-eqb (member st s) 1 e) ∙ (one ∙ sym e))
        (λ n. ap (λ (b : Bool). one_if (cond b (E w).debt false)) (ne_eqb (member st s) 1 n) ∙ (let z : 0 ≡ member st s = omega arith in z)) in
        record {
          typing = rule.typing;
          holders = rule.holders;
          work = length-set st.work (s / 64) (word_with (work_word st (s / 64)) s) ∙ rule.work;
          few = few v;
          below = rule.below;
          held = held_same E (After v) (holder st) (holder st) w v (moved v) rule.held refl (λ _. refl);
          known = Parts.knows_stays E (After v) w v f a sys (at st.cells) rule.known (same_known v refl refl);
          marked = Parts.marked_stays E (After v) w v f a refl sys (member st) With with_grows rule.marked
              (λ r i. ⊎_elim
              (λ e. record { near = (near.0, subst (λ (k : ℕ). In near.0 (sys.look k)) (sym e) near.1, near.2); waits = inl (ap With e ∙ sets.here) })
              (λ i'. let m = rule.marked w r i' in record { near = m.near; waits = Parts.waits_stay E (After v) w v f a refl (member st) With with_grows w r m.waits }) i);
          due = Parts.due_stays E (After v) w v f a refl sys (member st) With st.cells with_grows rule.due;
          owed = Parts.owed_changes E (After v) w v f a sys (member st) With st.pending st.pending rule.owed (let b = sum_with in omega arith);
          over = Parts.acts_over E (After v) w v f a sys st.cells rule.over (λ e. absurd (cc));
          hands = Parts.hands_stay E (After v) w v f a refl sys rule.hands;
          members = with_in;
          seated = Parts.acts_seated E (After v) w v f a rule.seated;
          raises = Parts.acts_raises E (After v) w v f a sys (at st.cells) rule.raises (λ c. refl);
          counted = Parts.acts_counted E (After v) w v f a sys (member st) With rule.counted (λ j. let x = counts_with is_mark f (λ k. refl) j in omega arith);
        }

    pub put_back_keeps : (E w).hand ≡ Some s → (E w).debt ≡ false → KeepsInvariant sys (m.put_back st w s)
    put_back_keeps hand clear = let v = after_put_back (E w) s (member st s) in let f = PutBack s (not (eqb (member st s) 1)) in let a = acts v f live refl refl in
        let one : hand_weight (E w).hand ≡ 1 = ap hand_weight hand in
        let no_more : one_if (E w).debt ≡ 0 = ap one_if clear in
        let small_bit = member_small st.work s in
        let owes : one_if v.debt ≡ member st s = dite (ℕ_discrete (member st s) 1)
        (λ e. ap one_if (eq-eqb (member st s) 1 e) ∙ sym e)
        (λ n. ap one_if (ne_eqb (member st s) 1 n) ∙ (let z : 0 ≡ member st s = omega arith in z)) in
        let waits : (j r : ℕ) → (member st r ≡ 1) ⊎ ((u : ℕ) × (u ≢ j) × ((E u).hand ≡ Some r)) → (With r ≡ 1) ⊎ ((u : ℕ) × (u ≢ j) × ((After v u).hand ≡ Some r)) = λ j r. ⊎_elim
        (λ e. inl (with_grows r e))
        (λ x. dite (ℕ_discrete x.0 w)
        (λ y. inl (ap With (mine_is s hand r (ap (λ (k : ℕ). (E k).hand) (sym y) ∙ x.2)) ∙ sets.here))
        (λ n. inr (x.0, x.1, others_hand v x.0 r n x.2))) in
        record {
          typing = rule.typing;
          holders = rule.holders;
          work = length-set st.work (s / 64) (word_with (work_word st (s / 64)) s) ∙ rule.work;
          few = few v;
          below = rule.below;
          held = held_same E (After v) (holder st) (holder st) w v (moved v) rule.held refl (λ _. refl);
          known = Parts.knows_stays E (After v) w v f a sys (at st.cells) rule.known (same_known v refl refl);
          marked = each (λ (k : ℕ) (x : View). (r : ℕ) → In r x.marks → IsMarked sys (After v) With k x r) E (After v) w v (moved v)
              (λ r i. let m = rule.marked w r i in record { near = m.near; waits = waits w r m.waits })
              (λ j n r i. let m = rule.marked j r i in record { near = m.near; waits = waits j r m.waits });
          due = λ s' h. elim (rule.due s' h) [
            | in_set e ↦ in_set (with_grows s' e)
            | in_hand u e ↦ dite (ℕ_discrete u w)
                (λ y. in_set (ap With (mine_is s hand s' (ap (λ (k : ℕ). (E k).hand) (sym y) ∙ e)) ∙ sets.here))
                (λ n. in_hand u (others_hand v u s' n e))
            | done met d ↦ done met (Parts.acts_dropped E (After v) w v f a s' d)
          ];
          owed = Parts.owed_changes E (After v) w v f a sys (member st) With st.pending st.pending rule.owed (let b = sum_with in omega arith);
          over = Parts.acts_over E (After v) w v f a sys st.cells rule.over (λ e. absurd (cc));
          hands = λ u s' e. ⊎_elim (λ y. let bad = y.1 in absurd (cc)) (λ n. rule.hands u s' n.1) (whose v u s' e);
          members = with_in;
          seated = Parts.acts_seated E (After v) w v f a rule.seated;
          raises = Parts.acts_raises E (After v) w v f a sys (at st.cells) rule.raises (λ c. refl);
          counted = Parts.acts_counted E (After v) w v f a sys (member st) With rule.counted (λ j. let x = counts_with is_put_back f (λ k. refl) j in omega arith);
        }
