-- A split and a join of seats keep the rule.
use Rattle.std.proofs.Common.{◌≡◌, ◌≢◌, ℕ, zero, suc, ◌<◌, ◌≤◌, ◌+◌, ◌-◌, Bool, true, false, List, [], ◌∷◌, ◌++◌, length, get_or, set, Option, None, Some, sym, refl, ap, subst, ◌∙◌, inl, inr, ◌⊎◌, ⊎_elim, arith, length-set, length-append}
use mathlib.Core.Logic.{dite}
use native.Mathlib.Decide.{ℕ_discrete, dec_lt}
use Rattle.hph_type.specs.Types.{PhpType}
use Rattle.hph_core.specs.declared.view.View.{View}
use Rattle.hph_core.specs.declared.view.Known.{Known}
use Rattle.hph_core.specs.declared.view.Finding.{Finding}
use Rattle.hph_core.specs.declared.view.Finding.TheVariants.{Done, Pending}
use Rattle.hph_core.specs.Rule.IsDue.{in_set, in_hand, done}
use Rattle.hph_core.proofs.Lists.{changed_set}
use Rattle.hph_core.proofs.Keeps.{look, each}
use Rattle.hph_core.proofs.Sums.{sum_same, sum_changed, changed_map, tally-append, in_left, in_right, in_append}
use Rattle.hph_sys.specs.Shape.{Shape}
use Rattle.hph_sys.specs.Typings.{In, at}
use Rattle.hph_sys.specs.Least.{IsMet}
use Rattle.hph_sys.specs.Lawful.{Lawful}
use Rattle.hph_core.specs.State.{WorkerState, entry, holder, member, spent, fresh}
use Rattle.hph_core.specs.Effects.{after_split, after_join}
use Rattle.hph_core.specs.Rule.{Held, IsKnown, Knows, Seated, IsMarked, AllMarked, IsDue, IsDropped, AllDue, AllOver, HandsIn, FewRaises, Counted, Owed, KeepsInvariant, weight, hand_weight, one_if, sum_below, load, total, tally, is_raise, is_take, is_mark, is_put_back}
use Rattle.hph_core.proofs.Lists.{Changed}
use Rattle.hph_core.specs.Conditions.{IsIdle}

-- the two have the same, but for what is found
pub record Alike (a b : View) : Type 0 where
  pub hand : b.hand ≡ a.hand
  pub holds : b.holds ≡ a.holds
  pub marks : b.marks ≡ a.marks
  pub debt : b.debt ≡ a.debt
  pub known : b.known ≡ a.known

weight_alike : (a b : View) → Alike a b → weight b ≡ weight a
weight_alike a b k = let x : hand_weight b.hand ≡ hand_weight a.hand = ap hand_weight k.hand in let y : one_if b.debt ≡ one_if a.debt = ap one_if k.debt in omega arith

load_alike : (E E' : ℕ → View) → ((u : ℕ) → Alike (E u) (E' u)) → load E' ≡ load E
unfolding load
load_alike E E' k = sum_same 64 (λ w. weight (E w)) (λ w. weight (E' w)) (λ j _. weight_alike (E j) (E' j) (k j))

two_sums : (s0 s1 s2 tw to tk tl : ℕ) → s1 + tw ≡ s0 + tk → s2 + tl ≡ s1 + 0 → tk ≡ tw + to → tl ≡ to → s2 ≡ s0
two_sums s0 s1 s2 tw to tk tl a b c d = omega arith

module _ (sys : Shape) (st : WorkerState) (rule : KeepsInvariant sys st) (vs : List View) (few : length vs ≤ 64) where
  abbrev E : ℕ → View
  E = entry st

  abbrev E' : ℕ → View
  E' j = get_or vs j spent

  module _ (alike : (u : ℕ) → Alike (E u) (E' u)) (seated : Seated E')
      (drops : (s : ℕ) → IsDropped E s → IsDropped E' s) (ends : (u : ℕ) → In (Pending 0) (E' u).findings → (u' : ℕ) × In (Pending 0) (E u').findings)
      (totals : (g : Finding → ℕ) → total g E' ≡ total g E) where
    pub reseated : KeepsInvariant sys record { cells = st.cells; holders = st.holders; work = st.work; pending = st.pending; entries = vs }
    reseated = record {
      typing = rule.typing;
      holders = rule.holders;
      work = rule.work;
      few = few;
      below = rule.below;
      held = record {
        word = λ w d i. rule.held.word w d (subst (In d) (alike w).holds i);
        hold = λ w d e. subst (In d) (sym (alike w).holds) (rule.held.hold w d e);
      };
      known = λ w k i. let o = rule.known w k (subst (In k) (alike w).known i) in record { cell_in = o.cell_in; owner_is = o.owner_is; held = subst (In k.owner) (sym (alike w).holds) o.held; type_is = o.type_is };
      marked = λ w r i. let m = rule.marked w r (subst (In r) (alike w).marks i) in record { near = (m.near.0, m.near.1, subst (In m.near.0) (sym (alike w).holds) m.near.2); waits = ⊎_elim (λ e. inl e) (λ x. inr (x.0, x.1, (alike x.0).hand ∙ x.2)) m.waits };
      due = λ s h. elim (rule.due s h) [ in_set e ↦ in_set e | in_hand u e ↦ in_hand u ((alike u).hand ∙ e) | done met d ↦ done met (drops s d) ];
      owed = let l = load_alike E E' alike in let o = rule.owed in omega arith;
      over = λ u i s h. let x = ends u i in let r = rule.over x.0 x.1 s h in (r.0, drops s r.1);
      hands = λ w s e. rule.hands w s (sym (alike w).hand ∙ e);
      members = rule.members;
      seated = seated;
      raises = λ c. let t = totals (is_raise c) in let r = rule.raises c in omega arith;
      counted = λ s h. let r = rule.counted s h in let a = totals (is_take s) in let b = totals (is_mark s) in let c = totals (is_put_back s) in omega arith;
    }

-- the totals where the findings of each are the same
pub total_same : (g : Finding → ℕ) (E E' : ℕ → View) → ((u : ℕ) → (E' u).findings ≡ (E u).findings) → total g E' ≡ total g E
unfolding total
total_same g E E' h = sum_same 64 (λ w. tally g (E w).findings) (λ w. tally g (E' w).findings) (λ j _. ap (tally g) (h j))

module _ {A : Type 0} where
  pub snoc_here : (xs : List A) (x d : A) → get_or (xs ++ x ∷ []) (length xs) d ≡ x
  snoc_here [] x d = refl
  snoc_here (y ∷ xs) x d = snoc_here xs x d

  pub snoc_away : (xs : List A) (x d : A) (j : ℕ) → j ≢ length xs → get_or (xs ++ x ∷ []) j d ≡ get_or xs j d
  snoc_away [] x d zero n = absurd (n refl)
  snoc_away [] x d (suc j) n = refl
  snoc_away (y ∷ xs) x d zero n = refl
  snoc_away (y ∷ xs) x d (suc j) n = snoc_away xs x d j (λ e. n (omega arith))

  pub get_past : (xs : List A) (i : ℕ) (d : A) → length xs ≤ i → get_or xs i d ≡ d
  get_past [] i d h = refl
  get_past (y ∷ ys) zero d h = absurd (omega arith)
  get_past (y ∷ ys) (suc i) d h = get_past ys i d (omega arith)

pub alike_refl : (v : View) → Alike v v
alike_refl v = record { hand = refl; holds = refl; marks = refl; debt = refl; known = refl }

-- a split by w: a new seat stands behind the others
module _ (sys : Shape) (st : WorkerState) (rule : KeepsInvariant sys st) (w : ℕ) (seat_in : w < length st.entries) (live : (entry st w).live ≡ true) (room : length st.entries < 64) where
  abbrev n : ℕ
  n = length st.entries

  abbrev left : List View
  left = set st.entries w (after_split (entry st w))

  abbrev split_to : List View
  split_to = left ++ fresh n ∷ []

  len : length left ≡ n
  len = length-set st.entries w (after_split (entry st w))

  first : Changed (entry st) (λ j. get_or left j spent) w (after_split (entry st w))
  first = changed_set st.entries w (after_split (entry st w)) spent seat_in

  second : Changed (λ j. get_or left j spent) (λ j. get_or split_to j spent) n (fresh n)
  second = subst (λ (k : ℕ). Changed (λ j. get_or left j spent) (λ j. get_or split_to j spent) k (fresh n)) len record { here = snoc_here left (fresh n) spent; away = snoc_away left (fresh n) spent }

  nobody : get_or left n spent ≡ spent
  nobody = get_past left n spent (let l = len in omega arith)

  -- what each seat is afterwards
  pub split_each : (P : ℕ → View → Type 0) → P w (after_split (entry st w)) → P n (fresh n) → ((j : ℕ) → j ≢ w → P j (entry st j)) → (j : ℕ) → P j (get_or split_to j spent)
  split_each P at_w at_n others = each P (λ j. get_or left j spent) (λ j. get_or split_to j spent) n (fresh n) second at_n (λ j _. each P (entry st) (λ j. get_or left j spent) w (after_split (entry st w)) first at_w others j)

  blank : (P : View → Type 0) → P spent → P (entry st n)
  blank P p = subst P (sym (get_past st.entries n spent (omega arith))) p

  pub split_alike : (u : ℕ) → Alike (entry st u) (get_or split_to u spent)
  split_alike = split_each (λ u v. Alike (entry st u) v)
      record { hand = refl; holds = refl; marks = refl; debt = refl; known = refl }
      (blank (λ v. Alike v (fresh n)) record { hand = refl; holds = refl; marks = refl; debt = refl; known = refl })
      (λ j _. alike_refl (entry st j))

  pub split_findings : (u : ℕ) → (get_or split_to u spent).findings ≡ (entry st u).findings
  split_findings = split_each (λ u v. v.findings ≡ (entry st u).findings) refl (blank (λ v. [] ≡ v.findings) refl) (λ j _. refl)

  pub split_keeps : KeepsInvariant sys record { cells = st.cells; holders = st.holders; work = st.work; pending = st.pending; entries = split_to }
  split_keeps = reseated sys st rule split_to (let l = len in let a = length-append left (fresh n ∷ []) in omega arith) split_alike
      record {
        number = split_each (λ u v. v.live ≡ true → v.number ≡ u) (λ l. rule.seated.number w live) (λ l. refl) (λ j _. rule.seated.number j);
        gone = split_each (λ u v. v.live ≡ false → v ≡ spent) (λ l. absurd (cc)) (λ l. absurd (cc)) (λ j _. rule.seated.gone j);
      }
      (λ s d. (d.0, subst (In (Done s)) (sym (split_findings d.0)) d.1))
      (λ u i. (u, subst (In (Pending 0)) (split_findings u) i))
      (λ g. total_same g (entry st) (λ j. get_or split_to j spent) split_findings)

-- a join: w has the findings of both, and o is spent
module _ (sys : Shape) (st : WorkerState) (rule : KeepsInvariant sys st) (w o : ℕ) (apart : o ≢ w) (w_in : w < length st.entries) (o_in : o < length st.entries) (w_live : (entry st w).live ≡ true) (idle : IsIdle (entry st o)) where
  abbrev kept : View
  kept = after_join (entry st w) (entry st o)

  abbrev left' : List View
  left' = set st.entries w kept

  abbrev joined_to : List View
  joined_to = set left' o spent

  jfirst : Changed (entry st) (λ j. get_or left' j spent) w kept
  jfirst = changed_set st.entries w kept spent w_in

  jsecond : Changed (λ j. get_or left' j spent) (λ j. get_or joined_to j spent) o spent
  jsecond = changed_set left' o spent spent (let l = length-set st.entries w kept in omega arith)

  pub join_each : (P : ℕ → View → Type 0) → P w kept → P o spent → ((j : ℕ) → j ≢ w → j ≢ o → P j (entry st j)) → (j : ℕ) → P j (get_or joined_to j spent)
  join_each P at_w at_o others j = dite (ℕ_discrete j o)
      (λ e. subst (λ (k : ℕ). P k (get_or joined_to k spent)) (sym e) (subst (P o) (sym jsecond.here) at_o))
      (λ n. subst (P j) (sym (jsecond.away j n)) (dite (ℕ_discrete j w)
      (λ e. subst (λ (k : ℕ). P k (get_or left' k spent)) (sym e) (subst (P w) (sym jfirst.here) at_w))
      (λ m. subst (P j) (sym (jfirst.away j m)) (others j m n))))

  no_holds : (d : ℕ) → ¬ In d (entry st o).holds
  no_holds d i = subst (In d) idle.holds i

  none_in : {A : Type 0} → (xs : List A) → ((x : A) → ¬ In x xs) → [] ≡ xs
  none_in [] h = refl
  none_in (x ∷ xs) h = absurd (h x (inl refl))

  pub join_alike : (u : ℕ) → Alike (entry st u) (get_or joined_to u spent)
  join_alike = join_each (λ u v. Alike (entry st u) v)
      record { hand = refl; holds = refl; marks = refl; debt = refl; known = refl }
      record {
        hand = sym idle.hand;
        holds = sym idle.holds;
        marks = none_in (entry st o).marks (λ r i. let m = rule.marked o r i in no_holds m.near.0 m.near.2);
        debt = sym idle.debt;
        known = none_in (entry st o).known (λ k i. no_holds k.owner (rule.known o k i).held);
      }
      (λ j _ _. alike_refl (entry st j))

  -- a finding is kept, and no_more is new
  pub join_kept : (f : Finding) (u : ℕ) → In f (entry st u).findings → (u' : ℕ) × In f (get_or joined_to u' spent).findings
  join_kept f u i = dite (ℕ_discrete u o)
      (λ e. (w, subst (λ (v : View). In f v.findings) (sym (jsecond.away w (λ e. apart (sym e)) ∙ jfirst.here)) (in_right f (entry st w).findings (entry st o).findings (subst (λ (k : ℕ). In f (entry st k).findings) e i))))
      (λ n. (
        u,
        subst (λ (v : View). In f v.findings) (sym (jsecond.away u n)) (dite (ℕ_discrete u w)
            (λ e. subst (λ (k : ℕ). In f (get_or left' k spent).findings) (sym e) (subst (λ (v : View). In f v.findings) (sym jfirst.here) (in_left f (entry st w).findings (entry st o).findings (subst (λ (k : ℕ). In f (entry st k).findings) e i))))
            (λ m. subst (λ (v : View). In f v.findings) (sym (jfirst.away u m)) i)),
      ))

  pub join_from : (f : Finding) (u : ℕ) → In f (get_or joined_to u spent).findings → (u' : ℕ) × In f (entry st u').findings
  join_from f = join_each (λ u v. In f v.findings → (u' : ℕ) × In f (entry st u').findings)
      (λ i. ⊎_elim (λ a. (w, a)) (λ b. (o, b)) (in_append f (entry st w).findings (entry st o).findings i))
      (λ i. absurd i)
      (λ j _ _ i. (j, i))

  join_totals : (g : Finding → ℕ) → total g (λ j. get_or joined_to j spent) ≡ total g (entry st)
  unfolding total
  join_totals g =
      let few = rule.few in
      let a = sum_changed 64 (λ j. tally g (entry st j).findings) (λ j. tally g (get_or left' j spent).findings) w (tally g kept.findings) (changed_map (λ (x : View). tally g x.findings) (entry st) (λ j. get_or left' j spent) w kept jfirst) (omega arith) in
      let b = sum_changed 64 (λ j. tally g (get_or left' j spent).findings) (λ j. tally g (get_or joined_to j spent).findings) o 0 (changed_map (λ (x : View). tally g x.findings) (λ j. get_or left' j spent) (λ j. get_or joined_to j spent) o spent jsecond) (omega arith) in
      let c = tally-append g (entry st w).findings (entry st o).findings in
      let d : tally g (get_or left' o spent).findings ≡ tally g (entry st o).findings = ap (λ (v : View). tally g v.findings) (jfirst.away o apart) in
      two_sums _ _ _ _ _ _ _ a b c d

  pub join_keeps : KeepsInvariant sys record { cells = st.cells; holders = st.holders; work = st.work; pending = st.pending; entries = joined_to }
  join_keeps = reseated sys st rule joined_to (let f = rule.few in let a = length-set left' o spent in let b = length-set st.entries w kept in omega arith) join_alike
      record {
        number = join_each (λ u v. v.live ≡ true → v.number ≡ u) (λ l. rule.seated.number w w_live) (λ l. absurd (cc)) (λ j _ _. rule.seated.number j);
        gone = join_each (λ u v. v.live ≡ false → v ≡ spent) (λ l. absurd (cc)) (λ l. refl) (λ j _ _. rule.seated.gone j);
      }
      (λ s d. join_kept (Done s) d.0 d.1)
      (join_from (Pending 0))
      join_totals
