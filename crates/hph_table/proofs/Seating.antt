-- A split and a join of seats keep the table's rule, and the table begins with it.
use Rattle.std.proofs.Common.{◌≡◌, ◌≢◌, ℕ, zero, suc, ◌+◌, ◌-◌, ◌<◌, ◌≤◌, Bool, true, false, List, [], ◌∷◌, ◌++◌, map, length, get_or, set, Option, None, Some, sym, refl, ap, subst, ◌∙◌, inl, inr, ◌⊎◌, ⊎_elim, arith, length-set, length-append, replicate}
use mathlib.Core.Logic.{dite}
use mathlib.Core.Option.{none, some}
use native.Mathlib.Decide.{ℕ_discrete, dec_lt}
use lib.ListN.{get_elem?}
use Rattle.hph_sys.specs.Shape.{Shape}
use Rattle.hph_sys.specs.Typings.{In}
use Rattle.hph_sys.specs.Lawful.{Lawful}
use Rattle.hph_type.specs.Codes.{code}
use Rattle.hph_type.specs.Types.{none as empty}
use Rattle.hph_core.specs.declared.view.View.{View}
use Rattle.hph_core.specs.State.{WorkerState, entry, spent, fresh, HasAll}
use Rattle.hph_core.specs.Effects.{after_split, after_join}
use Rattle.hph_core.specs.Events.{first_state}
use Rattle.hph_core.specs.Rule.{KeepsInvariant}
use Rattle.hph_core.specs.Conditions.{IsIdle}
use Rattle.hph_core.proofs.Lists.{changed_set}
use Rattle.hph_core.proofs.Keeps.{each}
use Rattle.hph_core.proofs.Sums.{in_append}
use Rattle.hph_core.proofs.First.{first_keeps}
use Rattle.hph_core.proofs.Seats as seats
use Rattle.hph_table.specs.declared.NoSlot.{NoSlot}
use Rattle.hph_table.specs.Words.{words_of, seat_at, Extras, Stands, IsFirst}
use Rattle.hph_table.specs.Ids.{TableId}
use Rattle.hph_table.specs.Seats.{AreSeated, SoFar, new_view}
use Rattle.hph_table.proofs.Places.{at_get}
use Rattle.hph_core.proofs.Bits.{bit_sets}
use Rattle.hph_core.proofs.Seats.{snoc_here, snoc_away}
use Rattle.hph_core.specs.State.{member_of}
use Rattle.hph_core.specs.Effects.{word_with, mask}
use Rattle.hph_core.proofs.Keeps.{look}
use Rattle.std.specs.Int.RustNames.{bit_or}
use Rattle.std.proofs.Common.{◌*◌, ◌/◌, ◌%◌, ◌^◌, append_assoc}
use Rattle.std.proofs.lemmas.List.{replicate-append-replicate}
use Rattle.atomic_table.specs.Table as table
use Rattle.atomic_table.specs.Table.{Me, Splits, Joins, opening}

module _ (sys : Shape) (law : Lawful sys) (workers : ℕ) (few : workers ≤ 64) (id : ℕ) (v : View) (live : v.live ≡ true) where
  pub splits : v.number ≡ 0 → v.top + 1 < workers → Splits (Stands sys workers) id v (after_split v) (fresh (v.top + 1))
  splits first room s stands there =
      let st = stands.state in let rule = stands.rule in let x = stands.extras in
      let p = at_get st.entries id v spent (subst (λ (vs : List View). get_elem? vs id ≡ some v) stands.views_are there) in
      let alive : (entry st id).live ≡ true = ap (λ (u : View). u.live) p.1 ∙ live in
      let zero_id : id ≡ 0 = sym (rule.seated.number id alive) ∙ (ap (λ (u : View). u.number) p.1 ∙ first) in
      let zero_is : entry st 0 ≡ v = ap (entry st) (sym zero_id) ∙ p.1 in
      let top : v.top + 1 ≡ length st.entries = ap (λ (u : View). u.top + 1) (sym zero_is) ∙ x.top (ap (λ (u : View). u.live) zero_is ∙ live) in
      let n : ℕ = length st.entries in
      let vs : List View = set st.entries id (after_split (entry st id)) ++ fresh n ∷ [] in
      let long : length vs ≡ n + 1 = (let a = length-append (set st.entries id (after_split (entry st id))) (fresh n ∷ []) in let b = length-set st.entries id (after_split (entry st id)) in omega arith) in
      let each_seat = seats.split_each sys st rule id p.0 alive (omega arith) in
      let lives : (j : ℕ) → j < n → (seat_at vs j).live ≡ (entry st j).live = each_seat (λ j u. j < n → u.live ≡ (entry st j).live) (λ _. refl) (λ l. absurd (omega arith)) (λ j _ _. refl) in
      record {
        state = record { cells = st.cells; holders = st.holders; work = st.work; pending = st.pending; entries = vs };
        words_are = stands.words_are;
        views_are = ap (λ (us : List View). set us id (after_split v) ++ fresh (v.top + 1) ∷ []) stands.views_are
            ∙ (ap (λ (u : View). set st.entries id (after_split u) ++ fresh (v.top + 1) ∷ []) (sym p.1) ∙ ap (λ (k : ℕ). set st.entries id (after_split (entry st id)) ++ fresh k ∷ []) top);
        extras = record {
          count = omega arith;
          top = each_seat (λ j u. j ≡ 0 → u.live ≡ true → u.top + 1 ≡ length vs)
              (λ _ _. let a : (entry st id).top ≡ v.top = ap (λ (u : View). u.top) p.1 in omega arith)
              (λ e _. absurd (let q = p.0 in omega arith))
              (λ j no e _. absurd (no (e ∙ sym zero_id)))
              0 refl;
          joined = each_seat (λ u w. (j : ℕ) → In j w.joined → (j < length vs) × ((seat_at vs j).live ≡ false))
              (λ j i. let o = x.joined id j i in ((let q = o.0 in omega arith), lives j o.0 ∙ o.1))
              (λ j i. absurd i)
              (λ u _ j i. let o = x.joined u j i in ((let q = o.0 in omega arith), lives j o.0 ∙ o.1));
        };
        rule = seats.split_keeps sys st rule id p.0 alive (omega arith);
      }

  module _ (other : ℕ) (w : View) (w_live : w.live ≡ true) (idle : IsIdle w) where
    pub joins : Joins (Stands sys workers) id v other w (after_join v w) spent
    joins s stands there apart there' =
        let st = stands.state in let rule = stands.rule in let x = stands.extras in
        let p = at_get st.entries id v spent (subst (λ (vs : List View). get_elem? vs id ≡ some v) stands.views_are there) in
        let alive : (entry st id).live ≡ true = ap (λ (u : View). u.live) p.1 ∙ live in
        let q0 = at_get (set s.views id (after_join v w)) other w spent there' in
        let moved = changed_set st.entries id (after_join v w) spent p.0 in
        let set_is : get_or (set st.entries id (after_join v w)) other spent ≡ w = ap (λ (us : List View). get_or (set us id (after_join v w)) other spent) (sym stands.views_are) ∙ q0.1 in
        let q : entry st other ≡ w = sym (moved.away other apart) ∙ set_is in
        let o_in : other < length st.entries = (let a = q0.0 in let b = length-set s.views id (after_join v w) in let d : length s.views ≡ length st.entries = ap length stands.views_are in omega arith) in
        let o_live : (entry st other).live ≡ true = ap (λ (u : View). u.live) q ∙ w_live in
        let idle' : IsIdle (entry st other) = subst IsIdle (sym q) idle in
        let vs : List View = set (set st.entries id (after_join (entry st id) (entry st other))) other spent in
        let long : length vs ≡ length st.entries = (let a = length-set (set st.entries id (after_join (entry st id) (entry st other))) other spent in let b = length-set st.entries id (after_join (entry st id) (entry st other)) in omega arith) in
        let each_seat = seats.join_each sys st rule id other apart p.0 o_in alive idle' in
        let dies : (j : ℕ) → (entry st j).live ≡ false → (seat_at vs j).live ≡ false = each_seat (λ j u. (entry st j).live ≡ false → u.live ≡ false) (λ d. absurd (cc)) (λ _. refl) (λ j _ _ d. d) in
        let gone : (seat_at vs other).live ≡ false = each_seat (λ j u. j ≡ other → u.live ≡ false) (λ e. absurd (apart (sym e))) (λ _. refl) (λ j _ no e. absurd (no e)) other refl in
        let keeps : (u j : ℕ) → In j (entry st u).joined → (j < length vs) × ((seat_at vs j).live ≡ false) = λ u j i. let o = x.joined u j i in ((let k = o.0 in omega arith), dies j o.1) in
        record {
          state = record { cells = st.cells; holders = st.holders; work = st.work; pending = st.pending; entries = vs };
          words_are = stands.words_are;
          views_are = ap (λ (us : List View). set (set us id (after_join v w)) other spent) stands.views_are
              ∙ ap (λ (u : View). set (set st.entries id u) other spent) (ap (λ (a : View). after_join a w) (sym p.1) ∙ ap (after_join (entry st id)) (sym q));
          extras = record {
            count = let c = x.count in omega arith;
            top = each_seat (λ j u. j ≡ 0 → u.live ≡ true → u.top + 1 ≡ length vs)
                (λ e l. let t = x.top (ap (λ (k : ℕ). (entry st k).live) (sym e) ∙ alive) in let a : (entry st id).top ≡ (entry st 0).top = ap (λ (k : ℕ). (entry st k).top) e in omega arith)
                (λ e l. absurd (cc))
                (λ j no no' e l. let t = x.top (ap (λ (k : ℕ). (entry st k).live) (sym e) ∙ l) in let a : (entry st j).top ≡ (entry st 0).top = ap (λ (k : ℕ). (entry st k).top) e in omega arith)
                0 refl;
            joined = each_seat (λ u a. (j : ℕ) → In j a.joined → (j < length vs) × ((seat_at vs j).live ≡ false))
                (λ j i. ⊎_elim (keeps id j)
                (λ r. ⊎_elim (λ e. let is : j ≡ other = e ∙ rule.seated.number other o_live in ((omega arith), subst (λ (k : ℕ). (seat_at vs k).live ≡ false) (sym is) gone)) (keeps other j) r)
                (in_append j (entry st id).joined ((entry st other).number ∷ (entry st other).joined) i))
                (λ j i. absurd i)
                (λ u _ _ j i. keeps u j i);
          };
          rule = seats.join_keeps sys st rule id other apart p.0 o_in alive idle';
        }

codes_of : (n : ℕ) → map code (replicate n empty) ≡ replicate n 0
unfolding code
codes_of zero = refl
codes_of (suc n) = ap (λ (cs : List ℕ). 0 ∷ cs) (codes_of n)

no_joined : (u j : ℕ) → ¬ In j (seat_at (fresh 0 ∷ []) u).joined
no_joined zero j i = i
no_joined (suc u) j i = i

-- the table at the start
pub opens : (sys : Shape) (law : Lawful sys) (workers : ℕ) (ws : List ℕ) → 0 < workers → IsFirst sys.scopes sys.cells ws → Stands sys workers (opening {S = NoSlot} ws [] (fresh 0))
opens sys law workers ws many first = record {
  state = first_state sys first.0;
  words_are = first.2 ∙ ap (λ (cs : List ℕ). first.0 ++ (replicate sys.scopes 0 ++ (cs ++ sys.scopes ∷ []))) (sym (codes_of sys.cells));
  views_are = refl;
  extras = record { count = omega arith; top = λ _. refl; joined = λ u j i. absurd (no_joined u j i) };
  rule = first_keeps sys law first.0 first.1;
}

abbrev pair : TableId → View → TableId × View
pair id v = (id, v)

any_default : {A : Type 0} → (xs : List A) (i : ℕ) (a b : A) → i < length xs → get_or xs i a ≡ get_or xs i b
any_default [] i a b h = absurd (omega arith)
any_default (x ∷ xs) zero a b h = refl
any_default (x ∷ xs) (suc i) a b h = any_default xs i a b (omega arith)

-- the work set so far
pub record SetBelow (scopes s : ℕ) (work : List ℕ) : Type 0 where
  pub len : length work ≡ (scopes + 63) / 64
  pub has : (j : ℕ) → j < s → member_of work j ≡ 1
  pub has_not : (j : ℕ) → s ≤ j → member_of work j ≡ 0

pub set_more : (scopes s : ℕ) (work : List ℕ) (x : ℕ) → s < scopes → SetBelow scopes s work → x ≡ get_or work (s / 64) x → SetBelow scopes (s + 1) (set work (s / 64) (bit_or x (mask s)))
set_more scopes s work x h was e =
    let inside : s / 64 < length work = (let l = was.len in omega arith) in
    let x_is : x ≡ get_or work (s / 64) 0 = e ∙ any_default work (s / 64) x 0 inside in
    let c = bit_sets work s inside in
    let work' : List ℕ = set work (s / 64) (word_with (get_or work (s / 64) 0) s) in
    let now : SetBelow scopes (s + 1) work' = record {
      len = length-set work (s / 64) (word_with (get_or work (s / 64) 0) s) ∙ was.len;
      has = λ j l. ⊎_elim (λ y. y.1) (λ n. n.1 ∙ was.has j (let q = n.0 in omega arith)) (look (member_of work) (member_of work') s 1 c j);
      has_not = λ j l. ⊎_elim (λ y. absurd (let q = y.0 in omega arith)) (λ n. n.1 ∙ was.has_not j (omega arith)) (look (member_of work) (member_of work') s 1 c j);
    } in
    subst (λ (n : ℕ). SetBelow scopes (s + 1) (set work (s / 64) (bit_or n (mask s)))) (sym x_is) now

pub first_is : (scopes cells : ℕ) (work ws : List ℕ) → HasAll scopes work → ws ≡ (work ++ replicate (scopes + cells) 0) ++ scopes ∷ [] → IsFirst scopes cells ws
first_is scopes cells work ws all e = (
  work,
  all,
  e ∙ (append_assoc work (replicate (scopes + cells) 0) (scopes ∷ [])
      ∙ ap (λ (r : List ℕ). work ++ r) (ap (λ (r : List ℕ). r ++ scopes ∷ []) (sym (replicate-append-replicate scopes cells 0)) ∙ append_assoc (replicate scopes 0) (replicate cells 0) (scopes ∷ []))),
)

pub so_far_more : (id : TableId) (n : ℕ) (first first' next : TableId × View) (others : List (TableId × View)) → 0 < n → SoFar id n first others → first' ≡ (id, after_split first.1) → next ≡ (id, fresh n) → SoFar id (n + 1) first' (others ++ next ∷ [])
so_far_more id n first first' next others many was e f =
    let top : first.1.top + 1 ≡ n = (let t : first.1.top ≡ n - 1 = ap (λ (p : TableId × View). p.1.top) was.first_is in omega arith) in
    let long = was.len in record {
      first_is = e ∙ (ap (λ (p : TableId × View). pair id (after_split p.1)) was.first_is ∙ ap (λ (k : ℕ). pair id (record (fresh 0) { top = k })) (let z : n - 1 + 1 ≡ n + 1 - 1 = omega arith in z));
      len = (let a = length-append others (next ∷ []) in omega arith);
      each = λ k l. dite (ℕ_discrete k (length others))
          (λ y. ap (λ (i : ℕ). get_or (others ++ next ∷ []) i (id, spent)) y ∙ (snoc_here others next (id, spent) ∙ (f ∙ ap (λ (i : ℕ). pair id (fresh i)) (let z : n ≡ suc k = omega arith in z))))
          (λ y. snoc_away others next (id, spent) k y ∙ was.each k (omega arith));
    }

seated_each : (id : TableId) (n : ℕ) (first : TableId × View) (others : List (TableId × View)) → SoFar id n first others → (k : ℕ) → k < n → get_or (first ∷ others) k (id, spent) ≡ (id, new_view n k)
seated_each id n first others was zero l = was.first_is
seated_each id n first others was (suc k) l = was.each k (omega arith)

pub seated_all : (id : TableId) (n : ℕ) (first : TableId × View) (others : List (TableId × View)) → 0 < n → SoFar id n first others → AreSeated id n (first ∷ others)
seated_all id n first others many was = record { len = (let l = was.len in omega arith); each = seated_each id n first others was }
