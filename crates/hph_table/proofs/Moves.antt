-- Each step of the table keeps its rule, and tells what the machine's event does.
use Rattle.std.proofs.Common.{◌≡◌, ◌≢◌, ℕ, zero, suc, ◌+◌, ◌-◌, ◌*◌, ◌/◌, ◌%◌, ◌^◌, ◌<◌, ◌≤◌, eqb, Bool, true, false, List, [], ◌∷◌, ◌++◌, map, length, get_or, set, Option, None, Some, sym, refl, ap, subst, ◌∙◌, inl, inr, ◌⊎◌, ⊎_elim, arith, length-set, eq-eqb, ne_eqb, bit_and, lit<}
use Rattle.std.specs.Int.{bit_at, bit_not}
use Rattle.std.specs.Int.RustNames.{bit_or}
use Rattle.std.proofs.lemmas.Nat.{div-add-mod'}
use mathlib.Core.Logic.{dite}
use mathlib.Core.Option.{none, some}
use native.Mathlib.Decide.{ℕ_discrete, dec_lt}
use lib.ListN.{get_elem?}
use prog.Atomic.{either}
use Rattle.hph_type.specs.Types.{PhpType}
use Rattle.hph_type.specs.Classes.{Parents}
use Rattle.hph_type.specs.Order.{Leq, join}
use Rattle.hph_type.specs.Codes.{code}
use Rattle.hph_sys.specs.Shape.{Shape, asked, asked_in}
use Rattle.hph_sys.specs.Typings.{In, at}
use Rattle.hph_sys.specs.Lawful.{Lawful}
use Rattle.hph_sys.specs.Least.{IsMet}
use Rattle.hph_type.specs.Order.{IsOf}
use Rattle.hph_core.specs.declared.view.View.{View}
use Rattle.hph_core.specs.declared.view.Known.{Known}
use Rattle.hph_core.specs.Effects as m
use Rattle.hph_core.specs.State.{WorkerState, entry, holder, member, member_of, spent, work_word}
use Rattle.hph_core.specs.Effects.{know, held_word, word_with, word_without, after_peek, after_take, after_mark, after_put_back, after_try, after_release, after_read, after_raise, after_add, after_pay, after_done, after_pending}
use Rattle.hph_core.specs.Rule.{KeepsInvariant, weight, hand_weight, one_if, sum_below, load}
use Rattle.hph_core.specs.Conditions.{HoldsLook, MayRaise}
use Rattle.hph_core.proofs.EventsKeep as ev
use Rattle.hph_core.proofs.EventsKeep.{got_is, busy_is, took_is, missed_is, get_past, word_got, word_busy}
use Rattle.hph_core.proofs.Sums.{sum_bound, load_bound}
use Rattle.hph_core.proofs.Bits.{member_small}
use Rattle.hph_table.specs.declared.NoSlot.{NoSlot}
use Rattle.hph_table.specs.Words.{words_of, Extras, Stands}
use Rattle.hph_table.specs.Tells.{Peeks, Takes, Marks, PutsBack, Tries, Releases, Reads, Raises, Adds, Pays, Finishes, Waits}
use Rattle.hph_table.specs.Holds as holds
use Rattle.hph_table.specs.Views.{KnowsCell, Sees, RaisesSeen, FinishesSeen}
use Rattle.hph_table.proofs.Codes as codes
use Rattle.hph_table.proofs.Places.{at_get, set_get, at_work, set_work, at_holder, set_holder, at_cell, set_cell, at_pending, set_pending, extras_set}
use Rattle.atomic_table.specs.Table as table
use Rattle.atomic_table.specs.Table.{Me, Step, step, keeps, stepped, Allows}

-- what was told, at the number itself
pub retell : (F : ℕ → View) (me : Me NoSlot View) (rest : List (ℕ × NoSlot)) (a b : ℕ) → a ≡ b → (let x : Me NoSlot View = (F a, rest) in me ≡ x) → (let x : Me NoSlot View = (F b, rest) in me ≡ x)
retell F me rest a b e h = subst (λ (k : ℕ). let x : Me NoSlot View = (F k, rest) in me ≡ x) e h

pub at_type : (tree : Parents) (F : PhpType → View) (rest : List (ℕ × NoSlot)) (t : PhpType) (n : ℕ) → n ≡ code t → IsOf tree t → (let x : Me NoSlot View = (F t, rest) in x) ≡ (let y : Me NoSlot View = (F (codes.decode n), rest) in y)
at_type tree F rest t n e typed = let pair : PhpType → Me NoSlot View = λ u. (F u, rest) in ap pair (sym (codes.of_word tree t n e typed))

pub at_raise : (tree : Parents) (F : PhpType → View) (rest : List (ℕ × NoSlot)) (t : PhpType) → IsOf tree t → (let x : Me NoSlot View = (F (codes.decode (code t)), rest) in x) ≡ (let y : Me NoSlot View = (F t, rest) in y)
at_raise tree F rest t h = let pair : PhpType → Me NoSlot View = λ u. (F u, rest) in ap pair (codes.of_code_code tree t h)

-- what a try and a take leave of a view
module _ (v : View) where
  try_is : (P : View → Type 0) (d n : ℕ) → (n ≡ 0 → P (ev.got v d)) → (n ≢ 0 → P (ev.busy v d n)) → P (after_try v d n)
  try_is P d n a b = dite (ℕ_discrete n 0) (λ e. subst P (sym (got_is v d n e)) (a e)) (λ e. subst P (sym (busy_is v d n e)) (b e))

  take_is : (P : View → Type 0) (s bit : ℕ) → (bit ≡ 1 → P (ev.took v s)) → (bit ≢ 1 → P (m.note v (ev.missed s))) → P (after_take v s bit)
  take_is P s bit a b = dite (ℕ_discrete bit 1) (λ e. subst P (sym (took_is v s bit e)) (a e)) (λ e. subst P (sym (missed_is v s bit e)) (b e))

  pub try_number : (d n : ℕ) → (after_try v d n).number ≡ v.number
  try_number d n = try_is (λ x. x.number ≡ v.number) d n (λ _. refl) (λ _. refl)

  pub take_number : (s bit : ℕ) → (after_take v s bit).number ≡ v.number
  take_number s bit = take_is (λ x. x.number ≡ v.number) s bit (λ _. refl) (λ _. refl)

  pub take_debt : (s bit : ℕ) → v.debt ≡ (after_take v s bit).debt
  take_debt s bit = take_is (λ x. v.debt ≡ x.debt) s bit (λ _. refl) (λ _. refl)

  pub try_debt : (d n : ℕ) → v.debt ≡ (after_try v d n).debt
  try_debt d n = try_is (λ x. v.debt ≡ x.debt) d n (λ _. refl) (λ _. refl)

-- a view keeps what only the table uses
pub record Same (a b : View) : Type 0 where
  pub live : b.live ≡ a.live
  pub top : b.top ≡ a.top
  pub joined : b.joined ≡ a.joined

same : (v : View) → Same v v
same v = record { live = refl; top = refl; joined = refl }

-- a holder is a seat of the table
pub holder_small : (sys : Shape) (st : WorkerState) → KeepsInvariant sys st → (d : ℕ) → holder st d ≤ 64
holder_small sys st rule d = dite (ℕ_discrete (holder st d) 0) (λ e. omega arith) (λ n.
    let h : ℕ = holder st d - 1 in
    let e : holder st d ≡ h + 1 = omega arith in
    let has : In d (entry st h).holds = rule.held.hold h d e in
    let few = rule.few in
    dite (dec_lt h (length st.entries)) (λ lt. omega arith) (λ ge. absurd (subst (λ (v : View). In d v.holds) (get_past st.entries h spent (omega arith)) has)))

pub pending_small : (sys : Shape) (st : WorkerState) → KeepsInvariant sys st → st.pending ≤ sys.scopes + 128
pending_small sys st rule =
    let a : sum_below sys.scopes (member st) ≤ sys.scopes * 1 = sum_bound sys.scopes 1 (member st) (λ j _. let b = member_small st.work j in omega arith) in
    let b = load_bound (entry st) in
    let c = rule.owed in
    omega arith

abbrev asked_pairs : Parents → List (ℕ × PhpType) → ℕ → PhpType
asked_pairs classes ps c = asked_in classes ps c

added : (n p k : ℕ) → n ≡ p → p ≤ k + 128 → k < 2 ^ 32 → (n + 1) % 2 ^ 64 ≡ p + 1
added n p k e h f = omega arith

dropped : (n p k : ℕ) → n ≡ p → p ≤ k + 128 → k < 2 ^ 32 → 0 < p → (n + (2 ^ 64 - 1)) % 2 ^ 64 ≡ p - 1
dropped n p k e h f s = omega arith

word_bit : (work : List ℕ) (j k : ℕ) → k < 64 → bit_at (get_or work j 0) k ≡ 1 → member_of work (64 * j + k) ≡ 1
word_bit work j k h bit =
    let a = div-add-mod' (64 * j + k) 64 in
    let q : (64 * j + k) / 64 ≡ j = omega arith in let r : (64 * j + k) % 64 ≡ k = omega arith in
    ap (λ (i : ℕ). bit_at (get_or work i 0) ((64 * j + k) % 64)) q ∙ (ap (λ (i : ℕ). bit_at (get_or work j 0) i) r ∙ bit)

module _ (sys : Shape) (law : Lawful sys) (workers slots id : ℕ) (me : Me NoSlot View) (live : me.0.live ≡ true) where
  abbrev Holds : table.State NoSlot View → Type 0
  Holds = Stands sys workers

  module _ (s : table.State NoSlot View) (stands : Stands sys workers s) (there : get_elem? s.views id ≡ some me.0) where
    abbrev st : WorkerState
    st = stands.state

    place : (id < length st.entries) × (entry st id ≡ me.0)
    place = at_get st.entries id me.0 spent (subst (λ (vs : List View). get_elem? vs id ≡ some me.0) stands.views_are there)

    alive : (entry st id).live ≡ true
    alive = ap (λ (v : View). v.live) place.1 ∙ live

    found : (i : ℕ) → get_or s.words i 0 ≡ get_or (words_of st) i 0
    found i = ap (λ (ws : List ℕ). get_or ws i 0) stands.words_are

    -- the state after is st', and the seat's view v
    build : (i n : ℕ) (v : View) (st' : WorkerState) → set (words_of st) i n ≡ words_of st' → set st.entries id v ≡ st'.entries → Same (entry st id) v → KeepsInvariant sys st' → Holds (stepped s i n id me.1 v keeps)
    build i n v st' words entries same rule' = record {
      state = st';
      words_are = ap (λ (ws : List ℕ). set ws i n) stands.words_are ∙ words;
      views_are = ap (λ (vs : List View). set vs id v) stands.views_are ∙ entries;
      extras = subst (Extras workers) entries (extras_set workers st.entries id v place.0 stands.extras same.live same.top same.joined);
      rule = rule';
    }

    -- the same where the word is only read
    build_read : (i : ℕ) (v : View) (p : ℕ) → st.pending ≡ p → Same (entry st id) v → KeepsInvariant sys (m.acted st id v) → Holds (stepped s i (get_or s.words i 0) id me.1 v keeps)
    build_read i v p same_p same rule' = build i (get_or s.words i 0) v (m.acted st id v) (ap (λ (n : ℕ). set (words_of st) i n) (found i) ∙ set_get (words_of st) i 0) refl same rule'

    told : (v w : View) → v ≡ w → (let x : Me NoSlot View = (v, me.1) in x) ≡ (let y : Me NoSlot View = (w, me.1) in y)
    told v w e = let paired : View → Me NoSlot View = λ u. (u, me.1) in ap paired e

  pub peeks : (stp : Step NoSlot) (j : ℕ) → j < (sys.scopes + 63) / 64 → Allows Holds slots id me j (λ n. n) (Peeks sys j stp me)
  peeks stp j word_in s stands homes there small =
      let st = stands.state in let rule = stands.rule in
      let p = place s stands there in
      let inside : j < length st.work = let h = rule.work in omega arith in
      let n : ℕ = get_or s.words j 0 in
      let is : n ≡ work_word st j = found s stands there j ∙ at_work st j inside in
      let v : View = after_peek (entry st id) j (work_word st j) in (
        v,
        keeps,
        tt,
        build_read s stands there j v st.pending refl record { live = refl; top = refl; joined = refl } (ev.peek_keeps sys law st rule id p.0 (alive s stands there) j),
        (
          told s stands there v (after_peek me.0 j n) (ap (λ (u : View). after_peek u j (work_word st j)) p.1 ∙ ap (after_peek me.0 j) (sym is)),
          (λ k h bit. rule.members (64 * j + k) (word_bit st.work j k h (ap (λ (x : ℕ). bit_at x k) (sym is) ∙ bit))),
        ),
      )

  module _ (sc : ℕ) (scope_in : sc < sys.scopes) where
    bit_is : (s : table.State NoSlot View) (stands : Holds s) (there : get_elem? s.views id ≡ some me.0) → bit_at (get_or s.words (sc / 64) 0) (sc % 64) ≡ member stands.state sc
    bit_is s stands there = ap (λ (n : ℕ). bit_at n (sc % 64)) (found s stands there (sc / 64) ∙ at_work stands.state (sc / 64) (let h = stands.rule.work in omega arith))

    -- a store to a work word
    build_work : (s : table.State NoSlot View) (stands : Holds s) (there : get_elem? s.views id ≡ some me.0) (v : View) (F : ℕ → ℕ) → Same (entry stands.state id) v
        → KeepsInvariant sys (m.worded (m.acted stands.state id v) sc (F (work_word stands.state (sc / 64)))) → Holds (stepped s (sc / 64) (F (get_or s.words (sc / 64) 0)) id me.1 v keeps)
    build_work s stands there v F same rule' =
        let st = stands.state in
        let inside : sc / 64 < length st.work = let h = stands.rule.work in omega arith in
        build s stands there (sc / 64) (F (get_or s.words (sc / 64) 0)) v (m.worded (m.acted st id v) sc (F (work_word st (sc / 64))))
        (ap (λ (n : ℕ). set (words_of st) (sc / 64) (F n)) (found s stands there (sc / 64) ∙ at_work st (sc / 64) inside) ∙ set_work st (sc / 64) (F (work_word st (sc / 64))) inside)
        refl same rule'

    pub takes : (stp : Step NoSlot) → me.0.hand ≡ None → me.0.holds ≡ [] → Allows Holds slots id me (sc / 64) (λ n. word_without n sc) (Takes sc stp me)
    takes stp idle free s stands homes there small =
        let st = stands.state in let rule = stands.rule in let p = place s stands there in
        let bit = bit_is s stands there in
        let v : View = after_take (entry st id) sc (member st sc) in (
          v,
          keeps,
          tt,
          build_work s stands there v (λ n. word_without n sc)
              (take_is (entry st id) (Same (entry st id)) sc (member st sc) (λ _. record { live = refl; top = refl; joined = refl }) (λ _. record { live = refl; top = refl; joined = refl }))
              (ev.take_keeps sys law st rule id p.0 (alive s stands there) sc scope_in (ap (λ (u : View). u.hand) p.1 ∙ idle) (λ d i. subst (In d) (ap (λ (u : View). u.holds) p.1 ∙ free) i)),
          told s stands there v (after_take me.0 sc (bit_at (get_or s.words (sc / 64) 0) (sc % 64))) (ap (λ (u : View). after_take u sc (member st sc)) p.1 ∙ ap (after_take me.0 sc) (sym bit)),
        )

    pub marks : (stp : Step NoSlot) → me.0.debt ≡ true → ((d : ℕ) × In d (sys.look sc) × In d me.0.holds) → Allows Holds slots id me (sc / 64) (λ n. word_with n sc) (Marks sc stp me)
    marks stp owing near s stands homes there small =
        let st = stands.state in let rule = stands.rule in let p = place s stands there in
        let bit = bit_is s stands there in
        let v : View = after_mark (entry st id) sc (member st sc) in (
          v,
          keeps,
          tt,
          build_work s stands there v (λ n. word_with n sc) record { live = refl; top = refl; joined = refl }
              (ev.mark_keeps sys law st rule id p.0 (alive s stands there) sc scope_in (ap (λ (u : View). u.debt) p.1 ∙ owing) (near.0, near.1, subst (In near.0) (sym (ap (λ (u : View). u.holds) p.1)) near.2)),
          told s stands there v (after_mark me.0 sc (bit_at (get_or s.words (sc / 64) 0) (sc % 64))) (ap (λ (u : View). after_mark u sc (member st sc)) p.1 ∙ ap (after_mark me.0 sc) (sym bit)),
        )

    pub puts_back : (stp : Step NoSlot) → me.0.hand ≡ Some sc → me.0.debt ≡ false → Allows Holds slots id me (sc / 64) (λ n. word_with n sc) (PutsBack sc stp me)
    puts_back stp hand clear s stands homes there small =
        let st = stands.state in let rule = stands.rule in let p = place s stands there in
        let bit = bit_is s stands there in
        let v : View = after_put_back (entry st id) sc (member st sc) in (
          v,
          keeps,
          tt,
          build_work s stands there v (λ n. word_with n sc) record { live = refl; top = refl; joined = refl }
              (ev.put_back_keeps sys law st rule id p.0 (alive s stands there) sc scope_in (ap (λ (u : View). u.hand) p.1 ∙ hand) (ap (λ (u : View). u.debt) p.1 ∙ clear)),
          told s stands there v (after_put_back me.0 sc (bit_at (get_or s.words (sc / 64) 0) (sc % 64))) (ap (λ (u : View). after_put_back u sc (member st sc)) p.1 ∙ ap (after_put_back me.0 sc) (sym bit)),
        )

    module _ (stp : Step NoSlot) (d : ℕ) (d_is : d ≡ sc) where
      pub takes_as : me.0.hand ≡ None → me.0.holds ≡ [] → Allows Holds slots id me (sc / 64) (λ n. word_without n sc) (Takes d stp me)
      takes_as a b = subst (λ (k : ℕ). Allows Holds slots id me (sc / 64) (λ n. word_without n sc) (Takes k stp me)) (sym d_is) (takes stp a b)

      pub marks_as : me.0.debt ≡ true → ((x : ℕ) × In x (sys.look sc) × In x me.0.holds) → Allows Holds slots id me (sc / 64) (λ n. word_with n sc) (Marks d stp me)
      marks_as a b = subst (λ (k : ℕ). Allows Holds slots id me (sc / 64) (λ n. word_with n sc) (Marks k stp me)) (sym d_is) (marks stp a b)

      pub puts_back_as : me.0.hand ≡ Some sc → me.0.debt ≡ false → Allows Holds slots id me (sc / 64) (λ n. word_with n sc) (PutsBack d stp me)
      puts_back_as a b = subst (λ (k : ℕ). Allows Holds slots id me (sc / 64) (λ n. word_with n sc) (PutsBack k stp me)) (sym d_is) (puts_back stp a b)

    module _ (i : ℕ) (i_is : i ≡ (sys.scopes + 63) / 64 + sc) where
      holder_is : (s : table.State NoSlot View) (stands : Holds s) (there : get_elem? s.views id ≡ some me.0) → get_or s.words i 0 ≡ holder stands.state sc
      holder_is s stands there = found s stands there i ∙ at_holder stands.state i sc (let h = stands.rule.work in omega arith) (let h = stands.rule.holders in omega arith)

      build_holder : (s : table.State NoSlot View) (stands : Holds s) (there : get_elem? s.views id ≡ some me.0) (v : View) (n x : ℕ) → n ≡ x → Same (entry stands.state id) v
          → KeepsInvariant sys (m.held_as (m.acted stands.state id v) sc x) → Holds (stepped s i n id me.1 v keeps)
      build_holder s stands there v n x e same rule' =
          let st = stands.state in
          build s stands there i n v (m.held_as (m.acted st id v) sc x)
          (ap (set (words_of st) i) e ∙ set_holder st i sc x (let h = stands.rule.work in omega arith) (let h = stands.rule.holders in omega arith))
          refl same rule'

      pub tries : (stp : Step NoSlot) → ¬ In sc me.0.holds → Allows Holds slots id me i (λ n. either (eqb n 0) (me.0.number + 1) n) (Tries sc stp me)
      tries stp free s stands homes there small =
          let st = stands.state in let rule = stands.rule in let p = place s stands there in
          let is = holder_is s stands there in
          let n : ℕ = get_or s.words i 0 in
          let number : (entry st id).number ≡ me.0.number = ap (λ (v : View). v.number) p.1 in
          let v : View = after_try (entry st id) sc (holder st sc) in (
            v,
            keeps,
            tt,
            build_holder s stands there v (either (eqb n 0) (me.0.number + 1) n) (held_word (entry st id) (holder st sc))
                (ap (λ (x : ℕ). either (eqb x 0) (me.0.number + 1) x) is ∙ ap (λ (x : ℕ). either (eqb (holder st sc) 0) (x + 1) (holder st sc)) (sym number))
                (try_is (entry st id) (Same (entry st id)) sc (holder st sc) (λ _. record { live = refl; top = refl; joined = refl }) (λ _. record { live = refl; top = refl; joined = refl }))
                (ev.try_keeps sys law st rule id p.0 (alive s stands there) sc scope_in),
            (
              told s stands there v (after_try me.0 sc n) (ap (λ (u : View). after_try u sc (holder st sc)) p.1 ∙ ap (after_try me.0 sc) (sym is)),
              (let h = holder_small sys st rule sc in omega arith),
              (λ e. free (subst (λ (u : View). In sc u.holds) p.1 (rule.held.hold id sc (sym is ∙ (e ∙ ap (λ (x : ℕ). x + 1) (sym number ∙ rule.seated.number id (alive s stands there))))))),
            ),
          )

      pub releases : (stp : Step NoSlot) → In sc me.0.holds → Allows Holds slots id me i (λ _. 0) (λ _. Releases sc stp me 0)
      releases stp has s stands homes there small =
          let st = stands.state in let rule = stands.rule in let p = place s stands there in
          let v : View = after_release (entry st id) sc in (
            v,
            keeps,
            tt,
            build_holder s stands there v 0 0 refl record { live = refl; top = refl; joined = refl } (ev.release_keeps sys law st rule id p.0 (alive s stands there) sc scope_in (subst (λ (u : View). In sc u.holds) (sym p.1) has)),
            told s stands there v (after_release me.0 sc) (ap (λ (u : View). after_release u sc) p.1),
          )

      module _ (stp : Step NoSlot) (d : ℕ) (d_is : d ≡ sc) where
        pub tries_as : ¬ In sc me.0.holds → Allows Holds slots id me i (λ n. either (eqb n 0) (me.0.number + 1) n) (Tries d stp me)
        tries_as a = subst (λ (k : ℕ). Allows Holds slots id me i (λ n. either (eqb n 0) (me.0.number + 1) n) (Tries k stp me)) (sym d_is) (tries stp a)

        pub releases_as : In sc me.0.holds → Allows Holds slots id me i (λ _. 0) (λ _. Releases d stp me 0)
        releases_as a = subst (λ (k : ℕ). Allows Holds slots id me i (λ _. 0) (λ _. Releases k stp me 0)) (sym d_is) (releases stp a)

  module _ (c : ℕ) (cell_in : c < sys.cells) (has : In (sys.owner c) me.0.holds) (i : ℕ) (i_is : i ≡ (sys.scopes + 63) / 64 + (sys.scopes + c)) where
    cell_place : (s : table.State NoSlot View) (stands : Holds s) → i ≡ length stands.state.work + (length stands.state.holders + c)
    cell_place s stands = let a = stands.rule.work in let b = stands.rule.holders in omega arith

    pub reads : (stp : Step NoSlot) → Allows Holds slots id me i (λ n. n) (Reads sys c stp me)
    reads stp s stands homes there small =
        let st = stands.state in let rule = stands.rule in let p = place s stands there in
        let t : PhpType = at st.cells c in
        let is : get_or s.words i 0 ≡ code t = found s stands there i ∙ at_cell st i c (cell_place s stands) (let h = rule.typing.len in omega arith) in
        let v : View = after_read (entry st id) c (sys.owner c) t in (
          v,
          keeps,
          tt,
          build_read s stands there i v st.pending refl record { live = refl; top = refl; joined = refl } (ev.read_keeps sys law st rule id p.0 (alive s stands there) c (sys.owner c) cell_in refl (subst (λ (u : View). In (sys.owner c) u.holds) (sym p.1) has)),
          (t, is, rule.typing.types c, told s stands there v (after_read me.0 c (sys.owner c) t) (ap (λ (u : View). after_read u c (sys.owner c) t) p.1)),
        )

    pub reads_as : (stp : Step NoSlot) (d : ℕ) → d ≡ c → Allows Holds slots id me i (λ n. n) (Reads sys d stp me)
    reads_as stp d e = subst (λ (k : ℕ). Allows Holds slots id me i (λ n. n) (Reads sys k stp me)) (sym e) (reads stp)

  -- what the seat knows is what the cells are
  module _ (s : table.State NoSlot View) (stands : Holds s) (there : get_elem? s.views id ≡ some me.0) (K : List PhpType) where
    cell_known : (c : ℕ) → KnowsCell sys me.0 K c → (at stands.state.cells c ≡ at K c) × (c < sys.cells)
    cell_known c i = let o = stands.rule.known id (know c (sys.owner c) (at K c)) (subst (λ (u : View). In (know c (sys.owner c) (at K c)) u.known) (sym (place s stands there).1) i) in (o.type_is, o.cell_in)

    contrib_known : (sc : ℕ) → sc < sys.scopes → Sees sys me.0 sc K → sys.contrib sc stands.state.cells ≡ sys.contrib sc K
    contrib_known sc h sees = law.local sc stands.state.cells K h stands.rule.typing sees.typing (λ c l r. (cell_known c (sees.reads c l r)).0)

    look_held : (sc : ℕ) → HoldsLook sys me.0 sc → HoldsLook sys (entry stands.state id) sc
    look_held sc look d i = subst (λ (u : View). In d u.holds) (sym (place s stands there).1) (look d i)

    hand_held : (sc : ℕ) → me.0.hand ≡ Some sc → (entry stands.state id).hand ≡ Some sc
    hand_held sc e = ap (λ (u : View). u.hand) (place s stands there).1 ∙ e

    may_raise : (sc c : ℕ) (t : PhpType) → RaisesSeen sys me.0 sc c t K → MayRaise sys stands.state.cells (entry stands.state id) sc c (sys.owner c) t
    unfolding asked
    may_raise sc c t r =
        let k = cell_known c r.cell in
        let same = contrib_known sc (stands.rule.hands id sc (hand_held sc r.hand)) r.sees in
        let u = r.some in
        record {
          hand = hand_held sc r.hand;
          look = look_held sc r.look;
          cell_in = k.1;
          owner_is = refl;
          held = subst (λ (x : View). In (sys.owner c) x.holds) (sym (place s stands there).1) r.held;
          marked = λ q i. subst (λ (x : View). In q x.marks) (sym (place s stands there).1) (r.marked q i);
          some = (u.0, subst (λ (ps : List (ℕ × PhpType)). Leq sys.classes u.0 (asked_pairs sys.classes ps c)) (sym same) u.1, u.2 ∙ ap (λ (x : PhpType). join sys.classes x u.0) (sym k.0));
          rises = λ e. r.rises (e ∙ k.0);
          typed = r.typed;
        }

    is_met : (sc : ℕ) → FinishesSeen sys me.0 sc K → IsMet sys stands.state.cells sc
    is_met sc f p i =
        let same = contrib_known sc (stands.rule.hands id sc (hand_held sc f.hand)) f.sees in
        let x = f.met p (subst (In p) same i) in
        subst (Leq sys.classes p.1) (sym (cell_known p.0 x.0).0) x.1

  pub raises : (stp : Step NoSlot) (sc c : ℕ) (t : PhpType) (K : List PhpType) → RaisesSeen sys me.0 sc c t K → (i : ℕ) → i ≡ (sys.scopes + 63) / 64 + (sys.scopes + c) → Allows Holds slots id me i (λ _. code t) (λ _. Raises c (sys.owner c) t stp me 0)
  raises stp sc c t K seen i i_is s stands homes there small =
      let st = stands.state in let rule = stands.rule in let p = place s stands there in
      let may = may_raise s stands there K sc c t seen in
      let v : View = after_raise (entry st id) c (sys.owner c) t in (
        v,
        keeps,
        tt,
        build s stands there i (code t) v (m.raise st id c (sys.owner c) t)
            (set_cell st i c t (let a = rule.work in let b = rule.holders in omega arith) (let h = rule.typing.len in let k = may.cell_in in omega arith))
            refl record { live = refl; top = refl; joined = refl } (ev.raise_keeps sys law st rule id p.0 (alive s stands there) sc c (sys.owner c) t may),
        told s stands there v (after_raise me.0 c (sys.owner c) t) (ap (λ (u : View). after_raise u c (sys.owner c) t) p.1),
      )

  pub raises_as : (stp : Step NoSlot) (sc c : ℕ) (t : PhpType) (K : List PhpType) → RaisesSeen sys me.0 sc c t K → (i : ℕ) → i ≡ (sys.scopes + 63) / 64 + (sys.scopes + c) → (d : ℕ) → d ≡ c → (u : PhpType) → u ≡ t
      → Allows Holds slots id me i (λ _. code t) (λ _. Raises d (sys.owner d) u stp me (code t))
  raises_as stp sc c t K seen i i_is d e u f = subst (λ (k : ℕ). Allows Holds slots id me i (λ _. code t) (λ _. Raises k (sys.owner k) u stp me (code t))) (sym e)
      (subst (λ (k : PhpType). Allows Holds slots id me i (λ _. code t) (λ _. Raises c (sys.owner c) k stp me (code t))) (sym f) (raises stp sc c t K seen i i_is))

  module _ (i : ℕ) (i_is : i ≡ (sys.scopes + 63) / 64 + (sys.scopes + sys.cells)) (fits : sys.scopes < 2 ^ 32) where
    pending_place : (s : table.State NoSlot View) (stands : Holds s) → i ≡ length stands.state.work + (length stands.state.holders + length stands.state.cells)
    pending_place s stands = let a = stands.rule.work in let b = stands.rule.holders in let d = stands.rule.typing.len in omega arith

    pending_is : (s : table.State NoSlot View) (stands : Holds s) (there : get_elem? s.views id ≡ some me.0) → get_or s.words i 0 ≡ stands.state.pending
    pending_is s stands there = found s stands there i ∙ at_pending stands.state i (pending_place s stands)

    build_pending : (s : table.State NoSlot View) (stands : Holds s) (there : get_elem? s.views id ≡ some me.0) (v : View) (n x : ℕ) → n ≡ x → Same (entry stands.state id) v
        → KeepsInvariant sys (m.owing (m.acted stands.state id v) x) → Holds (stepped s i n id me.1 v keeps)
    build_pending s stands there v n x e same rule' =
        let st = stands.state in
        build s stands there i n v (m.owing (m.acted st id v) x) (ap (set (words_of st) i) e ∙ set_pending st i x (pending_place s stands)) refl same rule'

    pub waits : (stp : Step NoSlot) → Allows Holds slots id me i (λ n. n) (Waits stp me)
    waits stp s stands homes there small =
        let st = stands.state in let rule = stands.rule in let p = place s stands there in
        let v : View = after_pending (entry st id) st.pending in (
          v,
          keeps,
          tt,
          build_read s stands there i v st.pending refl record { live = refl; top = refl; joined = refl } (ev.read_pending_keeps sys law st rule id p.0 (alive s stands there)),
          told s stands there v (after_pending me.0 (get_or s.words i 0)) (ap (λ (u : View). after_pending u st.pending) p.1 ∙ ap (after_pending me.0) (sym (pending_is s stands there))),
        )

    pub adds : (stp : Step NoSlot) → me.0.debt ≡ false → Allows Holds slots id me i (λ n. (n + 1) % 2 ^ 64) (Adds stp me)
    adds stp clear s stands homes there small =
        let st = stands.state in let rule = stands.rule in let p = place s stands there in
        let is = pending_is s stands there in
        let low = pending_small sys st rule in
        let v : View = after_add (entry st id) in (
          v,
          keeps,
          tt,
          build_pending s stands there v ((get_or s.words i 0 + 1) % 2 ^ 64) (st.pending + 1) (added (get_or s.words i 0) st.pending sys.scopes is low fits) record { live = refl; top = refl; joined = refl }
              (ev.add_keeps sys law st rule id p.0 (alive s stands there) (ap (λ (u : View). u.debt) p.1 ∙ clear)),
          told s stands there v (after_add me.0) (ap after_add p.1),
        )

    pub pays : (stp : Step NoSlot) → me.0.debt ≡ true → Allows Holds slots id me i (λ n. (n + (2 ^ 64 - 1)) % 2 ^ 64) (Pays stp me)
    pays stp owing s stands homes there small =
        let st = stands.state in let rule = stands.rule in let p = place s stands there in
        let is = pending_is s stands there in
        let low = pending_small sys st rule in
        let debt : (entry st id).debt ≡ true = ap (λ (u : View). u.debt) p.1 ∙ owing in
        let one : one_if (entry st id).debt ≡ 1 = ap one_if debt in
        let some = ev.owes_one sys law st rule id p.0 (alive s stands there) (omega arith) in
        let v : View = after_pay (entry st id) in (
          v,
          keeps,
          tt,
          build_pending s stands there v ((get_or s.words i 0 + (2 ^ 64 - 1)) % 2 ^ 64) (st.pending - 1) (dropped (get_or s.words i 0) st.pending sys.scopes is low fits some) record { live = refl; top = refl; joined = refl }
              (ev.pay_keeps sys law st rule id p.0 (alive s stands there) debt),
          told s stands there v (after_pay me.0) (ap after_pay p.1),
        )

    pub finishes : (stp : Step NoSlot) (sc : ℕ) (K : List PhpType) → FinishesSeen sys me.0 sc K → Allows Holds slots id me i (λ n. (n + (2 ^ 64 - 1)) % 2 ^ 64) (Finishes sc stp me)
    finishes stp sc K seen s stands homes there small =
        let st = stands.state in let rule = stands.rule in let p = place s stands there in
        let is = pending_is s stands there in
        let low = pending_small sys st rule in
        let hand = hand_held s stands there K sc seen.hand in
        let one : hand_weight (entry st id).hand ≡ 1 = ap hand_weight hand in
        let some = ev.owes_one sys law st rule id p.0 (alive s stands there) (omega arith) in
        let v : View = after_done (entry st id) sc in (
          v,
          keeps,
          tt,
          build_pending s stands there v ((get_or s.words i 0 + (2 ^ 64 - 1)) % 2 ^ 64) (st.pending - 1) (dropped (get_or s.words i 0) st.pending sys.scopes is low fits some) record { live = refl; top = refl; joined = refl }
              (ev.finish_keeps sys law st rule id p.0 (alive s stands there) sc hand (is_met s stands there K sc seen) (look_held s stands there K sc seen.look) (ap (λ (u : View). u.debt) p.1 ∙ seen.no_debt)),
          told s stands there v (after_done me.0 sc) (ap (λ (u : View). after_done u sc) p.1),
        )

    pub finishes_as : (stp : Step NoSlot) (sc : ℕ) (K : List PhpType) → FinishesSeen sys me.0 sc K → (d : ℕ) → d ≡ sc → Allows Holds slots id me i (λ n. (n + (2 ^ 64 - 1)) % 2 ^ 64) (Finishes d stp me)
    finishes_as stp sc K seen d e = subst (λ (k : ℕ). Allows Holds slots id me i (λ n. (n + (2 ^ 64 - 1)) % 2 ^ 64) (Finishes k stp me)) (sym e) (finishes stp sc K seen)

-- what a try tells, by what the exchange found
pub got_tried : (v w : View) (d n : ℕ) → w ≡ after_try v d n → n ≡ 0 → w ≡ holds.got v d
got_tried v w d n e z = e ∙ got_is v d n z

pub busy_tried : (v w : View) (d n : ℕ) → w ≡ after_try v d n → n ≢ 0 → n ≤ 64 → n ≢ v.number + 1 → (w ≡ holds.busy v d (n - 1)) × (n - 1 ≢ v.number) × (n - 1 < 64)
busy_tried v w d n e z l o = (e ∙ busy_is v d n z, (λ h. o (omega arith)), omega arith)
