-- Reading, marking and raising.
use Rattle.std.proofs.Common.{◌≡◌, ◌≢◌, ℕ, zero, suc, ◌+◌, ◌-◌, ◌*◌, ◌^◌, ◌<◌, ◌≤◌, eqb, not, Bool, true, false, List, [], ◌∷◌, ◌++◌, length, get_or, set, None, sym, refl, ap, subst, ◌∙◌, inl, inr, arith, length-set, get_or-set_same, get_or-set_other}
use Rattle.std.specs.Prelude.{IsTrue, ◌↔◌}
use mathlib.Core.Logic.{dite}
use native.Mathlib.Decide.{ℕ_discrete}
use Rattle.hph_type.specs.Types.{PhpType, none}
use Rattle.hph_type.specs.Classes.{Parents, height}
use Rattle.hph_type.specs.Order.{Leq, IsOf, join}
use Rattle.hph_type.specs.Rank.{rank}
use Rattle.hph_type.proofs.OrderLaws.{types_have_joins}
use Rattle.hph_type.proofs.RankLaws.{types_have_ranks}
use Rattle.hph_sys.specs.Typings.{In, at, Below}
use Rattle.hph_sys.specs.Shape.{Shape, asked, IsTyping}
use Rattle.hph_sys.specs.Least.{IsMet}
use Rattle.hph_sys.specs.Lawful.{Lawful}
use Rattle.hph_sys.specs.AskedLaws.{asked-above}
use Rattle.hph_core.specs.declared.view.View.{View}
use Rattle.hph_core.specs.declared.view.Known.{Known}
use Rattle.hph_core.specs.State.{others}
use Rattle.hph_core.specs.Effects.{know, after_add, after_mark, after_read, after_raise, after_take, after_peek, after_put_back, after_done}
use Rattle.hph_core.specs.Conditions.{IsIdle, MayMark}
use Rattle.hph_core.specs.Rule.{one_if}
use Rattle.hph_core.proofs.Lists.{Changed, kept_in, not_eqb, changed_set}
use Rattle.hph_core.proofs.Types.{leq_refl, leq_trans, leq_join, none_of, rank_rises}
use Rattle.hph_core.proofs.Sums.{sum_changed, changed_map}
use Rattle.hph_core.proofs.Seats.{snoc_here, snoc_away}
use Rattle.std.proofs.Common.{length-append}
use Rattle.hph_table.specs.Ids.{TableId}
use Rattle.hph_table.specs.Views.{KnowsCell, RaisesSeen, MayDrop, after_drop}
use Rattle.hph_turns.specs.Phases.{HoldsJust, HasHand, IsReading, KnowsAll, IsAtWork, Slack}
use Rattle.hph_turns.proofs.Steps.{P}
use Rattle.hph_table.specs.Tells.{BitsIn}
use Rattle.std.specs.Int.{trailing_zeros}
use Rattle.std.proofs.lemmas.Nat.Bits.{bit_at-trailing_zeros}
use mir.Syntax.{w64}

pub record ReadSoFar (sys : Shape) (id : TableId) (p q : P) (look : List ℕ) (c : ℕ) (K : List PhpType) : Type 0 where
  pub table : q.0 ≡ id
  pub frame : IsReading p.1 q.1
  pub typing : IsTyping sys K
  pub cells : (c' : ℕ) → c' < c → In (sys.owner c') look → KnowsCell sys q.1 K c'

pub record MarkedSoFar (id : TableId) (p q : P) (s : ℕ) (readers : List ℕ) (i : ℕ) : Type 0 where
  pub table : q.0 ≡ id
  pub hand : HasHand q.1 p.1.number s
  pub holds : q.1.holds ≡ p.1.holds
  pub known : q.1.known ≡ p.1.known
  pub marked : (j : ℕ) → j < i → In (get_or readers j 0) q.1.marks

positive : (n : ℕ) → n ≢ 0 → 0 < n
positive n h = omega arith

pub set_typing : (sys : Shape) (K : List PhpType) (c : ℕ) (t : PhpType) → c < sys.cells → IsTyping sys K → IsOf sys.classes t → IsTyping sys (set K c t)
set_typing sys K c t l was typed = record {
  len = length-set K c t ∙ was.len;
  types = λ d. dite (ℕ_discrete d c)
      (λ y. subst (IsOf sys.classes) (sym (ap (λ (k : ℕ). get_or (set K c t) k none) y ∙ get_or-set_same K c t none (let a = was.len in omega arith))) typed)
      (λ n. subst (IsOf sys.classes) (sym (get_or-set_other K c d t none n)) (was.types d));
}

-- the lowest bit of a work word is a scope
pub lowest_in : (scopes word bits : ℕ) → bits ≢ 0 → bits < 2 ^ 64 → BitsIn scopes word bits → 64 * word + trailing_zeros w64 bits < scopes
lowest_in scopes word bits ne small are = let t = bit_at-trailing_zeros w64 bits (positive bits ne) small in are (trailing_zeros w64 bits) t.0 t.1

pub took : (v w : View) (s : ℕ) → IsIdle v → w ≡ after_take v s (one_if true) → HasHand w v.number s × (w.holds ≡ [])
took v w s idle e = (record { live = ap (λ (x : View). x.live) e ∙ idle.live; number = ap (λ (x : View). x.number) e; hand = ap (λ (x : View). x.hand) e; debt = ap (λ (x : View). x.debt) e ∙ idle.debt }, ap (λ (x : View). x.holds) e ∙ idle.holds)

pub missed : (v w : View) (s : ℕ) → IsIdle v → w ≡ after_take v s (one_if false) → IsIdle w × (w.number ≡ v.number)
missed v w s idle e = (record { live = ap (λ (x : View). x.live) e ∙ idle.live; hand = ap (λ (x : View). x.hand) e ∙ idle.hand; holds = ap (λ (x : View). x.holds) e ∙ idle.holds; debt = ap (λ (x : View). x.debt) e ∙ idle.debt }, ap (λ (x : View). x.number) e)

pub may_mark : (sys : Shape) (id : TableId) (p q : P) (s r owner : ℕ) (readers : List ℕ) (i : ℕ) (v : View) → MarkedSoFar id p q s readers i → v ≡ after_add q.1 → (r < sys.scopes) × In owner (sys.look r) → In owner p.1.holds → MayMark sys v r
may_mark sys id p q s r owner readers i v was e near held = record {
  scope_in = near.0;
  debt = ap (λ (x : View). x.debt) e;
  near = (owner, near.1, subst (In owner) (sym (ap (λ (x : View). x.holds) e ∙ was.holds)) held);
}

-- one more is marked, and the unit was paid
marked_more : (id : TableId) (p q : P) (s : ℕ) (readers : List ℕ) (i : ℕ) (q' : P) → MarkedSoFar id p q s readers i → q'.0 ≡ id → q'.1.live ≡ q.1.live → q'.1.number ≡ q.1.number → q'.1.hand ≡ q.1.hand → q'.1.debt ≡ false → q'.1.holds ≡ q.1.holds → q'.1.known ≡ q.1.known
    → q'.1.marks ≡ get_or readers i 0 ∷ q.1.marks → MarkedSoFar id p q' s readers (i + 1)
marked_more id p q s readers i q' was t live number hand debt holds known marks = record {
  table = t;
  hand = record { live = live ∙ was.hand.live; number = number ∙ was.hand.number; hand = hand ∙ was.hand.hand; debt = debt };
  holds = holds ∙ was.holds;
  known = known ∙ was.known;
  marked = λ j l. subst (In (get_or readers j 0)) (sym marks) (dite (ℕ_discrete j i)
      (λ y. let z : In (get_or readers j 0) (get_or readers i 0 ∷ q.1.marks) = inl (ap (λ (n : ℕ). get_or readers n 0) y) in z)
      (λ n. let z : In (get_or readers j 0) (get_or readers i 0 ∷ q.1.marks) = inr (was.marked j (omega arith)) in z));
}

pub marked_paid : (id : TableId) (p q : P) (s : ℕ) (readers : List ℕ) (i : ℕ) (v1 : View) (q' : P) → MarkedSoFar id p q s readers i → v1 ≡ after_add q.1 → q'.0 ≡ id → (b : Bool) → b ≡ true → q'.1 ≡ after_mark v1 (get_or readers i 0) (1 - one_if b) → MarkedSoFar id p q' s readers (i + 1)
marked_paid id p q s readers i v1 q' was e t b is f =
    let h : q'.1 ≡ after_mark (after_add q.1) (get_or readers i 0) 0 = f ∙ (ap (λ (x : Bool). after_mark v1 (get_or readers i 0) (1 - one_if x)) is ∙ ap (λ (v : View). after_mark v (get_or readers i 0) 0) e) in
    marked_more id p q s readers i q' was t (ap (λ (v : View). v.live) h) (ap (λ (v : View). v.number) h) (ap (λ (v : View). v.hand) h) (ap (λ (v : View). v.debt) h) (ap (λ (v : View). v.holds) h) (ap (λ (v : View). v.known) h) (ap (λ (v : View). v.marks) h)

pub marked_back : (id : TableId) (p q : P) (s : ℕ) (readers : List ℕ) (i : ℕ) (v1 v2 : View) (q' : P) → MarkedSoFar id p q s readers i → v1 ≡ after_add q.1 → (b : Bool) → b ≡ false → v2 ≡ after_mark v1 (get_or readers i 0) (1 - one_if b) → q'.0 ≡ id → q'.1 ≡ after_drop v2 → MarkedSoFar id p q' s readers (i + 1)
marked_back id p q s readers i v1 v2 q' was e b is f t g =
    let h : q'.1 ≡ after_drop (after_mark (after_add q.1) (get_or readers i 0) 1) = g ∙ ap after_drop (f ∙ (ap (λ (x : Bool). after_mark v1 (get_or readers i 0) (1 - one_if x)) is ∙ ap (λ (v : View). after_mark v (get_or readers i 0) 1) e)) in
    marked_more id p q s readers i q' was t (ap (λ (v : View). v.live) h) (ap (λ (v : View). v.number) h) (ap (λ (v : View). v.hand) h) (ap (λ (v : View). v.debt) h) (ap (λ (v : View). v.holds) h) (ap (λ (v : View). v.known) h) (ap (λ (v : View). v.marks) h)

-- the unit of a mark that found the bit set is still owed
pub still_owed : (v1 v2 : View) (r : ℕ) (q : View) (b : Bool) → v1 ≡ after_add q → b ≡ false → v2 ≡ after_mark v1 r (1 - one_if b) → v2.debt ≡ true
still_owed v1 v2 r q b e is f = ap (λ (v : View). v.debt) (f ∙ (ap (λ (x : Bool). after_mark v1 r (1 - one_if x)) is ∙ ap (λ (v : View). after_mark v r 1) e))

-- a cell is read
pub read_step : (sys : Shape) (id : TableId) (p q q' : P) (look : List ℕ) (c : ℕ) (K : List PhpType) (t : PhpType) → c < sys.cells → ReadSoFar sys id p q look c K → q'.0 ≡ id → q'.1 ≡ after_read q.1 c (sys.owner c) t → IsOf sys.classes t → ReadSoFar sys id p q' look (c + 1) (set K c t)
read_step sys id p q q' look c K t cell_in was at_id e typed =
    let f = was.frame in
    let long : length K ≡ sys.cells = was.typing.len in
    let here : get_or (set K c t) c none ≡ t = get_or-set_same K c t none (omega arith) in
    record {
      table = at_id;
      frame = record { live = ap (λ (v : View). v.live) e ∙ f.live; number = ap (λ (v : View). v.number) e ∙ f.number; hand = ap (λ (v : View). v.hand) e ∙ f.hand; debt = ap (λ (v : View). v.debt) e ∙ f.debt; holds = ap (λ (v : View). v.holds) e ∙ f.holds };
      typing = set_typing sys K c t cell_in was.typing typed;
      cells = λ d l i. let known : q'.1.known ≡ know c (sys.owner c) t ∷ q.1.known = ap (λ (v : View). v.known) e in subst (In (know d (sys.owner d) (at (set K c t) d))) (sym known)
          (dite (ℕ_discrete d c)
          (λ y. let z : In (know d (sys.owner d) (at (set K c t) d)) (know c (sys.owner c) t ∷ q.1.known) = inl (ap (λ (k : ℕ). know k (sys.owner k) (at (set K c t) k)) y ∙ ap (know c (sys.owner c)) here) in z)
          (λ n. let z : In (know d (sys.owner d) (at (set K c t) d)) (know c (sys.owner c) t ∷ q.1.known) = inr (subst (λ (u : PhpType). In (know d (sys.owner d) u) q.1.known) (sym (get_or-set_other K c d t none n)) (was.cells d (omega arith) i)) in z));
    }

pub read_skip : (sys : Shape) (id : TableId) (p q : P) (look : List ℕ) (c : ℕ) (K : List PhpType) → ReadSoFar sys id p q look c K → ¬ In (sys.owner c) look → ReadSoFar sys id p q look (c + 1) K
read_skip sys id p q look c K was out = record {
  table = was.table;
  frame = was.frame;
  typing = was.typing;
  cells = λ d l i. dite (ℕ_discrete d c) (λ y. absurd (out (subst (λ (k : ℕ). In (sys.owner k) look) y i))) (λ n. was.cells d (omega arith) i);
}

pub read_start : (sys : Shape) (id : TableId) (p : P) (look : List ℕ) (K : List PhpType) → p.0 ≡ id → IsTyping sys K → ReadSoFar sys id p p look 0 K
read_start sys id p look K t typing = record { table = t; frame = record { live = refl; number = refl; hand = refl; debt = refl; holds = refl }; typing = typing; cells = λ c l. absurd (omega arith) }

-- a raise
pub join_typed : (sys : Shape) (a b : PhpType) → IsOf sys.classes a → IsOf sys.classes b → IsOf sys.classes (join sys.classes a b)
join_typed sys a b h k = (types_have_joins sys.classes).within a b h k

leq_join_right : (tree : Parents) (a b : PhpType) → Leq tree b (join tree a b)
leq_join_right tree a b = (types_have_joins tree).above_right a b

pub may_raise : (sys : Shape) → Lawful sys → (v w : View) (n s c : ℕ) (t : PhpType) (K : List PhpType) → IsAtWork sys v n s K → HasHand w n s → w.holds ≡ v.holds → w.known ≡ v.known → ((r : ℕ) → In r (sys.readers c) → In r w.marks)
    → c < sys.cells → In (sys.owner c) (sys.look s) → IsOf sys.classes t → Leq sys.classes t (asked sys s K c) → ¬ Leq sys.classes t (at K c) → RaisesSeen sys w s c (join sys.classes (at K c) t) K
may_raise sys law v w n s c t K work hand holds known marked c_in looked typed asks unmet = record {
  hand = hand.hand;
  look = λ d i. subst (In d) (sym holds) (work.just.all d i);
  sees = record { typing = work.knows.typing; reads = λ d l r. subst (In (know d (sys.owner d) (at K d))) (sym known) (work.knows.cells d l (law.reads_look s d l r)) };
  cell = subst (In (know c (sys.owner c) (at K c))) (sym known) (work.knows.cells c c_in looked);
  held = subst (In (sys.owner c)) (sym holds) (work.just.all (sys.owner c) looked);
  marked = marked;
  some = (t, asks, refl);
  rises = λ e. unmet (subst (Leq sys.classes t) e (leq_join_right sys.classes (at K c) t));
  typed = join_typed sys (at K c) t (work.knows.typing.types c) typed;
}

pub raised_work : (sys : Shape) (v w w' : View) (n s c : ℕ) (t : PhpType) (K : List PhpType) → IsAtWork sys v n s K → HasHand w n s → w.holds ≡ v.holds → w.known ≡ v.known → c < sys.cells → IsOf sys.classes t → w' ≡ after_raise w c (sys.owner c) (join sys.classes (at K c) t) → IsAtWork sys w' n s (set K c (join sys.classes (at K c) t))
raised_work sys v w w' n s c t K work hand holds known c_in typed e =
    let u : PhpType = join sys.classes (at K c) t in
    let K' : List PhpType = set K c u in
    let long : length K ≡ sys.cells = work.knows.typing.len in
    let here : at K' c ≡ u = get_or-set_same K c u none (omega arith) in
    let held : w'.holds ≡ v.holds = ap (λ (x : View). x.holds) e ∙ holds in
    let now : w'.known ≡ know c (sys.owner c) u ∷ others c v.known = ap (λ (x : View). x.known) e ∙ ap (λ (ks : List Known). know c (sys.owner c) u ∷ others c ks) known in
    record {
      hand = record { live = ap (λ (x : View). x.live) e ∙ hand.live; number = ap (λ (x : View). x.number) e ∙ hand.number; hand = ap (λ (x : View). x.hand) e ∙ hand.hand; debt = ap (λ (x : View). x.debt) e ∙ hand.debt };
      scope_in = work.scope_in;
      just = record { all = λ d i. subst (In d) (sym held) (work.just.all d i); only = λ d i. work.just.only d (subst (In d) held i) };
      knows = record {
        typing = set_typing sys K c u c_in work.knows.typing (join_typed sys (at K c) t (work.knows.typing.types c) typed);
        cells = λ d l i. subst (In (know d (sys.owner d) (at K' d))) (sym now) (dite (ℕ_discrete d c)
            (λ y. let z : In (know d (sys.owner d) (at K' d)) (know c (sys.owner c) u ∷ others c v.known) = inl (ap (λ (k : ℕ). know k (sys.owner k) (at K' k)) y ∙ ap (know c (sys.owner c)) here) in z)
            (λ no_c. let old : In (know d (sys.owner d) (at K d)) v.known = work.knows.cells d l i in
            let z : In (know d (sys.owner d) (at K' d)) (know c (sys.owner c) u ∷ others c v.known) = inr (subst (λ (x : PhpType). In (know d (sys.owner d) x) (others c v.known)) (sym (get_or-set_other K c d u none no_c)) (kept_in (λ (k : Known). not (eqb k.cell c)) (know d (sys.owner d) (at K d)) v.known old (not_eqb d c no_c))) in z));
      };
    }

pub took_after : (u v w : View) (n s word bits : ℕ) (b : Bool) → IsIdle u → u.number ≡ n → v ≡ after_peek u word bits → b ≡ true → w ≡ after_take v s (one_if b) → HasHand w n s × (w.holds ≡ [])
took_after u v w n s word bits b idle num e is f =
    let idle' : IsIdle v = record { live = ap (λ (x : View). x.live) e ∙ idle.live; hand = ap (λ (x : View). x.hand) e ∙ idle.hand; holds = ap (λ (x : View). x.holds) e ∙ idle.holds; debt = ap (λ (x : View). x.debt) e ∙ idle.debt } in
    let t = took v w s idle' (f ∙ ap (λ (x : Bool). after_take v s (one_if x)) is) in
    let num' : v.number ≡ n = ap (λ (x : View). x.number) e ∙ num in
    (subst (λ (k : ℕ). HasHand w k s) num' t.0, t.1)

pub read_at : (K : List PhpType) (c : ℕ) (x : PhpType) → c < length K → x ≡ get_or K c x → x ≡ at K c
read_at [] c x h e = absurd (omega arith)
read_at (y ∷ ys) zero x h e = e
read_at (y ∷ ys) (suc c) x h e = read_at ys c x (omega arith) e

pub subst2_p : {A B : Type 0} → (F : A → B → Type 0) → {a a' : A} → {b b' : B} → a ≡ a' → b ≡ b' → F a b → F a' b'
subst2_p F {a} {a'} {b} {b'} e f x = subst (F a') f (subst (λ (y : _). F y b) e x)

pub not_both : (b : Bool) → IsTrue b → b ≡ false → ⊥
not_both true t f = absurd (cc)
not_both false t f = absurd (cc)

-- the pairs so far: those before are met by K; what was asked at K0 is no more than what is asked at K
pub record RaisedSoFar (sys : Shape) (id : TableId) (p q : P) (s : ℕ) (pairs : List (ℕ × PhpType)) (i : ℕ) (raised : Bool) (K0 K : List PhpType) : Type 0 where
  pub table : q.0 ≡ id
  pub work : IsAtWork sys q.1 p.1.number s K
  pub typing : IsTyping sys K0
  pub grown : Below sys.classes K0 K
  pub same : raised ≡ false → K ≡ K0
  pub met : raised ≡ false → (j : ℕ) → j < i → (d : ℕ × PhpType) → Leq sys.classes (get_or pairs j d).1 (at K (get_or pairs j d).0)
  pub slack : raised ≡ true → Slack sys K < Slack sys K0

module _ {A : Type 0} where
  pub get_in : (xs : List A) (i : ℕ) (d : A) → i < length xs → In (get_or xs i d) xs
  get_in [] i d h = absurd (omega arith)
  get_in (x ∷ xs) zero d h = inl refl
  get_in (x ∷ xs) (suc i) d h = inr (get_in xs i d (omega arith))

  pub in_at : (xs : List A) (x : A) → In x xs → (j : ℕ) × (j < length xs) × ((d : A) → get_or xs j d ≡ x)
  in_at [] x h = absurd h
  in_at (y ∷ xs) x (inl e) = (0, omega arith, λ d. sym e)
  in_at (y ∷ xs) x (inr h) = let r = in_at xs x h in (suc r.0, (let a = r.1 in omega arith), r.2)

rank_small : (sys : Shape) (t : PhpType) → IsOf sys.classes t → rank sys.classes t ≤ height sys.classes
rank_small sys t h = (types_have_ranks sys.classes).bounded t h

falls_by : (a b h r u : ℕ) → a + (h - r) ≡ b + (h - u) → r + 1 ≤ u → u ≤ h → a < b
falls_by a b h r u s up top = omega arith

pub slack_by : (raised : Bool) (a b c : ℕ) → a < b → (raised ≡ false → b ≡ c) → (raised ≡ true → b < c) → a < c
slack_by true a b c h e l = let x = l refl in omega arith
slack_by false a b c h e l = let x = e refl in omega arith

pub default_of : (xs : List (ℕ × PhpType)) (i : ℕ) (d e : ℕ × PhpType) → i < length xs → get_or xs i d ≡ get_or xs i e
default_of [] i d e h = absurd (omega arith)
default_of (x ∷ xs) zero d e h = refl
default_of (x ∷ xs) (suc i) d e h = default_of xs i d e (omega arith)

asked_now : (sys : Shape) (s : ℕ) (K : List PhpType) (p : ℕ × PhpType) → In p (sys.contrib s K) → Leq sys.classes p.1 (asked sys s K p.0)
unfolding asked
asked_now sys s K p i = asked-above sys.classes (sys.contrib s K) p i

pub asks_now : (sys : Shape) → Lawful sys → (s : ℕ) (pairs : List (ℕ × PhpType)) (K0 K : List PhpType) (p : ℕ × PhpType) → s < sys.scopes → pairs ≡ sys.contrib s K0 → IsTyping sys K0 → IsTyping sys K → Below sys.classes K0 K → In p pairs
    → (p.0 < sys.cells) × In (sys.owner p.0) (sys.look s) × IsOf sys.classes p.1 × Leq sys.classes p.1 (asked sys s K p.0)
asks_now sys law s pairs K0 K p s_in is typed typed' below i =
    let i' : In p (sys.contrib s K0) = subst (In p) is i in
    let a = law.asks_cells s K0 s_in typed p i' in
    (a.0, law.asks_look s K0 s_in typed p i', a.1, leq_trans sys.classes p.1 (asked sys s K0 p.0) (asked sys s K p.0) (asked_now sys s K0 p i') (law.monotone s K0 K s_in typed typed' below p.0))

-- the pair at a place
pub asks_item : (sys : Shape) → Lawful sys → (s : ℕ) (pairs : List (ℕ × PhpType)) (K0 K : List PhpType) (i : ℕ) (p : ℕ × PhpType) → s < sys.scopes → pairs ≡ sys.contrib s K0 → IsTyping sys K0 → IsTyping sys K → Below sys.classes K0 K → i < length pairs → p ≡ get_or pairs i p
    → (p.0 < sys.cells) × In (sys.owner p.0) (sys.look s) × IsOf sys.classes p.1 × Leq sys.classes p.1 (asked sys s K p.0)
asks_item sys law s pairs K0 K i p s_in is typed typed' below h e = asks_now sys law s pairs K0 K p s_in is typed typed' below (subst (λ (x : ℕ × PhpType). In x pairs) (sym e) (get_in pairs i p h))

-- what a test of the order tells
pub unmet_by : (classes tree : Parents) (t u v : PhpType) (b : Bool) → (IsTrue b ↔ Leq tree t u) → tree ≡ classes → u ≡ v → b ≡ false → ¬ Leq classes t v
unmet_by classes tree t u v b iff e f is le = not_both b (iff.1 (subst (λ (x : Parents). Leq x t u) (sym e) (subst (Leq classes t) (sym f) le))) is

pub met_by : (classes tree : Parents) (t u v : PhpType) (b : Bool) → (IsTrue b ↔ Leq tree t u) → tree ≡ classes → u ≡ v → b ≡ true → Leq classes t v
met_by classes tree t u v b iff e f is = subst (Leq classes t) f (subst (λ (x : Parents). Leq x t u) e (iff.0 is))

-- types of another tree that is the same
pub of_tree : (classes tree : Parents) (t u : PhpType) → tree ≡ classes → u ≡ t → IsOf classes t → IsOf tree u
of_tree classes tree t u e f h = subst (λ (x : Parents). IsOf x u) (sym e) (subst (IsOf classes) (sym f) h)

pub grown_set : (sys : Shape) (K0 K : List PhpType) (c : ℕ) (t : PhpType) → c < length K → Below sys.classes K0 K → Below sys.classes K0 (set K c (join sys.classes (at K c) t))
grown_set sys K0 K c t l below d = dite (ℕ_discrete d c)
    (λ y. subst (λ (x : PhpType). Leq sys.classes (at K0 d) x) (sym (ap (at (set K c (join sys.classes (at K c) t))) y ∙ get_or-set_same K c (join sys.classes (at K c) t) none l)) (leq_trans sys.classes (at K0 d) (at K c) (join sys.classes (at K c) t) (subst (λ (k : ℕ). Leq sys.classes (at K0 d) (at K k)) y (below d)) (leq_join sys.classes (at K c) t)))
    (λ n. subst (λ (x : PhpType). Leq sys.classes (at K0 d) x) (sym (get_or-set_other K c d (join sys.classes (at K c) t) none n)) (below d))

pub slack_falls : (sys : Shape) (K : List PhpType) (c : ℕ) (t : PhpType) → c < sys.cells → IsTyping sys K → IsOf sys.classes t → ¬ Leq sys.classes t (at K c) → Slack sys (set K c (join sys.classes (at K c) t)) < Slack sys K
slack_falls sys K c t l typed is unmet =
    let u : PhpType = join sys.classes (at K c) t in
    let moved : Changed (at K) (at (set K c u)) c u = changed_set K c u none (let a = typed.len in omega arith) in
    let s = sum_changed sys.cells (λ d. height sys.classes - rank sys.classes (at K d)) (λ d. height sys.classes - rank sys.classes (at (set K c u) d)) c (height sys.classes - rank sys.classes u) (changed_map (λ (x : PhpType). height sys.classes - rank sys.classes x) (at K) (at (set K c u)) c u moved) l in
    let up : rank sys.classes (at K c) + 1 ≤ rank sys.classes u = rank_rises sys.classes (at K c) u (typed.types c) (join_typed sys (at K c) t (typed.types c) is) (leq_join sys.classes (at K c) t) (λ e. unmet (subst (Leq sys.classes t) e (leq_join_right sys.classes (at K c) t))) in
    let top : rank sys.classes u ≤ height sys.classes = rank_small sys u (join_typed sys (at K c) t (typed.types c) is) in
    falls_by _ _ _ _ _ s up top

pub raised_start : (sys : Shape) (id : TableId) (p : P) (s : ℕ) (pairs : List (ℕ × PhpType)) (K : List PhpType) → p.0 ≡ id → IsAtWork sys p.1 p.1.number s K → RaisedSoFar sys id p p s pairs 0 false K K
raised_start sys id p s pairs K t work = record { table = t; work = work; typing = work.knows.typing; grown = λ c. leq_refl sys.classes (at K c); same = λ _. refl; met = λ _ j l. absurd (omega arith); slack = λ e. absurd (cc) }

pub raised_more : (sys : Shape) → Lawful sys → (id : TableId) (p q q' : P) (s : ℕ) (pairs : List (ℕ × PhpType)) (i : ℕ) (raised : Bool) (K0 K : List PhpType) (c : ℕ) (t : PhpType) → RaisedSoFar sys id p q s pairs i raised K0 K
    → q'.0 ≡ id → IsAtWork sys q'.1 p.1.number s (set K c (join sys.classes (at K c) t)) → c < sys.cells → IsOf sys.classes t → ¬ Leq sys.classes t (at K c) → RaisedSoFar sys id p q' s pairs (i + 1) true K0 (set K c (join sys.classes (at K c) t))
raised_more sys law id p q q' s pairs i raised K0 K c t was at_id work l is unmet = record {
  table = at_id;
  work = work;
  typing = was.typing;
  grown = grown_set sys K0 K c t (let a = was.work.knows.typing.len in omega arith) was.grown;
  same = λ e. absurd (cc);
  met = λ e. absurd (cc);
  slack = λ _. slack_by raised (Slack sys (set K c (join sys.classes (at K c) t))) (Slack sys K) (Slack sys K0) (slack_falls sys K c t l was.work.knows.typing is unmet) (λ f. ap (Slack sys) (was.same f)) was.slack;
}

pub raised_none : (sys : Shape) (id : TableId) (p q : P) (s : ℕ) (pairs : List (ℕ × PhpType)) (i : ℕ) (raised : Bool) (K0 K : List PhpType) (e : ℕ × PhpType) → i < length pairs → RaisedSoFar sys id p q s pairs i raised K0 K → Leq sys.classes (get_or pairs i e).1 (at K (get_or pairs i e).0) → RaisedSoFar sys id p q s pairs (i + 1) raised K0 K
raised_none sys id p q s pairs i raised K0 K e h was le = record {
  table = was.table;
  work = was.work;
  typing = was.typing;
  grown = was.grown;
  same = was.same;
  met = λ f j l d. dite (ℕ_discrete j i)
      (λ y. subst (λ (k : ℕ). Leq sys.classes (get_or pairs k d).1 (at K (get_or pairs k d).0)) (sym y) (subst (λ (x : ℕ × PhpType). Leq sys.classes x.1 (at K x.0)) (default_of pairs i e d h) le))
      (λ n. was.met f j (omega arith) d);
  slack = was.slack;
}

pub all_met : (sys : Shape) (id : TableId) (p q : P) (s : ℕ) (pairs : List (ℕ × PhpType)) (i : ℕ) (raised : Bool) (K0 K : List PhpType) → length pairs ≤ i → pairs ≡ sys.contrib s K0 → RaisedSoFar sys id p q s pairs i raised K0 K → raised ≡ false → IsMet sys K s
all_met sys id p q s pairs i raised K0 K h is was f x k =
    let k' : In x pairs = subst (In x) (sym (is ∙ ap (sys.contrib s) (sym (was.same f)))) k in
    let r = in_at pairs x k' in
    subst (λ (y : ℕ × PhpType). Leq sys.classes y.1 (at K y.0)) (r.2 x) (was.met f r.0 (let a = r.1 in omega arith) x)

pub subst3_p : {A B C : Type 0} → (F : A → B → C → Type 0) → {a a' : A} → {b b' : B} → {c c' : C} → a ≡ a' → b ≡ b' → c ≡ c' → F a b c → F a' b' c'
subst3_p F {a} {a'} {b} {b'} {c} {c'} e f g x = subst (F a' b') g (subst2_p (λ (y : _) (z : _). F y z c) e f x)

pub is_true : (b : Bool) → b ≡ true → IsTrue b
is_true b e = e

-- what a put back leaves: idle, after the unit was paid where one was owed
pub put_back_idle : (v w : View) (n s : ℕ) (b : Bool) → HasHand v n s → v.holds ≡ [] → b ≡ true → w ≡ after_put_back v s (1 - one_if b) → IsIdle w × (w.number ≡ n)
put_back_idle v w n s b hand none is e =
    let h : w ≡ after_put_back v s 0 = e ∙ ap (λ (x : Bool). after_put_back v s (1 - one_if x)) is in
    (record { live = ap (λ (x : View). x.live) h ∙ hand.live; hand = ap (λ (x : View). x.hand) h; holds = ap (λ (x : View). x.holds) h ∙ none; debt = ap (λ (x : View). x.debt) h }, ap (λ (x : View). x.number) h ∙ hand.number)

pub put_back_owes : (v w : View) (s : ℕ) (b : Bool) → b ≡ false → w ≡ after_put_back v s (1 - one_if b) → w.debt ≡ true
put_back_owes v w s b is e = ap (λ (x : View). x.debt) (e ∙ ap (λ (x : Bool). after_put_back v s (1 - one_if x)) is)

pub put_back_paid : (v w u : View) (n s : ℕ) (b : Bool) → HasHand v n s → v.holds ≡ [] → b ≡ false → w ≡ after_put_back v s (1 - one_if b) → u ≡ after_drop w → IsIdle u × (u.number ≡ n)
put_back_paid v w u n s b hand none is e f =
    let h : u ≡ after_drop (after_put_back v s 1) = f ∙ ap after_drop (e ∙ ap (λ (x : Bool). after_put_back v s (1 - one_if x)) is) in
    (record { live = ap (λ (x : View). x.live) h ∙ hand.live; hand = ap (λ (x : View). x.hand) h; holds = ap (λ (x : View). x.holds) h ∙ none; debt = ap (λ (x : View). x.debt) h }, ap (λ (x : View). x.number) h ∙ hand.number)

-- the hand is done
pub may_drop : (sys : Shape) → Lawful sys → (v : View) (n s : ℕ) (K : List PhpType) → IsAtWork sys v n s K → IsMet sys K s → MayDrop sys v
may_drop sys law v n s K work met = inr (
  s,
  (
    K,
    record {
      no_debt = work.hand.debt;
      hand = work.hand.hand;
      look = work.just.all;
      sees = record { typing = work.knows.typing; reads = λ c l r. work.knows.cells c l (law.reads_look s c l r) };
      met = λ p i. let a = law.asks_cells s K work.scope_in work.knows.typing p i in (work.knows.cells p.0 a.0 (law.asks_look s K work.scope_in work.knows.typing p i), met p i);
    },
  ),
)

pub dropped : (sys : Shape) (v w : View) (n s : ℕ) (K : List PhpType) → IsAtWork sys v n s K → w ≡ after_drop v → HoldsJust w (sys.look s) × (w.live ≡ true) × (w.number ≡ n) × (w.hand ≡ None) × (w.debt ≡ false)
dropped sys v w n s K work e =
    let h : w ≡ after_done v s = e ∙ rw (work.hand.debt, work.hand.hand) refl in
    let holds : w.holds ≡ v.holds = ap (λ (x : View). x.holds) h in (
      record { all = λ d i. subst (In d) (sym holds) (work.just.all d i); only = λ d i. work.just.only d (subst (In d) holds i) },
      ap (λ (x : View). x.live) h ∙ work.hand.live,
      ap (λ (x : View). x.number) h ∙ work.hand.number,
      ap (λ (x : View). x.hand) h,
      ap (λ (x : View). x.debt) h ∙ work.hand.debt,
    )

-- all is held, and the cells are read
pub at_work : (sys : Shape) (u v w : View) (n s : ℕ) (look : List ℕ) (K : List PhpType) → s < sys.scopes → look ≡ sys.look s → HasHand u n s
    → v.live ≡ u.live → v.number ≡ u.number → v.hand ≡ u.hand → v.debt ≡ u.debt → HoldsJust v look → IsReading v w → KnowsAll sys w look K → IsAtWork sys w n s K
at_work sys u v w n s look K s_in is hand l1 n1 h1 d1 just r knows = record {
  hand = record { live = r.live ∙ (l1 ∙ hand.live); number = r.number ∙ (n1 ∙ hand.number); hand = r.hand ∙ (h1 ∙ hand.hand); debt = r.debt ∙ (d1 ∙ hand.debt) };
  scope_in = s_in;
  just = subst (HoldsJust w) is record { all = λ d i. subst (In d) (sym r.holds) (just.all d i); only = λ d i. just.only d (subst (In d) r.holds i) };
  knows = subst (λ (xs : List ℕ). KnowsAll sys w xs K) is knows;
}

pub record AllNothing (n : ℕ) (K : List PhpType) : Type 0 where
  pub len : length K ≡ n
  pub none : (c : ℕ) → at K c ≡ none

pub nothing_more : (n : ℕ) (K K' : List PhpType) → AllNothing n K → K' ≡ K ++ none ∷ [] → AllNothing (n + 1) K'
nothing_more n K K' was e = subst (AllNothing (n + 1)) (sym e) record {
  len = (let a = length-append K (none ∷ []) in let b = was.len in omega arith);
  none = λ c. dite (ℕ_discrete c (length K)) (λ y. ap (at (K ++ none ∷ [])) y ∙ snoc_here K none none) (λ n. snoc_away K none none c n ∙ was.none c);
}

pub nothing_typing : (sys : Shape) (n : ℕ) (K : List PhpType) → n ≡ sys.cells → AllNothing n K → IsTyping sys K
nothing_typing sys n K e was = record { len = was.len ∙ e; types = λ c. subst (IsOf sys.classes) (sym (was.none c)) (none_of sys.classes) }

pub nothing_start : AllNothing 0 []
nothing_start = record { len = refl; none = λ c. refl }
