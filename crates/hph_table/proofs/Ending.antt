-- All seats are joined into one, and the table's last words are its cells.
use Rattle.std.proofs.Common.{◌≡◌, ◌≢◌, ℕ, zero, suc, ◌+◌, ◌-◌, ◌*◌, ◌/◌, ◌%◌, ◌^◌, ◌<◌, ◌≤◌, Bool, true, false, List, [], ◌∷◌, ◌++◌, map, length, get_or, set, Option, None, Some, sym, refl, ap, subst, ◌∙◌, inl, inr, ◌⊎◌, ⊎_elim, arith, length-append}
use mathlib.Core.Logic.{dite}
use mathlib.Core.Option.{none, some}
use native.Mathlib.Decide.{ℕ_discrete, dec_lt}
use lib.ListN.{get_elem?}
use Rattle.hph_type.specs.Types.{PhpType}
use Rattle.hph_type.specs.Codes.{code}
use Rattle.hph_type.specs.Types.{none as empty}
use Rattle.hph_sys.specs.Shape.{Shape}
use Rattle.hph_sys.specs.Typings.{In, at}
use Rattle.hph_sys.specs.Lawful.{Lawful}
use Rattle.hph_sys.specs.Least.{IsMet}
use Rattle.hph_core.specs.declared.view.View.{View}
use Rattle.hph_core.specs.declared.view.Finding.{Finding}
use Rattle.hph_core.specs.declared.view.Finding.TheVariants.{Done, Pending}
use Rattle.hph_core.specs.State.{WorkerState, entry, spent}
use Rattle.hph_core.specs.Effects.{after_join}
use Rattle.hph_core.specs.Rule.{KeepsInvariant, IsDropped, sum_below, total, tally, tally_all, is_raise, is_take, is_mark, is_put_back}
use Rattle.hph_core.specs.Conditions.{IsIdle}
use Rattle.hph_table.specs.Seats.{IsEnd}
use Rattle.hph_core.proofs.Sums.{tally-append, in_left, in_right, in_append}
use Rattle.hph_core.proofs.EventsKeep.{get_past}
use Rattle.hph_core.proofs.Seats.{snoc_here, snoc_away}
use Rattle.hph_table.specs.declared.NoSlot.{NoSlot}
use Rattle.hph_table.specs.Ids.{TableId}
use Rattle.hph_table.specs.Words.{words_of, seat_at, Extras, Stands}
use Rattle.hph_table.specs.Seats.{Joined, AreAll, views_of, Read}
use Rattle.hph_table.specs.Words.{decode}
use Rattle.hph_table.proofs.Places.{at_get, at_cell}
use Rattle.hph_table.proofs.Codes as codes
use Rattle.atomic_table.specs.Table as table
use Rattle.atomic_table.specs.Table.{Seen, Final}

abbrev P : Type 0
P = TableId × View

grow : (x n : ℕ) (xs ys : List ℕ) → In x (n ∷ xs) → In x (n ∷ (xs ++ ys))
grow x n xs ys (inl e) = inl e
grow x n xs ys (inr i) = inr (in_left x xs ys i)

sums_are : (a b t : ℕ) → a ≡ t + 0 → b ≡ t → a ≡ b
sums_are a b t h k = omega arith

few_takes : (a b c t m p x : ℕ) → a ≡ t → b ≡ m → c ≡ p → t + x ≡ 1 + (m + p) → a ≤ 1 + (b + c)
few_takes a b c t m p x h1 h2 h3 h4 = omega arith

tally_snoc : (g : Finding → ℕ) (ps : List P) (p : P) → tally_all g (views_of (ps ++ p ∷ [])) ≡ tally_all g (views_of ps) + tally g p.1.findings
tally_snoc g [] p = omega arith
tally_snoc g (q ∷ ps) p = let a = tally_snoc g ps p in omega arith

split_last : (q : P) (ps : List P) (p : P) → In q (ps ++ p ∷ []) → In q ps ⊎ (q ≡ p)
split_last q ps p i = ⊎_elim (λ a. inl a) (λ b. ⊎_elim (λ e. inr e) (λ no_more. absurd no_more) b) (in_append q ps (p ∷ []) i)

pub joined_start : (id : TableId) (n : ℕ) (all rest : List P) (p : P) → AreAll id n all → all ≡ rest ++ p ∷ [] → Joined id all rest p
joined_start id n all rest p are e =
    let mine : In p all = subst (In p) (sym e) (in_right p rest (p ∷ []) (inl refl)) in
    record {
      main = are.each p mine;
      sub = λ q i. subst (In q) (sym e) (in_left q rest (p ∷ []) i);
      sums = λ g. ap (λ (x : List P). tally_all g (views_of x)) e ∙ (let a = tally_snoc g rest p in omega arith);
      kept = λ q i. ⊎_elim (λ a. inl a) (λ b. inr (λ f j. subst (λ (x : P). In f x.1.findings) b j)) (split_last q rest p (subst (In q) e i));
      «from» = λ f i. (p, mine, i);
      numbers = λ q i. ⊎_elim (λ a. inl a) (λ b. inr (inl (ap (λ (x : P). x.1.number) b))) (split_last q rest p (subst (In q) e i));
    }

pub joined_more : (id : TableId) (n : ℕ) (all rest rest' : List P) (m m' p : P) → AreAll id n all → Joined id all rest m → rest ≡ rest' ++ p ∷ [] → m'.0 ≡ id → m'.1 ≡ after_join m.1 p.1 → Joined id all rest' m'
joined_more id n all rest rest' m m' p are was e at_id now =
    let mine : In p all = was.sub p (subst (In p) (sym e) (in_right p rest' (p ∷ []) (inl refl))) in
    let found : m'.1.findings ≡ m.1.findings ++ p.1.findings = ap (λ (v : View). v.findings) now in
    record {
      main = (at_id, (let i = was.main.1 in subst IsIdle (sym now) record { live = i.live; hand = i.hand; holds = i.holds; debt = i.debt }));
      sub = λ q i. was.sub q (subst (In q) (sym e) (in_left q rest' (p ∷ []) i));
      sums = λ g. was.sums g ∙ (let a : tally_all g (views_of rest) ≡ tally_all g (views_of rest') + tally g p.1.findings = ap (λ (x : List P). tally_all g (views_of x)) e ∙ tally_snoc g rest' p in
          let b : tally g m'.1.findings ≡ tally g m.1.findings + tally g p.1.findings = ap (tally g) found ∙ tally-append g m.1.findings p.1.findings in omega arith);
      kept = λ q i. ⊎_elim
          (λ a. ⊎_elim (λ x. inl x) (λ y. inr (λ f j. subst (In f) (sym found) (in_right f m.1.findings p.1.findings (subst (λ (x : P). In f x.1.findings) y j)))) (split_last q rest' p (subst (In q) e a)))
          (λ k. inr (λ f j. subst (In f) (sym found) (in_left f m.1.findings p.1.findings (k f j))))
          (was.kept q i);
      «from» = λ f i. ⊎_elim (λ a. was.from f a) (λ b. (p, mine, b)) (in_append f m.1.findings p.1.findings (subst (In f) found i));
      numbers = λ q i. let grown : m'.1.number ∷ m'.1.joined ≡ m.1.number ∷ (m.1.joined ++ p.1.number ∷ p.1.joined) = ap (λ (v : View). v.number ∷ v.joined) now in ⊎_elim
          (λ a. ⊎_elim (λ x. inl x) (λ y. inr (subst (In q.1.number) (sym grown) (inr (in_right q.1.number m.1.joined (p.1.number ∷ p.1.joined) (inl (ap (λ (x : P). x.1.number) y)))))) (split_last q rest' p (subst (In q) e a)))
          (λ k. inr (subst (In q.1.number) (sym grown) (grow q.1.number m.1.number m.1.joined (p.1.number ∷ p.1.joined) k)))
          (was.numbers q i);
    }

sum_zeros : (n : ℕ) (f : ℕ → ℕ) → ((j : ℕ) → j < n → f j ≡ 0) → sum_below n f ≡ 0
sum_zeros zero f h = refl
sum_zeros (suc n) f h = let a = sum_zeros n f (λ j l. h j (omega arith)) in let b = h n (omega arith) in omega arith

sum_only : (n : ℕ) (f : ℕ → ℕ) (i : ℕ) → i < n → ((j : ℕ) → j ≢ i → f j ≡ 0) → sum_below n f ≡ f i
sum_only zero f i h z = absurd (omega arith)
sum_only (suc n) f i h z = dite (ℕ_discrete i n)
    (λ e. let a = sum_zeros n f (λ j l. z j (λ y. omega arith)) in let b : f n ≡ f i = ap f (sym e) in omega arith)
    (λ ne. let a = sum_only n f i (omega arith) z in let b = z n (λ y. ne (sym y)) in omega arith)

total_only : (g : Finding → ℕ) (E : ℕ → View) (i : ℕ) → i < 64 → ((j : ℕ) → j ≢ i → E j ≡ spent) → total g E ≡ tally g (E i).findings
unfolding total
total_only g E i h z = sum_only 64 (λ w. tally g (E w).findings) i h (λ j n. ap (λ (v : View). tally g v.findings) (z j n))

in_views : (v : View) (ps : List P) → In v (views_of ps) → (p : P) × In p ps × (v ≡ p.1)
in_views v [] i = absurd i
in_views v (p ∷ ps) (inl e) = (p, inl refl, e)
in_views v (p ∷ ps) (inr i) = let r = in_views v ps i in (r.0, inr r.1, r.2)

views_in : (p : P) (ps : List P) → In p ps → In p.1 (views_of ps)
views_in p (q ∷ ps) (inl e) = inl (ap (λ (x : P). x.1) e)
views_in p (q ∷ ps) (inr i) = inr (views_in p ps i)
views_in p [] i = absurd i

pub ends : (sys : Shape) (workers : ℕ) (id : TableId) (all : List P) (m : P) (s : table.State NoSlot View) (i : ℕ) → workers ≤ 64 → AreAll id workers all → Joined id all [] m
    → (stands : Stands sys workers s) → get_elem? s.views i ≡ some m.1 → IsEnd sys (views_of all) stands.state.cells
ends sys workers id all m s i few are joined stands there =
    let st = stands.state in let rule = stands.rule in
    let p = at_get st.entries i m.1 spent (subst (λ (vs : List View). get_elem? vs i ≡ some m.1) stands.views_are there) in
    let alive : (entry st i).live ≡ true = ap (λ (v : View). v.live) p.1 ∙ joined.main.1.live in
    let number : m.1.number ≡ i = sym (ap (λ (v : View). v.number) p.1) ∙ rule.seated.number i alive in
    let alone : (j : ℕ) → j ≢ i → entry st j ≡ spent = λ j ne. dite (dec_lt j (length st.entries))
    (λ l. let q = are.has j (let c = stands.extras.count in omega arith) in
    ⊎_elim (λ none_left. absurd none_left)
    (λ k. ⊎_elim (λ e. absurd (ne (sym q.2 ∙ (e ∙ number)))) (λ k'. rule.seated.gone j (subst (λ (x : ℕ). (entry st x).live ≡ false) q.2 (stands.extras.joined i q.0.1.number (subst (λ (v : View). In q.0.1.number v.joined) (sym p.1) k')).1)) k)
    (joined.numbers q.0 q.1))
    (λ g. get_past st.entries j spent (omega arith)) in
    let low : i < 64 = (let a = p.0 in let b = rule.few in omega arith) in
    let totals : (g : Finding → ℕ) → tally_all g (views_of all) ≡ total g (entry st) = λ g.
    (let a = joined.sums g in let b : total g (entry st) ≡ tally g m.1.findings = total_only g (entry st) i low alone ∙ ap (λ (v : View). tally g v.findings) p.1 in sums_are _ _ _ a b) in
    let drops : (k : ℕ) → IsDropped (entry st) k → (u : View) × In u (views_of all) × In (Done k) u.findings = λ k d. dite (ℕ_discrete d.0 i)
    (λ e. let r = joined.from (Done k) (subst (λ (v : View). In (Done k) v.findings) p.1 (subst (λ (x : ℕ). In (Done k) (entry st x).findings) e d.1)) in (r.0.1, views_in r.0 all r.1, r.2))
    (λ ne. absurd (subst (λ (v : View). In (Done k) v.findings) (alone d.0 ne) d.1)) in
    let over : (v : View) → In v (views_of all) → In (Pending 0) v.findings → (k : ℕ) → k < sys.scopes → IsMet sys st.cells k × ((u : View) × In u (views_of all) × In (Done k) u.findings) = λ v v_in z k h. let q = in_views v all v_in in
    ⊎_elim (λ none_left. absurd none_left)
    (λ kept. let r = rule.over i (subst (λ (x : View). In (Pending 0) x.findings) (sym p.1) (kept (Pending 0) (subst (λ (x : View). In (Pending 0) x.findings) q.2 z))) k h in (r.0, drops k r.1))
    (joined.kept q.0 q.1) in
    record {
      typing = rule.typing;
      below = rule.below;
      least = λ v v_in z. record { is_typing = rule.typing; below = rule.below; greatest = λ lower _ each. each st.cells record { is_typing = rule.typing; met = λ k h. (over v v_in z k h).0 } };
      over = over;
      raises = λ c. (let a = totals (is_raise c) in let b = rule.raises c in omega arith);
      takes = λ k h. (let a = totals (is_take k) in let b = totals (is_mark k) in let c = totals (is_put_back k) in let r = rule.counted k h in few_takes _ _ _ _ _ _ _ a b c r);
    }

same_list : (xs ys : List PhpType) → length xs ≡ length ys → ((j : ℕ) → j < length xs → get_or xs j empty ≡ get_or ys j empty) → xs ≡ ys
same_list [] [] l h = refl
same_list [] (y ∷ ys) l h = absurd (omega arith)
same_list (x ∷ xs) [] l h = absurd (omega arith)
same_list (x ∷ xs) (y ∷ ys) l h = (λ k. h 0 (omega arith) k ∷ same_list xs ys (omega arith) (λ j m. h (suc j) (omega arith)) k)

pub ended : (sys : Shape) (workers : ℕ) (id : TableId) (all : List P) (m : P) (i base : ℕ) (ws : List ℕ) (xs : List NoSlot) (out : List PhpType) → workers ≤ 64 → AreAll id workers all → Joined id all [] m
    → Final (Seen (Stands sys workers) i m.1) ws xs → base ≡ (sys.scopes + 63) / 64 + sys.scopes → Read ws base sys.cells out → IsEnd sys (views_of all) out
ended sys workers id all m i base ws xs out few are joined final b read =
    let s = final.0 in let stands = final.1.0 in let st = stands.state in let rule = stands.rule in
    let end = ends sys workers id all m s i few are joined stands final.1.1 in
    let same : out ≡ st.cells = same_list out st.cells (read.len ∙ sym rule.typing.len) (λ j l. read.each j (let x = read.len in omega arith) ∙
    (ap decode (ap (λ (r : List ℕ). get_or r (base + j) 0) (sym final.2 ∙ stands.words_are) ∙ at_cell st (base + j) j (let x = rule.work in let y = rule.holders in omega arith) (let x = read.len in let y = rule.typing.len in omega arith))
    ∙ codes.of_code_code sys.classes (at st.cells j) (rule.typing.types j))) in
    subst (IsEnd sys (views_of all)) (sym same) end

pub read_more : (ws : List ℕ) (base c n : ℕ) (out out' : List PhpType) (t : PhpType) → Read ws base c out → get_elem? ws (base + c) ≡ some n → t ≡ decode n → out' ≡ out ++ t ∷ [] → Read ws base (c + 1) out'
read_more ws base c n out out' t was at is e =
    let w = at_get ws (base + c) n 0 at in
    let long = was.len in
    subst (Read ws base (c + 1)) (sym e) record {
      len = (let a = length-append out (t ∷ []) in omega arith);
      each = λ j l. dite (ℕ_discrete j (length out))
          (λ y. ap (λ (i : ℕ). get_or (out ++ t ∷ []) i empty) y ∙ (snoc_here out t empty ∙ (is ∙ ap decode (sym w.1 ∙ ap (λ (i : ℕ). get_or ws (base + i) 0) (let z : c ≡ j = omega arith in z)))))
          (λ y. snoc_away out t empty j y ∙ was.each j (omega arith));
    }
