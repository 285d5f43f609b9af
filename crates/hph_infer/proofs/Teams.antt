-- The seats of a team that has come back are all seats of the table.
use Rattle.std.proofs.Common.{inl, inr, ◌≡◌, ℕ, zero, suc, ◌<◌, List, [], ◌∷◌, ◌++◌, map, length, get_or, take, drop, Result, Ok, sym, refl, ap, subst, ◌∙◌, arith, OnOk}
use Rattle.std.specs.declared.alloc.AllocError.{AllocError}
use Rattle.hph_sys.specs.Typings.{In}
use Rattle.hph_core.specs.declared.view.View.{View}
use Rattle.hph_core.specs.State.{spent}
use Rattle.hph_core.specs.Conditions.{IsIdle}
use Rattle.hph_table.specs.Ids.{TableId}
use Rattle.hph_table.specs.Seats.{AreSeated, AreAll, new_view, views_of}
use Rattle.hph_infer.specs.declared.threads.Worker.{Worker}
use Rattle.hph_infer.specs.declared.turns.Report.{Report}
use Rattle.hph_infer.specs.Team.{seat_of, Packed, Unpacked, IsBack, IsReady}
use Rattle.std.specs.Prelude.{IfOk}
use Rattle.hph_core.specs.declared.view.Finding.TheVariants.{Pending}
use Rattle.hph_infer.specs.declared.turns.Left.{Left}
use Rattle.hph_infer.specs.declared.turns.Left.TheVariants.{Zero}
use Rattle.hph_infer.specs.Reports.{IsReport, FoundZero}
use Rattle.hph_turns.proofs.Rounds.{get_in, in_at}

abbrev P : Type 0
P = TableId × View

get_map : {A B : Type 0} → (f : A → B) (xs : List A) (k : ℕ) (d : A) → get_or (map f xs) k (f d) ≡ f (get_or xs k d)
get_map f [] k d = refl
get_map f (x ∷ xs) zero d = refl
get_map f (x ∷ xs) (suc k) d = get_map f xs k d

length_map : {A B : Type 0} → (f : A → B) (xs : List A) → length (map f xs) ≡ length xs
length_map f [] = refl
length_map f (x ∷ xs) = ap suc (length_map f xs)

any_default : {A : Type 0} → (xs : List A) (i : ℕ) (a b : A) → i < length xs → get_or xs i a ≡ get_or xs i b
any_default [] i a b h = absurd (omega arith)
any_default (x ∷ xs) zero a b h = refl
any_default (x ∷ xs) (suc i) a b h = any_default xs i a b (omega arith)

pub head_of : {A : Type 0} → (xs : List A) (w : A) → w ≡ get_or xs 0 w → 0 < length xs → xs ≡ w ∷ drop 1 xs
head_of [] w e h = absurd (omega arith)
head_of (x ∷ xs) w e h = λ i. sym e i ∷ xs

ok_at : (reports : List Report) (k : ℕ) (d : Result Report AllocError) → k < length reports → (r : Result Report AllocError) → r ≡ get_or (map Ok reports) k d → (x : Report) × (r ≡ Ok x)
ok_at [] k d h r e = absurd (omega arith)
ok_at (x ∷ xs) zero d h r e = (x, e)
ok_at (x ∷ xs) (suc k) d h r e = ok_at xs k d (omega arith) r e

map_in : {A B : Type 0} → (f : A → B) (x : A) (xs : List A) → In x xs → In (f x) (map f xs)
map_in f x [] h = absurd h
map_in f x (y ∷ ys) (inl e) = inl (ap f e)
map_in f x (y ∷ ys) (inr h) = inr (map_in f x ys h)

pub some_of : {A : Type 0} → (xs : List A) → 0 < length xs → A
some_of [] h = absurd (omega arith)
some_of (x ∷ xs) h = x

view_number : (n k : ℕ) → (new_view n k).number ≡ k
view_number n zero = refl
view_number n (suc k) = refl

view_idle : (n k : ℕ) → IsIdle (new_view n k)
view_idle n zero = record { live = refl; hand = refl; holds = refl; debt = refl }
view_idle n (suc k) = record { live = refl; hand = refl; holds = refl; debt = refl }

module _ {S : Type 0} (id : TableId) (n : ℕ) (seats : List P) (before : List (Worker S)) (new : AreSeated id n seats) (packed : Packed seats before) where
  count : length before ≡ n
  count = sym (length_map seat_of before) ∙ (ap length packed ∙ new.len)

  -- the seat of member k
  pub member_seat : (k : ℕ) (d : Worker S) → k < n → (get_or before k d).seat ≡ (id, new_view n k)
  member_seat k d h = sym (get_map seat_of before k d) ∙ (ap (λ (x : List P). get_or x k (seat_of d)) packed
      ∙ (any_default seats k (seat_of d) (id, spent) (let a = new.len in omega arith) ∙ new.each k h))

  pub ready : (k : ℕ) (d : Worker S) → k < length before → IsReady id (get_or before k d)
  ready k d h = let e = member_seat k d (let c = count in omega arith) in (ap (λ (p : P). p.0) e, subst IsIdle (sym (ap (λ (p : P). p.1) e)) (view_idle n k))

  module _ (budget : ℕ) (after : List (Worker S)) (len : length after ≡ length before) (back : (k : ℕ) (d : Worker S) → k < length before → IsBack id budget (get_or before k d) (get_or after k d)) (seats' : List P) (reports : List Report) (out : Unpacked after seats' reports) where
    pub all_reports : length reports ≡ n
    all_reports = sym (length_map Ok reports) ∙ (ap length (sym out.reports_are) ∙ (length_map (λ (w : Worker S). w.report) after ∙ (len ∙ count)))

    on_ok : {X : Type 0} → (r : Result Report AllocError) (x : Report) → r ≡ Ok x → OnOk r X → X
    on_ok {X} r x e h = subst (λ (y : Result Report AllocError). OnOk y X) e h

    reported : (k : ℕ) (d : Worker S) → k < n → (x : Report) × ((get_or after k d).report ≡ Ok x)
    reported k d h =
        let e : (get_or after k d).report ≡ get_or (map Ok reports) k d.report = sym (get_map (λ (w : Worker S). w.report) after k d) ∙ ap (λ (x : List (Result Report AllocError)). get_or x k d.report) out.reports_are in
        ok_at reports k d.report (let b = all_reports in omega arith) (get_or after k d).report e

    back_at : (k : ℕ) (d : Worker S) → k < n → ((get_or after k d).seat.0 ≡ id) × IsIdle (get_or after k d).seat.1 × ((get_or after k d).seat.1.number ≡ k)
    back_at k d h =
        let b = back k d (let c = count in omega arith) in
        let r = reported k d h in
        let i = on_ok (get_or after k d).report r.0 r.1 b.idle in
        let num : (get_or after k d).seat.1.number ≡ (get_or before k d).seat.1.number = on_ok (get_or after k d).report r.0 r.1 b.number in
        (i.0, i.1, num ∙ (ap (λ (p : P). p.1.number) (member_seat k d h) ∙ view_number n k))

    are_all_by : (d : Worker S) → AreAll id n seats'
    are_all_by d = record {
      each = λ p i. let w = in_at seats' p i in
          let l : w.0 < n = (let a : length seats' ≡ length after = ap length out.seats_are ∙ length_map seat_of after in let b = count in let c = w.1 in omega arith) in
          let b = back_at w.0 d l in
          let e : (get_or after w.0 d).seat ≡ p = sym (get_map seat_of after w.0 d) ∙ (ap (λ (x : List P). get_or x w.0 (seat_of d)) (sym out.seats_are) ∙ w.2 (seat_of d)) in
          (ap (λ (q : P). q.0) (sym e) ∙ b.0, subst (λ (q : P). IsIdle q.1) e b.1);
      has = λ j h. let b = back_at j d h in
          let e : get_or seats' j (seat_of d) ≡ (get_or after j d).seat = ap (λ (x : List P). get_or x j (seat_of d)) out.seats_are ∙ get_map seat_of after j d in
          let l : j < length seats' = (let a : length seats' ≡ length after = ap length out.seats_are ∙ length_map seat_of after in let c = count in omega arith) in
          (get_or seats' j (seat_of d), get_in seats' j (seat_of d) l, ap (λ (q : P). q.1.number) e ∙ b.2);
    }

    pub are_all : 0 < n → AreAll id n seats'
    are_all h = are_all_by (some_of before (let c = count in omega arith))

    pub found_zero : (report : Report) → In report reports → report.left ≡ Zero → (v : View) × In v (views_of seats') × In (Pending 0) v.findings
    found_zero report i z =
        let w = in_at reports report i in
        let k : ℕ = w.0 in
        let l : k < n = (let a = all_reports in let b = w.1 in omega arith) in
        let d : Worker S = some_of before (let c = count in omega arith) in
        let e : (get_or after k d).report ≡ get_or (map Ok reports) k d.report = sym (get_map (λ (x : Worker S). x.report) after k d) ∙ ap (λ (x : List (Result Report AllocError)). get_or x k d.report) out.reports_are in
        let r : (get_or after k d).report ≡ Ok report = e ∙ (any_default (map Ok reports) k d.report (Ok report) (subst (λ (m : ℕ). k < m) (sym (length_map Ok reports)) w.1) ∙ (get_map Ok reports k report ∙ ap Ok (w.2 report))) in
        let b = back k d (let c = count in omega arith) in
        let rep : IsReport budget (get_or after k d).seat.1 report = subst (λ (y : Result Report AllocError). IfOk y (λ (x : Report). IsReport budget (get_or after k d).seat.1 x)) r b.is_report in
        let pend : In (Pending 0) (get_or after k d).seat.1.findings = subst (λ (x : Left). FoundZero x (get_or after k d).seat.1) z rep.left in
        let e2 : get_or seats' k (seat_of d) ≡ (get_or after k d).seat = ap (λ (x : List P). get_or x k (seat_of d)) out.seats_are ∙ get_map seat_of after k d in
        let l2 : k < length seats' = (let a : length seats' ≡ length after = ap length out.seats_are ∙ length_map seat_of after in let c = count in omega arith) in
        let mine : In (get_or seats' k (seat_of d)).1 (views_of seats') = map_in (λ (p : P). p.1) (get_or seats' k (seat_of d)) seats' (get_in seats' k (seat_of d) l2) in
        ((get_or after k d).seat.1, subst (λ (q : P). In q.1 (views_of seats')) e2 mine, pend)

pub whole : {A : Type 0} → (xs ys : List A) (n : ℕ) → length xs ≡ length ys → n ≡ length ys → take n (xs ++ drop (length xs) ys) ≡ xs
whole [] [] n h e = ap (λ (k : ℕ). take k []) e
whole [] (y ∷ ys) n h e = absurd (omega arith)
whole (x ∷ xs) [] n h e = absurd (omega arith)
whole (x ∷ xs) (y ∷ ys) zero h e = absurd (omega arith)
whole (x ∷ xs) (y ∷ ys) (suc n) h e = λ i. x ∷ whole xs ys n (omega arith) (omega arith) i
