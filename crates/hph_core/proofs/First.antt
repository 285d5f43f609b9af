-- The first state meets the rule.
use Rattle.std.proofs.Common.{◌≡◌, ◌≢◌, ℕ, zero, suc, ◌<◌, ◌≤◌, ◌+◌, ◌*◌, ◌/◌, Bool, true, false, List, [], ◌∷◌, ◌++◌, length, get_or, set, Option, None, Some, sym, refl, ap, subst, ◌∙◌, inl, inr, ◌⊎◌, ⊎_elim, arith, replicate}
use Rattle.std.proofs.lemmas.List.{length-replicate}
use mathlib.Core.Logic.{dite}
use native.Mathlib.Decide.{ℕ_discrete, dec_lt}
use Rattle.hph_type.specs.Types.{PhpType}
use Rattle.hph_core.specs.declared.view.View.{View}
use Rattle.hph_core.specs.declared.view.Finding.{Finding}
use Rattle.hph_core.specs.declared.view.Finding.TheVariants.{Pending}
use Rattle.hph_core.specs.Rule.IsDue.{in_set, in_hand, done}
use Rattle.hph_core.proofs.Types.{none_least, none_of}
use Rattle.hph_core.proofs.Sums.{sum_same}
use Rattle.hph_type.specs.Order.{Leq, IsOf}
use Rattle.hph_type.specs.Types.{none}
use Rattle.hph_sys.specs.Shape.{Shape, IsTyping}
use Rattle.hph_sys.specs.Typings.{In, at, Below}
use Rattle.hph_sys.specs.Least.{IsSolution}
use Rattle.hph_sys.specs.Lawful.{Lawful}
use Rattle.hph_core.specs.State.{WorkerState, entry, holder, member, member_of, spent, fresh, HasAll}
use Rattle.hph_core.specs.Events.{first_state, seats_from, start}
use Rattle.hph_core.specs.Rule.{Held, Seated, KeepsInvariant, sum_below, load, total, tally, weight, is_raise, is_take, is_mark, is_put_back}

module _ {A : Type 0} where
  pub get_replicate : (n i : ℕ) (a : A) → get_or (replicate n a) i a ≡ a
  get_replicate zero i a = refl
  get_replicate (suc n) zero a = refl
  get_replicate (suc n) (suc i) a = get_replicate n i a

sum_ones : (n : ℕ) (f : ℕ → ℕ) → ((j : ℕ) → j < n → f j ≡ 1) → sum_below n f ≡ n
sum_ones zero f h = refl
sum_ones (suc n) f h = let a = sum_ones n f (λ j l. h j (omega arith)) in let b = h n (omega arith) in omega arith

sum_zeros : (n : ℕ) (f : ℕ → ℕ) → ((j : ℕ) → f j ≡ 0) → sum_below n f ≡ 0
sum_zeros zero f h = refl
sum_zeros (suc n) f h = let a = sum_zeros n f h in let b = h n in omega arith

no_total : (g : Finding → ℕ) (E : ℕ → View) → ((j : ℕ) → (E j).findings ≡ []) → total g E ≡ 0
unfolding total
no_total g E h = sum_zeros 64 (λ w. tally g (E w).findings) (λ j. ap (tally g) (h j))

no_load : (E : ℕ → View) → ((j : ℕ) → weight (E j) ≡ 0) → load E ≡ 0
unfolding load
no_load E h = sum_zeros 64 (λ w. weight (E w)) h

module _ (sys : Shape) (law : Lawful sys) (work : List ℕ) (all : HasAll sys.scopes work) (vs : List View) (few : length vs ≤ 64) (new : (j : ℕ) → (get_or vs j spent ≡ fresh j) ⊎ (get_or vs j spent ≡ spent)) where
  abbrev st : WorkerState
  st = record { cells = replicate sys.cells none; holders = replicate sys.scopes 0; work = work; pending = sys.scopes; entries = vs }

  abbrev E : ℕ → View
  E = entry st

  first_entry : (j : ℕ) → (P : View → Type 0) → P (fresh j) → P spent → P (E j)
  first_entry j P a b = ⊎_elim (λ e. subst P (sym e) a) (λ e. subst P (sym e) b) (new j)

  none_found : (j : ℕ) → (E j).findings ≡ []
  none_found j = first_entry j (λ v. v.findings ≡ []) refl refl

  free : (d : ℕ) → holder st d ≡ 0
  free d = get_replicate sys.scopes d 0

  empty_cells : (c : ℕ) → at (replicate sys.cells none) c ≡ none
  empty_cells c = get_replicate sys.cells c none

  pub starts : KeepsInvariant sys st
  starts = record {
    typing = record { len = length-replicate sys.cells none; types = λ c. subst (IsOf sys.classes) (sym (empty_cells c)) (none_of sys.classes) };
    holders = length-replicate sys.scopes 0;
    work = all.len;
    few = few;
    below = λ U sol c. subst (λ (t : PhpType). Leq sys.classes t (at U c)) (sym (empty_cells c)) (none_least sys.classes (at U c));
    held = record {
      word = λ w d. first_entry w (λ v. In d v.holds → holder st d ≡ w + 1) (λ i. absurd i) (λ i. absurd i);
      hold = λ w d e. absurd (let f = free d in omega arith);
    };
    known = λ w k i. absurd (subst (In k) (first_entry w (λ v. v.known ≡ []) refl refl) i);
    marked = λ w r i. absurd (subst (In r) (first_entry w (λ v. v.marks ≡ []) refl refl) i);
    due = λ s h. in_set (all.has s h);
    owed = let a = sum_ones sys.scopes (member st) (λ j l. all.has j l) in let b = no_load E (λ j. first_entry j (λ v. weight v ≡ 0) refl refl) in omega arith;
    over = λ u i. absurd (subst (In (Pending 0)) (none_found u) i);
    hands = λ w s. first_entry w (λ v. v.hand ≡ Some s → s < sys.scopes) (λ e. absurd (cc)) (λ e. absurd (cc));
    members = λ s e. dite (dec_lt s sys.scopes) (λ l. l) (λ n. absurd (let z = all.has_not s (omega arith) in omega arith));
    seated = record {
      number = λ w. first_entry w (λ v. v.live ≡ true → v.number ≡ w) (λ _. refl) (λ l. absurd (cc));
      gone = λ w. first_entry w (λ v. v.live ≡ false → v ≡ spent) (λ l. absurd (cc)) (λ _. refl);
    };
    raises = λ c. let t = no_total (is_raise c) E none_found in omega arith;
    counted = λ s h. let a = no_total (is_take s) E none_found in let b = no_total (is_mark s) E none_found in let d = no_total (is_put_back s) E none_found in let m = all.has s h in omega arith;
  }

one_seat : (j : ℕ) → (get_or (fresh 0 ∷ []) j spent ≡ fresh j) ⊎ (get_or (fresh 0 ∷ []) j spent ≡ spent)
one_seat zero = inl refl
one_seat (suc j) = inr refl

pub first_keeps : (sys : Shape) → Lawful sys → (work : List ℕ) → HasAll sys.scopes work → KeepsInvariant sys (first_state sys work)
first_keeps sys law work all = starts sys law work all (fresh 0 ∷ []) (omega arith) one_seat

seat_from : (n k j : ℕ) → (get_or (seats_from n k) j spent ≡ fresh (k + j)) ⊎ (get_or (seats_from n k) j spent ≡ spent)
seat_from zero k j = inr refl
seat_from (suc n) k zero = inl (ap fresh (let z : k ≡ k + 0 = omega arith in z))
seat_from (suc n) k (suc j) = ⊎_elim (λ e. inl (e ∙ ap fresh (let z : suc k + j ≡ k + suc j = omega arith in z))) (λ e. inr e) (seat_from n (suc k) j)

seats_count : (n k : ℕ) → length (seats_from n k) ≡ n
seats_count zero k = refl
seats_count (suc n) k = ap suc (seats_count n (suc k))

pub start_keeps : (sys : Shape) → Lawful sys → (work : List ℕ) → HasAll sys.scopes work → (workers : ℕ) → workers ≤ 64 → KeepsInvariant sys (start sys workers work)
start_keeps sys law work all workers few = starts sys law work all (seats_from workers 0) (let a = seats_count workers 0 in omega arith)
    (λ j. ⊎_elim (λ e. inl (e ∙ ap fresh (let z : 0 + j ≡ j = omega arith in z))) (λ e. inr e) (seat_from workers 0 j))
