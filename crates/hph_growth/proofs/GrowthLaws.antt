-- Each combinator keeps that answers stay and that output grows.
use Rattle.std.proofs.Common.{◌≡◌, ◌+◌, ◌++◌, ◌≤◌, ℕ, zero, suc, List, [], ◌∷◌, refl, ap, sym, ◌∙◌, subst, arith}
use Rattle.std.proofs.lemmas.List.{append_assoc, append-nil}
use Rattle.std.specs.Prelude.{Bool, true, false, Option, None, Some, Result, Ok, Err, if◌then◌else◌}
use Rattle.std.specs.Option.{option_map_or}
use Rattle.hph_wasm.specs.Outcome.{IsPrefix}
use Rattle.hph_php.specs.declared.fatal.Fatal.{Fatal}
use Rattle.hph_php.specs.State.{State, Heap, on_core, printed}
use Rattle.hph_php.specs.Answers.{Means, Answer, Gets, Ends, More, Stop, proceed, bind, first, spend, give, nothing, by_state, by_heap, look, change, fail, end_with, settle, print, each, through, in_order}
use Rattle.hph_php.specs.Statements.{lacking}
use Rattle.hph_growth.specs.Growth.{Before, state_of, Comes, Stays, Grows}

pub prefix_itself : (l : List ℕ) → IsPrefix l l
prefix_itself l = ([], sym (append-nil l))

pub prefix_then : (x y z : List ℕ) → IsPrefix x y → IsPrefix y z → IsPrefix x z
prefix_then x y z p q = (p.0 ++ q.0, q.1 ∙ ap (λ w. w ++ q.0) p.1 ∙ append_assoc x p.0 q.0)

pub before_itself : (st : State) → Before st st
before_itself st = record { out = prefix_itself st.core.out; called = prefix_itself st.called }

pub before_then : {a b c : State} → Before a b → Before b c → Before a c
before_then {a} {b} {c} p q = record {
  out = prefix_then a.core.out b.core.out c.core.out p.out q.out;
  called = prefix_then a.called b.called c.called p.called q.called;
}

-- ---- what takes no units

pub give_grows : {A : Type 0} (a : A) → Grows (give a) (give a)
give_grows a = record {
  comes = λ n st. (omega arith, before_itself st);
  later_comes = λ n st. (omega arith, before_itself st);
  stays = λ n extra st. refl;
}

pub nothing_grows : Grows nothing nothing
nothing_grows = give_grows tt

pub end_grows : {A : Type 0} (stop : Stop) → Grows {A = A} (end_with stop) (end_with stop)
end_grows stop = record {
  comes = λ n st. before_itself st;
  later_comes = λ n st. before_itself st;
  stays = λ n extra st. refl;
}

pub fail_grows : {A : Type 0} (kind : Fatal) → Grows {A = A} (fail kind) (fail kind)
fail_grows kind = record {
  comes = λ n st. before_itself st;
  later_comes = λ n st. before_itself st;
  stays = λ n extra st. refl;
}

pub settle_grows : {A : Type 0} (r : Result A Fatal) → Grows (settle r) (settle r)
settle_grows (Ok a) = give_grows a
settle_grows (Err kind) = fail_grows kind

pub look_grows : {A : Type 0} (f : State → A) → Grows (look f) (look f)
look_grows f = record {
  comes = λ n st. (omega arith, before_itself st);
  later_comes = λ n st. (omega arith, before_itself st);
  stays = λ n extra st. refl;
}

-- a change that keeps what was printed and called
pub change_grows : (f : State → State) → ((st : State) → Before st (f st)) → Grows (change f) (change f)
change_grows f p = record {
  comes = λ n st. (omega arith, p st);
  later_comes = λ n st. (omega arith, p st);
  stays = λ n extra st. refl;
}

pub print_grows : (bytes : List ℕ) → Grows (print bytes) (print bytes)
print_grows bytes = change_grows (on_core (printed bytes)) (λ st. record { out = (bytes, refl); called = prefix_itself st.called })

-- ---- one after the other

-- the state of an answer that came
came : {A : Type 0} (n : ℕ) (st : State) (r : Answer A) → Comes n st r → Before st (state_of r)
came n st (Gets a k after) c = c.1
came n st (Ends end after) c = c
came n st (More after) c = c

-- from more units, and from a state that comes before
from_more : {A : Type 0} (n k : ℕ) (st after : State) (r : Answer A) → k ≤ n → Before st after → Comes k after r → Comes n st r
from_more n k st after (Gets a j s) h b c = (omega (arith, h, c.0), before_then b c.1)
from_more n k st after (Ends end s) h b c = before_then b c
from_more n k st after (More s) h b c = before_then b c

proceed_comes : {A B : Type 0} (n : ℕ) (st : State) (r : Answer A) (go : A → Means B) → Comes n st r →
    ((a : A) (k : ℕ) (s : State) → Comes k s (go a k s)) → Comes n st (proceed r go)
proceed_comes n st (Gets a k after) go h g = from_more n k st after (go a k after) h.0 h.1 (g a k after)
proceed_comes n st (Ends end after) go h g = h
proceed_comes n st (More after) go h g = h

proceed_stays : {A B : Type 0} (extra : ℕ) (r later : Answer A) (go go' : A → Means B) → Stays extra r later →
    ((a : A) → Grows (go a) (go' a)) → Stays extra (proceed r go) (proceed later go')
proceed_stays {B = B} extra (Gets a k after) later go go' s g =
    subst (λ x. Stays {A = B} extra (go a k after) (proceed x go')) (sym s) ((g a).stays k extra after)
proceed_stays extra (Ends end after) later go go' s g = ap (λ x. proceed x go') s
proceed_stays extra (More after) (Gets a k s') go go' s g = before_then s (came k s' (go' a k s') ((g a).later_comes k s'))
proceed_stays extra (More after) (Ends end s') go go' s g = s
proceed_stays extra (More after) (More s') go go' s g = s

pub bind_grows : {A B : Type 0} {m later : Means A} {go go' : A → Means B} → Grows m later → ((a : A) → Grows (go a) (go' a)) →
    Grows (bind m go) (bind later go')
bind_grows {m = m} {later = later} {go = go} {go' = go'} p g = record {
  comes = λ n st. proceed_comes n st (m n st) go (p.comes n st) (λ a k s. (g a).comes k s);
  later_comes = λ n st. proceed_comes n st (later n st) go' (p.later_comes n st) (λ a k s. (g a).later_comes k s);
  stays = λ n extra st. proceed_stays extra (m n st) (later (n + extra) st) go go' (p.stays n extra st) g;
}

pub first_grows : {A : Type 0} {m later : Means (Unit {0})} {go go' : Means A} → Grows m later → Grows go go' →
    Grows (first m go) (first later go')
first_grows p g = bind_grows p (λ _. g)

pub by_state_grows : {A : Type 0} {f g : State → Means A} → ((st : State) → Grows (f st) (g st)) → Grows (by_state f) (by_state g)
by_state_grows p = record {
  comes = λ n st. (p st).comes n st;
  later_comes = λ n st. (p st).later_comes n st;
  stays = λ n extra st. (p st).stays n extra st;
}

pub heap_grows : {A : Type 0} (rule : Heap → Result A Fatal) → Grows (by_heap rule) (by_heap rule)
heap_grows rule = by_state_grows (λ st. settle_grows (rule st.core.heap))

-- ---- units

-- what lacks units comes before anything
pub lacking_grows : {A : Type 0} {later : Means A} → ((n : ℕ) (st : State) → Comes n st (later n st)) → Grows lacking later
lacking_grows {later = later} p = record {
  comes = λ n st. before_itself st;
  later_comes = p;
  stays = λ n extra st. came (n + extra) st (later (n + extra) st) (p (n + extra) st);
}

spend_comes : {A : Type 0} (m : Means A) → ((n : ℕ) (st : State) → Comes n st (m n st)) → (n : ℕ) (st : State) →
    Comes n st (spend m n st)
spend_comes m p zero st = before_itself st
spend_comes m p (suc n) st = from_more (suc n) n st st (m n st) (omega arith) (before_itself st) (p n st)

spend_stays : {A : Type 0} {m later : Means A} → Grows m later → (n extra : ℕ) (st : State) →
    Stays extra (spend m n st) (spend later (n + extra) st)
spend_stays {m = m} {later = later} p zero extra st =
    came (zero + extra) st (spend later (zero + extra) st) (spend_comes later p.later_comes (zero + extra) st)
spend_stays {A = A} {m = m} {later = later} p (suc n) extra st =
    let e : suc (n + extra) ≡ suc n + extra = omega arith in
    subst (λ k. Stays {A = A} extra (m n st) (spend later k st)) e (p.stays n extra st)

pub spend_grows : {A : Type 0} {m later : Means A} → Grows m later → Grows (spend m) (spend later)
spend_grows {m = m} {later = later} p = record {
  comes = spend_comes m p.comes;
  later_comes = spend_comes later p.later_comes;
  stays = spend_stays p;
}

-- ---- choices

pub if_grows : {A : Type 0} (b : Bool) {m m' other other' : Means A} → Grows m m' → Grows other other' →
    Grows (if b then m else other) (if b then m' else other')
if_grows true p q = p
if_grows false p q = q

pub option_grows : {A B : Type 0} (o : Option A) {f g : A → Means B} {m m' : Means B} → ((a : A) → Grows (f a) (g a)) → Grows m m' →
    Grows (option_map_or f o m) (option_map_or g o m')
option_grows None p q = q
option_grows (Some a) p q = p a

-- ---- lists

pub data EachGrows {A : Type 0} : List (Means A) → List (Means A) → Type 0 where
  none : EachGrows [] []
  one_more : {m later : Means A} {ms laters : List (Means A)} → Grows m later → EachGrows ms laters →
      EachGrows (m ∷ ms) (later ∷ laters)

pub each_grows : {A : Type 0} {ms laters : List (Means A)} → EachGrows ms laters → Grows (each ms) (each laters)
each_grows none = give_grows []
each_grows (one_more p ps) = bind_grows p (λ a. bind_grows (each_grows ps) (λ rest. give_grows (a ∷ rest)))

pub in_order_grows : {ms laters : List (Means (Unit {0}))} → EachGrows ms laters → Grows (in_order ms) (in_order laters)
in_order_grows none = nothing_grows
in_order_grows (one_more p ps) = first_grows p (in_order_grows ps)

pub data ThroughGrows {A : Type 0} : List (A → Means A) → List (A → Means A) → Type 0 where
  no_step : ThroughGrows [] []
  one_step : {f g : A → Means A} {fs gs : List (A → Means A)} → ((a : A) → Grows (f a) (g a)) → ThroughGrows fs gs →
      ThroughGrows (f ∷ fs) (g ∷ gs)

pub through_grows : {A : Type 0} {fs gs : List (A → Means A)} → ThroughGrows fs gs → (a : A) → Grows (through fs a) (through gs a)
through_grows no_step a = give_grows a
through_grows (one_step p ps) a = bind_grows (p a) (through_grows ps)

-- ---- by equations

-- what relates two things relates what is equal to them
pub by_both : {A : Type 0} (R : A → A → Type 0) {x y x' y' : A} → x ≡ y → x' ≡ y' → R y y' → R x x'
by_both R {x} {y} {x'} {y'} e e' p = subst (λ z. R z x') (sym e) (subst (λ z. R y z) (sym e') p)
