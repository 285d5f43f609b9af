-- The combinators of effects: a reply goes on from the output, gives what its row's type says, or ends the run with the host, and is
-- the same whatever lies below.
use Rattle.std.proofs.Common.{◌≡◌, ◌≢◌, ℕ, zero, suc, ◌<◌, ◌^◌, Bool, true, false, List, [], ◌∷◌, ◌++◌, Option, None, Some, refl, subst, ap, arith}
use Rattle.std.proofs.lemmas.Bool.Decides.{nat_tests}
use Rattle.std.specs.Prelude.{Result, Ok, Err, nat_lt, if◌then◌else◌}
use Rattle.hph_wasm.specs.declared.types.ValType.{ValType}
use Rattle.hph_wasm.specs.Values.{width}
use Rattle.hph_wasm.specs.Outcome.{IsPrefix}
use Rattle.hph_wasm.specs.Integers.{truth}
use Rattle.hph_wasm.specs.Configuration.{Goes, Stops}
use Rattle.hph_php.specs.declared.fatal.Fatal.{Fatal}
use Rattle.hph_php.specs.declared.fatal.Fatal.TheVariants.{Misuse}
use Rattle.hph_php.specs.Answers.{Stop, Fails}
use Rattle.hph_php.specs.Values.{Value}
use Rattle.hph_php.specs.Imports.{word}
use Rattle.hph_php.specs.Paths.{PathStep}
use Rattle.hph_effects.specs.Hosts.{Item, a_value, a_place, a_step, class_item, in_making, HostFrame, HostState, Serving, Halted, Replied, stops, misuse, done, gives, gives_truth, gives_code, with_stack, push, on_ok, settled, found, only_if, on_top, popped_as, items_onto, all_as, popped_all}
use Rattle.hph_effects.specs.Slots.{has_slot, class_in, late_class_in, this_in, at_slot, in_class, in_late_class, on_this}
use Rattle.hph_effects.specs.Paths.{Walk, walk_onto, base_value, walked}
use Rattle.hph_effect_laws.specs.Below.{Below, over, Covers}

-- a result is there exactly where the type has one, and has as many bits
abbrev pub FitsGiven : List ValType → Option ℕ → Type 0
FitsGiven [] None = Unit {0}
FitsGiven (ty ∷ []) (Some n) = n < 2 ^ width ty
FitsGiven _ result = ⊥

-- ---- frames

same_has : (s : ℕ) (own lower : List HostFrame) → Covers own lower → has_slot s own ≡ has_slot s (own ++ lower)
same_has s [] [] covers = refl
same_has s [] (g ∷ gs) covers = absurd covers
same_has s (f ∷ fs) lower covers = refl

same_class : (own lower : List HostFrame) → Covers own lower → class_in own ≡ class_in (own ++ lower)
same_class [] [] covers = refl
same_class [] (g ∷ gs) covers = absurd covers
same_class (f ∷ fs) lower covers = refl

same_late : (own lower : List HostFrame) → Covers own lower → late_class_in own ≡ late_class_in (own ++ lower)
same_late [] [] covers = refl
same_late [] (g ∷ gs) covers = absurd covers
same_late (f ∷ fs) lower covers = refl

same_this : (own lower : List HostFrame) → Covers own lower → this_in own ≡ this_in (own ++ lower)
same_this [] [] covers = refl
same_this [] (g ∷ gs) covers = absurd covers
same_this (f ∷ fs) lower covers = refl

-- what is done with the frame of the function that runs, or with the first frame, is done above all others
pub by_frames : (move : HostState → HostState) →
    ((h : HostState) (b : Below) → move (over (record b { frames = [] }) (record h { frames = [] })) ≡ over (record b { frames = [] }) (move (record h { frames = [] }))) →
    ((h : HostState) (b : Below) (f : HostFrame) (fs : List HostFrame) → move (over b (record h { frames = f ∷ fs })) ≡ over b (move (record h { frames = f ∷ fs }))) →
    (h : HostState) (b : Below) → Covers h.frames b.frames → move (over b h) ≡ over b (move h)
by_frames move first inner h b covers = by_own h.frames b.frames covers
  where
    by_own : (own lower : List HostFrame) → Covers own lower →
        move (over (record b { frames = lower }) (record h { frames = own })) ≡ over (record b { frames = lower }) (move (record h { frames = own }))
    by_own [] [] covers = first h b
    by_own [] (g ∷ gs) covers = absurd covers
    by_own (f ∷ fs) lower covers = inner h (record b { frames = lower }) f fs

-- a reply that goes on from an output, and that over what lies below
abbrev pub Holds : Below → List ℕ → List ValType → Replied → Replied → Type 0
Holds b out results (Goes (Serving h) result) reply =
    IsPrefix out h.core.out × (FitsGiven results result × (reply ≡ Goes (Serving (over b h)) result))
Holds b out results (Goes (Halted o stop) result) reply = ⊥
Holds b out results (Stops (Serving h) reason) reply = ⊥
Holds b out results (Stops (Halted o stop) reason) reply =
    IsPrefix out o × ((stop ≡ reason) × (reason ≢ Fails Misuse → reply ≡ Stops (Halted o stop) reason))

pub record IsSound (b : Below) (out : List ℕ) (results : List ValType) (reply over_reply : Replied) : Type 0 where
  pub holds : Holds b out results reply over_reply

-- where a row is called, and where it has taken items: what is printed, and the frames
pub record Stands (b : Below) (out now : List ℕ) (own : List HostFrame) : Type 0 where
  pub grew : IsPrefix out now
  pub covers : Covers own b.frames

abbrev pub At : Below → List ℕ → HostState → Type 0
At b out h = Stands b out h.core.out h.frames

module _ {b : Below} {out : List ℕ} {results : List ValType} where
  pub stopped : (stop : Stop) (h : HostState) → IsPrefix out h.core.out → IsSound b out results (stops stop h) (stops stop (over b h))
  stopped stop h grew = record { holds = (grew, (refl, λ _. refl)) }

  pub misused : (h : HostState) → At b out h → (reply : Replied) → IsSound b out results (misuse h) reply
  misused h s reply = record { holds = (s.grew, (refl, λ not. absurd (not refl))) }

  pub by_result : {A : Type 0} (r : Result A Fatal) (h : HostState) → At b out h → {go over_go : A → Replied} →
      ((a : A) → IsSound b out results (go a) (over_go a)) → IsSound b out results (on_ok r h go) (on_ok r (over b h) over_go)
  by_result (Ok a) h s goes = goes a
  by_result (Err kind) h s goes = stopped (Fails kind) h s.grew

  pub by_found : {A : Type 0} (o : Option A) (h : HostState) → At b out h → {go over_go : A → Replied} →
      ((a : A) → IsSound b out results (go a) (over_go a)) → IsSound b out results (found o h go) (found o (over b h) over_go)
  by_found None h s goes = misused h s _
  by_found (Some a) h s goes = goes a

  pub where_true : (test : Bool) (h : HostState) → At b out h → {go over_go : Replied} →
      IsSound b out results go over_go → IsSound b out results (only_if test h go) (only_if test (over b h) over_go)
  where_true true h s goes = goes
  where_true false h s goes = misused h s _

  pub either : (test : Bool) → {x over_x y over_y : Replied} → IsSound b out results x over_x → IsSound b out results y over_y →
      IsSound b out results (if test then x else y) (if test then over_x else over_y)
  either true goes other = goes
  either false goes other = other

  -- ---- items

  on_top_is : (stack : List Item) (h : HostState) → At b out h → (go over_go : Item → HostState → Replied) →
      ((item : Item) (g : HostState) → At b out g → IsSound b out results (go item g) (over_go item (over b g))) →
      IsSound b out results (on_top stack h go) (on_top (stack ++ b.stack) (over b h) over_go)
  on_top_is [] h s go over_go goes = misused h s _
  on_top_is (item ∷ stack) h s go over_go goes = goes item (with_stack stack h) s

  pub took : {A : Type 0} (sort : Item → Option A) (h : HostState) → At b out h → (go over_go : A → HostState → Replied) →
      ((a : A) (g : HostState) → At b out g → IsSound b out results (go a g) (over_go a (over b g))) →
      IsSound b out results (popped_as sort h go) (popped_as sort (over b h) over_go)
  took sort h s go over_go goes = on_top_is h.stack h s (λ item below. found (sort item) h (λ a. go a below))
      (λ item below. found (sort item) (over b h) (λ a. over_go a below))
      (λ item g t. by_found (sort item) h s (λ a. goes a g t))

  items_are : (above : List Item) (n : ℕ) (stack : List Item) (h : HostState) → At b out h →
      (go over_go : List Item × List Item → Replied) →
      ((items rest : List Item) → IsSound b out results (go (items, rest)) (over_go (items, rest ++ b.stack))) →
      IsSound b out results (found (items_onto above n stack) h go) (found (items_onto above n (stack ++ b.stack)) (over b h) over_go)
  items_are above zero stack h s go over_go goes = goes above stack
  items_are above (suc n) [] h s go over_go goes = misused h s _
  items_are above (suc n) (x ∷ stack) h s go over_go goes = items_are (x ∷ above) n stack h s go over_go goes

  pub took_all : {A : Type 0} (sort : Item → Option A) (n : ℕ) (h : HostState) → At b out h → (go over_go : List A → HostState → Replied) →
      ((xs : List A) (g : HostState) → At b out g → IsSound b out results (go xs g) (over_go xs (over b g))) →
      IsSound b out results (popped_all sort n h go) (popped_all sort n (over b h) over_go)
  took_all sort n h s go over_go goes = items_are [] n h.stack h s
      (λ items. found (all_as sort items.0) h (λ xs. go xs (with_stack items.1 h)))
      (λ items. found (all_as sort items.0) (over b h) (λ xs. over_go xs (with_stack items.1 (over b h))))
      (λ items rest. by_found (all_as sort items) h s (λ xs. goes xs (with_stack rest h) s))

  -- ---- paths

  walk_is : (behind : List PathStep) (d : ℕ) (stack : List Item) (h : HostState) → At b out h → (go over_go : Walk → Replied) →
      ((base : Item) (steps : List PathStep) (below : List Item) → IsSound b out results
      (go (record { base = base; steps = steps; below = below })) (over_go (record { base = base; steps = steps; below = below ++ b.stack }))) →
      IsSound b out results (found (walk_onto behind d stack) h go) (found (walk_onto behind d (stack ++ b.stack)) (over b h) over_go)
  walk_is behind zero [] h s go over_go goes = misused h s _
  walk_is behind zero (base ∷ stack) h s go over_go goes = goes base behind stack
  walk_is behind (suc d) [] h s go over_go goes = misused h s _
  walk_is behind (suc d) (a_step step ∷ stack) h s go over_go goes = walk_is (step ∷ behind) d stack h s go over_go goes
  walk_is behind (suc d) (a_value v ∷ stack) h s go over_go goes = misused h s _
  walk_is behind (suc d) (a_place l ∷ stack) h s go over_go goes = misused h s _
  walk_is behind (suc d) (class_item class ∷ stack) h s go over_go goes = misused h s _
  walk_is behind (suc d) (in_making class properties ∷ stack) h s go over_go goes = misused h s _

  pub walks : (d : ℕ) (h : HostState) → At b out h → (go over_go : Item → List PathStep → Option Value → HostState → Replied) →
      ((base : Item) (steps : List PathStep) (place : Option Value) (g : HostState) → At b out g →
      IsSound b out results (go base steps place g) (over_go base steps place (over b g))) →
      IsSound b out results (walked d h go) (walked d (over b h) over_go)
  walks d h s go over_go goes = walk_is [] d h.stack h s
      (λ w. found (base_value h.core.places w.base) h (λ place. go w.base w.steps place (with_stack w.below h)))
      (λ w. found (base_value h.core.places w.base) (over b h) (λ place. over_go w.base w.steps place (with_stack w.below (over b h))))
      (λ base steps below. by_found (base_value h.core.places base) h s (λ place. goes base steps place (with_stack below h) s))

  -- ---- frames

  pub in_slot : (n : ℕ) (h : HostState) → At b out h → {go over_go : Replied} → IsSound b out results go over_go →
      IsSound b out results (at_slot n h go) (at_slot n (over b h) over_go)
  in_slot n h s {go} {over_go} goes = subst (λ has. IsSound b out results (at_slot n h go) (only_if has (over b h) over_go))
      (same_has n h.frames b.frames s.covers) (where_true (has_slot n h.frames) h s goes)

  pub by_class : (h : HostState) → At b out h → (go over_go : Option ℕ → Replied) →
      ((class : Option ℕ) → IsSound b out results (go class) (over_go class)) →
      IsSound b out results (in_class h go) (in_class (over b h) over_go)
  by_class h s go over_go goes = subst (λ class. IsSound b out results (in_class h go) (over_go class))
      (same_class h.frames b.frames s.covers) (goes (class_in h.frames))

  pub by_late : (h : HostState) → At b out h → (go over_go : Option ℕ → Replied) →
      ((class : Option ℕ) → IsSound b out results (go class) (over_go class)) →
      IsSound b out results (in_late_class h go) (in_late_class (over b h) over_go)
  by_late h s go over_go goes = subst (λ class. IsSound b out results (in_late_class h go) (over_go class))
      (same_late h.frames b.frames s.covers) (goes (late_class_in h.frames))

  pub by_this : (h : HostState) → At b out h → (go over_go : Option ℕ → Replied) →
      ((object : Option ℕ) → IsSound b out results (go object) (over_go object)) →
      IsSound b out results (on_this h go) (on_this (over b h) over_go)
  by_this h s go over_go goes = subst (λ object. IsSound b out results (on_this h go) (over_go object))
      (same_this h.frames b.frames s.covers) (goes (this_in h.frames))

-- ---- replies

pub truth_fits : (test : Bool) → truth test < 2 ^ 32
truth_fits true = omega arith
truth_fits false = omega arith

nat_lt_small : (code : ℕ) → nat_lt code (2 ^ 32) ≡ true → code < 2 ^ 32
nat_lt_small code small = grind (arith, nat_tests, small)

module _ {b : Below} {out : List ℕ} where
  pub finished : (h : HostState) → IsPrefix out h.core.out → IsSound b out [] (done h) (done (over b h))
  finished h grew = record { holds = (grew, (tt, refl)) }

  -- after a move that is the same over what lies below
  pub moved : (h g : HostState) → g ≡ over b h → IsPrefix out h.core.out → IsSound b out [] (done h) (done g)
  moved h g same grew = record { holds = (grew, (tt, ap (λ g. Goes (Serving g) None) same)) }

  pub settles : (r : Result Value Fatal) (h : HostState) → At b out h → IsSound b out [] (settled r h) (settled r (over b h))
  settles r h s = by_result r h s (λ v. finished (push v h) s.grew)

  pub gives_small : (n : ℕ) (h : HostState) → n < 2 ^ 32 → IsPrefix out h.core.out → IsSound b out word (gives n h) (gives n (over b h))
  gives_small n h small grew = record { holds = (grew, (small, refl)) }

  pub truly : (test : Bool) (h : HostState) → IsPrefix out h.core.out → IsSound b out word (gives_truth test h) (gives_truth test (over b h))
  truly test h grew = gives_small (truth test) h (truth_fits test) grew

  pub codes : (code : ℕ) (h : HostState) → At b out h → IsSound b out word (gives_code code h) (gives_code code (over b h))
  codes code h s = by_size (nat_lt code (2 ^ 32)) (nat_lt_small code)
    where
      by_size : (small : Bool) → (small ≡ true → code < 2 ^ 32) →
          IsSound b out word (if small then gives code h else misuse h) (if small then gives code (over b h) else misuse (over b h))
      by_size true is = gives_small code h (is refl) s.grew
      by_size false is = misused h s _
