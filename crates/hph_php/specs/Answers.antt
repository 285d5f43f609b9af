-- What a part of a program does with units and a state, and how parts are joined. An answer is a value with the units and the
-- state that are left, a stop of the run, or More: a unit was needed and none was left. This project's own.
use Rattle.std.specs.Prelude.{ℕ, zero, suc, ℤ, List, [], ◌∷◌, Result, Ok, Err}
use Rattle.hph_php.specs.declared.fatal.Fatal.{Fatal}
use Rattle.hph_php.specs.State.{State, Heap, Places, on_core, on_heap, on_places, printed}

-- why a run ends before its main file does
pub data Stop : Type 0 where
  Exits : (status : ℤ) → Stop
  Fails : (kind : Fatal) → Stop

pub data Answer (A : Type 0) : Type 0 where
  Gets : (a : A) → (units : ℕ) → (st : State) → Answer A
  Ends : (stop : Stop) → (st : State) → Answer A
  More : (st : State) → Answer A

-- a meaning, from units and a state
abbrev pub Means : Type 0 → Type 0
Means A = ℕ → State → Answer A

-- goes on with what is got
abbrev pub proceed : {A B : Type 0} → Answer A → (A → Means B) → Answer B
proceed (Gets a n st) go = go a n st
proceed (Ends stop st) go = Ends stop st
proceed (More st) go = More st

abbrev pub bind : {A B : Type 0} → Means A → (A → Means B) → Means B
bind m go n st = proceed (m n st) go

-- takes a unit
abbrev pub spend : {A : Type 0} → Means A → Means A
spend m zero st = More st
spend m (suc n) st = m n st

abbrev pub give : {A : Type 0} → A → Means A
give a n st = Gets a n st

-- what has no value
abbrev pub nothing : Means (Unit {0})
nothing n st = Gets tt n st

abbrev pub end_with : {A : Type 0} → Stop → Means A
end_with stop n st = Ends stop st

abbrev pub fail : {A : Type 0} → Fatal → Means A
fail kind n st = Ends (Fails kind) st

abbrev pub settle : {A : Type 0} → Result A Fatal → Means A
settle (Ok a) n st = Gets a n st
settle (Err kind) n st = Ends (Fails kind) st

-- a look at the state
abbrev pub look : {A : Type 0} → (State → A) → Means A
look f n st = Gets (f st) n st

-- goes on by what the state is
abbrev pub by_state : {A : Type 0} → (State → Means A) → Means A
by_state f n st = f st n st

abbrev pub change : (State → State) → Means (Unit {0})
change f n st = Gets tt n (f st)

-- what a rule gives by the heap, and what a rule makes of it
abbrev pub by_heap : {A : Type 0} → (Heap → Result A Fatal) → Means A
by_heap rule = by_state (λ st. settle (rule st.core.heap))

abbrev pub change_heap : (Heap → Heap) → Means (Unit {0})
change_heap go = change (on_core (on_heap go))

abbrev pub change_places : (Places → Places) → Means (Unit {0})
change_places go = change (on_core (on_places go))

abbrev pub remake_heap : (Heap → Result Heap Fatal) → Means (Unit {0})
remake_heap rule = bind (by_heap rule) (λ heap. change_heap (λ _. heap))

-- one after the other, the second's value
abbrev pub first : {A : Type 0} → Means (Unit {0}) → Means A → Means A
first m go n st = proceed (m n st) (λ _. go)

abbrev pub print : List ℕ → Means (Unit {0})
print bytes n st = Gets tt n (on_core (printed bytes) st)

-- each in order, with the list of what they give
abbrev pub each : {A : Type 0} → List (Means A) → Means (List A)
each [] n st = Gets [] n st
each (m ∷ ms) n st = proceed (m n st) (λ a. bind (each ms) (λ rest. give (a ∷ rest)))

-- a value that goes through each in order
abbrev pub through : {A : Type 0} → List (A → Means A) → A → Means A
through [] a n st = Gets a n st
through (f ∷ fs) a n st = proceed (f a n st) (through fs)

-- each in order
abbrev pub in_order : List (Means (Unit {0})) → Means (Unit {0})
in_order [] n st = Gets tt n st
in_order (m ∷ ms) n st = proceed (m n st) (λ _. in_order ms)
