-- The invariant of states holds at the start of a run, and these changes of a state keep it. A rule changes only a part of the core.
use Rattle.std.specs.Prelude.{ℕ, List}
use Rattle.hph_php.specs.Values.{Value}
use Rattle.hph_php.specs.State.{Name, Variables, Places, State, empty_state, folded, on_core, on_places, on_heap, printed, with_variables, with_constant, with_function, enter}
use Rattle.hph_php.specs.Declarations.{Codes}
use Rattle.hph_php.specs.Invariants.{IsFunctionOf, IsSound}

abbrev pub StartIsSound : Type 0
StartIsSound = (program : Codes) → IsSound program empty_state

-- a change that keeps the invariant
abbrev pub Keeps : Codes → (State → State) → Type 0
Keeps program change = (st : State) → IsSound program st → IsSound program (change st)

pub record RulesKeepSoundness (program : Codes) : Type 0 where
  -- what prints
  pub printing : (bytes : List ℕ) → Keeps program (on_core (printed bytes))
  -- what changes locations, static variables and static properties
  pub places : (go : Places → Places) → Keeps program (on_core (on_places go))
  -- what binds and unbinds variables
  pub variables : (variables : Variables) → Keeps program (with_variables variables)
  -- what defines a constant, and what enters a file
  pub constants : (name : Name) (value : Value) → Keeps program (on_core (on_heap (with_constant name value)))
  pub entries : (file : ℕ) → Keeps program (on_core (on_heap (enter file)))
  -- what declares a function whose code is that of a function of its name
  pub functions : (name : Name) (code : ℕ) → IsFunctionOf program (folded name, code) → Keeps program (on_core (on_heap (with_function name code)))
