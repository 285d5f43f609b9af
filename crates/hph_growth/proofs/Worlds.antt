-- Two worlds, of which one agrees with the other where its answers have come.
use Rattle.std.proofs.Common.{ℕ, List}
use Rattle.hph_php.specs.Values.{Value}
use Rattle.hph_php.specs.State.{Name}
use Rattle.hph_php.specs.Answers.{Means}
use Rattle.hph_php.specs.World.{World, Receiver, Argument}
use Rattle.hph_growth.specs.Growth.{Grows, WorldGrows}

-- as one value
pub record Worlds : Type 0 where
  pub call : ℕ → Receiver → List Argument → Means Value
  pub later_call : ℕ → Receiver → List Argument → Means Value
  pub enter : ℕ → Means (Unit {0})
  pub later_enter : ℕ → Means (Unit {0})
  pub constant : ℕ → Means Value
  pub later_constant : ℕ → Means Value
  pub initial : ℕ → Means Value
  pub later_initial : ℕ → Means Value
  pub initials : ℕ → Means (List (Name × Value))
  pub later_initials : ℕ → Means (List (Name × Value))
  pub calls : (code : ℕ) (on : Receiver) (args : List Argument) → Grows (call code on args) (later_call code on args)
  pub enters : (file : ℕ) → Grows (enter file) (later_enter file)
  pub constants : (code : ℕ) → Grows (constant code) (later_constant code)
  pub initial_values : (code : ℕ) → Grows (initial code) (later_initial code)
  pub all_initials : (code : ℕ) → Grows (initials code) (later_initials code)

abbrev pub earlier : Worlds → World
earlier ws = record {
  call = ws.call;
  enter = ws.enter;
  constant = ws.constant;
  initial = ws.initial;
  initials = ws.initials;
}

abbrev pub later : Worlds → World
later ws = record {
  call = ws.later_call;
  enter = ws.later_enter;
  constant = ws.later_constant;
  initial = ws.later_initial;
  initials = ws.later_initials;
}

worlds_of : {w w' : World} → WorldGrows w w' → Worlds
worlds_of {w} {w'} p = record {
  call = w.call;
  later_call = w'.call;
  enter = w.enter;
  later_enter = w'.enter;
  constant = w.constant;
  later_constant = w'.constant;
  initial = w.initial;
  later_initial = w'.initial;
  initials = w.initials;
  later_initials = w'.initials;
  calls = p.calls;
  enters = p.enters;
  constants = p.constants;
  initial_values = p.initial_values;
  all_initials = p.all_initials;
}

-- what holds of these worlds holds of both
pub between : {w w' : World} (p : WorldGrows w w') (P : World → World → Type 0) → ((ws : Worlds) → P (earlier ws) (later ws)) → P w w'
unfolding worlds_of
between {w} {w'} p P holds = holds (worlds_of p)
