-- What stands around a part of a program: the code that is run from elsewhere, and where the part itself stands.
use Rattle.std.specs.Prelude.{ℕ, Bool, List, Option}
use Rattle.hph_php.specs.Values.{Value}
use Rattle.hph_php.specs.State.{Name}
use Rattle.hph_php.specs.Answers.{Means}
use Rattle.hph_php.specs.Declarations.{Codes}

-- What code is called on: nothing, for a function; a class, for a static method, as its late static class; or an object, whose
-- class is the late static class.
pub data Receiver : Type 0 where
  no_receiver : Receiver
  a_class : (static_class : ℕ) → Receiver
  an_object : (object : ℕ) → Receiver

-- an argument by value, or by reference
pub data Argument : Type 0 where
  by_value : (value : Value) → Argument
  by_reference : (location : ℕ) → Argument

-- What code does that goes by its number: a call of a function or method, a file that is entered and a class constant, each of
-- which takes a unit; and the initial value of a static property, and those of an object, which take none.
pub record World : Type 0 where
  pub call : ℕ → Receiver → List Argument → Means Value
  pub enter : ℕ → Means (Unit {0})
  pub constant : ℕ → Means Value
  pub initial : ℕ → Means Value
  pub initials : ℕ → Means (List (Name × Value))

-- the program of a part, the file and the class in which it stands, and whether it is in a function
pub record Context : Type 0 where
  pub program : Codes
  pub file : ℕ
  pub class : Option ℕ
  pub in_function : Bool
