-- Configurations (Core Specification 1.0, 4.2), seen from the instruction that is next outwards through labels and frames.
-- Stacks of values have the last value first.
use Rattle.std.specs.Prelude.{ℕ, List, Option}
use Rattle.hph_wasm.specs.declared.instr.Instr.{Instr}
use Rattle.hph_wasm.specs.declared.value.Value.{Value}
use Rattle.hph_wasm.specs.declared.types.FuncType.{FuncType}
use Rattle.hph_wasm.specs.Outcome.{End}

-- What a host does at a call: it goes on, with a result or none, or ends the run.
pub data Reply (H E : Type 0) : Type 0 where
  Goes : (host : H) → (result : Option ℕ) → Reply H E
  Stops : (host : H) → (reason : E) → Reply H E

-- A host with states H that ends runs for reasons E (4.4.7.3): the row of each of its functions, by the names of its module and
-- its own and by its type; what a row's function does, by the arguments, the first one first, and the memory; and what has
-- been printed.
pub record Host (H E : Type 0) : Type 0 where
  pub row : (module_name name : List ℕ) → FuncType → Option ℕ
  pub effect : (row : ℕ) → H → (arguments memory : List ℕ) → Reply H E
  pub output : H → List ℕ

-- A label (4.2.12.2): how many values a branch to it takes and what it goes on with; the values and instructions outside;
-- and how many opcodes stand between the instructions inside and those.
pub record Label : Type 0 where
  pub arity : ℕ
  pub continuation : List Instr
  pub values : List Value
  pub rest : List Instr
  pub after : ℕ

-- A frame (4.2.12.3): the number of the function that runs, how many values it returns, and what its caller goes on with.
pub record Frame : Type 0 where
  pub function : ℕ
  pub arity : ℕ
  pub values : List Value
  pub rest : List Instr
  pub locals : List Value
  pub labels : List Label

-- What outlives all calls (4.2.3). Tables never change, so a module's is known without it.
pub record Store (H : Type 0) : Type 0 where
  pub host : H
  pub memory : List ℕ
  pub globals : List Value

-- What stands around the instructions that run: the locals and labels of their function, and the frames from theirs outwards.
pub record Setting (H : Type 0) : Type 0 where
  pub locals : List Value
  pub labels : List Label
  pub frames : List Frame
  pub store : Store H

-- Instructions that run on a stack of values; a call between its two reductions, with what its caller goes on with; what is
-- left where an instruction has trapped, or where no rule applies; and the end of a run.
pub data Configuration (H E : Type 0) : Type 0 where
  Running : (code : List Instr) → (values : List Value) → (at : Setting H) → Configuration H E
  Calling : (function : ℕ) → (rest : List Instr) → (values : List Value) → (at : Setting H) → Configuration H E
  Trapped : (code : List Instr) → (at : Setting H) → Configuration H E
  Stuck : (code : List Instr) → (at : Setting H) → Configuration H E
  Ended : (end : End E) → (host : H) → Configuration H E
