-- What the machine keeps, as configurations name it.
use Rattle.std.specs.Prelude.{◌≡◌, ℕ, ◌+◌, List, [], ◌∷◌, ◌++◌, length, take, drop, Bool, true, false}
use Rattle.std.specs.List.{sum_by}
use Rattle.hph_wasm.specs.declared.instr.Instr.{Instr, If'}
use Rattle.hph_wasm.specs.declared.value.Value.{Value}
use Rattle.hph_wasm.specs.Rows.{else_size}
use Rattle.hph_wasm.specs.Configuration.{Label, Frame}
use Rattle.hph_wstate.specs.declared.layers.Side.{Side}
use Rattle.hph_wstate.specs.declared.layers.Side.TheVariants.{Loop, Then}
use Rattle.hph_wstate.specs.declared.layers.Entered.{Entered}
use Rattle.hph_wstate.specs.declared.layers.Caller.{Caller}

-- A running configuration without the host's state.
pub record Core : Type 0 where
  pub code : List Instr
  pub values : List Value
  pub locals : List Value
  pub labels : List Label
  pub frames : List Frame
  pub memory : List ℕ
  pub globals : List Value

-- What the machine keeps beside its stacks.
pub record Held : Type 0 where
  pub locals : List Value
  pub memory : List ℕ
  pub globals : List Value

-- How many values are given.
abbrev pub count : Bool → ℕ
count true = 1
count false = 0

-- What a branch goes on with, in front of what is behind the block.
abbrev pub continuation_of : Side → List Instr → List Instr
continuation_of Loop here = take 1 here
continuation_of _ here = []

-- What is gone on with behind a block, or at a branch to its label.
abbrev pub code_behind : Bool → Side → List Instr → List Instr
code_behind true side here = continuation_of side here ++ drop 1 here
code_behind false side here = drop 1 here

-- The opcodes between the instructions inside and those behind the block.
abbrev pub after_of : Side → List Instr → ℕ
after_of Then (If' ty shape body other ∷ rest) = 1 + else_size other
after_of _ _ = 1

-- The label of a block around these values.
abbrev pub label_around : Side → Bool → List Instr → List Value → Label
label_around side gives here values = record {
  arity = count gives;
  continuation = continuation_of side here;
  values = values;
  rest = drop 1 here;
  after = after_of side here;
}

-- Labels, the innermost first, over the values below those of the instructions that run.
abbrev pub labels_of : List Entered → List Value → List Label
labels_of [] below = []
labels_of (e ∷ es) below = label_around e.side e.gives e.here.now (take e.saved below) ∷ labels_of es (drop e.saved below)

-- The values below those of the labels.
abbrev pub under : List Entered → List Value → List Value
under [] below = below
under (e ∷ es) below = under es (drop e.saved below)

-- The frame of a call.
abbrev pub frame_around : Caller → List Label → List Value → Frame
frame_around c labels values = record {
  function = c.function;
  arity = count c.gives;
  values = values;
  rest = c.rest.now;
  locals = c.locals;
  labels = labels;
}

-- Frames, the innermost first.
abbrev pub frames_of : List Caller → List Entered → List Value → List Frame
frames_of [] es below = []
frames_of (c ∷ cs) es below =
    frame_around c (labels_of (take c.entered es) (drop c.saved below)) (take c.saved below) ∷
    frames_of cs (drop c.entered es) (under (take c.entered es) (drop c.saved below))

-- The parts as one.
abbrev pub core_of : List Instr → List Value → ℕ → List Entered → ℕ → Held → List Caller → Core
core_of code stack own es own_es held cs = record {
  code = code;
  values = take own stack;
  locals = held.locals;
  labels = labels_of (take own_es es) (drop own stack);
  frames = frames_of cs (drop own_es es) (under (take own_es es) (drop own stack));
  memory = held.memory;
  globals = held.globals;
}

-- The counts are of all values and all labels.
pub record Counts (stack : List Value) (own : ℕ) (es : List Entered) (own_es : ℕ) (cs : List Caller) : Type 0 where
  pub of_values : own + (sum_by (λ (e : Entered). e.saved) es + sum_by (λ (c : Caller). c.saved) cs) ≡ length stack
  pub of_labels : own_es + sum_by (λ (c : Caller). c.entered) cs ≡ length es
