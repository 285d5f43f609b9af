-- What it is that code of a module does what a part of a program means, whatever stands around it. Of what stands around nothing is
-- assumed: not of the instructions behind the code, nor of the values and labels, the frames, the items of the operand stack and of
-- the hold stack that were there before. This project's own.
use Rattle.std.specs.Prelude.{◌≡◌, ℕ, true, ◌+◌, ◌*◌, ◌≤◌, List, [], ◌∷◌, ◌++◌, length, take, drop, All, Option, None, Some, slice_get}
use Rattle.std.specs.Option.{option_map_or}
use Rattle.hph_wasm.specs.declared.instr.Instr.{Instr, Call}
use Rattle.hph_wasm.specs.declared.value.Value.{Value as Word}
use Rattle.hph_wasm.specs.declared.types.FuncType.{FuncType}
use Rattle.hph_wasm.specs.declared.module.Import.{Import}
use Rattle.hph_wasm.specs.declared.module.Module.{Module}
use Rattle.hph_wasm.specs.Functions.{functions, Imported}
use Rattle.hph_wasm.specs.Outcome.{Outcome}
use Rattle.hph_wasm.specs.Outcome as outcome
use Rattle.hph_wasm.specs.Configuration.{Label, Frame, Setting, Configuration, Running}
use Rattle.hph_wasm.specs.Reduction.{reduce}
use Rattle.hph_wasm.specs.Run.{outcome_of}
use Rattle.hph_php.specs.Values.{Value}
use Rattle.hph_php.specs.Imports.{import_row}
use Rattle.hph_php.specs.Imports as php
use Rattle.hph_php.specs.State.{State, Name, Variables, Heap, named, variables_in}
use Rattle.hph_php.specs.State as state
use Rattle.hph_php.specs.Declarations.{Codes, code_numbered}
use Rattle.hph_php.specs.Invariants.{IsDeclared, FitsCode}
use Rattle.hph_php.specs.Answers.{Means, Answer, Gets, Ends, More, Stop}
use Rattle.hph_effects.specs.declared.row.Row.{Row}
use Rattle.hph_effects.specs.Rows.{row_number, row_import}
use Rattle.hph_effects.specs.Hosts.{Item, a_value, Held, Slots, HostFrame, HostState, HostStatus, Serving}
use Rattle.hph_effects.specs.Slots.{by_slot, class_in, has_slot, frames_with}
use Rattle.hph_effects.specs.Effects.{php1}

abbrev pub Conf : Type 0
Conf = Configuration HostStatus Stop

-- ---- answers

-- Some j reductions within a budget b, by which n units become n'. Each unit may take u reductions, and takes at least one.
pub record Spent (u b n n' j : ℕ) : Type 0 where
  pub kept : n' ≤ n
  pub least : n ≤ n' + j
  pub most : j + u * n' ≤ b + u * n

abbrev pub ended : List ℕ → Stop → Outcome Stop
ended out stop = record { output = out; end = outcome.Stopped stop }

abbrev pub unfinished : List ℕ → Outcome Stop
unfinished out = record { output = out; end = outcome.More }

-- From a configuration the module comes to what the answer says: to a configuration that has what was got, to the same end with the
-- same output, or, where the units didn't suffice, to the same output by no fewer reductions than units.
abbrev pub Follows : {A : Type 0} → Module → ℕ → (A → State → Conf → Type 0) → ℕ → ℕ → Conf → Answer A → Type 0
Follows m u Goal b n c (Gets a n' st) = (j : ℕ) × Goal a st (reduce php1 m j c) × Spent u b n n' j
Follows m u Goal b n c (Ends stop st) =
    (j : ℕ) × (outcome_of php1 m (reduce php1 m j c) ≡ ended st.core.out stop) × (j ≤ b + u * n)
Follows m u Goal b n c (More st) =
    (j : ℕ) × (outcome_of php1 m (reduce php1 m j c) ≡ unfinished st.core.out) × (n ≤ j) × (j ≤ b + u * n)

-- ---- what is known of a module, and of the function whose code it is

-- The type of a row in the table of imports, and its call: each row is imported under its number.
abbrev pub type_of : Row → FuncType
type_of row = option_map_or (λ (i : php.Import). i.type) (row_import row) (record { params = []; results = [] })

abbrev pub call : Row → Instr
call row = Call (row_number row)

pub record IsRow (m : Module) (row : Row) : Type 0 where
  pub import : Import
  pub type : ℕ
  pub there : slice_get (functions m) (row_number row) ≡ Some (Imported import type)
  pub typed : slice_get m.types type ≡ Some (type_of row)
  pub numbered : import_row import.«module» import.name (type_of row) ≡ Some (row_number row)

-- A module, its program, and what a unit pays for; where the bytes of literals lie; the slots of names in the function and in the
-- first frame, different ones for different names; and the function's class and scratch local.
pub record Setup : Type 0 where
  pub m : Module
  pub program : Codes
  pub u : ℕ
  pub memory : List ℕ
  pub words : List Word
  pub place : List ℕ → Option ℕ
  pub global_slot : Name → Option ℕ
  pub slot : Name → Option ℕ
  pub class : Option ℕ
  pub scratch : ℕ
  pub rows : (row : Row) → IsRow m row
  pub literals : (bytes : List ℕ) (p : ℕ) → place bytes ≡ Some p →
      (p + length bytes ≤ length memory) × (take (length bytes) (drop p memory) ≡ bytes)
  pub one_slot : (a b : Name) (i : ℕ) → slot a ≡ Some i → slot b ≡ Some i → a ≡ b
  pub one_global : (a b : Name) (i : ℕ) → global_slot a ≡ Some i → global_slot b ≡ Some i → a ≡ b

-- ---- what stands around code

-- Where code runs: the locals before and behind the scratch one; the frames of the host with that of the function first, and none at
-- the top level; and the slots of the function and of the first frame at an earlier moment, since which locations are kept.
pub record Situation : Type 0 where
  pub front : List Word
  pub behind : List Word
  pub hosts : List HostFrame
  pub since : Slots
  pub since_globals : Slots

-- The instructions behind it, the values below, the labels and frames outside, and on the host the items and holds below.
pub record Around : Type 0 where
  pub rest : List Instr
  pub values : List Word
  pub labels : List Label
  pub frame : Frame
  pub frames : List Frame
  pub stack : List Item
  pub holds : List Held
  pub situation : Situation

-- the slots of the function that runs, which don't count at the top level, and those of the first frame
pub record Places : Type 0 where
  pub own : Slots
  pub globals : Slots

abbrev pub current : List HostFrame → Places → Slots
current [] p = p.globals
current (f ∷ fs) p = p.own

abbrev pub located : Slots → ℕ → Option ℕ
located slots i = by_slot.find i slots

-- The frames of the host and those of the program are both none, or their first ones agree.
abbrev pub SameFrames : List HostFrame → List state.Frame → Type 0
SameFrames [] [] = Unit {0}
SameFrames (h ∷ hs) (f ∷ fs) = (h.static_class ≡ f.static_class) × (h.object ≡ f.object)
SameFrames _ _ = ⊥

-- Each name's slot has its location.
abbrev pub SameVariables : (Name → Option ℕ) → Slots → Variables → Type 0
SameVariables slot slots variables = (name : Name) (i : ℕ) → slot name ≡ Some i → located slots i ≡ named name variables

-- Slots keep the locations that they had.
abbrev pub Keeps : (before after : Slots) → Type 0
Keeps before after = (i l : ℕ) → located before i ≡ Some l → located after i ≡ Some l

-- At the top level names have their global slots; a function leaves the locations of global slots as they are.
abbrev pub SameNames : Setup → List HostFrame → Type 0
SameNames s [] = (name : Name) → s.slot name ≡ s.global_slot name
SameNames s (f ∷ fs) = Unit {0}

abbrev pub KeepsGlobals : List HostFrame → (before after : Slots) → Type 0
KeepsGlobals [] before after = Unit {0}
KeepsGlobals (f ∷ fs) before after = Keeps before after

-- what the heap has is the program's, and each frame fits its code
pub record IsSound (program : Codes) (heap : Heap) (frames : List state.Frame) : Type 0 where
  pub declared : IsDeclared program heap
  pub fit : All (λ (f : state.Frame). FitsCode heap f (code_numbered program f.code)) frames

-- what doesn't change while the code runs
pub record Stays (s : Setup) (w : Situation) : Type 0 where
  pub class : class_in w.hosts ≡ s.class
  pub roomy : (name : Name) (i : ℕ) → s.slot name ≡ Some i → has_slot i w.hosts ≡ true
  pub names : SameNames s w.hosts
  pub scratch : length w.front ≡ s.scratch

-- The host's slots fit the variables, frames and heap of the program.
pub record Fits (s : Setup) (w : Situation) (p : Places) (frames : List state.Frame) (globals : Variables) (heap : Heap) : Type 0 where
  pub stays : Stays s w
  pub same : SameFrames w.hosts frames
  pub own : SameVariables s.slot (current w.hosts p) (variables_in frames globals)
  pub global : SameVariables s.global_slot p.globals globals
  pub kept : Keeps w.since (current w.hosts p)
  pub kept_globals : KeepsGlobals w.hosts w.since_globals p.globals
  pub sound : IsSound s.program heap frames

-- the state of the host where the program's is st: the core is the program's
abbrev pub host_of : Around → Places → List Item → State → HostState
host_of k p stack st = record {
  core = st.core;
  stack = stack;
  holds = k.holds;
  globals = p.globals;
  frames = frames_with p.own k.situation.hosts;
  declaring = None;
}

module _ (s : Setup) where
  abbrev pub setting : Around → Word → Places → List Item → State → Setting HostStatus
  setting k scratch p stack st = record {
    locals = k.situation.front ++ (scratch ∷ k.situation.behind);
    labels = k.labels;
    frames = k.frame ∷ k.frames;
    store = record { host = Serving (host_of k p stack st); memory = s.memory; globals = s.words };
  }

  -- Code is about to run on these values and this operand stack, where the state of the program is st.
  pub record Stands (k : Around) (code : List Instr) (values : List Word) (stack : List Item) (st : State) (c : Conf) : Type 0 where
    pub places : Places
    pub scratch : Word
    pub fits : Fits s k.situation places st.frames st.globals st.core.heap
    pub is : c ≡ Running (code ++ k.rest) (values ++ k.values) (setting k scratch places stack st)

  module _ (depth : ℕ) where
    -- The promise of code: from values and items that lie on the stacks, in every situation of a sort, whatever stands around it and
    -- whatever the state and the units, it does what the meaning says, and leaves in their place the values and items that stand for
    -- what is got.
    pub record Runs (Where : Situation → Type 0) {A : Type 0} (values : List Word) (items : List Item) (leaves : A → List Word)
        (gives : A → List Item) (b : ℕ) (code : List Instr) (mean : Means A) : Type 0 where
      pub by : (n : ℕ) → n ≤ depth → (st : State) (k : Around) (c : Conf) → Where k.situation → Stands k code values (items ++ k.stack) st c →
          Follows s.m s.u (λ a st c. Stands k [] (leaves a) (gives a ++ k.stack) st c) b n c (mean n st)

-- in every situation
abbrev pub Everywhere : Situation → Type 0
Everywhere w = Unit {0}

-- where a slot keeps a location
abbrev pub Pinned : ℕ → ℕ → Situation → Type 0
Pinned i l w = located w.since i ≡ Some l

-- ---- kinds of code

-- nothing, on either stack
abbrev pub no_words : {A : Type 0} → A → List Word
no_words a = []

abbrev pub no_items : {A : Type 0} → A → List Item
no_items a = []

abbrev pub one_value : Value → List Item
one_value v = a_value v ∷ []

module _ (s : Setup) (depth : ℕ) (Where : Situation → Type 0) where
  -- a value comes to lie on the operand stack
  abbrev pub Values : ℕ → List Instr → Means Value → Type 0
  Values b code mean = Runs s depth Where [] [] no_words one_value b code mean

  -- code that goes on from a value on the operand stack, which it takes
  abbrev pub After : ℕ → List Instr → (Value → Means Value) → Type 0
  After b code mean = (v : Value) → Runs s depth Where [] (one_value v) no_words one_value b code (mean v)

  -- code that leaves nothing
  abbrev pub Acts : ℕ → List Instr → Means (Unit {0}) → Type 0
  Acts b code mean = Runs s depth Where [] [] no_words no_items b code mean
