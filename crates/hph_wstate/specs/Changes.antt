-- Changes of a machine, in the words of what it stands for.
use Rattle.std.specs.Prelude.{◌≡◌, ◌≤◌, ◌<◌, ℕ, List, [], ◌∷◌, ◌++◌, length, take, drop, reverse, slice_get, slice_set, option_to_list, Bool, true, false, Option, Some, None}
use Rattle.hph_wasm.specs.declared.instr.Instr.{Instr}
use Rattle.hph_wasm.specs.declared.value.Value.{Value}
use Rattle.hph_wasm.specs.declared.value.Value.TheVariants as value
use Rattle.hph_wasm.specs.declared.types.ValType.{ValType}
use Rattle.hph_wasm.specs.declared.types.ValType.TheVariants.{I32, I64}
use Rattle.hph_wasm.specs.declared.module.Func.{Func}
use Rattle.hph_wasm.specs.Values.{zero_values, value_of, type_of, types}
use Rattle.hph_wasm.specs.Configuration.{Label, Frame}
use Rattle.hph_wasm.specs.Reduction.{arguments}
use Rattle.hph_wasm.specs.Memory.{stored}
use Rattle.hph_integers.specs.declared.access.Access.{Access}
use Rattle.hph_integers.specs.Accesses.{byte_count}
use Rattle.hph_wstate.specs.declared.layers.Entered as layer
use Rattle.hph_wstate.specs.Core.{Core, count, after_of}

-- The machine stands before the instructions, in the blocks and the functions where it stood.
abbrev pub IsWithin : Core → Core → Type 0
IsWithin old new = (new.code ≡ old.code) × (new.labels ≡ old.labels) × (new.frames ≡ old.frames)

-- The machine stands in the blocks and the functions where it stood.
abbrev pub HasSameBlocks : Core → Core → Type 0
HasSameBlocks old new = (new.labels ≡ old.labels) × (new.frames ≡ old.frames)

-- No value of the type is on top.
abbrev pub HasNo : ValType → List Value → Type 0
HasNo I32 (value.I32 n ∷ values) = ⊥
HasNo I64 (value.I64 n ∷ values) = ⊥
HasNo _ _ = Unit {0}

-- A value is taken off, if it is of the type; else the machine stands where it stood.
abbrev pub Popped : ValType → Core → Option ℕ → Core → Type 0
Popped ty old (Some n) new = old ≡ record new { values = value_of ty n ∷ new.values }
Popped ty old None new = HasNo ty old.values × IsWithin old new

-- What is gone on with behind a label, or at a branch to it.
abbrev pub code_outside : Bool → Label → List Instr
code_outside true label = label.continuation ++ label.rest
code_outside false label = label.rest

-- The innermost label is left.
abbrev pub Outside : Core → Bool → Bool → Core → Type 0
Outside old again true new = (label : Label) × (labels : List Label) × (old.labels ≡ label ∷ labels) ×
    (new ≡ record old { code = code_outside again label; values = old.values ++ label.values; labels = labels })
Outside old again false new = (old.labels ≡ []) × (new ≡ old)

-- The innermost label is taken away with the values inside.
abbrev pub Skipped : Core → Bool → Core → Type 0
Skipped old true new = (label : Label) × (labels : List Label) × (old.labels ≡ label ∷ labels) ×
    (new ≡ record old { values = []; labels = labels })
Skipped old false new = (old.labels ≡ []) × (new ≡ old)

-- Whether the label takes a value.
abbrev pub TellsLabel : List Label → ℕ → Option Bool → Type 0
TellsLabel labels k (Some gives) = (label : Label) × (slice_get labels k ≡ Some label) × (label.arity ≡ count gives)
TellsLabel labels k None = length labels ≤ k

-- The label is that of a block that was entered: what is behind it, and how many opcodes stand before that.
abbrev pub LabelIs : List Label → ℕ → Option layer.Entered → Type 0
LabelIs labels k (Some e) = (label : Label) × (slice_get labels k ≡ Some label) × (label.rest ≡ drop 1 e.here.now) ×
    (label.after ≡ after_of e.side e.here.now)
LabelIs labels k None = length labels ≤ k

-- The function that runs.
abbrev pub FunctionIs : List Frame → Option ℕ → Type 0
FunctionIs frames (Some f) = (frame : Frame) × (rest : List Frame) × (frames ≡ frame ∷ rest) × (frame.function ≡ f)
FunctionIs frames None = frames ≡ []

-- Whether the innermost frame gives a value.
abbrev pub TellsFrame : List Frame → Option Bool → Type 0
TellsFrame frames (Some gives) = (frame : Frame) × (rest : List Frame) × (frames ≡ frame ∷ rest) × (frame.arity ≡ count gives)
TellsFrame frames None = frames ≡ []

-- A function is entered, if there are enough values.
abbrev pub Entered : ℕ → Bool → ℕ → Func → Core → Bool → Core → Type 0
Entered f gives params func old true new = (params ≤ length old.values) × (new ≡ record {
  code = func.body;
  values = [];
  locals = reverse (take params old.values) ++ zero_values func.locals;
  labels = [];
  frames = record {
    function = f;
    arity = count gives;
    values = drop params old.values;
    rest = old.code;
    locals = old.locals;
    labels = old.labels;
  } ∷ old.frames;
  memory = old.memory;
  globals = old.globals;
})
Entered f gives params func old false new = (length old.values < params) × (new ≡ old)

-- A local is written, if it is there.
abbrev pub LocalSet : ℕ → Value → Core → Bool → Core → Type 0
LocalSet x v old true new = (x < length old.locals) × (new ≡ record old { locals = slice_set old.locals x v })
LocalSet x v old false new = (length old.locals ≤ x) × (new ≡ old)

-- A global is written, if it is there.
abbrev pub GlobalSet : ℕ → Value → Core → Bool → Core → Type 0
GlobalSet x v old true new = (x < length old.globals) × (new ≡ record old { globals = slice_set old.globals x v })
GlobalSet x v old false new = (length old.globals ≤ x) × (new ≡ old)

-- A number is stored, if there is room.
abbrev pub MemoryStored : Access → (address number : ℕ) → Core → Bool → Core → Type 0
MemoryStored access address n old true new = (memory : List ℕ) × (stored address (byte_count access) n old.memory ≡ Some memory) ×
    (new ≡ record old { memory = memory })
MemoryStored access address n old false new = (stored address (byte_count access) n old.memory ≡ None) × (new ≡ old)

-- The value at a place is of the type there.
abbrev pub KindFits : List Value → List ValType → ℕ → Bool → Type 0
KindFits values ts k true = (v : Value) × (slice_get values k ≡ Some v) × (slice_get ts k ≡ Some (type_of v))
KindFits values ts k false = (v : Value) → slice_get values k ≡ Some v → slice_get ts k ≡ Some (type_of v) → ⊥

-- Whether the values on top are of these types, the last one's topmost.
abbrev pub AllFit : List ValType → List Value → Bool → Type 0
AllFit params values true = types (take (length params) values) ≡ reverse params
AllFit params values false = types (take (length params) values) ≡ reverse params → ⊥

-- Whether there are arguments for parameters of these types.
abbrev pub Holds : List ValType → List Value → Bool → Type 0
Holds params values true = (length params ≤ length values) × (types (take (length params) values) ≡ reverse params)
Holds params values false = arguments params values ≡ None

-- The function that is left.
abbrev pub Left : Core → Bool → Core → Type 0
Left old true new = (frame : Frame) × (frames : List Frame) × (old.frames ≡ frame ∷ frames) × (new ≡ record {
  code = frame.rest;
  values = old.values ++ frame.values;
  locals = frame.locals;
  labels = frame.labels;
  frames = frames;
  memory = old.memory;
  globals = old.globals;
})
Left old false new = (old.frames ≡ []) × (new ≡ old)

-- The values that a branch takes along, where there are enough.
abbrev pub Kept : Bool → Core → Option (Option Value) → Core → Type 0
Kept gives old (Some kept) new = (count gives ≤ length old.values) × (take (count gives) old.values ≡ option_to_list kept) ×
    (new ≡ record old { values = [] })
Kept gives old None new = (length old.values < count gives) × (new ≡ old)
