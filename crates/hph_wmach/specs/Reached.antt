-- What a reduction has led to, as the machine tells it.
use Rattle.std.specs.Prelude.{◌≡◌, ◌⊎◌, ℕ, List, [], ◌∷◌}
use Rattle.hph_wasm.specs.declared.instr.Instr.{Instr, Br, Call}
use Rattle.hph_wasm.specs.declared.value.Value.{Value}
use Rattle.hph_wasm.specs.declared.module.Module.{Module}
use Rattle.hph_wasm.specs.Outcome.{Done}
use Rattle.hph_wasm.specs.Configuration.{Host, Label, Frame, Configuration, Running, Calling, Trapped, Stuck, Ended}
use Rattle.hph_wasm.specs.Reduction.{step, after_call, after_return, branch_step, return_step, end_of_code}
use Rattle.hph_wstate.specs.Core.{Core}
use Rattle.hph_wstate.specs.Changes.{IsWithin, HasSameBlocks}
use Rattle.hph_wstate.specs.Standing.{store_of, setting, running}
use Rattle.hph_wmach.specs.declared.next.Next.{Next}
use Rattle.hph_wmach.specs.declared.next.Next.TheVariants.{Goes, Calls, Branches, Traps, Ends, NoMemory}

-- A block is entered.
abbrev pub EntersBlock : Label → List Instr → (old : Core) → Next → (new : Core) → Type 0
EntersBlock label body old Goes new = new ≡ record old { code = body; values = []; labels = label ∷ old.labels }
EntersBlock label body old NoMemory new = Unit {0}
EntersBlock label body old _ new = ⊥

-- A value is put on top.
abbrev pub Pushes : Value → Core → Next → Core → Type 0
Pushes value old Goes new = new ≡ record old { values = value ∷ old.values }
Pushes value old NoMemory new = Unit {0}
Pushes value old _ new = ⊥

-- What a reduction has led to, where `trap` and `stuck` are what is left where there is a trap or no rule applies.
abbrev pub Reached : {H E : Type 0} → Configuration H E → (trap stuck : Configuration H E) → Next → (old new : Core) → H → Type 0
Reached c trap stuck Goes old new h = c ≡ running new h
Reached c trap stuck (Calls f) old new h = (c ≡ Calling f new.code new.values (setting new h)) × HasSameBlocks old new
Reached c trap stuck (Branches k) old new h = (c ≡ Running (Br k ∷ new.code) new.values (setting new h)) × HasSameBlocks old new
Reached c trap stuck Traps old new h = ((c ≡ trap) ⊎ (c ≡ stuck)) × IsWithin old new
Reached c trap stuck Ends old new h = c ≡ Ended Done h
Reached c trap stuck NoMemory old new h = Unit {0}

-- One instruction, with those behind it.
abbrev pub StepsIn : {H E : Type 0} → Host H E → Module → Instr → (old : Core) → Next → (new : Core) → Type 0
StepsIn {H} {E} host m i old next new = (h : H) →
    Reached (step host m (Running (i ∷ old.code) old.values (setting old h))) (Trapped (i ∷ old.code) (setting old h))
    (Stuck (i ∷ old.code) (setting old h)) next old new h

-- The same of an instruction that doesn't ask for the module.
abbrev pub Steps : {H E : Type 0} → Host H E → Instr → (old : Core) → Next → (new : Core) → Type 0
Steps host i old next new = (m : Module) → StepsIn host m i old next new

-- A branch, a return, and the end of a block or a function.
abbrev pub Branched : {H E : Type 0} → Host H E → ℕ → (old : Core) → Next → (new : Core) → Type 0
Branched {H} {E} host k old next new = (m : Module) (h : H) (trap stuck : Configuration H E) →
    Reached (branch_step host m k old.values old.labels (setting old h) stuck) trap stuck next old new h

abbrev pub GivenBack : {H E : Type 0} → Host H E → (old : Core) → Next → (new : Core) → Type 0
GivenBack {H} {E} host old next new = (m : Module) (h : H) (trap stuck : Configuration H E) →
    Reached (return_step host m old.values old.frames (store_of old h) stuck) trap stuck next old new h

abbrev pub Closed : {H E : Type 0} → Host H E → (old : Core) → Next → (new : Core) → Type 0
Closed {H} {E} host old next new = (m : Module) (h : H) →
    Reached (end_of_code host m old.values old.labels (setting old h)) (Stuck [] (setting old h)) (Stuck [] (setting old h))
    next old new h

-- The same where there is always a rule and no trap.
abbrev pub ReachedOn : {H E : Type 0} → Configuration H E → Next → (new : Core) → H → Type 0
ReachedOn c Goes new h = c ≡ running new h
ReachedOn c Ends new h = c ≡ Ended Done h
ReachedOn c NoMemory new h = Unit {0}
ReachedOn c _ new h = ⊥

-- Behind a call the function that waits goes on, or the run ends.
abbrev pub BehindCall : {H E : Type 0} → Host H E → Next → Core → Type 0
BehindCall {H} {E} host next new = (m : Module) (h : H) →
    ReachedOn (after_call host m new.frames new.code new.values (setting new h)) next new h

-- The function that runs is left with its values.
abbrev pub LeftOn : {H E : Type 0} → Host H E → (old : Core) → Next → (new : Core) → Type 0
LeftOn {H} {E} host old next new = (m : Module) (h : H) (frame : Frame) (frames : List Frame) → old.frames ≡ frame ∷ frames →
    ReachedOn (after_return host m frame frames old.values (store_of old h)) next new h

-- The machine stands before the instructions again, where the first of them has trapped.
abbrev pub Stood : Next → List Instr → (old new : Core) → Type 0
Stood Traps here old new = new ≡ record old { code = here }
Stood _ here old new = new ≡ old

-- One reduction.
abbrev pub SteppedIn : {H E : Type 0} → Host H E → Module → (old : Core) → Next → (new : Core) → Type 0
SteppedIn {H} {E} host m old next new = (h : H) →
    Reached (step host m (running old h)) (Trapped old.code (setting old h)) (Stuck old.code (setting old h)) next old new h

-- The second reduction of a call.
abbrev pub InvokedIn : {H E : Type 0} → Host H E → Module → ℕ → (old : Core) → Next → (new : Core) → Type 0
InvokedIn {H} {E} host m f old next new = (h : H) →
    Reached (step host m (Calling f old.code old.values (setting old h))) (Stuck (Call f ∷ old.code) (setting old h))
    (Stuck (Call f ∷ old.code) (setting old h)) next old new h
