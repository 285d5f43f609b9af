-- What it is that bytes can be read in one way, and that they stop a reader in one place.
use Rattle.std.specs.Prelude.{◌≡◌, ◌⊎◌, ℕ, List, ◌∷◌, ◌++◌}
use Rattle.hph_wasm.specs.Grammar.{Each}
use Rattle.hph_wasm.specs.Codes.{else_code, end_code}
use Rattle.hph_wasm.specs.InstructionGrammar.{Instruction}
use Rattle.hph_wasm.specs.BlockDepth.{IsShallow, AreShallow}
use Rattle.hph_wasm.specs.Unsupported.{Behind, ShallowRow, StopsInstruction}
use Rattle.hph_wasm.specs.declared.feature.Feature.{Feature}
use Rattle.hph_wasm.specs.declared.instr.Instr.{Instr}

-- the same thing, spelled by the same bytes, with the same bytes behind them
pub record Alike {X : Type 0} (x y : X) (f g r s : List ℕ) : Type 0 where
  pub thing : x ≡ y
  pub spelling : f ≡ g
  pub behind : r ≡ s

-- No spelling begins another, and each spells one thing: two that stand at the head of the same bytes are alike.
pub record OneForm {X : Type 0} (P : X → List ℕ → Type 0) : Type 0 where
  pub alike : (x y : X) (f g r s : List ℕ) → P x f → P y g → f ++ r ≡ g ++ s → Alike x y f g r s

-- the same place, and the same feature
pub record Same (at at' : ℕ) (feature feature' : Feature) : Type 0 where
  pub place : at ≡ at'
  pub named : feature ≡ feature'

-- A stop is met in at most one place, and not in bytes that begin with a thing that is read.
pub record OneStop {X : Type 0} (P : X → List ℕ → Type 0) (Fits : X → Type 0) (S : ℕ → Feature → List ℕ → Type 0) : Type 0 where
  pub one : (at at' : ℕ) (feature feature' : Feature) (bytes : List ℕ) → S at feature bytes → S at' feature' bytes →
      Same at at' feature feature'
  pub apart : (x : X) (at : ℕ) (feature : Feature) (front rest : List ℕ) → P x front → Fits x → S at feature (front ++ rest) → ⊥

-- bytes whose first one is this
abbrev pub BeginsWith : ℕ → List ℕ → Type 0
BeginsWith b bytes = (rest : List ℕ) × (bytes ≡ b ∷ rest)

-- bytes that begin with an end or an `else`
abbrev pub Closes : List ℕ → Type 0
Closes bytes = BeginsWith end_code bytes ⊎ BeginsWith else_code bytes

-- Sequences of instructions are alike where something closes behind them.
abbrev pub SequencesAreAlike : Type 0
SequencesAreAlike = (xs ys : List Instr) (f g r s : List ℕ) → Each Instruction xs f → Each Instruction ys g → Closes r → Closes s → f ++
    r ≡ g ++ s → Alike xs ys f g r s

-- a sequence, and a stop behind it inside so many blocks, where so many may be open around it
abbrev pub StopsSequence : ℕ → ℕ → ℕ → Feature → List ℕ → Type 0
StopsSequence blocks room = Behind (ShallowRow room) (StopsInstruction blocks room)

-- A stop in a sequence is met in at most one place, whatever the numbers of blocks.
abbrev pub SequencesStopOnce : Type 0
SequencesStopOnce = (blocks blocks' room at at' : ℕ) (feature feature' : Feature) (bytes : List ℕ) →
    StopsSequence blocks room at feature bytes → StopsSequence blocks' room at' feature' bytes →
    Same at at' feature feature'

-- And it isn't met where a sequence is read and something closes behind it.
abbrev pub ClosedSequencesDontStop : Type 0
ClosedSequencesDontStop = (blocks room : ℕ) (xs : List Instr) (at : ℕ) (feature : Feature) (front rest : List ℕ) →
    Each Instruction xs front → AreShallow room xs → Closes rest →
    StopsSequence blocks room at feature (front ++ rest) → ⊥

-- It isn't met in an instruction that is read, whatever stands behind that.
abbrev pub ShallowInstructionsDontStop : Type 0
ShallowInstructionsDontStop = (blocks room : ℕ) (i : Instr) (at : ℕ) (feature : Feature) (front rest : List ℕ) → Instruction i front →
    IsShallow i room →
    StopsInstruction blocks room at feature (front ++ rest) → ⊥
