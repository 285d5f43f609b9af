-- What is known of instructions: that they are read in one way, and stop a reader in one place (section 5.4 of the WebAssembly Core
-- Specification 1.0).
use Rattle.std.specs.Prelude.{◌≡◌}
use Rattle.hph_wasm.specs.Grammar.{ResultType}
use Rattle.hph_wasm.specs.Codes.{opcode, form}
use Rattle.hph_wasm.specs.InstructionGrammar.{Instruction}
use Rattle.hph_wasm.specs.OneWay.{OneForm, SequencesAreAlike, SequencesStopOnce, ClosedSequencesDontStop, ShallowInstructionsDontStop}
use Rattle.hph_wasm.specs.declared.instr.Instr.{Instr}

pub record InstructionLaws : Type 0 where
  pub apart : (i j : Instr) → opcode i ≡ opcode j → form i ≡ form j
  pub types : OneForm ResultType
  pub instructions : OneForm Instruction
  pub alike : SequencesAreAlike
  pub once : SequencesStopOnce
  pub clear : ClosedSequencesDontStop
  pub whole : ShallowInstructionsDontStop
