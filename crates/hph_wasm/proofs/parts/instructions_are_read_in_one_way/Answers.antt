use Rattle.hph_wasm.proofs.OneInstruction.{memory_argument_form, instruction_form, expression_form}
use Rattle.hph_wasm.proofs.StopInstruction.{lists_alike}
use Rattle.hph_wasm.proofs.parts.instructions_are_read_in_one_way.Goals as goal

pub returns-clause-memory_arguments : goal.returns-clause-memory_arguments
returns-clause-memory_arguments c = memory_argument_form

pub returns-clause-instructions : goal.returns-clause-instructions
returns-clause-instructions c = instruction_form

pub returns-clause-expressions : goal.returns-clause-expressions
returns-clause-expressions c = expression_form

pub returns-clause-sequences : goal.returns-clause-sequences
returns-clause-sequences c = lists_alike
