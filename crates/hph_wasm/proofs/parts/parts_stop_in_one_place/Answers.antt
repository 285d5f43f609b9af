use Rattle.std.proofs.Common.{◌++◌, refl}
use Rattle.hph_wasm.proofs.StopParts.{value_type_stops, function_type_stops, memory_type_stops, table_type_stops, global_type_stops, import_stops}
use Rattle.hph_wasm.proofs.StopInstruction.{expression_stops, sequence_one, sequence_closed, instruction_one, instruction_apart}
use Rattle.hph_wasm.proofs.StopSection.{global_stops, element_stops, locals_stops, code_stops, data_stops}
use Rattle.hph_wasm.proofs.parts.parts_stop_in_one_place.Goals as goal

pub returns-clause-value_types : goal.returns-clause-value_types
returns-clause-value_types c = value_type_stops

pub returns-clause-function_types : goal.returns-clause-function_types
returns-clause-function_types c = function_type_stops

pub returns-clause-memory_types : goal.returns-clause-memory_types
returns-clause-memory_types c = memory_type_stops

pub returns-clause-table_types : goal.returns-clause-table_types
returns-clause-table_types c = table_type_stops

pub returns-clause-global_types : goal.returns-clause-global_types
returns-clause-global_types c = global_type_stops

pub returns-clause-instructions : goal.returns-clause-instructions
returns-clause-instructions c = λ blocks room. instruction_apart blocks room

pub returns-clause-sequences : goal.returns-clause-sequences
returns-clause-sequences c = λ blocks blocks' room. sequence_one blocks blocks' room (instruction_one blocks blocks' room)

pub returns-clause-closed_sequences : goal.returns-clause-closed_sequences
returns-clause-closed_sequences c = λ blocks room xs at feature front rest p shallow closes. sequence_closed blocks room (instruction_apart blocks room) xs at feature front rest (front ++ rest) p shallow closes refl

pub returns-clause-expressions : goal.returns-clause-expressions
returns-clause-expressions c = expression_stops

pub returns-clause-imports : goal.returns-clause-imports
returns-clause-imports c = import_stops

pub returns-clause-globals : goal.returns-clause-globals
returns-clause-globals c = global_stops

pub returns-clause-elements : goal.returns-clause-elements
returns-clause-elements c = element_stops

pub returns-clause-locals : goal.returns-clause-locals
returns-clause-locals c = locals_stops

pub returns-clause-codes : goal.returns-clause-codes
returns-clause-codes c = code_stops

pub returns-clause-segments : goal.returns-clause-segments
returns-clause-segments c = data_stops
