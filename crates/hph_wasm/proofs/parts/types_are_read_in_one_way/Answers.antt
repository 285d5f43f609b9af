use Rattle.hph_wasm.proofs.Leb128Laws.{unsigned_form, signed_form}
use Rattle.hph_wasm.proofs.CountedForms.{bytes_form, name_form}
use Rattle.hph_wasm.proofs.OneInstruction.{value_type_form, result_type_form}
use Rattle.hph_wasm.proofs.OneSection.{function_type_form, memory_type_form, table_type_form, global_type_form}
use Rattle.hph_wasm.proofs.parts.types_are_read_in_one_way.Goals as goal

pub returns-clause-unsigned : goal.returns-clause-unsigned
returns-clause-unsigned c = unsigned_form

pub returns-clause-signed : goal.returns-clause-signed
returns-clause-signed c = signed_form

pub returns-clause-bytes : goal.returns-clause-bytes
returns-clause-bytes c = bytes_form

pub returns-clause-names : goal.returns-clause-names
returns-clause-names c = name_form

pub returns-clause-value_types : goal.returns-clause-value_types
returns-clause-value_types c = value_type_form

pub returns-clause-result_types : goal.returns-clause-result_types
returns-clause-result_types c = result_type_form

pub returns-clause-function_types : goal.returns-clause-function_types
returns-clause-function_types c = function_type_form

pub returns-clause-memory_types : goal.returns-clause-memory_types
returns-clause-memory_types c = memory_type_form

pub returns-clause-table_types : goal.returns-clause-table_types
returns-clause-table_types c = table_type_form

pub returns-clause-global_types : goal.returns-clause-global_types
returns-clause-global_types c = global_type_form
