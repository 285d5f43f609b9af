use Rattle.hph_wasm.proofs.OneSection.{import_form, global_form, export_form, element_form, local_run_form, locals_form, code_form, data_form}
use Rattle.hph_wasm.proofs.OneModule.{raw_section_form}
use Rattle.hph_wasm.proofs.parts.sections_are_read_in_one_way.Goals as goal

pub returns-clause-imports : goal.returns-clause-imports
returns-clause-imports c = import_form

pub returns-clause-globals : goal.returns-clause-globals
returns-clause-globals c = global_form

pub returns-clause-exports : goal.returns-clause-exports
returns-clause-exports c = export_form

pub returns-clause-elements : goal.returns-clause-elements
returns-clause-elements c = element_form

pub returns-clause-local_runs : goal.returns-clause-local_runs
returns-clause-local_runs c = local_run_form

pub returns-clause-locals : goal.returns-clause-locals
returns-clause-locals c = locals_form

pub returns-clause-codes : goal.returns-clause-codes
returns-clause-codes c = code_form

pub returns-clause-segments : goal.returns-clause-segments
returns-clause-segments c = data_form

pub returns-clause-sections : goal.returns-clause-sections
returns-clause-sections c = raw_section_form
