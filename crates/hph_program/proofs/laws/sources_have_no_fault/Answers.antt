use Rattle.hph_program.proofs.Faultless.{sources_have_no_fault, faultless_files_are_sources}
use Rattle.hph_program.proofs.laws.sources_have_no_fault.Goals as goal

pub returns-clause-none : goal.returns-clause-none
returns-clause-none c = sources_have_no_fault

pub returns-clause-source : goal.returns-clause-source
returns-clause-source c = faultless_files_are_sources
