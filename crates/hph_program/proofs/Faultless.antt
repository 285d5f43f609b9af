-- The files of a program are those without a fault.
use Rattle.std.proofs.Common.{refl}
use Rattle.hph_ast.specs.Faults.{none}
use Rattle.hph_program.specs.Laws.{SourcesHaveNoFault, FaultlessFilesAreSources}

pub sources_have_no_fault : SourcesHaveNoFault
sources_have_no_fault files path f source = none source.reads source.spells source.no_construct

pub faultless_files_are_sources : FaultlessFilesAreSources
faultless_files_are_sources files path bytes holds (none {tokens = tokens} {tree = tree} reads spells no_construct) = (
  record { path = path; bytes = bytes; tokens = tokens; tree = tree },
  refl,
  refl,
  record { is_at = refl; holds = holds; reads = reads; spells = spells; no_construct = no_construct },
)
