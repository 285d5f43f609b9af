-- The rows are those of the table, as both compute.
use Rattle.std.proofs.Common.{refl}
use Rattle.hph_case.specs.Imports.{imports}
use Rattle.hph_case.proofs.import_table.imports.Goals as goal

pub returns : goal.returns
unfolding imports
returns c = refl
