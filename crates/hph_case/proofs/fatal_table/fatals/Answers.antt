-- The rows are those of the table, as both compute.
use Rattle.std.proofs.Common.{refl}
use Rattle.hph_case.specs.Fatals.{fatals}
use Rattle.hph_case.proofs.fatal_table.fatals.Goals as goal

pub returns : goal.returns
unfolding fatals
returns c = refl
