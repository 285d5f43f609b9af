-- The rows are those of the table, as both compute.
use Rattle.std.proofs.Common.{refl}
use Rattle.hph_case.specs.Operators.{operators}
use Rattle.hph_case.proofs.operator_table.operators.Goals as goal

pub returns : goal.returns
unfolding operators
returns c = refl
