-- The rows are those of the table, as both compute.
use Rattle.std.proofs.Common.{refl}
use Rattle.hph_case.specs.Builtins.{builtins}
use Rattle.hph_case.proofs.builtin_table.builtins.Goals as goal

pub returns : goal.returns
unfolding builtins
returns c = refl
