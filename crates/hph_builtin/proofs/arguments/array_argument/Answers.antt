use Rattle.std.proofs.Common.{sym}
use Rattle.hph_builtin.proofs.Shown.{array_there}
use Rattle.hph_builtin.proofs.arguments.array_argument.Goals as goal

pub returns-in-Arr : goal.returns-in-Arr
returns-in-Arr c = rw (c.in-Arr.is, c.get.ensures) (sym (array_there c.in-Arr.elements))
