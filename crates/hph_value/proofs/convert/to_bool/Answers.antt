use Rattle.hph_value.proofs.Shown.{array_is_empty}
use Rattle.hph_value.proofs.convert.to_bool.Goals as goal

pub returns-in-Arr : goal.returns-in-Arr
returns-in-Arr c = rw (c.in-Arr.is, c.is_empty.ensures, c.get.ensures) (array_is_empty c.in-Arr.array)
