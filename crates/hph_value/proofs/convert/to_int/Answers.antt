use Rattle.hph_value.proofs.Shown.{array_to_int}
use Rattle.hph_value.proofs.convert.to_int.Goals as goal

pub returns-in-Arr : goal.returns-in-Arr
returns-in-Arr c = rw (c.in-Arr.is, c.counted.ensures, c.is_empty.ensures, c.get.ensures) (array_to_int c.in-Arr.array)
