use Rattle.hph_value.proofs.Shown.{arr_shown}
use Rattle.hph_walk.proofs.reading.inside.Goals as goal

pub returns-in-Arr : goal.returns-in-Arr
returns-in-Arr c = rw (c.in-Arr.is, arr_shown, ← c.get.ensures) c.element.ensures
