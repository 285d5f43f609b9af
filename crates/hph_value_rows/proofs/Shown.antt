-- What values in code are, kind by kind.
use Rattle.hph_value.proofs.Shown as values

pub ruleset shown = (values.null_shown, values.bool_shown, values.int_shown, values.str_shown, values.obj_shown, values.arr_shown)
