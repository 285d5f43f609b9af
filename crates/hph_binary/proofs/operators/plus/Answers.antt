use Rattle.std.proofs.Common.{sym, ap, ◌∙◌, Ok}
use Rattle.hph_array.specs.Array.{Array, array_map}
use Rattle.hph_php.specs.Values.{array_value}
use Rattle.hph_value.specs.declared.value.Value as code
use Rattle.hph_value.specs.Shown.{value_of}
use Rattle.hph_binary.proofs.Told.{left_tells, union_told}
use Rattle.hph_binary.proofs.operators.plus.Goals as goal

pub returns-in_default : goal.returns-in_default
returns-in_default c =
    left_tells (value_of c.args.x.now) (value_of c.args.y.now) c.sum.result c.int_answer.result c.sum.ensures c.int_answer.ensures.answer c.in_default.ensures

pub returns : goal.returns
returns c =
    union_told c.in-Some.pairs.now c.in-Some-array_in.others.now (value_of c.args.x.now) (value_of c.args.y.now) c.in-Some.ensures c.in-Some-array_in.ensures
    ∙ (ap (λ (m : Array code.Value). Ok (array_value (array_map value_of m))) (sym c.in_ok-map.ensures) ∙ ap Ok (sym c.in_ok-array.ensures))
