use Rattle.std.proofs.Common.{sym, ◌∙◌}
use Rattle.hph_value.specs.Shown.{value_of}
use Rattle.hph_equal.proofs.Steps.{arrays_differ, arrays_answer, arrays_size, are_arrays}
use Rattle.hph_equal.proofs.equal.compared.Goals as goal

pub returns-then-len : goal.returns-then-len
returns-then-len c =
    arrays_differ c.args.equality c.in-Some.pairs.now c.in-Some-array_in.others.now (value_of c.args.x.now) (value_of c.args.y.now) c.in-Some.ensures c.in-Some-array_in.ensures
    (λ e. c.if-len.true (c.len.ensures.value ∙ (e ∙ sym c.len-2.ensures.value)))

pub returns : goal.returns
returns c = record {
  answer =
      arrays_answer c.args.equality c.in-Some.pairs.now c.in-Some-array_in.others.now (value_of c.args.x.now) (value_of c.args.y.now) c.in-Some.ensures c.in-Some-array_in.ensures
      (sym c.len.ensures.value ∙ (c.if-len.false ∙ c.len-2.ensures.value));
  smaller = arrays_size c.in-Some.pairs.now (value_of c.args.x.now) c.in-Some.ensures;
  left_array = are_arrays c.in-Some.pairs.now (value_of c.args.x.now) c.in-Some.ensures;
  right_array = are_arrays c.in-Some-array_in.others.now (value_of c.args.y.now) c.in-Some-array_in.ensures;
}
