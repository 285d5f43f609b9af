use Rattle.std.proofs.Common.{map, sym, ap, ◌∙◌, arith, Err}
use Rattle.hph_value.specs.Shown.{value_of}
use Rattle.hph_builtin.proofs.Silent.{stops, no_fault}
use Rattle.hph_builtin.proofs.calls.call.Goals as goal

pub returns-in-Err : goal.returns-in-Err
returns-in-Err g c = record {
  replies =
      rw c.from.ensures
      (stops c.in-Err.stop c.args.function (map value_of c.args.args.now) (g.O.Sink.content c.args.out.now) c.in_default.not-VarDump c.in-Err.ensures);
  never_falls = omega arith;
  cause = λ e _. absurd (no_fault c.in-Err.stop (ap Err (sym c.from.ensures) ∙ e));
}
