use Rattle.std.proofs.Common.{◌≡◌, ◌<◌, ℕ, ◌+◌, ◌*◌, min, length, ap, sym, ◌∙◌, arith}
use Rattle.std.proofs.lemmas.Bool.Decides.{nat_tests}
use Rattle.hph_scan.specs.declared.numeral.TheConstants.{LONG_VALUE}
use Rattle.hph_scan.proofs.Capped.{min-digit}
use Rattle.hph_scan.proofs.DigitSteps.{no_value, has_value, same_value}
use Rattle.hph_scan.proofs.numeral.value_of_run.Goals as goal

-- one more digit is told from what the digits before it told
with_digit : (base n d told value : ℕ) → value ≡ min (base * told + d) LONG_VALUE → told ≡ min n LONG_VALUE →
    value ≡ min (base * n + d) LONG_VALUE
with_digit base n d told value is before =
    is ∙ (ap (λ told. min (base * told + d) LONG_VALUE) before ∙ min-digit base n d LONG_VALUE)

pub returns-in_err-digit : goal.returns-in_err-digit
returns-in_err-digit c =
    let before = c.loop-digit.invariant in
    let none = no_value c.args.base before.before c.loop-digit.rest.now c.args.run.now c.requires before.same (sym c.in_err-digit.ensures) in
    rw c.from_residual.ensures none

pub returns-then-is_empty : goal.returns-then-is_empty
returns-then-is_empty c =
    let before = c.loop-digit.invariant in
    let d = c.in_ok-digit.digit in
    let told = with_digit c.args.base before.before d c.loop-digit.value c.with_digit-value.result
    c.with_digit-value.ensures before.told in
    let ends : length c.in_ok-digit.after.now ≡ 0 = grind (arith, nat_tests) in
    has_value c.args.base before.before d _ c.loop-digit.rest.now c.in_ok-digit.after.now c.args.run.now c.requires before.same
    (sym c.in_ok-digit.ensures) ends told

pub loop-digit-preserved : goal.loop-digit-preserved
loop-digit-preserved c =
    let before = c.loop-digit.invariant in
    let d = c.in_ok-digit.digit in
    let more : 0 < length c.in_ok-digit.after.now = grind (arith, nat_tests) in
    record {
      before = c.args.base * before.before + d;
      told = with_digit c.args.base before.before d c.loop-digit.value c.with_digit-value.result
          c.with_digit-value.ensures before.told;
      same = same_value c.args.base before.before d c.loop-digit.rest.now c.in_ok-digit.after.now c.args.run.now c.requires before.same
          (sym c.in_ok-digit.ensures) more;
    }
