use Rattle.std.proofs.Common.{◌≤◌, ◌+◌, ◌*◌, ◌-◌, ◌^◌, ◌∙◌, Some, None, get_or, drop, sym, ap, arith}
use Rattle.std.specs.Prelude.{if◌then◌else◌}
use Rattle.hph_ast.specs.Strings.{value_of}
use Rattle.hph_lex.proofs.DecimalLaws.{turn, too_large}
use Rattle.hph_lex.proofs.key.decimal.Goals as goal

pub returns-then-value-digit : goal.returns-then-value-digit
returns-then-value-digit c =
    let at = c.loop-digit in
    let digits = c.args.digits.now in
    let here = turn digits at.digit-index at.value c.loop-digit-test.true at.invariant.digits in
    let low = here.low in
    let high = here.high in
    let large : 2 ^ 63 ≤ 10 * at.value + (get_or digits at.digit-index 0 - 48) = omega
    (arith, c.from-digit.ensures, c.if-value-digit.true) in
    sym (ap (λ t. if t then Some (value_of 10 digits) else None) (too_large (10 * at.value +
    (get_or digits at.digit-index 0 - 48)) digits (drop (at.digit-index + 1) digits) large (sym here.value ∙ at.invariant.rest)))
