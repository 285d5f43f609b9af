use Rattle.std.proofs.Common.{◌≡◌, ◌+◌, min, get_or, take}
use Rattle.hph_ast.specs.Bytes.{digit_value}
use Rattle.hph_ast.specs.Strings.{value_of}
use Rattle.hph_value.specs.declared.decimal.TheConstants.{LARGE_SIZE}
use Rattle.hph_value.proofs.Sizes.{min-digit, value_of-more}
use Rattle.hph_value.proofs.decimal.size_of_digits.Goals as goal

pub loop-digit-preserved : goal.loop-digit-preserved
loop-digit-preserved c =
    let ds = c.args.digits.now in
    let at = c.loop-digit.digit-index in
    let more = value_of-more ds at c.loop-digit-test.true in
    let capped = min-digit (value_of 10 (take at ds)) (digit_value (get_or ds at 0)) LARGE_SIZE in
    let before : c.loop-digit.size ≡ min (value_of 10 (take at ds)) LARGE_SIZE = c.loop-digit.invariant in
    let told : c.with_digit-size.result ≡ min (value_of 10 (take (at + 1) ds)) LARGE_SIZE = cc in
    told
