use Rattle.std.proofs.Common.{◌≡◌, ◌+◌, min, get_or, take}
use Rattle.hph_ast.specs.Bytes.{digit_value}
use Rattle.hph_ast.specs.Strings.{value_of}
use Rattle.hph_scan.specs.declared.byte.TheConstants.{LARGE_VALUE}
use Rattle.hph_scan.proofs.Capped.{min-digit, value_of-more}
use Rattle.hph_scan.proofs.byte.value_of.Goals as goal

pub loop-digit-preserved : goal.loop-digit-preserved
loop-digit-preserved c =
    let ds = c.args.digits.now in
    let at = c.loop-digit.digit-index in
    let more = value_of-more c.args.base ds at c.loop-digit-test.true in
    let capped = min-digit c.args.base (value_of c.args.base (take at ds)) (digit_value (get_or ds at 0)) LARGE_VALUE in
    let before : c.loop-digit.value ≡ min (value_of c.args.base (take at ds)) LARGE_VALUE = c.loop-digit.invariant in
    let told : c.min-value.result ≡ min (value_of c.args.base (take (at + 1) ds)) LARGE_VALUE = cc in
    told
