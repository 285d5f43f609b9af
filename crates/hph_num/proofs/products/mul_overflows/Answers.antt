-- The quotient of the largest size is below a factor's size just where the product is past the range.
use Rattle.std.proofs.Common.{to_z-of_z, arith}
use Rattle.hph_num.proofs.ProductLemmas.{overflows}
use Rattle.hph_num.proofs.products.mul_overflows.Goals as goal

pub returns-then-size-ne0 : goal.returns-then-size-ne0
returns-then-size-ne0 c =
    let is_a = to_z-of_z c.ranges.a in
    let is_b = to_z-of_z c.ranges.b in
    overflows c.args.a c.args.b c.largest_size.result c.unsigned_abs.result c.unsigned_abs-size.result
    (rw (is_a, is_b) at c.largest_size.ensures) (rw is_a at c.unsigned_abs.ensures.value) (rw is_b at c.unsigned_abs-size.ensures.value) (omega arith)
