-- The power to the shortened exponent has the answer of the power that was asked for.
use Rattle.std.proofs.Common.{◌∙◌, to_z-of_z}
use Rattle.hph_num.proofs.PowerLemmas.{power_is}
use Rattle.hph_num.proofs.products.pow.Goals as goal

pub returns-else-b-lt0 : goal.returns-else-b-lt0
returns-else-b-lt0 c =
    let is_a = to_z-of_z c.ranges.a in
    let is_b = to_z-of_z c.ranges.b in
    c.ok_or.ensures.value
    ∙ power_is c.args.a c.args.b c.unsigned_abs.result c.short_exponent.result c.checked_pow.result
    (rw is_b at c.if-b-lt0.false) (rw is_b at c.unsigned_abs.ensures.value) c.short_exponent.ensures (rw is_a at c.checked_pow.ensures)
