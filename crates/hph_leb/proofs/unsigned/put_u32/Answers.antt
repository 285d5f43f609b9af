use Rattle.std.proofs.Common.{refl, arith, append_assoc}
use Rattle.hph_leb.proofs.ShortestNumbers.{unsigned_step, one_byte}
use Rattle.hph_leb.proofs.unsigned.put_u32.Goals as goal

pub loop-rest-init : goal.loop-rest-init
loop-rest-init c = record { more = 4; fits = omega arith; bytes = refl }

pub loop-rest-preserved : goal.loop-rest-preserved
loop-rest-preserved c =
    let before = c.loop-rest.invariant in
    let step = unsigned_step before.more c.loop-rest.rest (omega arith) before.fits in
    record { more = step.less; fits = step.fits; bytes = rw (c.in_ok-push.ensures.items, append_assoc, ← step.bytes) before.bytes }

pub returns : goal.returns
returns c =
    let before = c.loop-rest.invariant in
    rw (c.in_ok-push-2.ensures.items, ← one_byte before.more c.loop-rest.rest (omega arith)) before.bytes
