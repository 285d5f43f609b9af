use Rattle.std.proofs.Common.{◌≡◌, false, true, to_z, w64, arith, refl, append_assoc}
use Rattle.std.proofs.lemmas.Int.{to_z-of_z}
use Rattle.hph_wasm.specs.Leb128.{fits_seven}
use Rattle.hph_leb.proofs.ShortestNumbers.{signed_step, one_signed_byte, magnitude-fits_64}
use Rattle.hph_leb.proofs.signed.put_i64.Goals as goal

pub bytes-init : goal.bytes-init
bytes-init c = let same = to_z-of_z w64 c.args.value c.ranges.value in rw same (record { more = 9; fits = magnitude-fits_64 c.args.value c.ranges.value; bytes = refl })

pub bytes-preserved : goal.bytes-preserved
bytes-preserved c =
    let before = c.bytes.invariant in
    let rest = to_z w64 c.bytes.rest-bits in
    let long : fits_seven rest ≡ false = grind arith in
    let step = signed_step before.more rest long before.fits in
    let same = to_z-of_z w64 c.high_bits-rest.result (record { sfits = c.high_bits-rest.type_inv }) in
    rw (same, c.high_bits-rest.ensures) (record { more = step.less; fits = step.fits; bytes = rw (c.in_ok-push.ensures.items, c.low_bits.ensures.bits, append_assoc, ← step.bytes) before.bytes })

pub returns : goal.returns
returns c =
    let before = c.bytes.invariant in
    let rest = to_z w64 c.bytes.rest-bits in
    let same = to_z-of_z w64 c.args.value c.ranges.value in
    let short : fits_seven rest ≡ true = grind arith in
    rw (c.in_ok-push-2.ensures.items, c.low_bits-2.ensures.bits, ← one_signed_byte before.more rest short) (rw same at before.bytes)
