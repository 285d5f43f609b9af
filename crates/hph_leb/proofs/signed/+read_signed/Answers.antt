use Rattle.std.proofs.Common.{◌-◌, length, sym, ap, subst, arith}
use Rattle.std.proofs.lemmas.Slice.{first_rest}
use Rattle.std.proofs.lemmas.Int.{ints}
use Rattle.hph_wasm.specs.Leb128.{Signed}
use Rattle.hph_leb.specs.Reading.{SpellsNoFront}
use Rattle.hph_leb.proofs.Bytewise.{signed_bytewise, Signed-cons}
use Rattle.hph_leb.proofs.Fronts.{no_last_byte, no_first_byte, take-first}
use Rattle.hph_leb.proofs.HighBits.{signed_within}
use Rattle.hph_leb.proofs.signed.+read_signed.Goals as goal

pub returns-in_err-value : goal.returns-in_err-value
returns-in_err-value t c =
    let bytes = first_rest c.args.bytes.now 0 (omega arith) in
    let none = no_last_byte signed_bytewise c.args.bits _ _ (omega arith) c.in_err-value.ensures in
    rw c.from_residual.ensures (subst (SpellsNoFront (Signed c.args.bits)) (sym bytes) none)

pub returns-in_err-high : goal.returns-in_err-high
returns-in_err-high t c =
    let bytes = first_rest c.args.bytes.now 0 (omega arith) in
    let none = no_first_byte signed_bytewise c.args.bits _ _ (omega arith) (λ wide. c.in_err-high.ensures) in
    rw c.from_residual-in_err-high.ensures (subst (SpellsNoFront (Signed c.args.bits)) (sym bytes) none)

pub overflow_mul-result : goal.overflow_mul-result
overflow_mul-result t c =
    let low = c.numbers_in_range.ensures.signed_least _ _ _ c.in_ok-high.ensures.1 in
    let top = c.numbers_in_range.ensures.signed_greatest _ _ _ c.in_ok-high.ensures.1 in
    let within = signed_within (c.args.bits - 7 - 1) 56 c.in_ok-high.high (omega arith) low top in
    omega (arith, ints, within.0, within.1)

pub returns : goal.returns
returns t c =
    let bytes = first_rest c.args.bytes.now 0 (omega arith) in
    let taken = take-first c.args.bytes.now c.in_ok-high.length (omega arith) in
    let low = c.numbers_in_range.ensures.signed_least _ _ _ c.in_ok-high.ensures.1 in
    let top = c.numbers_in_range.ensures.signed_greatest _ _ _ c.in_ok-high.ensures.1 in
    let within = signed_within (c.args.bits - 7 - 1) 56 c.in_ok-high.high (omega arith) low top in (
      omega (arith, ap length bytes, c.in_ok-high.ensures.0),
      rw taken (Signed-cons c.args.bits _ _ c.in_ok-high.high _ (omega arith) (omega (arith, c.type_inv.bytes 0)) (omega arith) (omega (arith, ints, within.0, within.1, c.type_inv.bytes 0)) c.in_ok-high.ensures.1),
    )
