use Rattle.std.proofs.Common.{length, sym, ap, subst, arith}
use Rattle.std.proofs.lemmas.Slice.{first_rest}
use Rattle.hph_wasm.specs.Leb128.{Unsigned}
use Rattle.hph_leb.specs.Reading.{SpellsNoFront}
use Rattle.hph_leb.proofs.Bytewise.{unsigned_bytewise, Unsigned-cons}
use Rattle.hph_leb.proofs.Fronts.{no_last_byte, no_first_byte, take-first}
use Rattle.hph_leb.proofs.HighBits.{unsigned_high}
use Rattle.hph_leb.proofs.unsigned.+read_unsigned.Goals as goal

pub returns-in_err-value : goal.returns-in_err-value
returns-in_err-value t c =
    let bytes = first_rest c.args.bytes.now 0 (omega arith) in
    let none = no_last_byte unsigned_bytewise c.args.bits _ _ (omega arith) c.in_err-value.ensures in
    rw c.from_residual.ensures (subst (SpellsNoFront (Unsigned c.args.bits)) (sym bytes) none)

pub returns-in_err-high : goal.returns-in_err-high
returns-in_err-high t c =
    let bytes = first_rest c.args.bytes.now 0 (omega arith) in
    let none = no_first_byte unsigned_bytewise c.args.bits _ _ (omega arith) (λ wide. c.in_err-high.ensures) in
    rw c.from_residual-in_err-high.ensures (subst (SpellsNoFront (Unsigned c.args.bits)) (sym bytes) none)

pub overflow_mul-result : goal.overflow_mul-result
overflow_mul-result t c =
    let high = unsigned_high c.args.bits c.in_ok-high.high c.requires (c.numbers_in_range.ensures.unsigned _ _ _ c.in_ok-high.ensures.1) in
    omega (arith, high)

pub overflow_add-result : goal.overflow_add-result
overflow_add-result t c =
    let high = unsigned_high c.args.bits c.in_ok-high.high c.requires (c.numbers_in_range.ensures.unsigned _ _ _ c.in_ok-high.ensures.1) in
    omega (arith, high, c.type_inv.bytes 0)

pub returns : goal.returns
returns t c =
    let bytes = first_rest c.args.bytes.now 0 (omega arith) in
    let taken = take-first c.args.bytes.now c.in_ok-high.length (omega arith) in (
      omega (arith, ap length bytes, c.in_ok-high.ensures.0),
      rw taken (Unsigned-cons c.args.bits _ _ c.in_ok-high.high _ (omega arith) (omega (arith, c.type_inv.bytes 0)) (omega arith) (omega arith) c.in_ok-high.ensures.1),
    )
