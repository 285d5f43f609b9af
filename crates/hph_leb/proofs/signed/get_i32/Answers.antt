use Rattle.std.proofs.Common.{◌≡◌, ◌∙◌, arith, drop, subst, w32, w64, to_z, of_z}
use Rattle.std.proofs.lemmas.Int.{ints}
use Rattle.std.proofs.lemmas.List.{take_rest}
use Rattle.hph_wasm.specs.Leb128.{Signed}
use Rattle.hph_leb.specs.Reading.{SpellsFront}
use Rattle.hph_leb.proofs.signed.get_i32.Goals as goal

pub overflow_cast-result : goal.overflow_cast-result
overflow_cast-result c =
    let low = c.numbers_in_range.ensures.signed_least _ _ _ c.in_ok-value.ensures.1 in
    let top = c.numbers_in_range.ensures.signed_greatest _ _ _ c.in_ok-value.ensures.1 in
    omega (arith, ints, low, top)

pub returns : goal.returns
returns c =
    let low = c.numbers_in_range.ensures.signed_least _ _ _ c.in_ok-value.ensures.1 in
    let top = c.numbers_in_range.ensures.signed_greatest _ _ _ c.in_ok-value.ensures.1 in
    let same : to_z w32 (of_z w32 (to_z w64 (of_z w64 c.in_ok-value.value))) ≡ c.in_ok-value.value = omega (arith, ints, low, top) in
    let rest : c.in_ok-get.field-0.now ≡ drop c.args.at c.args.bytes.now = c.in_ok-get.ensures.lookup.0.2 ∙ take_rest c.args.bytes.now c.args.at in
    rw same (subst (λ bytes. SpellsFront (Signed 32) bytes c.in_ok-value.value c.in_ok-value.length) rest c.in_ok-value.ensures)
