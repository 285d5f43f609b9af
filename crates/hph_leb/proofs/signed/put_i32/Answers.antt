use Rattle.std.proofs.Common.{◌≡◌, ◌++◌, ◌∙◌, ap, subst, arith, to_z, of_z, w64}
use Rattle.std.specs.Prelude.{OnOk}
use Rattle.std.proofs.lemmas.Int.{ints}
use Rattle.hph_wasm.specs.Leb128.{i64_bytes}
use Rattle.hph_leb.proofs.ShortestNumbers.{i64_bytes-narrow}
use Rattle.hph_leb.proofs.signed.put_i32.Goals as goal

pub returns : goal.returns
returns c =
    let widened : to_z w64 (of_z w64 c.from.result) ≡ c.args.value = omega (arith, ints) in
    let same = ap i64_bytes widened ∙ i64_bytes-narrow c.args.value c.ranges.value in
    subst (λ bytes. OnOk c.put_i64.result (c.put_i64.new.into.items ≡ c.args.into.now.items ++ bytes)) same c.put_i64.ensures
