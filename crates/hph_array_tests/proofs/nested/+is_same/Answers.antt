use Rattle.std.proofs.Common.{◌≡◌, ◌≤◌, sym, ap, arith}
use Rattle.std.specs.Map.{values_of}
use denote.Param.Weighed.{most}
use Rattle.hph_array.proofs.Measures.{measure-slice_get}
use Rattle.hph_array_tests.specs.declared.nested.Value.{size-Value}
use Rattle.hph_array_tests.specs.declared.nested.Value.TheViews.{sized-Arr}
use Rattle.hph_array_tests.proofs.nested.+is_same.Goals as goal

pub is_same-requires : goal.is_same-requires
is_same-requires t c =
    let within : size-Value c.in-Some.value.now ≤ most size-Value (values_of c.get-x.result.now.pairs) =
    measure-slice_get size-Value c.get-x.result.now.pairs c.loop-index.index c.in-Some.key.now
    c.in-Some.value.now (sym c.in-Some.ensures) in
    let same : most size-Value (values_of c.get-x.result.now.pairs) ≡ most size-Value
    (values_of c.in-Arr-Arr.x.pairs) = ap (λ a. most size-Value (values_of a.pairs)) c.get-x.ensures in
    let whole = ap size-Value c.in-Arr-Arr.is-0 in
    let size = sized-Arr c.in-Arr-Arr.x in
    let falls = c.decreases in
    (omega (arith, within, same, whole, size, falls), tt)
