use Rattle.std.proofs.Common.{length, arith, ap, length-append}
use Rattle.std.proofs.lemmas.List.Folds.{length-flat_map-take}
use Rattle.hph_wasm.specs.Leb128.{u32_bytes}
use Rattle.hph_wasm.specs.Spelling.{code_bytes}
use Rattle.hph_wenc.specs.Code.{content_of}
use Rattle.hph_wenc.proofs.code.codes.Goals as goal

pub code-requires-clause-short : goal.code-requires-clause-short
code-requires-clause-short c =
    let func = c.func-item.result in
    let whole = length-flat_map-take code_bytes c.args.funcs.now c.loop-func.func-index func (omega arith) in
    let same = ap (λ f. length (code_bytes f)) c.func-item.is in
    omega (arith, length-append (u32_bytes (length (content_of func))) (content_of func))
