use Rattle.std.proofs.Common.{◌<◌, ◌^◌, length, arith}
use Rattle.hph_wasm.specs.Leb128.{u32_bytes}
use Rattle.std.specs.List.{AllByRecursion}
use Rattle.hph_wenc.specs.Fits.{IndexFits}
use Rattle.hph_wenc.proofs.Nonempty.{some-u32_bytes}
use Rattle.hph_wenc.proofs.Vectors.{length-le-vector_bytes, OnOk-with}
use Rattle.hph_wenc.proofs.put.put_indices.Goals as goal

pub put_vector-requires-clause-few : goal.put_vector-requires-clause-few
put_vector-requires-clause-few c = omega (arith, length-le-vector_bytes u32_bytes c.args.indices.now some-u32_bytes, c.requires)

pub returns-clause-fit : goal.returns-clause-fit
returns-clause-fit c =
    let few : length c.args.indices.now < 2 ^ 32 = omega (arith, length-le-vector_bytes u32_bytes c.args.indices.now some-u32_bytes, c.requires) in
    OnOk-with (AllByRecursion IndexFits c.args.indices.now) c.put_vector.result few c.put_vector.ensures.fit
