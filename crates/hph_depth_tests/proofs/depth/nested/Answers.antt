use Rattle.std.proofs.Common.{◌≡◌, ◌∙◌, ◌+◌, ◌*◌, [], ◌∷◌, length, flat_map, sym, subst, None}
use Rattle.hph_wasm.specs.Spelling.{instr_bytes}
use Rattle.hph_wasm.specs.declared.types.BlockType.{BlockType}
use Rattle.hph_wasm.specs.declared.instr.Instr.{Block}
use Rattle.hph_depth_tests.proofs.Deep.{one_more}
use Rattle.hph_depth_tests.proofs.depth.nested.Goals as goal

pub loop-preserved : goal.loop-preserved
loop-preserved c =
    let ty : BlockType = record { result = None } in
    let is : c.from_vec-body.result ≡ Block ty c.loop.body ∷ [] = c.from_vec-body.ensures ∙ c.in_ok-vec.ensures.items in
    subst (λ body. length (flat_map instr_bytes body) ≡ 3 * (c.loop.counter + 1)) (sym is) (one_more ty c.loop.body c.loop.counter c.loop.invariant)
