use Rattle.std.proofs.Common.{◌≡◌, ◌*◌, length, flat_map}
use Rattle.hph_wasm.specs.Spelling.{instr_bytes}
use Rattle.hph_depth_tests.proofs.depth.nested.Given as goal

abbrev pub invariant-loop : goal.invariant-loop
invariant-loop l = length (flat_map instr_bytes l.body) ≡ 3 * l.counter
