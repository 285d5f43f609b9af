use Rattle.std.proofs.Common.{◌≡◌, ◌<◌, ◌^◌, ◌++◌, ℕ, ◌+◌, ◌*◌}
use Rattle.hph_wasm.specs.Leb128.{shortest_unsigned, u32_bytes}
use Rattle.hph_leb.proofs.unsigned.put_u32.Given as goal

-- the bytes of the rest are still to come, at most `more` and one
abbrev pub invariant-loop-rest : goal.invariant-loop-rest
invariant-loop-rest l = record {
  more : ℕ;
  fits : l.rest < 2 ^ (7 * more + 4);
  bytes : l.into.items ++ shortest_unsigned more l.rest ≡ l.fn.into.items ++ u32_bytes l.fn.value;
}

abbrev pub decreases-loop-rest : goal.decreases-loop-rest
decreases-loop-rest l = l.rest
