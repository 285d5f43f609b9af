use Rattle.std.proofs.Common.{◌≡◌, ◌<◌, ◌^◌, ◌++◌, ℕ, ◌+◌, ◌*◌}
use Rattle.hph_wasm.specs.Leb128.{shortest_signed, i64_bytes}
use Rattle.hph_leb.proofs.ShortestNumbers.{magnitude}
use Rattle.hph_leb.proofs.signed.put_i64.Given as goal

-- the bytes of the rest are still to come, at most `more` and one
abbrev pub invariant-bytes : goal.invariant-bytes
invariant-bytes l = record {
  more : ℕ;
  fits : magnitude l.rest < 2 ^ (7 * more + 0);
  bytes : l.into.items ++ shortest_signed more l.rest ≡ l.fn.into.items ++ i64_bytes l.fn.value;
}

abbrev pub decreases-bytes : goal.decreases-bytes
decreases-bytes l = magnitude l.rest
