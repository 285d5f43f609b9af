use Rattle.std.proofs.Common.{◌≡◌, ℕ, List, ◌+◌, ◌++◌, length}
use Rattle.std.specs.Io.KnownBytes.{Consumes}
use Rattle.hph_src.proofs.dir_tree.append_rest.Given as goal

-- the bytes that were added are gone from the reader, and with those that may still come they are `limit` in all
abbrev pub invariant-loop-count : goal.invariant-loop-count
invariant-loop-count g l =
    (bytes : List ℕ) × (length bytes + l.left ≡ l.limit) × (l.into.items ≡ l.fn.into.items ++ bytes) × Consumes (g.F.Read.remaining l.fn.reader) (g.F.Read.remaining l.reader) bytes

abbrev pub decreases-loop-count : goal.decreases-loop-count
decreases-loop-count g l = l.left
