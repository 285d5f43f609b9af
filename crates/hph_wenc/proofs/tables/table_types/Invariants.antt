use Rattle.std.proofs.Common.{◌≡◌, take}
use Rattle.hph_wenc.proofs.tables.table_types.Given as goal

abbrev pub invariant-loop-limits : goal.invariant-loop-limits
invariant-loop-limits l = l.types.items ≡ take l.limits-index l.tables
