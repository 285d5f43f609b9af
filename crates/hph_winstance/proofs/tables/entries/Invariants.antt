use Rattle.std.proofs.Common.{◌≡◌, Some, map, take}
use Rattle.hph_winstance.proofs.tables.entries.Given as goal

abbrev pub invariant-loop-f : goal.invariant-loop-f
invariant-loop-f l = l.entries.items ≡ map Some (take l.f-index l.funcs)
