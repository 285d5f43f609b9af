-- The items that are left decide.
use Rattle.std.proofs.Common.{◌≡◌, drop}
use Rattle.std.specs.Prelude.{map}
use Rattle.std.specs.List.{list_any}
use Rattle.hph_accept.specs.Names.{same_of, spelled}
use Rattle.hph_accept.proofs.names.is_among.Given as goal

abbrev pub invariant-loop-item : goal.invariant-loop-item
invariant-loop-item g l = list_any (same_of l.sort l.name.spelled) (spelled (map g.T.Named.name_of l.items)) ≡
    list_any (same_of l.sort l.name.spelled) (spelled (map g.T.Named.name_of (drop l.item-index l.items)))
