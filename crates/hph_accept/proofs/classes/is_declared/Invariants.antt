-- The members that are left decide.
use Rattle.std.proofs.Common.{◌≡◌, drop}
use Rattle.std.specs.Prelude.{flat_map}
use Rattle.std.specs.List.{list_any}
use Rattle.hph_accept.specs.Names.{same_of, spelled, names_of}
use Rattle.hph_accept.proofs.classes.is_declared.Given as goal

abbrev pub invariant-loop-member : goal.invariant-loop-member
invariant-loop-member l = list_any (same_of l.sort l.name.spelled) (spelled (flat_map (names_of l.sort) l.members)) ≡
    list_any (same_of l.sort l.name.spelled) (spelled (flat_map (names_of l.sort) (drop l.member-index l.members)))
