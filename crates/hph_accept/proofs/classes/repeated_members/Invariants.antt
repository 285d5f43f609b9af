-- The members that are left decide, behind those that were looked at.
use Rattle.std.proofs.Common.{◌≡◌, [], drop, take}
use Rattle.std.specs.Prelude.{flat_map}
use Rattle.hph_accept.specs.Order.{earliest}
use Rattle.hph_accept.specs.Names.{names_of, repeats, Tracks}
use Rattle.hph_accept.proofs.classes.repeated_members.Given as goal

abbrev pub invariant-loop-index : goal.invariant-loop-index
invariant-loop-index l = (earliest l.fn.met (repeats l.sort [] (flat_map (names_of l.sort) l.members)) ≡
    earliest l.met (repeats l.sort (flat_map (names_of l.sort) (take l.index l.members)) (flat_map (names_of l.sort) (drop l.index l.members)))) ×
    Tracks l.sort l.names (flat_map (names_of l.sort) (take l.index l.members))
