-- The names that are left decide, behind those that were looked at.
use Rattle.std.proofs.Common.{◌≡◌, ◌++◌, drop, take}
use Rattle.std.specs.Prelude.{flat_map, map}
use Rattle.hph_accept.specs.Order.{earliest}
use Rattle.hph_accept.specs.Names.{names_of, repeats, Tracks}
use Rattle.hph_accept.proofs.classes.repeated.Given as goal

abbrev pub invariant-loop-index : goal.invariant-loop-index
invariant-loop-index g l = (earliest l.fn.met (repeats l.sort (flat_map (names_of l.sort) l.before) (map g.T.Named.name_of l.items)) ≡
    earliest l.met (repeats l.sort (flat_map (names_of l.sort) l.before ++ map g.T.Named.name_of (take l.index l.items)) (map g.T.Named.name_of (drop l.index l.items)))) ×
    Tracks l.sort l.names (flat_map (names_of l.sort) l.before ++ map g.T.Named.name_of (take l.index l.items))
