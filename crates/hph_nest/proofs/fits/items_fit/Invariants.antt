-- The ones that are left decide.
use Rattle.std.proofs.Common.{◌≡◌, drop}
use Rattle.std.specs.Prelude.{nat_le}
use Rattle.hph_ast.specs.Nesting.{greatest, item_nesting}
use Rattle.hph_nest.proofs.fits.items_fit.Given as goal

abbrev pub invariant-loop-item : goal.invariant-loop-item
invariant-loop-item l = nat_le (greatest item_nesting l.items) l.limit ≡ nat_le (greatest item_nesting (drop l.item-index l.items)) l.limit
