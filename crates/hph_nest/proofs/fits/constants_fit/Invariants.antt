-- The ones that are left decide.
use Rattle.std.proofs.Common.{◌≡◌, drop}
use Rattle.std.specs.Prelude.{nat_le}
use Rattle.hph_ast.specs.declared.class.ConstantItem.{ConstantItem}
use Rattle.hph_ast.specs.Nesting.{greatest, nesting}
use Rattle.hph_nest.proofs.fits.constants_fit.Given as goal

abbrev pub invariant-loop-item : goal.invariant-loop-item
invariant-loop-item l = nat_le (greatest (λ (i : ConstantItem). nesting i.value) l.items) l.limit ≡ nat_le (greatest (λ (i : ConstantItem). nesting i.value) (drop l.item-index l.items)) l.limit
