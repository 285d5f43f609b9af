-- The ones that are left decide.
use Rattle.std.proofs.Common.{◌≡◌, drop}
use Rattle.std.specs.Prelude.{nat_le}
use Rattle.hph_ast.specs.declared.class.PropertyItem.{PropertyItem}
use Rattle.hph_ast.specs.Nesting.{greatest, nesting}
use Rattle.hph_ast.specs.StatementNesting.{maybe}
use Rattle.hph_nest.proofs.fits.properties_fit.Given as goal

abbrev pub invariant-loop-item : goal.invariant-loop-item
invariant-loop-item l = nat_le (greatest (λ (i : PropertyItem). maybe nesting i.value) l.items) l.limit ≡ nat_le (greatest (λ (i : PropertyItem). maybe nesting i.value) (drop l.item-index l.items)) l.limit
