-- The ones that are left decide.
use Rattle.std.proofs.Common.{◌≡◌, drop}
use Rattle.std.specs.Prelude.{nat_le}
use Rattle.hph_ast.specs.Nesting.{greatest, nesting}
use Rattle.hph_nest.proofs.fits.exprs_fit.Given as goal

abbrev pub invariant-loop-expr : goal.invariant-loop-expr
invariant-loop-expr l = nat_le (greatest nesting l.exprs) l.limit ≡ nat_le (greatest nesting (drop l.expr-index l.exprs)) l.limit
