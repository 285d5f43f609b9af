-- The ones that are left decide.
use Rattle.std.proofs.Common.{◌≡◌, drop}
use Rattle.std.specs.Prelude.{nat_le}
use Rattle.hph_ast.specs.Nesting.{greatest}
use Rattle.hph_ast.specs.StatementNesting.{param_nesting}
use Rattle.hph_nest.proofs.fits.params_fit.Given as goal

abbrev pub invariant-loop-param : goal.invariant-loop-param
invariant-loop-param l = nat_le (greatest param_nesting l.params) l.limit ≡ nat_le (greatest param_nesting (drop l.param-index l.params)) l.limit
