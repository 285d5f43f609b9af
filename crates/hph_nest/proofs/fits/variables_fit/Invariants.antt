-- The ones that are left decide.
use Rattle.std.proofs.Common.{◌≡◌, drop}
use Rattle.std.specs.Prelude.{nat_le}
use Rattle.hph_ast.specs.declared.stmt.StaticVariable.{StaticVariable}
use Rattle.hph_ast.specs.Nesting.{greatest, nesting}
use Rattle.hph_ast.specs.StatementNesting.{maybe}
use Rattle.hph_nest.proofs.fits.variables_fit.Given as goal

abbrev pub invariant-loop-variable : goal.invariant-loop-variable
invariant-loop-variable l = nat_le (greatest (λ (v : StaticVariable). maybe nesting v.value) l.variables) l.limit ≡ nat_le (greatest (λ (v : StaticVariable). maybe nesting v.value) (drop l.variable-index l.variables)) l.limit
