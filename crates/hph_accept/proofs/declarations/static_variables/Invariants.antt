use Rattle.std.proofs.Common.{◌≡◌, drop}
use Rattle.std.specs.Prelude.{◌++◌, flat_map}
use Rattle.hph_ast.specs.declared.stmt.StaticVariable.{StaticVariable}
use Rattle.hph_ast.specs.RefusedExpressions.{refused_in}
use Rattle.hph_ast.specs.RefusedStatements as refused
use Rattle.hph_accept.specs.Order.{earliest}
use Rattle.hph_accept.specs.Enclosed.{seen}
use Rattle.hph_accept.proofs.declarations.static_variables.Given as goal

abbrev pub invariant-loop-variable : goal.invariant-loop-variable
invariant-loop-variable l = earliest l.fn.met (flat_map (λ (v : StaticVariable). refused.bound v.name (seen l.context) ++ refused.maybe refused_in v.value (seen l.context)) l.variables) ≡ earliest l.met (flat_map (λ (v : StaticVariable). refused.bound v.name (seen l.context) ++ refused.maybe refused_in v.value (seen l.context)) (drop l.variable-index l.variables))
