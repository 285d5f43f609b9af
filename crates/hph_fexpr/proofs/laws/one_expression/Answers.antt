use Rattle.std.proofs.Common.{ap, List}
use Rattle.hph_ast.specs.declared.token.Token.{Token}
use Rattle.hph_ast.specs.declared.expr.Expr.{Expr}
use Rattle.hph_fexpr.proofs.BothWays.{one}
use Rattle.hph_fexpr.proofs.laws.one_expression.Goals as goal

pub returns : goal.returns
returns c = λ level tokens x y rest other high v w. (ap (λ (r : Expr × List Token). r.0) (one c.nesting_laws.ensures level tokens x y rest other high v w), ap (λ (r : Expr × List Token). r.1) (one c.nesting_laws.ensures level tokens x y rest other high v w))
