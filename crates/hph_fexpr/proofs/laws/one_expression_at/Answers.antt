use Rattle.std.proofs.Common.{ℕ, ap}
use Rattle.hph_ast.specs.declared.expr.Expr.{Expr}
use Rattle.hph_fexpr.proofs.Calls.{one_at}
use Rattle.hph_fexpr.proofs.laws.one_expression_at.Goals as goal

pub returns : goal.returns
returns c = λ tokens at x y k n s t. (ap (λ (p : Expr × ℕ). p.0) (one_at c.nesting_laws.ensures tokens at x y k n s t), ap (λ (p : Expr × ℕ). p.1) (one_at c.nesting_laws.ensures tokens at x y k n s t))
