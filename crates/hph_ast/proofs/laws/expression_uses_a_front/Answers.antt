use Rattle.hph_ast.proofs.ExpressionFronts.{front_of_expression}
use Rattle.hph_ast.proofs.laws.expression_uses_a_front.Goals as goal

pub returns : goal.returns
returns c = λ _ tokens x rest d. front_of_expression d
