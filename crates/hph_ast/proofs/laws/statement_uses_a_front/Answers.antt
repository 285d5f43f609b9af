use Rattle.hph_ast.proofs.StatementFronts.{front_of_statement}
use Rattle.hph_ast.proofs.laws.statement_uses_a_front.Goals as goal

pub returns : goal.returns
returns c = λ _ tokens x rest d. front_of_statement d
