use Rattle.std.proofs.Common.{ap, List}
use Rattle.hph_ast.specs.declared.token.Token.{Token}
use Rattle.hph_ast.specs.declared.stmt.Statement.{Statement}
use Rattle.hph_fstmt.proofs.BothWays.{one}
use Rattle.hph_fstmt.proofs.laws.one_statement.Goals as goal

pub returns : goal.returns
returns c = λ top tokens x y rest other d f. (
  ap (λ (r : Statement × List Token). r.0) (one c.laws.ensures top tokens x y rest other d f),
  ap (λ (r : Statement × List Token). r.1) (one c.laws.ensures top tokens x y rest other d f),
)
