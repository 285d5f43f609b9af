use Rattle.hph_fstmt.proofs.laws.laws.Goals as goal

pub returns : goal.returns
returns c = record { of_expressions = c.expression_laws.ensures; of_nesting = c.nesting_laws.ensures }
