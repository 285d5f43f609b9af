use Rattle.hph_ast.proofs.StatementNestingLaws.{member_nesting-Constants, member_nesting-Method, member_nesting-Properties}
use Rattle.hph_ast.proofs.statement_laws.nesting_of_members.Goals as goal

pub returns-clause-constants : goal.returns-clause-constants
returns-clause-constants c = member_nesting-Constants

pub returns-clause-properties : goal.returns-clause-properties
returns-clause-properties c = member_nesting-Properties

pub returns-clause-method : goal.returns-clause-method
returns-clause-method c = member_nesting-Method
