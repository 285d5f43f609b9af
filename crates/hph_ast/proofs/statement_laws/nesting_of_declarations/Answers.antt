use Rattle.hph_ast.proofs.StatementNestingLaws.{case_nesting-out, class_nesting-out, else_if_nesting-out, function_nesting-out}
use Rattle.hph_ast.proofs.statement_laws.nesting_of_declarations.Goals as goal

pub returns-clause-function : goal.returns-clause-function
returns-clause-function c = function_nesting-out

pub returns-clause-class : goal.returns-clause-class
returns-clause-class c = class_nesting-out

pub returns-clause-case : goal.returns-clause-case
returns-clause-case c = case_nesting-out

pub returns-clause-else_if : goal.returns-clause-else_if
returns-clause-else_if c = else_if_nesting-out
