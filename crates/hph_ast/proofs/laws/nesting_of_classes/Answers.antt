use Rattle.hph_ast.proofs.ExpressionNesting.{class_nesting-ByExpression, class_nesting-ByName, class_nesting-Parent, class_nesting-SelfClass, class_nesting-Static}
use Rattle.hph_ast.proofs.laws.nesting_of_classes.Goals as goal

pub returns-clause-by_name : goal.returns-clause-by_name
returns-clause-by_name c = class_nesting-ByName

pub returns-clause-self_class : goal.returns-clause-self_class
returns-clause-self_class c = class_nesting-SelfClass

pub returns-clause-parent : goal.returns-clause-parent
returns-clause-parent c = class_nesting-Parent

pub returns-clause-static_class : goal.returns-clause-static_class
returns-clause-static_class c = class_nesting-Static

pub returns-clause-by_expression : goal.returns-clause-by_expression
returns-clause-by_expression c = class_nesting-ByExpression
