use Rattle.hph_ast.proofs.ExpressionNesting.{nesting-Array, nesting-Assign, nesting-AssignReference, nesting-Call, nesting-ClassConstant, nesting-ClassName, nesting-Constant, nesting-Destructure, nesting-Directory, nesting-DynamicCall, nesting-Empty, nesting-Exit, nesting-ExitWith, nesting-InstanceOf, nesting-Int, nesting-Interpolated, nesting-Isset, nesting-MethodCall, nesting-NamedArgument, nesting-New, nesting-Pair, nesting-Paren, nesting-Path, nesting-Prefix, nesting-Run, nesting-ShortTernary, nesting-StaticCall, nesting-StaticProperty, nesting-Ternary, nesting-Text, nesting-Update, nesting-Variable}
use Rattle.hph_ast.proofs.laws.nesting_of_expressions.Goals as goal

pub returns-clause-int : goal.returns-clause-int
returns-clause-int c = nesting-Int

pub returns-clause-text : goal.returns-clause-text
returns-clause-text c = nesting-Text

pub returns-clause-interpolated : goal.returns-clause-interpolated
returns-clause-interpolated c = nesting-Interpolated

pub returns-clause-variable : goal.returns-clause-variable
returns-clause-variable c = nesting-Variable

pub returns-clause-constant : goal.returns-clause-constant
returns-clause-constant c = nesting-Constant

pub returns-clause-directory : goal.returns-clause-directory
returns-clause-directory c = nesting-Directory

pub returns-clause-array : goal.returns-clause-array
returns-clause-array c = nesting-Array

pub returns-clause-call : goal.returns-clause-call
returns-clause-call c = nesting-Call

pub returns-clause-dynamic_call : goal.returns-clause-dynamic_call
returns-clause-dynamic_call c = nesting-DynamicCall

pub returns-clause-static_call : goal.returns-clause-static_call
returns-clause-static_call c = nesting-StaticCall

pub returns-clause-method_call : goal.returns-clause-method_call
returns-clause-method_call c = nesting-MethodCall

pub returns-clause-new : goal.returns-clause-new
returns-clause-new c = nesting-New

pub returns-clause-class_constant : goal.returns-clause-class_constant
returns-clause-class_constant c = nesting-ClassConstant

pub returns-clause-class_name : goal.returns-clause-class_name
returns-clause-class_name c = nesting-ClassName

pub returns-clause-static_property : goal.returns-clause-static_property
returns-clause-static_property c = nesting-StaticProperty

pub returns-clause-paren : goal.returns-clause-paren
returns-clause-paren c = nesting-Paren

pub returns-clause-isset : goal.returns-clause-isset
returns-clause-isset c = nesting-Isset

pub returns-clause-empty : goal.returns-clause-empty
returns-clause-empty c = nesting-Empty

pub returns-clause-exit : goal.returns-clause-exit
returns-clause-exit c = nesting-Exit

pub returns-clause-exit_with : goal.returns-clause-exit_with
returns-clause-exit_with c = nesting-ExitWith

pub returns-clause-path : goal.returns-clause-path
returns-clause-path c = nesting-Path

pub returns-clause-update : goal.returns-clause-update
returns-clause-update c = nesting-Update

pub returns-clause-prefix : goal.returns-clause-prefix
returns-clause-prefix c = nesting-Prefix

pub returns-clause-instance_of : goal.returns-clause-instance_of
returns-clause-instance_of c = nesting-InstanceOf

pub returns-clause-run : goal.returns-clause-run
returns-clause-run c = nesting-Run

pub returns-clause-pair : goal.returns-clause-pair
returns-clause-pair c = nesting-Pair

pub returns-clause-ternary : goal.returns-clause-ternary
returns-clause-ternary c = nesting-Ternary

pub returns-clause-short_ternary : goal.returns-clause-short_ternary
returns-clause-short_ternary c = nesting-ShortTernary

pub returns-clause-assign : goal.returns-clause-assign
returns-clause-assign c = nesting-Assign

pub returns-clause-assign_reference : goal.returns-clause-assign_reference
returns-clause-assign_reference c = nesting-AssignReference

pub returns-clause-destructure : goal.returns-clause-destructure
returns-clause-destructure c = nesting-Destructure

pub returns-clause-named_argument : goal.returns-clause-named_argument
returns-clause-named_argument c = nesting-NamedArgument
