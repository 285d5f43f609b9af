use Rattle.hph_ast.proofs.StatementNestingLaws.{statement_nesting-Block, statement_nesting-Break, statement_nesting-Class, statement_nesting-Const, statement_nesting-Continue, statement_nesting-DoWhile, statement_nesting-Echo, statement_nesting-Empty, statement_nesting-Expression, statement_nesting-For, statement_nesting-Foreach, statement_nesting-Function, statement_nesting-Global, statement_nesting-If, statement_nesting-InlineText, statement_nesting-Return, statement_nesting-Static, statement_nesting-Switch, statement_nesting-Unset, statement_nesting-While}
use Rattle.hph_ast.proofs.statement_laws.nesting_of_statements.Goals as goal

pub returns-clause-empty : goal.returns-clause-empty
returns-clause-empty c = statement_nesting-Empty

pub returns-clause-inline_text : goal.returns-clause-inline_text
returns-clause-inline_text c = statement_nesting-InlineText

pub returns-clause-block : goal.returns-clause-block
returns-clause-block c = statement_nesting-Block

pub returns-clause-expression : goal.returns-clause-expression
returns-clause-expression c = statement_nesting-Expression

pub returns-clause-function : goal.returns-clause-function
returns-clause-function c = statement_nesting-Function

pub returns-clause-class : goal.returns-clause-class
returns-clause-class c = statement_nesting-Class

pub returns-clause-if_statement : goal.returns-clause-if_statement
returns-clause-if_statement c = statement_nesting-If

pub returns-clause-while_loop : goal.returns-clause-while_loop
returns-clause-while_loop c = statement_nesting-While

pub returns-clause-do_while_loop : goal.returns-clause-do_while_loop
returns-clause-do_while_loop c = statement_nesting-DoWhile

pub returns-clause-for_loop : goal.returns-clause-for_loop
returns-clause-for_loop c = statement_nesting-For

pub returns-clause-foreach_loop : goal.returns-clause-foreach_loop
returns-clause-foreach_loop c = statement_nesting-Foreach

pub returns-clause-switch_statement : goal.returns-clause-switch_statement
returns-clause-switch_statement c = statement_nesting-Switch

pub returns-clause-break_statement : goal.returns-clause-break_statement
returns-clause-break_statement c = statement_nesting-Break

pub returns-clause-continue_statement : goal.returns-clause-continue_statement
returns-clause-continue_statement c = statement_nesting-Continue

pub returns-clause-return_statement : goal.returns-clause-return_statement
returns-clause-return_statement c = statement_nesting-Return

pub returns-clause-echo : goal.returns-clause-echo
returns-clause-echo c = statement_nesting-Echo

pub returns-clause-global : goal.returns-clause-global
returns-clause-global c = statement_nesting-Global

pub returns-clause-static_variables : goal.returns-clause-static_variables
returns-clause-static_variables c = statement_nesting-Static

pub returns-clause-unset : goal.returns-clause-unset
returns-clause-unset c = statement_nesting-Unset

pub returns-clause-constants : goal.returns-clause-constants
returns-clause-constants c = statement_nesting-Const
