use Rattle.hph_ast.proofs.ExpressionNesting.{member_nesting-Computed, member_nesting-Named, part_nesting-Interpolation, part_nesting-Piece, step_nesting-Append, step_nesting-Index, step_nesting-Property}
use Rattle.hph_ast.proofs.laws.nesting_of_parts.Goals as goal

pub returns-clause-named : goal.returns-clause-named
returns-clause-named c = member_nesting-Named

pub returns-clause-computed : goal.returns-clause-computed
returns-clause-computed c = member_nesting-Computed

pub returns-clause-index : goal.returns-clause-index
returns-clause-index c = step_nesting-Index

pub returns-clause-append : goal.returns-clause-append
returns-clause-append c = step_nesting-Append

pub returns-clause-property : goal.returns-clause-property
returns-clause-property c = step_nesting-Property

pub returns-clause-piece : goal.returns-clause-piece
returns-clause-piece c = part_nesting-Piece

pub returns-clause-interpolation : goal.returns-clause-interpolation
returns-clause-interpolation c = part_nesting-Interpolation
