-- What is told of an expression is told of it with its sites numbered: how many nodes it has, its facts, what is refused in it,
-- whether it is constant.
use Rattle.std.proofs.Common.{arith}
use Rattle.hph_ast.specs.declared.expr.Expr.{Expr}
use Rattle.hph_ast.specs.declared.expr.Item.{Item}
use Rattle.hph_ast.specs.ConstantExpressions.{is_constant, class_is_constant, expr_is_constant, item_is_constant, member_is_constant, step_is_constant, part_is_constant}
use Rattle.hph_ast.specs.RefusedExpressions.{part, part_of, class_refused, item_refused, member_refused, step_refused, piece_refused, item_found}
use Rattle.hph_php.specs.Cost.{nodes, item_nodes, class_nodes_by, nodes_by, item_nodes_by, member_nodes_by, step_nodes_by, part_nodes_by}
use Rattle.hph_program.specs.Sites.{expression, item}
use Rattle.hph_lowerable.specs.Facts.{facts, facts_by, class_fits_by, item_fits_by, name_fits_by, step_facts_by, part_fits_by}
use Rattle.hph_lowerable.proofs.Numbering.{Kept, IgnoresSites, expression_kept, item_kept}

nodes_ignore : IgnoresSites class_nodes_by nodes_by item_nodes_by member_nodes_by step_nodes_by part_nodes_by
nodes_ignore = record {
  class = λ d. grind arith;
  expression = λ d. grind arith;
  item = λ d. grind arith;
  step = λ d. grind arith;
  part = λ d. grind arith;
}

pub nodes_kept : (x : Expr) → Kept nodes expression x
unfolding nodes
nodes_kept x = expression_kept class_nodes_by nodes_by item_nodes_by member_nodes_by step_nodes_by part_nodes_by nodes_ignore x

pub item_nodes_kept : (x : Item) → Kept item_nodes item x
unfolding item_nodes
item_nodes_kept x = item_kept class_nodes_by nodes_by item_nodes_by member_nodes_by step_nodes_by part_nodes_by nodes_ignore x

facts_ignore : IgnoresSites class_fits_by facts_by item_fits_by name_fits_by step_facts_by part_fits_by
facts_ignore = record {
  class = λ d. grind arith;
  expression = λ d. grind arith;
  item = λ d. grind arith;
  step = λ d. grind arith;
  part = λ d. grind arith;
}

pub facts_kept : (x : Expr) → Kept facts expression x
unfolding facts
facts_kept x = expression_kept class_fits_by facts_by item_fits_by name_fits_by step_facts_by part_fits_by facts_ignore x

constant_ignores : IgnoresSites class_is_constant expr_is_constant item_is_constant member_is_constant step_is_constant part_is_constant
constant_ignores = record {
  class = λ d. grind arith;
  expression = λ d. grind arith;
  item = λ d. grind arith;
  step = λ d. grind arith;
  part = λ d. grind arith;
}

pub constant_kept : (x : Expr) → Kept is_constant expression x
unfolding is_constant
constant_kept x = expression_kept class_is_constant expr_is_constant item_is_constant member_is_constant step_is_constant part_is_constant constant_ignores x

part_ignores : IgnoresSites class_refused part_of item_refused member_refused step_refused piece_refused
part_ignores = record {
  class = λ d. grind arith;
  expression = λ d. grind arith;
  item = λ d. grind arith;
  step = λ d. grind arith;
  part = λ d. grind arith;
}

pub part_kept : (x : Expr) → Kept part expression x
unfolding part
part_kept x = expression_kept class_refused part_of item_refused member_refused step_refused piece_refused part_ignores x

pub item_found_kept : (x : Item) → Kept item_found item x
unfolding item_found
item_found_kept x = item_kept class_refused part_of item_refused member_refused step_refused piece_refused part_ignores x
