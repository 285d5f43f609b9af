use Rattle.hph_ast.proofs.ExpressionNesting.{item_nesting-Hole, item_nesting-Keyed, item_nesting-KeyedReference, item_nesting-Plain, item_nesting-Reference}
use Rattle.hph_ast.proofs.laws.nesting_of_items.Goals as goal

pub returns-clause-plain : goal.returns-clause-plain
returns-clause-plain c = item_nesting-Plain

pub returns-clause-keyed : goal.returns-clause-keyed
returns-clause-keyed c = item_nesting-Keyed

pub returns-clause-reference : goal.returns-clause-reference
returns-clause-reference c = item_nesting-Reference

pub returns-clause-keyed_reference : goal.returns-clause-keyed_reference
returns-clause-keyed_reference c = item_nesting-KeyedReference

pub returns-clause-hole : goal.returns-clause-hole
returns-clause-hole c = item_nesting-Hole
