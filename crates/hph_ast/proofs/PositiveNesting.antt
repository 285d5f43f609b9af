-- Each node is nested at least 1.
use Rattle.std.specs.Prelude.{ℕ, ◌≤◌}
use Rattle.std.proofs.Common.{arith, subst, sym}
use Rattle.hph_ast.specs.declared.expr.Expr.{Expr}
use Rattle.hph_ast.specs.declared.expr.ClassReference.{ClassReference}
use Rattle.hph_ast.specs.declared.expr.Item.{Item}
use Rattle.hph_ast.specs.declared.expr.ClassReference.TheOpen.{ClassReference-F, Expr-F, Item-F}
use Rattle.hph_ast.specs.declared.expr.ClassReference.TheFolds.{fold_out-ClassReference, fold_out-Expr, fold_out-Item}
use Rattle.hph_ast.specs.Nesting.{nesting, class_nesting, item_nesting, nesting_by, class_nesting_by, item_nesting_by, member_nesting_by, step_nesting_by, part_nesting_by}

-- one level of an expression, of a class and of an item
expr_positive : (d : Expr-F ℕ ℕ ℕ ℕ ℕ ℕ) → 1 ≤ nesting_by d
expr_positive (Expr-F.Int at n) = omega arith
expr_positive _ = omega arith

class_positive : (d : ClassReference-F ℕ ℕ ℕ ℕ ℕ ℕ) → 1 ≤ class_nesting_by d
class_positive (ClassReference-F.SelfClass at) = omega arith
class_positive _ = omega arith

item_positive : (d : Item-F ℕ ℕ ℕ ℕ ℕ ℕ) → 1 ≤ item_nesting_by d
item_positive (Item-F.Hole at) = omega arith
item_positive _ = omega arith

-- an expression, a class and an item
pub nesting-positive : (x : Expr) → 1 ≤ nesting x
unfolding nesting
nesting-positive x = subst (λ n. 1 ≤ n) (sym (fold_out-Expr ℕ ℕ ℕ ℕ ℕ ℕ class_nesting_by nesting_by item_nesting_by member_nesting_by step_nesting_by part_nesting_by x)) (expr_positive _)

pub class_nesting-positive : (x : ClassReference) → 1 ≤ class_nesting x
unfolding class_nesting
class_nesting-positive x = subst (λ n. 1 ≤ n) (sym (fold_out-ClassReference ℕ ℕ ℕ ℕ ℕ ℕ class_nesting_by nesting_by item_nesting_by member_nesting_by step_nesting_by part_nesting_by x)) (class_positive _)

pub item_nesting-positive : (x : Item) → 1 ≤ item_nesting x
unfolding item_nesting
item_nesting-positive x = subst (λ n. 1 ≤ n) (sym (fold_out-Item ℕ ℕ ℕ ℕ ℕ ℕ class_nesting_by nesting_by item_nesting_by member_nesting_by step_nesting_by part_nesting_by x)) (item_positive _)
