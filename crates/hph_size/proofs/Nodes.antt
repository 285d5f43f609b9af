-- A file prints no more texts than its tree has nodes.
use Rattle.std.proofs.Common.{◌≡◌, ℕ, suc, ◌+◌, ◌≤◌, List, [], ◌∷◌, length, Option, Some, None, Ok, Err, sym, subst, length-append, arith}
use Rattle.hph_ast.specs.declared.expr.Expr.{Expr, out-Expr}
use Rattle.hph_ast.specs.declared.expr.ClassReference.TheOpen.{Expr-F}
use Rattle.hph_ast.specs.declared.expr.ClassReference.TheFolds.{fold_out-Expr}
use Rattle.hph_ast.specs.declared.function.Function.{Function}
use Rattle.hph_ast.specs.declared.class.Class.{Class}
use Rattle.hph_ast.specs.declared.class.Member.{Member}
use Rattle.hph_ast.specs.declared.class.Member.TheOpen.{Statement-F}
use Rattle.hph_ast.specs.declared.class.Member.TheFolds.{fold_out-Statement, map-Statement}
use Rattle.hph_ast.specs.declared.stmt.Statement.{Statement, out-Statement}
use Rattle.hph_ast.specs.declared.stmt.Case.{Case}
use Rattle.hph_ast.specs.declared.stmt.ElseIf.{ElseIf}
use Rattle.hph_ast.specs.declared.program.FileTree.{FileTree}
use Rattle.hph_ast.specs.Places.{place}
use Rattle.hph_php.specs.Cost.{total_of, nodes, nodes_by, class_nodes_by, item_nodes_by, member_nodes_by, step_nodes_by, part_nodes_by, statement_nodes, statement_nodes_by, member_nodes_of, class_nodes_of, function_nodes_by, case_nodes_by, else_if_nodes_by}
use Rattle.hph_text.specs.Texts.{Texts, StatementLayer, behind, in_order, operand_text, text_or, operand_texts, layer_texts, statement_texts, file_texts}
use Rattle.hph_size.specs.Nodes.{tree_nodes}

-- each expression is a node
node : (d : Expr-F ℕ ℕ ℕ ℕ ℕ ℕ) → 1 ≤ nodes_by d
node (Expr-F.Int at n) = omega arith
node _ = omega arith

expr_nodes : (x : Expr) → 1 ≤ nodes x
unfolding nodes
expr_nodes x = subst (λ n. 1 ≤ n)
    (sym (fold_out-Expr ℕ ℕ ℕ ℕ ℕ ℕ class_nodes_by nodes_by item_nodes_by member_nodes_by step_nodes_by part_nodes_by x)) (node _)

-- where there are texts, they are no more than this
data Few (n : ℕ) : Texts → Type 0 where
  other : {at : ℕ} → Few n (Err at)
  few : {texts : List (List ℕ)} → length texts ≤ n → Few n (Ok texts)

both : {m n : ℕ} {a b : Texts} → Few m a → Few n b → Few (m + n) (behind a b)
both other more = other
both (few here) other = other
both (few {texts = texts} here) (few {texts = more} there) = few (omega (arith, length-append texts more))

all : {A : Type 0} {f : A → Texts} {g : A → ℕ} → ((a : A) → Few (g a) (f a)) → (xs : List A) → Few (total_of g xs) (in_order f xs)
all each [] = few (omega arith)
all each (x ∷ xs) = both (each x) (all each xs)

one_more : {n : ℕ} {a : Texts} → Few n a → Few (suc n) a
one_more other = other
one_more (few here) = few (omega arith)

text : {n : ℕ} (o : Option (List ℕ)) (at : ℕ) → 1 ≤ n → Few n (text_or o at)
text (Some t) at some = few (omega arith)
text None at some = other

operand : (x : Expr) → Few (nodes x) (operand_texts x)
operand x = text (operand_text (out-Expr x)) (place x).start (expr_nodes x)

-- one level of a statement, which holds no members
layer : (statements : Statement → ℕ) (classes : Class → ℕ) (functions : Function → ℕ) (cases : Case → ℕ) (branches : ElseIf → ℕ)
    (d : StatementLayer) → Few (statement_nodes_by (map-Statement Member Statement Class Function Case ElseIf ℕ ℕ ℕ ℕ ℕ ℕ
    (λ m. 0) statements classes functions cases branches d)) (layer_texts d)
layer _ _ _ _ _ (Statement-F.Empty at) = few (omega arith)
layer _ _ _ _ _ (Statement-F.InlineText at bytes) = few (omega arith)
layer _ _ _ _ _ (Statement-F.Echo at values) = one_more (all operand values)
layer _ _ _ _ _ _ = other

statement : (x : Statement) → Few (statement_nodes x) (statement_texts x)
unfolding statement_nodes
statement x = subst (λ n. Few n (statement_texts x))
    (sym (fold_out-Statement ℕ ℕ ℕ ℕ ℕ ℕ member_nodes_of statement_nodes_by class_nodes_of function_nodes_by case_nodes_by else_if_nodes_by x))
    (layer _ _ _ _ _ (out-Statement x))

few_of : {n : ℕ} {texts : List (List ℕ)} → Few n (Ok texts) → length texts ≤ n
few_of (few here) = here

pub texts_nodes : (tree : FileTree) (texts : List (List ℕ)) → file_texts tree ≡ Ok texts → length texts ≤ tree_nodes tree
texts_nodes tree texts same =
    let here = few_of (subst (λ (a : Texts). Few (total_of statement_nodes tree.statements) a) same (all statement tree.statements)) in omega arith
