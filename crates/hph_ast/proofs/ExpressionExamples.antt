-- Small expressions and their trees, as PHP 8.2 groups them: `assert` prints each back with its parentheses.
use Rattle.std.proofs.Common.{◌≡◌, ℕ, List, [], ◌∷◌, refl, codes, arith, true, false}
use Rattle.std.specs.Prelude.{◌+◌}
use Rattle.hph_ast.specs.declared.token.At.{At}
use Rattle.hph_ast.specs.declared.token.Token.{Token}
use Rattle.hph_ast.specs.declared.token.Kind.TheVariants as k
use Rattle.hph_ast.specs.declared.token.Mark.TheVariants as m
use Rattle.hph_ast.specs.declared.keyword.Keyword.TheVariants as w
use Rattle.hph_ast.specs.declared.operator.Binary.TheVariants as b
use Rattle.hph_ast.specs.declared.operator.Assignment.TheVariants as a
use Rattle.hph_ast.specs.declared.operator.Prefix.TheVariants as p
use denote.Hole.Carrier.{out, shown, hidden}
use Rattle.hph_ast.specs.declared.expr.ClassReference.TheBlock.{shown-the_row-Expr-0}
use Rattle.hph_ast.specs.declared.expr.Expr.{Expr, out-Expr}
use Rattle.hph_ast.specs.declared.expr.Expr.TheVariants as e
use Rattle.hph_ast.specs.declared.expr.Step.{Step, out-Step}
use Rattle.hph_ast.specs.declared.expr.Step.TheVariants as s
use Rattle.hph_ast.specs.declared.expr.ClassReference.{out-ClassReference}
use Rattle.hph_ast.specs.declared.expr.ClassReference.TheVariants as c
use Rattle.hph_ast.specs.declared.expr.MemberName.TheVariants as n
use Rattle.hph_ast.specs.Lexical.{token}
use Rattle.hph_ast.specs.Levels.{opens}
use Rattle.hph_ast.specs.Shapes.{is_written}
use Rattle.hph_ast.specs.Places.{on}
use Rattle.hph_ast.specs.Terminals as terminal
use Rattle.hph_ast.specs.Expressions.{IsExpression, IsPostfix}
use Rattle.hph_ast.specs.Expressions as g

-- the place of a node from one offset up to another
abbrev pub from_to : ℕ → ℕ → At
from_to start end = record { start = start; end = end; site = 0 }

abbrev pub int_at : ℕ → ℕ → Expr
int_at at v = e.Int (from_to at (at + 1)) v

-- a number, a variable and a name as operands
pub int : {l : ℕ} {t : Token} {rest : List Token} {v : ℕ} → t.kind ≡ k.Int v → IsExpression l (t ∷ rest) (e.Int (on t) v) rest
unfolding out-Expr out
int h = g.term (g.postfix (g.primary (g.int h) (g.no_steps g.ends)) refl)

pub name : {l : ℕ} {t : Token} {rest : List Token} {spelled : List ℕ} → t.kind ≡ k.Name spelled → opens rest ≡ false → IsExpression l (t ∷ rest) (e.Constant (on t) spelled) rest
unfolding out-Expr out
name h h' = g.term (g.postfix (g.primary (g.constant h h') (g.no_steps g.ends)) refl)

pub variable : {t : Token} {rest : List Token} {spelled : List ℕ} → t.kind ≡ k.Variable spelled → IsPostfix (t ∷ rest) (e.Variable (on t) spelled) rest
variable h = g.primary (g.variable h) (g.no_steps g.ends)

-- `-2 ** 2` is `-(2 ** 2)`
pub minus_of_a_power : IsExpression 1 (token 0 1 (k.Operator b.Sub) ∷ token 1 1 (k.Int 2) ∷ token 3 2 (k.Operator b.Pow) ∷ token 6 1 (k.Int 2) ∷ [])
    (e.Prefix (from_to 0 7) p.Minus (e.Pair (from_to 1 7) b.Pow (int_at 1 2) (int_at 6 2))) []
unfolding out-Expr out
minus_of_a_power = g.term (g.prefix refl (g.to_right (omega arith) refl (int refl) refl (int refl)) (record { below = omega arith }))

-- `!$a = 1` is `!($a = 1)`
pub not_of_an_assignment : IsExpression 1 (token 0 1 (k.Mark m.Exclamation) ∷ token 1 2 (k.Variable (codes "a")) ∷ token 4 1 (k.Assign a.Set) ∷ token 6 1 (k.Int 1) ∷ [])
    (e.Prefix (from_to 0 7) p.Not (e.Assign (from_to 1 7) a.Set (e.Variable (from_to 1 3) (codes "a")) (int_at 6 1))) []
unfolding out-Expr out
not_of_an_assignment = g.term (g.prefix refl (g.term (g.assign (variable refl) refl refl (int refl) (record { below = omega arith }))) (record { below = omega arith }))

-- `print 1 and 2` is `(print 1) and 2`
pub print_before_and : IsExpression 1 (token 0 5 (k.Keyword w.Print) ∷ token 6 1 (k.Int 1) ∷ token 8 3 (k.Operator b.LogicalAnd) ∷ token 12 1 (k.Int 2) ∷ [])
    (e.Run (from_to 0 13) (e.Prefix (from_to 0 7) p.Print (int_at 6 1)) ((b.LogicalAnd, int_at 12 2) ∷ [])) []
unfolding out-Expr out
print_before_and = g.run (omega arith) refl (g.term (g.prefix refl (int refl) (record { below = omega arith }))) (g.operand refl refl (int refl) g.operands_end)

-- `1 + 2 - 3` is one run
pub sum_and_difference : IsExpression 1 (token 0 1 (k.Int 1) ∷ token 2 1 (k.Operator b.Add) ∷ token 4 1 (k.Int 2) ∷ token 6 1 (k.Operator b.Sub) ∷ token 8 1 (k.Int 3) ∷ [])
    (e.Run (from_to 0 9) (int_at 0 1) ((b.Add, int_at 4 2) ∷ (b.Sub, int_at 8 3) ∷ [])) []
unfolding out-Expr out
sum_and_difference = g.run (omega arith) refl (int refl) (g.operand refl refl (int refl) (g.operand refl refl (int refl) g.operands_end))

-- `1 < 2 == true` is `(1 < 2) == true`
pub less_before_equal : IsExpression 1 (token 0 1 (k.Int 1) ∷ token 2 1 (k.Operator b.Less) ∷ token 4 1 (k.Int 2) ∷ token 6 2 (k.Operator b.Equal) ∷ token 9 4 (k.Name (codes "true")) ∷ [])
    (e.Pair (from_to 0 13) b.Equal (e.Pair (from_to 0 5) b.Less (int_at 0 1) (int_at 4 2)) (e.Constant (from_to 9 13) (codes "true"))) []
unfolding out-Expr out
less_before_equal = g.single (omega arith) refl (g.single (omega arith) refl (int refl) refl (int refl)) refl (name refl refl)

-- a path that begins with a variable may be written
pub written : (at before : At) (spelled : List ℕ) (steps : List Step) → is_written (e.Path at (e.Variable before spelled) steps) ≡ true
unfolding out-Expr out shown-the_row-Expr-0 shown hidden
written at before spelled steps = refl

abbrev pub steps_1_b : List Step
steps_1_b = s.Index (from_to 2 5) (int_at 3 1) ∷ s.Property (from_to 5 8) (n.Named (codes "b")) ∷ []

-- `$a[1]->b = 3`: the steps of a path are one node
pub assignment_to_a_path : IsExpression 1 (token 0 2 (k.Variable (codes "a")) ∷ token 2 1 (k.Mark m.OpenBracket) ∷ token 3 1 (k.Int 1) ∷ token 4 1 (k.Mark m.CloseBracket) ∷
    token 5 2 (k.Mark m.Arrow) ∷ token 7 1 (k.Name (codes "b")) ∷ token 9 1 (k.Assign a.Set) ∷ token 11 1 (k.Int 3) ∷ [])
    (e.Assign (from_to 0 12) a.Set
    (e.Path (from_to 0 8) (e.Variable (from_to 0 2) (codes "a")) steps_1_b) (int_at 11 3)) []
unfolding out-Expr out-Step out
assignment_to_a_path = g.term (g.assign
    (g.primary (g.variable refl) (g.path (g.steps_more (g.index refl (int refl) refl) (g.steps_more (g.property refl (g.by_name refl) refl) g.steps_end)) g.ends))
    (written (from_to 0 8) (from_to 0 2) (codes "a") steps_1_b) refl (int refl) (record { below = omega arith }))

-- `$a instanceof B instanceof C` is one node
pub instance_of_a_chain : IsExpression 1 (token 0 2 (k.Variable (codes "a")) ∷ token 3 10 (k.Keyword w.InstanceOf) ∷ token 14 1 (k.Name (codes "B")) ∷ token 16 10 (k.Keyword w.InstanceOf) ∷ token 27 1 (k.Name (codes "C")) ∷ [])
    (e.InstanceOf (from_to 0 28) (e.Variable (from_to 0 2) (codes "a")) (c.ByName (from_to 14 15) (codes "B") ∷ c.ByName (from_to 27 28) (codes "C") ∷ [])) []
unfolding out-Expr out out-ClassReference
instance_of_a_chain = g.instance_of (omega arith) (g.term (g.postfix (variable refl) refl)) (g.instance refl (terminal.named refl) (g.instance refl (terminal.named refl) g.instances_end))
