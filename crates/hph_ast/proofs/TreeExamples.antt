-- More small pieces of programs and their trees, as PHP 8.2 groups them.
use Rattle.std.proofs.Common.{◌≡◌, ℕ, List, [], ◌∷◌, refl, codes, arith, true, false, Some, None}
use denote.Hole.Carrier.{out}
use Rattle.hph_ast.specs.declared.token.Token.{Token}
use Rattle.hph_ast.specs.declared.token.Kind.TheVariants as k
use Rattle.hph_ast.specs.declared.token.Mark.TheVariants as m
use Rattle.hph_ast.specs.declared.keyword.Keyword.TheVariants as w
use Rattle.hph_ast.specs.declared.operator.Binary.TheVariants as b
use Rattle.hph_ast.specs.declared.operator.Assignment.TheVariants as a
use Rattle.hph_ast.specs.declared.expr.Expr.{out-Expr}
use Rattle.hph_ast.specs.declared.expr.Expr.TheVariants as e
use Rattle.hph_ast.specs.declared.expr.Step.{Step, out-Step}
use Rattle.hph_ast.specs.declared.expr.Step.TheVariants as s
use Rattle.hph_ast.specs.declared.expr.MemberName.TheVariants as n
use Rattle.hph_ast.specs.declared.function.Function.{roll-Function}
use Rattle.hph_ast.specs.declared.function.TypeName.TheVariants as type
use Rattle.hph_ast.specs.declared.class.Class.{roll-Class}
use Rattle.hph_ast.specs.declared.class.Access.TheVariants as access
use Rattle.hph_ast.specs.declared.class.Member.TheVariants as member
use Rattle.hph_ast.specs.declared.stmt.Statement.{out-Statement}
use Rattle.hph_ast.specs.declared.stmt.Statement.TheVariants as statement
use Rattle.hph_ast.specs.declared.stmt.ForeachTarget.TheVariants as target
use Rattle.hph_ast.specs.Lexical.{token}
use Rattle.hph_ast.specs.Places.{on}
use Rattle.hph_ast.specs.Expressions.{IsExpression}
use Rattle.hph_ast.specs.Expressions as g
use Rattle.hph_ast.specs.Declarations as d
use Rattle.hph_ast.specs.Statements.{IsStatement, IsClassDeclaration}
use Rattle.hph_ast.specs.Statements as f
use Rattle.hph_ast.proofs.ExpressionExamples.{from_to, int_at, int, variable, written}
use Rattle.hph_ast.proofs.StatementExamples.{semicolon, open_paren, close_paren, int_is_constant}

-- a string as an operand
text : {l : ℕ} {t : Token} {rest : List Token} {bytes : List ℕ} → t.kind ≡ k.Text bytes → IsExpression l (t ∷ rest) (e.Text (on t) bytes) rest
unfolding out-Expr out
text h = g.term (g.postfix (g.primary (g.text h) (g.no_steps g.ends)) refl)

-- the steps `[1]->b['c']`
abbrev pub steps_1_b_c : List Step
steps_1_b_c = s.Index (from_to 2 5) (int_at 3 1) ∷ s.Property (from_to 5 8) (n.Named (codes "b")) ∷ s.Index (from_to 8 13) (e.Text (from_to 9 12) (codes "c")) ∷ []

-- `$a[1]->b['c'] = 3`: three steps are one node, and the path is assigned
pub assignment_to_three_steps : IsExpression 1 (token 0 2 (k.Variable (codes "a")) ∷ token 2 1 (k.Mark m.OpenBracket) ∷ token 3 1 (k.Int 1) ∷ token 4 1 (k.Mark m.CloseBracket) ∷
    token 5 2 (k.Mark m.Arrow) ∷ token 7 1 (k.Name (codes "b")) ∷ token 8 1 (k.Mark m.OpenBracket) ∷ token 9 3 (k.Text (codes "c")) ∷ token 12 1 (k.Mark m.CloseBracket) ∷
    token 14 1 (k.Assign a.Set) ∷ token 16 1 (k.Int 3) ∷ [])
    (e.Assign (from_to 0 17) a.Set
    (e.Path (from_to 0 13) (e.Variable (from_to 0 2) (codes "a")) steps_1_b_c) (int_at 16 3)) []
unfolding out-Expr out-Step out
assignment_to_three_steps = g.term (g.assign
    (g.primary (g.variable refl) (g.path
    (g.steps_more (g.index refl (int refl) refl) (g.steps_more (g.property refl (g.by_name refl) refl) (g.steps_more (g.index refl (text refl) refl) g.steps_end))) g.ends))
    (written (from_to 0 13) (from_to 0 2) (codes "a") steps_1_b_c) refl (int refl) (record { below = omega arith }))

-- `class A extends B{protected static $s=1;var $v;private function m(array $x,&$y=2){return;}}`
pub class_of_a_parent : IsClassDeclaration (token 0 5 (k.Keyword w.Class) ∷ token 6 1 (k.Name (codes "A")) ∷
    token 8 7 (k.Keyword w.Extends) ∷ token 16 1 (k.Name (codes "B")) ∷ token 17 1 (k.Mark m.OpenBrace) ∷
    token 18 9 (k.Keyword w.Protected) ∷ token 28 6 (k.Keyword w.Static) ∷ token 35 2 (k.Variable (codes "s")) ∷ token 37 1 (k.Assign a.Set) ∷ token 38 1 (k.Int 1) ∷ semicolon 39 ∷
    token 40 3 (k.Keyword w.Var) ∷ token 44 2 (k.Variable (codes "v")) ∷ semicolon 46 ∷
    token 47 7 (k.Keyword w.Private) ∷ token 55 8 (k.Keyword w.Function) ∷ token 64 1 (k.Name (codes "m")) ∷ open_paren 65 ∷
    token 66 5 (k.Keyword w.Array) ∷ token 72 2 (k.Variable (codes "x")) ∷ token 74 1 (k.Mark m.Comma) ∷
    token 75 1 (k.Operator b.BitAnd) ∷ token 76 2 (k.Variable (codes "y")) ∷ token 78 1 (k.Assign a.Set) ∷ token 79 1 (k.Int 2) ∷ close_paren 80 ∷
    token 81 1 (k.Mark m.OpenBrace) ∷ token 82 6 (k.Keyword w.Return) ∷ semicolon 88 ∷ token 89 1 (k.Mark m.CloseBrace) ∷
    token 90 1 (k.Mark m.CloseBrace) ∷ [])
    (roll-Class (record {
      at = from_to 0 91;
      name = record { start = 6; end = 7; spelled = codes "A" };
      parent = Some (record { start = 16; end = 17; spelled = codes "B" });
      members =
          member.Properties (from_to 18 40) (record { access = Some access.Protected; is_static = true }) None
          (record { name = record { start = 35; end = 37; spelled = codes "s" }; value = Some (int_at 38 1) } ∷ []) ∷
          member.Properties (from_to 40 47) (record { access = Some access.Var; is_static = false }) None
          (record { name = record { start = 44; end = 46; spelled = codes "v" }; value = None } ∷ []) ∷
          member.Method (from_to 47 90) (record { access = Some access.Private; is_static = false }) (roll-Function (record {
            at = from_to 55 90;
            name = record { start = 64; end = 65; spelled = codes "m" };
            params =
                record {
                  at = from_to 66 74;
                  ty = Some (record { at = from_to 66 71; nullable = false; names = type.Array 66 ∷ [] });
                  by_reference = false;
                  name = record { start = 72; end = 74; spelled = codes "x" };
                  default = None;
                } ∷
                record {
                  at = from_to 75 80;
                  ty = None;
                  by_reference = true;
                  name = record { start = 76; end = 78; spelled = codes "y" };
                  default = Some (int_at 79 2);
                } ∷ [];
            result = None;
            body = statement.Return (from_to 82 89) None ∷ [];
          })) ∷ [];
    })) []
unfolding out-Expr out
class_of_a_parent = f.a_class refl refl (f.extends refl refl) refl
    (f.members_more (f.properties (d.an_access (d.protected refl) refl (d.a_static refl refl d.modifiers_end)) refl d.no_type
    (d.properties_last refl (d.initial refl (record { is = int refl; constant = int_is_constant _ _ })) refl))
    (f.members_more (f.properties (d.an_access (d.var refl) refl d.modifiers_end) refl d.no_type (d.properties_last refl d.no_initial refl))
    (f.members_more (f.method (d.an_access (d.private refl) refl d.modifiers_end) (f.a_function refl refl refl
    (d.params_more (d.param (d.some_type (d.plain_type (d.types_last (d.array_type refl)))) d.by_value refl d.no_initial) refl
    (d.params_last (d.param d.no_type (d.by_reference refl) refl (d.initial refl (record { is = int refl; constant = int_is_constant _ _ }))) refl))
    d.no_result refl (f.statements_more (f.return_nothing refl refl) f.statements_end) refl)) f.members_end))) refl

-- `$a = $b = 1` is `$a = ($b = 1)`
pub assignment_of_an_assignment : IsExpression 1 (token 0 2 (k.Variable (codes "a")) ∷ token 3 1 (k.Assign a.Set) ∷ token 5 2 (k.Variable (codes "b")) ∷ token 8 1 (k.Assign a.Set) ∷ token 10 1 (k.Int 1) ∷ [])
    (e.Assign (from_to 0 11) a.Set (e.Variable (from_to 0 2) (codes "a"))
    (e.Assign (from_to 5 11) a.Set (e.Variable (from_to 5 7) (codes "b")) (int_at 10 1))) []
unfolding out-Expr out
assignment_of_an_assignment = g.term (g.assign (variable refl) refl refl
    (g.term (g.assign (variable refl) refl refl (int refl) (record { below = omega arith }))) (record { below = omega arith }))

-- `1 ?? 2 ?? 3` is `1 ?? (2 ?? 3)`
pub coalesce_to_the_right : IsExpression 1 (token 0 1 (k.Int 1) ∷ token 2 2 (k.Operator b.Coalesce) ∷ token 5 1 (k.Int 2) ∷ token 7 2 (k.Operator b.Coalesce) ∷ token 10 1 (k.Int 3) ∷ [])
    (e.Pair (from_to 0 11) b.Coalesce (int_at 0 1) (e.Pair (from_to 5 11) b.Coalesce (int_at 5 2) (int_at 10 3))) []
unfolding out-Expr out
coalesce_to_the_right = g.to_right (omega arith) refl (int refl) refl (g.to_right (omega arith) refl (int refl) refl (int refl))

-- `1 ?: 2 ?: 3` is one node, which stands for `(1 ?: 2) ?: 3`
pub chain_of_short_ternaries : IsExpression 1 (token 0 1 (k.Int 1) ∷ token 2 1 (k.Mark m.Question) ∷ token 3 1 (k.Mark m.Colon) ∷ token 5 1 (k.Int 2) ∷
    token 7 1 (k.Mark m.Question) ∷ token 8 1 (k.Mark m.Colon) ∷ token 10 1 (k.Int 3) ∷ [])
    (e.ShortTernary (from_to 0 11) (int_at 0 1) (int_at 5 2 ∷ int_at 10 3 ∷ [])) []
unfolding out-Expr out
chain_of_short_ternaries = g.short (omega arith) (int refl) (g.shorts_more refl refl (int refl) (g.shorts_more refl refl (int refl) g.shorts_end))

-- `f(1,2);`
pub statement_of_a_call : IsStatement true (token 0 1 (k.Name (codes "f")) ∷ open_paren 1 ∷ token 2 1 (k.Int 1) ∷ token 3 1 (k.Mark m.Comma) ∷ token 4 1 (k.Int 2) ∷ close_paren 5 ∷ semicolon 6 ∷ [])
    (statement.Expression (from_to 0 7) (e.Call (from_to 0 6) (codes "f") (int_at 2 1 ∷ int_at 4 2 ∷ []))) []
unfolding out-Expr out
statement_of_a_call = f.expression (g.term (g.postfix (g.primary
    (g.call refl refl (g.arguments_more (g.argument (int refl)) refl (g.arguments_last (g.argument (int refl)) refl))) (g.no_steps g.ends)) refl)) refl

-- `foreach($a as $k=>$v);`
pub foreach_with_a_key : IsStatement true (token 0 7 (k.Keyword w.Foreach) ∷ open_paren 7 ∷ token 8 2 (k.Variable (codes "a")) ∷ token 11 2 (k.Keyword w.As) ∷
    token 14 2 (k.Variable (codes "k")) ∷ token 16 2 (k.Mark m.DoubleArrow) ∷ token 18 2 (k.Variable (codes "v")) ∷ close_paren 20 ∷ semicolon 21 ∷ [])
    (statement.Foreach (from_to 0 22) (e.Variable (from_to 8 10) (codes "a")) (Some (record { start = 14; end = 16; spelled = codes "k" }))
    (target.Variable (record { start = 18; end = 20; spelled = codes "v" })) (statement.Empty (from_to 21 22))) []
unfolding out-Expr out-Statement out
foreach_with_a_key = f.foreach refl refl (g.term (g.postfix (variable refl) refl)) refl (f.a_key refl refl) (f.to_variable refl) refl (f.empty refl)
