-- Small files and their trees: `else` and the nearest `if`, and the members of a class.
use Rattle.std.proofs.Common.{◌≡◌, ℕ, [], ◌∷◌, refl, codes, ap, sym, ◌∙◌, true, false, Some, None}
use denote.Hole.Carrier.{out}
use Rattle.hph_ast.specs.declared.token.Token.{Token}
use Rattle.hph_ast.specs.declared.token.Kind.TheVariants as k
use Rattle.hph_ast.specs.declared.token.Mark.TheVariants as m
use Rattle.hph_ast.specs.declared.keyword.Keyword.TheVariants as w
use Rattle.hph_ast.specs.declared.operator.Assignment.TheVariants as a
use Rattle.hph_ast.specs.declared.stmt.Statement.{out-Statement}
use Rattle.hph_ast.specs.declared.stmt.Statement.TheVariants as s
use Rattle.hph_ast.specs.declared.class.Class.{roll-Class}
use Rattle.hph_ast.specs.declared.class.Access.TheVariants as access
use Rattle.hph_ast.specs.declared.class.Member.TheVariants as member
use Rattle.hph_ast.specs.declared.function.Function.{roll-Function}
use Rattle.std.specs.Prelude.{Bool}
use Rattle.hph_ast.specs.declared.token.At.{At}
use Rattle.hph_ast.specs.declared.expr.Expr.TheVariants as e
use Rattle.hph_ast.specs.declared.expr.ClassReference.TheOpen.{Expr-F}
use Rattle.hph_ast.specs.declared.expr.ClassReference.TheFolds.{fold-roll-Expr}
use Rattle.hph_ast.specs.ConstantExpressions.{is_constant, class_is_constant, expr_is_constant, item_is_constant, member_is_constant, step_is_constant, part_is_constant}
use Rattle.hph_ast.specs.Lexical.{token}
use Rattle.hph_ast.specs.Declarations as d
use Rattle.hph_ast.specs.Statements.{IsStatement, IsClassDeclaration}
use Rattle.hph_ast.specs.Statements as g
use Rattle.hph_ast.proofs.ExpressionExamples.{from_to, int_at, int}

abbrev pub semicolon : ℕ → Token
semicolon at = token at 1 (k.Mark m.Semicolon)

abbrev pub open_paren : ℕ → Token
open_paren at = token at 1 (k.Mark m.OpenParen)

abbrev pub close_paren : ℕ → Token
close_paren at = token at 1 (k.Mark m.CloseParen)

-- `if(1)if(2);else;`: the `else` is that of the inner `if`
pub else_of_the_nearest_if : IsStatement true (token 0 2 (k.Keyword w.If) ∷ open_paren 2 ∷ token 3 1 (k.Int 1) ∷ close_paren 4 ∷
    token 5 2 (k.Keyword w.If) ∷ open_paren 7 ∷ token 8 1 (k.Int 2) ∷ close_paren 9 ∷ semicolon 10 ∷ token 11 4 (k.Keyword w.Else) ∷ semicolon 15 ∷ [])
    (s.If (from_to 0 16) (int_at 3 1)
    (s.If (from_to 5 16) (int_at 8 2) (s.Empty (from_to 10 11)) [] (Some (s.Empty (from_to 15 16)))) [] None) []
unfolding out-Statement out
else_of_the_nearest_if = g.if_ refl (g.test refl (int refl) refl)
    (g.if_ refl (g.test refl (int refl) refl) (g.empty refl) (g.else_ifs_end (λ e. absurd (cc))) (g.an_else refl (g.empty refl)))
    (g.else_ifs_end (λ e. absurd (cc))) (g.no_else (λ e. absurd (cc)))

-- a number is constant
pub int_is_constant : (at : At) (v : ℕ) → is_constant (e.Int at v) ≡ true
unfolding is_constant
int_is_constant at v = ap is_constant (sym (e.rolls-Int at v)) ∙ fold-roll-Expr Bool Bool Bool Bool Bool Bool class_is_constant expr_is_constant item_is_constant member_is_constant step_is_constant part_is_constant (Expr-F.Int at v)

-- `class A{const B=1;public $c;function d(){}}`
pub class_with_members : IsClassDeclaration (token 0 5 (k.Keyword w.Class) ∷ token 6 1 (k.Name (codes "A")) ∷ token 7 1 (k.Mark m.OpenBrace) ∷
    token 8 5 (k.Keyword w.Const) ∷ token 14 1 (k.Name (codes "B")) ∷ token 15 1 (k.Assign a.Set) ∷ token 16 1 (k.Int 1) ∷ semicolon 17 ∷
    token 18 6 (k.Keyword w.Public) ∷ token 25 2 (k.Variable (codes "c")) ∷ semicolon 27 ∷
    token 28 8 (k.Keyword w.Function) ∷ token 37 1 (k.Name (codes "d")) ∷ open_paren 38 ∷ close_paren 39 ∷ token 40 1 (k.Mark m.OpenBrace) ∷ token 41 1 (k.Mark m.CloseBrace) ∷
    token 42 1 (k.Mark m.CloseBrace) ∷ [])
    (roll-Class (record {
      at = from_to 0 43;
      name = record { start = 6; end = 7; spelled = codes "A" };
      parent = None;
      members =
          member.Constants (from_to 8 18) d.no_modifiers (record { name = record { start = 14; end = 15; spelled = codes "B" }; value = int_at 16 1 } ∷ []) ∷
          member.Properties (from_to 18 28) (record { access = Some access.Public; is_static = false }) None
          (record { name = record { start = 25; end = 27; spelled = codes "c" }; value = None } ∷ []) ∷
          member.Method (from_to 28 42) d.no_modifiers (roll-Function (record {
            at = from_to 28 42;
            name = record { start = 37; end = 38; spelled = codes "d" };
            params = [];
            result = None;
            body = [];
          })) ∷ [];
    })) []
class_with_members = g.a_class refl refl g.no_parent refl
    (g.members_more (g.constants d.modifiers_end refl refl (d.constants_last refl refl (record { is = int refl; constant = int_is_constant _ _ }) refl))
    (g.members_more (g.properties (d.an_access (d.public refl) refl d.modifiers_end) refl d.no_type (d.properties_last refl d.no_initial refl))
    (g.members_more (g.method d.modifiers_end (g.a_function refl refl refl (d.params_end refl) d.no_result refl g.statements_end refl)) g.members_end))) refl
