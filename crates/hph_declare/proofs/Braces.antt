-- What stands in braces, and then a rule of it and of the token that closes.
use Rattle.std.specs.Prelude.{◌≡◌, List, Option, Some, None, refl}
use Rattle.hph_ast.specs.declared.token.Token.{Token}
use Rattle.hph_ast.specs.declared.token.Mark.TheVariants as m
use Rattle.hph_ast.specs.declared.token.Identifier.{Identifier}
use Rattle.hph_ast.specs.declared.expr.Expr.{Expr}
use Rattle.hph_ast.specs.declared.function.DeclaredType.{DeclaredType}
use Rattle.hph_ast.specs.declared.function.Param.{Param}
use Rattle.hph_ast.specs.declared.function.Function.{roll-Function}
use Rattle.hph_ast.specs.declared.class.Class.{roll-Class}
use Rattle.hph_ast.specs.declared.class.Member.{Member}
use Rattle.hph_ast.specs.declared.stmt.Statement.{Statement}
use Rattle.hph_ast.specs.Places.{on, span}
use Rattle.hph_cursor.specs.Steps.{Outcome, Parser, and_then, ◌>>=◌, ◌>>◌, pure, is_mark, expect}
use Rattle.hph_fexpr.specs.declared.form.Form.{Form}
use Rattle.hph_fstmt.specs.Repeats.{many}
use Rattle.hph_fstmt.specs.Statements.{statements, function_body, class_member, class_body}
use Rattle.hph_declare.specs.Braces.{braced}

pub in_braces : {A B : Type 0} (inner : Parser A) (rule : A → Token → Parser B) (ts : List Token) →
    (expect m.OpenBrace >> (inner >>= λ a. expect m.CloseBrace >>= λ c. rule a c)) ts
    ≡ and_then {A = A × Token} (braced inner ts) (λ r. rule r.0 r.1)
in_braces {A = A} {B = B} inner rule ts = opened (expect m.OpenBrace ts)
  where
    closed : (a : A) (rule : A → Token → Parser B) (o : Outcome Token) →
        and_then o (λ c. rule a c) ≡ and_then {A = A × Token} (and_then o (λ c us. Some ((a, c), us))) (λ r. rule r.0 r.1)
    closed a rule None = refl
    closed a rule (Some p) = refl

    read : (rule : A → Token → Parser B) (o : Outcome A) →
        and_then o (λ a. expect m.CloseBrace >>= λ c. rule a c)
        ≡ and_then {A = A × Token} (and_then o (λ a. expect m.CloseBrace >>= λ c. λ us. Some ((a, c), us))) (λ r. rule r.0 r.1)
    read rule None = refl
    read rule (Some (a, us)) = closed a rule (expect m.CloseBrace us)

    opened : (o : Outcome Token) →
        and_then o (λ _. inner >>= λ a. expect m.CloseBrace >>= λ c. rule a c)
        ≡ and_then {A = A × Token} (and_then o (λ _. inner >>= λ a. expect m.CloseBrace >>= λ c. λ us. Some ((a, c), us)))
        (λ r. rule r.0 r.1)
    opened None = refl
    opened (Some (o, us)) = read rule (inner us)

-- the body of a function
pub bodied : (below : Form → Parser Expr) (nested : Parser Statement) (t : Token) (v : Identifier) (ps : List Param) (result : Option DeclaredType)
    (ts : List Token) → function_body below nested t v ps result ts
    ≡ and_then {A = List Statement × Token} (braced (statements below nested) ts)
    (λ r. pure (roll-Function (record { at = span (on t) (on r.1); name = v; params = ps; result = result; body = r.0 })))
unfolding function_body
bodied below nested t v ps result ts = in_braces (statements below nested)
    (λ body c. pure (roll-Function (record { at = span (on t) (on c); name = v; params = ps; result = result; body = body }))) ts

-- the members of a class
pub classed : (below : Form → Parser Expr) (nested : Parser Statement) (t : Token) (v : Identifier) (parent : Option Identifier)
    (ts : List Token) → class_body below nested t v parent ts
    ≡ and_then {A = List Member × Token} (braced (many (is_mark m.CloseBrace) (class_member below nested)) ts)
    (λ r. pure (roll-Class (record { at = span (on t) (on r.1); name = v; parent = parent; members = r.0 })))
unfolding class_body
classed below nested t v parent ts = in_braces (many (is_mark m.CloseBrace) (class_member below nested))
    (λ members c. pure (roll-Class (record { at = span (on t) (on c); name = v; parent = parent; members = members }))) ts
