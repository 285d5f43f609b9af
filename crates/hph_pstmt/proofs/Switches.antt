-- The cases of a `switch`, and then a rule of them and of the token that closes.
use Rattle.std.specs.Prelude.{◌≡◌, List, count_by, nat_le}
use Rattle.hph_ast.specs.declared.token.Token.{Token}
use Rattle.hph_ast.specs.declared.token.Mark.TheVariants as m
use Rattle.hph_ast.specs.declared.expr.Expr.{Expr}
use Rattle.hph_ast.specs.declared.stmt.Statement.{Statement}
use Rattle.hph_ast.specs.declared.stmt.Statement.TheVariants as s
use Rattle.hph_ast.specs.declared.stmt.Case.{Case}
use Rattle.hph_ast.specs.Places.{on, span}
use Rattle.hph_ast.specs.Statements.{is_default}
use Rattle.hph_cursor.specs.Steps.{Parser, and_then, pure_if, is_mark}
use Rattle.hph_declare.proofs.Braces.{in_braces}
use Rattle.hph_declare.specs.Braces.{braced}
use Rattle.hph_fexpr.specs.declared.form.Form.{Form}
use Rattle.hph_fstmt.specs.Repeats.{many}
use Rattle.hph_fstmt.specs.Statements.{case, switch_cases}

-- the cases of a switch, and then the test of them
pub switched : (below : Form → Parser Expr) (nested : Parser Statement) (t : Token) (x : Expr) (ts : List Token) →
    switch_cases below nested t x ts
    ≡ and_then {A = List Case × Token} (braced (many (is_mark m.CloseBrace) (case below nested)) ts)
    (λ r. pure_if (nat_le (count_by is_default r.0) 1) (s.Switch (span (on t) (on r.1)) x r.0))
unfolding switch_cases
switched below nested t x ts = in_braces (many (is_mark m.CloseBrace) (case below nested))
    (λ cases c. pure_if (nat_le (count_by is_default cases) 1) (s.Switch (span (on t) (on c)) x cases)) ts
