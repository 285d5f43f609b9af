-- Where expressions end: what is read takes all that it can.
use Rattle.std.specs.Prelude.{◌≡◌, ℕ, false, List}
use Rattle.hph_ast.specs.declared.token.Token.{Token}
use Rattle.hph_ast.specs.declared.token.Mark.TheVariants as m
use Rattle.hph_ast.specs.declared.expr.Expr.{Expr}
use Rattle.hph_ast.specs.Levels.{Stops}
use Rattle.hph_ast.specs.Expressions.{IsExpression, IsWrittenOnly}
use Rattle.hph_cursor.specs.Steps.{sees}

-- the tokens up to the rest spell an expression of this level, and it does not go on
pub record Whole (level : ℕ) (tokens : List Token) (x : Expr) (rest : List Token) : Type 0 where
  pub is : IsExpression level tokens x rest
  pub stops : Stops level rest

-- the tokens up to the rest spell an element of an array or a destructuring without its key, and it does not go on
pub data IsValue : List Token → Expr → List Token → Type 0 where
  expression : {ts rest : List Token} {x : Expr} → IsExpression 1 ts x rest → IsValue ts x rest
  only_written : {ts rest : List Token} {x : Expr} → IsWrittenOnly ts x rest → IsValue ts x rest

pub record WholeValue (tokens : List Token) (x : Expr) (rest : List Token) : Type 0 where
  pub is : IsValue tokens x rest
  pub stops : Stops 1 rest

-- no token comes next with which a postfix expression would go on
pub record Ends (rest : List Token) : Type 0 where
  pub call : sees m.OpenParen rest ≡ false
  pub bracket : sees m.OpenBracket rest ≡ false
  pub arrow : sees m.Arrow rest ≡ false
  pub colons : sees m.DoubleColon rest ≡ false
