-- What the rules of the grammars use: a front of the tokens, and the rest is left.
use Rattle.std.specs.Prelude.{◌≡◌, List, ◌++◌}
use Rattle.hph_ast.specs.declared.token.Token.{Token}

-- the tokens are a front, and then the rest
pub record UsesFront (tokens rest : List Token) : Type 0 where
  pub front : List Token
  pub splits : tokens ≡ front ++ rest
