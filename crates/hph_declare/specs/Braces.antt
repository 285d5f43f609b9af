-- What stands in braces, with the token that closes them.
use Rattle.hph_ast.specs.declared.token.Token.{Token}
use Rattle.hph_ast.specs.declared.token.Mark.TheVariants as m
use Rattle.hph_cursor.specs.Steps.{Parser, ◌>>=◌, ◌>>◌, pure, expect}

-- behind the "{"
abbrev pub closed : {A : Type 0} → Parser A → Parser (A × Token)
closed inner = inner >>= λ a. expect m.CloseBrace >>= λ c. pure (a, c)

abbrev pub braced : {A : Type 0} → Parser A → Parser (A × Token)
braced inner = expect m.OpenBrace >> (inner >>= λ a. expect m.CloseBrace >>= λ c. pure (a, c))
