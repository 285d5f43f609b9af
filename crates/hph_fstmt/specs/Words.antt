-- Keywords, names and variables as parsers of one token.
use Rattle.std.specs.Prelude.{Bool, false, List, [], ◌∷◌, Some, None, if◌then◌else◌}
use denote.Enum.Bare.{sameb}
use Rattle.hph_ast.specs.declared.token.At.{At}
use Rattle.hph_ast.specs.declared.token.Token.{Token}
use Rattle.hph_ast.specs.declared.token.Identifier.{Identifier}
use Rattle.hph_ast.specs.declared.token.Kind.{Kind}
use Rattle.hph_ast.specs.declared.token.Kind.TheVariants as k
use Rattle.hph_ast.specs.declared.keyword.Keyword.{Keyword}
use Rattle.hph_ast.specs.contracts.keyword.Keyword.{the_type}
use Rattle.hph_ast.specs.Places.{on, identifier}
use Rattle.hph_cursor.specs.Steps.{Parser, ◌>>=◌, pure, fail, take_token}

-- `==` on keywords
abbrev pub same_keyword : Keyword → Keyword → Bool
same_keyword = sameb the_type

abbrev pub is_keyword : Keyword → Kind → Bool
is_keyword w (k.Keyword v) = same_keyword v w
is_keyword w _ = false

-- whether the next token is this keyword
abbrev pub sees_keyword : Keyword → List Token → Bool
sees_keyword w [] = false
sees_keyword w (t ∷ ts) = is_keyword w t.kind

-- takes a token of a kind
abbrev pub expect_kind : (Kind → Bool) → Parser Token
expect_kind f [] = None
expect_kind f (t ∷ ts) = if f t.kind then Some (t, ts) else None

-- the place of the next token
abbrev pub here : Parser At
here [] = None
here (t ∷ ts) = Some (on t, t ∷ ts)

abbrev pub identifier_place : Identifier → At
identifier_place name = record { start = name.start; end = name.end; site = 0 }

abbrev pub variable_by : Token → Kind → Parser Identifier
variable_by t (k.Variable name) = pure (identifier t name)
variable_by t _ = fail

unfoldable pub variable : Parser Identifier
variable = take_token >>= λ t. variable_by t t.kind

abbrev pub name_by : Token → Kind → Parser Identifier
name_by t (k.Name name) = pure (identifier t name)
name_by t _ = fail

unfoldable pub name : Parser Identifier
name = take_token >>= λ t. name_by t t.kind
