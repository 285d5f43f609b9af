-- The steps that every rule of the parser on lists is made of.
use Rattle.std.specs.Prelude.{Bool, false, List, [], ◌∷◌, Option, Some, None, if◌then◌else◌}
use denote.Enum.Bare.{sameb}
use Rattle.hph_ast.specs.declared.token.Token.{Token}
use Rattle.hph_ast.specs.declared.token.Kind.{Kind}
use Rattle.hph_ast.specs.declared.token.Kind.TheVariants as k
use Rattle.hph_ast.specs.declared.token.Mark.{Mark}
use Rattle.hph_ast.specs.contracts.token.Mark.{the_type}

abbrev pub Outcome : Type 0 → Type 0
Outcome A = Option (A × List Token)

-- a value and the tokens behind it, or none
abbrev pub Parser : Type 0 → Type 0
Parser A = List Token → Outcome A

abbrev pub and_then : {A B : Type 0} → Outcome A → (A → Parser B) → Outcome B
and_then None f = None
and_then (Some p) f = f p.0 p.1

infixl 10 ◌>>=◌
abbrev pub ◌>>=◌ : {A B : Type 0} → Parser A → (A → Parser B) → Parser B
p >>= f = λ ts. and_then (p ts) f

infixl 10 ◌>>◌
abbrev pub ◌>>◌ : {A B : Type 0} → Parser A → Parser B → Parser B
p >> q = p >>= (λ _. q)

abbrev pub pure : {A : Type 0} → A → Parser A
pure a = λ ts. Some (a, ts)

abbrev pub fail : {A : Type 0} → Parser A
fail = λ ts. None

-- a value where a test holds
abbrev pub pure_if : {A : Type 0} → Bool → A → Parser A
pure_if b a ts = if b then Some (a, ts) else None

-- the first parser where there is no value, else the second one of the value
abbrev pub choose : {A B : Type 0} → Option A → B → (A → B) → B
choose None x f = x
choose (Some a) x f = f a

-- `==` on marks
abbrev pub same_mark : Mark → Mark → Bool
same_mark = sameb the_type

abbrev pub is_mark : Mark → Kind → Bool
is_mark m (k.Mark n) = same_mark n m
is_mark m _ = false

-- whether the next token is this mark
abbrev pub sees : Mark → List Token → Bool
sees m [] = false
sees m (t ∷ ts) = is_mark m t.kind

-- takes any token
abbrev pub take_token : Parser Token
take_token [] = None
take_token (t ∷ ts) = Some (t, ts)

-- takes a token that is this mark
abbrev pub expect : Mark → Parser Token
expect m [] = None
expect m (t ∷ ts) = if is_mark m t.kind then Some (t, ts) else None
