-- Small files and what they spell, as `token_get_all` of PHP 8.2 has it.
use Rattle.std.proofs.Common.{ℕ, List, [], ◌∷◌, ◌++◌, refl, Ok, Err, drop, codes, arith}
use Rattle.std.specs.Prelude.{◌+◌}
use Rattle.hph_ast.specs.declared.token.Token.{Token}
use Rattle.hph_ast.specs.declared.token.Kind.TheVariants as k
use Rattle.hph_ast.specs.declared.token.Mark.TheVariants as m
use Rattle.hph_ast.specs.declared.keyword.Keyword.TheVariants as w
use Rattle.hph_ast.specs.declared.refusal.LexKind.TheVariants as l
use Rattle.hph_ast.specs.declared.refusal.Construct.TheVariants as c
use Rattle.hph_ast.specs.Numbers as number
use Rattle.hph_ast.specs.Strings as string
use Rattle.hph_ast.specs.Lexical as place
use Rattle.hph_ast.specs.Lexical.{token, lex, construct, start_of, Next, Comes}
use Rattle.hph_ast.specs.Tokens.{State, turned, Lexes, SpellsTokens, FailsAt}
use Rattle.hph_ast.specs.Tokens as tokens

-- tokens at a place, and those behind them
then : {state : State} {at b : ℕ} {bs : List ℕ} {next : Next} (ts : List Token) →
    Comes at state.mode (b ∷ bs) (Ok next) → Lexes (turned next.turn state.outer) (at + next.len) (drop next.len (b ∷ bs)) (Ok ts) →
    Lexes state at (b ∷ bs) (Ok (next.tokens ++ ts))
then ts comes rest = tokens.place comes rest

-- the same before a fault
then_fault : {state : State} {at b : ℕ} {bs : List ℕ} {next : Next} (fault : place.Fault × ℕ) →
    Comes at state.mode (b ∷ bs) (Ok next) → Lexes (turned next.turn state.outer) (at + next.len) (drop next.len (b ∷ bs)) (Err fault) →
    Lexes state at (b ∷ bs) (Err fault)
then_fault fault comes rest = tokens.place comes rest

abbrev pub semicolon_at : ℕ → List Token
semicolon_at at = token at 1 (k.Mark m.Semicolon) ∷ []

pub echo_of_an_int : SpellsTokens (codes "<?php echo 3;") (token 6 4 (k.Keyword w.Echo) ∷ token 11 1 (k.Int 3) ∷ semicolon_at 12)
unfolding start_of
echo_of_an_int =
    then (token 6 4 (k.Keyword w.Echo) ∷ token 11 1 (k.Int 3) ∷ semicolon_at 12) (place.opening refl)
    (then (token 11 1 (k.Int 3) ∷ semicolon_at 12) (place.code (place.name refl))
    (then (token 11 1 (k.Int 3) ∷ semicolon_at 12) (place.code (place.whitespace refl))
    (then (semicolon_at 12) (place.code (place.number refl refl (number.digit (omega arith)) (omega arith)))
    (then [] (place.code (place.mark refl refl)) (tokens.end refl)))))

-- behind `->` a keyword is a name
pub keyword_as_a_name : SpellsTokens (codes "<?php $a->list?>") (token 6 2 (k.Variable (codes "a")) ∷ token 8 2 (k.Mark m.Arrow) ∷ token 10 4 (k.Name (codes "list")) ∷ token 14 2 (k.Mark m.Semicolon) ∷ [])
unfolding start_of
keyword_as_a_name =
    then _ (place.opening refl)
    (then (token 8 2 (k.Mark m.Arrow) ∷ token 10 4 (k.Name (codes "list")) ∷ token 14 2 (k.Mark m.Semicolon) ∷ []) (place.code (place.variable refl))
    (then (token 10 4 (k.Name (codes "list")) ∷ token 14 2 (k.Mark m.Semicolon) ∷ []) (place.code (place.mark refl refl))
    (then (token 14 2 (k.Mark m.Semicolon) ∷ []) (place.member (place.name refl))
    (then [] (place.code (place.close_tag refl)) (tokens.end refl)))))

-- `a$b[0]{$c}` in double quotes, with an empty piece between its interpolations
abbrev pub after_b : List Token
after_b = token 10 0 (k.TextMiddle []) ∷ token 10 1 (k.Mark m.OpenInterpolation) ∷ token 11 2 (k.Variable (codes "c")) ∷ token 13 1 (k.Mark m.CloseBrace) ∷ token 14 1 (k.TextTail []) ∷ []

pub interpolated : SpellsTokens (codes "<?=" ++ 34 ∷ codes "a$b[0]{$c}" ++ 34 ∷ [])
    (token 0 3 (k.Keyword w.Echo) ∷ token 3 2 (k.TextHead (codes "a")) ∷ token 5 2 (k.Variable (codes "b")) ∷
    token 7 1 (k.Mark m.OpenBracket) ∷ token 8 1 (k.Int 0) ∷ token 9 1 (k.Mark m.CloseBracket) ∷ after_b)
unfolding start_of
interpolated =
    then _ (place.opening_echo refl)
    (then _ (place.code (place.double refl (string.plain refl refl (string.interpolation refl))))
    (then after_b (place.interpolation (place.simple refl refl (place.key refl refl refl)))
    (then _ (place.later_piece (string.interpolation refl))
    (then _ (place.interpolation (place.braces refl refl))
    (then (token 13 1 (k.Mark m.CloseBrace) ∷ token 14 1 (k.TextTail []) ∷ []) (place.code (place.variable refl))
    (then (token 14 1 (k.TextTail []) ∷ []) (place.code (place.mark refl refl))
    (then [] (place.later_piece (string.closes refl)) (tokens.end refl))))))))

-- `08` is no octal number, but `08.5` is a float
pub float_with_a_leading_zero : FailsAt (codes "<?php 08.5") (construct c.FloatLiteral) 6
unfolding start_of
float_with_a_leading_zero = then_fault _ (place.opening refl) (tokens.fault (place.code (place.float refl refl)))

-- the file ends where a piece of a string would begin
pub string_that_is_left_open : FailsAt (codes "<?=" ++ 34 ∷ codes "$a") (lex l.UnclosedString) 6
unfolding start_of
string_that_is_left_open =
    then_fault _ (place.opening_echo refl)
    (then_fault _ (place.code (place.double refl (string.interpolation refl)))
    (then_fault _ (place.interpolation (place.simple refl refl (place.alone refl refl refl)))
    (tokens.open_end refl)))
