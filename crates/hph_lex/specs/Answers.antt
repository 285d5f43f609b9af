-- What the code's answer at a place stands for in the grammar of places.
use Rattle.std.specs.Prelude.{◌<◌, ℕ, suc, ◌+◌, Bool, true, false, not, ◌&&◌, ◌==◌, if◌then◌else◌, List, [], ◌∷◌, length, Option, Some}
use Rattle.std.specs.Prelude.{None, Ok}
use Rattle.hph_ast.specs.declared.token.Token.{Token}
use Rattle.hph_ast.specs.declared.token.Kind.{Kind}
use Rattle.hph_ast.specs.declared.token.Kind.TheVariants as k
use Rattle.hph_ast.specs.declared.lexical.Mode.{Mode}
use Rattle.hph_ast.specs.declared.lexical.Mode.TheVariants.{Code, Member, Piece}
use Rattle.hph_ast.specs.Lexical as place
use Rattle.hph_ast.specs.Lexical.{goes, enters, leaves, token, no_token, refused, key_tokens, property_tokens, is_plain_number, InCode}
use Rattle.hph_ast.specs.Lexical.{Comes}
use Rattle.hph_ast.specs.Bytes.{is_digit, begins_with, front}
use Rattle.hph_ast.specs.Strings.{value_of}
use Rattle.hph_lex.specs.declared.found.Turn.{Turn}
use Rattle.hph_lex.specs.declared.found.Turn.TheVariants.{Goes, Enters, Leaves}
use Rattle.hph_lex.specs.declared.found.Behind.{Behind}
use Rattle.hph_lex.specs.declared.found.Behind.TheVariants.{Alone, Property}
use Rattle.hph_lex.specs.declared.found.Behind.TheVariants as behind
use Rattle.hph_lex.specs.declared.found.Key.{Key}
use Rattle.hph_lex.specs.declared.found.Found.{Found}
use Rattle.hph_lex.specs.declared.found.Found.TheVariants.{Skipped, Token as One, Interpolated}
use Rattle.hph_lex.specs.declared.found.Next.{Next}
use Rattle.hph_lex.specs.declared.found.Answer.{Answer}
use Rattle.hph_lex.specs.declared.found.Answer.TheVariants as answers

-- behind `->` and `::`
abbrev pub is_member : Mode → Bool
is_member Member = true
is_member _ = false

-- in code, behind `->` and `::` too
abbrev pub is_code : Mode → Bool
is_code Code = true
is_code Member = true
is_code _ = false

abbrev pub turn_told : Turn → place.Turn
turn_told (Goes mode) = goes mode
turn_told (Enters back) = enters back
turn_told Leaves = leaves

-- the tokens that follow a variable at an offset
abbrev pub behind_tokens : ℕ → Behind → List Token
behind_tokens at Alone = []
behind_tokens at (behind.Key key) = key_tokens at (key.kind, key.length)
behind_tokens at (Property name) = property_tokens at name

-- the tokens of a place of so many bytes at an offset
abbrev pub found_tokens : ℕ → ℕ → Found → List Token
found_tokens at n Skipped = []
found_tokens at n (One kind) = token at n kind ∷ []
found_tokens at n (Interpolated name behind) =
    token at (suc (length name)) (k.Variable name) ∷ behind_tokens (at + suc (length name)) behind

abbrev pub next : ℕ → Next → place.Next
next at found = record { tokens = found_tokens at found.length found.found; len = found.length; turn = turn_told found.turn }

abbrev pub answer : ℕ → Answer → place.Answer
answer at (answers.Next found) = Ok (next at found)
answer at (answers.Bad kind) = no_token kind
answer at (answers.Refused which) = refused which

-- this comes in code, at whatever offset
abbrev pub ComesInCode : Mode → List ℕ → Answer → Type 0
ComesInCode mode bs found = (at : ℕ) → InCode mode (is_member mode) at bs (answer at found)

-- this comes in a mode, at whatever offset
abbrev pub ComesAt : Mode → List ℕ → Answer → Type 0
ComesAt mode bs found = (at : ℕ) → Comes at mode bs (answer at found)

-- this and its length follow a variable in a string, at whatever offset, or nothing that may
abbrev pub ComesBehind : List ℕ → Option (Behind × ℕ) → Type 0
ComesBehind bs None = (at : ℕ) (ts : List Token) (n : ℕ) → place.Behind at bs ts n → ⊥
ComesBehind bs (Some found) = (at : ℕ) → place.Behind at bs (behind_tokens at found.0) found.1

-- a variable in a string and what follows it, of so many bytes
abbrev pub interpolated : ℕ → List ℕ → Behind → ℕ → place.Answer
interpolated at name behind n =
    Ok (record {
      tokens = token at (suc (length name)) (k.Variable name) ∷ behind_tokens (at + suc (length name)) behind;
      len = n;
      turn = goes Piece;
    })

-- digits are there, without a leading zero before others
abbrev pub is_plain : List ℕ → Bool
is_plain [] = false
is_plain (d ∷ []) = true
is_plain (d ∷ e ∷ ds) = not (d == 48)

-- the key that a decimal number is
abbrev pub number_key_of : List ℕ → Option (Kind × ℕ)
number_key_of bs =
    if begins_with is_digit bs && is_plain_number (front is_digit bs)
    then Some (k.Int (value_of 10 (front is_digit bs)), length (front is_digit bs))
    else None

-- a key as the code tells it
abbrev pub key_told : Key → Kind × ℕ
key_told key = (key.kind, key.length)

-- each token ends before this offset
abbrev pub EndBefore : ℕ → List Token → Type 0
EndBefore limit [] = Unit {0}
EndBefore limit (t ∷ ts) = (t.end < limit) × EndBefore limit ts
