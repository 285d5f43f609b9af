-- What comes at one place of a file: tokens, what is skipped, or why there is neither. PHP manual, Basic syntax and Strings;
-- which constructs are refused, and the kinds of faults, are this project's own.
use Rattle.std.specs.Prelude.{◌≡◌, ◌<◌, ◌≤◌, ℕ, suc, ◌+◌, ◌-◌, ◌^◌, Bool, true, false, not, ◌&&◌, ◌||◌, List, [], ◌∷◌, length, take, drop, Option, Some, None, is_some, Result, Ok, Err, if◌then◌else◌, ◌==◌, nat_lt, codes}
use Rattle.hph_ast.specs.declared.token.Token.{Token}
use Rattle.hph_ast.specs.declared.token.Kind.{Kind}
use Rattle.hph_ast.specs.declared.token.Kind.TheVariants as k
use Rattle.hph_ast.specs.declared.token.Mark.TheVariants as m
use Rattle.hph_ast.specs.declared.keyword.Keyword.TheVariants as w
use Rattle.hph_ast.specs.declared.refusal.LexKind.{LexKind}
use Rattle.hph_ast.specs.declared.refusal.LexKind.TheVariants as l
use Rattle.hph_ast.specs.declared.refusal.Construct.{Construct}
use Rattle.hph_ast.specs.declared.refusal.Construct.TheVariants as c
use Rattle.hph_ast.specs.declared.lexical.Mode.{Mode}
use Rattle.hph_ast.specs.declared.lexical.Mode.TheVariants.{Inline, Code, Member, Interpolation, Piece}
use Rattle.hph_ast.specs.declared.lexical.Start.{Start}
use Rattle.hph_ast.specs.declared.lexical.Start.TheVariants as s
use Rattle.hph_ast.specs.Bytes.{is_whitespace, is_digit, is_letter, is_name_byte, begins, begins_word, begins_with, front, newline_length, First, Never}
use Rattle.hph_ast.specs.Words.{name_kind}
use Rattle.hph_ast.specs.Marks.{marks, mark_in, cast_of, cast_length}
use Rattle.hph_ast.specs.Numbers.{is_float, IsNumber, numeral_length}
use Rattle.hph_ast.specs.Strings as string
use Rattle.hph_ast.specs.Strings.{Single}

-- why no token begins at a place: a fault of the text, or a refused construct
pub data Fault : Type 0 where
  lex : LexKind → Fault
  construct : Construct → Fault

-- what the bytes behind a place are read as: in a mode; inside braces, with a mode for what stands behind them; or as what
-- stands behind the braces
pub data Turn : Type 0 where
  goes : Mode → Turn
  enters : Mode → Turn
  leaves : Turn

pub record Next : Type 0 where
  pub tokens : List Token
  pub len : ℕ
  pub turn : Turn

abbrev pub Answer : Type 0
Answer = Result Next Fault

-- a token of so many bytes at an offset
abbrev pub token : ℕ → ℕ → Kind → Token
token at n kind = record { kind = kind; start = at; end = at + n }

abbrev pub skips : ℕ → Mode → Answer
skips n mode = Ok (record { tokens = []; len = n; turn = goes mode })

abbrev pub gives : ℕ → ℕ → Kind → Turn → Answer
gives at n kind turn = Ok (record { tokens = token at n kind ∷ []; len = n; turn = turn })

abbrev pub no_token : LexKind → Answer
no_token why = Err (lex why)

abbrev pub refused : Construct → Answer
refused which = Err (construct which)

-- ---- outside code

-- `<?php` in any ASCII case before whitespace or the end
abbrev pub begins_code : List ℕ → Bool
begins_code [] = false
begins_code (b ∷ bs) = begins_word (codes "<?php") (b ∷ bs) && (begins_with is_whitespace (drop 5 (b ∷ bs)) || (length (b ∷ bs) == 5))

abbrev pub begins_echo : List ℕ → Bool
begins_echo bs = begins (codes "<?=") bs

abbrev pub ends_inline : List ℕ → Bool
ends_inline [] = true
ends_inline (b ∷ bs) = begins_code (b ∷ bs) || begins_echo (b ∷ bs)

-- one whitespace byte behind `<?php`, or CR LF, belongs to it
abbrev pub opening_length : List ℕ → ℕ
opening_length bs = 5 + (if begins (13 ∷ 10 ∷ []) (drop 5 bs) then 2 else (if begins_with is_whitespace (drop 5 bs) then 1 else 0))

-- ---- in code

-- a comment of a line ends before a newline or `?>`
abbrev pub ends_line : List ℕ → Bool
ends_line [] = true
ends_line (b ∷ bs) = b == 10 || (b == 13 || begins (codes "?>") (b ∷ bs))

abbrev pub ends_block : List ℕ → Bool
ends_block bs = begins (codes "*/") bs

unfoldable pub start_of : List ℕ → Start
start_of bs =
    if begins_with is_whitespace bs then s.Whitespace
    else (if begins (codes "?>") bs then s.CloseTag
    else (if begins (codes "#[") bs then s.Other
    else (if begins (codes "#") bs || begins (codes "//") bs then s.LineComment
    else (if begins (codes "/*") bs then s.BlockComment
    else (if begins_with is_letter bs then s.Name
    else (if begins (codes "$") bs && begins_with is_letter (drop 1 bs) then s.Variable
    else (if begins_with is_digit bs || (begins (codes ".") bs && begins_with is_digit (drop 1 bs)) then s.Number
    else (if begins (codes "'") bs then s.SingleQuote
    else (if begins (34 ∷ []) bs then s.DoubleQuote
    else (if is_some (cast_of bs) then s.Cast
    else s.Other))))))))))

-- what a mark or an operator leads to
abbrev pub turn_of : Kind → Turn
turn_of (k.Mark m.OpenBrace) = enters Code
turn_of (k.Mark m.CloseBrace) = leaves
turn_of (k.Mark m.Arrow) = goes Member
turn_of (k.Mark m.DoubleColon) = goes Member
turn_of _ = goes Code

-- a mark, an operator or a cast of a table
abbrev pub from_table : ℕ → ℕ → Result Kind Construct → Answer
from_table at n (Ok kind) = gives at n kind (turn_of kind)
from_table at n (Err which) = refused which

-- a piece of a string before the bytes `rest`: one kind of token where the string ends there, another where it doesn't
abbrev pub piece : (List ℕ → Kind) → (List ℕ → Kind) → ℕ → List ℕ → List ℕ → List ℕ → Answer
piece last other at text bs rest =
    if begins (34 ∷ []) rest then gives at (suc (length bs - length rest)) (last text) (goes Code)
    else gives at (length bs - length rest) (other text) (goes Interpolation)

-- in code, and whether it stands behind `->` or `::`
pub data InCode (mode : Mode) (member : Bool) (at : ℕ) : List ℕ → Answer → Type 0 where
  -- whitespace is skipped
  whitespace : {bs : List ℕ} → start_of bs ≡ s.Whitespace → InCode mode member at bs (skips 1 mode)
  -- `?>` closes code, is a `;`, and takes one newline directly behind it
  close_tag : {bs : List ℕ} → start_of bs ≡ s.CloseTag →
      InCode mode member at bs (gives at (2 + newline_length (drop 2 bs)) (k.Mark m.Semicolon) (goes Inline))
  -- comments are skipped
  line_comment : {bs : List ℕ} {n : ℕ} → start_of bs ≡ s.LineComment → First ends_line bs n → InCode mode member at bs (skips n mode)
  block_comment : {bs : List ℕ} {n : ℕ} → start_of bs ≡ s.BlockComment → First ends_block (drop 2 bs) n → InCode mode member at bs (skips (4 + n) mode)
  unclosed_comment : {bs : List ℕ} → start_of bs ≡ s.BlockComment → Never ends_block (drop 2 bs) → InCode mode member at bs (no_token l.UnclosedComment)
  -- a letter, `_` or a byte from 80 on, and then also digits
  name : {bs : List ℕ} → start_of bs ≡ s.Name →
      InCode mode member at bs (gives at (length (front is_name_byte bs)) (name_kind member (front is_name_byte bs)) (goes Code))
  -- `$` and a name
  variable : {bs : List ℕ} → start_of bs ≡ s.Variable →
      InCode mode member at bs (gives at (suc (length (front is_name_byte (drop 1 bs)))) (k.Variable (front is_name_byte (drop 1 bs))) (goes Code))
  -- a whole number within 64 bits; a longer one is a float
  number : {bs : List ℕ} {v : ℕ} → start_of bs ≡ s.Number → is_float bs ≡ false → IsNumber bs v → v < 2 ^ 63 →
      InCode mode member at bs (gives at (numeral_length bs) (k.Int v) (goes Code))
  long_number : {bs : List ℕ} {v : ℕ} → start_of bs ≡ s.Number → is_float bs ≡ false → IsNumber bs v → 2 ^ 63 ≤ v →
      InCode mode member at bs (refused c.FloatLiteral)
  float : {bs : List ℕ} → start_of bs ≡ s.Number → is_float bs ≡ true → InCode mode member at bs (refused c.FloatLiteral)
  bad_number : {bs : List ℕ} → start_of bs ≡ s.Number → is_float bs ≡ false → ((v : ℕ) → IsNumber bs v → ⊥) →
      InCode mode member at bs (no_token l.BadNumber)
  -- a string in single quotes
  single : {bs text rest : List ℕ} → start_of bs ≡ s.SingleQuote → Single (drop 1 bs) text rest →
      InCode mode member at bs (gives at (length bs - length rest) (k.Text text) (goes Code))
  unclosed_single : {bs : List ℕ} → start_of bs ≡ s.SingleQuote → ((text rest : List ℕ) → Single (drop 1 bs) text rest → ⊥) →
      InCode mode member at bs (no_token l.UnclosedString)
  -- the first piece of a string in double quotes begins at the quote
  double : {bs text rest : List ℕ} → start_of bs ≡ s.DoubleQuote → string.Piece (drop 1 bs) (Some text) rest →
      InCode mode member at bs (piece k.Text k.TextHead at text bs rest)
  bad_escape : {bs rest : List ℕ} → start_of bs ≡ s.DoubleQuote → string.Piece (drop 1 bs) None rest → InCode mode member at bs (no_token l.BadEscape)
  unclosed_double : {bs : List ℕ} → start_of bs ≡ s.DoubleQuote → ((text : Option (List ℕ)) (rest : List ℕ) → string.Piece (drop 1 bs) text rest → ⊥) →
      InCode mode member at bs (no_token l.UnclosedString)
  -- a cast is one token
  cast : {bs : List ℕ} {what : Result Kind Construct} → start_of bs ≡ s.Cast → cast_of bs ≡ Some what →
      InCode mode member at bs (from_table at (cast_length bs) what)
  -- marks and operators, the longest that fits
  mark : {bs : List ℕ} {what : Result Kind Construct} {n : ℕ} → start_of bs ≡ s.Other → mark_in marks bs ≡ Some (what, n) →
      InCode mode member at bs (from_table at n what)
  bad_byte : {bs : List ℕ} → start_of bs ≡ s.Other → mark_in marks bs ≡ None → InCode mode member at bs (no_token l.BadByte)

-- ---- interpolations in strings

-- the key of `$v[..]`: a name, a variable, or a decimal number without a leading zero; its kind and its length
abbrev pub is_plain_number : List ℕ → Bool
is_plain_number ds = (length ds == 1 || not (begins (codes "0") ds)) && nat_lt (string.value_of 10 ds) (2 ^ 63)

abbrev pub key_of : List ℕ → Option (Kind × ℕ)
key_of bs =
    if begins_with is_letter bs then Some (k.Name (front is_name_byte bs), length (front is_name_byte bs))
    else (if begins (codes "$") bs && begins_with is_letter (drop 1 bs)
    then Some (k.Variable (front is_name_byte (drop 1 bs)), suc (length (front is_name_byte (drop 1 bs))))
    else (if begins_with is_digit bs && is_plain_number (front is_digit bs)
    then Some (k.Int (string.value_of 10 (front is_digit bs)), length (front is_digit bs))
    else None))

-- the tokens of `[`, a key and `]` at an offset
abbrev pub key_tokens : ℕ → Kind × ℕ → List Token
key_tokens at key = token at 1 (k.Mark m.OpenBracket) ∷ token (suc at) key.1 key.0 ∷ token (suc at + key.1) 1 (k.Mark m.CloseBracket) ∷ []

abbrev pub property_tokens : ℕ → List ℕ → List Token
property_tokens at spelled = token at 2 (k.Mark m.Arrow) ∷ token (2 + at) (length spelled) (k.Name spelled) ∷ []

-- what follows the variable of an interpolation at an offset: its tokens and their length
pub data Behind (at : ℕ) : List ℕ → List Token → ℕ → Type 0 where
  key : {bs : List ℕ} {found : Kind × ℕ} → begins (codes "[") bs ≡ true → key_of (drop 1 bs) ≡ Some found →
      begins (codes "]") (drop found.1 (drop 1 bs)) ≡ true → Behind at bs (key_tokens at found) (2 + found.1)
  property : {bs : List ℕ} → (begins (codes "->") bs && begins_with is_letter (drop 2 bs)) ≡ true →
      Behind at bs (property_tokens at (front is_name_byte (drop 2 bs))) (2 + length (front is_name_byte (drop 2 bs)))
  alone : {bs : List ℕ} → begins (codes "[") bs ≡ false → (begins (codes "->") bs && begins_with is_letter (drop 2 bs)) ≡ false →
      (begins (codes "?->") bs && begins_with is_letter (drop 3 bs)) ≡ false → Behind at bs [] 0

pub data InInterpolation (at : ℕ) : List ℕ → Answer → Type 0 where
  -- `{` before `$` and a name: an expression that begins with that variable, up to `}`
  braces : {bs : List ℕ} → begins (codes "{$") bs ≡ true → begins_with is_letter (drop 2 bs) ≡ true →
      InInterpolation at bs (gives at 1 (k.Mark m.OpenInterpolation) (enters Piece))
  bad_braces : {bs : List ℕ} → begins (codes "{$") bs ≡ true → begins_with is_letter (drop 2 bs) ≡ false → InInterpolation at bs (refused c.Interpolation)
  -- `${`
  named : {bs : List ℕ} → begins (codes "${") bs ≡ true → InInterpolation at bs (refused c.Interpolation)
  -- `$v`, `$v[..]` and `$v->name`
  simple : {bs name : List ℕ} {ts : List Token} {n : ℕ} → (begins (codes "$") bs && begins_with is_letter (drop 1 bs)) ≡ true →
      name ≡ front is_name_byte (drop 1 bs) → Behind (at + suc (length name)) (drop (suc (length name)) bs) ts n →
      InInterpolation at bs (Ok (record { tokens = token at (suc (length name)) (k.Variable name) ∷ ts; len = suc (length name) + n; turn = goes Piece }))
  bad_simple : {bs name : List ℕ} → (begins (codes "$") bs && begins_with is_letter (drop 1 bs)) ≡ true → name ≡ front is_name_byte (drop 1 bs) →
      ((ts : List Token) (n : ℕ) → Behind (at + suc (length name)) (drop (suc (length name)) bs) ts n → ⊥) → InInterpolation at bs (refused c.Interpolation)

-- ---- in any mode

-- what comes at an offset that isn't the end of the file
pub data Comes (at : ℕ) : Mode → List ℕ → Answer → Type 0 where
  opening : {bs : List ℕ} → begins_code bs ≡ true → Comes at Inline bs (skips (opening_length bs) Code)
  opening_echo : {bs : List ℕ} → begins_echo bs ≡ true → Comes at Inline bs (gives at 3 (k.Keyword w.Echo) (goes Code))
  text : {bs : List ℕ} {n : ℕ} → ends_inline bs ≡ false → First ends_inline bs n → Comes at Inline bs (gives at n (k.InlineText (take n bs)) (goes Inline))
  code : {bs : List ℕ} {r : Answer} → InCode Code false at bs r → Comes at Code bs r
  member : {bs : List ℕ} {r : Answer} → InCode Member true at bs r → Comes at Member bs r
  interpolation : {bs : List ℕ} {r : Answer} → InInterpolation at bs r → Comes at Interpolation bs r
  -- a later piece of a string begins directly behind the interpolation before it
  later_piece : {bs text rest : List ℕ} → string.Piece bs (Some text) rest → Comes at Piece bs (piece k.TextTail k.TextMiddle at text bs rest)
  bad_escape : {bs rest : List ℕ} → string.Piece bs None rest → Comes at Piece bs (no_token l.BadEscape)
  unclosed : {bs : List ℕ} → ((text : Option (List ℕ)) (rest : List ℕ) → string.Piece bs text rest → ⊥) → Comes at Piece bs (no_token l.UnclosedString)
