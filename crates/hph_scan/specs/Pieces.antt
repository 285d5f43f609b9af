-- What a scan of a piece of a string in double quotes gives: PHP manual, Strings.
use Rattle.std.specs.Prelude.{◌≤◌, ℕ, Bool, ◌||◌, List, [], ◌∷◌, length, drop, Option, Some, None, if◌then◌else◌}
use Rattle.hph_ast.specs.Bytes.{begins}
use Rattle.hph_ast.specs.Strings.{Piece, before, begins_interpolation}
use Rattle.hph_scan.specs.Escapes.{meaning_text}
use Rattle.hph_scan.specs.declared.single.Quoted.{Quoted}
use Rattle.hph_scan.specs.declared.meaning.Meaning.{Meaning}
use Rattle.hph_scan.specs.declared.piece.PieceText.{PieceText}
use Rattle.hph_scan.specs.declared.piece.QuotedPiece.{QuotedPiece}
use Rattle.hph_scan.specs.declared.piece.QuotedPiece.TheVariants.{Text, BadEscape, Unclosed}

-- a text and how many bytes spell it, before what ends its piece
pub record IsText (bs : List ℕ) (found : Quoted) : Type 0 where
  pub is : Piece bs (Some found.text) (drop found.length bs)
  pub within : found.length ≤ length bs

-- a piece that is closed and has a wrong escape
pub record IsBadEscape (bs : List ℕ) : Type 0 where
  pub rest : List ℕ
  pub is : Piece bs None rest

-- where a piece begins: its text, or why there is none
abbrev pub IsPiece : List ℕ → QuotedPiece → Type 0
IsPiece bs (Text found) = IsText bs found
IsPiece bs BadEscape = IsBadEscape bs
IsPiece bs Unclosed = (text : Option (List ℕ)) (rest : List ℕ) → Piece bs text rest → ⊥

-- the closing quote or an interpolation ends a piece
abbrev pub ends_piece : List ℕ → Bool
ends_piece bs = begins (34 ∷ []) bs || begins_interpolation bs

-- texts one behind the other, which are none where one is none
abbrev pub joined : Option (List ℕ) → Option (List ℕ) → Option (List ℕ)
joined None more = None
joined (Some text) more = before text more

-- what a meaning stands for, which is none where an escape is wrong
abbrev pub meaning_told : Option Meaning → Option (List ℕ)
meaning_told None = None
meaning_told (Some meaning) = Some (meaning_text meaning)

-- a text that has been read, or none where an escape was wrong
abbrev pub text_told : PieceText → Option (List ℕ)
text_told read = if read.has_bad_escape then None else Some read.text

-- the piece that so many bytes spell
abbrev pub piece_told : PieceText → ℕ → QuotedPiece
piece_told read len = if read.has_bad_escape then BadEscape else Text (record { text = read.text; length = len })
