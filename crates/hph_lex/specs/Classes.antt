-- The classes of bytes and the ends of tokens, each as the test of the lexical grammar that it stands for.
use Rattle.std.specs.Prelude.{ℕ, Bool, List}
use Rattle.hph_ast.specs.Bytes.{is_whitespace, is_blank, is_digit, is_letter, is_name_byte}
use Rattle.hph_ast.specs.Lexical.{ends_inline, ends_line, ends_block}
use Rattle.hph_lex.specs.declared.bytes.ByteClass.{ByteClass}
use Rattle.hph_lex.specs.declared.bytes.ByteClass.TheVariants.{Whitespace, Blank, Digit, Letter, Name}
use Rattle.hph_lex.specs.declared.ending.Ending.{Ending}
use Rattle.hph_lex.specs.declared.ending.Ending.TheVariants as e

abbrev pub contains : ByteClass → ℕ → Bool
contains Whitespace = is_whitespace
contains Blank = is_blank
contains Digit = is_digit
contains Letter = is_letter
contains Name = is_name_byte

abbrev pub ends : Ending → List ℕ → Bool
ends e.InlineText = ends_inline
ends e.LineComment = ends_line
ends e.BlockComment = ends_block
