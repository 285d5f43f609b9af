-- Marks, operators and casts: PHP manual, Operators and Type Juggling. Which constructs are refused is this project's own.
use Rattle.std.specs.Prelude.{ℕ, ◌-◌, ◌&&◌, List, [], ◌∷◌, length, drop, if◌then◌else◌, Option, Some, None, Result, Ok, Err, codes}
use Rattle.hph_ast.specs.declared.token.Kind.{Kind}
use Rattle.hph_ast.specs.declared.token.Kind.TheVariants as k
use Rattle.hph_ast.specs.declared.token.Mark.TheVariants as m
use Rattle.hph_ast.specs.declared.operator.Binary.TheVariants as b
use Rattle.hph_ast.specs.declared.operator.Assignment.TheVariants as a
use Rattle.hph_ast.specs.declared.operator.Cast.TheVariants as t
use Rattle.hph_ast.specs.declared.refusal.Construct.{Construct}
use Rattle.hph_ast.specs.declared.refusal.Construct.TheVariants as c
use Rattle.hph_ast.specs.Bytes.{is_blank, is_name_byte, begins, is_word, front, behind}

-- marks and operators, and the constructs that begin like them; longer ones come first, so that the first fit is the longest
abbrev pub marks : List (List ℕ × Result Kind Construct)
marks =
    (codes "<<<", Err c.Heredoc) ∷
    (codes "...", Err c.Variadic) ∷
    (codes "?->", Err c.NullSafe) ∷
    (codes "===", Ok (k.Operator b.Identical)) ∷
    (codes "!==", Ok (k.Operator b.NotIdentical)) ∷
    (codes "<=>", Ok (k.Operator b.Spaceship)) ∷
    (codes "**=", Ok (k.Assign a.Pow)) ∷
    (codes "<<=", Ok (k.Assign a.ShiftLeft)) ∷
    (codes ">>=", Ok (k.Assign a.ShiftRight)) ∷
    (codes "??=", Ok (k.Assign a.Coalesce)) ∷
    (codes "**", Ok (k.Operator b.Pow)) ∷
    (codes "++", Ok (k.Mark m.Increment)) ∷
    (codes "--", Ok (k.Mark m.Decrement)) ∷
    (codes "->", Ok (k.Mark m.Arrow)) ∷
    (codes "=>", Ok (k.Mark m.DoubleArrow)) ∷
    (codes "::", Ok (k.Mark m.DoubleColon)) ∷
    (codes "==", Ok (k.Operator b.Equal)) ∷
    (codes "!=", Ok (k.Operator b.NotEqual)) ∷
    (codes "<>", Ok (k.Operator b.NotEqual)) ∷
    (codes "<=", Ok (k.Operator b.LessEqual)) ∷
    (codes ">=", Ok (k.Operator b.GreaterEqual)) ∷
    (codes "<<", Ok (k.Operator b.ShiftLeft)) ∷
    (codes ">>", Ok (k.Operator b.ShiftRight)) ∷
    (codes "&&", Ok (k.Operator b.BooleanAnd)) ∷
    (codes "||", Ok (k.Operator b.BooleanOr)) ∷
    (codes "??", Ok (k.Operator b.Coalesce)) ∷
    (codes "+=", Ok (k.Assign a.Add)) ∷
    (codes "-=", Ok (k.Assign a.Sub)) ∷
    (codes "*=", Ok (k.Assign a.Mul)) ∷
    (codes "/=", Ok (k.Assign a.Div)) ∷
    (codes "%=", Ok (k.Assign a.Rem)) ∷
    (codes ".=", Ok (k.Assign a.Concat)) ∷
    (codes "&=", Ok (k.Assign a.BitAnd)) ∷
    (codes "|=", Ok (k.Assign a.BitOr)) ∷
    (codes "^=", Ok (k.Assign a.BitXor)) ∷
    (codes "#[", Err c.Attribute) ∷
    (codes "$$", Err c.VarVar) ∷
    (codes "${", Err c.VarVar) ∷
    (codes "+", Ok (k.Operator b.Add)) ∷
    (codes "-", Ok (k.Operator b.Sub)) ∷
    (codes "*", Ok (k.Operator b.Mul)) ∷
    (codes "/", Ok (k.Operator b.Div)) ∷
    (codes "%", Ok (k.Operator b.Rem)) ∷
    (codes ".", Ok (k.Operator b.Concat)) ∷
    (codes "<", Ok (k.Operator b.Less)) ∷
    (codes ">", Ok (k.Operator b.Greater)) ∷
    (codes "=", Ok (k.Assign a.Set)) ∷
    (codes "&", Ok (k.Operator b.BitAnd)) ∷
    (codes "|", Ok (k.Operator b.BitOr)) ∷
    (codes "^", Ok (k.Operator b.BitXor)) ∷
    (codes "!", Ok (k.Mark m.Exclamation)) ∷
    (codes "~", Ok (k.Mark m.Tilde)) ∷
    (codes "@", Ok (k.Mark m.At)) ∷
    (codes "?", Ok (k.Mark m.Question)) ∷
    (codes ":", Ok (k.Mark m.Colon)) ∷
    (codes ";", Ok (k.Mark m.Semicolon)) ∷
    (codes ",", Ok (k.Mark m.Comma)) ∷
    (codes "(", Ok (k.Mark m.OpenParen)) ∷
    (codes ")", Ok (k.Mark m.CloseParen)) ∷
    (codes "[", Ok (k.Mark m.OpenBracket)) ∷
    (codes "]", Ok (k.Mark m.CloseBracket)) ∷
    (codes "{", Ok (k.Mark m.OpenBrace)) ∷
    (codes "}", Ok (k.Mark m.CloseBrace)) ∷
    (codes "`", Err c.ShellExec) ∷
    (codes "\\", Err c.Namespace) ∷ []

-- the first row of a table with which the bytes begin, and how many bytes it takes
abbrev pub mark_in : List (List ℕ × Result Kind Construct) → List ℕ → Option (Result Kind Construct × ℕ)
mark_in [] bs = None
mark_in (row ∷ rows) bs = if begins row.0 bs then Some (row.1, length row.0) else mark_in rows bs

-- the words of casts, in lower case
abbrev pub casts : List (List ℕ × Result Kind Construct)
casts =
    (codes "int", Ok (k.Cast t.Int)) ∷
    (codes "integer", Ok (k.Cast t.Int)) ∷
    (codes "bool", Ok (k.Cast t.Bool)) ∷
    (codes "boolean", Ok (k.Cast t.Bool)) ∷
    (codes "string", Ok (k.Cast t.String)) ∷
    (codes "array", Ok (k.Cast t.Array)) ∷
    (codes "float", Err c.OtherCast) ∷
    (codes "double", Err c.OtherCast) ∷
    (codes "real", Err c.OtherCast) ∷
    (codes "object", Err c.OtherCast) ∷
    (codes "unset", Err c.OtherCast) ∷
    (codes "binary", Err c.OtherCast) ∷ []

abbrev pub cast_in : List (List ℕ × Result Kind Construct) → List ℕ → Option (Result Kind Construct)
cast_in [] name = None
cast_in (row ∷ rows) name = if is_word row.0 name then Some row.1 else cast_in rows name

-- behind the parenthesis of a cast: spaces and tabs or none, its word, spaces and tabs or none
abbrev pub cast_name : List ℕ → List ℕ
cast_name bs = front is_name_byte (behind is_blank bs)

abbrev pub behind_cast : List ℕ → List ℕ
behind_cast bs = behind is_blank (behind is_name_byte (behind is_blank bs))

-- the cast that begins with these bytes
abbrev pub cast_of : List ℕ → Option (Result Kind Construct)
cast_of [] = None
cast_of (b ∷ bs) = if begins (codes "(") (b ∷ bs) && begins (codes ")") (behind_cast bs) then cast_in casts (cast_name bs) else None

-- how many bytes it takes, with both parentheses
abbrev pub cast_length : List ℕ → ℕ
cast_length bs = length bs - length (drop 1 (behind_cast (drop 1 bs)))
