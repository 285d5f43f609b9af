-- What escapes of strings in double quotes stand for: PHP manual, Strings.
use Rattle.std.specs.Prelude.{ℕ, ◌<◌, List, [], ◌∷◌, Option, Some, None, if◌then◌else◌, ◌==◌, codes, encode_utf8}
use Rattle.hph_ast.specs.Bytes.{begins, begins_with}
use Rattle.hph_ast.specs.Strings as string
use Rattle.hph_ast.specs.Strings.{is_hex, is_code_point}
use Rattle.hph_scan.specs.declared.meaning.Meaning.{Meaning}
use Rattle.hph_scan.specs.declared.meaning.Meaning.TheVariants.{Byte, CodePoint, BackslashBrace}
use Rattle.hph_scan.specs.declared.escape.Escape.{Escape}

-- a code point is one of Unicode, or a surrogate
abbrev pub IsMeaning : Meaning → Type 0
IsMeaning (Byte b) = Unit {0}
IsMeaning (CodePoint c) = c < 0x110000
IsMeaning BackslashBrace = Unit {0}

abbrev pub AreMeanings : Option Meaning → Type 0
AreMeanings None = Unit {0}
AreMeanings (Some meaning) = IsMeaning meaning

-- the bytes that a meaning stands for
abbrev pub meaning_text : Meaning → List ℕ
meaning_text (Byte b) = b ∷ []
meaning_text (CodePoint c) = encode_utf8 c
meaning_text BackslashBrace = codes "\\{"

-- what a value of the code says
abbrev pub escape_told : Escape → string.Escape
escape_told found = record { text = meaning_text found.meaning; len = found.length }

-- a backslash that begins no escape
abbrev pub backslash : string.Escape
backslash = record { text = codes "\\"; len = 0 }

abbrev pub one_byte : ℕ → string.Escape
one_byte b = record { text = b ∷ []; len = 1 }

-- the escapes of one byte
abbrev pub simple_escape : ℕ → string.Escape
simple_escape b =
    if b == 110 then one_byte 10
    else (if b == 116 then one_byte 9
    else (if b == 114 then one_byte 13
    else (if b == 118 then one_byte 11
    else (if b == 101 then one_byte 27
    else (if b == 102 then one_byte 12
    else (if b == 92 then one_byte 92
    else (if b == 36 then one_byte 36
    else (if b == 34 then one_byte 34
    else (if b == 123 then record { text = codes "\\{"; len = 1 }
    else backslash)))))))))

-- the escape that `x` begins, with what stands behind it
abbrev pub behind_x : List ℕ → string.Escape
behind_x bs = if begins_with is_hex bs then string.hexadecimal (120 ∷ bs) else backslash

-- the escape that `u` begins, with what stands behind it
abbrev pub behind_u : List ℕ → Option string.Escape
behind_u bs =
    if begins (codes "{") bs then (if is_code_point (117 ∷ bs) then Some (string.code_point (117 ∷ bs)) else None)
    else Some backslash
