-- Strings in single and in double quotes: PHP manual, Strings.
use Rattle.std.specs.Prelude.{◌≡◌, ℕ, suc, ◌+◌, ◌*◌, ◌%◌, Bool, true, false, ◌&&◌, ◌||◌, List, [], ◌∷◌, ◌++◌, length, take, drop, fold, Option, Some, None, if◌then◌else◌, ◌==◌, nat_lt, nat_le, codes, encode_utf8}
use Rattle.hph_ast.specs.Bytes.{is_letter, digit_value, begins, begins_with, front, behind}

-- a backslash before a single quote or a backslash
abbrev pub escapes_single : List ℕ → Bool
escapes_single bs = begins (codes "\\'") bs || begins (codes "\\\\") bs

-- behind the opening single quote: what the string holds, and the bytes behind its closing quote
pub data Single : List ℕ → List ℕ → List ℕ → Type 0 where
  closes : {b : ℕ} {bs : List ℕ} → (b == 39) ≡ true → Single (b ∷ bs) [] bs
  escape : {b c : ℕ} {bs text rest : List ℕ} → escapes_single (b ∷ c ∷ bs) ≡ true → Single bs text rest → Single (b ∷ c ∷ bs) (c ∷ text) rest
  plain : {b : ℕ} {bs text rest : List ℕ} → (b == 39) ≡ false → escapes_single (b ∷ bs) ≡ false → Single bs text rest → Single (b ∷ bs) (b ∷ text) rest

-- what an escape stands for, and how many bytes it takes behind its backslash
pub record Escape : Type 0 where
  pub text : List ℕ
  pub len : ℕ

-- the number that digits of a base spell
abbrev pub value_of : ℕ → List ℕ → ℕ
value_of base ds = fold (λ n d. base * n + digit_value d) 0 ds

abbrev pub is_octal : ℕ → Bool
is_octal b = nat_lt (digit_value b) 8

abbrev pub is_hex : ℕ → Bool
is_hex b = nat_lt (digit_value b) 16

-- one to three octal digits: their low 8 bits
abbrev pub octal : List ℕ → Escape
octal bs = record { text = (value_of 8 (front is_octal (take 3 bs)) % 256) ∷ []; len = length (front is_octal (take 3 bs)) }

-- `x` and one or two hexadecimal digits
abbrev pub hexadecimal : List ℕ → Escape
hexadecimal bs = record { text = value_of 16 (front is_hex (take 2 (drop 1 bs))) ∷ []; len = suc (length (front is_hex (take 2 (drop 1 bs)))) }

-- `u{`, hexadecimal digits up to 10FFFF and `}`: the bytes of the UTF-8 scheme, also for a surrogate
abbrev pub is_code_point : List ℕ → Bool
is_code_point bs = begins_with is_hex (drop 2 bs) && (nat_le (value_of 16 (front is_hex (drop 2 bs))) 0x10FFFF && begins (codes "}") (behind is_hex (drop 2 bs)))

abbrev pub code_point : List ℕ → Escape
code_point bs = record { text = encode_utf8 (value_of 16 (front is_hex (drop 2 bs))); len = 3 + length (front is_hex (drop 2 bs)) }

abbrev pub single_byte : ℕ → Option Escape
single_byte b = Some (record { text = b ∷ []; len = 1 })

-- behind a backslash in double quotes: the escape, or none where it is wrong. A backslash that begins no escape stands for
-- itself, and takes a `{` with it.
abbrev pub escape_of : List ℕ → Option Escape
escape_of bs =
    if begins (codes "n") bs then single_byte 10
    else (if begins (codes "t") bs then single_byte 9
    else (if begins (codes "r") bs then single_byte 13
    else (if begins (codes "v") bs then single_byte 11
    else (if begins (codes "e") bs then single_byte 27
    else (if begins (codes "f") bs then single_byte 12
    else (if begins (codes "\\") bs then single_byte 92
    else (if begins (codes "$") bs then single_byte 36
    else (if begins (34 ∷ []) bs then single_byte 34
    else (if begins_with is_octal bs then Some (octal bs)
    else (if begins (codes "x") bs && begins_with is_hex (drop 1 bs) then Some (hexadecimal bs)
    else (if begins (codes "u{") bs then (if is_code_point bs then Some (code_point bs) else None)
    else (if begins (codes "{") bs then Some (record { text = codes "\\{"; len = 1 })
    else Some (record { text = codes "\\"; len = 0 })))))))))))))

-- `$` before a name or `{`, and `{` before `$`
abbrev pub begins_interpolation : List ℕ → Bool
begins_interpolation bs = begins (codes "{$") bs || (begins (codes "${") bs || (begins (codes "$") bs && begins_with is_letter (drop 1 bs)))

-- text before what follows, which has none where an escape is wrong
abbrev pub before : List ℕ → Option (List ℕ) → Option (List ℕ)
before text None = None
before text (Some more) = Some (text ++ more)

-- A piece of a string in double quotes: its text, or none where an escape is wrong, and the bytes from what ends it on,
-- which is the closing quote or an interpolation.
pub data Piece : List ℕ → Option (List ℕ) → List ℕ → Type 0 where
  closes : {b : ℕ} {bs : List ℕ} → (b == 34) ≡ true → Piece (b ∷ bs) (Some []) (b ∷ bs)
  interpolation : {bs : List ℕ} → begins_interpolation bs ≡ true → Piece bs (Some []) bs
  escape : {b : ℕ} {bs rest : List ℕ} {e : Escape} {more : Option (List ℕ)} →
      (b == 92) ≡ true → escape_of bs ≡ Some e → Piece (drop e.len bs) more rest → Piece (b ∷ bs) (before e.text more) rest
  bad_escape : {b : ℕ} {bs rest : List ℕ} {more : Option (List ℕ)} →
      (b == 92) ≡ true → escape_of bs ≡ None → Piece bs more rest → Piece (b ∷ bs) None rest
  plain : {b : ℕ} {bs rest : List ℕ} {more : Option (List ℕ)} →
      (b == 34 || b == 92) ≡ false → begins_interpolation (b ∷ bs) ≡ false → Piece bs more rest → Piece (b ∷ bs) (before (b ∷ []) more) rest
