-- A string holds no more bytes than it is spelled with.
use Rattle.std.proofs.Common.{◌≡◌, ℕ, suc, ◌+◌, ◌<◌, ◌≤◌, Bool, true, false, List, [], ◌∷◌, length, drop, Option, Some, None, subst, ◌&&◌, length-append, length-drop, arith}
use Rattle.std.specs.Prelude.{if◌then◌else◌, codes, encode_utf8}
use Rattle.std.proofs.lemmas.Bool.Decides.{nat_tests}
use lib.Utf8.{encode}
use Rattle.hph_ast.specs.Strings.{Single, Escape, Piece, escape_of, single_byte, octal, hexadecimal, code_point, value_of, is_hex, is_octal, is_code_point, before, begins_interpolation}
use Rattle.hph_ast.specs.Strings as s
use Rattle.hph_ast.specs.Bytes.{front, begins, begins_with}

-- in single quotes: the quote that closes is spelled too
pub single_fits : {bs text rest : List ℕ} → Single bs text rest → length text + length rest < length bs
single_fits (s.closes is) = omega arith
single_fits (s.escape is more) = omega (arith, single_fits more)
single_fits (s.plain is other more) = omega (arith, single_fits more)

-- what an escape stands for has at most one byte more than stands behind its backslash
data Short : Option Escape → Type 0 where
  wrong : Short None
  right : {e : Escape} → length e.text ≤ suc e.len → Short (Some e)

if_short : (b : Bool) {x y : Option Escape} → Short x → Short y → Short (if b then x else y)
if_short true short other = short
if_short false other short = short

encoded : (c : ℕ) → length (encode_utf8 c) ≤ 4
unfolding encode
encoded c = grind (arith, nat_tests)

one : (b : ℕ) → Short (single_byte b)
one b = right (omega arith)

octal_short : (bs : List ℕ) → Short (Some (octal bs))
octal_short bs = right (omega arith)

hexadecimal_short : (bs : List ℕ) → Short (Some (hexadecimal bs))
hexadecimal_short bs = right (omega arith)

code_point_short : (bs : List ℕ) → Short (Some (code_point bs))
code_point_short bs = right (omega (arith, encoded (value_of 16 (front is_hex (drop 2 bs)))))

kept : Short (Some (record { text = codes "\\"; len = 0 }))
kept = right (omega arith)

kept_brace : Short (Some (record { text = codes "\\{"; len = 1 }))
kept_brace = right (omega arith)

short : (bs : List ℕ) → Short (escape_of bs)
short bs =
    if_short (begins (codes "n") bs) (one 10)
    (if_short (begins (codes "t") bs) (one 9)
    (if_short (begins (codes "r") bs) (one 13)
    (if_short (begins (codes "v") bs) (one 11)
    (if_short (begins (codes "e") bs) (one 27)
    (if_short (begins (codes "f") bs) (one 12)
    (if_short (begins (codes "\\") bs) (one 92)
    (if_short (begins (codes "$") bs) (one 36)
    (if_short (begins (34 ∷ []) bs) (one 34)
    (if_short (begins_with is_octal bs) (octal_short bs)
    (if_short (begins (codes "x") bs && begins_with is_hex (drop 1 bs)) (hexadecimal_short bs)
    (if_short (begins (codes "u{") bs) (if_short (is_code_point bs) (code_point_short bs) wrong)
    (if_short (begins (codes "{") bs) kept_brace kept))))))))))))

short_of : {o : Option Escape} {e : Escape} → Short o → o ≡ Some e → length e.text ≤ suc e.len
short_of wrong is = absurd (cc)
short_of {e = e} (right {e = f} few) is =
    let same : f ≡ e = cc in subst (λ (e : Escape). length e.text ≤ suc e.len) same few

-- in double quotes: the text, where no escape is wrong
data Fits (bs rest : List ℕ) : Option (List ℕ) → Type 0 where
  bad : Fits bs rest None
  good : {text : List ℕ} → length text + length rest ≤ length bs → Fits bs rest (Some text)

some_byte : {bs rest : List ℕ} {text : Option (List ℕ)} → Piece bs text rest → 0 < length bs
some_byte (s.Piece.closes is) = omega arith
some_byte {bs = []} (s.interpolation is) = absurd (cc)
some_byte {bs = b ∷ bs} (s.interpolation is) = omega arith
some_byte (s.Piece.escape is e more) = omega arith
some_byte (s.bad_escape is e more) = omega arith
some_byte (s.Piece.plain is other more) = omega arith

before_fits : (text bs left rest : List ℕ) {more : Option (List ℕ)} → length text + length left ≤ length bs → Fits left rest more →
    Fits bs rest (before text more)
before_fits text bs left rest few bad = bad
before_fits text bs left rest few (good {text = more} fits) = good (omega (arith, length-append text more))

pieces : {bs rest : List ℕ} {text : Option (List ℕ)} → Piece bs text rest → Fits bs rest text
pieces (s.Piece.closes is) = good (omega arith)
pieces (s.interpolation is) = good (omega arith)
pieces (s.Piece.escape {b} {bs} {rest} {e} is found more) =
    before_fits e.text (b ∷ bs) (drop e.len bs) rest (omega (arith, short_of (short bs) found, some_byte more, length-drop e.len bs)) (pieces more)
pieces (s.bad_escape is e more) = bad
pieces (s.Piece.plain {b} {bs} {rest} is other more) = before_fits (b ∷ []) (b ∷ bs) bs rest (omega arith) (pieces more)

text_fits : {bs rest text : List ℕ} → Fits bs rest (Some text) → length text + length rest ≤ length bs
text_fits (good few) = few

-- up to what ends it, a piece holds no more bytes than it is spelled with
pub piece_fits : {bs text rest : List ℕ} → Piece bs (Some text) rest → length text + length rest ≤ length bs
piece_fits is = text_fits (pieces is)
