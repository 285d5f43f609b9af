-- The definitions, at work.
use Rattle.std.proofs.Common.{◌≡◌, Some, None, codes, refl}
use lib.Utf8.{encode}
use Rattle.hph_scan.specs.Digits.{next_digit}
use Rattle.hph_scan.specs.Escapes.{backslash, one_byte, simple_escape, behind_x, behind_u}
use Rattle.hph_scan.specs.Pieces.{joined}

-- a separator is passed over only where more stands behind it
between_digits : next_digit 10 (codes "1_2") ≡ Some (1, codes "2")
between_digits = refl

behind_all : next_digit 10 (codes "1_") ≡ Some (1, codes "_")
behind_all = refl

doubled : next_digit 10 (codes "__2") ≡ None
doubled = refl

too_large : next_digit 8 (codes "8") ≡ None
too_large = refl

-- one byte, and none
newline : simple_escape 110 ≡ one_byte 10
newline = refl

other_byte : simple_escape 113 ≡ backslash
other_byte = refl

-- `x41`, `xg` and `u41`, `u{41}` and `u{}`
two_digits : behind_x (codes "414") ≡ record { text = codes "A"; len = 3 }
two_digits = refl

no_digits : behind_x (codes "g") ≡ backslash
no_digits = refl

no_brace : behind_u (codes "41") ≡ Some backslash
no_brace = refl

a_code_point : behind_u (codes "{41}") ≡ Some (record { text = codes "A"; len = 5 })
unfolding encode
a_code_point = refl

no_code_point : behind_u (codes "{}") ≡ None
no_code_point = refl

-- a wrong escape leaves no text, wherever it stands
wrong_before : joined None (Some (codes "a")) ≡ None
wrong_before = refl

wrong_behind : joined (Some (codes "a")) None ≡ None
wrong_behind = refl
