-- Classes of bytes, and where runs of them end: PHP manual, Basic syntax and Variables, for bytes and not for characters.
use Rattle.std.specs.Prelude.{◌≡◌, ℕ, suc, ◌+◌, ◌-◌, Bool, true, false, ◌&&◌, ◌||◌, List, [], ◌∷◌, if◌then◌else◌, ◌==◌, nat_le}

-- space, tab, LF and CR
abbrev pub is_whitespace : ℕ → Bool
is_whitespace b = b == 32 || (b == 9 || (b == 10 || b == 13))

-- space and tab
abbrev pub is_blank : ℕ → Bool
is_blank b = b == 32 || b == 9

abbrev pub is_digit : ℕ → Bool
is_digit b = nat_le 48 b && nat_le b 57

-- a letter, `_`, or a byte from 80 to FF
abbrev pub is_letter : ℕ → Bool
is_letter b = (nat_le 65 b && nat_le b 90) || ((nat_le 97 b && nat_le b 122) || (b == 95 || nat_le 128 b))

-- what a name goes on with
abbrev pub is_name_byte : ℕ → Bool
is_name_byte b = is_letter b || is_digit b

abbrev pub lower : ℕ → ℕ
lower b = if nat_le 65 b && nat_le b 90 then b + 32 else b

-- the value of a digit of any base up to 16, and 16 for any other byte
abbrev pub digit_value : ℕ → ℕ
digit_value b =
    if is_digit b then b - 48
    else (if nat_le 97 (lower b) && nat_le (lower b) 102 then lower b - 87 else 16)

-- the bytes begin with these
abbrev pub begins : List ℕ → List ℕ → Bool
begins [] bs = true
begins (a ∷ rest) [] = false
begins (a ∷ rest) (b ∷ bs) = (a == b) && begins rest bs

-- the bytes begin with this word, which is in lower case, in any ASCII case
abbrev pub begins_word : List ℕ → List ℕ → Bool
begins_word [] bs = true
begins_word (a ∷ rest) [] = false
begins_word (a ∷ rest) (b ∷ bs) = (a == lower b) && begins_word rest bs

-- the bytes are this word, which is in lower case, in any ASCII case
abbrev pub is_word : List ℕ → List ℕ → Bool
is_word [] [] = true
is_word [] (b ∷ bs) = false
is_word (a ∷ rest) [] = false
is_word (a ∷ rest) (b ∷ bs) = (a == lower b) && is_word rest bs

-- the first byte passes a test
abbrev pub begins_with : (ℕ → Bool) → List ℕ → Bool
begins_with p [] = false
begins_with p (b ∷ bs) = p b

-- the bytes from the front on that pass a test, and those behind them
abbrev pub front : (ℕ → Bool) → List ℕ → List ℕ
front p [] = []
front p (b ∷ bs) = if p b then b ∷ front p bs else []

abbrev pub behind : (ℕ → Bool) → List ℕ → List ℕ
behind p [] = []
behind p (b ∷ bs) = if p b then behind p bs else b ∷ bs

-- how many bytes a newline takes that begins here: CR LF, LF or CR, the longest that fits
abbrev pub newline_length : List ℕ → ℕ
newline_length bs = if begins (13 ∷ 10 ∷ []) bs then 2 else (if begins_with (λ b. b == 10 || b == 13) bs then 1 else 0)

-- the first place from which a test of the bytes holds
pub data First (p : List ℕ → Bool) : List ℕ → ℕ → Type 0 where
  here : {bs : List ℕ} → p bs ≡ true → First p bs 0
  later : {b : ℕ} {bs : List ℕ} {n : ℕ} → p (b ∷ bs) ≡ false → First p bs n → First p (b ∷ bs) (suc n)

-- no place is such
abbrev pub Never : (List ℕ → Bool) → List ℕ → Type 0
Never p bs = (n : ℕ) → First p bs n → ⊥
