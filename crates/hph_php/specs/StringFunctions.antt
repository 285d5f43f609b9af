-- What the functions on strings give (PHP manual, String Functions), on lists of bytes.
use Rattle.std.specs.Prelude.{◌≡◌, ◌+◌, ◌-◌, ℕ, zero, suc, ℤ, pos, negsuc, Bool, ◌||◌, ◌==◌, nat_le, nat_lt, if◌then◌else◌}
use Rattle.std.specs.Prelude.{List, [], ◌∷◌, length, reverse, take, drop, replicate, Option, None, Some, codes, ◌%◌, map}
use Rattle.std.specs.Option.{option_map}
use Rattle.std.specs.Char.{to_ascii_uppercase}
use Rattle.std.specs.List.{concat, join_by}
use Rattle.std.proofs.Common.{refl}
use Rattle.hph_ast.specs.Bytes.{begins, behind}

-- ---- ord and chr

abbrev pub first_byte : List ℕ → ℕ
first_byte [] = 0
first_byte (b ∷ bs) = b

-- the remainder by 256 that isn't negative
abbrev pub byte_of : ℤ → ℕ
byte_of (pos n) = n % 256
byte_of (negsuc n) = 255 - n % 256

-- ---- substr

-- a negative start counts from the end, and begins no earlier than the string
abbrev pub behind_start : List ℕ → ℤ → List ℕ
behind_start bytes (pos n) = drop n bytes
behind_start bytes (negsuc n) = drop (length bytes - (n + 1)) bytes

-- a negative length leaves out as many bytes at the end
abbrev pub of_length : List ℕ → ℤ → List ℕ
of_length bytes (pos n) = take n bytes
of_length bytes (negsuc n) = take (length bytes - (n + 1)) bytes

-- without a length, all bytes to the end
abbrev pub substr : List ℕ → ℤ → Option ℤ → List ℕ
substr bytes start None = behind_start bytes start
substr bytes start (Some len) = of_length (behind_start bytes start) len

-- ---- strpos

-- a negative offset counts from the end; there is none outside of the string
abbrev pub offset_in : List ℕ → ℤ → Option ℕ
offset_in bytes (pos n) = if nat_le n (length bytes) then Some n else None
offset_in bytes (negsuc n) = if nat_lt n (length bytes) then Some (length bytes - (n + 1)) else None

-- the first place where the bytes go on with these
abbrev pub first_place : List ℕ → List ℕ → Option ℕ
first_place needle [] = if begins needle [] then Some 0 else None
first_place needle (b ∷ bs) = if begins needle (b ∷ bs) then Some 0 else option_map suc (first_place needle bs)

-- the same from an offset on; places are counted from the start
abbrev pub strpos : List ℕ → List ℕ → ℕ → Option ℕ
strpos bytes needle offset = option_map (λ place. offset + place) (first_place needle (drop offset bytes))

-- ---- str_repeat, trim and upper case

abbrev pub str_repeat : List ℕ → ℕ → List ℕ
str_repeat bytes times = concat (replicate times bytes)

-- space, tab, LF, CR, 0 and VT
abbrev pub is_trimmed : ℕ → Bool
is_trimmed b = b == 32 || (b == 9 || (b == 10 || (b == 13 || (b == 0 || b == 11))))

abbrev pub trim : List ℕ → List ℕ
trim bytes = reverse (behind is_trimmed (reverse (behind is_trimmed bytes)))

-- ---- implode and explode

abbrev pub implode : List ℕ → List (List ℕ) → List ℕ
implode separator texts = join_by (λ text. text) separator texts

-- one more byte at the front of the first piece
abbrev pub onto_first : ℕ → List (List ℕ) → List (List ℕ)
onto_first b [] = (b ∷ []) ∷ []
onto_first b (piece ∷ pieces) = (b ∷ piece) ∷ pieces

-- the pieces between separators, of which as many bytes are still to be passed over
abbrev pub pieces : List ℕ → ℕ → List ℕ → List (List ℕ)
pieces separator skipped [] = [] ∷ []
pieces separator (suc skipped) (b ∷ bs) = pieces separator skipped bs
pieces separator zero (b ∷ bs) =
    if begins separator (b ∷ bs) then [] ∷ pieces separator (length separator - 1) bs else onto_first b (pieces separator 0 bs)

-- for a separator that isn't empty
abbrev pub explode : List ℕ → List ℕ → List (List ℕ)
explode separator bytes = pieces separator 0 bytes

-- ---- examples

bytes_of_numbers : (byte_of (negsuc 0) ≡ 255) × ((byte_of (negsuc 255) ≡ 0) × (byte_of (pos 321) ≡ 65))
bytes_of_numbers = (refl, (refl, refl))

parts : (substr (codes "abcdef") (negsuc 1) None ≡ codes "ef") × ((substr (codes "abc") (pos 4) None ≡ [])
    × ((substr (codes "abc") (negsuc 8) (Some (pos 1)) ≡ codes "a") × (substr (codes "abcdef") (pos 1) (Some (negsuc 1)) ≡ codes "bcd")))
parts = (refl, (refl, (refl, refl)))

too_much_cut : substr (codes "abc") (pos 2) (Some (negsuc 4)) ≡ []
too_much_cut = refl

places : (strpos (codes "abcabc") (codes "c") 3 ≡ Some 5)
    × ((strpos (codes "abc") (codes "d") 0 ≡ None) × (strpos (codes "abc") [] 3 ≡ Some 3))
places = (refl, (refl, refl))

offsets : (offset_in (codes "abc") (negsuc 2) ≡ Some 0)
    × ((offset_in (codes "abc") (negsuc 3) ≡ None) × (offset_in (codes "abc") (pos 4) ≡ None))
offsets = (refl, (refl, refl))

trimmed : trim (codes " \t\nab c\r ") ≡ codes "ab c"
trimmed = refl

exploded : explode (codes ", ") (codes ", a,b, ") ≡ [] ∷ codes "a,b" ∷ [] ∷ []
exploded = refl

overlapping : explode (codes "aa") (codes "aaa") ≡ [] ∷ codes "a" ∷ []
overlapping = refl

upper : map to_ascii_uppercase (codes "aZ{`9") ≡ codes "AZ{`9"
upper = refl
