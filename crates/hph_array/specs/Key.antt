-- Keys of arrays. Source: PHP manual, 'Arrays': a key is either an int or a string.
use Rattle.std.specs.Prelude.{◌≡◌, ◌+◌, Bool, true, false, ℕ, List, [], ℤ, pos, negsuc}
use Rattle.std.specs.Str.{bytes_eq}
use Rattle.std.specs.Ordering.{int_eq}
use Rattle.std.specs.Cmp.{IsEquivalence, decided, signed_Decides}
use Rattle.std.specs.Cmp.Lexicographic.{bytes_decides}
use Rattle.std.specs.Bool.{Decides}
use Rattle.std.proofs.Common.{ap, sym, true≢false}
use Rattle.hph_array.specs.declared.key.Key.{Key}
use Rattle.hph_array.specs.declared.key.Key.TheVariants.{Int, Str}

-- Two keys are equal where they are the same int, or strings of the same bytes.
abbrev pub key_eq : Key → Key → Bool
key_eq (Int a) (Int b) = int_eq a b
key_eq (Int a) (Str b) = false
key_eq (Str a) (Int b) = false
key_eq (Str a) (Str b) = bytes_eq a b

-- the number after an int key that isn't negative, 0 for other keys
abbrev pub number_after : Key → ℕ
number_after (Int (pos n)) = n + 1
number_after (Int (negsuc n)) = 0
number_after (Str bytes) = 0

-- the int of a key, or another one
int_of : ℤ → Key → ℤ
int_of default (Int a) = a
int_of default (Str bytes) = default

-- the bytes of a key that is a string
bytes_of : Key → List ℕ
bytes_of (Int a) = []
bytes_of (Str bytes) = bytes

-- whether a key is an int
is_int : Key → Bool
is_int (Int a) = true
is_int (Str bytes) = false

-- Equal keys are one key.
pub key_eq_decides : (x y : Key) → Decides (key_eq x y) (x ≡ y)
unfolding int_of bytes_of is_int
key_eq_decides (Int a) (Int b) =
    (λ e. ap Int ((signed_Decides a b).0 e), λ e. (signed_Decides a b).1 (ap (int_of a) e))
key_eq_decides (Int a) (Str b) = (λ e. absurd (true≢false (sym e)), λ e. absurd (true≢false (ap is_int e)))
key_eq_decides (Str a) (Int b) = (λ e. absurd (true≢false (sym e)), λ e. absurd (true≢false (sym (ap is_int e))))
key_eq_decides (Str a) (Str b) = (λ e. ap Str ((bytes_decides a b).0 e), λ e. (bytes_decides a b).1 (ap bytes_of e))

-- Equality of keys is an equivalence.
pub key_eq_equiv : IsEquivalence key_eq
key_eq_equiv = decided key_eq key_eq_decides
