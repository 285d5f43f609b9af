-- The bytes of a code point, by how many there are.
use Rattle.std.proofs.Common.{◌≡◌, ◌<◌, ◌≤◌, ℕ, ◌+◌, ◌/◌, ◌%◌, List, [], ◌∷◌, ◌++◌, append_assoc, ap, ◌∙◌, arith}
use Rattle.std.proofs.lemmas.Bool.Decides.{nat_tests}
use lib.Utf8.{encode}

pub two_bytes : (c : ℕ) → 128 ≤ c → c < 2048 → encode c ≡ (192 + c / 64) ∷ (128 + c % 64) ∷ []
unfolding encode
two_bytes c low high = grind (arith, nat_tests)

pub three_bytes : (c : ℕ) → 2048 ≤ c → c < 65536 → encode c ≡ (224 + c / 4096) ∷ (128 + c / 64 % 64) ∷ (128 + c % 64) ∷ []
unfolding encode
three_bytes c low high = grind (arith, nat_tests)

pub four_bytes : (c : ℕ) → 65536 ≤ c →
    encode c ≡ (240 + c / 262144) ∷ (128 + c / 4096 % 64) ∷ (128 + c / 64 % 64) ∷ (128 + c % 64) ∷ []
unfolding encode
four_bytes c low = grind (arith, nat_tests)

-- One more byte at the end, which a contract told.
one_more : (text bytes now : List ℕ) (byte last : ℕ) → now ≡ text ++ bytes → byte ≡ last → now ++ byte ∷ [] ≡ text ++ (bytes ++ last ∷ [])
one_more text bytes now byte last before is =
    ap (λ all. all ++ byte ∷ []) before ∙ (append_assoc text bytes (byte ∷ []) ∙ ap (λ b. text ++ (bytes ++ b ∷ [])) is)

pub second : (text first : List ℕ) (a b y : ℕ) → first ≡ text ++ a ∷ [] → y ≡ b → first ++ y ∷ [] ≡ text ++ (a ∷ b ∷ [])
second text first a b y one two = one_more text (a ∷ []) first y b one two

pub third : (text first next : List ℕ) (a b c y z : ℕ) → first ≡ text ++ a ∷ [] → y ≡ b → next ≡ first ++ y ∷ [] → z ≡ c →
    next ++ z ∷ [] ≡ text ++ (a ∷ b ∷ c ∷ [])
third text first next a b c y z one two adds three = one_more text (a ∷ b ∷ []) next z c (adds ∙ second text first a b y one two) three

pub fourth : (text first next more : List ℕ) (a b c d x y z : ℕ) → first ≡ text ++ a ∷ [] → x ≡ b → next ≡ first ++ x ∷ [] → y ≡ c →
    more ≡ next ++ y ∷ [] → z ≡ d → more ++ z ∷ [] ≡ text ++ (a ∷ b ∷ c ∷ d ∷ [])
fourth text first next more a b c d x y z one two adds three add four =
    one_more text (a ∷ b ∷ c ∷ []) more z d (add ∙ third text first next a b c x y one two adds three) four
