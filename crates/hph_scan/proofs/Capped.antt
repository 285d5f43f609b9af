-- Values of digits, told up to a limit.
use Rattle.std.proofs.Common.{◌≡◌, ◌<◌, ◌≤◌, ℕ, zero, suc, ◌+◌, ◌*◌, min, List, [], ◌∷◌, length, get_or, take, inl, inr, ap, sym, ◌∙◌}
use Rattle.std.proofs.Common.{arith}
use Rattle.std.proofs.Math.Nat.{min-eq_left, min-eq_right, mul-le-mul_left}
use Rattle.std.proofs.lemmas.Bool.Decides.{leb_tells}
use Rattle.std.proofs.lemmas.Grind.{fold-append, take_at_read}
use Rattle.hph_ast.specs.Bytes.{digit_value}
use Rattle.hph_ast.specs.Strings.{value_of}

min-digit_above : (base n d limit : ℕ) → limit < n → min (base * min n limit + d) limit ≡ min (base * n + d) limit
min-digit_above zero n d limit above = omega arith
min-digit_above (suc k) n d limit above =
    let capped : min n limit ≡ limit = min-eq_right (omega arith) in
    let told : limit ≤ suc k * limit + d = omega arith in
    let more : suc k * limit ≤ suc k * n = mul-le-mul_left (suc k) (omega arith) in
    let all : limit ≤ suc k * n + d = omega arith in
    ap (λ m. min (suc k * m + d) limit) capped ∙ (min-eq_right told ∙ sym (min-eq_right all))

-- One more digit is told alike from a value that is told.
pub min-digit : (base n d limit : ℕ) → min (base * min n limit + d) limit ≡ min (base * n + d) limit
min-digit base n d limit = elim (leb_tells n limit) [
  | inl below ↦ ap (λ m. min (base * m + d) limit) (min-eq_left below.1)
  | inr above ↦ min-digit_above base n d limit (omega arith)
]

-- The value of one more digit.
pub value_of-more : (base : ℕ) (ds : List ℕ) (i : ℕ) → i < length ds →
    value_of base (take (i + 1) ds) ≡ base * value_of base (take i ds) + digit_value (get_or ds i 0)
value_of-more base ds i in_range =
    ap (value_of base) (take_at_read ds i 0 in_range).1
    ∙ fold-append (λ n d. base * n + digit_value d) 0 (take i ds) (get_or ds i 0 ∷ [])
