-- Sizes of numbers, told up to a limit.
use Rattle.std.proofs.Common.{◌≡◌, ◌<◌, ◌≤◌, ℕ, ◌+◌, ◌*◌, min, List, [], ◌∷◌, length, get_or, take, inl, inr, ap, sym, ◌∙◌}
use Rattle.std.proofs.Common.{arith}
use Rattle.std.proofs.Math.Nat.{min-eq_left, min-eq_right}
use Rattle.std.proofs.lemmas.Bool.Decides.{leb_tells}
use Rattle.std.proofs.lemmas.Grind.{fold-append, take_at_read}
use Rattle.hph_ast.specs.Bytes.{digit_value}
use Rattle.hph_ast.specs.Strings.{value_of}

-- One more digit is told alike from a size that is told.
pub min-digit : (n d limit : ℕ) → min (10 * min n limit + d) limit ≡ min (10 * n + d) limit
min-digit n d limit = elim (leb_tells n limit) [
  | inl below ↦ ap (λ m. min (10 * m + d) limit) (min-eq_left below.1)
  | inr above ↦
      let capped : min n limit ≡ limit = min-eq_right (omega arith) in
      let told : limit ≤ 10 * limit + d = omega arith in
      let all : limit ≤ 10 * n + d = omega arith in
      ap (λ m. min (10 * m + d) limit) capped ∙ (min-eq_right told ∙ sym (min-eq_right all))
]

-- The size of one more digit.
pub value_of-more : (ds : List ℕ) (i : ℕ) → i < length ds →
    value_of 10 (take (i + 1) ds) ≡ 10 * value_of 10 (take i ds) + digit_value (get_or ds i 0)
value_of-more ds i in_range =
    ap (value_of 10) (take_at_read ds i 0 in_range).1
    ∙ fold-append (λ n d. 10 * n + digit_value d) 0 (take i ds) (get_or ds i 0 ∷ [])
