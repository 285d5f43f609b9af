-- How long the decimal text of a number is against what it was written with.
use Rattle.std.proofs.Common.{◌≡◌, ℕ, suc, ◌+◌, ◌*◌, ◌^◌, ◌<◌, ◌≤◌, List, length, sym, ap, ◌∙◌, arith}
use Rattle.std.specs.Fmt.{decimal}
use Rattle.std.proofs.Math.Nat.{mul-le-mul_left, mul-le-mul_right, mul_assoc, mul_comm, pow-zero, pow-suc, pow-le-pow_left, le-mul_of_pos_right}
use Rattle.std.proofs.lemmas.Nat.{pow-add, mul-pow}
use Rattle.std.proofs.lemmas.Fmt.{length-decimal-le}
use Rattle.hph_ast.specs.Bytes.{digit_value}
use Rattle.hph_ast.specs.Numbers.{Digits}
use Rattle.hph_ast.specs.Numbers.Digits.{digit, digits, separated}

next_power : (n base k : ℕ) → suc n * base ^ suc k ≡ suc n * base * base ^ k
next_power n base k = ap (λ m. suc n * m) (pow-suc base k ∙ mul_comm (base ^ k) base) ∙ sym (mul_assoc (suc n) base (base ^ k))

-- one digit more
pub one_more : (base n d v k : ℕ) → d < base → v < suc (base * n + d) * base ^ k → v < suc n * base ^ suc k
one_more base n d v k fits below =
    let turned : base * n ≡ n * base = mul_comm base n in
    let front : suc (base * n + d) ≤ suc n * base = omega arith in
    let wide : suc (base * n + d) * base ^ k ≤ suc n * base * base ^ k = mul-le-mul_right (base ^ k) front in
    omega (arith, next_power n base k)

-- one byte more between digits
wider : (base n v k : ℕ) → 0 < base → v < suc n * base ^ k → v < suc n * base ^ suc k
wider base n v k pos below =
    let more : base ^ k ≤ base ^ k * base = le-mul_of_pos_right (base ^ k) pos in
    let all : suc n * base ^ k ≤ suc n * (base ^ k * base) = mul-le-mul_left (suc n) more in
    omega (arith, ap (λ m. suc n * m) (pow-suc base k))

-- no digit more
pub last : (base v : ℕ) → v < suc v * base ^ 0
last base v = rw pow-zero (omega arith)

-- digits spell less than a power of their base, behind the value of those before
pub below_power : {base n v : ℕ} {ds : List ℕ} → Digits base n ds v → v < suc n * base ^ length ds
below_power {base} {n} (digit {d = d} fits) = one_more base n _ _ 0 fits (last base (base * n + digit_value d))
below_power {base} {n} (digits {ds = ds} fits more) = one_more base n _ _ (length ds) fits (below_power more)
below_power {base} {n} {v} (separated {ds = ds} fits more) =
    wider base n v (suc (length ds)) (omega arith) (one_more base n _ _ (length ds) fits (below_power more))

-- there is a digit
pub some_digit : {base n v : ℕ} {ds : List ℕ} → Digits base n ds v → 0 < length ds
some_digit (digit fits) = omega arith
some_digit (digits fits more) = omega arith
some_digit (separated fits more) = omega arith

-- digits of a base up to 10 are as many as those of the decimal text, and digits of a base up to 100 half as many
pub narrow : {base v : ℕ} {ds : List ℕ} → base ≤ 10 → Digits base 0 ds v → v < 2 ^ 63 → length (decimal v) ≤ length ds
narrow {base} {v} {ds} small is fits =
    let less : v < 1 * base ^ length ds = below_power is in
    let pow : base ^ length ds ≤ 10 ^ length ds = pow-le-pow_left small (length ds) in
    length-decimal-le (length ds) v (some_digit is) (omega arith) (omega arith)

pub broad : {base v : ℕ} {ds : List ℕ} → base ≤ 100 → Digits base 0 ds v → v < 2 ^ 63 → length (decimal v) ≤ length ds + length ds
broad {base} {v} {ds} small is fits =
    let less : v < 1 * base ^ length ds = below_power is in
    let pow : base ^ length ds ≤ (10 * 10) ^ length ds = pow-le-pow_left small (length ds) in
    let pos = some_digit is in
    let squares : (10 * 10) ^ length ds ≡ 10 ^ (length ds + length ds) = mul-pow 10 10 (length ds) ∙ sym (pow-add 10 (length ds) (length ds)) in
    length-decimal-le (length ds + length ds) v (omega arith) (omega arith) (omega arith)
