-- What is above the first byte of a number leaves room for its seven bits.
use Rattle.std.proofs.Common.{◌<◌, ◌≤◌, ℕ, ◌-◌, ◌^◌, arith, lit<}
use Rattle.std.proofs.lemmas.Int.{ints}
use Rattle.std.proofs.Math.Nat.{pow-le-pow_right}
use Rattle.std.specs.Prelude.{ℤ, pos, ◌+ℤ◌, ◌≤ℤ◌, ◌<ℤ◌}

-- of an unsigned number of 32 bits
pub unsigned_high : (bits high : ℕ) → bits ≤ 32 → high < 2 ^ (bits - 7) → high < 2 ^ 25
unsigned_high bits high few below =
    let fewer : bits - 7 ≤ 25 = omega arith in
    omega (arith, pow-le-pow_right {n = 2} (lit< tt) fewer)

-- a number of more bits lies between larger bounds
pub signed_within : (bits wide : ℕ) (z : ℤ) → bits ≤ wide → pos 0 ≤ℤ (z +ℤ pos (2 ^ bits)) → z <ℤ pos (2 ^ bits) → (pos 0 ≤ℤ (z +ℤ pos (2 ^ wide))) × (z <ℤ pos (2 ^ wide))
signed_within bits wide z fewer low top =
    let wider : 2 ^ bits ≤ 2 ^ wide = pow-le-pow_right {n = 2} (lit< tt) fewer in
    (omega (arith, ints), omega (arith, ints))
