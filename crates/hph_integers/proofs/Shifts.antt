-- Shifts and rotations.
use Rattle.std.proofs.Common.{◌≡◌, ◌≢◌, ◌∙◌, ◌≤◌, ◌<◌, ◌+◌, ◌-◌, ◌*◌, ◌/◌, ◌%◌, ◌^◌, ℕ, zero, suc, Bool, true, false, refl, sym, ap, subst, arith}
use Rattle.std.specs.Prelude.{ℤ, pos, negsuc, nat_lt, bit_or, if◌then◌else◌}
use Rattle.std.specs.Int.{Width, rotate_left, int_shr}
use Rattle.std.proofs.lemmas.Nat.{pow_pos, pow-add, shl-shr, div-mul-add, div-add-mod', mod_below, mod-pow-add, mod_low, or_shifted, shr_below}
use Rattle.std.proofs.lemmas.Int.{to_z-of_z}
use lib.Signed.{mag, mag_shr}
use mir.Val.{to_z, of_z, bits, hbits, sel}
use Rattle.hph_wasm.specs.declared.instr.Sign.TheVariants.{Signed, Unsigned}
use Rattle.hph_wasm.specs.Integers.{shifted_right, rotated_left}
use Rattle.hph_integers.proofs.Signs.{half, small, none_over, mag_signed}

pub shifted_unsigned : (n i k : ℕ) → i / 2 ^ k ≡ shifted_right Unsigned n i k
unfolding shifted_right
shifted_unsigned n i k = refl

others : (a d m r : ℕ) → r < m → ((suc a + d) * m - suc (a * m + r)) / m ≡ d
others a d m r h =
    let e : (suc a + d) * m - suc (a * m + r) ≡ d * m + (m - suc r) = omega arith in
    ap (λ n. n / m) e ∙ div-mul-add d m (m - suc r) (omega arith)

-- What the ones of a number leave, shifted.
complement : (p m i : ℕ) → 0 < m → i / m < p → (p * m - suc i) / m ≡ p - suc (i / m)
complement p m i some within =
    let split : i / m * m + i % m ≡ i = div-add-mod' i m in
    let rest : i % m < m = mod_below i m some in
    let whole : suc (i / m) + (p - suc (i / m)) ≡ p = omega arith in
    subst (λ q. (q * m - suc i) / m ≡ p - suc (i / m)) whole
    (subst (λ j. ((suc (i / m) + (p - suc (i / m))) * m - suc j) / m ≡ p - suc (i / m)) split (others (i / m) (p - suc (i / m)) m (i % m) rest))

shift_choice : (w : Width) (b : Bool) (i d m low high : ℕ) → i / m ≡ low → 2 ^ bits w - suc (d / m) ≡ high →
    of_z w (lib.Signed.shr_z (sel b (pos i) (negsuc d)) m) ≡ (if b then low else high)
shift_choice w true i d m low high e f = e
shift_choice w false i d m low high e f = f

shifted_at : (w : Width) (i k : ℕ) → i < 2 ^ bits w → k < bits w → of_z w (int_shr (to_z w i) k) ≡ shifted_right Signed (bits w) i k
unfolding shifted_right
shifted_at w i k h few =
    let size : bits w ≡ bits w - k + k = omega arith in
    let split : 2 ^ bits w ≡ 2 ^ (bits w - k) * 2 ^ k = ap (λ n. 2 ^ n) size ∙ pow-add 2 (bits w - k) k in
    let within : i / 2 ^ k < 2 ^ (bits w - k) = shr_below i (bits w - k) k (subst (λ n. i < 2 ^ n) size h) in
    let rest : (2 ^ bits w - suc i) / 2 ^ k ≡ 2 ^ (bits w - k) - suc (i / 2 ^ k) =
    ap (λ n. (n - suc i) / 2 ^ k) split ∙ complement (2 ^ (bits w - k)) (2 ^ k) i (pow_pos k) within in
    let room : 2 ^ (bits w - k) ≤ 2 ^ bits w = subst (λ n. 2 ^ (bits w - k) ≤ n) (sym split) (let one = pow_pos k in wider (2 ^ (bits w - k)) (2 ^ k) one) in
    shift_choice w (nat_lt i (2 ^ hbits w)) i (2 ^ bits w - suc i) (2 ^ k) (i / 2 ^ k) (i / 2 ^ k + (2 ^ bits w - 2 ^ (bits w - k))) refl
    (ap (λ d. 2 ^ bits w - suc d) rest ∙ omega arith) ∙
    ap (λ j. if nat_lt i (2 ^ j) then i / 2 ^ k else i / 2 ^ k + (2 ^ bits w - 2 ^ (bits w - k))) (sym (half w))
  where
    wider : (a b : ℕ) → 0 < b → a ≤ a * b
    wider a b h = grind arith

pub shifted_is : (w : Width) (i k : ℕ) (x : ℤ) (n : ℕ) → i < 2 ^ bits w → k < bits w → x ≡ to_z w i → n ≡ of_z w (to_z w (of_z w (int_shr x k))) →
    n ≡ shifted_right Signed (bits w) i k
shifted_is w i k x n h few ex e =
    let fits : mag (int_shr (to_z w i) k) < 2 ^ hbits w =
    let a = mag_shr (to_z w i) (2 ^ k) in let b = mag_signed w i h in omega arith in
    e ∙ (ap (λ x. of_z w (to_z w (of_z w (int_shr x k)))) ex ∙
    (ap (of_z w) (to_z-of_z w (int_shr (to_z w i) k) (record { sfits = fits })) ∙ shifted_at w i k h few))

-- A rotation by some bits, fewer than there are.
pub rotated_is : (w : Width) (i k : ℕ) → i < 2 ^ bits w → k < bits w → (k ≢ 0) → rotate_left w i k ≡ rotated_left (bits w) i k
unfolding rotated_left
rotated_is w i k h few some =
    let size : bits w ≡ bits w - k + k = omega arith in
    let by : k % bits w ≡ k = small k (bits w) few in
    let back : (bits w - k) % bits w ≡ bits w - k = small (bits w - k) (bits w) (omega arith) in
    let high : i / 2 ^ (bits w - k) < 2 ^ k = shr_below i k (bits w - k) (subst (λ n. i < 2 ^ n) (omega arith) h) in
    let low : (i * 2 ^ k) % 2 ^ bits w ≡ (i % 2 ^ (bits w - k)) * 2 ^ k =
    ap (λ n. (i * 2 ^ k) % 2 ^ n) size ∙ (mod-pow-add (i * 2 ^ k) (bits w - k) k ∙ moved (bits w - k) k) in
    ap (λ j. bit_or ((i * 2 ^ j) % 2 ^ bits w) (i / 2 ^ ((bits w - j) % bits w))) by ∙
    (ap (λ j. bit_or ((i * 2 ^ k) % 2 ^ bits w) (i / 2 ^ j)) back ∙
    (ap (λ n. bit_or n (i / 2 ^ (bits w - k))) low ∙
    (or_shifted (i % 2 ^ (bits w - k)) k (i / 2 ^ (bits w - k)) high ∙
    ap (λ n. n + i / 2 ^ (bits w - k)) (sym low))))
  where
    moved : (j k : ℕ) → ((i * 2 ^ k) / 2 ^ k % 2 ^ j) * 2 ^ k + (i * 2 ^ k) % 2 ^ k ≡ (i % 2 ^ j) * 2 ^ k
    moved j k =
        let front : (i * 2 ^ k) / 2 ^ k ≡ i = shl-shr i k in
        let none : (i * 2 ^ k) % 2 ^ k ≡ 0 = ap (λ n. n % 2 ^ k) (plus_none (i * 2 ^ k)) ∙ mod_low i k 0 (pow_pos k) in
        ap (λ n. (n % 2 ^ j) * 2 ^ k + (i * 2 ^ k) % 2 ^ k) front ∙ (ap (λ n. (i % 2 ^ j) * 2 ^ k + n) none ∙ omega arith)
      where
        plus_none : (n : ℕ) → n ≡ n + 0
        plus_none n = omega arith

pub rotated_none : (w : Width) (i k : ℕ) → i < 2 ^ bits w → k ≡ 0 → i ≡ rotated_left (bits w) i k
unfolding rotated_left
rotated_none w i zero h e =
    let low : (i * 1) % 2 ^ bits w ≡ i = ap (λ n. n % 2 ^ bits w) (one i) ∙ small i (2 ^ bits w) h in
    let all : bits w - 0 ≡ bits w = omega arith in
    let high : i / 2 ^ (bits w - 0) ≡ 0 = ap (λ k. i / 2 ^ k) all ∙ none_over i (2 ^ bits w) h in
    sym (ap (λ n. n + i / 2 ^ (bits w - 0)) low ∙ (ap (λ n. i + n) high ∙ plus i))
  where
    one : (n : ℕ) → n * 1 ≡ n
    one n = omega arith

    plus : (n : ℕ) → n + 0 ≡ n
    plus n = omega arith
rotated_none w i (suc k) h e = absurd (omega arith)
