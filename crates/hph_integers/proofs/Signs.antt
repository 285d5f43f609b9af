-- Numbers of so many bits, with a sign.
use Rattle.std.proofs.Common.{◌≡◌, ◌∙◌, ◌≤◌, ◌<◌, ◌+◌, ◌-◌, ◌*◌, ◌/◌, ◌%◌, ◌^◌, ℕ, suc, Bool, true, false, refl, sym, ap, subst, arith}
use Rattle.std.specs.Prelude.{ℤ, pos, negsuc, ◌-ℤ◌, nat_lt, int_lt, if◌then◌else◌}
use Rattle.std.proofs.lemmas.Int.{ints, of_z-to_z}
use Rattle.std.proofs.lemmas.Nat.{mod-mul-add, div-mul-add, pow_below, one_shl}
use Rattle.std.specs.Int.{Width, w8, w16, w32, w64, w128}
use lib.Signed.{mag}
use mir.Val.{to_z, of_z, bits, hbits, sel}
use Rattle.hph_wasm.specs.declared.instr.Sign.TheVariants.{Signed}
use Rattle.hph_wasm.specs.Integers.{signed, unsigned, less, extended}

pub half : (w : Width) → bits w - 1 ≡ hbits w
half w8 = refl
half w16 = refl
half w32 = refl
half w64 = refl
half w128 = refl

pub double : (w : Width) → 2 ^ bits w ≡ 2 ^ hbits w + 2 ^ hbits w
double w8 = refl
double w16 = refl
double w32 = refl
double w64 = refl
double w128 = refl

pub under : (i n : ℕ) → i < n → pos i -ℤ pos n ≡ negsuc (n - suc i)
under i n h = omega (arith, ints)

pub small : (i n : ℕ) → i < n → i % n ≡ i
small i n h = let e : i ≡ 0 * n + i = omega arith in ap (λ k. k % n) e ∙ mod-mul-add 0 n i h

pub none_over : (i n : ℕ) → i < n → i / n ≡ 0
none_over i n h = let e : i ≡ 0 * n + i = omega arith in ap (λ k. k / n) e ∙ div-mul-add 0 n i h

pub yes : {A : Type 0} (b : Bool) (x y : A) → b ≡ true → (if b then x else y) ≡ x
yes true x y e = refl
yes false x y e = let no : ⊥ = cc in absurd no

pub no : {A : Type 0} (b : Bool) (x y : A) → b ≡ false → (if b then x else y) ≡ y
no true x y e = let none : ⊥ = cc in absurd none
no false x y e = refl

pub is_less : (a b : ℕ) → a < b → nat_lt a b ≡ true
is_less a b h = grind arith

pub is_not_less : (a b : ℕ) → b ≤ a → nat_lt a b ≡ false
is_not_less a b h = grind arith

choice : (b : Bool) (x y z : ℤ) → y ≡ z → (if b then x else y) ≡ sel b x z
choice true x y z e = refl
choice false x y z e = e

-- The number of w bits in two's complement, as casts have it.
pub signed_is : (w : Width) (i : ℕ) → i < 2 ^ bits w → signed (bits w) i ≡ to_z w i
unfolding signed
signed_is w i h = ap (λ k. if nat_lt i (2 ^ k) then pos i else pos i -ℤ pos (2 ^ bits w)) (half w) ∙
    choice (nat_lt i (2 ^ hbits w)) (pos i) (pos i -ℤ pos (2 ^ bits w)) (negsuc (2 ^ bits w - suc i)) (under i (2 ^ bits w) h)

-- The bits of a number that w bits hold, as casts have them.
pub unsigned_is : (w : Width) (z : ℤ) → mag z < 2 ^ hbits w → unsigned (bits w) z ≡ of_z w z
unfolding unsigned
unsigned_is w (pos i) h = let d = double w in small i (2 ^ bits w) (omega arith)
unsigned_is w (negsuc i) h =
    let d = double w in
    let e : i % 2 ^ bits w ≡ i = small i (2 ^ bits w) (omega arith) in
    ap (λ k. 2 ^ bits w - 1 - k) e ∙ omega arith

mag_choice : (b : Bool) (x y : ℤ) (n : ℕ) → (b ≡ true → mag x < n) → (b ≡ false → mag y < n) → mag (sel b x y) < n
mag_choice true x y n f g = f refl
mag_choice false x y n f g = g refl

less_from : (a b : ℕ) → nat_lt a b ≡ true → a < b
less_from a b e = grind arith

not_less_from : (a b : ℕ) → nat_lt a b ≡ false → b ≤ a
not_less_from a b e = grind arith

pub mag_signed : (w : Width) (i : ℕ) → i < 2 ^ bits w → mag (to_z w i) < 2 ^ hbits w
mag_signed w i h = mag_choice (nat_lt i (2 ^ hbits w)) (pos i) (negsuc (2 ^ bits w - suc i)) (2 ^ hbits w)
    (λ e. less_from i (2 ^ hbits w) e)
    (λ e. let d = double w in let past = not_less_from i (2 ^ hbits w) e in omega arith)

-- A number that is cast, passed on and taken for what it is.
pub back : (w : Width) (i : ℕ) (x : ℤ) → x ≡ to_z w i → i < 2 ^ bits w → to_z w (of_z w x) ≡ to_z w i
back w i x e h = ap (λ x. to_z w (of_z w x)) e ∙ ap (to_z w) (of_z-to_z w i h)

pub less_is : (w : Width) (i j : ℕ) (x y : ℤ) → i < 2 ^ bits w → j < 2 ^ bits w → x ≡ to_z w i → y ≡ to_z w j →
    int_lt (to_z w (of_z w x)) (to_z w (of_z w y)) ≡ less Signed (bits w) i j
unfolding less
less_is w i j x y hi hj ex ey =
    ap (λ x. int_lt x (to_z w (of_z w y))) (back w i x ex hi ∙ sym (signed_is w i hi)) ∙
    ap (λ y. int_lt (signed (bits w) i) y) (back w j y ey hj ∙ sym (signed_is w j hj))

-- A number of m bits as one of n bits.
pub extended_low : (m n i : ℕ) → i < 2 ^ (m - 1) → i < 2 ^ n → i ≡ extended Signed m n i
unfolding extended signed unsigned
extended_low m n i h fits =
    sym (ap (unsigned n) (yes (nat_lt i (2 ^ (m - 1))) (pos i) (pos i -ℤ pos (2 ^ m)) (is_less i (2 ^ (m - 1)) h)) ∙ small i (2 ^ n) fits)

pub extended_high : (m n i : ℕ) → 2 ^ (m - 1) ≤ i → i < 2 ^ m → 2 ^ m ≤ 2 ^ n → i + (2 ^ n - 2 ^ m) ≡ extended Signed m n i
unfolding extended signed unsigned
extended_high m n i h within fits =
    let e : (2 ^ m - suc i) % 2 ^ n ≡ 2 ^ m - suc i = small (2 ^ m - suc i) (2 ^ n) (omega arith) in
    sym (ap (unsigned n) (no (nat_lt i (2 ^ (m - 1))) (pos i) (pos i -ℤ pos (2 ^ m)) (is_not_less i (2 ^ (m - 1)) h) ∙ under i (2 ^ m) within) ∙
    (ap (λ k. 2 ^ n - 1 - k) e ∙ omega arith))

pub extended_under : (m n i : ℕ) → 0 < m → m < n → i < 2 ^ m → i < (1 * 2 ^ (m - 1)) % 2 ^ n → i ≡ extended Signed m n i
extended_under m n i some few within h =
    extended_low m n i (subst (λ k. i < k) (one_shl (m - 1) n (omega arith)) h) (let room = pow_below m n few in omega arith)

pub extended_over : (m n i r : ℕ) → 0 < m → m < n → i < 2 ^ m → (1 * 2 ^ (m - 1)) % 2 ^ n ≤ i → r ≡ (i + (2 ^ n - (1 * 2 ^ m) % 2 ^ n)) % 2 ^ n →
    r ≡ extended Signed m n i
extended_over m n i r some few within h e =
    let room : 2 ^ m < 2 ^ n = pow_below m n few in
    let fit : i + (2 ^ n - 2 ^ m) < 2 ^ n = omega arith in
    e ∙ (ap (λ k. (i + (2 ^ n - k)) % 2 ^ n) (one_shl m n few) ∙ (small (i + (2 ^ n - 2 ^ m)) (2 ^ n) fit ∙
    extended_high m n i (subst (λ k. k ≤ i) (one_shl (m - 1) n (omega arith)) h) within (omega arith)))
