-- LEB128 can be read in one way, and what it spells lies in the range of its bits.
use Rattle.std.proofs.Common.{◌≡◌, ◌<◌, ◌≤◌, ◌∙◌, inl, inr, ℕ, ◌+◌, ◌-◌, ◌*◌, ◌^◌, List, [], ◌∷◌, ◌++◌, sym, ap, subst, arith}
use Rattle.std.specs.Prelude.{ℤ, pos, ◌+ℤ◌, ◌*ℤ◌, ◌≤ℤ◌, ◌<ℤ◌}
use Rattle.std.proofs.lemmas.Int.{ints}
use Rattle.std.proofs.lemmas.Nat.{pow-add}
use Rattle.hph_wasm.specs.Leb128.{Unsigned, Signed}
use Rattle.hph_wasm.proofs.OneForm.{Alike, OneForm}

-- a last byte and a byte that others follow differ in their highest bit
last_byte : (b c : ℕ) (f g : List ℕ) → b ∷ f ≡ c ∷ g → b < 2 ^ 7 → 2 ^ 7 ≤ c → ⊥
last_byte b c f g e low high = let same : b ≡ c = cc in omega arith

-- one byte more in front of numbers that are alike
byte_alike : {X : Type 0} {high high' : X} {b c : ℕ} {f g r s : List ℕ} (x y : X) → b ≡ c →
    Alike high high' f g r s → (high ≡ high' → x ≡ y) → Alike x y (b ∷ f) (c ∷ g) r s
byte_alike x y bytes a thing = record { thing = thing a.thing; spelling = λ i. bytes i ∷ a.spelling i; behind = a.behind }

-- by the number of bytes
unsigned_alike : (bits : ℕ) (f g : List ℕ) (m n : ℕ) (r s : List ℕ) → Unsigned bits m f → Unsigned bits n g → f ++ r ≡ g ++ s → Alike m n f g r s
unsigned_alike bits [] g m n r s p q e = absurd p
unsigned_alike bits (b ∷ f) [] m n r s p q e = absurd q
unsigned_alike bits (b ∷ []) (c ∷ []) m n r s p q e =
    let same : b ≡ c = cc in
    record { thing = p.2 ∙ same ∙ sym q.2; spelling = ap (λ b. b ∷ []) same; behind = cc }
unsigned_alike bits (b ∷ []) (c ∷ d ∷ g) m n r s p q e = absurd (last_byte b c r (d ∷ g ++ s) e p.0 q.0)
unsigned_alike bits (b ∷ a ∷ f) (c ∷ []) m n r s p q e = absurd (last_byte c b s (a ∷ f ++ r) (sym e) q.0 p.0)
unsigned_alike bits (b ∷ a ∷ f) (c ∷ d ∷ g) m n r s p q e =
    let same : b ≡ c = cc in
    let tails : a ∷ f ++ r ≡ d ∷ g ++ s = cc in
    byte_alike m n same (unsigned_alike (bits - 7) (a ∷ f) (d ∷ g) p.3 q.3 r s p.5 q.5 tails) (λ highs. omega (arith, same, highs, p.4, q.4))

-- no spelling of an unsigned number begins another, and each spells one number
pub unsigned_form : (bits : ℕ) → OneForm (Unsigned bits)
unsigned_form bits = record { alike = λ m n f g r s. unsigned_alike bits f g m n r s }

-- a last byte is below 2^7, whether its sign is set or not
signed_last : (bits b : ℕ) (z : ℤ) → Signed bits z (b ∷ []) → b < 2 ^ 7
signed_last bits b z (inl p) = omega (arith, p.0)
signed_last bits b z (inr p) = p.1

-- a last byte spells one number
signed_one : (bits b : ℕ) (y z : ℤ) → Signed bits y (b ∷ []) → Signed bits z (b ∷ []) → y ≡ z
signed_one bits b y z (inl p) (inl q) = p.2 ∙ sym q.2
signed_one bits b y z (inl p) (inr q) = absurd (omega (arith, p.0, q.0))
signed_one bits b y z (inr p) (inl q) = absurd (omega (arith, p.0, q.0))
signed_one bits b y z (inr p) (inr q) = omega (arith, ints, p.3, q.3)

-- a byte in front of one number spells one number
signed_more : (b c : ℕ) (y z high high' : ℤ) → b ≡ c → high ≡ high' →
    y +ℤ pos (2 ^ 7) ≡ pos b +ℤ (pos (2 ^ 7) *ℤ high) → z +ℤ pos (2 ^ 7) ≡ pos c +ℤ (pos (2 ^ 7) *ℤ high') → y ≡ z
signed_more b c y z high high' bytes highs p q =
    let e : y +ℤ pos (2 ^ 7) ≡ z +ℤ pos (2 ^ 7) = p ∙ (λ i. pos (bytes i) +ℤ (pos (2 ^ 7) *ℤ highs i)) ∙ sym q in
    omega (arith, ints, e)

-- by the number of bytes
signed_alike : (bits : ℕ) (f g : List ℕ) (y z : ℤ) (r s : List ℕ) → Signed bits y f → Signed bits z g → f ++ r ≡ g ++ s → Alike y z f g r s
signed_alike bits [] g y z r s p q e = absurd p
signed_alike bits (b ∷ f) [] y z r s p q e = absurd q
signed_alike bits (b ∷ []) (c ∷ []) y z r s p q e =
    let same : b ≡ c = cc in
    record { thing = signed_one bits c y z (subst (λ b. Signed bits y (b ∷ [])) same p) q; spelling = ap (λ b. b ∷ []) same; behind = cc }
signed_alike bits (b ∷ []) (c ∷ d ∷ g) y z r s p q e = absurd (last_byte b c r (d ∷ g ++ s) e (signed_last bits b y p) q.0)
signed_alike bits (b ∷ a ∷ f) (c ∷ []) y z r s p q e = absurd (last_byte c b s (a ∷ f ++ r) (sym e) (signed_last bits c z q) p.0)
signed_alike bits (b ∷ a ∷ f) (c ∷ d ∷ g) y z r s p q e =
    let same : b ≡ c = cc in
    let tails : a ∷ f ++ r ≡ d ∷ g ++ s = cc in
    byte_alike y z same (signed_alike (bits - 7) (a ∷ f) (d ∷ g) p.3 q.3 r s p.5 q.5 tails) (λ highs. signed_more b c y z p.3 q.3 same highs p.4 q.4)

-- no spelling of a signed number begins another, and each spells one number
pub signed_form : (bits : ℕ) → OneForm (Signed bits)
signed_form bits = record { alike = λ y z f g r s. signed_alike bits f g y z r s }

-- the range of seven bits more
pow-seven_more : (bits : ℕ) → 7 ≤ bits → 2 ^ bits ≡ 2 ^ 7 * 2 ^ (bits - 7)
pow-seven_more bits more = let split : bits ≡ 7 + (bits - 7) = omega arith in ap (λ n. 2 ^ n) split ∙ pow-add 2 7 (bits - 7)

-- an unsigned number is below the power of two that its bits give
pub Unsigned-below : (bits n : ℕ) (bytes : List ℕ) → Unsigned bits n bytes → n < 2 ^ bits
Unsigned-below bits n [] p = absurd p
Unsigned-below bits n (b ∷ []) p = omega (arith, p.1, p.2)
Unsigned-below bits n (b ∷ c ∷ bytes) p =
    let below = Unsigned-below (bits - 7) p.3 (c ∷ bytes) p.5 in
    let power : 2 ^ bits ≡ 2 ^ 7 * 2 ^ (bits - 7) = pow-seven_more bits (omega (arith, p.2)) in
    omega (arith, below, power, p.1, p.4)

-- a signed number lies between the two powers of two that its bits give
pub Signed-within : (bits : ℕ) (z : ℤ) (bytes : List ℕ) →
    Signed bits z bytes → (pos 0 ≤ℤ (z +ℤ pos (2 ^ (bits - 1)))) × (z <ℤ pos (2 ^ (bits - 1)))
Signed-within bits z [] p = absurd p
Signed-within bits z (b ∷ []) (inl p) = (omega (arith, ints, p.1, p.2), omega (arith, ints, p.1, p.2))
Signed-within bits z (b ∷ []) (inr p) = (omega (arith, ints, p.2, p.3), omega (arith, ints, p.1, p.2, p.3))
Signed-within bits z (b ∷ c ∷ bytes) p =
    let within = Signed-within (bits - 7) p.3 (c ∷ bytes) p.5 in
    let same : bits - 7 - 1 ≡ bits - 1 - 7 = omega arith in
    let power : 2 ^ (bits - 1) ≡ 2 ^ 7 * 2 ^ (bits - 7 - 1) = pow-seven_more (bits - 1) (omega (arith, p.2)) ∙ ap (λ n. 2 ^ 7 * 2 ^ n) (sym same) in
    (omega (arith, ints, within.0, power, p.0, p.4), omega (arith, ints, within.1, power, p.1, p.4))
