-- What the grammars of unsigned and signed integers share: a byte below 2^7 ends a spelling, and one from there on goes
-- before a spelling of what is above its seven bits.
use Rattle.std.proofs.Common.{◌≡◌, ◌<◌, ◌≤◌, ◌∙◌, inl, inr, ℕ, ◌+◌, ◌-◌, ◌*◌, ◌^◌, List, [], ◌∷◌, sym, arith}
use Rattle.std.specs.Prelude.{ℤ, pos, ◌+ℤ◌, ◌-ℤ◌, ◌*ℤ◌}
use Rattle.std.proofs.lemmas.Int.{ints}
use Rattle.hph_wasm.specs.Leb128.{Unsigned, Signed}

-- a first byte, and a spelling of what is above its seven bits
pub record IsFirst {X : Type 0} (Spells : ℕ → X → List ℕ → Type 0) (join : ℕ → X → X) (bits b : ℕ) (x : X) (bytes : List ℕ) : Type 0 where
  pub large : 2 ^ 7 ≤ b
  pub wide : 7 < bits
  pub high : X
  pub joined : x ≡ join b high
  pub rest : Spells (bits - 7) high bytes

-- a grammar by bytes
pub record IsBytewise {X : Type 0} (Spells : ℕ → X → List ℕ → Type 0) (join : ℕ → X → X) : Type 0 where
  pub nonempty : (bits : ℕ) (x : X) → ¬ Spells bits x []
  pub last : (bits b : ℕ) (x : X) → Spells bits x (b ∷ []) → b < 2 ^ 7
  pub one : (bits b : ℕ) (x y : X) → Spells bits x (b ∷ []) → Spells bits y (b ∷ []) → x ≡ y
  pub more : (bits b c : ℕ) (x : X) (bytes : List ℕ) → Spells bits x (b ∷ c ∷ bytes) → IsFirst Spells join bits b x (c ∷ bytes)

-- what a first byte and the number above it make
abbrev pub join_unsigned : ℕ → ℕ → ℕ
join_unsigned b high = b + 128 * high - 128

abbrev pub join_signed : ℕ → ℤ → ℤ
join_signed b high = (pos b +ℤ (pos 128 *ℤ high)) -ℤ pos 128

-- unsigned integers are spelled so
pub unsigned_bytewise : IsBytewise Unsigned join_unsigned
unsigned_bytewise = record {
  nonempty = λ bits n spells. spells;
  last = λ bits b n spells. spells.0;
  one = λ bits b m n p q. p.2 ∙ sym q.2;
  more = λ bits b c n bytes spells. record { large = spells.0; wide = spells.2; high = spells.3; joined = omega (arith, spells.4); rest = spells.5 };
}

-- a last byte is below 2^7, whether its sign is set or not
signed_last : (bits b : ℕ) (z : ℤ) → Signed bits z (b ∷ []) → b < 2 ^ 7
signed_last bits b z (inl p) = omega (arith, p.0)
signed_last bits b z (inr p) = p.1

-- a last byte spells one number
signed_one : (bits b : ℕ) (y z : ℤ) → Signed bits y (b ∷ []) → Signed bits z (b ∷ []) → y ≡ z
signed_one bits b y z (inl p) (inl q) = p.2 ∙ sym q.2
signed_one bits b y z (inl p) (inr q) = absurd (omega (arith, p.0, q.0))
signed_one bits b y z (inr p) (inl q) = absurd (omega (arith, p.0, q.0))
signed_one bits b y z (inr p) (inr q) = omega (arith, ints, p.3, q.3)

-- and so are signed ones
pub signed_bytewise : IsBytewise Signed join_signed
signed_bytewise = record {
  nonempty = λ bits z spells. spells;
  last = signed_last;
  one = signed_one;
  more = λ bits b c z bytes spells. record { large = spells.0; wide = spells.2; high = spells.3; joined = omega (arith, ints, spells.4); rest = spells.5 };
}

-- a byte before the bytes of what is above it
pub Unsigned-cons : (bits n b high : ℕ) (bytes : List ℕ) → 128 ≤ b → b < 256 → 7 < bits → n + 128 ≡ b + 128 * high → Unsigned (bits - 7) high bytes → Unsigned bits n (b ∷ bytes)
Unsigned-cons bits n b high [] large byte wide is rest = absurd rest
Unsigned-cons bits n b high (c ∷ bytes) large byte wide is rest = (large, byte, wide, high, is, rest)

-- the same of signed numbers
pub Signed-cons : (bits : ℕ) (z : ℤ) (b : ℕ) (high : ℤ) (bytes : List ℕ) → 128 ≤ b → b < 256 → 7 < bits → z +ℤ pos 128 ≡ pos b +ℤ (pos 128 *ℤ high) → Signed (bits - 7) high bytes → Signed bits z (b ∷ bytes)
Signed-cons bits z b high [] large byte wide is rest = absurd rest
Signed-cons bits z b high (c ∷ bytes) large byte wide is rest = (large, byte, wide, high, is, rest)
