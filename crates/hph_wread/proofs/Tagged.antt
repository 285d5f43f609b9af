-- Parts that begin with a byte that tells which they are.
use Rattle.std.proofs.Common.{◌≡◌, ◌∙◌, ℕ, suc, List, [], ◌∷◌, ◌++◌, length, refl, sym, ap, subst, arith}
use Rattle.hph_wasm.specs.Grammar.{Grammar, Byte, ◌⊳◌}
use Rattle.hph_wasm.specs.Unsupported.{Stop, Behind}
use Rattle.hph_wasm.specs.declared.feature.Feature.{Feature}
use Rattle.hph_wread.specs.declared.fault.Fault.{Fault}
use Rattle.hph_wread.specs.declared.fault.Fault.TheVariants.{Malformed, Unsupported, NoMemory}
use Rattle.hph_wread.specs.Reading.{Took, Fails}
use Rattle.hph_wread.proofs.Combinators.{took_then, took_split}

-- a byte that stands there
pub took_byte : (b : ℕ) {bytes rest : List ℕ} → bytes ≡ b ∷ rest → Took (Byte b) bytes rest
took_byte b e = record { front = b ∷ []; split = e; spelled = refl }

pub behind_byte : (b : ℕ) (Q : Grammar) {bytes mid rest : List ℕ} → bytes ≡ b ∷ mid → Took Q mid rest → Took (Byte b ⊳ Q) bytes rest
behind_byte b Q e q = took_then (took_byte b e) q

pub is_byte : (b : ℕ) {bytes rest : List ℕ} → Took (Byte b) bytes rest → bytes ≡ b ∷ rest
is_byte b {rest = rest} p = p.split ∙ ap (λ l. l ++ rest) p.spelled

-- what stands behind the byte
pub record SameByte (b c : ℕ) (Q : List ℕ → Type 0) (mid rest : List ℕ) : Type 0 where
  pub same : b ≡ c
  pub behind : Took Q mid rest

pub byte_took : (b c : ℕ) (Q : Grammar) {bytes mid rest : List ℕ} → bytes ≡ b ∷ mid → Took (Byte c ⊳ Q) bytes rest → SameByte b c Q mid rest
byte_took b c Q {bytes} {mid} {rest} e p =
    let two = took_split p in
    let flat : b ∷ mid ≡ c ∷ two.mid = sym e ∙ two.first.split ∙ ap (λ l. l ++ two.mid) two.first.spelled in
    let tails : two.mid ≡ mid = cc in
    record { same = cc; behind = subst (λ l. Took Q l rest) tails two.second }

pub one_byte_took : (b c : ℕ) {bytes mid rest : List ℕ} → bytes ≡ b ∷ mid → Took (Byte c) bytes rest → b ≡ c
one_byte_took b c {bytes} {mid} {rest} e p =
    let flat : b ∷ mid ≡ c ∷ rest = sym e ∙ p.split ∙ ap (λ l. l ++ rest) p.spelled in cc

-- no byte stands there
pub no_byte_took : (c : ℕ) {bytes rest : List ℕ} → bytes ≡ [] → ¬ Took (Byte c) bytes rest
no_byte_took c {bytes} {rest} e p = let flat : [] ≡ c ∷ rest = sym e ∙ p.split ∙ ap (λ l. l ++ rest) p.spelled in let no : ⊥ = cc in no

-- where a stop behind the byte is
pub record SameStop (b c : ℕ) (T : ℕ → Feature → List ℕ → Type 0) (mid : List ℕ) (place : ℕ) (feature : Feature) : Type 0 where
  pub same : b ≡ c
  pub before : ℕ
  pub next : place ≡ suc before
  pub stops : T before feature mid

pub byte_stop : (b c : ℕ) (T : Stop) {bytes mid : List ℕ} → bytes ≡ b ∷ mid → (place : ℕ) (feature : Feature) → Behind (Byte c) T place feature bytes → SameStop b c T mid place feature
byte_stop b c T {bytes} {mid} e place feature p =
    let flat : b ∷ mid ≡ c ∷ p.rest = sym e ∙ p.split ∙ ap (λ l. l ++ p.rest) p.before in
    let tails : p.rest ≡ mid = cc in
    record { same = cc; before = p.place; next = omega (arith, p.counted, ap length p.before); stops = subst (λ l. T p.place feature l) tails p.stops }

pub no_byte_stop : (c : ℕ) (T : Stop) {bytes : List ℕ} → bytes ≡ [] → (place : ℕ) (feature : Feature) → ¬ Behind (Byte c) T place feature bytes
no_byte_stop c T e place feature p = let flat : [] ≡ c ∷ p.rest = sym e ∙ p.split ∙ ap (λ l. l ++ p.rest) p.before in let no : ⊥ = cc in no

pub stop_behind_byte : (b : ℕ) (T : Stop) {bytes mid : List ℕ} → bytes ≡ b ∷ mid → (place : ℕ) (feature : Feature) → T place feature mid → Behind (Byte b) T (suc place) feature bytes
stop_behind_byte b T {mid = mid} e place feature t = record { front = b ∷ []; rest = mid; split = e; before = refl; place = place; counted = omega arith; stops = t }

-- What isn't there behind the byte isn't there at all, where the byte tells what has to stand behind it.
pub tagged_fails : (b : ℕ) {P Q : Grammar} {S T : Stop} {bytes mid : List ℕ} → bytes ≡ b ∷ mid →
    ((rest : List ℕ) → Took P bytes rest → Took Q mid rest) →
    ((place : ℕ) (feature : Feature) → T place feature mid → S (suc place) feature bytes) →
    ((place : ℕ) (feature : Feature) → S place feature bytes → (before : ℕ) × T before feature mid) →
    (e : Fault) → Fails Q T mid e → Fails P S bytes e
tagged_fails b is read to from (Malformed left) f = let r = f.reason in record {
  reason = (
    omega (arith, r.0, ap length is),
    record {
      none = λ rest p. r.1.none rest (read rest p);
      nowhere = λ place feature s. let t = from place feature s in r.1.nowhere t.0 feature t.1;
    },
  );
}
tagged_fails b is read to from (Unsupported left feature) f = let r = f.reason in record
    { reason = record { place = suc r.place; counted = omega (arith, r.counted, ap length is); stops = to r.place feature r.stops } }
tagged_fails b is read to from NoMemory f = record { reason = tt }
