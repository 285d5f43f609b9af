-- Reading one part and another behind it.
use Rattle.std.proofs.Common.{◌≡◌, ◌∙◌, inl, inr, ℕ, ◌+◌, List, ◌∷◌, ◌++◌, length, refl, sym, ap, subst, arith, append_assoc, length-append}
use Rattle.std.specs.Prelude.{Result, Ok, Err, IfErr}
use Rattle.std.specs.Result.{IsErrAnd}
use Rattle.hph_wasm.specs.Grammar.{Grammar, Byte, ◌⊳◌}
use Rattle.hph_wasm.specs.OneWay.{OneForm}
use Rattle.hph_wasm.specs.Unsupported.{Stop, Any, Nowhere, Either, Behind}
use Rattle.hph_wasm.specs.declared.feature.Feature.{Feature}
use Rattle.hph_wread.specs.declared.fault.Fault.{Fault}
use Rattle.hph_wread.specs.declared.fault.Fault.TheVariants.{Malformed, Unsupported, NoMemory}
use Rattle.hph_wread.specs.Reading.{Took, Fails}

-- one part, and another behind it
pub took_then : {P Q : Grammar} {bytes mid rest : List ℕ} → Took P bytes mid → Took Q mid rest → Took (P ⊳ Q) bytes rest
took_then {rest = rest} p q = record {
  front = p.front ++ q.front;
  split = p.split ∙ ap (λ l. p.front ++ l) q.split ∙ sym (append_assoc p.front q.front rest);
  spelled = record { front = p.front; rest = q.front; split = refl; first = p.spelled; second = q.spelled };
}

-- the first of two parts, and the second behind it
pub record Took2 (P Q : List ℕ → Type 0) (bytes rest : List ℕ) : Type 0 where
  pub mid : List ℕ
  pub first : Took P bytes mid
  pub second : Took Q mid rest

pub took_split : {P Q : Grammar} {bytes rest : List ℕ} → Took (P ⊳ Q) bytes rest → Took2 P Q bytes rest
took_split {rest = rest} p =
    let two = p.spelled in record {
      mid = two.rest ++ rest;
      first = record { front = two.front; split = p.split ∙ ap (λ l. l ++ rest) two.split ∙ append_assoc two.front two.rest rest; spelled = two.first };
      second = record { front = two.rest; split = refl; spelled = two.second };
    }

-- more ways to be spelled
pub took_map : {P Q : Grammar} {bytes rest : List ℕ} → ((front : List ℕ) → P front → Q front) → Took P bytes rest → Took Q bytes rest
took_map h p = record { front = p.front; split = p.split; spelled = h p.front p.spelled }

-- something of this kind was read
pub took_any : {X : Type 0} (P : X → Grammar) (x : X) {bytes rest : List ℕ} → Took (P x) bytes rest → Took (Any P) bytes rest
took_any P x p = record { front = p.front; split = p.split; spelled = (x, p.spelled, tt) }

-- at most one front of bytes is such a spelling
pub record OneEnd (P : List ℕ → Type 0) : Type 0 where
  pub same : (bytes r s : List ℕ) → Took P bytes r → Took P bytes s → r ≡ s

pub one_end : {X : Type 0} {P : X → Grammar} → OneForm P → OneEnd (Any P)
one_end o = record {
  same = λ bytes r s p q. (o.alike p.spelled.0 q.spelled.0 p.front q.front r s p.spelled.1 q.spelled.1 (sym p.split ∙ q.split)).behind;
}

-- a stop behind what was read
pub behind_took : {P : Grammar} {S : Stop} {bytes rest : List ℕ} (place : ℕ) (feature : Feature) (p : Took P bytes rest) →
    S place feature rest → Behind P S (length p.front + place) feature bytes
behind_took {rest = rest} place feature p stop = record
    { front = p.front; rest = rest; split = p.split; before = p.spelled; place = place; counted = refl; stops = stop }

pub took_behind : {P : Grammar} {S : Stop} {bytes : List ℕ} (place : ℕ) (feature : Feature) (b : Behind P S place feature bytes) →
    Took P bytes b.rest
took_behind place feature b = record { front = b.front; split = b.split; spelled = b.before }

-- in other words
pub fails_map : {P Q : Grammar} {S T : Stop} {bytes : List ℕ} → ((front : List ℕ) → Q front → P front) →
    ((place : ℕ) (feature : Feature) → S place feature bytes → T place feature bytes) →
    ((place : ℕ) (feature : Feature) → T place feature bytes → S place feature bytes) →
    (e : Fault) → Fails P S bytes e → Fails Q T bytes e
fails_map h to from (Malformed left) f = let r = f.reason in record {
  reason = (
    r.0,
    record {
      none = λ rest q. r.1.none rest (took_map h q);
      nowhere = λ place feature t. r.1.nowhere place feature (from place feature t);
    },
  );
}
fails_map h to from (Unsupported left feature) f = let r = f.reason in record { reason = record { place = r.place; counted = r.counted; stops = to r.place feature r.stops } }
fails_map h to from NoMemory f = record { reason = tt }

-- the first part isn't there
pub fails_first : {P : Grammar} (P' Q : Grammar) {S : Stop} (T : Stop) {bytes : List ℕ} → ((front : List ℕ) → P' front → P front) →
    (e : Fault) → Fails P S bytes e → Fails (P ⊳ Q) (Either S (Behind P' T)) bytes e
fails_first P' Q T h (Malformed left) f = let r = f.reason in record {
  reason = (
    r.0,
    record {
      none = λ rest q. let two = took_split q in r.1.none two.mid two.first;
      nowhere = λ place feature t. elim t [
        | inl s ↦ r.1.nowhere place feature s
        | inr b ↦ r.1.none b.rest (took_map h (took_behind place feature b))
      ];
    },
  );
}
fails_first P' Q T h (Unsupported left feature) f = let r = f.reason in record { reason = record { place = r.place; counted = r.counted; stops = inl r.stops } }
fails_first P' Q T h NoMemory f = record { reason = tt }

-- the second part isn't there
pub fails_second : {P P' Q : Grammar} (S : Stop) {T : Stop} {bytes mid : List ℕ} → OneEnd P → ((front : List ℕ) → P' front → P front) →
    ((place : ℕ) (feature : Feature) → ¬ S place feature bytes) → Took P' bytes mid →
    (e : Fault) → Fails Q T mid e → Fails (P ⊳ Q) (Either S (Behind P' T)) bytes e
fails_second {P} {P'} {Q} S {T} {bytes} {mid} one h clear p (Malformed left) f = let r = f.reason in record {
  reason = (
    omega (arith, r.0, ap length p.split, length-append p.front mid),
    record {
      none = λ rest q. let two = took_split q in
          r.1.none rest (subst (λ l. Took Q l rest) (one.same bytes two.mid mid two.first (took_map h p)) two.second);
      nowhere = λ place feature t. elim t [
        | inl s ↦ clear place feature s
        | inr b ↦ r.1.nowhere b.place feature
            (subst (λ l. T b.place feature l) (one.same bytes b.rest mid (took_map h (took_behind place feature b)) (took_map h p)) b.stops)
      ];
    },
  );
}
fails_second S {mid = mid} one h clear p (Unsupported left feature) f = let r = f.reason in record {
  reason = record {
    place = length p.front + r.place;
    counted = omega (arith, r.counted, ap length p.split, length-append p.front mid);
    stops = inr (behind_took r.place feature p r.stops);
  };
}
fails_second S one h clear p NoMemory f = record { reason = tt }

-- where nothing stops in the first part, what stops is behind it
pub behind_first : {P : Grammar} (Q : Grammar) (T : Stop) {bytes : List ℕ} → (e : Fault) → Fails P Nowhere bytes e → Fails (P ⊳ Q) (Behind P T) bytes e
behind_first {P} Q T e f =
    fails_map (λ front q. q) (λ place feature t. elim t [ inl s ↦ absurd s | inr b ↦ b ]) (λ place feature b. inr b) e (fails_first P Q T (λ front p. p) e f)

pub behind_second : {P Q : Grammar} {T : Stop} {bytes mid : List ℕ} → OneEnd P → Took P bytes mid →
    (e : Fault) → Fails Q T mid e → Fails (P ⊳ Q) (Behind P T) bytes e
behind_second one p e f =
    fails_map (λ front q. q) (λ place feature t. elim t [ inl s ↦ absurd s | inr b ↦ b ]) (λ place feature b. inr b) e
    (fails_second Nowhere one (λ front p. p) (λ place feature s. s) p e f)

-- nothing stops in either part
pub plain_first : {P : Grammar} (Q : Grammar) {bytes : List ℕ} → (e : Fault) → Fails P Nowhere bytes e → Fails (P ⊳ Q) Nowhere bytes e
plain_first Q e f = fails_map (λ front q. q) (λ place feature b. b.stops) (λ place feature n. absurd n) e (behind_first Q Nowhere e f)

pub plain_second : {P Q : Grammar} {bytes mid : List ℕ} → OneEnd P → Took P bytes mid →
    (e : Fault) → Fails Q Nowhere mid e → Fails (P ⊳ Q) Nowhere bytes e
plain_second one p e f = fails_map (λ front q. q) (λ place feature b. b.stops) (λ place feature n. absurd n) e (behind_second one p e f)

-- what stops, stops in the first part
abbrev pub Anything : Grammar
Anything front = Unit {0}

pub stops_first : {P : Grammar} (Q : Grammar) {S : Stop} {bytes : List ℕ} → (e : Fault) → Fails P S bytes e → Fails (P ⊳ Q) S bytes e
stops_first {P} Q {S} e f = fails_map (λ front q. q) (λ place feature t. elim t [ inl s ↦ s | inr b ↦ absurd b.stops ]) (λ place feature s. inl s) e
    (fails_first P Q Nowhere (λ front p. p) e f)

pub stops_before : {P Q : Grammar} (S : Stop) {bytes mid : List ℕ} → OneEnd P → ((place : ℕ) (feature : Feature) → ¬ S place feature bytes) → Took P bytes mid →
    (e : Fault) → Fails Q Nowhere mid e → Fails (P ⊳ Q) S bytes e
stops_before {P} {Q} S one clear p e f = fails_map (λ front q. q) (λ place feature t. elim t [ inl s ↦ s | inr b ↦ absurd b.stops ]) (λ place feature s. inl s) e
    (fails_second {P' = P} S one (λ front p. p) clear p e f)

-- fixed bytes end in one place
pub byte_end : (b : ℕ) → OneEnd (Byte b)
byte_end b = record { same = λ bytes r s p q. let e : b ∷ r ≡ b ∷ s = ap (λ l. l ++ r) (sym p.spelled) ∙ sym p.split ∙ q.split ∙ ap (λ l. l ++ s) q.spelled in cc }

-- two parts, each of which ends in one place
pub pair_end : {P Q : Grammar} → OneEnd P → OneEnd Q → OneEnd (P ⊳ Q)
pair_end {P} {Q} one more = record {
  same = λ bytes r s p q.
      let a = took_split p in
      let b = took_split q in
      more.same b.mid r s (subst (λ l. Took Q l r) (one.same bytes a.mid b.mid a.first b.first) a.second) b.second;
}

-- a fault that a `?` hands on
pub handed_on : {Y : Type 0} (A : Fault → Type 0) (r : Result Y Fault) (e : Fault) → IsErrAnd r (λ y. y ≡ e) → A e → IfErr r A
handed_on A (Ok y) e h a = tt
handed_on A (Err y) e h a = subst A (sym h) a
