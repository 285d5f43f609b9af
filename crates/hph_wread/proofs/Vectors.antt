-- Reading so many parts, one behind the other.
use Rattle.std.proofs.Common.{◌≡◌, ◌<◌, ◌∙◌, ℕ, ◌+◌, List, [], ◌∷◌, ◌++◌, length, refl, sym, ap, subst, arith, length-append}
use Rattle.std.specs.List.{AllByRecursion}
use Rattle.hph_wasm.specs.Leb128.{Unsigned}
use Rattle.hph_wasm.specs.Grammar.{Grammar, ◌⊳◌, Each, Vector}
use Rattle.hph_wasm.specs.OneWay.{Alike, OneForm, OneStop}
use Rattle.hph_wasm.specs.Unsupported.{Stop, Any, Nowhere, Behind, Among, InVector}
use Rattle.hph_wasm.specs.declared.feature.Feature.{Feature}
use Rattle.hph_wread.specs.declared.fault.Fault.{Fault}
use Rattle.hph_wread.specs.declared.fault.Fault.TheVariants.{Malformed, Unsupported, NoMemory}
use Rattle.hph_wread.specs.Reading.{Took, Fails}
pub use Rattle.hph_wread.specs.Counted.{Counted}
use Rattle.hph_wread.proofs.Combinators.{took_then, took_split, took_any, behind_took, took_behind, fails_map, OneEnd}

-- the same thing is read at the head of the same bytes
pub took_alike : {X : Type 0} {P : X → Grammar} {bytes r s : List ℕ} → OneForm P → (x y : X) (p : Took (P x) bytes r) (q : Took (P y) bytes s) →
    Alike x y p.front q.front r s
took_alike {r = r} {s = s} o x y p q = o.alike x y p.front q.front r s p.spelled q.spelled (sym p.split ∙ q.split)

-- something is read, and nothing stops in it
pub took_apart : {X : Type 0} {P : X → Grammar} {Fits : X → Type 0} {S : Stop} {bytes rest : List ℕ} → OneStop P Fits S → (x : X) → Took (P x) bytes rest → Fits x →
    (place : ℕ) (feature : Feature) → ¬ S place feature bytes
took_apart {S = S} {rest = rest} o x p fits place feature s =
    o.apart x place feature p.front rest p.spelled fits (subst (S place feature) p.split s)

-- nothing, and all of the bytes behind it
pub took_nothing : {X : Type 0} (P : X → Grammar) {bytes rest : List ℕ} → Took (Each P []) bytes rest → bytes ≡ rest
took_nothing P {rest = rest} p = p.split ∙ ap (λ l. l ++ rest) p.spelled

pub nothing_took : {X : Type 0} (P : X → Grammar) (bytes : List ℕ) → Took (Each P []) bytes bytes
nothing_took P bytes = record { front = []; split = refl; spelled = refl }

-- one more
pub each_more : {X : Type 0} (P : X → Grammar) (xs : List X) (x : X) {bytes mid rest : List ℕ} → Took (Each P xs) bytes mid → Took (P x) mid rest →
    Took (Each P (xs ++ x ∷ [])) bytes rest
each_more P [] x {bytes} {mid} {rest} p q =
    let e : bytes ≡ mid = took_nothing P p in
    subst (λ l. Took (Each P (x ∷ [])) l rest) (sym e) (took_then q (nothing_took P rest))
each_more P (y ∷ ys) x p q = let two = took_split p in took_then two.first (each_more P ys x two.second q)

-- where more things are spelled, one more begins behind those that were read
pub each_goes_on : {X : Type 0} {P : X → Grammar} → OneForm P → (xs ys : List X) → length xs < length ys → {bytes r s : List ℕ} →
    Took (Each P xs) bytes r → Took (Each P ys) bytes s → (rest : List ℕ) × Took (Any P) r rest
each_goes_on o xs [] few p q = absurd (omega arith)
each_goes_on {P = P} o [] (y ∷ ys) few {bytes} {r} p q =
    let two = took_split q in
    let e : bytes ≡ r = took_nothing P p in
    (two.mid, subst (λ l. Took (Any P) l two.mid) e (took_any P y two.first))
each_goes_on {P = P} o (x ∷ xs) (y ∷ ys) few {bytes} {r} {s} p q =
    let a = took_split p in
    let b = took_split q in
    let same = took_alike o x y a.first b.first in
    each_goes_on o xs ys (omega arith) a.second (subst (λ l. Took (Each P ys) l s) (sym same.behind) b.second)

-- where nothing is read behind what was read, nothing stops there or before
pub each_stops : {X : Type 0} {P : X → Grammar} {Fits : X → Type 0} {S : Stop} → OneForm P → OneStop P Fits S → (xs ys : List X) → {bytes r s : List ℕ} →
    AllByRecursion Fits xs → Took (Each P xs) bytes r → ((rest : List ℕ) → ¬ Took (Any P) r rest) →
    ((place : ℕ) (feature : Feature) → ¬ S place feature r) →
    Took (Each P ys) bytes s → (place : ℕ) (feature : Feature) → ¬ S place feature s
each_stops {P = P} {S = S} o stops [] [] {bytes} {r} {s} fits p none clear q place feature t =
    let e : bytes ≡ r = took_nothing P p in
    let e' : bytes ≡ s = took_nothing P q in
    clear place feature (subst (S place feature) (sym e' ∙ e) t)
each_stops {P = P} o stops [] (y ∷ ys) {bytes} {r} {s} fits p none clear q place feature t =
    let two = took_split q in
    let e : bytes ≡ r = took_nothing P p in
    none two.mid (subst (λ l. Took (Any P) l two.mid) e (took_any P y two.first))
each_stops {P = P} {S = S} o stops (x ∷ xs) [] {bytes} {r} {s} fits p none clear q place feature t =
    let two = took_split p in
    let e : bytes ≡ s = took_nothing P q in
    took_apart stops x two.first fits.0 place feature (subst (S place feature) (sym e) t)
each_stops {P = P} o stops (x ∷ xs) (y ∷ ys) {bytes} {r} {s} fits p none clear q place feature t =
    let a = took_split p in
    let b = took_split q in
    let same = took_alike o x y a.first b.first in
    each_stops o stops xs ys fits.1 a.second none clear (subst (λ l. Took (Each P ys) l s) (sym same.behind) b.second) place feature t

-- the next of so many things isn't there
pub each_fails : {X : Type 0} {P : X → Grammar} {Fits : X → Type 0} {S : Stop} → OneForm P → OneStop P Fits S → (count : ℕ) (done : List X) →
    {bytes rest : List ℕ} → length done < count → AllByRecursion Fits done → Took (Each P done) bytes rest →
    (e : Fault) → Fails (Any P) S rest e → Fails (Counted P count) (Among count P Fits S) bytes e
each_fails o stops count done {bytes} {rest} few fits p (Malformed left) f = let r = f.reason in record {
  reason = (
    omega (arith, r.0, ap length p.split, length-append p.front rest),
    record {
      none = λ after q.
          let more = each_goes_on o done q.spelled.0 (omega (arith, q.spelled.1)) p (record { front = q.front; split = q.split; spelled = q.spelled.2 }) in
          r.1.none more.0 more.1;
      nowhere = λ place feature a. each_stops o stops done a.done fits p r.1.none r.1.nowhere (took_behind place feature a.stops) a.stops.place feature a.stops.stops;
    },
  );
}
each_fails o stops count done {bytes} {rest} few fits p (Unsupported left feature) f = let r = f.reason in record {
  reason = record {
    place = length p.front + r.place;
    counted = omega (arith, r.counted, ap length p.split, length-append p.front rest);
    stops = record { done = done; fewer = few; fit = fits; stops = behind_took r.place feature p r.stops };
  };
}
each_fails o stops count done few fits p NoMemory f = record { reason = tt }

-- each more fits too
pub fits_more : {X : Type 0} (Fits : X → Type 0) (xs : List X) (x : X) → AllByRecursion Fits xs → Fits x → AllByRecursion Fits (xs ++ x ∷ [])
fits_more Fits [] x all one = (one, tt)
fits_more Fits (y ∷ ys) x all one = (all.0, fits_more Fits ys x all.1 one)

-- what depends on a thing that isn't there
pub dependent_first : {X : Type 0} {P : X → Grammar} (Q : X → Grammar) (T : X → Stop) {bytes : List ℕ} → (e : Fault) → Fails (Any P) Nowhere bytes e →
    Fails (λ front. (x : X) × (P x ⊳ Q x) front) (λ place feature l. (x : X) × Behind (P x) (T x) place feature l) bytes e
dependent_first {P = P} Q T (Malformed left) f = let r = f.reason in record {
  reason = (
    r.0,
    record {
      none = λ rest q. let two = took_split (record { front = q.front; split = q.split; spelled = q.spelled.1 }) in r.1.none two.mid (took_any P q.spelled.0 two.first);
      nowhere = λ place feature t. r.1.none t.1.rest (took_any P t.0 (took_behind place feature t.1));
    },
  );
}
dependent_first Q T (Unsupported left feature) f = absurd f.reason.stops
dependent_first Q T NoMemory f = record { reason = tt }

-- what depends on a thing that is
pub dependent_second : {X : Type 0} {P : X → Grammar} {bytes mid : List ℕ} → OneForm P → (x : X) (Q : X → Grammar) (T : X → Stop) → Took (P x) bytes mid →
    (e : Fault) → Fails (Q x) (T x) mid e →
    Fails (λ front. (y : X) × (P y ⊳ Q y) front) (λ place feature l. (y : X) × Behind (P y) (T y) place feature l) bytes e
dependent_second {bytes = bytes} {mid = mid} o x Q T p (Malformed left) f = let r = f.reason in record {
  reason = (
    omega (arith, r.0, ap length p.split, length-append p.front mid),
    record {
      none = λ rest q.
          let two = took_split (record { front = q.front; split = q.split; spelled = q.spelled.1 }) in
          let same = took_alike o x q.spelled.0 p two.first in
          r.1.none rest (subst (λ l. Took (Q x) l rest) (sym same.behind) (subst (λ y. Took (Q y) two.mid rest) (sym same.thing) two.second));
      nowhere = λ place feature t.
          let same = took_alike o x t.0 p (took_behind place feature t.1) in
          r.1.nowhere t.1.place feature (subst (λ l. T x t.1.place feature l) (sym same.behind) (subst (λ y. T y t.1.place feature t.1.rest) (sym same.thing) t.1.stops));
    },
  );
}
dependent_second {mid = mid} o x Q T p (Unsupported left feature) f = let r = f.reason in record {
  reason = record {
    place = length p.front + r.place;
    counted = omega (arith, r.counted, ap length p.split, length-append p.front mid);
    stops = (x, behind_took r.place feature p r.stops);
  };
}
dependent_second o x Q T p NoMemory f = record { reason = tt }

-- a vector
vector_counted : {X : Type 0} (P : X → Grammar) (front : List ℕ) → Any (Vector P) front → (count : ℕ) × (Unsigned 32 count ⊳ Counted P count) front
vector_counted P front any =
    let p = any.1 in (length any.0, record { front = p.front; rest = p.rest; split = p.split; first = p.first; second = (any.0, refl, p.second) })

abbrev pub InCounted : {X : Type 0} → (X → Grammar) → (X → Type 0) → Stop → Stop
InCounted P Fits S place feature l = (count : ℕ) × Behind (Unsigned 32 count) (Among count P Fits S) place feature l

pub vector_fails : {X : Type 0} (P : X → Grammar) (Fits : X → Type 0) (S : Stop) {bytes : List ℕ} → (e : Fault) →
    Fails (λ front. (count : ℕ) × (Unsigned 32 count ⊳ Counted P count) front) (λ place feature l. (count : ℕ) × Behind (Unsigned 32 count) (Among count P Fits S) place feature l) bytes e →
    Fails (Any (Vector P)) (InVector P Fits S) bytes e
vector_fails P Fits S e f = fails_map (vector_counted P) (λ place feature t. t) (λ place feature t. t) e f

pub took_vector : {X : Type 0} (P : X → Grammar) (xs : List X) (count : ℕ) {bytes mid rest : List ℕ} → Took (Unsigned 32 count) bytes mid → length xs ≡ count → Took (Each P xs) mid rest →
    Took (Vector P xs) bytes rest
took_vector P xs count {bytes} {mid} p counted q = took_then (subst (λ n. Took (Unsigned 32 n) bytes mid) (sym counted) p) q

-- as many things end in one place
pub each_end : {X : Type 0} {P : X → Grammar} → OneForm P → (xs ys : List X) → length xs ≡ length ys → {bytes r s : List ℕ} →
    Took (Each P xs) bytes r → Took (Each P ys) bytes s → r ≡ s
each_end {P = P} o [] [] few p q = sym (took_nothing P p) ∙ took_nothing P q
each_end o [] (y ∷ ys) few p q = absurd (omega arith)
each_end o (x ∷ xs) [] few p q = absurd (omega arith)
each_end {P = P} o (x ∷ xs) (y ∷ ys) few {bytes} {r} {s} p q =
    let a = took_split p in
    let b = took_split q in
    let same = took_alike o x y a.first b.first in
    each_end o xs ys (omega arith) a.second (subst (λ l. Took (Each P ys) l s) (sym same.behind) b.second)

pub vector_end : {X : Type 0} {P : X → Grammar} → OneForm (Unsigned 32) → OneForm P → OneEnd (Any (Vector P))
vector_end {P = P} number o = record {
  same = λ bytes r s p q.
      let a = took_split (record { front = p.front; split = p.split; spelled = p.spelled.1 }) in
      let b = took_split (record { front = q.front; split = q.split; spelled = q.spelled.1 }) in
      let same = took_alike number (length p.spelled.0) (length q.spelled.0) a.first b.first in
      each_end o p.spelled.0 q.spelled.0 same.thing a.second (subst (λ l. Took (Each P q.spelled.0) l s) (sym same.behind) b.second);
}

-- nothing stops in things that were read
pub each_apart : {X : Type 0} {P : X → Grammar} {Fits : X → Type 0} {S : Stop} → OneForm P → OneStop P Fits S → (xs ys : List X) → length ys < length xs → {bytes r s : List ℕ} →
    AllByRecursion Fits xs → Took (Each P xs) bytes r → Took (Each P ys) bytes s → (place : ℕ) (feature : Feature) → ¬ S place feature s
each_apart o stops [] ys few fits p q place feature t = absurd (omega arith)
each_apart {P = P} {S = S} o stops (x ∷ xs) [] few fits p q place feature t =
    let two = took_split p in took_apart stops x two.first fits.0 place feature (subst (S place feature) (sym (took_nothing P q)) t)
each_apart {P = P} o stops (x ∷ xs) (y ∷ ys) few {bytes} {r} {s} fits p q place feature t =
    let a = took_split p in
    let b = took_split q in
    let same = took_alike o x y a.first b.first in
    each_apart o stops xs ys (omega arith) fits.1 a.second (subst (λ l. Took (Each P ys) l s) (sym same.behind) b.second) place feature t

pub vector_apart : {X : Type 0} {P : X → Grammar} {Fits : X → Type 0} {S : Stop} {bytes rest : List ℕ} → OneForm (Unsigned 32) → OneForm P → OneStop P Fits S → (xs : List X) →
    AllByRecursion Fits xs → Took (Vector P xs) bytes rest → (place : ℕ) (feature : Feature) → ¬ InVector P Fits S place feature bytes
vector_apart {P = P} number o stops xs fits p place feature t =
    let two = took_split p in
    let b = took_behind place feature t.1 in
    let among = t.1.stops in
    let same = took_alike number (length xs) t.0 two.first b in
    each_apart o stops xs among.done (omega (arith, among.fewer, same.thing)) fits two.second
    (subst (λ l. Took (Each P among.done) l among.stops.rest) (sym same.behind) (took_behind t.1.place feature among.stops)) among.stops.place feature among.stops.stops
