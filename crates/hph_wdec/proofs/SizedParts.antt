-- Reading what stands behind its size.
use Rattle.std.proofs.Common.{◌≡◌, ◌∙◌, ℕ, ◌+◌, List, [], ◌++◌, length, refl, sym, ap, subst, arith, append_assoc, length-append}
use Rattle.std.specs.Prelude.{take}
use Rattle.std.proofs.lemmas.List.{append-nil}
use Rattle.hph_wasm.specs.Leb128.{Unsigned}
use Rattle.hph_wasm.specs.Grammar.{Grammar, Sized}
use Rattle.hph_wasm.specs.OneWay.{OneForm}
use Rattle.hph_wasm.specs.Unsupported.{Stop, Any, Nowhere, InSized}
use Rattle.hph_wasm.specs.declared.feature.Feature.{Feature}
use Rattle.hph_wread.specs.declared.fault.Fault.{Fault}
use Rattle.hph_wread.specs.declared.fault.Fault.TheVariants.{Malformed, Unsupported, NoMemory}
use Rattle.hph_wread.specs.Reading.{Took, Fails}
use Rattle.hph_wread.proofs.Combinators.{took_any, took_behind, fails_map, OneEnd}
use Rattle.hph_wread.proofs.Vectors.{took_alike}
use Rattle.hph_wasm.proofs.OneStop.{take_counted}
use Rattle.hph_wdec.specs.Sized.{StandsIn, moved_by}

-- the fault of a call stands in its bytes
pub stands_in : {P : Grammar} {S : Stop} {bytes : List ℕ} (e : Fault) → Fails P S bytes e → StandsIn bytes e
stands_in (Malformed left) f = f.reason.0
stands_in (Unsupported left feature) f = omega (arith, f.reason.counted)
stands_in NoMemory f = tt

-- the size at the head of the bytes
size_of : {P : Grammar} {bytes rest : List ℕ} (r : Took (Sized P) bytes rest) → Took (Unsigned 32 (length r.spelled.body)) bytes (r.spelled.body ++ rest)
size_of {rest = rest} r = let s = r.spelled in record { front = s.size; split = r.split ∙ ap (λ l. l ++ rest) s.split ∙ append_assoc s.size s.body rest; spelled = s.counted }

-- the size isn't there
pub sized_size : (P : Grammar) (S : Stop) {bytes : List ℕ} (e : Fault) → Fails (Any (Unsigned 32)) Nowhere bytes e →
    Fails (Sized P) (InSized S) bytes e
sized_size P S (Malformed left) f = let r = f.reason in record {
  reason = (
    r.0,
    record {
      none = λ rest q. let p = size_of q in r.1.none (q.spelled.body ++ rest) (took_any (Unsigned 32) (length q.spelled.body) p);
      nowhere = λ place feature t. r.1.none t.1.rest (took_any (Unsigned 32) t.0 (took_behind place feature t.1));
    },
  );
}
sized_size P S (Unsupported left feature) f = absurd f.reason.stops
sized_size P S NoMemory f = record { reason = tt }

-- the bytes that the size counts, or all where they are fewer, and those behind them
module _ {bytes behind inside : List ℕ} (rest : List ℕ) (o : OneForm (Unsigned 32)) (size : ℕ) (p : Took (Unsigned 32 size) bytes behind)
    (counted : inside ≡ take size behind) (whole : behind ≡ inside ++ rest) where
  -- what is spelled behind this size is spelled by these bytes
  same_inside : (P : Grammar) {after : List ℕ} → Took (Sized P) bytes after → P inside × (length inside ≡ size)
  same_inside P {after} r =
      let s = r.spelled in
      let a = took_alike o size (length s.body) p (size_of r) in
      let here : inside ≡ s.body = counted ∙ (λ i. take (a.thing i) (a.behind i)) ∙ take_counted s.body after in
      (subst P (sym here) s.inside, ap length here ∙ sym a.thing)

  -- and what stops behind it stops in these
  same_stop : (S : Stop) (place : ℕ) (feature : Feature) → InSized S place feature bytes → (before : ℕ) × S before feature inside
  same_stop S place feature (number, b) =
      let a = took_alike o size number p (took_behind place feature b) in
      let here : take number b.rest ≡ inside = (λ i. take (sym a.thing i) (sym a.behind i)) ∙ sym counted in
      (b.place, subst (S b.place feature) here b.stops)

  lengths : length bytes ≡ length p.front + (length inside + length rest)
  lengths = omega (arith, ap length p.split, length-append p.front behind, ap length whole, length-append inside rest)

  -- the thing isn't there
  pub sized_inside : (P : Grammar) (S : Stop) (e : Fault) → Fails P S inside e → Fails (Sized P) (InSized S) bytes (moved_by (length rest) e)
  sized_inside P S (Malformed left) f = let r = f.reason in record {
    reason = (
      omega (arith, r.0, lengths),
      record {
        none = λ after q. r.1.none [] (record { front = inside; split = sym (append-nil inside); spelled = (same_inside P q).0 });
        nowhere = λ place feature t. let s = same_stop S place feature t in r.1.nowhere s.0 feature s.1;
      },
    );
  }
  sized_inside P S (Unsupported left feature) f = let r = f.reason in record {
    reason = record {
      place = length p.front + r.place;
      counted = omega (arith, r.counted, lengths);
      stops = (
        size,
        record {
          front = p.front;
          rest = behind;
          split = p.split;
          before = p.spelled;
          place = r.place;
          counted = refl;
          stops = subst (S r.place feature) counted r.stops;
        },
      );
    };
  }
  sized_inside P S NoMemory f = record { reason = tt }

  -- the thing is there, and isn't all that the size counts
  pub sized_unfilled : (P : Grammar) (S : Stop) {after : List ℕ} → OneEnd P → ((place : ℕ) (feature : Feature) → ¬ S place feature inside) →
      Took P inside after → ¬ ((after ≡ []) × (length inside ≡ size)) → Fails (Sized P) (InSized S) bytes (Malformed (length after + length rest))
  sized_unfilled P S {after} one clear q differs = record {
    reason = (
      omega (arith, lengths, ap length q.split, length-append q.front after),
      record {
        none = λ next r.
            let same = same_inside P r in
            let all : Took P inside [] = record { front = inside; split = sym (append-nil inside); spelled = same.0 } in
            differs (one.same inside after [] q all, same.1);
        nowhere = λ place feature t. let s = same_stop S place feature t in clear s.0 feature s.1;
      },
    );
  }

  -- the thing is there, and is all
  pub sized_took : (P : Grammar) {after : List ℕ} → Took P inside after → (after ≡ []) × (length inside ≡ size) → Took (Sized P) bytes rest
  sized_took P {after} q filled =
      let all : q.front ≡ inside = sym (append-nil q.front) ∙ ap (λ l. q.front ++ l) (sym filled.0) ∙ sym q.split in
      record {
        front = p.front ++ inside;
        split = p.split ∙ ap (λ l. p.front ++ l) whole ∙ sym (append_assoc p.front inside rest);
        spelled = record {
          size = p.front;
          body = inside;
          split = refl;
          counted = subst (λ n. Unsigned 32 n p.front) (sym filled.1) p.spelled;
          inside = subst P all q.spelled;
        };
      }

-- a thing behind its size is something behind its size
any_sized : {X : Type 0} (P : X → Grammar) (front : List ℕ) → Any (λ x. Sized (P x)) front → Sized (Any P) front
any_sized P front p =
    let s = p.1 in record { size = s.size; body = s.body; split = s.split; counted = s.counted; inside = (p.0, s.inside, tt) }

pub sized_any : {X : Type 0} (P : X → Grammar) {S : Stop} {bytes : List ℕ} (e : Fault) → Fails (Sized (Any P)) S bytes e →
    Fails (Any (λ x. Sized (P x))) S bytes e
sized_any P e f = fails_map (any_sized P) (λ place feature t. t) (λ place feature t. t) e f
