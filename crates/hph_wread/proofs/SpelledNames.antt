-- Reading bytes behind their number, and names.
use Rattle.std.proofs.Common.{◌≡◌, ◌<◌, ◌≤◌, ◌∙◌, ℕ, List, ◌++◌, length, take, drop, refl, sym, ap, subst, arith, length-append, length-take, take-append-drop, length-drop, ◌-◌}
use Rattle.std.proofs.lemmas.List.{take_all}
use Rattle.std.specs.Prelude.{IsUtf8}
use Rattle.hph_wasm.specs.Leb128.{Unsigned}
use Rattle.hph_wasm.specs.Grammar.{Exactly, Bytes, Named}
use Rattle.hph_wasm.specs.OneWay.{OneForm}
use Rattle.hph_wasm.specs.Unsupported.{Any, Nowhere}
use Rattle.hph_wread.specs.declared.fault.Fault.{Fault}
use Rattle.hph_wread.specs.declared.fault.Fault.TheVariants.{Malformed}
use Rattle.hph_wread.specs.Reading.{Took, Fails}
use Rattle.hph_wread.proofs.Combinators.{took_then, took_split, fails_map, plain_first, Anything}
use Rattle.hph_wread.proofs.Vectors.{took_alike}

-- their number isn't there
pub bytes_number : {bytes : List ℕ} → (e : Fault) → Fails (Any (Unsigned 32)) Nowhere bytes e → Fails (Any Bytes) Nowhere bytes e
bytes_number e f = fails_map
    (λ front p. let q = p.1 in record { front = q.front; rest = q.rest; split = q.split; first = (length p.0, q.first, tt); second = tt })
    (λ place feature n. n) (λ place feature n. n) e (plain_first Anything e f)

exactly_rest : {these bytes rest : List ℕ} → Took (Exactly these) bytes rest → bytes ≡ these ++ rest
exactly_rest {rest = rest} p = p.split ∙ ap (λ l. l ++ rest) p.spelled

-- fewer stand there
pub bytes_short : {bytes mid : List ℕ} → OneForm (Unsigned 32) → (count : ℕ) → Took (Unsigned 32 count) bytes mid → length mid < count →
    Fails (Any Bytes) Nowhere bytes (Malformed (length mid))
bytes_short {bytes} {mid} o count p short = record {
  reason = (
    omega (arith, ap length p.split, length-append p.front mid),
    record {
      none = λ rest q.
          let these = q.spelled.0 in
          let two = took_split (record { front = q.front; split = q.split; spelled = q.spelled.1 }) in
          let same = took_alike o count (length these) p two.first in
          let split : mid ≡ these ++ rest = same.behind ∙ exactly_rest two.second in
          omega (arith, same.thing, ap length split, length-append these rest);
      nowhere = λ place feature n. n;
    },
  );
}

-- as many stand there
pub bytes_took : {bytes mid : List ℕ} → (count : ℕ) → Took (Unsigned 32 count) bytes mid → count ≤ length mid → Took (Bytes (take count mid)) bytes (take (length mid - count) (drop count mid))
bytes_took {bytes} {mid} count p enough =
    let counted : length (take count mid) ≡ count = omega (arith, length-take count mid) in
    let rest : take (length mid - count) (drop count mid) ≡ drop count mid = take_all (length mid - count) (drop count mid) (omega (arith, length-drop count mid)) in
    took_then (subst (λ n. Took (Unsigned 32 n) bytes mid) (sym counted) p)
    (rw rest (record { front = take count mid; split = sym (take-append-drop count mid); spelled = refl }))

-- they aren't there
pub name_bytes : {bytes : List ℕ} → (e : Fault) → Fails (Any Bytes) Nowhere bytes e → Fails (Any Named) Nowhere bytes e
name_bytes e f = fails_map (λ front p. (p.0, p.1.1, tt)) (λ place feature n. n) (λ place feature n. n) e f

-- they aren't UTF-8
pub name_invalid : {bytes rest : List ℕ} → OneForm Bytes → (these : List ℕ) → Took (Bytes these) bytes rest → ¬ IsUtf8 these → Fails (Any Named) Nowhere bytes (Malformed (length rest))
name_invalid {bytes} {rest} o these p invalid = record {
  reason = (
    omega (arith, ap length p.split, length-append p.front rest),
    record {
      none = λ after q.
          let same = took_alike o these q.spelled.0 p (record { front = q.front; split = q.split; spelled = q.spelled.1.1 }) in
          invalid (subst IsUtf8 (sym same.thing) q.spelled.1.0);
      nowhere = λ place feature n. n;
    },
  );
}

pub name_took : {bytes rest : List ℕ} → (these name : List ℕ) → Took (Bytes these) bytes rest → IsUtf8 these → name ≡ these → Took (Named name) bytes rest
name_took {bytes} {rest} these name p valid is =
    let named : Took (Named these) bytes rest = record { front = p.front; split = p.split; spelled = (valid, p.spelled) } in
    subst (λ l. Took (Named l) bytes rest) (sym is) named
