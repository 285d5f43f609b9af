-- Numbers at the head of bytes.
use Rattle.std.proofs.Common.{◌≡◌, ◌∙◌, ℕ, List, length, take, drop, refl, sym, ap, subst, arith, take-append-drop, length-drop, ◌-◌}
use Rattle.std.proofs.lemmas.List.{take_at, take_all}
use Rattle.hph_wasm.specs.Grammar.{Grammar}
use Rattle.hph_wasm.specs.Unsupported.{Any, Nowhere}
use Rattle.hph_leb.specs.Reading.{SpellsFront, SpellsNoFront}
use Rattle.hph_wread.specs.Reading.{Took, Fails}
use Rattle.hph_wread.specs.declared.fault.Fault.TheVariants.{Malformed}

-- so many bytes spell a value
pub took_count : {X : Type 0} (P : X → Grammar) (x : X) (bytes : List ℕ) (count : ℕ) → SpellsFront P bytes x count → Took (P x) bytes (take (length bytes - count) (drop count bytes))
took_count P x bytes count spells =
    let rest : take (length bytes - count) (drop count bytes) ≡ drop count bytes = take_all (length bytes - count) (drop count bytes) (omega (arith, length-drop count bytes)) in
    rw rest (record { front = take count bytes; split = sym (take-append-drop count bytes); spelled = spells.1 })

-- no number of bytes spells any
pub took_none : {X : Type 0} (P : X → Grammar) (bytes : List ℕ) → SpellsNoFront P bytes → Fails (Any P) Nowhere bytes (Malformed (length bytes))
took_none P bytes none = record {
  reason = (
    omega arith,
    record {
      none = λ rest p. none p.spelled.0 (length p.front) (subst (P p.spelled.0) (sym (ap (take (length p.front)) p.split ∙ take_at p.front rest (length p.front) refl)) p.spelled.1);
      nowhere = λ place feature n. n;
    },
  );
}
