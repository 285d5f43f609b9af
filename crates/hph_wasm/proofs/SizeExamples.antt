-- What stands behind the end of what a size counts is never left out; made by hand from the Core Specification 1.0, 5.5.
use Rattle.std.proofs.Common.{◌≡◌, ◌∙◌, inl, inr, ℕ, List, [], ◌∷◌, ◌++◌, refl, sym, ap, subst, arith, None}
use Rattle.hph_wasm.specs.Grammar.{Each, MemoryType}
use Rattle.hph_wasm.specs.Unsupported.{LimitsByte, IsSmallMemory, InVector, InSized, StopsMemoryType}
use Rattle.hph_wasm.specs.declared.types.Limits.{Limits}
use Rattle.hph_wasm.specs.declared.feature.Feature.{Feature}
use Rattle.hph_wasm.proofs.FormatExamples.{then, one_byte}
use Rattle.hph_wasm.proofs.Leb128Laws.{unsigned_form}
use Rattle.hph_wasm.proofs.OneSection.{memory_type_form}
use Rattle.hph_wasm.proofs.OneStop.{sized_apart, split_front}
use Rattle.hph_wasm.proofs.StopParts.{memory_type_stops}

-- a memory of one page
abbrev one_page : Limits
one_page = record { min = 1; max = None }

one_page_spelled : MemoryType one_page (0x00 ∷ 0x01 ∷ [])
one_page_spelled = then (0x00 ∷ []) (0x01 ∷ []) refl (one_byte 1 (omega arith))

-- nothing stops in no bytes
nothing_in_none : (at : ℕ) (feature : Feature) → StopsMemoryType at feature [] → ⊥
nothing_in_none at feature stop = by_byte stop.before
  where
    by_byte : LimitsByte stop.front → ⊥
    by_byte (inl is) = let flat : [] ≡ 0x00 ∷ stop.rest = stop.split ∙ ap (λ l. l ++ stop.rest) is in cc
    by_byte (inr is) = let flat : [] ≡ 0x01 ∷ stop.rest = stop.split ∙ ap (λ l. l ++ stop.rest) is in cc

none : (f r : List ℕ) → f ++ r ≡ [] → r ≡ []
none [] r e = e
none (x ∷ f) r e = cc

-- one memory where two are counted: no number of pages stands behind it
in_content : (at : ℕ) (feature : Feature) → InVector MemoryType IsSmallMemory StopsMemoryType at feature (0x02 ∷ 0x00 ∷ 0x01 ∷ []) → ⊥
in_content at feature (count, stop) =
    let a = (unsigned_form 32).alike 2 count (0x02 ∷ []) stop.front (0x00 ∷ 0x01 ∷ []) stop.rest (one_byte 2 (omega arith)) stop.before
    stop.split in
    let b = stop.stops.stops in
    among stop.stops.done b.front b.rest b.place b.before (a.behind ∙ b.split) b.stops
  where
    among : (done : List Limits) (front rest : List ℕ) (place : ℕ) → Each MemoryType done front → 0x00 ∷ 0x01 ∷ [] ≡ front ++ rest →
        StopsMemoryType place feature rest → ⊥
    among [] front rest place p split here =
        memory_type_stops.apart one_page place feature (0x00 ∷ 0x01 ∷ []) [] one_page_spelled (omega arith)
        (subst (StopsMemoryType place feature) (sym (split ∙ ap (λ l. l ++ rest) p)) here)
    among (x ∷ more) front rest place p split here =
        let c = memory_type_form.alike one_page x (0x00 ∷ 0x01 ∷ []) p.front [] (p.rest ++ rest) one_page_spelled p.first
        (split ∙ split_front front rest p) in
        nothing_in_none place feature (subst (StopsMemoryType place feature) (none p.rest rest (sym c.behind)) here)

-- so whatever stands behind the section
behind_a_section : (at : ℕ) (feature : Feature) (rest : List ℕ) →
    InSized (InVector MemoryType IsSmallMemory StopsMemoryType) at feature (0x03 ∷ 0x02 ∷ 0x00 ∷ 0x01 ∷ rest) → ⊥
behind_a_section at feature rest stop = sized_apart (InVector MemoryType IsSmallMemory StopsMemoryType) at feature
    (0x03 ∷ 0x02 ∷ 0x00 ∷ 0x01 ∷ rest) (0x03 ∷ []) (0x02 ∷ 0x00 ∷ 0x01 ∷ []) rest refl (one_byte 3 (omega arith))
    (λ place. in_content place feature) stop
