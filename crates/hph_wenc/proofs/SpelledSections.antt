-- Sections that are written, each with a higher number than those before it.
use Rattle.std.proofs.Common.{◌≡◌, ◌<◌, ℕ, ◌^◌, List, [], ◌∷◌, ◌++◌, length, true, false, cond, refl, ap, sym, subst, arith, ◌∙◌}
use Rattle.std.specs.Prelude.{nat_eq, MatchBool}
use Rattle.std.specs.List.{AllByRecursion}
use Rattle.hph_wasm.specs.Leb128.{u32_bytes}
use Rattle.hph_wasm.specs.Grammar.{Grammar, Each, Vector}
use Rattle.hph_wasm.specs.ModuleGrammar.{RawSection, BeginsWithName, without_custom, Section, NoSections}
use Rattle.hph_wasm.specs.Spelling.{vector_bytes, section_bytes}
use Rattle.hph_wenc.proofs.NumberLaws.{NumbersAreSpelled}
use Rattle.hph_wenc.proofs.SpelledParts.{both, Spelled, bytes_spelled, vector_spelled}
use Rattle.hph_wenc.proofs.Vectors.{rest_short}
use Rattle.hph_wenc.proofs.ShortSections.{IsShort}

-- the numbers of these sections are above this one
abbrev pub AllAbove : ℕ → List (ℕ × List ℕ) → Type 0
AllAbove id sections = AllByRecursion (λ section. id < section.0) sections

-- bytes of sections with numbers above this one, of which this holds
pub record Written (id : ℕ) (Inside : List (ℕ × List ℕ) → Type 0) (bytes : List ℕ) : Type 0 where
  pub sections : List (ℕ × List ℕ)
  pub stand : Each RawSection sections bytes
  pub above : AllAbove id sections
  pub inside : Inside sections

-- numbers above one are above a lower one
AllAbove-below : (lower id : ℕ) (sections : List (ℕ × List ℕ)) → lower < id → AllAbove id sections → AllAbove lower sections
AllAbove-below lower id [] less all = tt
AllAbove-below lower id (section ∷ sections) less all = (omega (arith, all.0), AllAbove-below lower id sections less all.1)

-- no section is a section of its own kind
no_section : {X : Type 0} (id : ℕ) (P : X → Grammar) (next : List (ℕ × List ℕ) → Type 0) (sections : List (ℕ × List ℕ)) → AllAbove id sections → next sections → Section id P [] next sections
no_section id P next [] all inside = (refl, inside)
no_section {X = X} id P next (section ∷ sections) all inside =
    let nothing : List X = [] in
    subst (λ here. MatchBool here (Vector P nothing section.1 × next sections) ((nothing ≡ nothing) × next (section ∷ sections))) (sym (apart section.0 id all.0)) (refl, inside)
  where
    apart : (m n : ℕ) → n < m → nat_eq m n ≡ false
    apart m n less = grind arith

-- there is nothing behind the last section
pub written_end : (id : ℕ) → Written id NoSections []
written_end id = record { sections = []; stand = refl; above = tt; inside = refl }

-- a section before others, unless it has nothing
pub written_section : NumbersAreSpelled → {X : Type 0} (lower id : ℕ) (P : X → Grammar) (f : X → List ℕ) (Fits : X → Type 0) (next : List (ℕ × List ℕ) → Type 0) (xs : List X) (bytes : List ℕ)
    → Spelled P f Fits → AllByRecursion Fits xs → IsShort id f xs → lower < id → Written id next bytes → Written lower (Section id P xs next) (section_bytes id f xs ++ bytes)
written_section numbers lower id P f Fits next [] bytes one all short less rest =
    record { sections = rest.sections; stand = rest.stand; above = AllAbove-below lower id rest.sections less rest.above; inside = no_section id P next rest.sections rest.above rest.inside }
written_section numbers lower id P f Fits next (x ∷ xs) bytes one all short less rest =
    let content = vector_bytes f (x ∷ xs) in
    let few : length content < 2 ^ 32 = rest_short (u32_bytes (length content)) content (rest_short (id ∷ []) _ short.short) in
    record {
      sections = (id, content) ∷ rest.sections;
      stand = both (section_bytes id f (x ∷ xs)) bytes (both (id ∷ []) _ refl (bytes_spelled numbers content few)) rest.stand;
      above = (less, AllAbove-below lower id rest.sections less rest.above);
      inside = subst (λ here. MatchBool here (Vector P (x ∷ xs) content × next rest.sections) ((x ∷ xs ≡ []) × next ((id, content) ∷ rest.sections))) (sym (same id))
          (vector_spelled numbers P f Fits one (x ∷ xs) all short.few few, rest.inside);
    }
  where
    same : (n : ℕ) → nat_eq n n ≡ true
    same n = grind arith

-- sections above 0 are none of them custom
pub without_custom-above : (sections : List (ℕ × List ℕ)) → AllAbove 0 sections → without_custom sections ≡ sections
without_custom-above [] all = refl
without_custom-above (section ∷ sections) all =
    ap (λ custom. cond custom (without_custom sections) (section ∷ without_custom sections)) (positive section.0 all.0) ∙ ap (λ rest. section ∷ rest) (without_custom-above sections all.1)
  where
    positive : (n : ℕ) → 0 < n → nat_eq n 0 ≡ false
    positive n more = grind arith

-- so no custom one lacks a name
pub custom_named : (sections : List (ℕ × List ℕ)) → AllAbove 0 sections → AllByRecursion (λ section. section.0 ≡ 0 → BeginsWithName section.1) sections
custom_named [] all = tt
custom_named (section ∷ sections) all = (λ custom. absurd (omega (arith, all.0, custom)), custom_named sections all.1)
