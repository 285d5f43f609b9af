-- The module of a program is valid, linked and fits.
use Rattle.std.proofs.Common.{◌≤◌, ℕ, ◌+◌, ◌*◌, ◌^◌, List, [], ◌∷◌, length, refl, arith}
use Rattle.std.specs.List.{concat}
use Rattle.hph_wasm.specs.declared.types.ValType.TheVariants.{I32}
use Rattle.hph_wasm.specs.Validity.{IsSequence, Context}
use Rattle.hph_wasm.specs.ModuleValidity.{IsValid, IsSegment}
use Rattle.hph_wasm.specs.Instantiation.{SegmentsFit}
use Rattle.hph_wasm.specs.Run.{IsLinked}
use Rattle.hph_effects.specs.Effects.{php1}
use Rattle.std.specs.List.{AllByRecursion}
use Rattle.hph_lowm.specs.Layout.{pages_of, write_type, main_type, prints_from, segments_of, module_of}

few_pages : (bytes : ℕ) → bytes ≤ 2 ^ 21 → pages_of bytes ≤ 65536
unfolding pages_of
few_pages bytes small = omega arith

-- what prints texts takes nothing from the stack and leaves nothing there
prints_are_typed : (all : List (List ℕ)) (c : Context) (place : ℕ) (texts : List (List ℕ)) → IsSequence (module_of all) c (prints_from place texts) [] []
prints_are_typed all c place [] = refl
prints_are_typed all c place (text ∷ texts) = (
  I32 ∷ [],
  ([], refl, refl),
  (
    I32 ∷ I32 ∷ [],
    (I32 ∷ [], refl, refl),
    ([], (write_type, refl, ([], refl, refl)), prints_are_typed all c (place + length text) texts),
  ),
)

segments_are_valid : (texts : List (List ℕ)) → AllByRecursion (IsSegment (module_of texts)) (segments_of texts)
segments_are_valid [] = tt
segments_are_valid (text ∷ texts) = ((omega arith, ((I32 ∷ [], ([], refl, refl), refl), (tt, tt))), tt)

pub layout_is_valid : (texts : List (List ℕ)) → length (concat texts) ≤ 2 ^ 21 → IsValid (module_of texts)
layout_is_valid texts small = record {
  outside = record {
    types = (omega arith, (omega arith, tt));
    imports = (omega arith, tt);
    func_types = (omega arith, tt);
    tables = tt;
    one_table = omega arith;
    memories = ((few_pages (length (concat texts)) small, tt), tt);
    one_memory = omega arith;
    globals = tt;
    exports = (omega arith, tt);
    named_once = λ i j d less small same. omega arith;
    elements = tt;
    segments = segments_are_valid texts;
  };
  funcs = ((main_type, refl, prints_are_typed texts _ 0 texts), tt);
}

pub layout_is_linked : (texts : List (List ℕ)) → IsLinked php1 (module_of texts)
layout_is_linked texts = record { imports = ((write_type, refl, 0, refl), tt); main = (1, refl, refl) }

pub pages_are_enough : (bytes : ℕ) → bytes ≤ pages_of bytes * 65536
unfolding pages_of
pages_are_enough bytes = omega arith

segments_fit : (pages : ℕ) (texts : List (List ℕ)) → length (concat texts) ≤ pages * 65536 → AllByRecursion (λ segment. 0 + length segment.bytes ≤ pages * 65536) (segments_of texts)
segments_fit pages [] enough = tt
segments_fit pages (text ∷ texts) enough = (omega arith, tt)

pub layout_fits : (texts : List (List ℕ)) → SegmentsFit (module_of texts)
layout_fits [] = tt
layout_fits (text ∷ texts) = (let h = pages_are_enough (length (concat (text ∷ texts))) in omega arith, tt)
