-- What is read where a number is spelled is that number, with the length of that spelling.
use Rattle.std.proofs.Common.{◌≡◌, ℕ, List, ◌++◌, length, take, drop, Option, None, Some, refl, sym, ap, subst, ◌∙◌, append_assoc}
use Rattle.std.proofs.lemmas.List.{take_at, drop_at, take-append-drop, length-take-le}
use Rattle.hph_leb.specs.Reading.{IsReading}
use Rattle.hph_leb.proofs.Bytewise.{IsBytewise}
use Rattle.hph_leb.proofs.OneNumber.{one_number}

-- where the bytes begin with the spelling
spelled_is_read : {X : Type 0} {Spells : ℕ → X → List ℕ → Type 0} {join : ℕ → X → X} → IsBytewise Spells join →
    (bits : ℕ) (x : X) (bytes rest : List ℕ) (reading : Option (X × ℕ)) → Spells bits x bytes →
    IsReading (Spells bits) (bytes ++ rest) reading → reading ≡ Some (x, length bytes)
spelled_is_read {Spells = Spells} bytewise bits x bytes rest None spells none =
    absurd (none x (length bytes) (subst (Spells bits x) (sym (take_at bytes rest (length bytes) refl)) spells))
spelled_is_read bytewise bits x bytes rest (Some r) spells front =
    let same = one_number bytewise bits r.0 x (take r.1 (bytes ++ rest)) bytes (drop r.1 (bytes ++ rest)) rest front.1 spells (take-append-drop r.1 (bytes ++ rest)) in
    let count : r.1 ≡ length bytes = sym (length-take-le r.1 (bytes ++ rest) front.0) ∙ ap length same.1 in
    λ i. Some (same.0 i, count i)

-- where others stand before it
pub written_is_read : {X : Type 0} {Spells : ℕ → X → List ℕ → Type 0} {join : ℕ → X → X} → IsBytewise Spells join →
    (bits : ℕ) (x : X) (bytes front rest : List ℕ) (reading : Option (X × ℕ)) → Spells bits x bytes →
    IsReading (Spells bits) (drop (length front) (front ++ bytes ++ rest)) reading → reading ≡ Some (x, length bytes)
written_is_read {Spells = Spells} bytewise bits x bytes front rest reading spells reads =
    let from_front : drop (length front) (front ++ bytes ++ rest) ≡ bytes ++ rest = ap (drop (length front)) (append_assoc front bytes rest) ∙ drop_at front (bytes ++ rest) (length front) refl in
    spelled_is_read bytewise bits x bytes rest reading spells (subst (λ from. IsReading (Spells bits) from reading) from_front reads)
