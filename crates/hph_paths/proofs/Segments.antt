-- The segments of a path, one at a time.
use Rattle.std.proofs.Common.{◌≡◌, ◌==◌, slice_index, refl, sym, ap, ◌∙◌, ◌||◌, ℕ, List, [], ◌∷◌, ◌++◌, reverse, Bool, true, false, if◌then◌else◌, codes, bytes_eq}
use Rattle.std.specs.Borrow.{Bor}
use Rattle.std.specs.List.{flat_map, join_by}
use Rattle.std.proofs.lemmas.List.{reverse-reverse}
use Rattle.std.proofs.lemmas.Grind.{reverse_onto}
use Rattle.std.proofs.lemmas.Slice.Eq.{bytes_eq-Decides}
use Rattle.hph_php.specs.Includes.{kept, step_back, begins_with_slash, normalised}
use Rattle.hph_php.specs.StringFunctions.{explode, implode}
use Rattle.hph_paths.specs.Segments.{after_segment, texts}

-- a path is kept segment by segment
kept_by : (rooted : Bool) (before : List (List ℕ)) (s : List ℕ) (ss : List (List ℕ)) (passed back : Bool) →
    (if passed then kept rooted before ss else (if back then kept rooted (step_back rooted before) ss else kept rooted (s ∷ before) ss))
    ≡ kept rooted (if passed then before else (if back then step_back rooted before else s ∷ before)) ss
kept_by rooted before s ss true back = refl
kept_by rooted before s ss false true = refl
kept_by rooted before s ss false false = refl

pub kept_on : (rooted : Bool) (before : List (List ℕ)) (s : List ℕ) (ss : List (List ℕ)) →
    kept rooted before (s ∷ ss) ≡ kept rooted (after_segment rooted before s) ss
kept_on rooted before s ss = kept_by rooted before s ss (bytes_eq s [] || bytes_eq s (codes ".")) (bytes_eq s (codes ".."))

-- a segment that is kept stands behind the others
behind : (before : List (List ℕ)) (s : List ℕ) → before ++ s ∷ [] ≡ reverse (s ∷ reverse before)
behind before s = rw (reverse_onto (reverse before) s [], reverse-reverse before) refl

differs : (s t : List ℕ) → (s ≡ t → ⊥) → bytes_eq s t ≡ false
differs s t other = false_unless (bytes_eq s t) (λ is. other ((bytes_eq-Decides s t).0 is))
  where
    false_unless : (b : Bool) → (b ≡ true → ⊥) → b ≡ false
    false_unless true never = absurd (never refl)
    false_unless false never = refl

pub keeps_another : (rooted : Bool) (before : List (List ℕ)) (s : List ℕ) → (s ≡ [] → ⊥) → (s ≡ codes "." → ⊥) → (s ≡ codes ".." → ⊥) →
    before ++ s ∷ [] ≡ reverse (after_segment rooted (reverse before) s)
keeps_another rooted before s some here up =
    rw (differs s [] some, differs s (codes ".") here, differs s (codes "..") up) (behind before s)

-- ---- all segments

pub goes_on : (rooted : Bool) (old new : List (List ℕ)) (s rest more : List ℕ) (all : List (List ℕ)) →
    explode (codes "/") rest ≡ s ∷ explode (codes "/") more → new ≡ reverse (after_segment rooted (reverse old) s) →
    kept rooted (reverse old) (explode (codes "/") rest) ≡ all → kept rooted (reverse new) (explode (codes "/") more) ≡ all
goes_on rooted old new s rest more all cut taken so_far =
    ap (λ before. kept rooted (reverse before) (explode (codes "/") more)) taken
    ∙ (ap (λ before. kept rooted before (explode (codes "/") more)) (reverse-reverse (after_segment rooted (reverse old) s))
    ∙ (sym (kept_on rooted (reverse old) s (explode (codes "/") more))
    ∙ (ap (kept rooted (reverse old)) (sym cut) ∙ so_far)))

pub ends : (rooted : Bool) (old new : List (List ℕ)) (rest : List ℕ) (all : List (List ℕ)) →
    explode (codes "/") rest ≡ rest ∷ [] → new ≡ reverse (after_segment rooted (reverse old) rest) →
    kept rooted (reverse old) (explode (codes "/") rest) ≡ all → new ≡ all
ends rooted old new rest all cut taken so_far =
    taken ∙ (sym (kept_on rooted (reverse old) rest []) ∙ (ap (kept rooted (reverse old)) (sym cut) ∙ so_far))

-- ---- the whole path

spread_texts : (segments : List (Bor (List ℕ))) →
    flat_map (λ (s : Bor (List ℕ)). codes "/" ++ s.now) segments ≡ flat_map (λ t. codes "/" ++ t) (texts segments)
spread_texts [] = refl
spread_texts (s ∷ rest) = ap (λ bytes. codes "/" ++ s.now ++ bytes) (spread_texts rest)

pub joins_texts : (segments : List (Bor (List ℕ))) → join_by (λ (s : Bor (List ℕ)). s.now) (codes "/") segments ≡ implode (codes "/") (texts segments)
joins_texts [] = refl
joins_texts (s ∷ rest) = ap (λ bytes. s.now ++ bytes) (spread_texts rest)

pub is_rooted : (path : List ℕ) → (slice_index path 0 == 47) ≡ begins_with_slash path
is_rooted [] = refl
is_rooted (b ∷ bs) = refl

-- a path from its segments, with a slash in front where it has one
pub whole : (path joined : List ℕ) (rooted : Bool) (segments : List (Bor (List ℕ))) → rooted ≡ (slice_index path 0 == 47) →
    texts segments ≡ kept rooted [] (explode (codes "/") path) → joined ≡ join_by (λ (s : Bor (List ℕ)). s.now) (codes "/") segments →
    (if rooted then codes "/" else []) ++ joined ≡ normalised path
whole path joined rooted segments is_first are is_joined =
    rw (is_joined, joins_texts segments, are, is_first, is_rooted path) refl
