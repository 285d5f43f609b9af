-- One segment of a path at a time.
use Rattle.std.specs.Prelude.{◌||◌, ℕ, Bool, List, [], ◌∷◌, map, if◌then◌else◌, codes, bytes_eq}
use Rattle.std.specs.Borrow.{Bor}
use Rattle.hph_php.specs.Includes.{step_back}

-- the texts of some borrowed texts
abbrev pub texts : List (Bor (List ℕ)) → List (List ℕ)
texts segments = map (λ s. s.now) segments

-- the segments that are kept once one more was read, the last first
abbrev pub after_segment : (rooted : Bool) → (before : List (List ℕ)) → List ℕ → List (List ℕ)
after_segment rooted before s =
    if bytes_eq s [] || bytes_eq s (codes ".") then before
    else (if bytes_eq s (codes "..") then step_back rooted before else s ∷ before)
