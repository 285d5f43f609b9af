-- The files of all waves include no file that isn't among them.
use Rattle.std.proofs.Common.{◌≡◌, ◌∙◌, ◌⊎◌, inl, inr, ap, sym, subst, refl, ℕ, Bool, true, false, ◌||◌, List, [], ◌∷◌, ◌++◌, map, if◌then◌else◌}
use Rattle.std.proofs.lemmas.Slice.Eq.{bytes_eq-Decides}
use Rattle.std.specs.Prelude.{flat_map, bytes_eq}
use Rattle.std.specs.List.{list_any, AllZip}
use Rattle.hph_src.specs.Files.{Files}
use Rattle.hph_ast.specs.declared.program.File.{File}
use Rattle.hph_php.specs.Declarations.{path_of}
use Rattle.hph_php.specs.Includes.{normalised}
use Rattle.hph_program.specs.Sources.{IsSource, included}
use Rattle.hph_program.specs.Program.{Waves, last, wave, new_paths, next_wave}
use Rattle.hph_program.specs.Laws.{WavesAreClosed}

-- ---- tests of lists of paths

abbrev any : List ℕ → List (List ℕ) → Bool
any p ps = list_any (bytes_eq p) ps

or_assoc : (a b c : Bool) → (a || (b || c)) ≡ ((a || b) || c)
or_assoc true b c = refl
or_assoc false b c = refl

or_cases : (a b : Bool) → (a || b) ≡ true → (a ≡ true) ⊎ (b ≡ true)
or_cases true b h = inl refl
or_cases false b h = inr h

or_left : (a b : Bool) → a ≡ true → (a || b) ≡ true
or_left true b h = refl
or_left false b h = absurd (cc)

or_right : (a b : Bool) → b ≡ true → (a || b) ≡ true
or_right true b h = refl
or_right false b h = h

or_swap : (a b c : Bool) → ((a || b) || c) ≡ true → (b || (a || c)) ≡ true
or_swap true true c h = refl
or_swap true false c h = refl
or_swap false true c h = refl
or_swap false false c h = h

any_append : (p : List ℕ) (xs ys : List (List ℕ)) → any p (xs ++ ys) ≡ (any p xs || any p ys)
any_append p [] ys = refl
any_append p (x ∷ xs) ys = (λ i. bytes_eq p x || any_append p xs ys i) ∙ or_assoc (bytes_eq p x) (any p xs) (any p ys)

includes_append : (fs gs : List File) → flat_map included (fs ++ gs) ≡ flat_map included fs ++ flat_map included gs
includes_append [] gs = refl
includes_append (f ∷ fs) gs = (λ i. included f ++ includes_append fs gs i) ∙ sym (append_assoc (included f) (flat_map included fs) (flat_map included gs))
  where
    append_assoc : (xs ys zs : List (List ℕ)) → (xs ++ ys) ++ zs ≡ xs ++ (ys ++ zs)
    append_assoc [] ys zs = refl
    append_assoc (x ∷ xs) ys zs = λ i. x ∷ append_assoc xs ys zs i

paths_append : (fs gs : List File) → map path_of (fs ++ gs) ≡ map path_of fs ++ map path_of gs
paths_append [] gs = refl
paths_append (f ∷ fs) gs = λ i. path_of f ∷ paths_append fs gs i

append_nil : (xs : List (List ℕ)) → xs ++ [] ≡ xs
append_nil [] = refl
append_nil (x ∷ xs) = λ i. x ∷ append_nil xs i

-- ---- a path that isn't known is new

covered : (known ps : List (List ℕ)) (p : List ℕ) → any p ps ≡ true → (any p known || any p (new_paths known ps)) ≡ true
covered known [] p h = absurd (cc)
covered known (q ∷ qs) p h = by_known (λ k. covered k qs p) (any q known) refl (or_cases (bytes_eq p q) (any p qs) h)
  where
    by_known : ((k : List (List ℕ)) → any p qs ≡ true → (any p k || any p (new_paths k qs)) ≡ true) → (b : Bool) → any q known ≡ b → (bytes_eq p q ≡ true) ⊎ (any p qs ≡ true) →
        (any p known || any p (if b then new_paths known qs else q ∷ new_paths (q ∷ known) qs)) ≡ true
    by_known behind true e (inl same) = or_left (any p known) (any p (new_paths known qs))
        (subst (λ x. any x known ≡ true) (sym ((bytes_eq-Decides p q).0 same)) e)
    by_known behind true e (inr later) = behind known later
    by_known behind false e (inl same) = or_right (any p known) (bytes_eq p q || any p (new_paths (q ∷ known) qs))
        (or_left (bytes_eq p q) (any p (new_paths (q ∷ known) qs)) same)
    by_known behind false e (inr later) = or_swap (bytes_eq p q) (any p known) (any p (new_paths (q ∷ known) qs)) (behind (q ∷ known) later)

-- ---- waves

paths_of_sources : (files : Files) (paths : List (List ℕ)) (fs : List File) → AllZip (IsSource files) paths fs → map path_of fs ≡ paths
paths_of_sources files [] [] a = refl
paths_of_sources files [] (f ∷ fs) a = absurd a
paths_of_sources files (p ∷ ps) [] a = absurd a
paths_of_sources files (p ∷ ps) (f ∷ fs) a = λ i. a.0.is_at i ∷ paths_of_sources files ps fs a.1 i

-- what was read includes what was read or comes next
abbrev LeadsTo : List File → List (List ℕ) → Type 0
LeadsTo read paths = (p : List ℕ) → any p (flat_map included read) ≡ true → any p (map path_of read ++ paths) ≡ true

next_leads : (files : Files) (read fs : List File) (paths : List (List ℕ)) → AllZip (IsSource files) paths fs →
    LeadsTo read paths → LeadsTo (read ++ fs) (next_wave (read ++ fs) fs)
next_leads files read fs paths a leads p h = by_file (or_cases (any p (flat_map included read)) (any p (flat_map included fs))
    (sym (any_append p (flat_map included read) (flat_map included fs)) ∙ sym (ap (any p) (includes_append read fs)) ∙ h))
  where
    by_file : (any p (flat_map included read) ≡ true) ⊎ (any p (flat_map included fs) ≡ true) →
        any p (map path_of (read ++ fs) ++ next_wave (read ++ fs) fs) ≡ true
    by_file (inl before) = any_append p (map path_of (read ++ fs)) (next_wave (read ++ fs) fs)
        ∙ or_left (any p (map path_of (read ++ fs))) (any p (next_wave (read ++ fs) fs)) (ap (any p) all_paths ∙ leads p before)
      where
        all_paths : map path_of (read ++ fs) ≡ map path_of read ++ paths
        all_paths = paths_append read fs ∙ (λ i. map path_of read ++ paths_of_sources files paths fs a i)
    by_file (inr here) = any_append p (map path_of (read ++ fs)) (next_wave (read ++ fs) fs)
        ∙ covered (map path_of (read ++ fs)) (flat_map included fs) p here

closed : {files : Files} {read all : List File} {paths : List (List ℕ)} → Waves files read paths all → LeadsTo read paths → LeadsTo all []
closed last leads = leads
closed {files} {read} (wave {path = path} {paths = paths} fs a w) leads = closed w (next_leads files read fs (path ∷ paths) a leads)

pub waves_are_closed : WavesAreClosed
waves_are_closed files main all w p h = sym (ap (any p) (append_nil (map path_of all))) ∙ closed w nothing_read p h
  where
    nothing_read : LeadsTo [] (normalised main ∷ [])
    nothing_read q e = absurd (cc)
