-- A path more.
use Rattle.std.specs.Prelude.{◌≡◌, ℕ, Bool, true, false, ◌||◌, List, [], ◌∷◌, ◌++◌, refl, bytes_eq, if◌then◌else◌, String}
use Rattle.std.proofs.Common.{ap, sym, ◌∙◌}
use Rattle.std.specs.List.{list_any}
use Rattle.std.specs.String.{string_bytes, string_eq}
use Rattle.std.specs.declared.alloc.Global.{Global}
use Rattle.std.proofs.lemmas.List.{map-append, append-nil, append_assoc}
use Rattle.std.proofs.lemmas.List.Folds.{list_any-append}
use Rattle.indexmap.specs.IndexSet.{insert_key}
use Rattle.hph_program.specs.Program.{new_paths}
use Rattle.hph_wave.specs.Known.{known_after, spelled}

-- what one path more adds to others
abbrev behind : List (List ℕ) → List ℕ → List (List ℕ)
behind known path = if list_any (bytes_eq path) known then [] else path ∷ []

-- the order of known paths doesn't matter
moved : (path first : List ℕ) (known more : List (List ℕ)) → behind (first ∷ (known ++ more)) path ≡ behind (known ++ first ∷ more) path
moved path first known more =
    ap (λ (b : Bool). if b then [] else path ∷ [])
    (ap (λ b. bytes_eq path first || b) (list_any-append (bytes_eq path) known more)
    ∙ swapped (bytes_eq path first) (list_any (bytes_eq path) known) (list_any (bytes_eq path) more)
    ∙ sym (list_any-append (bytes_eq path) known (first ∷ more)))
  where
    swapped : (a b c : Bool) → (a || (b || c)) ≡ (b || (a || c))
    swapped true true c = refl
    swapped true false c = refl
    swapped false b c = refl

new_paths_more : (known met : List (List ℕ)) (path : List ℕ) → new_paths known (met ++ path ∷ []) ≡ new_paths known met ++ behind (known ++ new_paths known met) path
new_paths_more known [] path = ap (λ k. behind k path) (sym (append-nil known))
new_paths_more known (q ∷ met) path = either (new_paths_more known met path) (new_paths_more (q ∷ known) met path) (list_any (bytes_eq q) known)
  where
    either :
        new_paths known (met ++ path ∷ []) ≡ new_paths known met ++ behind (known ++ new_paths known met) path →
        new_paths (q ∷ known) (met ++ path ∷ []) ≡ new_paths (q ∷ known) met ++ behind (q ∷ (known ++ new_paths (q ∷ known) met)) path →
        (b : Bool) →
        (if b then new_paths known (met ++ path ∷ []) else q ∷ new_paths (q ∷ known) (met ++ path ∷ []))
        ≡ (if b then new_paths known met else q ∷ new_paths (q ∷ known) met)
        ++ behind (known ++ (if b then new_paths known met else q ∷ new_paths (q ∷ known) met)) path
    either same more true = same
    either same more false = ap (λ ps. q ∷ ps) (more
        ∙ ap (λ ps. new_paths (q ∷ known) met ++ ps) (moved path q known (new_paths (q ∷ known) met)))

-- all that are known once one more was met
known_after_more : (known met : List (List ℕ)) (path : List ℕ) →
    known_after known (met ++ path ∷ []) ≡ known_after known met ++ behind (known_after known met) path
known_after_more known met path =
    ap (λ ps. known ++ ps) (new_paths_more known met path)
    ∙ sym (append_assoc known (new_paths known met) (behind (known_after known met) path))

any_spelled : (path : String Global) (paths : List (String Global)) → list_any (string_eq path) paths ≡ list_any (bytes_eq (string_bytes path)) (spelled paths)
any_spelled path [] = refl
any_spelled path (p ∷ paths) = ap (λ b. bytes_eq (string_bytes path) (string_bytes p) || b) (any_spelled path paths)

inserted : (paths : List (String Global)) (path : String Global) → spelled (insert_key string_eq paths path) ≡ spelled paths ++ behind (spelled paths) (string_bytes path)
inserted paths path = either (list_any (string_eq path) paths) (list_any (bytes_eq (string_bytes path)) (spelled paths)) (any_spelled path paths)
  where
    either : (b c : Bool) → b ≡ c → spelled (if b then paths else paths ++ path ∷ []) ≡ spelled paths ++ (if c then [] else string_bytes path ∷ [])
    either true true e = sym (append-nil (spelled paths))
    either false false e = map-append string_bytes paths (path ∷ [])
    either true false e = cc
    either false true e = cc

-- a set of the paths that are known, with one more
pub set_more : (paths after : List (String Global)) (path : String Global) → after ≡ insert_key string_eq paths path → (known met : List (List ℕ)) →
    spelled paths ≡ known_after known met → spelled after ≡ known_after known (met ++ string_bytes path ∷ [])
set_more paths after path is known met h =
    ap spelled is ∙ inserted paths path ∙ ap (λ ps. ps ++ behind ps (string_bytes path)) h ∙ sym (known_after_more known met (string_bytes path))
