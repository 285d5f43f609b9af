-- Files that a map holds.
use Rattle.std.proofs.Common.{◌≡◌, ◌∙◌, ℕ, List, [], ◌∷◌, Option, Some, None, refl, cond, true, false, String, Vec, map}
use Rattle.std.specs.Option.{option_map}
use Rattle.std.specs.BTreeMap.{is_at}
use Rattle.std.specs.Map.{lookup}
use Rattle.std.specs.Ordering.{nat_cmp, is_eq}
use Rattle.std.specs.Cmp.Lexicographic.{slice_cmp, nat_list_cmp_total}
use Rattle.std.specs.FinMap.{find, from_entries, get-from_entries}
use Rattle.std.specs.declared.alloc.Global.{Global}
use Rattle.std.specs.String.{string_bytes}
use Rattle.hph_src.specs.Files.{file_at, files_of, path_cmp}

-- the path and the bytes of a map's entry
abbrev file_of : String Global × Vec ℕ Global → List ℕ × List ℕ
file_of entry = (string_bytes entry.0, entry.1.items)

-- what a map's look-up finds at a path
abbrev found_at : List (String Global × Vec ℕ Global) → List ℕ → Option (List ℕ)
found_at entries path = option_map (λ v. v.items) (lookup (is_at (λ k. slice_cmp nat_cmp path (string_bytes k))) entries)

-- the first of the entries' files at a path is what the look-up finds
find-map : (entries : List (String Global × Vec ℕ Global)) (path : List ℕ) →
    find path_cmp path (map file_of entries) ≡ found_at entries path
find-map [] path = refl
find-map (e ∷ entries) path =
    elim (is_eq (path_cmp path (string_bytes e.0))) as (λ here.
    cond here (Some e.1.items) (find path_cmp path (map file_of entries))
    ≡ option_map (λ v. v.items) (cond here (Some e.1) (lookup (is_at (λ k. slice_cmp nat_cmp path (string_bytes k))) entries))) [
      | true ↦ refl
      | false ↦ find-map entries path
    ]

-- the file at a path is what the look-up finds
pub file_at-files_of : (entries : List (String Global × Vec ℕ Global)) (path : List ℕ) →
    file_at (files_of entries) path ≡ found_at entries path
file_at-files_of entries path = get-from_entries nat_list_cmp_total (map file_of entries) path ∙ find-map entries path

pub ruleset file_rules = (file_at-files_of)

-- two files, at the paths a and b
abbrev two_files : List (List ℕ × List ℕ)
two_files = (97 ∷ [], 1 ∷ []) ∷ (98 ∷ [], 2 ∷ 3 ∷ []) ∷ []

file_at_b : file_at (from_entries two_files) (98 ∷ []) ≡ Some (2 ∷ 3 ∷ [])
file_at_b = get-from_entries nat_list_cmp_total two_files (98 ∷ [])

no_file_at_ab : file_at (from_entries two_files) (97 ∷ 98 ∷ []) ≡ None
no_file_at_ab = get-from_entries nat_list_cmp_total two_files (97 ∷ 98 ∷ [])
