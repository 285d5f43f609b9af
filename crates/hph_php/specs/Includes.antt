-- Paths of files, and includes (PHP manual, include, include_once). A path is normalised by dropping empty and `.` segments and
-- cancelling `a/..`; a leading `/` stays, `..` at the root is dropped, and a leading `..` of a relative path stays. A literal
-- that doesn't begin with `/` is taken against the folder of the file that holds the include. This project's own.
use Rattle.std.specs.Prelude.{◌≡◌, ◌==◌, ◌&&◌, ◌||◌, ℕ, Bool, true, false, List, [], ◌∷◌, ◌++◌, reverse, position, Option, None, Some, if◌then◌else◌, codes, bytes_eq, slice_get}
use Rattle.std.specs.Option.{option_map_or, unwrap_or}
use Rattle.std.proofs.Common.{refl}
use Rattle.hph_ast.specs.declared.operator.IncludeForm.{IncludeForm}
use Rattle.hph_ast.specs.declared.operator.IncludeForm.TheVariants as form
use Rattle.hph_php.specs.Values.{Value, Null}
use Rattle.hph_php.specs.Conversions.{to_text}
use Rattle.hph_php.specs.StringFunctions.{explode, implode}
use Rattle.hph_php.specs.State.{is_entered, enter}
use Rattle.hph_php.specs.Answers.{Means, bind, first, give, nothing, change_heap, by_state, settle}
use Rattle.hph_php.specs.Declarations.{Codes}
use Rattle.hph_php.specs.World.{World, Context}
use Rattle.hph_php.specs.Targets.{Reading, Form, from_directory}

abbrev pub slash : List ℕ
slash = codes "/"

abbrev pub begins_with_slash : List ℕ → Bool
begins_with_slash [] = false
begins_with_slash (b ∷ bs) = b == 47

-- ---- normalised paths

-- `..` after the segments that are kept, the last first
abbrev pub step_back : Bool → List (List ℕ) → List (List ℕ)
step_back rooted [] = if rooted then [] else codes ".." ∷ []
step_back rooted (s ∷ ss) = if bytes_eq s (codes "..") then codes ".." ∷ s ∷ ss else ss

abbrev pub kept : Bool → List (List ℕ) → List (List ℕ) → List (List ℕ)
kept rooted before [] = reverse before
kept rooted before (s ∷ ss) =
    if bytes_eq s [] || bytes_eq s (codes ".") then kept rooted before ss
    else (if bytes_eq s (codes "..") then kept rooted (step_back rooted before) ss else kept rooted (s ∷ before) ss)

abbrev pub normalised : List ℕ → List ℕ
normalised path = (if begins_with_slash path then slash else []) ++ implode slash (kept (begins_with_slash path) [] (explode slash path))

-- ---- folders

-- what stands before the last `/`, if there is one
abbrev pub before_last : List ℕ → Option (List ℕ)
before_last [] = None
before_last (b ∷ bs) = if_later (before_last bs)
  where
    if_later : Option (List ℕ) → Option (List ℕ)
    if_later (Some front) = Some (b ∷ front)
    if_later None = if b == 47 then Some [] else None

-- the folder of a file: `.` for a path without `/`, and `/` for one whose only `/` is its first byte
abbrev pub folder : List ℕ → List ℕ
folder path = shown (before_last path)
  where
    shown : Option (List ℕ) → List ℕ
    shown None = codes "."
    shown (Some []) = slash
    shown (Some front) = front

-- ---- includes

abbrev pub current_path : Codes → ℕ → List ℕ
current_path program file = unwrap_or (slice_get program.paths file) []

-- what `__DIR__` is
abbrev pub directory_of : Codes → ℕ → List ℕ
directory_of program file = folder (current_path program file)

abbrev pub from_folder : Form → List ℕ → List ℕ → List ℕ
from_folder from_directory directory text = text
from_folder _ directory text = if begins_with_slash text then text else directory ++ slash ++ text

abbrev pub file_at : Codes → List ℕ → Option ℕ
file_at program path = position (bytes_eq path) program.paths

abbrev pub is_once : IncludeForm → Bool
is_once form.IncludeOnce = true
is_once form.RequireOnce = true
is_once _ = false

-- the _once forms enter only a file that wasn't entered
abbrev pub enter_file : World → Bool → ℕ → Means (Unit {0})
enter_file world once file = by_state (λ st. if once && is_entered file st.core.heap then nothing
    else first (change_heap (enter file)) (world.enter file))

-- an include is a whole statement, so nothing asks for its value; an accepted program has all files that it includes
abbrev pub include : World → Context → IncludeForm → Reading → Means Value
include world context form x = bind x.value (λ v. bind (settle (to_text v)) (λ text. first (enter_found text) (give Null)))
  where
    enter_found : List ℕ → Means (Unit {0})
    enter_found text = option_map_or (enter_file world (is_once form))
        (file_at context.program (normalised (from_folder x.form (directory_of context.program context.file) text))) nothing

-- ---- examples

paths : (normalised (codes "a/./b//../c") ≡ codes "a/c") × ((normalised (codes "/../x") ≡ codes "/x")
    × ((normalised (codes "../x/..") ≡ codes "..") × (normalised [] ≡ [])))
paths = (refl, (refl, (refl, refl)))

folders : (folder (codes "m.php") ≡ codes ".") × ((folder (codes "/m.php") ≡ codes "/") × (folder (codes "lib/a.php") ≡ codes "lib"))
folders = (refl, (refl, refl))
