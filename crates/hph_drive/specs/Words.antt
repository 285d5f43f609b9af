-- The words of a command line behind the program's name: this project's own.
use Rattle.std.specs.Prelude.{◌≡◌, ℕ, List, [], ◌∷◌, Option, Some, None, Bool, false, if◌then◌else◌, codes, nat_eq, refl}
use Rattle.std.specs.Option.{option_and_then, option_map}
use Rattle.std.specs.Str.{bytes_eq}

-- a word that begins with `-` and is longer than that asks for an option
abbrev pub is_option : List ℕ → Bool
is_option [] = false
is_option (first ∷ []) = false
is_option (first ∷ second ∷ bytes) = nat_eq first 45

-- The positional words, from left to right: behind a word `--` all words are positional; before it an option is wrong, since no command has one.
abbrev pub positional : List (List ℕ) → Option (List (List ℕ))
positional [] = Some []
positional (word ∷ words) =
    if bytes_eq word (codes "--") then Some words
    else (if is_option word then None else option_map (λ others. word ∷ others) (positional words))

-- the one positional word of a command that takes one
abbrev pub only : List (List ℕ) → Option (List ℕ)
only (word ∷ []) = Some word
only _ = None

-- MAIN, where the words are `build` and one positional word
abbrev pub main_of : List (List ℕ) → Option (List ℕ)
main_of [] = None
main_of (command ∷ words) = if bytes_eq command (codes "build") then option_and_then only (positional words) else None

-- `build m.php`, `build -- -m.php` and `build -` name files
names_a_file : main_of (codes "build" ∷ codes "m.php" ∷ []) ≡ Some (codes "m.php")
names_a_file = refl

names_an_option_behind_the_mark : main_of (codes "build" ∷ codes "--" ∷ codes "-m.php" ∷ []) ≡ Some (codes "-m.php")
names_an_option_behind_the_mark = refl

names_a_dash : main_of (codes "build" ∷ codes "-" ∷ []) ≡ Some (codes "-")
names_a_dash = refl

-- no words, `build` alone, another command, an option and two files are wrong
no_words_are_wrong : main_of [] ≡ None
no_words_are_wrong = refl

no_file_is_wrong : main_of (codes "build" ∷ []) ≡ None
no_file_is_wrong = refl

another_command_is_wrong : main_of (codes "frob" ∷ codes "m.php" ∷ []) ≡ None
another_command_is_wrong = refl

an_option_is_wrong : main_of (codes "build" ∷ codes "--workers" ∷ codes "2" ∷ codes "m.php" ∷ []) ≡ None
an_option_is_wrong = refl

two_files_are_wrong : main_of (codes "build" ∷ codes "m.php" ∷ codes "n.php" ∷ []) ≡ None
two_files_are_wrong = refl
