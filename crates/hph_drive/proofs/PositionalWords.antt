-- The positional words of few and of many words.
use Rattle.std.proofs.Common.{◌≡◌, ◌≢◌, ◌<◌, ℕ, List, [], ◌∷◌, length, map, drop, get_or, Option, Some, None, Bool, true, false, cond, refl, ap, sym, arith, codes, String, ◌∙◌}
use Rattle.std.specs.Prelude.{string_bytes}
use Rattle.std.specs.Option.{option_and_then, option_map}
use Rattle.std.specs.Str.{bytes_eq}
use Rattle.std.specs.declared.alloc.Global.{Global}
use Rattle.hph_drive.specs.Words.{is_option, positional, only, main_of}

-- the words are one, or two
one_word : {X : Type 0} (xs : List X) (x : X) → length xs ≡ 1 → x ≡ get_or xs 0 x → xs ≡ x ∷ []
one_word [] x long first = absurd (omega arith)
one_word (y ∷ []) x long first = ap (λ z. z ∷ []) (sym first)
one_word (y ∷ z ∷ xs) x long first = absurd (omega arith)

two_words : {X : Type 0} (xs : List X) (x y : X) → length xs ≡ 2 → x ≡ get_or xs 0 x → y ≡ get_or xs 1 y → xs ≡ x ∷ y ∷ []
two_words [] x y long first second = absurd (omega arith)
two_words (a ∷ []) x y long first second = absurd (omega arith)
two_words (a ∷ b ∷ []) x y long first second = ap (λ z. z ∷ b ∷ []) (sym first) ∙ ap (λ z. x ∷ z ∷ []) (sym second)
two_words (a ∷ b ∷ c ∷ xs) x y long first second = absurd (omega arith)

-- the mark is no name of a file before a mark
mark_is_option : (word : List ℕ) → bytes_eq word (codes "--") ≡ true → is_option word ≡ true
mark_is_option word is = grind arith

only_word : (word : List ℕ) → option_and_then only (positional (word ∷ [])) ≡ cond (is_option word) None (Some word)
only_word word = elim (bytes_eq word (codes "--")) as (λ b. bytes_eq word (codes "--") ≡ b → option_and_then only (cond b (Some []) (cond (is_option word) None (Some (word ∷ [])))) ≡ cond (is_option word) None (Some word)) [
  | true ↦ λ is. ap (λ o. cond o None (Some word)) (sym (mark_is_option word is))
  | false ↦ λ is. elim (is_option word) as (λ o. option_and_then only (cond o None (Some (word ∷ []))) ≡ cond o None (Some word)) [ true ↦ refl | false ↦ refl ]
] refl

either_way : (b : Bool) (x : Option (List ℕ)) → x ≡ cond b x x
either_way true x = refl
either_way false x = refl

only_pair : (first second : List ℕ) → option_and_then only (positional (first ∷ second ∷ [])) ≡ cond (bytes_eq first (codes "--")) (Some second) (cond (bytes_eq second (codes "--")) (cond (is_option first) None (Some first)) None)
only_pair first second = elim (bytes_eq first (codes "--")) as (λ a. option_and_then only (cond a (Some (second ∷ [])) (cond (is_option first) None (option_map (λ others. first ∷ others) (positional (second ∷ []))))) ≡ cond a (Some second) (cond (bytes_eq second (codes "--")) (cond (is_option first) None (Some first)) None)) [
  | true ↦ refl
  | false ↦ elim (is_option first) as (λ b. option_and_then only (cond b None (option_map (λ others. first ∷ others) (positional (second ∷ [])))) ≡ cond (bytes_eq second (codes "--")) (cond b None (Some first)) None) [
    | true ↦ either_way (bytes_eq second (codes "--")) None
    | false ↦ elim (bytes_eq second (codes "--")) as (λ c. option_and_then only (option_map (λ others. first ∷ others) (cond c (Some []) (cond (is_option second) None (Some (second ∷ []))))) ≡ cond c (Some first) None) [
      | true ↦ refl
      | false ↦ elim (is_option second) as (λ d. option_and_then only (option_map (λ others. first ∷ others) (cond d None (Some (second ∷ [])))) ≡ None) [ true ↦ refl | false ↦ refl ]
    ]
  ]
]

two_of_them : (first second : List ℕ) (others : Option (List (List ℕ))) → option_and_then only (option_map (λ others. first ∷ others) (option_map (λ others. second ∷ others) others)) ≡ None
two_of_them first second None = refl
two_of_them first second (Some others) = refl

behind_first : (first second third : List ℕ) (words : List (List ℕ)) → option_and_then only (option_map (λ others. first ∷ others) (positional (second ∷ third ∷ words))) ≡ None
behind_first first second third words = elim (bytes_eq second (codes "--")) as (λ a. option_and_then only (option_map (λ others. first ∷ others) (cond a (Some (third ∷ words)) (cond (is_option second) None (option_map (λ others. second ∷ others) (positional (third ∷ words)))))) ≡ None) [
  | true ↦ refl
  | false ↦ elim (is_option second) as (λ b. option_and_then only (option_map (λ others. first ∷ others) (cond b None (option_map (λ others. second ∷ others) (positional (third ∷ words))))) ≡ None) [
    | true ↦ refl
    | false ↦ two_of_them first second (positional (third ∷ words))
  ]
]

only_many : (first second third : List ℕ) (words : List (List ℕ)) → option_and_then only (positional (first ∷ second ∷ third ∷ words)) ≡ None
only_many first second third words = elim (bytes_eq first (codes "--")) as (λ a. option_and_then only (cond a (Some (second ∷ third ∷ words)) (cond (is_option first) None (option_map (λ others. first ∷ others) (positional (second ∷ third ∷ words))))) ≡ None) [
  | true ↦ refl
  | false ↦ elim (is_option first) as (λ b. option_and_then only (cond b None (option_map (λ others. first ∷ others) (positional (second ∷ third ∷ words)))) ≡ None) [
    | true ↦ refl
    | false ↦ behind_first first second third words
  ]
]

-- one word is the positional one, unless it is an option
pub only_of_one : (words : List (String Global)) (word : String Global) → length words ≡ 1 → word ≡ get_or words 0 word →
    option_and_then only (positional (map string_bytes words)) ≡ cond (is_option (string_bytes word)) None (Some (string_bytes word))
only_of_one words word long first = ap (λ (ws : List (String Global)). option_and_then only (positional (map string_bytes ws))) (one_word words word long first) ∙ only_word (string_bytes word)

-- of two words one is the mark
pub only_of_two : (words : List (String Global)) (first second : String Global) → length words ≡ 2 → first ≡ get_or words 0 first → second ≡ get_or words 1 second →
    option_and_then only (positional (map string_bytes words)) ≡ cond (bytes_eq (string_bytes first) (codes "--")) (Some (string_bytes second)) (cond (bytes_eq (string_bytes second) (codes "--")) (cond (is_option (string_bytes first)) None (Some (string_bytes first))) None)
only_of_two words first second long one two = ap (λ (ws : List (String Global)). option_and_then only (positional (map string_bytes ws))) (two_words words first second long one two) ∙ only_pair (string_bytes first) (string_bytes second)

-- no other number of words has one positional word
pub only_of_others : (words : List (String Global)) → length words ≢ 1 → length words ≢ 2 → option_and_then only (positional (map string_bytes words)) ≡ None
only_of_others [] one two = refl
only_of_others (a ∷ []) one two = absurd (one refl)
only_of_others (a ∷ b ∷ []) one two = absurd (two refl)
only_of_others (a ∷ b ∷ c ∷ words) one two = only_many (string_bytes a) (string_bytes b) (string_bytes c) (map string_bytes words)

-- the command is the first word
pub main_of_no_words : (words : List (String Global)) → length words < 1 → main_of (map string_bytes words) ≡ None
main_of_no_words [] few = refl
main_of_no_words (a ∷ words) few = absurd (omega arith)

pub main_of_words : (words : List (String Global)) (command : String Global) → 0 < length words → command ≡ get_or words 0 command →
    main_of (map string_bytes words) ≡ cond (bytes_eq (string_bytes command) (codes "build")) (option_and_then only (positional (map string_bytes (drop 1 words)))) None
main_of_words [] command some first = absurd (omega arith)
main_of_words (a ∷ words) command some first = ap (λ (w : String Global). cond (bytes_eq (string_bytes w) (codes "build")) (option_and_then only (positional (map string_bytes words))) None) (sym first)
