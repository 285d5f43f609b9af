-- Names without regard to ASCII case.
use Rattle.std.specs.Prelude.{◌≡◌, ℕ, Bool, true, false, ◌&&◌, List, [], ◌∷◌, map, refl, bytes_eq, nat_eq, nat_le, nat_lt, ◌==◌, if◌then◌else◌}
use Rattle.std.proofs.Common.{ap, sym, ◌∙◌, arith}
use Rattle.std.proofs.lemmas.Bool.Decides.{nat_tests}
use Rattle.std.specs.Char.{to_ascii_lowercase}
use Rattle.std.specs.Bool.{Decides, one_answer}
use Rattle.std.specs.Str.{str_to_ascii_lowercase}
use lib.Pointwise.{bytes_decides}
use Rattle.hph_ast.specs.Bytes.{lower, is_word}
use Rattle.hph_ast.specs.RefusedStatements.{same_word}

lowered : (b : ℕ) → to_ascii_lowercase b ≡ lower b
lowered b = grind (arith, nat_tests)

pub lowered_all : (bs : List ℕ) → str_to_ascii_lowercase bs ≡ map lower bs
lowered_all [] = refl
lowered_all (b ∷ bs) = let head = lowered b in let tail = lowered_all bs in cc

-- a word is itself in lower case
word_is : (word name : List ℕ) → bytes_eq word (map lower name) ≡ is_word word name
word_is [] [] = refl
word_is [] (b ∷ bs) = refl
word_is (a ∷ rest) [] = refl
word_is (a ∷ rest) (b ∷ bs) = ap (λ t. (a == lower b) && t) (word_is rest bs)

-- a test that decides whether two names are equal in lower case
decides_word : (word name : List ℕ) → map lower word ≡ word → Decides (is_word word name) (str_to_ascii_lowercase word ≡ str_to_ascii_lowercase name)
decides_word word name h =
    let d = bytes_decides word (map lower name) in
    let w : str_to_ascii_lowercase word ≡ word = lowered_all word ∙ h in
    let n : str_to_ascii_lowercase name ≡ map lower name = lowered_all name in
    let same : bytes_eq word (map lower name) ≡ is_word word name = word_is word name in
    ((λ t. w ∙ d.0 (same ∙ t) ∙ sym n), (λ e. sym same ∙ d.1 (sym w ∙ e ∙ n)))

pub ignored : (word name : List ℕ) (r : Bool) → map lower word ≡ word → Decides r (str_to_ascii_lowercase word ≡ str_to_ascii_lowercase name) → r ≡ is_word word name
ignored word name r h d = one_answer r (is_word word name) d (decides_word word name h)

-- two names that are equal in lower case
pub same_words : (a b : List ℕ) (r : Bool) → Decides r (str_to_ascii_lowercase a ≡ str_to_ascii_lowercase b) → r ≡ same_word a b
same_words a b r d =
    let e = bytes_decides (map lower a) (map lower b) in
    one_answer r (same_word a b) d ((λ t. lowered_all a ∙ e.0 t ∙ sym (lowered_all b)), (λ h. e.1 (sym (lowered_all a) ∙ h ∙ lowered_all b)))
