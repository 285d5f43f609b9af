-- No bytes, however often they are repeated, and one repeat more.
use Rattle.std.proofs.Common.{◌≡◌, ◌+◌, ◌++◌, ℕ, zero, suc, List, [], ◌∷◌, length, refl, sym, ap, ◌∙◌, append_assoc, arith}
use Rattle.std.proofs.Math.ListN.{replicate}
use Rattle.std.proofs.lemmas.List.{replicate_more}
use Rattle.std.specs.List.{concat}
use Rattle.hph_php.specs.StringFunctions.{str_repeat}

none : (times : ℕ) → str_repeat [] times ≡ []
none zero = refl
none (suc times) = none times

pub nothing_repeated : (bytes : List ℕ) (times : ℕ) → length bytes ≡ 0 → bytes ≡ str_repeat bytes times
nothing_repeated [] times e = sym (none times)
nothing_repeated (b ∷ bs) times e = absurd (omega (arith, e))

append_nothing : (bytes : List ℕ) → bytes ++ [] ≡ bytes
append_nothing [] = refl
append_nothing (b ∷ bs) = ap (λ l. b ∷ l) (append_nothing bs)

concat_last : (texts : List (List ℕ)) (bytes : List ℕ) → concat (texts ++ bytes ∷ []) ≡ concat texts ++ bytes
concat_last [] bytes = append_nothing bytes
concat_last (text ∷ texts) bytes = ap (λ l. text ++ l) (concat_last texts bytes) ∙ sym (append_assoc text (concat texts) bytes)

pub one_more : (bytes : List ℕ) (times : ℕ) → str_repeat bytes (times + 1) ≡ str_repeat bytes times ++ bytes
one_more bytes times = ap concat (sym (replicate_more times bytes)) ∙ concat_last (replicate times bytes) bytes
