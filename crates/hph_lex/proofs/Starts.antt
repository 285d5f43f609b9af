-- What a start tells of the bytes.
use Rattle.std.proofs.Common.{◌≡◌, ℕ, Bool, true, false, ◌&&◌, ◌||◌, List, drop, refl, subst, codes, is_some}
use Rattle.std.specs.Prelude.{if◌then◌else◌, ◌∷◌, []}
use Rattle.hph_ast.specs.declared.lexical.Start.{Start}
use Rattle.hph_ast.specs.declared.lexical.Start.TheVariants as s
use Rattle.hph_ast.specs.Bytes.{is_whitespace, is_digit, is_letter, begins, begins_with}
use Rattle.hph_ast.specs.Marks.{cast_of}
use Rattle.hph_ast.specs.Lexical.{start_of}

-- the test that a start stands for
abbrev pub Started : Start → List ℕ → Type 0
Started s.Whitespace bs = begins_with is_whitespace bs ≡ true
Started s.CloseTag bs = begins (codes "?>") bs ≡ true
Started s.LineComment bs = (begins (codes "#") bs || begins (codes "//") bs) ≡ true
Started s.BlockComment bs = begins (codes "/*") bs ≡ true
Started s.Name bs = begins_with is_letter bs ≡ true
Started s.Variable bs = (begins (codes "$") bs && begins_with is_letter (drop 1 bs)) ≡ true
Started s.Number bs = (begins_with is_digit bs || (begins (codes ".") bs && begins_with is_digit (drop 1 bs))) ≡ true
Started s.SingleQuote bs = begins (codes "'") bs ≡ true
Started s.DoubleQuote bs = begins (34 ∷ []) bs ≡ true
Started s.Cast bs = is_some (cast_of bs) ≡ true
Started s.Other bs = Unit {0}

decide : {x y z : Start} (b : Bool) (P : Type 0) → (b ≡ true → x ≡ z → P) → (b ≡ false → y ≡ z → P) → (if b then x else y) ≡ z → P
decide true P h g e = h refl e
decide false P h g e = g refl e

-- where something starts, its test holds
pub starts : (start : Start) (bs : List ℕ) → start_of bs ≡ start → Started start bs
unfolding start_of
starts start bs =
    let P : Type 0 = Started start bs in
    let holds : (first : Start) → Started first bs → first ≡ start → P = λ first h e. subst (λ first. Started first bs) e h in
    decide (begins_with is_whitespace bs) P (holds s.Whitespace) (λ _.
    decide (begins (codes "?>") bs) P (holds s.CloseTag) (λ _.
    decide (begins (codes "#[") bs) P (λ _. holds s.Other tt) (λ _.
    decide (begins (codes "#") bs || begins (codes "//") bs) P (holds s.LineComment) (λ _.
    decide (begins (codes "/*") bs) P (holds s.BlockComment) (λ _.
    decide (begins_with is_letter bs) P (holds s.Name) (λ _.
    decide (begins (codes "$") bs && begins_with is_letter (drop 1 bs)) P (holds s.Variable) (λ _.
    decide (begins_with is_digit bs || (begins (codes ".") bs && begins_with is_digit (drop 1 bs))) P (holds s.Number) (λ _.
    decide (begins (codes "'") bs) P (holds s.SingleQuote) (λ _.
    decide (begins (34 ∷ []) bs) P (holds s.DoubleQuote) (λ _.
    decide (is_some (cast_of bs)) P (holds s.Cast) (λ _. holds s.Other tt)))))))))))
