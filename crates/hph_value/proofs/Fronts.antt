-- The bytes at the front that pass a test, and those behind them.
use Rattle.std.proofs.Common.{◌≡◌, ℕ, ◌-◌, Bool, true, false, cond, List, [], ◌∷◌, ◌++◌, length, take, length-append, refl, ap}
use Rattle.std.proofs.Common.{◌∙◌, arith}
use Rattle.std.proofs.Math.Seq.{take-append_seam}
use Rattle.hph_ast.specs.Bytes.{front, behind}

module _ (passes : ℕ → Bool) where
  -- The front and what stands behind it are all of the bytes.
  front-behind : (bs : List ℕ) → bs ≡ front passes bs ++ behind passes bs
  front-behind [] = refl
  front-behind (b ∷ bs) =
      elim (passes b) as (λ t. b ∷ bs ≡ cond t (b ∷ front passes bs) [] ++ cond t (behind passes bs) (b ∷ bs)) [
        | true ↦ ap (λ rest. b ∷ rest) (front-behind bs)
        | false ↦ refl
      ]

  -- The front is what is left where as many bytes as stand behind it are cut off.
  pub take-front : (bs : List ℕ) → take (length bs - length (behind passes bs)) bs ≡ front passes bs
  take-front bs =
      let first : List ℕ = front passes bs in
      let rest : List ℕ = behind passes bs in
      let all : bs ≡ first ++ rest = front-behind bs in
      let count : length bs - length rest ≡ length first = omega (arith, ap length all, length-append first rest) in
      ap (λ n. take n bs) count ∙ (ap (take (length first)) all ∙ take-append_seam first rest)
