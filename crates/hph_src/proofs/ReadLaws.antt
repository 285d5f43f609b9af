-- What an answer of a read leaves open of the file: nothing, where it is Found, Absent or TooLong.
use Rattle.std.proofs.Common.{◌≡◌, ℕ, List, [], ◌∷◌, ◌++◌, length, Option, Some, refl, ap, arith, lit<, lit≤}
use Rattle.hph_src.specs.Tree.{Tells}
use Rattle.hph_src.specs.declared.tree.ReadAnswer.TheVariants.{Found, Absent, TooLong}

-- an absent file is not found
pub Absent-Found : (file : Option (List ℕ)) (limit : ℕ) (old new late later : List ℕ) →
    Tells file limit old new Absent → Tells file limit late later Found → ⊥
Absent-Found file limit old new late later absent (bytes, found, _, _) = cc

-- an absent file is not too long
pub Absent-TooLong : (file : Option (List ℕ)) (limit : ℕ) (old new late later : List ℕ) →
    Tells file limit old new Absent → Tells file limit late later TooLong → ⊥
Absent-TooLong file limit old new late later absent (bytes, is, _) = cc

-- a file that is too long is not found
pub TooLong-Found : (file : Option (List ℕ)) (limit : ℕ) (old new late later : List ℕ) →
    Tells file limit old new TooLong → Tells file limit late later Found → ⊥
TooLong-Found file limit old new late later (bytes, is, above) (others, found, below, _) =
    let same : bytes ≡ others = cc in omega (arith, ap length same)

-- two reads that found a file have added the same bytes
pub Found-Found : (bytes : List ℕ) (limit : ℕ) (old new : List ℕ) →
    Tells (Some bytes) limit old new Found → new ≡ old ++ bytes
Found-Found bytes limit old new (others, found, _, is) = let same : bytes ≡ others = cc in cc

-- a file with as many bytes as the limit is found, and is not too long
at_the_limit : Tells (Some (1 ∷ 2 ∷ [])) 2 (7 ∷ []) (7 ∷ 1 ∷ 2 ∷ []) Found
at_the_limit = (1 ∷ 2 ∷ [], refl, lit≤ tt, refl)

past_the_limit : Tells (Some (1 ∷ 2 ∷ [])) 1 (7 ∷ []) (7 ∷ []) TooLong
past_the_limit = (1 ∷ 2 ∷ [], refl, lit< tt)
