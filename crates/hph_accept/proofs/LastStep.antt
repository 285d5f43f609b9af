-- The last step of a path.
use Rattle.std.specs.Prelude.{◌≡◌, ◌-◌, suc, List, [], ◌∷◌, Option, Some, None, Bool, false, length, slice_get, refl}
use Rattle.std.proofs.Common.{ap, sym, arith, ◌∙◌}
use Rattle.hph_ast.specs.declared.expr.Step.{Step, out-Step}
use Rattle.hph_ast.specs.Shapes.{is_property_at}
use Rattle.hph_ast.specs.RefusedStatements.{last_is_property}

-- the last of two or more is that of the list without its first
last_of_rest : (x y : Step) (xs : List Step) → slice_get (x ∷ (y ∷ xs)) (length (x ∷ (y ∷ xs)) - 1) ≡ slice_get (y ∷ xs) (length (y ∷ xs) - 1)
last_of_rest x y xs =
    let long : length (x ∷ (y ∷ xs)) - 1 ≡ suc (length xs) = omega arith in
    let short : length (y ∷ xs) - 1 ≡ length xs = omega arith in
    ap (slice_get (x ∷ (y ∷ xs))) long ∙ sym (ap (slice_get (y ∷ xs)) short)

pub last_some : (xs : List Step) (s : Step) → slice_get xs (length xs - 1) ≡ Some s → last_is_property xs ≡ is_property_at (out-Step s)
last_some [] s h = let never : ⊥ = cc h in absurd never
last_some (x ∷ []) s h = let same : x ≡ s = cc h in ap (λ x. is_property_at (out-Step x)) same
last_some (x ∷ (y ∷ xs)) s h = last_some (y ∷ xs) s (sym (last_of_rest x y xs) ∙ h)

pub last_none : (xs : List Step) → slice_get xs (length xs - 1) ≡ None → last_is_property xs ≡ false
last_none [] h = refl
last_none (x ∷ []) h = let never : ⊥ = cc h in absurd never
last_none (x ∷ (y ∷ xs)) h = last_none (y ∷ xs) (sym (last_of_rest x y xs) ∙ h)
