-- What the grammar repeats: with commas between, or one behind the other.
use Rattle.std.specs.Prelude.{ℕ, zero, suc, Bool, true, List, [], ◌∷◌, ◌++◌, length, Some, None, if◌then◌else◌}
use Rattle.hph_ast.specs.declared.token.Token.{Token}
use Rattle.hph_ast.specs.declared.token.Kind.{Kind}
use Rattle.hph_ast.specs.declared.token.Mark.{Mark}
use Rattle.hph_ast.specs.declared.token.Mark.TheVariants as m
use Rattle.hph_cursor.specs.Steps.{Parser, ◌>>=◌, ◌>>◌, pure, sees, expect, take_token}

-- one or more with commas between, and the mark that closes
unfoldable pub separated_from : {A : Type 0} → Parser A → Mark → ℕ → List A → Parser (List A × Token)
separated_from one closing zero found ts = None
separated_from one closing (suc n) found ts = (one >>= λ x. λ us.
    if sees m.Comma us then (take_token >> separated_from one closing n (found ++ x ∷ [])) us
    else (expect closing >>= λ c. pure (found ++ x ∷ [], c)) us) ts

abbrev pub separated : {A : Type 0} → Parser A → Mark → Parser (List A × Token)
separated one closing ts = separated_from one closing (length ts) [] ts

-- the tokens end, or one comes next that ends the list
abbrev pub at_end : (Kind → Bool) → List Token → Bool
at_end ends [] = true
at_end ends (t ∷ ts) = ends t.kind

-- any number up to there
unfoldable pub many_from : {A : Type 0} → (Kind → Bool) → Parser A → ℕ → List A → Parser (List A)
many_from ends one zero found ts = if at_end ends ts then Some (found, ts) else None
many_from ends one (suc n) found ts =
    if at_end ends ts then Some (found, ts) else (one >>= λ x. many_from ends one n (found ++ x ∷ [])) ts

abbrev pub many : {A : Type 0} → (Kind → Bool) → Parser A → Parser (List A)
many ends one ts = many_from ends one (length ts) [] ts
