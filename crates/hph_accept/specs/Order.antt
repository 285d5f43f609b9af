-- The construct that stands first, of what was met before and of what is found next.
use Rattle.std.specs.Prelude.{ℕ, List, [], ◌∷◌, Option, Some, None, if◌then◌else◌}
use Rattle.hph_ast.specs.declared.refusal.Construct.{Construct}
use Rattle.hph_ast.specs.RefusedExpressions.{Found}
use Rattle.hph_ast.specs.RefusedStatements.{is_before}

abbrev pub earlier : Option (Construct × ℕ) → Construct × ℕ → Option (Construct × ℕ)
earlier None next = Some next
earlier (Some best) next = Some (if is_before best next then best else next)

abbrev pub earliest : Option (Construct × ℕ) → Found → Option (Construct × ℕ)
earliest met [] = met
earliest met (x ∷ xs) = earliest (earlier met x) xs
