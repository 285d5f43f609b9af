-- Paths of includes, in parts.
use Rattle.std.specs.Prelude.{Bool, true, false, List, [], ◌∷◌}
use Rattle.hph_ast.specs.declared.operator.Binary.{Binary}
use Rattle.hph_ast.specs.declared.operator.Binary.TheVariants as b
use Rattle.hph_ast.specs.declared.expr.Expr.{Expr}
use Rattle.hph_ast.specs.RefusedExpressions.{Shape, a_text, a_directory, is_path_text, part}

abbrev pub is_text_path : Shape → Bool
is_text_path (a_text bytes) = is_path_text bytes
is_text_path _ = false

abbrev pub is_directory : Shape → Bool
is_directory a_directory = true
is_directory _ = false

-- one text, joined to what stands before it
abbrev pub is_file_name : List (Binary × Expr) → Bool
is_file_name ((b.Concat, x) ∷ []) = is_text_path (part x).shape
is_file_name _ = false
