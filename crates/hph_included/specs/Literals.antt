-- The literals of includes, in parts.
use Rattle.std.specs.Prelude.{ℕ, Bool, true, false, List, [], ◌∷◌, map, Option, None, Some}
use Rattle.std.specs.List.{list_all}
use Rattle.std.specs.Borrow.{Bor}
use Rattle.hph_ast.specs.declared.operator.Binary.{Binary}
use Rattle.hph_ast.specs.declared.operator.Binary.TheVariants as b
use Rattle.hph_ast.specs.declared.expr.Expr.{Expr}
use Rattle.hph_ast.specs.declared.stmt.Case.{Case}
use Rattle.hph_ast.specs.declared.stmt.ElseIf.{ElseIf}
use Rattle.hph_ast.specs.declared.class.Member.TheFolds.{fold-Case, fold-ElseIf}
use Rattle.hph_ast.specs.RefusedExpressions.{Shape, a_text, a_directory, a_directory_path, part, is_include_path}
use Rattle.hph_program.specs.Sources.{member_includes, statement_includes, class_includes, function_includes, case_includes, else_if_includes}

-- the shapes of expressions
abbrev pub shapes : List (Bor Expr) → List Shape
shapes found = map (λ x. (part x.now).shape) found

abbrev pub are_paths : List Shape → Bool
are_paths literals = list_all is_include_path literals

-- the literals in a case of a `switch`, and in the branch of an `elseif`
unfoldable pub in_case : Case → List Shape
in_case = fold-Case (Unit {0}) (List Shape) (Unit {0}) (Unit {0}) (List Shape) (List Shape) member_includes statement_includes class_includes function_includes case_includes else_if_includes

unfoldable pub in_branch : ElseIf → List Shape
in_branch = fold-ElseIf (Unit {0}) (List Shape) (Unit {0}) (Unit {0}) (List Shape) (List Shape) member_includes statement_includes class_includes function_includes case_includes else_if_includes

-- the bytes of a text, and of one behind `__DIR__`
abbrev pub text_bytes : Shape → Option (List ℕ)
text_bytes (a_text bytes) = Some bytes
text_bytes _ = None

abbrev pub directory_text : Shape → Option (List ℕ)
directory_text (a_directory_path bytes) = Some bytes
directory_text _ = None

abbrev pub is_directory : Shape → Bool
is_directory a_directory = true
is_directory _ = false

-- the one text that is joined to what stands before it
abbrev pub joined_text : List (Binary × Expr) → Option (List ℕ)
joined_text ((b.Concat, x) ∷ []) = text_bytes (part x).shape
joined_text _ = None
