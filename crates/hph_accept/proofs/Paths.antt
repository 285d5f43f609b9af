-- Paths of includes: text that is UTF-8, and `__DIR__` with a text.
use Rattle.std.specs.Prelude.{◌≡◌, ℕ, Bool, true, false, ◌&&◌, List, [], ◌∷◌, map, length, refl, ◌==◌}
use Rattle.std.proofs.Common.{ap, sym, ◌∙◌, arith}
use Rattle.std.proofs.lemmas.Bool.Decides.{nat_tests}
use Rattle.std.specs.Str.{IsUtf8, IsValidUpTo}
use Rattle.std.specs.Str.Lossy.{utf8_valid_len}
use Rattle.std.proofs.lemmas.Str.{utf8_valid_len-IsUtf8, utf8_valid_len-IsValidUpTo}
use Rattle.hph_ast.specs.declared.operator.Binary.{Binary}
use Rattle.hph_ast.specs.declared.operator.Binary.TheVariants as b
use Rattle.hph_ast.specs.declared.expr.Expr.{Expr}
use Rattle.hph_ast.specs.RefusedExpressions.{Shape, a_variable, a_text, a_directory, a_directory_path, another, is_path_text, is_include_path, joined, Part, part}
use Rattle.hph_accept.specs.Paths.{is_text_path, is_directory, is_file_name}

pub utf8_ok : (bs : List ℕ) → IsUtf8 bs → true ≡ (utf8_valid_len bs == length bs)
utf8_ok bs h = let e = utf8_valid_len-IsUtf8 bs h in grind (arith, nat_tests)

pub utf8_err : (bs : List ℕ) (n : ℕ) → IsValidUpTo bs n → false ≡ (utf8_valid_len bs == length bs)
utf8_err bs n h = let e = utf8_valid_len-IsValidUpTo bs n h in let l = h.short in grind (arith, nat_tests)

pub ruleset utf8 = (utf8_ok, utf8_err)

-- behind a directory
text_behind_shape : (s : Shape) → is_include_path (joined a_directory ((b.Concat, record { start = 0; shape = s; refused = λ ctx. [] }) ∷ [])) ≡ is_text_path s
text_behind_shape (a_variable t) = refl
text_behind_shape (a_text bytes) = refl
text_behind_shape a_directory = refl
text_behind_shape (a_directory_path bytes) = refl
text_behind_shape another = refl

-- the start of a part and what is refused in it don't matter
text_behind : (x : Part) → is_include_path (joined a_directory ((b.Concat, x) ∷ [])) ≡ is_text_path x.shape
text_behind x = text_behind_shape x.shape

-- behind what is joined
pub joined_path : (s : Shape) (more : List (Binary × Expr)) → is_include_path (joined s (map (λ (o : Binary × Expr). (o.0, part o.1)) more)) ≡ (is_directory s && is_file_name more)
joined_path (a_variable t) more = refl
joined_path (a_text bytes) more = refl
joined_path (a_directory_path bytes) more = refl
joined_path another more = refl
joined_path a_directory [] = refl
joined_path a_directory ((b.Pow, x) ∷ []) = refl
joined_path a_directory ((b.Pow, x) ∷ (y ∷ more)) = refl
joined_path a_directory ((b.Mul, x) ∷ []) = refl
joined_path a_directory ((b.Mul, x) ∷ (y ∷ more)) = refl
joined_path a_directory ((b.Div, x) ∷ []) = refl
joined_path a_directory ((b.Div, x) ∷ (y ∷ more)) = refl
joined_path a_directory ((b.Rem, x) ∷ []) = refl
joined_path a_directory ((b.Rem, x) ∷ (y ∷ more)) = refl
joined_path a_directory ((b.Add, x) ∷ []) = refl
joined_path a_directory ((b.Add, x) ∷ (y ∷ more)) = refl
joined_path a_directory ((b.Sub, x) ∷ []) = refl
joined_path a_directory ((b.Sub, x) ∷ (y ∷ more)) = refl
joined_path a_directory ((b.ShiftLeft, x) ∷ []) = refl
joined_path a_directory ((b.ShiftLeft, x) ∷ (y ∷ more)) = refl
joined_path a_directory ((b.ShiftRight, x) ∷ []) = refl
joined_path a_directory ((b.ShiftRight, x) ∷ (y ∷ more)) = refl
joined_path a_directory ((b.Less, x) ∷ []) = refl
joined_path a_directory ((b.Less, x) ∷ (y ∷ more)) = refl
joined_path a_directory ((b.LessEqual, x) ∷ []) = refl
joined_path a_directory ((b.LessEqual, x) ∷ (y ∷ more)) = refl
joined_path a_directory ((b.Greater, x) ∷ []) = refl
joined_path a_directory ((b.Greater, x) ∷ (y ∷ more)) = refl
joined_path a_directory ((b.GreaterEqual, x) ∷ []) = refl
joined_path a_directory ((b.GreaterEqual, x) ∷ (y ∷ more)) = refl
joined_path a_directory ((b.Equal, x) ∷ []) = refl
joined_path a_directory ((b.Equal, x) ∷ (y ∷ more)) = refl
joined_path a_directory ((b.NotEqual, x) ∷ []) = refl
joined_path a_directory ((b.NotEqual, x) ∷ (y ∷ more)) = refl
joined_path a_directory ((b.Identical, x) ∷ []) = refl
joined_path a_directory ((b.Identical, x) ∷ (y ∷ more)) = refl
joined_path a_directory ((b.NotIdentical, x) ∷ []) = refl
joined_path a_directory ((b.NotIdentical, x) ∷ (y ∷ more)) = refl
joined_path a_directory ((b.Spaceship, x) ∷ []) = refl
joined_path a_directory ((b.Spaceship, x) ∷ (y ∷ more)) = refl
joined_path a_directory ((b.BitAnd, x) ∷ []) = refl
joined_path a_directory ((b.BitAnd, x) ∷ (y ∷ more)) = refl
joined_path a_directory ((b.BitXor, x) ∷ []) = refl
joined_path a_directory ((b.BitXor, x) ∷ (y ∷ more)) = refl
joined_path a_directory ((b.BitOr, x) ∷ []) = refl
joined_path a_directory ((b.BitOr, x) ∷ (y ∷ more)) = refl
joined_path a_directory ((b.BooleanAnd, x) ∷ []) = refl
joined_path a_directory ((b.BooleanAnd, x) ∷ (y ∷ more)) = refl
joined_path a_directory ((b.BooleanOr, x) ∷ []) = refl
joined_path a_directory ((b.BooleanOr, x) ∷ (y ∷ more)) = refl
joined_path a_directory ((b.Coalesce, x) ∷ []) = refl
joined_path a_directory ((b.Coalesce, x) ∷ (y ∷ more)) = refl
joined_path a_directory ((b.LogicalAnd, x) ∷ []) = refl
joined_path a_directory ((b.LogicalAnd, x) ∷ (y ∷ more)) = refl
joined_path a_directory ((b.LogicalXor, x) ∷ []) = refl
joined_path a_directory ((b.LogicalXor, x) ∷ (y ∷ more)) = refl
joined_path a_directory ((b.LogicalOr, x) ∷ []) = refl
joined_path a_directory ((b.LogicalOr, x) ∷ (y ∷ more)) = refl
joined_path a_directory ((b.Concat, x) ∷ (y ∷ more)) = refl
joined_path a_directory ((b.Concat, x) ∷ []) = text_behind (part x)
