-- Primaries: what an expression is without operators and without steps.
use Rattle.std.specs.Prelude.{ℕ, not, List, Some, if◌then◌else◌}
use Rattle.hph_ast.specs.declared.token.Token.{Token}
use Rattle.hph_ast.specs.declared.token.Kind.{Kind}
use Rattle.hph_ast.specs.declared.token.Kind.TheVariants as k
use Rattle.hph_ast.specs.declared.token.Mark.TheVariants as m
use Rattle.hph_ast.specs.declared.keyword.Keyword.{Keyword}
use Rattle.hph_ast.specs.declared.keyword.Keyword.TheVariants as w
use Rattle.hph_ast.specs.declared.expr.Expr.{Expr}
use Rattle.hph_ast.specs.declared.expr.Expr.TheVariants as e
use Rattle.hph_ast.specs.declared.expr.ArrayForm.{ArrayForm}
use Rattle.hph_ast.specs.declared.expr.ArrayForm.TheVariants.{Short, Long}
use Rattle.hph_ast.specs.declared.expr.ClassReference.TheVariants as c
use Rattle.hph_ast.specs.Places.{class_place, on, span}
use Rattle.hph_ast.specs.Shapes.{is_path}
use Rattle.hph_fexpr.specs.declared.form.Form.{Form}
use Rattle.hph_fexpr.specs.declared.form.Form.TheVariants.{Level}
use Rattle.hph_fexpr.specs.declared.elements.Elements.{Elements}
use Rattle.hph_cursor.specs.Steps.{Parser, ◌>>=◌, ◌>>◌, pure, pure_if, fail, sees, expect, take_token}
use Rattle.hph_fexpr.specs.Lists.{arguments, maybe_arguments, paths}
use Rattle.hph_fexpr.specs.Arrays.{elements}
use Rattle.hph_fexpr.specs.Strings.{interpolated}
use Rattle.hph_fexpr.specs.Classes.{parenthesis, scoped, class_reference}

-- an array holds nothing that stands in a destructuring alone
abbrev pub array_of : Token → ArrayForm → Elements → Parser Expr
array_of t form r = pure_if (not r.targets) (e.Array (span (on t) r.close) form r.items)

module _ (below : Form → Parser Expr) where
  -- behind "["
  unfoldable pub short_array : Token → Parser Expr
  short_array o = elements below m.CloseBracket >>= array_of o Short

  unfoldable pub long_array : Token → Parser Expr
  long_array t = expect m.OpenParen >> (elements below m.CloseParen >>= array_of t Long)

  -- at "("
  unfoldable pub call : Token → List ℕ → Parser Expr
  call t name = take_token >> (arguments below >>= λ r. pure (e.Call (span (on t) r.1) name r.0))

  unfoldable pub named : Token → List ℕ → Parser Expr
  named t name ts =
      if sees m.OpenParen ts then call t name ts
      else (if sees m.DoubleColon ts then scoped below (c.ByName (on t) name) ts
      else Some (e.Constant (on t) name, ts))

  unfoldable pub new : Token → Parser Expr
  new t = class_reference below >>= λ class. maybe_arguments below (class_place class) >>= λ r. pure (e.New (span (on t) r.1) class r.0)

  unfoldable pub isset : Token → Parser Expr
  isset t = expect m.OpenParen >> (paths below is_path >>= λ r. pure (e.Isset (span (on t) r.1) r.0))

  unfoldable pub empty : Token → Parser Expr
  empty t = expect m.OpenParen >> (below (Level 1) >>= λ x. expect m.CloseParen >>= λ c. pure (e.Empty (span (on t) (on c)) x))

  -- behind "("
  unfoldable pub exit_with : Token → Parser Expr
  exit_with t ts =
      if sees m.CloseParen ts then (take_token >>= λ c. pure (e.Exit (span (on t) (on c)))) ts
      else (below (Level 1) >>= λ x. expect m.CloseParen >>= λ c. pure (e.ExitWith (span (on t) (on c)) x)) ts

  unfoldable pub exit : Token → Parser Expr
  exit t ts = if sees m.OpenParen ts then (take_token >> exit_with t) ts else Some (e.Exit (on t), ts)

  abbrev pub keyword_by : Token → Keyword → Parser Expr
  keyword_by t w.MagicDir = pure (e.Directory (on t))
  keyword_by t w.Array = long_array t
  keyword_by t w.New = new t
  keyword_by t w.Isset = isset t
  keyword_by t w.Empty = empty t
  keyword_by t w.Exit = exit t
  keyword_by t w.Die = exit t
  keyword_by t w.SelfClass = scoped below (c.SelfClass (on t))
  keyword_by t w.Parent = scoped below (c.Parent (on t))
  keyword_by t w.Static = scoped below (c.Static (on t))
  keyword_by t _ = fail

  abbrev pub primary_by : Token → Kind → Parser Expr
  primary_by t (k.Int v) = pure (e.Int (on t) v)
  primary_by t (k.Text bytes) = pure (e.Text (on t) bytes)
  primary_by t (k.TextHead bytes) = interpolated below t bytes
  primary_by t (k.Variable name) = pure (e.Variable (on t) name)
  primary_by t (k.Name name) = named t name
  primary_by t (k.Keyword word) = keyword_by t word
  primary_by t (k.Mark m.OpenBracket) = short_array t
  primary_by t (k.Mark m.OpenParen) = parenthesis below t
  primary_by t _ = fail

  unfoldable pub primary : Parser Expr
  primary = take_token >>= λ t. primary_by t t.kind
