-- What the call of the crate promises. Which tokens may follow an expression, and the limit on nesting, are this project's own.
use Rattle.std.specs.Prelude.{◌≡◌, ◌≤◌, ℕ, ◌-◌, Bool, true, false, ◌&&◌, List, [], ◌∷◌, length, drop, Option, Some, None, if◌then◌else◌, nat_le}
use Rattle.hph_ast.specs.declared.token.Token.{Token}
use Rattle.hph_ast.specs.declared.token.Kind.{Kind}
use Rattle.hph_ast.specs.declared.token.Kind.TheVariants as k
use Rattle.hph_ast.specs.declared.token.Mark.TheVariants as m
use Rattle.hph_ast.specs.declared.keyword.Keyword.TheVariants as w
use Rattle.hph_ast.specs.declared.expr.Expr.{Expr}
use Rattle.hph_ast.specs.Nesting.{nesting}
use Rattle.hph_ast.specs.Expressions.{IsExpression}
use Rattle.hph_cursor.specs.Steps.{Outcome}
use Rattle.hph_fexpr.specs.declared.form.Form.TheVariants.{Level}
use Rattle.hph_fexpr.specs.Parser.{parse}

-- `;`, `,`, `)`, `]`, `}`, `:`, `=>` and `as`
abbrev pub ends_kind : Kind → Bool
ends_kind (k.Mark m.Semicolon) = true
ends_kind (k.Mark m.Comma) = true
ends_kind (k.Mark m.CloseParen) = true
ends_kind (k.Mark m.CloseBracket) = true
ends_kind (k.Mark m.CloseBrace) = true
ends_kind (k.Mark m.Colon) = true
ends_kind (k.Mark m.DoubleArrow) = true
ends_kind (k.Keyword w.As) = true
ends_kind _ = false

-- one of these comes next, or nothing
abbrev pub ends : List Token → Bool
ends [] = true
ends (t ∷ ts) = ends_kind t.kind

-- how deep an expression may be nested
abbrev pub limit : ℕ
limit = 512

-- the tokens from `at` up to `k` spell the expression, and it ends there
pub record SpellsAt (tokens : List Token) (at : ℕ) (x : Expr) (k : ℕ) : Type 0 where
  pub within : k ≤ length tokens
  pub is : IsExpression 1 (drop at tokens) x (drop k tokens)
  pub nests : nesting x ≤ limit
  pub ends_at : ends (drop k tokens) ≡ true

-- the same as a function
abbrev pub checked : ℕ → Outcome Expr → Option (Expr × ℕ)
checked n None = None
checked n (Some r) = if ends r.1 && nat_le (nesting r.0) limit then Some (r.0, n - length r.1) else None

unfoldable pub expr_at : List Token → ℕ → Option (Expr × ℕ)
expr_at tokens at = checked (length tokens) (parse limit (Level 1) (drop at tokens))
