-- Classes that an expression names, and their members: PHP manual, Scope Resolution Operator, `new` and `instanceof`.
use Rattle.std.specs.Prelude.{ℕ, zero, suc, List, [], ◌∷◌, ◌++◌, length, Some, if◌then◌else◌}
use Rattle.hph_ast.specs.declared.token.At.{At}
use Rattle.hph_ast.specs.declared.token.Token.{Token}
use Rattle.hph_ast.specs.declared.token.Kind.{Kind}
use Rattle.hph_ast.specs.declared.token.Kind.TheVariants as k
use Rattle.hph_ast.specs.declared.token.Mark.TheVariants as m
use Rattle.hph_ast.specs.declared.expr.Expr.{Expr}
use Rattle.hph_ast.specs.declared.expr.Expr.TheVariants as e
use Rattle.hph_ast.specs.declared.expr.ClassReference.{ClassReference}
use Rattle.hph_ast.specs.declared.expr.ClassReference.TheVariants as c
use Rattle.hph_ast.specs.declared.expr.MemberName.{MemberName}
use Rattle.hph_ast.specs.declared.expr.MemberName.TheVariants as n
use Rattle.hph_ast.specs.declared.expr.Step.{Step}
use Rattle.hph_ast.specs.declared.expr.Step.TheVariants as s
use Rattle.hph_ast.specs.Terminals.{is_class_word}
use Rattle.hph_ast.specs.Places.{place, class_place, on, span, with_steps}
use Rattle.hph_fexpr.specs.declared.form.Form.{Form}
use Rattle.hph_fexpr.specs.declared.form.Form.TheVariants.{Level}
use Rattle.hph_cursor.specs.Steps.{Parser, choose, ◌>>=◌, ◌>>◌, pure, fail, sees, expect, take_token}
use Rattle.hph_cursor.specs.Next.{class_by}
use Rattle.hph_fexpr.specs.Lists.{arguments}

-- `C::NAME`
abbrev pub constant_of : ClassReference → Token → Token → List ℕ → Expr
constant_of class q t name =
    if is_class_word name then e.ClassName (span (class_place class) (on t)) class q.start
    else e.ClassConstant (span (class_place class) (on t)) class name

abbrev pub by_expression : Expr → ClassReference
by_expression x = c.ByExpression (place x) x

module _ (below : Form → Parser Expr) where
  -- ---- members

  unfoldable pub parenthesis : Token → Parser Expr
  parenthesis o = below (Level 1) >>= λ x. expect m.CloseParen >>= λ c. pure (e.Paren (span (on o) (on c)) x)

  -- behind "{", and the place of "}"
  unfoldable pub computed : Parser (MemberName × At)
  computed = below (Level 1) >>= λ x. expect m.CloseBrace >>= λ c. pure (n.Computed x, on c)

  abbrev pub member_by : Token → Kind → Parser (MemberName × At)
  member_by t (k.Name name) = pure (n.Named name, on t)
  member_by t (k.Variable name) = pure (n.Computed (e.Variable (on t) name), on t)
  member_by t (k.Mark m.OpenBrace) = computed
  member_by t _ = fail

  -- the name of a member, and the place where it ends
  unfoldable pub member : Parser (MemberName × At)
  member = take_token >>= λ t. member_by t t.kind

  -- at "("
  unfoldable pub static_call : ClassReference → MemberName → Parser Expr
  static_call class name = expect m.OpenParen >>
      (arguments below >>= λ r. pure (e.StaticCall (span (class_place class) r.1) class name r.0))

  abbrev pub scoped_by : ClassReference → Token → Token → Kind → Parser Expr
  scoped_by class q t (k.Name name) =
      λ ts. if sees m.OpenParen ts then static_call class (n.Named name) ts else Some (constant_of class q t name, ts)
  scoped_by class q t (k.Variable name) = λ ts.
      if sees m.OpenParen ts then static_call class (n.Computed (e.Variable (on t) name)) ts
      else Some (e.StaticProperty (span (class_place class) (on t)) class name, ts)
  scoped_by class q t (k.Mark m.OpenBrace) = computed >>= λ r. static_call class r.0
  scoped_by class q t _ = fail

  -- behind "::"
  abbrev pub scoped_from : ClassReference → Token → Parser Expr
  scoped_from class q = take_token >>= λ t. scoped_by class q t t.kind

  -- at "::"
  unfoldable pub scoped : ClassReference → Parser Expr
  scoped class = expect m.DoubleColon >>= scoped_from class

  -- ---- classes behind `new` and `instanceof`

  -- at "["
  unfoldable pub target_index : Parser Step
  target_index = take_token >>= λ o. below (Level 1) >>= λ x. expect m.CloseBracket >>= λ c. pure (s.Index (span (on o) (on c)) x)

  -- at "->"
  unfoldable pub target_property : Parser Step
  target_property = take_token >>= λ t. member >>= λ r. pure (s.Property (span (on t) r.1) r.0)

  abbrev pub static_step_by : Token → Token → Kind → Parser Step
  static_step_by t l (k.Variable name) = pure (s.Property (span (on t) (on l)) (n.Computed (e.Variable (on l) name)))
  static_step_by t l _ = fail

  -- at "::"
  unfoldable pub target_static_property : Parser Step
  target_static_property = take_token >>= λ t. take_token >>= λ l. static_step_by t l l.kind

  unfoldable pub target_steps_from : ℕ → List Step → Parser (List Step)
  target_steps_from zero found ts = Some (found, ts)
  target_steps_from (suc n) found ts =
      if sees m.OpenBracket ts then (target_index >>= λ x. target_steps_from n (found ++ x ∷ [])) ts
      else (if sees m.Arrow ts then (target_property >>= λ x. target_steps_from n (found ++ x ∷ [])) ts
      else (if sees m.DoubleColon ts then (target_static_property >>= λ x. target_steps_from n (found ++ x ∷ [])) ts
      else Some (found, ts)))

  -- an expression with all steps that follow, as a class
  unfoldable pub by_steps : Expr → Parser ClassReference
  by_steps x ts = (target_steps_from (length ts) [] >>= λ ss. pure (by_expression (with_steps x ss))) ts

  abbrev pub target_by : Token → Kind → Parser ClassReference
  target_by t (k.Variable name) = by_steps (e.Variable (on t) name)
  target_by t (k.Mark m.OpenParen) = parenthesis t >>= λ x. pure (by_expression x)
  target_by t _ = fail

  abbrev pub static_target_by : ClassReference → Token → Kind → Parser ClassReference
  static_target_by class v (k.Variable name) = by_steps (e.StaticProperty (span (class_place class) (on v)) class name)
  static_target_by class v _ = fail

  -- at "::"
  unfoldable pub static_target : ClassReference → Parser ClassReference
  static_target class = expect m.DoubleColon >> (take_token >>= λ v. static_target_by class v v.kind)

  abbrev pub named_class : ClassReference → Parser ClassReference
  named_class class ts = if sees m.DoubleColon ts then static_target class ts else Some (class, ts)

  unfoldable pub class_reference : Parser ClassReference
  class_reference = take_token >>= λ t. λ us. choose (class_by t t.kind) (target_by t t.kind us) (λ class. named_class class us)
