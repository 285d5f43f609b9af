-- What goes on from an expression is nested as deep as it, and each expression that is spelled is nested.
use Rattle.std.specs.Prelude.{ℕ, suc, ◌≤◌, List, [], ◌∷◌}
use Rattle.std.proofs.Common.{arith}
use Rattle.hph_ast.specs.declared.token.Token.{Token}
use Rattle.hph_ast.specs.declared.expr.Expr.{Expr}
use Rattle.hph_ast.specs.declared.expr.ArrayForm.TheVariants.{Short, Long, Targets}
use Rattle.hph_ast.specs.declared.expr.ClassReference.{ClassReference}
use Rattle.hph_ast.specs.declared.expr.ClassReference.TheVariants as c
use Rattle.hph_ast.specs.declared.expr.Step.{Step}
use Rattle.hph_ast.specs.declared.expr.StringPart.TheVariants as part
use Rattle.hph_ast.specs.Nesting.{nesting, class_nesting, step_nesting, greatest}
use Rattle.hph_ast.specs.Places.{place, class_place, on, span, last_operand, last_expr, last_class, last_step, with_steps}
use Rattle.hph_ast.specs.Expressions as g
use Rattle.hph_ast.specs.Expressions.{IsExpression, IsTerm, IsPostfix, IsPrimary, IsScoped, GoesOn, GoesOnByCall}
use Rattle.hph_fexpr.specs.NestingLaws.{NestingLaws}
use Rattle.hph_fexpr.specs.Endings.{IsValue, expression, only_written}

module _ (laws : NestingLaws) where
  pub with_steps_deep : (x : Expr) (ss : List Step) → nesting x ≤ nesting (with_steps x ss)
  with_steps_deep x [] = omega arith
  with_steps_deep x (s ∷ ss) = omega (arith, laws.path (span (place x) (last_step (place x) (s ∷ ss))) x (s ∷ ss))

  pub steps_deep : (depth : ℕ) (x : Expr) (ss : List Step) → nesting (with_steps x ss) ≤ suc depth → greatest step_nesting ss ≤ depth
  steps_deep depth x [] h = omega arith
  steps_deep depth x (s ∷ ss) h = omega (arith, laws.path (span (place x) (last_step (place x) (s ∷ ss))) x (s ∷ ss))

  pub scoped_deep : {class : ClassReference} {q : Token} {ts rest : List Token} {x : Expr} → IsScoped class q ts x rest →
      class_nesting class ≤ nesting x
  scoped_deep (g.class_constant {class = class} {t = t} {name = name} is other shut) =
      omega (arith, laws.class_constant (span (class_place class) (on t)) class name)
  scoped_deep (g.class_name {class = class} {q = q} {t = t} is word shut) =
      omega (arith, laws.class_name (span (class_place class) (on t)) class q.start)
  scoped_deep (g.static_property {class = class} {t = t} {name = name} is shut) =
      omega (arith, laws.static_property (span (class_place class) (on t)) class name)
  scoped_deep (g.static_call {class = class} {c = c} {name = name} {xs = xs} d opens args) =
      omega (arith, laws.static_call (span (class_place class) (on c)) class name xs)

  mutual
    pub goes_on_deep : {x y : Expr} {ts rest : List Token} → GoesOn x ts y rest → nesting x ≤ nesting y
    goes_on_deep (g.no_steps d) = by_call_deep d
    goes_on_deep (g.path {x = x} {step = step} {steps = steps} ss d) = omega (arith, with_steps_deep x (step ∷ steps), by_call_deep d)

    pub by_call_deep : {x y : Expr} {ts rest : List Token} → GoesOnByCall x ts y rest → nesting x ≤ nesting y
    by_call_deep g.ends = omega arith
    by_call_deep (g.method {c = c} {x = x} {name = name} {xs = xs} read arrow d opens args more) =
        omega (arith, laws.method_call (span (place x) (on c)) x name xs, goes_on_deep more)
    by_call_deep (g.call_of {c = c} {x = x} {xs = xs} read callable opens args more) =
        omega (arith, laws.dynamic_call (span (place x) (on c)) x xs, goes_on_deep more)
    by_call_deep (g.member_of {x = x} read class colons d more) =
        omega (arith, laws.class_by_expression (place x) x, scoped_deep d, goes_on_deep more)

  scoped_positive : {class : ClassReference} {q : Token} {ts rest : List Token} {x : Expr} → IsScoped class q ts x rest → 1 ≤ nesting x
  scoped_positive (g.class_constant {class = class} {t = t} {name = name} is other shut) =
      omega (arith, laws.class_constant (span (class_place class) (on t)) class name)
  scoped_positive (g.class_name {class = class} {q = q} {t = t} is word shut) =
      omega (arith, laws.class_name (span (class_place class) (on t)) class q.start)
  scoped_positive (g.static_property {class = class} {t = t} {name = name} is shut) =
      omega (arith, laws.static_property (span (class_place class) (on t)) class name)
  scoped_positive (g.static_call {class = class} {c = c} {name = name} {xs = xs} d opens args) =
      omega (arith, laws.static_call (span (class_place class) (on c)) class name xs)

  pub primary_positive : {ts rest : List Token} {x : Expr} → IsPrimary ts x rest → 1 ≤ nesting x
  primary_positive (g.int {t = t} {v = v} is) = omega (arith, laws.int (on t) v)
  primary_positive (g.text {t = t} {bytes = bytes} is) = omega (arith, laws.text (on t) bytes)
  primary_positive (g.interpolated {t = t} {c = c} {bytes = bytes} {parts = parts} is d) =
      omega (arith, laws.interpolated (span (on t) (on c)) (part.Piece (on t) bytes ∷ parts))
  primary_positive (g.variable {t = t} {name = name} is) = omega (arith, laws.variable (on t) name)
  primary_positive (g.constant {t = t} {name = name} is shut) = omega (arith, laws.constant (on t) name)
  primary_positive (g.directory {t = t} is) = omega (arith, laws.directory (on t))
  primary_positive (g.short_array {o = o} {c = c} {items = items} is d) = omega (arith, laws.array (span (on o) (on c)) Short items)
  primary_positive (g.long_array {t = t} {c = c} {items = items} is opens d) = omega (arith, laws.array (span (on t) (on c)) Long items)
  primary_positive (g.call {t = t} {c = c} {name = name} {xs = xs} is opens d) = omega (arith, laws.call (span (on t) (on c)) name xs)
  primary_positive (g.scoped names mark d) = scoped_positive d
  primary_positive (g.new {t = t} {class = class} {xs = xs} {last = last} is names d) = omega (arith, laws.new (span (on t) last) class xs)
  primary_positive (g.new_by {t = t} {x = x} {xs = xs} {last = last} is d more) =
      omega (arith, laws.new (span (on t) last) (c.ByExpression (place x) x) xs)
  primary_positive (g.paren {o = o} {c = c} {x = x} opens d mark) = omega (arith, laws.paren (span (on o) (on c)) x)
  primary_positive (g.isset {t = t} {c = c} {xs = xs} is opens d) = omega (arith, laws.isset (span (on t) (on c)) xs)
  primary_positive (g.empty {t = t} {c = c} {x = x} is opens d mark) = omega (arith, laws.empty (span (on t) (on c)) x)
  primary_positive (g.exit {t = t} is shut) = omega (arith, laws.exit (on t))
  primary_positive (g.exit_of_nothing {t = t} {c = c} is opens mark) = omega (arith, laws.exit (span (on t) (on c)))
  primary_positive (g.exit_with {t = t} {c = c} {x = x} is opens d mark) = omega (arith, laws.exit_with (span (on t) (on c)) x)

  pub postfix_positive : {ts rest : List Token} {x : Expr} → IsPostfix ts x rest → 1 ≤ nesting x
  postfix_positive (g.primary d more) = omega (arith, primary_positive d, goes_on_deep more)

  term_positive : {ts rest : List Token} {x : Expr} → IsTerm ts x rest → 1 ≤ nesting x
  term_positive (g.postfix d read) = postfix_positive d
  term_positive (g.updated {t = t} {form = form} {x = x} d written is) = omega (arith, laws.update (span (place x) (on t)) form x)
  term_positive (g.updates {t = t} {form = form} {x = x} is d written stops) = omega (arith, laws.update (span (on t) (place x)) form x)
  term_positive (g.assign {x = x} {y = y} {op = op} d written is f stops) = omega (arith, laws.assign (span (place x) (place y)) op x y)
  term_positive (g.assign_reference {q = q} {x = x} {y = y} d written is amp f source stops) =
      omega (arith, laws.assign_reference (span (place x) (place y)) x y q.start)
  term_positive (g.destructure {o = o} {items = items} {y = y} opens d is f stops) = omega (arith, laws.destructure (span (on o) (place y)) items y)
  term_positive (g.prefix {t = t} {op = op} {x = x} is d stops) = omega (arith, laws.prefix (span (on t) (place x)) op x)

  pub expression_positive : {l : ℕ} {ts rest : List Token} {x : Expr} → IsExpression l ts x rest → 1 ≤ nesting x
  expression_positive (g.term d) = term_positive d
  expression_positive (g.run {x = x} {o = o} {os = os} le how d tail) = omega (arith, laws.run (span (place x) (last_operand (place x) (o ∷ os))) x (o ∷ os))
  expression_positive (g.to_right {op = op} {x = x} {y = y} le how d is f) = omega (arith, laws.pair (span (place x) (place y)) op x y)
  expression_positive (g.single {op = op} {x = x} {y = y} le how d is f) = omega (arith, laws.pair (span (place x) (place y)) op x y)
  expression_positive (g.instance_of {x = x} {class = class} {classes = classes} le d more) =
      omega (arith, laws.instance_of (span (place x) (last_class (place x) (class ∷ classes))) x (class ∷ classes))
  expression_positive (g.ternary {x = x} {y = y} {z = z} le d q e c f) = omega (arith, laws.ternary (span (place x) (place z)) x y z)
  expression_positive (g.short {x = x} {y = y} {ys = ys} le d more) =
      omega (arith, laws.short_ternary (span (place x) (last_expr (place x) (y ∷ ys))) x (y ∷ ys))

  pub value_positive : {ts rest : List Token} {x : Expr} → IsValue ts x rest → 1 ≤ nesting x
  value_positive (expression d) = expression_positive d
  value_positive (only_written (g.appended d unread is)) = postfix_positive d
  value_positive (only_written (g.nested_targets {o = o} {c = c} {items = items} opens d has)) =
      omega (arith, laws.array (span (on o) (on c)) Targets items)
