-- A derivation of the grammar of expressions uses tokens: part by part, in the order of the rules.
use Rattle.std.specs.Prelude.{ℕ, ◌<◌, ◌≤◌, Bool, List, length}
use Rattle.std.proofs.Common.{arith}
use Rattle.hph_ast.specs.declared.token.At.{At}
use Rattle.hph_ast.specs.declared.token.Token.{Token}
use Rattle.hph_ast.specs.declared.token.Mark.{Mark}
use Rattle.hph_ast.specs.declared.operator.Binary.{Binary}
use Rattle.hph_ast.specs.declared.expr.Expr.{Expr}
use Rattle.hph_ast.specs.declared.expr.StringPart.{StringPart}
use Rattle.hph_ast.specs.declared.expr.Item.{Item}
use Rattle.hph_ast.specs.declared.expr.ClassReference.{ClassReference}
use Rattle.hph_ast.specs.declared.expr.MemberName.{MemberName}
use Rattle.hph_ast.specs.declared.expr.Step.{Step}
use Rattle.hph_ast.specs.Expressions.{IsExpression, IsTail, IsShorts, IsInstances, IsTerm, IsPostfix, GoesOn, GoesOnByCall, IsSteps, IsStep, IsMember, IsScoped, IsPrimary, IsParts, IsInterpolation, IsArguments, IsArgument, IsMaybeArguments, IsItems, IsItem, IsTargets, IsElement, IsWrittenOnly, IsPaths, IsTarget, IsTargetSteps}
use Rattle.hph_ast.specs.Expressions as g

mutual
  pub expression_shorter : {a0 : ℕ} {ts : List Token} {a2 : Expr} {rest : List Token} → IsExpression a0 ts a2 rest → length rest < length ts
  expression_shorter (g.term d0) = omega (arith, term_shorter d0)
  expression_shorter (g.run _ _ d2 d3) = omega (arith, expression_shorter d2, tail_shorter d3)
  expression_shorter (g.to_right _ _ d2 _ d4) = omega (arith, expression_shorter d2, expression_shorter d4)
  expression_shorter (g.single _ _ d2 _ d4) = omega (arith, expression_shorter d2, expression_shorter d4)
  expression_shorter (g.instance_of _ d1 d2) = omega (arith, expression_shorter d1, instances_shorter d2)
  expression_shorter (g.ternary _ d1 _ d3 _ d5) = omega (arith, expression_shorter d1, expression_shorter d3, expression_shorter d5)
  expression_shorter (g.short _ d1 d2) = omega (arith, expression_shorter d1, shorts_shorter d2)

  pub tail_shorter : {a0 : ℕ} {ts : List Token} {a2 : List (Binary × Expr)} {rest : List Token} → IsTail a0 ts a2 rest →
      length rest ≤ length ts
  tail_shorter g.operands_end = omega arith
  tail_shorter (g.operand _ _ d2 d3) = omega (arith, expression_shorter d2, tail_shorter d3)

  pub shorts_shorter : {ts : List Token} {a1 : List Expr} {rest : List Token} → IsShorts ts a1 rest → length rest ≤ length ts
  shorts_shorter g.shorts_end = omega arith
  shorts_shorter (g.shorts_more _ _ d2 d3) = omega (arith, expression_shorter d2, shorts_shorter d3)

  pub instances_shorter : {ts : List Token} {a1 : List ClassReference} {rest : List Token} → IsInstances ts a1 rest →
      length rest ≤ length ts
  instances_shorter g.instances_end = omega arith
  instances_shorter (g.instance _ _ d2) = omega (arith, instances_shorter d2)
  instances_shorter (g.instance_by _ d1 d2) = omega (arith, target_shorter d1, instances_shorter d2)

  pub term_shorter : {ts : List Token} {a1 : Expr} {rest : List Token} → IsTerm ts a1 rest → length rest < length ts
  term_shorter (g.postfix d0 _) = omega (arith, postfix_shorter d0)
  term_shorter (g.updated d0 _ _) = omega (arith, postfix_shorter d0)
  term_shorter (g.updates _ d1 _ _) = omega (arith, postfix_shorter d1)
  term_shorter (g.assign d0 _ _ d3 _) = omega (arith, postfix_shorter d0, expression_shorter d3)
  term_shorter (g.assign_reference d0 _ _ _ d4 _ _) = omega (arith, postfix_shorter d0, postfix_shorter d4)
  term_shorter (g.destructure _ d1 _ d3 _) = omega (arith, targets_shorter d1, expression_shorter d3)
  term_shorter (g.prefix _ d1 _) = omega (arith, expression_shorter d1)

  pub postfix_shorter : {ts : List Token} {a1 : Expr} {rest : List Token} → IsPostfix ts a1 rest → length rest < length ts
  postfix_shorter (g.primary d0 d1) = omega (arith, primary_shorter d0, goes_on_shorter d1)

  pub goes_on_shorter : {a0 : Expr} {ts : List Token} {a2 : Expr} {rest : List Token} → GoesOn a0 ts a2 rest → length rest ≤ length ts
  goes_on_shorter (g.no_steps d0) = omega (arith, goes_on_by_call_shorter d0)
  goes_on_shorter (g.path d0 d1) = omega (arith, steps_shorter d0, goes_on_by_call_shorter d1)

  pub goes_on_by_call_shorter : {a0 : Expr} {ts : List Token} {a2 : Expr} {rest : List Token} → GoesOnByCall a0 ts a2 rest →
      length rest ≤ length ts
  goes_on_by_call_shorter g.ends = omega arith
  goes_on_by_call_shorter (g.method _ _ d2 _ d4 d5) = omega (arith, member_shorter d2, arguments_shorter d4, goes_on_shorter d5)
  goes_on_by_call_shorter (g.call_of _ _ _ d3 d4) = omega (arith, arguments_shorter d3, goes_on_shorter d4)
  goes_on_by_call_shorter (g.member_of _ _ _ d3 d4) = omega (arith, scoped_shorter d3, goes_on_shorter d4)

  pub steps_shorter : {ts : List Token} {a1 : List Step} {rest : List Token} → IsSteps ts a1 rest → length rest ≤ length ts
  steps_shorter g.steps_end = omega arith
  steps_shorter (g.steps_more d0 d1) = omega (arith, step_shorter d0, steps_shorter d1)

  pub step_shorter : {ts : List Token} {a1 : Step} {rest : List Token} → IsStep ts a1 rest → length rest < length ts
  step_shorter (g.index _ d1 _) = omega (arith, expression_shorter d1)
  step_shorter (g.append _ _) = omega arith
  step_shorter (g.property _ d1 _) = omega (arith, member_shorter d1)

  pub member_shorter : {ts : List Token} {a1 : MemberName} {a2 : Token} {rest : List Token} → IsMember ts a1 a2 rest →
      length rest < length ts
  member_shorter (g.by_name _) = omega arith
  member_shorter (g.by_variable _) = omega arith
  member_shorter (g.by_expression _ d1 _) = omega (arith, expression_shorter d1)

  pub scoped_shorter : {a0 : ClassReference} {a1 : Token} {ts : List Token} {a3 : Expr} {rest : List Token} → IsScoped a0 a1 ts a3 rest →
      length rest < length ts
  scoped_shorter (g.class_constant _ _ _) = omega arith
  scoped_shorter (g.class_name _ _ _) = omega arith
  scoped_shorter (g.static_property _ _) = omega arith
  scoped_shorter (g.static_call d0 _ d2) = omega (arith, member_shorter d0, arguments_shorter d2)

  pub primary_shorter : {ts : List Token} {a1 : Expr} {rest : List Token} → IsPrimary ts a1 rest → length rest < length ts
  primary_shorter (g.int _) = omega arith
  primary_shorter (g.text _) = omega arith
  primary_shorter (g.interpolated _ d1) = omega (arith, parts_shorter d1)
  primary_shorter (g.variable _) = omega arith
  primary_shorter (g.constant _ _) = omega arith
  primary_shorter (g.directory _) = omega arith
  primary_shorter (g.short_array _ d1) = omega (arith, items_shorter d1)
  primary_shorter (g.long_array _ _ d2) = omega (arith, items_shorter d2)
  primary_shorter (g.call _ _ d2) = omega (arith, arguments_shorter d2)
  primary_shorter (g.scoped _ _ d2) = omega (arith, scoped_shorter d2)
  primary_shorter (g.new _ _ d2) = omega (arith, maybe_arguments_shorter d2)
  primary_shorter (g.new_by _ d1 d2) = omega (arith, target_shorter d1, maybe_arguments_shorter d2)
  primary_shorter (g.paren _ d1 _) = omega (arith, expression_shorter d1)
  primary_shorter (g.isset _ _ d2) = omega (arith, paths_shorter d2)
  primary_shorter (g.empty _ _ d2 _) = omega (arith, expression_shorter d2)
  primary_shorter (g.exit _ _) = omega arith
  primary_shorter (g.exit_of_nothing _ _ _) = omega arith
  primary_shorter (g.exit_with _ _ d2 _) = omega (arith, expression_shorter d2)

  pub parts_shorter : {ts : List Token} {a1 : List StringPart} {a2 : Token} {rest : List Token} → IsParts ts a1 a2 rest →
      length rest < length ts
  parts_shorter (g.parts_last d0 _) = omega (arith, interpolation_shorter d0)
  parts_shorter (g.parts_more d0 _ d2) = omega (arith, interpolation_shorter d0, parts_shorter d2)

  pub interpolation_shorter : {ts : List Token} {a1 : Expr} {rest : List Token} → IsInterpolation ts a1 rest → length rest < length ts
  interpolation_shorter (g.plain_variable _) = omega arith
  interpolation_shorter (g.with_key _ _ _ _) = omega arith
  interpolation_shorter (g.with_property _ _ _) = omega arith
  interpolation_shorter (g.in_braces _ _ d2 _) = omega (arith, expression_shorter d2)

  pub arguments_shorter : {ts : List Token} {a1 : List Expr} {a2 : Token} {rest : List Token} → IsArguments ts a1 a2 rest →
      length rest < length ts
  arguments_shorter (g.arguments_end _) = omega arith
  arguments_shorter (g.arguments_last d0 _) = omega (arith, argument_shorter d0)
  arguments_shorter (g.arguments_more d0 _ d2) = omega (arith, argument_shorter d0, arguments_shorter d2)

  pub argument_shorter : {ts : List Token} {a1 : Expr} {rest : List Token} → IsArgument ts a1 rest → length rest < length ts
  argument_shorter (g.argument d0) = omega (arith, expression_shorter d0)
  argument_shorter (g.named_argument _ _ d2) = omega (arith, expression_shorter d2)

  pub maybe_arguments_shorter : {a0 : At} {ts : List Token} {a2 : List Expr} {a3 : At} {rest : List Token} →
      IsMaybeArguments a0 ts a2 a3 rest → length rest ≤ length ts
  maybe_arguments_shorter (g.no_arguments _) = omega arith
  maybe_arguments_shorter (g.some_arguments _ d1) = omega (arith, arguments_shorter d1)

  pub items_shorter : {a0 : Mark} {ts : List Token} {a2 : List Item} {a3 : Token} {rest : List Token} → IsItems a0 ts a2 a3 rest →
      length rest < length ts
  items_shorter (g.items_end _) = omega arith
  items_shorter (g.items_last d0 _) = omega (arith, item_shorter d0)
  items_shorter (g.items_more d0 _ d2) = omega (arith, item_shorter d0, items_shorter d2)

  pub item_shorter : {ts : List Token} {a1 : Item} {rest : List Token} → IsItem ts a1 rest → length rest < length ts
  item_shorter (g.value d0) = omega (arith, expression_shorter d0)
  item_shorter (g.pair d0 _ d2) = omega (arith, expression_shorter d0, expression_shorter d2)
  item_shorter (g.reference _ d1 _) = omega (arith, postfix_shorter d1)
  item_shorter (g.pair_reference d0 _ _ d3 _) = omega (arith, expression_shorter d0, postfix_shorter d3)

  pub targets_shorter : {ts : List Token} {a1 : List Item} {a2 : Token} {rest : List Token} → IsTargets ts a1 a2 rest →
      length rest < length ts
  targets_shorter (g.targets_end _) = omega arith
  targets_shorter (g.targets_last d0 _) = omega (arith, element_shorter d0)
  targets_shorter (g.targets_more d0 _ d2) = omega (arith, element_shorter d0, targets_shorter d2)
  targets_shorter (g.targets_hole _ d1) = omega (arith, targets_shorter d1)

  pub element_shorter : {ts : List Token} {a1 : Item} {rest : List Token} → IsElement ts a1 rest → length rest < length ts
  element_shorter (g.element_item d0) = omega (arith, item_shorter d0)
  element_shorter (g.element d0) = omega (arith, written_only_shorter d0)
  element_shorter (g.element_pair d0 _ d2) = omega (arith, expression_shorter d0, written_only_shorter d2)

  pub written_only_shorter : {ts : List Token} {a1 : Expr} {rest : List Token} → IsWrittenOnly ts a1 rest → length rest < length ts
  written_only_shorter (g.appended d0 _ _) = omega (arith, postfix_shorter d0)
  written_only_shorter (g.nested_targets _ d1 _) = omega (arith, targets_shorter d1)

  pub paths_shorter : {a0 : (Expr → Bool)} {ts : List Token} {a2 : List Expr} {a3 : Token} {rest : List Token} → IsPaths a0 ts a2 a3 rest →
      length rest < length ts
  paths_shorter (g.paths_last d0 _ _ _) = omega (arith, postfix_shorter d0)
  paths_shorter (g.paths_last_comma d0 _ _ _ _) = omega (arith, postfix_shorter d0)
  paths_shorter (g.paths_more d0 _ _ _ d4) = omega (arith, postfix_shorter d0, paths_shorter d4)

  pub target_shorter : {ts : List Token} {a1 : Expr} {rest : List Token} → IsTarget ts a1 rest → length rest < length ts
  target_shorter (g.target_variable _ d1) = omega (arith, target_steps_shorter d1)
  target_shorter (g.target_static _ _ _ d3) = omega (arith, target_steps_shorter d3)
  target_shorter (g.target_paren _ d1 _) = omega (arith, expression_shorter d1)

  pub target_steps_shorter : {ts : List Token} {a1 : List Step} {rest : List Token} → IsTargetSteps ts a1 rest → length rest ≤ length ts
  target_steps_shorter (g.target_end _) = omega arith
  target_steps_shorter (g.target_index _ d1 _ d3) = omega (arith, expression_shorter d1, target_steps_shorter d3)
  target_steps_shorter (g.target_property _ d1 d2) = omega (arith, member_shorter d1, target_steps_shorter d2)
  target_steps_shorter (g.target_static_property _ _ d2) = omega (arith, target_steps_shorter d2)
