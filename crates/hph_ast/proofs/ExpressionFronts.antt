-- A derivation of the grammar of expressions uses a front of the tokens: part by part, in the order of the rules.
use Rattle.std.specs.Prelude.{ℕ, Bool, List}
use Rattle.hph_ast.specs.declared.token.At.{At}
use Rattle.hph_ast.specs.declared.token.Token.{Token}
use Rattle.hph_ast.specs.declared.token.Mark.{Mark}
use Rattle.hph_ast.specs.declared.operator.Binary.{Binary}
use Rattle.hph_ast.specs.declared.expr.Expr.{Expr}
use Rattle.hph_ast.specs.declared.expr.StringPart.{StringPart}
use Rattle.hph_ast.specs.declared.expr.Item.{Item}
use Rattle.hph_ast.specs.declared.expr.ClassReference.{ClassReference}
use Rattle.hph_ast.specs.declared.expr.MemberName.{MemberName}
use Rattle.hph_ast.specs.declared.expr.Step.{Step}
use Rattle.hph_ast.specs.Fronts.{UsesFront}
use Rattle.hph_ast.proofs.Fronts.{nothing, skip, both}
use Rattle.hph_ast.specs.Expressions.{IsExpression, IsTail, IsShorts, IsInstances, IsTerm, IsPostfix, GoesOn, GoesOnByCall, IsSteps, IsStep, IsMember, IsScoped, IsPrimary, IsParts, IsInterpolation, IsArguments, IsArgument, IsMaybeArguments, IsItems, IsItem, IsTargets, IsElement, IsWrittenOnly, IsPaths, IsTarget, IsTargetSteps}
use Rattle.hph_ast.specs.Expressions as g

mutual
  pub front_of_expression : {a0 : ℕ} {ts : List Token} {a2 : Expr} {rest : List Token} → IsExpression a0 ts a2 rest → UsesFront ts rest
  front_of_expression (g.term d0) = front_of_term d0
  front_of_expression (g.run _ _ d2 d3) = both (front_of_expression d2) (front_of_tail d3)
  front_of_expression (g.to_right _ _ d2 _ d4) = both (front_of_expression d2) (skip (front_of_expression d4))
  front_of_expression (g.single _ _ d2 _ d4) = both (front_of_expression d2) (skip (front_of_expression d4))
  front_of_expression (g.instance_of _ d1 d2) = both (front_of_expression d1) (front_of_instances d2)
  front_of_expression (g.ternary _ d1 _ d3 _ d5) = both (front_of_expression d1) (skip (both (front_of_expression d3) (skip (front_of_expression d5))))
  front_of_expression (g.short _ d1 d2) = both (front_of_expression d1) (front_of_shorts d2)

  pub front_of_tail : {a0 : ℕ} {ts : List Token} {a2 : List (Binary × Expr)} {rest : List Token} → IsTail a0 ts a2 rest → UsesFront ts rest
  front_of_tail g.operands_end = nothing
  front_of_tail (g.operand _ _ d2 d3) = skip (both (front_of_expression d2) (front_of_tail d3))

  pub front_of_shorts : {ts : List Token} {a1 : List Expr} {rest : List Token} → IsShorts ts a1 rest → UsesFront ts rest
  front_of_shorts g.shorts_end = nothing
  front_of_shorts (g.shorts_more _ _ d2 d3) = skip (skip (both (front_of_expression d2) (front_of_shorts d3)))

  pub front_of_instances : {ts : List Token} {a1 : List ClassReference} {rest : List Token} → IsInstances ts a1 rest → UsesFront ts rest
  front_of_instances g.instances_end = nothing
  front_of_instances (g.instance _ _ d2) = skip (skip (front_of_instances d2))
  front_of_instances (g.instance_by _ d1 d2) = skip (both (front_of_target d1) (front_of_instances d2))

  pub front_of_term : {ts : List Token} {a1 : Expr} {rest : List Token} → IsTerm ts a1 rest → UsesFront ts rest
  front_of_term (g.postfix d0 _) = front_of_postfix d0
  front_of_term (g.updated d0 _ _) = both (front_of_postfix d0) (skip nothing)
  front_of_term (g.updates _ d1 _ _) = skip (front_of_postfix d1)
  front_of_term (g.assign d0 _ _ d3 _) = both (front_of_postfix d0) (skip (front_of_expression d3))
  front_of_term (g.assign_reference d0 _ _ _ d4 _ _) = both (front_of_postfix d0) (skip (skip (front_of_postfix d4)))
  front_of_term (g.destructure _ d1 _ d3 _) = skip (both (front_of_targets d1) (skip (front_of_expression d3)))
  front_of_term (g.prefix _ d1 _) = skip (front_of_expression d1)

  pub front_of_postfix : {ts : List Token} {a1 : Expr} {rest : List Token} → IsPostfix ts a1 rest → UsesFront ts rest
  front_of_postfix (g.primary d0 d1) = both (front_of_primary d0) (front_of_goes_on d1)

  pub front_of_goes_on : {a0 : Expr} {ts : List Token} {a2 : Expr} {rest : List Token} → GoesOn a0 ts a2 rest → UsesFront ts rest
  front_of_goes_on (g.no_steps d0) = front_of_goes_on_by_call d0
  front_of_goes_on (g.path d0 d1) = both (front_of_steps d0) (front_of_goes_on_by_call d1)

  pub front_of_goes_on_by_call : {a0 : Expr} {ts : List Token} {a2 : Expr} {rest : List Token} → GoesOnByCall a0 ts a2 rest → UsesFront ts rest
  front_of_goes_on_by_call g.ends = nothing
  front_of_goes_on_by_call (g.method _ _ d2 _ d4 d5) = skip (both (front_of_member d2) (skip (both (front_of_arguments d4) (front_of_goes_on d5))))
  front_of_goes_on_by_call (g.call_of _ _ _ d3 d4) = skip (both (front_of_arguments d3) (front_of_goes_on d4))
  front_of_goes_on_by_call (g.member_of _ _ _ d3 d4) = skip (both (front_of_scoped d3) (front_of_goes_on d4))

  pub front_of_steps : {ts : List Token} {a1 : List Step} {rest : List Token} → IsSteps ts a1 rest → UsesFront ts rest
  front_of_steps g.steps_end = nothing
  front_of_steps (g.steps_more d0 d1) = both (front_of_step d0) (front_of_steps d1)

  pub front_of_step : {ts : List Token} {a1 : Step} {rest : List Token} → IsStep ts a1 rest → UsesFront ts rest
  front_of_step (g.index _ d1 _) = skip (both (front_of_expression d1) (skip nothing))
  front_of_step (g.append _ _) = skip (skip nothing)
  front_of_step (g.property _ d1 _) = skip (front_of_member d1)

  pub front_of_member : {ts : List Token} {a1 : MemberName} {a2 : Token} {rest : List Token} → IsMember ts a1 a2 rest → UsesFront ts rest
  front_of_member (g.by_name _) = skip nothing
  front_of_member (g.by_variable _) = skip nothing
  front_of_member (g.by_expression _ d1 _) = skip (both (front_of_expression d1) (skip nothing))

  pub front_of_scoped : {a0 : ClassReference} {a1 : Token} {ts : List Token} {a3 : Expr} {rest : List Token} → IsScoped a0 a1 ts a3 rest → UsesFront ts rest
  front_of_scoped (g.class_constant _ _ _) = skip nothing
  front_of_scoped (g.class_name _ _ _) = skip nothing
  front_of_scoped (g.static_property _ _) = skip nothing
  front_of_scoped (g.static_call d0 _ d2) = both (front_of_member d0) (skip (front_of_arguments d2))

  pub front_of_primary : {ts : List Token} {a1 : Expr} {rest : List Token} → IsPrimary ts a1 rest → UsesFront ts rest
  front_of_primary (g.int _) = skip nothing
  front_of_primary (g.text _) = skip nothing
  front_of_primary (g.interpolated _ d1) = skip (front_of_parts d1)
  front_of_primary (g.variable _) = skip nothing
  front_of_primary (g.constant _ _) = skip nothing
  front_of_primary (g.directory _) = skip nothing
  front_of_primary (g.short_array _ d1) = skip (front_of_items d1)
  front_of_primary (g.long_array _ _ d2) = skip (skip (front_of_items d2))
  front_of_primary (g.call _ _ d2) = skip (skip (front_of_arguments d2))
  front_of_primary (g.scoped _ _ d2) = skip (skip (front_of_scoped d2))
  front_of_primary (g.new _ _ d2) = skip (skip (front_of_maybe_arguments d2))
  front_of_primary (g.new_by _ d1 d2) = skip (both (front_of_target d1) (front_of_maybe_arguments d2))
  front_of_primary (g.paren _ d1 _) = skip (both (front_of_expression d1) (skip nothing))
  front_of_primary (g.isset _ _ d2) = skip (skip (front_of_paths d2))
  front_of_primary (g.empty _ _ d2 _) = skip (skip (both (front_of_expression d2) (skip nothing)))
  front_of_primary (g.exit _ _) = skip nothing
  front_of_primary (g.exit_of_nothing _ _ _) = skip (skip (skip nothing))
  front_of_primary (g.exit_with _ _ d2 _) = skip (skip (both (front_of_expression d2) (skip nothing)))

  pub front_of_parts : {ts : List Token} {a1 : List StringPart} {a2 : Token} {rest : List Token} → IsParts ts a1 a2 rest → UsesFront ts rest
  front_of_parts (g.parts_last d0 _) = both (front_of_interpolation d0) (skip nothing)
  front_of_parts (g.parts_more d0 _ d2) = both (front_of_interpolation d0) (skip (front_of_parts d2))

  pub front_of_interpolation : {ts : List Token} {a1 : Expr} {rest : List Token} → IsInterpolation ts a1 rest → UsesFront ts rest
  front_of_interpolation (g.plain_variable _) = skip nothing
  front_of_interpolation (g.with_key _ _ _ _) = skip (skip (skip (skip nothing)))
  front_of_interpolation (g.with_property _ _ _) = skip (skip (skip nothing))
  front_of_interpolation (g.in_braces _ _ d2 _) = skip (both (front_of_expression d2) (skip nothing))

  pub front_of_arguments : {ts : List Token} {a1 : List Expr} {a2 : Token} {rest : List Token} → IsArguments ts a1 a2 rest → UsesFront ts rest
  front_of_arguments (g.arguments_end _) = skip nothing
  front_of_arguments (g.arguments_last d0 _) = both (front_of_argument d0) (skip nothing)
  front_of_arguments (g.arguments_more d0 _ d2) = both (front_of_argument d0) (skip (front_of_arguments d2))

  pub front_of_argument : {ts : List Token} {a1 : Expr} {rest : List Token} → IsArgument ts a1 rest → UsesFront ts rest
  front_of_argument (g.argument d0) = front_of_expression d0
  front_of_argument (g.named_argument _ _ d2) = skip (skip (front_of_expression d2))

  pub front_of_maybe_arguments : {a0 : At} {ts : List Token} {a2 : List Expr} {a3 : At} {rest : List Token} → IsMaybeArguments a0 ts a2 a3 rest → UsesFront ts rest
  front_of_maybe_arguments (g.no_arguments _) = nothing
  front_of_maybe_arguments (g.some_arguments _ d1) = skip (front_of_arguments d1)

  pub front_of_items : {a0 : Mark} {ts : List Token} {a2 : List Item} {a3 : Token} {rest : List Token} → IsItems a0 ts a2 a3 rest → UsesFront ts rest
  front_of_items (g.items_end _) = skip nothing
  front_of_items (g.items_last d0 _) = both (front_of_item d0) (skip nothing)
  front_of_items (g.items_more d0 _ d2) = both (front_of_item d0) (skip (front_of_items d2))

  pub front_of_item : {ts : List Token} {a1 : Item} {rest : List Token} → IsItem ts a1 rest → UsesFront ts rest
  front_of_item (g.value d0) = front_of_expression d0
  front_of_item (g.pair d0 _ d2) = both (front_of_expression d0) (skip (front_of_expression d2))
  front_of_item (g.reference _ d1 _) = skip (front_of_postfix d1)
  front_of_item (g.pair_reference d0 _ _ d3 _) = both (front_of_expression d0) (skip (skip (front_of_postfix d3)))

  pub front_of_targets : {ts : List Token} {a1 : List Item} {a2 : Token} {rest : List Token} → IsTargets ts a1 a2 rest → UsesFront ts rest
  front_of_targets (g.targets_end _) = skip nothing
  front_of_targets (g.targets_last d0 _) = both (front_of_element d0) (skip nothing)
  front_of_targets (g.targets_more d0 _ d2) = both (front_of_element d0) (skip (front_of_targets d2))
  front_of_targets (g.targets_hole _ d1) = skip (front_of_targets d1)

  pub front_of_element : {ts : List Token} {a1 : Item} {rest : List Token} → IsElement ts a1 rest → UsesFront ts rest
  front_of_element (g.element_item d0) = front_of_item d0
  front_of_element (g.element d0) = front_of_written_only d0
  front_of_element (g.element_pair d0 _ d2) = both (front_of_expression d0) (skip (front_of_written_only d2))

  pub front_of_written_only : {ts : List Token} {a1 : Expr} {rest : List Token} → IsWrittenOnly ts a1 rest → UsesFront ts rest
  front_of_written_only (g.appended d0 _ _) = front_of_postfix d0
  front_of_written_only (g.nested_targets _ d1 _) = skip (front_of_targets d1)

  pub front_of_paths : {a0 : (Expr → Bool)} {ts : List Token} {a2 : List Expr} {a3 : Token} {rest : List Token} → IsPaths a0 ts a2 a3 rest → UsesFront ts rest
  front_of_paths (g.paths_last d0 _ _ _) = both (front_of_postfix d0) (skip nothing)
  front_of_paths (g.paths_last_comma d0 _ _ _ _) = both (front_of_postfix d0) (skip (skip nothing))
  front_of_paths (g.paths_more d0 _ _ _ d4) = both (front_of_postfix d0) (skip (front_of_paths d4))

  pub front_of_target : {ts : List Token} {a1 : Expr} {rest : List Token} → IsTarget ts a1 rest → UsesFront ts rest
  front_of_target (g.target_variable _ d1) = skip (front_of_target_steps d1)
  front_of_target (g.target_static _ _ _ d3) = skip (skip (skip (front_of_target_steps d3)))
  front_of_target (g.target_paren _ d1 _) = skip (both (front_of_expression d1) (skip nothing))

  pub front_of_target_steps : {ts : List Token} {a1 : List Step} {rest : List Token} → IsTargetSteps ts a1 rest → UsesFront ts rest
  front_of_target_steps (g.target_end _) = nothing
  front_of_target_steps (g.target_index _ d1 _ d3) = skip (both (front_of_expression d1) (skip (front_of_target_steps d3)))
  front_of_target_steps (g.target_property _ d1 d2) = skip (both (front_of_member d1) (front_of_target_steps d2))
  front_of_target_steps (g.target_static_property _ _ d2) = skip (skip (front_of_target_steps d2))
