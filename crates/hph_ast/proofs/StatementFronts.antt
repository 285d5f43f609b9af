-- A derivation of the grammar of statements uses a front of the tokens.
use Rattle.std.specs.Prelude.{ℕ, Bool, List, Option}
use Rattle.hph_ast.specs.declared.token.Token.{Token}
use Rattle.hph_ast.specs.declared.token.Identifier.{Identifier}
use Rattle.hph_ast.specs.declared.token.Mark.{Mark}
use Rattle.hph_ast.specs.declared.expr.Expr.{Expr}
use Rattle.hph_ast.specs.declared.function.Function.{Function}
use Rattle.hph_ast.specs.declared.class.Class.{Class}
use Rattle.hph_ast.specs.declared.class.Member.{Member}
use Rattle.hph_ast.specs.declared.stmt.Statement.{Statement}
use Rattle.hph_ast.specs.declared.stmt.ElseIf.{ElseIf}
use Rattle.hph_ast.specs.declared.stmt.Case.{Case}
use Rattle.hph_ast.specs.declared.stmt.ForeachTarget.{ForeachTarget}
use Rattle.hph_ast.specs.Fronts.{UsesFront}
use Rattle.hph_ast.proofs.Fronts.{nothing, skip, both}
use Rattle.hph_ast.specs.Statements.{IsTest, IsExprs, IsMaybeExprs, IsForeachKey, IsForeachTarget, IsLevels, IsLabel, IsStatement, IsStatements, IsElseIfs, IsElse, IsCases, IsFunction, IsClassDeclaration, IsExtends, IsMembers, IsMember}
use Rattle.hph_ast.specs.Statements as s
use Rattle.hph_ast.proofs.ExpressionFronts.{front_of_expression, front_of_postfix, front_of_targets, front_of_paths}
use Rattle.hph_ast.proofs.DeclarationFronts.{front_of_variables, front_of_static_variables, front_of_property_items, front_of_constant_items, front_of_maybe_type, front_of_params, front_of_result, front_of_modifiers}

pub front_of_test : {ts : List Token} {a1 : Expr} {rest : List Token} → IsTest ts a1 rest → UsesFront ts rest
front_of_test (s.test _ d1 _) = skip (both (front_of_expression d1) (skip nothing))

pub front_of_exprs : {closing : Mark} {ts : List Token} {a1 : List Expr} {a2 : Token} {rest : List Token} → IsExprs closing ts a1 a2 rest → UsesFront ts rest
front_of_exprs (s.exprs_last d0 _) = both (front_of_expression d0) (skip nothing)
front_of_exprs (s.exprs_more d0 _ d2) = both (front_of_expression d0) (skip (front_of_exprs d2))

pub front_of_maybe_exprs : {closing : Mark} {ts : List Token} {a1 : List Expr} {rest : List Token} → IsMaybeExprs closing ts a1 rest → UsesFront ts rest
front_of_maybe_exprs (s.no_exprs _) = skip nothing
front_of_maybe_exprs (s.some_exprs d0) = front_of_exprs d0

pub front_of_foreach_key : {ts : List Token} {a1 : Option Identifier} {rest : List Token} → IsForeachKey ts a1 rest → UsesFront ts rest
front_of_foreach_key s.no_key = nothing
front_of_foreach_key (s.a_key _ _) = skip (skip nothing)

pub front_of_foreach_target : {ts : List Token} {a1 : ForeachTarget} {rest : List Token} → IsForeachTarget ts a1 rest → UsesFront ts rest
front_of_foreach_target (s.to_variable _) = skip nothing
front_of_foreach_target (s.to_reference _ d1 _) = skip (front_of_postfix d1)
front_of_foreach_target (s.to_items _ d1) = skip (front_of_targets d1)

pub front_of_levels : {ts : List Token} {a1 : Option ℕ} {a2 : Token} {rest : List Token} → IsLevels ts a1 a2 rest → UsesFront ts rest
front_of_levels (s.no_levels _) = skip nothing
front_of_levels (s.levels _ _) = skip (skip nothing)

pub front_of_label : {ts : List Token} {a1 : Option Expr} {a2 : Token} {rest : List Token} → IsLabel ts a1 a2 rest → UsesFront ts rest
front_of_label (s.of_case _ d1 _) = skip (both (front_of_expression d1) (skip nothing))
front_of_label (s.of_default _ _) = skip (skip nothing)

mutual
  pub front_of_statement : {a0 : Bool} {ts : List Token} {a2 : Statement} {rest : List Token} → IsStatement a0 ts a2 rest → UsesFront ts rest
  front_of_statement (s.empty _) = skip nothing
  front_of_statement (s.inline_text _) = skip nothing
  front_of_statement (s.block _ d1 _) = skip (both (front_of_statements d1) (skip nothing))
  front_of_statement (s.expression d0 _) = both (front_of_expression d0) (skip nothing)
  front_of_statement (s.function d0) = front_of_function d0
  front_of_statement (s.class d0) = front_of_class_declaration d0
  front_of_statement (s.if_ _ d1 d2 d3 d4) = skip (both (front_of_test d1) (both (front_of_statement d2) (both (front_of_else_ifs d3) (front_of_else d4))))
  front_of_statement (s.while _ d1 d2) = skip (both (front_of_test d1) (front_of_statement d2))
  front_of_statement (s.do_while _ d1 _ d3 _) = skip (both (front_of_statement d1) (skip (both (front_of_test d3) (skip nothing))))
  front_of_statement (s.for _ _ d2 d3 d4 d5) = skip (skip (both (front_of_maybe_exprs d2) (both (front_of_maybe_exprs d3) (both (front_of_maybe_exprs d4) (front_of_statement d5)))))
  front_of_statement (s.foreach _ _ d2 _ d4 d5 _ d7) = skip (skip (both (front_of_expression d2) (skip (both (front_of_foreach_key d4) (both (front_of_foreach_target d5) (skip (front_of_statement d7)))))))
  front_of_statement (s.switch _ d1 _ d3 _ _) = skip (both (front_of_test d1) (skip (both (front_of_cases d3) (skip nothing))))
  front_of_statement (s.break _ d1) = skip (front_of_levels d1)
  front_of_statement (s.continue _ d1) = skip (front_of_levels d1)
  front_of_statement (s.return_nothing _ _) = skip (skip nothing)
  front_of_statement (s.return _ d1 _) = skip (both (front_of_expression d1) (skip nothing))
  front_of_statement (s.echo _ d1) = skip (front_of_exprs d1)
  front_of_statement (s.global _ d1) = skip (front_of_variables d1)
  front_of_statement (s.static _ d1) = skip (front_of_static_variables d1)
  front_of_statement (s.unset _ _ d2 _) = skip (skip (both (front_of_paths d2) (skip nothing)))
  front_of_statement (s.const _ d1) = skip (front_of_constant_items d1)

  pub front_of_statements : {a0 : Bool} {ts : List Token} {a2 : List Statement} {rest : List Token} → IsStatements a0 ts a2 rest → UsesFront ts rest
  front_of_statements s.statements_end = nothing
  front_of_statements (s.statements_more d0 d1) = both (front_of_statement d0) (front_of_statements d1)

  pub front_of_else_ifs : {ts : List Token} {a1 : List ElseIf} {rest : List Token} → IsElseIfs ts a1 rest → UsesFront ts rest
  front_of_else_ifs (s.else_ifs_end _) = nothing
  front_of_else_ifs (s.else_if _ d1 d2 d3) = skip (both (front_of_test d1) (both (front_of_statement d2) (front_of_else_ifs d3)))

  pub front_of_else : {ts : List Token} {a1 : Option Statement} {rest : List Token} → IsElse ts a1 rest → UsesFront ts rest
  front_of_else (s.no_else _) = nothing
  front_of_else (s.an_else _ d1) = skip (front_of_statement d1)

  pub front_of_cases : {ts : List Token} {a1 : List Case} {rest : List Token} → IsCases ts a1 rest → UsesFront ts rest
  front_of_cases s.cases_end = nothing
  front_of_cases (s.cases_more d0 d1 d2) = both (front_of_label d0) (both (front_of_statements d1) (front_of_cases d2))

  pub front_of_function : {ts : List Token} {a1 : Function} {rest : List Token} → IsFunction ts a1 rest → UsesFront ts rest
  front_of_function (s.a_function _ _ _ d3 d4 _ d6 _) = skip (skip (skip (both (front_of_params d3) (both (front_of_result d4) (skip (both (front_of_statements d6) (skip nothing)))))))

  pub front_of_class_declaration : {ts : List Token} {a1 : Class} {rest : List Token} → IsClassDeclaration ts a1 rest → UsesFront ts rest
  front_of_class_declaration (s.a_class _ _ d2 _ d4 _) = skip (skip (both (front_of_extends d2) (skip (both (front_of_members d4) (skip nothing)))))

  pub front_of_extends : {ts : List Token} {a1 : Option Identifier} {rest : List Token} → IsExtends ts a1 rest → UsesFront ts rest
  front_of_extends s.no_parent = nothing
  front_of_extends (s.extends _ _) = skip (skip nothing)

  pub front_of_members : {ts : List Token} {a1 : List Member} {rest : List Token} → IsMembers ts a1 rest → UsesFront ts rest
  front_of_members s.members_end = nothing
  front_of_members (s.members_more d0 d1) = both (front_of_member d0) (front_of_members d1)

  pub front_of_member : {ts : List Token} {a1 : Member} {rest : List Token} → IsMember ts a1 rest → UsesFront ts rest
  front_of_member (s.constants d0 _ _ d3) = both (front_of_modifiers d0) (skip (front_of_constant_items d3))
  front_of_member (s.properties d0 _ d2 d3) = both (front_of_modifiers d0) (both (front_of_maybe_type d2) (front_of_property_items d3))
  front_of_member (s.method d0 d1) = both (front_of_modifiers d0) (front_of_function d1)
