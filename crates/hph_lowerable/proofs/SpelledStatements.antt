-- What the tokens of a statement tell of it: part by part, in the order of the rules.
use Rattle.std.specs.Prelude.{◌≡◌, ℕ, suc, ◌+◌, Bool, true, ◌&&◌, List, [], ◌∷◌, map, Option, None, Some}
use Rattle.std.specs.List.{list_all}
use Rattle.std.proofs.Common.{arith, refl, ap, subst}
use Rattle.hph_ast.specs.declared.token.At.{At}
use Rattle.hph_ast.specs.declared.token.Token.{Token}
use Rattle.hph_ast.specs.declared.token.Identifier.{Identifier}
use Rattle.hph_ast.specs.declared.token.Mark.{Mark}
use Rattle.hph_ast.specs.declared.expr.Expr.{Expr}
use Rattle.hph_ast.specs.declared.expr.Item.{Item}
use Rattle.hph_ast.specs.declared.function.DeclaredType.{DeclaredType}
use Rattle.hph_ast.specs.declared.function.TypeName.{TypeName}
use Rattle.hph_ast.specs.declared.function.Param.{Param}
use Rattle.hph_ast.specs.declared.function.Function.{Function}
use Rattle.hph_ast.specs.declared.class.Class.{Class}
use Rattle.hph_ast.specs.declared.class.Modifiers.{Modifiers}
use Rattle.hph_ast.specs.declared.class.ConstantItem.{ConstantItem}
use Rattle.hph_ast.specs.declared.class.PropertyItem.{PropertyItem}
use Rattle.hph_ast.specs.declared.class.Member.{Member}
use Rattle.hph_ast.specs.declared.stmt.Statement.{Statement}
use Rattle.hph_ast.specs.declared.stmt.Case.{Case}
use Rattle.hph_ast.specs.declared.stmt.ElseIf.{ElseIf}
use Rattle.hph_ast.specs.declared.stmt.StaticVariable.{StaticVariable}
use Rattle.hph_ast.specs.declared.stmt.ForeachTarget.{ForeachTarget}
use Rattle.hph_ast.specs.declared.program.FileTree.{FileTree}
use Rattle.hph_ast.specs.Shapes.{is_written}
use Rattle.hph_ast.specs.Expressions.{IsExpression, IsPaths}
use Rattle.hph_ast.specs.Expressions as x
use Rattle.hph_ast.specs.Declarations.{IsConstant, IsVariables, IsInitial, IsStaticVariables, IsPropertyItems, IsConstantItems, IsTypeNames, IsType, IsMaybeType, IsMaybeReference, IsParam, IsParams, IsResult, IsModifiers}
use Rattle.hph_ast.specs.Declarations as d
use Rattle.hph_ast.specs.Statements.{IsTest, IsExprs, IsMaybeExprs, IsForeachKey, IsForeachTarget, IsLevels, IsLabel, IsStatement, IsStatements, IsElseIfs, IsElse, IsCases, IsFunction, IsClassDeclaration, IsExtends, IsMembers, IsMember, IsFile}
use Rattle.hph_ast.specs.Statements as g
use Rattle.hph_php.specs.Cost.{nodes, item_nodes, total, total_of, maybe, statement_nodes, param_nodes, target_nodes}
use Rattle.hph_lowerable.specs.Facts.{expression_fits, written_fits, constant_fits, maybe_fits, constant_item_fits, property_fits, static_fits, param_fits, each, statement_fits, tree_fits}
use Rattle.hph_lowerable.proofs.Chains.{Chain, nothing, pays_two, pays_one, behind, then_one, then_none, both, node_both, given, count, passing, unasked, one_less}
use Rattle.hph_lowerable.proofs.ExpressionLevels.{Spelt}
use Rattle.hph_lowerable.proofs.SpelledExpressions.{expression, postfix, targets, written}
use Rattle.hph_lowerable.proofs.StatementLevels.{member_nodes, member_fits, case_nodes, case_fits, branch_nodes, branch_fits, SpeltStatement, SpeltMember, SpeltClassDeclaration, of_class, SpeltFunction, of_function, of_case, of_else_if, of_empty, of_inline_text, of_block, of_expression, of_function_statement, of_class_statement, of_if, of_while, of_do_while, of_for, of_foreach, of_switch, of_break, of_continue, of_return, of_echo, of_global, of_static, of_unset, of_const, of_member_constants, of_member_properties, of_member_method}

-- ---- expressions, and lists of them

test : {ts rest : List Token} {x : Expr} → IsTest ts x rest → Spelt ts x rest
test (g.test _ d _) = record { chain = behind (then_none (expression d).chain) }

abbrev SpeltEach : List Token → List Expr → List Token → Type 0
SpeltEach ts xs rest = Chain ts (total_of nodes xs) (list_all expression_fits xs) rest

expressions : {closing : Mark} {ts rest : List Token} {xs : List Expr} {c : Token} → IsExprs closing ts xs c rest → SpeltEach ts xs rest
expressions (g.exprs_last d _) = both (then_none (expression d).chain) nothing
expressions (g.exprs_more d _ d2) = both (then_none (expression d).chain) (expressions d2)

maybe_expressions : {closing : Mark} {ts rest : List Token} {xs : List Expr} → IsMaybeExprs closing ts xs rest → SpeltEach ts xs rest
maybe_expressions (g.no_exprs _) = behind nothing
maybe_expressions (g.some_exprs d) = expressions d

unset_paths : {ts rest : List Token} {xs : List Expr} {c : Token} → IsPaths is_written ts xs c rest →
    Chain ts (total_of nodes xs) (list_all written_fits xs) rest
unset_paths (x.paths_last d _ is _) = both (given (written _ is) (then_none (postfix d).chain)) nothing
unset_paths (x.paths_last_comma d _ is _ _) = both (given (written _ is) (then_none (then_none (postfix d).chain))) nothing
unset_paths (x.paths_more d _ is _ d2) = both (given (written _ is) (then_none (postfix d).chain)) (unset_paths d2)

-- ---- parts of declarations

constant : {ts rest : List Token} {x : Expr} → IsConstant ts x rest → Chain ts (nodes x) (constant_fits x) rest
constant c = given c.constant (expression c.is).chain

variables : {closing : Mark} {ts rest : List Token} {names : List Identifier} {c : Token} → IsVariables closing ts names c rest →
    Chain ts (total_of (λ (name : Identifier). 1) names) true rest
variables (d.variables_last _ _) = count (omega arith) (pays_one (behind nothing))
variables (d.variables_more _ _ d) = count (omega arith) (pays_one (behind (variables d)))

initial : {at last : At} {ts rest : List Token} {x : Option Expr} → IsInitial at ts x last rest →
    Chain ts (maybe nodes x) (maybe_fits constant_fits x) rest
initial d.no_initial = nothing
initial (d.initial _ c) = behind (constant c)

statics : {ts rest : List Token} {vs : List StaticVariable} {c : Token} → IsStaticVariables ts vs c rest →
    Chain ts (total_of (λ (v : StaticVariable). suc (maybe nodes v.value)) vs) (list_all static_fits vs) rest
statics (d.statics_last _ d _) = both (pays_one (then_none (initial d))) nothing
statics (d.statics_more _ d _ d2) = both (pays_one (then_none (initial d))) (statics d2)

-- the last token pays for the declaration
properties : {ts rest : List Token} {is : List PropertyItem} {c : Token} → IsPropertyItems ts is c rest →
    Chain ts (suc (total_of (λ (i : PropertyItem). suc (maybe nodes i.value)) is)) (list_all property_fits is) rest
properties (d.properties_last _ d _) = count (omega arith) (both (pays_one (then_one (initial d))) nothing)
properties (d.properties_more _ d _ d2) = count (omega arith) (both (pays_one (then_none (initial d))) (properties d2))

constants : {ts rest : List Token} {is : List ConstantItem} {c : Token} → IsConstantItems ts is c rest →
    Chain ts (total_of (λ (i : ConstantItem). suc (nodes i.value)) is) (list_all constant_item_fits is) rest
constants (d.constants_last _ _ c _) = both (pays_one (behind (then_none (constant c)))) nothing
constants (d.constants_more _ _ c _ d) = both (pays_one (behind (then_none (constant c)))) (constants d)

type_names : {ts rest : List Token} {names : List TypeName} {c : Token} → IsTypeNames ts names c rest → Chain ts 1 true rest
type_names (d.types_last _) = pays_one nothing
type_names (d.types_more _ _ d) = behind (behind (type_names d))

type : {ts rest : List Token} {ty : DeclaredType} → IsType ts ty rest → Chain ts 1 true rest
type (d.plain_type d) = type_names d
type (d.nullable_type _ d) = behind (type_names d)

maybe_type : {ts rest : List Token} {ty : Option DeclaredType} → IsMaybeType ts ty rest → Chain ts (maybe (λ ty. 1) ty) true rest
maybe_type d.no_type = nothing
maybe_type (d.some_type d) = type d

result : {ts rest : List Token} {ty : Option DeclaredType} → IsResult ts ty rest → Chain ts (maybe (λ ty. 1) ty) true rest
result d.no_result = nothing
result (d.a_result _ d) = behind (type d)

by_reference : {ts rest : List Token} {b : Bool} → IsMaybeReference ts b rest → Chain ts 0 true rest
by_reference d.by_value = nothing
by_reference (d.by_reference _) = behind nothing

param : {ts rest : List Token} {p : Param} → IsParam ts p rest → Chain ts (param_nodes p) (param_fits p) rest
param (d.param d d1 _ d3) = count (omega arith) (both (maybe_type d) (passing (by_reference d1) (pays_one (initial d3))))

params : {ts rest : List Token} {ps : List Param} → IsParams ts ps rest → Chain ts (total_of param_nodes ps) (list_all param_fits ps) rest
params (d.params_end _) = behind nothing
params (d.params_last d _) = both (then_none (param d)) nothing
params (d.params_more d _ d2) = both (then_none (param d)) (params d2)

modifiers : {mods last : Modifiers} {ts rest : List Token} → IsModifiers mods ts last rest → Chain ts 0 true rest
modifiers d.modifiers_end = nothing
modifiers (d.an_access _ _ d) = behind (modifiers d)
modifiers (d.a_static _ _ d) = behind (modifiers d)

-- ---- parts of statements

foreach_key : {ts rest : List Token} {key : Option Identifier} → IsForeachKey ts key rest → Chain ts 0 true rest
foreach_key g.no_key = nothing
foreach_key (g.a_key _ _) = behind (behind nothing)

total_is : (xs : List Item) → total (map item_nodes xs) ≡ total_of item_nodes xs
total_is [] = refl
total_is (x ∷ xs) = ap (λ n. item_nodes x + n) (total_is xs)

foreach_target : {ts rest : List Token} {t : ForeachTarget} → IsForeachTarget ts t rest → Chain ts (target_nodes t) true rest
foreach_target (g.to_variable _) = behind nothing
foreach_target (g.to_reference _ d _) = unasked (behind (postfix d).chain)
foreach_target {rest = rest} (g.to_items {ts = ts} {o = o} {items = items} _ d) =
    subst (λ n. Chain (o ∷ ts) n true rest) (total_is items) (unasked (behind (targets d)))

levels : {ts rest : List Token} {n : Option ℕ} {c : Token} → IsLevels ts n c rest → Chain ts 0 true rest
levels (g.no_levels _) = behind nothing
levels (g.levels _ _) = behind (behind nothing)

-- with the node of the case
label : {ts rest : List Token} {x : Option Expr} {c : Token} → IsLabel ts x c rest →
    Chain ts (suc (maybe nodes x)) (maybe_fits expression_fits x) rest
label (g.of_case _ d _) = pays_one (then_none (expression d).chain)
label (g.of_default _ _) = pays_one (behind nothing)

extends : {ts rest : List Token} {parent : Option Identifier} → IsExtends ts parent rest → Chain ts 0 true rest
extends g.no_parent = nothing
extends (g.extends _ _) = behind (behind nothing)

abbrev SpeltStatements : List Token → List Statement → List Token → Type 0
SpeltStatements ts xs rest = Chain ts (total (map statement_nodes xs)) (each (map statement_fits xs)) rest

-- ---- derivations

mutual
  statement : {top : Bool} {ts rest : List Token} {x : Statement} → IsStatement top ts x rest → SpeltStatement ts x rest
  statement (g.empty _) = of_empty (pays_one nothing)
  statement (g.inline_text _) = of_inline_text (pays_one nothing)
  statement (g.block _ d _) = of_block _ (pays_one (then_none (statements d)))
  statement (g.expression d _) = of_expression _ (then_one (expression d).chain)
  statement (g.function d) = of_function_statement _ (one_less (function d).chain)
  statement (g.class d) = of_class_statement _ (class d).chain
  statement (g.if_ _ d1 d2 d3 (g.no_else _)) = of_if _ _ _ None (pays_one (both (test d1).chain (both (statement d2).chain (both (else_ifs d3) nothing))))
  statement (g.if_ _ d1 d2 d3 (g.an_else _ d4)) =
      of_if _ _ _ (Some _) (pays_one (both (test d1).chain (both (statement d2).chain (both (else_ifs d3) (behind (statement d4).chain)))))
  statement (g.while _ d1 d2) = of_while _ _ (pays_one (both (test d1).chain (statement d2).chain))
  statement (g.do_while _ d1 _ d3 _) = of_do_while _ _ (pays_one (both (then_none (statement d1).chain) (then_none (test d3).chain)))
  statement (g.for _ _ d2 d3 d4 d5) =
      of_for _ _ _ _ (pays_one (behind (both (maybe_expressions d2) (both (maybe_expressions d3) (both (maybe_expressions d4) (statement d5).chain)))))
  statement (g.foreach _ _ d2 _ d4 d5 _ d7) = of_foreach _ _ _ (pays_one (behind (both (then_none (expression d2).chain)
      (passing (foreach_key d4) (both (then_none (foreach_target d5)) (statement d7).chain)))))
  statement (g.switch _ d1 _ d3 _ _) = of_switch _ _ (pays_one (both (then_none (test d1).chain) (then_none (cases d3))))
  statement (g.break _ d) = of_break (pays_one (levels d))
  statement (g.continue _ d) = of_continue (pays_one (levels d))
  statement (g.return_nothing _ _) = of_return None (pays_one (behind nothing))
  statement (g.return _ d _) = of_return (Some _) (pays_one (then_none (expression d).chain))
  statement (g.echo _ d) = of_echo _ (pays_one (expressions d))
  statement (g.global _ d) = of_global (pays_one (variables d))
  statement (g.static _ d) = of_static _ (pays_one (statics d))
  statement (g.unset _ _ d _) = of_unset _ (pays_one (behind (then_none (unset_paths d))))
  statement (g.const _ d) = of_const _ (pays_one (constants d))

  statements : {top : Bool} {ts rest : List Token} {xs : List Statement} → IsStatements top ts xs rest → SpeltStatements ts xs rest
  statements g.statements_end = nothing
  statements (g.statements_more d d2) = both (statement d).chain (statements d2)

  else_ifs : {ts rest : List Token} {bs : List ElseIf} → IsElseIfs ts bs rest → Chain ts (total (map branch_nodes bs)) (each (map branch_fits bs)) rest
  else_ifs (g.else_ifs_end _) = nothing
  else_ifs (g.else_if _ d1 d2 d3) = both (of_else_if _ (behind (both (test d1).chain (statement d2).chain))).chain (else_ifs d3)

  cases : {ts rest : List Token} {cs : List Case} → IsCases ts cs rest → Chain ts (total (map case_nodes cs)) (each (map case_fits cs)) rest
  cases g.cases_end = nothing
  cases (g.cases_more d d2 d3) = both (of_case _ (node_both (label d) (statements d2))).chain (cases d3)

  function : {ts rest : List Token} {f : Function} → IsFunction ts f rest → SpeltFunction ts f rest
  function (g.a_function _ _ _ d3 d4 _ d6 _) =
      of_function _ (pays_two (behind (behind (both (params d3) (both (then_none (result d4)) (then_none (statements d6)))))))

  class : {ts rest : List Token} {c : Class} → IsClassDeclaration ts c rest → SpeltClassDeclaration ts c rest
  class (g.a_class _ _ d2 _ d4 _) = of_class _ (pays_one (behind (passing (extends d2) (behind (then_none (members d4))))))

  members : {ts rest : List Token} {ms : List Member} → IsMembers ts ms rest → Chain ts (total (map member_nodes ms)) (each (map member_fits ms)) rest
  members g.members_end = nothing
  members (g.members_more d d2) = both (member d).chain (members d2)

  member : {ts rest : List Token} {m : Member} → IsMember ts m rest → SpeltMember ts m rest
  member (g.constants d _ _ d3) = of_member_constants _ (passing (modifiers d) (pays_one (constants d3)))
  member (g.properties d _ d2 d3) = of_member_properties _ _ (passing (modifiers d) (count (omega arith) (both (maybe_type d2) (properties d3))))
  member (g.method d d1) = of_member_method _ (passing (modifiers d) (function d1).chain)

-- ---- files

whole : {ts rest : List Token} (xs : List Statement) → SpeltStatements ts xs rest → Chain ts (total_of statement_nodes xs) (list_all statement_fits xs) rest
whole {ts} {rest} xs c = subst (λ n. Chain ts n (list_all statement_fits xs) rest) (nodes_are xs) (subst (λ b. Chain ts (total (map statement_nodes xs)) b rest) (fits_are xs) c)
  where
    nodes_are : (xs : List Statement) → total (map statement_nodes xs) ≡ total_of statement_nodes xs
    nodes_are [] = refl
    nodes_are (x ∷ xs) = ap (λ n. statement_nodes x + n) (nodes_are xs)

    fits_are : (xs : List Statement) → each (map statement_fits xs) ≡ list_all statement_fits xs
    fits_are [] = refl
    fits_are (x ∷ xs) = ap (λ b. statement_fits x && b) (fits_are xs)

pub file : {ts : List Token} {tree : FileTree} → IsFile ts tree → Chain ts (total_of statement_nodes tree.statements) (tree_fits tree) []
file (g.file d) = whole _ (statements d)
