-- A derivation of the grammar of statements uses tokens: part by part, in the order of the rules.
use Rattle.std.specs.Prelude.{ℕ, ◌<◌, ◌≤◌, Bool, List, length, Option}
use Rattle.std.proofs.Common.{arith}
use Rattle.hph_ast.specs.declared.token.At.{At}
use Rattle.hph_ast.specs.declared.token.Token.{Token}
use Rattle.hph_ast.specs.declared.token.Identifier.{Identifier}
use Rattle.hph_ast.specs.declared.token.Mark.{Mark}
use Rattle.hph_ast.specs.declared.expr.Expr.{Expr}
use Rattle.hph_ast.specs.declared.function.DeclaredType.{DeclaredType}
use Rattle.hph_ast.specs.declared.function.TypeName.{TypeName}
use Rattle.hph_ast.specs.declared.function.Param.{Param}
use Rattle.hph_ast.specs.declared.function.Function.{Function}
use Rattle.hph_ast.specs.declared.class.Class.{Class}
use Rattle.hph_ast.specs.declared.class.Member.{Member}
use Rattle.hph_ast.specs.declared.class.Modifiers.{Modifiers}
use Rattle.hph_ast.specs.declared.class.ConstantItem.{ConstantItem}
use Rattle.hph_ast.specs.declared.class.PropertyItem.{PropertyItem}
use Rattle.hph_ast.specs.declared.stmt.Statement.{Statement}
use Rattle.hph_ast.specs.declared.stmt.ElseIf.{ElseIf}
use Rattle.hph_ast.specs.declared.stmt.Case.{Case}
use Rattle.hph_ast.specs.declared.stmt.ForeachTarget.{ForeachTarget}
use Rattle.hph_ast.specs.declared.stmt.StaticVariable.{StaticVariable}
use Rattle.hph_ast.specs.Declarations as d
use Rattle.hph_ast.specs.Declarations.{IsConstant, IsVariables, IsInitial, IsStaticVariables, IsPropertyItems, IsConstantItems, IsTypeNames, IsType, IsMaybeType, IsMaybeReference, IsParam, IsParams, IsResult, IsModifiers}
use Rattle.hph_ast.specs.Statements as g
use Rattle.hph_ast.specs.Statements.{IsTest, IsExprs, IsMaybeExprs, IsForeachKey, IsForeachTarget, IsLevels, IsLabel, IsStatement, IsStatements, IsElseIfs, IsElse, IsCases, IsFunction, IsClassDeclaration, IsExtends, IsMembers, IsMember}
use Rattle.hph_cursor.proofs.Shorter.{postfix_shorter, expression_shorter, targets_shorter, paths_shorter}

-- ---- declarations

pub variables_shorter : {m : Mark} {ts rest : List Token} {xs : List Identifier} {c : Token} → IsVariables m ts xs c rest →
    length rest < length ts
variables_shorter (d.variables_last is c) = omega arith
variables_shorter (d.variables_more is q f) = omega (arith, variables_shorter f)

pub initial_shorter : {at last : At} {ts rest : List Token} {v : Option Expr} → IsInitial at ts v last rest → length rest ≤ length ts
initial_shorter d.no_initial = omega arith
initial_shorter (d.initial is f) = omega (arith, expression_shorter f.is)

pub statics_shorter : {ts rest : List Token} {xs : List StaticVariable} {c : Token} → IsStaticVariables ts xs c rest →
    length rest < length ts
statics_shorter (d.statics_last is f c) = omega (arith, initial_shorter f)
statics_shorter (d.statics_more is f q h) = omega (arith, initial_shorter f, statics_shorter h)

pub properties_shorter : {ts rest : List Token} {xs : List PropertyItem} {c : Token} → IsPropertyItems ts xs c rest →
    length rest < length ts
properties_shorter (d.properties_last is f c) = omega (arith, initial_shorter f)
properties_shorter (d.properties_more is f q h) = omega (arith, initial_shorter f, properties_shorter h)

pub constants_shorter : {ts rest : List Token} {xs : List ConstantItem} {c : Token} → IsConstantItems ts xs c rest → length rest < length ts
constants_shorter (d.constants_last is set f c) = omega (arith, expression_shorter f.is)
constants_shorter (d.constants_more is set f q h) = omega (arith, expression_shorter f.is, constants_shorter h)

pub type_names_shorter : {ts rest : List Token} {xs : List TypeName} {c : Token} → IsTypeNames ts xs c rest → length rest < length ts
type_names_shorter (d.types_last is) = omega arith
type_names_shorter (d.types_more is o f) = omega (arith, type_names_shorter f)

pub type_shorter : {ts rest : List Token} {x : DeclaredType} → IsType ts x rest → length rest < length ts
type_shorter (d.plain_type f) = omega (arith, type_names_shorter f)
type_shorter (d.nullable_type q f) = omega (arith, type_names_shorter f)

pub maybe_type_shorter : {ts rest : List Token} {x : Option DeclaredType} → IsMaybeType ts x rest → length rest ≤ length ts
maybe_type_shorter d.no_type = omega arith
maybe_type_shorter (d.some_type f) = omega (arith, type_shorter f)

pub maybe_reference_shorter : {ts rest : List Token} {x : Bool} → IsMaybeReference ts x rest → length rest ≤ length ts
maybe_reference_shorter d.by_value = omega arith
maybe_reference_shorter (d.by_reference is) = omega arith

pub param_shorter : {ts rest : List Token} {x : Param} → IsParam ts x rest → length rest < length ts
param_shorter (d.param f h is i) = omega (arith, maybe_type_shorter f, maybe_reference_shorter h, initial_shorter i)

pub params_shorter : {ts rest : List Token} {xs : List Param} → IsParams ts xs rest → length rest < length ts
params_shorter (d.params_end c) = omega arith
params_shorter (d.params_last f c) = omega (arith, param_shorter f)
params_shorter (d.params_more f o h) = omega (arith, param_shorter f, params_shorter h)

pub result_shorter : {ts rest : List Token} {x : Option DeclaredType} → IsResult ts x rest → length rest ≤ length ts
result_shorter d.no_result = omega arith
result_shorter (d.a_result o f) = omega (arith, type_shorter f)

pub modifiers_shorter : {mods last : Modifiers} {ts rest : List Token} → IsModifiers mods ts last rest → length rest ≤ length ts
modifiers_shorter d.modifiers_end = omega arith
modifiers_shorter (d.an_access is h f) = omega (arith, modifiers_shorter f)
modifiers_shorter (d.a_static is h f) = omega (arith, modifiers_shorter f)

-- ---- parts of statements

pub test_shorter : {ts rest : List Token} {x : Expr} → IsTest ts x rest → length rest < length ts
test_shorter (g.test o d c) = omega (arith, expression_shorter d)

pub exprs_shorter : {m : Mark} {ts rest : List Token} {xs : List Expr} {c : Token} → IsExprs m ts xs c rest → length rest < length ts
exprs_shorter (g.exprs_last d c) = omega (arith, expression_shorter d)
exprs_shorter (g.exprs_more d t f) = omega (arith, expression_shorter d, exprs_shorter f)

pub maybe_exprs_shorter : {m : Mark} {ts rest : List Token} {xs : List Expr} → IsMaybeExprs m ts xs rest → length rest < length ts
maybe_exprs_shorter (g.no_exprs c) = omega arith
maybe_exprs_shorter (g.some_exprs d) = omega (arith, exprs_shorter d)

pub key_shorter : {ts rest : List Token} {x : Option Identifier} → IsForeachKey ts x rest → length rest ≤ length ts
key_shorter g.no_key = omega arith
key_shorter (g.a_key is q) = omega arith

pub target_shorter : {ts rest : List Token} {x : ForeachTarget} → IsForeachTarget ts x rest → length rest < length ts
target_shorter (g.to_variable is) = omega arith
target_shorter (g.to_reference is d source) = omega (arith, postfix_shorter d)
target_shorter (g.to_items o d) = omega (arith, targets_shorter d)

pub levels_shorter : {ts rest : List Token} {x : Option ℕ} {c : Token} → IsLevels ts x c rest → length rest < length ts
levels_shorter (g.no_levels c) = omega arith
levels_shorter (g.levels is c) = omega arith

pub label_shorter : {ts rest : List Token} {x : Option Expr} {c : Token} → IsLabel ts x c rest → length rest < length ts
label_shorter (g.of_case is d c) = omega (arith, expression_shorter d)
label_shorter (g.of_default is c) = omega arith

pub extends_shorter : {ts rest : List Token} {x : Option Identifier} → IsExtends ts x rest → length rest ≤ length ts
extends_shorter g.no_parent = omega arith
extends_shorter (g.extends is q) = omega arith

mutual
  pub statement_shorter : {top : Bool} {ts rest : List Token} {x : Statement} → IsStatement top ts x rest → length rest < length ts
  statement_shorter (g.empty is) = omega arith
  statement_shorter (g.inline_text is) = omega arith
  statement_shorter (g.block o d c) = omega (arith, statements_shorter d)
  statement_shorter (g.expression d c) = omega (arith, expression_shorter d)
  statement_shorter (g.function d) = function_shorter d
  statement_shorter (g.class d) = class_shorter d
  statement_shorter (g.if_ is d f h i) = omega (arith, test_shorter d, statement_shorter f, else_ifs_shorter h, else_shorter i)
  statement_shorter (g.while is d f) = omega (arith, test_shorter d, statement_shorter f)
  statement_shorter (g.do_while is d q f c) = omega (arith, statement_shorter d, test_shorter f)
  statement_shorter (g.for is o d f h i) =
      omega (arith, maybe_exprs_shorter d, maybe_exprs_shorter f, maybe_exprs_shorter h, statement_shorter i)
  statement_shorter (g.foreach is o d q f h c i) = omega (arith, expression_shorter d, key_shorter f, target_shorter h, statement_shorter i)
  statement_shorter (g.switch is d o f c one) = omega (arith, test_shorter d, cases_shorter f)
  statement_shorter (g.break is d) = omega (arith, levels_shorter d)
  statement_shorter (g.continue is d) = omega (arith, levels_shorter d)
  statement_shorter (g.return_nothing is c) = omega arith
  statement_shorter (g.return is d c) = omega (arith, expression_shorter d)
  statement_shorter (g.echo is d) = omega (arith, exprs_shorter d)
  statement_shorter (g.global is d) = omega (arith, variables_shorter d)
  statement_shorter (g.static is d) = omega (arith, statics_shorter d)
  statement_shorter (g.unset is o d c) = omega (arith, paths_shorter d)
  statement_shorter (g.const is d) = omega (arith, constants_shorter d)

  pub statements_shorter : {top : Bool} {ts rest : List Token} {xs : List Statement} → IsStatements top ts xs rest → length rest ≤ length ts
  statements_shorter g.statements_end = omega arith
  statements_shorter (g.statements_more d f) = omega (arith, statement_shorter d, statements_shorter f)

  pub else_ifs_shorter : {ts rest : List Token} {xs : List ElseIf} → IsElseIfs ts xs rest → length rest ≤ length ts
  else_ifs_shorter (g.else_ifs_end h) = omega arith
  else_ifs_shorter (g.else_if is d f h) = omega (arith, test_shorter d, statement_shorter f, else_ifs_shorter h)

  pub else_shorter : {ts rest : List Token} {x : Option Statement} → IsElse ts x rest → length rest ≤ length ts
  else_shorter (g.no_else h) = omega arith
  else_shorter (g.an_else is d) = omega (arith, statement_shorter d)

  pub cases_shorter : {ts rest : List Token} {xs : List Case} → IsCases ts xs rest → length rest ≤ length ts
  cases_shorter g.cases_end = omega arith
  cases_shorter (g.cases_more d f h) = omega (arith, label_shorter d, statements_shorter f, cases_shorter h)

  pub function_shorter : {ts rest : List Token} {x : Function} → IsFunction ts x rest → length rest < length ts
  function_shorter (g.a_function is q o d f b h c) = omega (arith, params_shorter d, result_shorter f, statements_shorter h)

  pub class_shorter : {ts rest : List Token} {x : Class} → IsClassDeclaration ts x rest → length rest < length ts
  class_shorter (g.a_class is q d o f c) = omega (arith, extends_shorter d, members_shorter f)

  pub members_shorter : {ts rest : List Token} {xs : List Member} → IsMembers ts xs rest → length rest ≤ length ts
  members_shorter g.members_end = omega arith
  members_shorter (g.members_more d f) = omega (arith, member_shorter d, members_shorter f)

  pub member_shorter : {ts rest : List Token} {x : Member} → IsMember ts x rest → length rest < length ts
  member_shorter (g.constants d off is f) = omega (arith, modifiers_shorter d, constants_shorter f)
  member_shorter (g.properties d on f h) = omega (arith, modifiers_shorter d, maybe_type_shorter f, properties_shorter h)
  member_shorter (g.method d f) = omega (arith, modifiers_shorter d, function_shorter f)
