-- A derivation of the parts of declarations uses a front of the tokens.
use Rattle.std.specs.Prelude.{Bool, List, Option}
use Rattle.hph_ast.specs.declared.token.At.{At}
use Rattle.hph_ast.specs.declared.token.Token.{Token}
use Rattle.hph_ast.specs.declared.token.Identifier.{Identifier}
use Rattle.hph_ast.specs.declared.token.Mark.{Mark}
use Rattle.hph_ast.specs.declared.expr.Expr.{Expr}
use Rattle.hph_ast.specs.declared.function.DeclaredType.{DeclaredType}
use Rattle.hph_ast.specs.declared.function.TypeName.{TypeName}
use Rattle.hph_ast.specs.declared.function.Param.{Param}
use Rattle.hph_ast.specs.declared.class.Modifiers.{Modifiers}
use Rattle.hph_ast.specs.declared.class.ConstantItem.{ConstantItem}
use Rattle.hph_ast.specs.declared.class.PropertyItem.{PropertyItem}
use Rattle.hph_ast.specs.declared.stmt.StaticVariable.{StaticVariable}
use Rattle.hph_ast.specs.Fronts.{UsesFront}
use Rattle.hph_ast.proofs.Fronts.{nothing, skip, both}
use Rattle.hph_ast.specs.Declarations.{IsVariables, IsInitial, IsStaticVariables, IsPropertyItems, IsConstantItems, IsTypeNames, IsType, IsMaybeType, IsMaybeReference, IsParam, IsParams, IsResult, IsModifiers}
use Rattle.hph_ast.specs.Declarations as d
use Rattle.hph_ast.proofs.ExpressionFronts.{front_of_expression}

pub front_of_variables : {closing : Mark} {ts : List Token} {a1 : List Identifier} {a2 : Token} {rest : List Token} → IsVariables closing ts a1 a2 rest → UsesFront ts rest
front_of_variables (d.variables_last _ _) = skip (skip nothing)
front_of_variables (d.variables_more _ _ d2) = skip (skip (front_of_variables d2))

pub front_of_initial : {a0 : At} {ts : List Token} {a2 : Option Expr} {a3 : At} {rest : List Token} → IsInitial a0 ts a2 a3 rest → UsesFront ts rest
front_of_initial d.no_initial = nothing
front_of_initial (d.initial _ d1) = skip (front_of_expression (d1.is))

pub front_of_static_variables : {ts : List Token} {a1 : List StaticVariable} {a2 : Token} {rest : List Token} → IsStaticVariables ts a1 a2 rest → UsesFront ts rest
front_of_static_variables (d.statics_last _ d1 _) = skip (both (front_of_initial d1) (skip nothing))
front_of_static_variables (d.statics_more _ d1 _ d3) = skip (both (front_of_initial d1) (skip (front_of_static_variables d3)))

pub front_of_property_items : {ts : List Token} {a1 : List PropertyItem} {a2 : Token} {rest : List Token} → IsPropertyItems ts a1 a2 rest → UsesFront ts rest
front_of_property_items (d.properties_last _ d1 _) = skip (both (front_of_initial d1) (skip nothing))
front_of_property_items (d.properties_more _ d1 _ d3) = skip (both (front_of_initial d1) (skip (front_of_property_items d3)))

pub front_of_constant_items : {ts : List Token} {a1 : List ConstantItem} {a2 : Token} {rest : List Token} → IsConstantItems ts a1 a2 rest → UsesFront ts rest
front_of_constant_items (d.constants_last _ _ d2 _) = skip (skip (both (front_of_expression (d2.is)) (skip nothing)))
front_of_constant_items (d.constants_more _ _ d2 _ d4) = skip (skip (both (front_of_expression (d2.is)) (skip (front_of_constant_items d4))))

pub front_of_type_names : {ts : List Token} {a1 : List TypeName} {a2 : Token} {rest : List Token} → IsTypeNames ts a1 a2 rest → UsesFront ts rest
front_of_type_names (d.types_last _) = skip nothing
front_of_type_names (d.types_more _ _ d2) = skip (skip (front_of_type_names d2))

pub front_of_type : {ts : List Token} {a1 : DeclaredType} {rest : List Token} → IsType ts a1 rest → UsesFront ts rest
front_of_type (d.plain_type d0) = front_of_type_names d0
front_of_type (d.nullable_type _ d1) = skip (front_of_type_names d1)

pub front_of_maybe_type : {ts : List Token} {a1 : Option DeclaredType} {rest : List Token} → IsMaybeType ts a1 rest → UsesFront ts rest
front_of_maybe_type d.no_type = nothing
front_of_maybe_type (d.some_type d0) = front_of_type d0

pub front_of_maybe_reference : {ts : List Token} {a1 : Bool} {rest : List Token} → IsMaybeReference ts a1 rest → UsesFront ts rest
front_of_maybe_reference d.by_value = nothing
front_of_maybe_reference (d.by_reference _) = skip nothing

pub front_of_param : {ts : List Token} {a1 : Param} {rest : List Token} → IsParam ts a1 rest → UsesFront ts rest
front_of_param (d.param d0 d1 _ d3) = both (front_of_maybe_type d0) (both (front_of_maybe_reference d1) (skip (front_of_initial d3)))

pub front_of_params : {ts : List Token} {a1 : List Param} {rest : List Token} → IsParams ts a1 rest → UsesFront ts rest
front_of_params (d.params_end _) = skip nothing
front_of_params (d.params_last d0 _) = both (front_of_param d0) (skip nothing)
front_of_params (d.params_more d0 _ d2) = both (front_of_param d0) (skip (front_of_params d2))

pub front_of_result : {ts : List Token} {a1 : Option DeclaredType} {rest : List Token} → IsResult ts a1 rest → UsesFront ts rest
front_of_result d.no_result = nothing
front_of_result (d.a_result _ d1) = skip (front_of_type d1)

pub front_of_modifiers : {a0 : Modifiers} {ts : List Token} {a2 : Modifiers} {rest : List Token} → IsModifiers a0 ts a2 rest → UsesFront ts rest
front_of_modifiers d.modifiers_end = nothing
front_of_modifiers (d.an_access _ _ d2) = skip (front_of_modifiers d2)
front_of_modifiers (d.a_static _ _ d2) = skip (front_of_modifiers d2)
