-- What the parts of a tree that are neither expressions nor statements hold.
use Rattle.std.specs.Prelude.{◌++◌, map, flat_map, is_some}
use Rattle.hph_ast.specs.declared.expr.ClassReference.{ClassReference}
use Rattle.hph_ast.specs.declared.expr.MemberName.{MemberName}
use Rattle.hph_ast.specs.declared.expr.Step.{Step}
use Rattle.hph_ast.specs.declared.expr.StringPart.{StringPart}
use Rattle.hph_ast.specs.declared.expr.ClassReference.TheFolds.{fold-ClassReference, fold-MemberName, fold-Step, fold-StringPart}
use Rattle.hph_ast.specs.declared.function.Function.{Function}
use Rattle.hph_ast.specs.declared.class.Class.{Class, out-Class}
use Rattle.hph_ast.specs.declared.class.Member.{Member}
use Rattle.hph_ast.specs.declared.class.Member.TheFolds.{fold-Member, fold-Class, fold-Function, fold-Case, fold-ElseIf}
use Rattle.hph_ast.specs.declared.stmt.Case.{Case}
use Rattle.hph_ast.specs.declared.stmt.ElseIf.{ElseIf}
use Rattle.hph_ast.specs.RefusedExpressions.{Part, Found, Refused, class_refused, part_of, item_refused, member_refused, step_refused, piece_refused}
use Rattle.hph_ast.specs.RefusedStatements.{FunctionPart, MemberPart, in_class, duplicate_members, member_part, statement_part, class_part, function_part, case_part, else_if_part}

unfoldable pub class_found : ClassReference → Refused
class_found = fold-ClassReference Refused Part Refused Refused Refused Refused class_refused part_of item_refused member_refused step_refused piece_refused

unfoldable pub name_found : MemberName → Refused
name_found = fold-MemberName Refused Part Refused Refused Refused Refused class_refused part_of item_refused member_refused step_refused piece_refused

unfoldable pub step_found : Step → Refused
step_found = fold-Step Refused Part Refused Refused Refused Refused class_refused part_of item_refused member_refused step_refused piece_refused

unfoldable pub piece_found : StringPart → Refused
piece_found = fold-StringPart Refused Part Refused Refused Refused Refused class_refused part_of item_refused member_refused step_refused piece_refused

unfoldable pub member_of : Member → MemberPart
member_of = fold-Member MemberPart Refused Refused FunctionPart Refused Refused member_part statement_part class_part function_part case_part else_if_part

unfoldable pub declared_class : Class → Refused
declared_class = fold-Class MemberPart Refused Refused FunctionPart Refused Refused member_part statement_part class_part function_part case_part else_if_part

unfoldable pub function_of : Function → FunctionPart
function_of = fold-Function MemberPart Refused Refused FunctionPart Refused Refused member_part statement_part class_part function_part case_part else_if_part

unfoldable pub case_found : Case → Refused
case_found = fold-Case MemberPart Refused Refused FunctionPart Refused Refused member_part statement_part class_part function_part case_part else_if_part

unfoldable pub else_if_found : ElseIf → Refused
else_if_found = fold-ElseIf MemberPart Refused Refused FunctionPart Refused Refused member_part statement_part class_part function_part case_part else_if_part

-- A class: it stands in no context but its own.
abbrev pub members_found : Class → Found
members_found declared =
    duplicate_members (map member_of (out-Class declared).members) ++
    flat_map (λ x. (member_of x).refused (in_class (is_some (out-Class declared).parent))) (out-Class declared).members
