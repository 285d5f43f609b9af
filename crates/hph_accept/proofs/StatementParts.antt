-- What is refused in each statement, function and class, in terms of its parts.
use Rattle.std.specs.Prelude.{◌≡◌, ℕ, List, [], ◌∷◌, ◌++◌, map, flat_map, Option, Some, None, is_some, bytes_eq}
use Rattle.std.proofs.Common.{ap, sym, ◌∙◌}
use Rattle.hph_ast.specs.declared.token.At.{At}
use Rattle.hph_ast.specs.declared.token.Identifier.{Identifier}
use Rattle.hph_ast.specs.declared.expr.Expr.{Expr, out-Expr}
use Rattle.hph_ast.specs.declared.function.DeclaredType.{DeclaredType}
use Rattle.hph_ast.specs.declared.function.Param.{Param}
use Rattle.hph_ast.specs.declared.function.Function.{Function, out-Function}
use Rattle.hph_ast.specs.declared.class.Class.{Class, out-Class}
use Rattle.hph_ast.specs.declared.class.Modifiers.{Modifiers}
use Rattle.hph_ast.specs.declared.class.ConstantItem.{ConstantItem}
use Rattle.hph_ast.specs.declared.class.PropertyItem.{PropertyItem}
use Rattle.hph_ast.specs.declared.class.Member.{Member, roll-Member}
use Rattle.hph_ast.specs.declared.class.Member.TheVariants as member
use Rattle.hph_ast.specs.declared.class.Member.TheOpen.{Member-F, Statement-F}
use Rattle.hph_ast.specs.declared.class.Member.TheFolds.{fold-roll-Member, fold-roll-Statement, fold_out-Class, fold_out-Function, fold_out-Case, fold_out-ElseIf, map-Member, map-Statement}
use Rattle.hph_ast.specs.declared.stmt.Statement.{Statement, roll-Statement}
use Rattle.hph_ast.specs.declared.stmt.Statement.TheVariants as s
use Rattle.hph_ast.specs.declared.stmt.Case.{Case, out-Case}
use Rattle.hph_ast.specs.declared.stmt.ElseIf.{ElseIf, out-ElseIf}
use Rattle.hph_ast.specs.declared.stmt.ForeachTarget.{ForeachTarget}
use Rattle.hph_ast.specs.declared.stmt.StaticVariable.{StaticVariable}
use Rattle.hph_ast.specs.RefusedExpressions.{Context, Refused, refused_in}
use Rattle.hph_ast.specs.RefusedStatements.{in_plain_function, in_class, in_method, in_loop, maybe, bound, type_refused, param_refused, duplicates, whole_statement, bad_break, static_place, unset_refused, target_refused, magic_method, Sort, constants, properties, methods, FunctionPart, MemberPart, duplicate_members, member_part, statement_part, class_part, function_part, case_part, else_if_part, statement_refused}
use Rattle.hph_accept.specs.Parts.{member_of, declared_class, function_of, case_found, else_if_found}
use Rattle.hph_accept.proofs.ExpressionParts.{flat_map-map}

-- one level of a statement and of a member
statement_rolled : (d : Statement-F Member Statement Class Function Case ElseIf) → statement_refused (roll-Statement d) ≡ statement_part (map-Statement Member Statement Class Function Case ElseIf MemberPart Refused Refused FunctionPart Refused Refused member_of statement_refused declared_class function_of case_found else_if_found d)
unfolding member_of statement_refused declared_class function_of case_found else_if_found
statement_rolled d = fold-roll-Statement MemberPart Refused Refused FunctionPart Refused Refused member_part statement_part class_part function_part case_part else_if_part d

member_rolled : (d : Member-F Member Statement Class Function Case ElseIf) → member_of (roll-Member d) ≡ member_part (map-Member Member Statement Class Function Case ElseIf MemberPart Refused Refused FunctionPart Refused Refused member_of statement_refused declared_class function_of case_found else_if_found d)
unfolding member_of statement_refused declared_class function_of case_found else_if_found
member_rolled d = fold-roll-Member MemberPart Refused Refused FunctionPart Refused Refused member_part statement_part class_part function_part case_part else_if_part d

pub refused-Empty : (at : At) (ctx : Context) → statement_refused (s.Empty at) ctx ≡ []
refused-Empty at ctx = ap (λ (r : Refused). r ctx) (ap statement_refused (sym (s.rolls-Empty at)) ∙ statement_rolled (Statement-F.Empty at))

pub refused-InlineText : (at : At) (bytes : List ℕ) (ctx : Context) → statement_refused (s.InlineText at bytes) ctx ≡ []
refused-InlineText at bytes ctx = ap (λ (r : Refused). r ctx) (ap statement_refused (sym (s.rolls-InlineText at bytes)) ∙ statement_rolled (Statement-F.InlineText at bytes))

pub refused-Block : (at : At) (body : List Statement) (ctx : Context) → statement_refused (s.Block at body) ctx ≡ flat_map (λ x. statement_refused x ctx) body
refused-Block at body ctx = ap (λ (r : Refused). r ctx) (ap statement_refused (sym (s.rolls-Block at body)) ∙ statement_rolled (Statement-F.Block at body)) ∙ flat_map-map (λ (r : Refused). r ctx) statement_refused body

pub refused-Expression : (at : At) (x : Expr) (ctx : Context) → statement_refused (s.Expression at x) ctx ≡ whole_statement x (out-Expr x) ctx
refused-Expression at x ctx = ap (λ (r : Refused). r ctx) (ap statement_refused (sym (s.rolls-Expression at x)) ∙ statement_rolled (Statement-F.Expression at x))

pub refused-Function : (f : Function) (ctx : Context) → statement_refused (s.Function f) ctx ≡ (function_of f).refused in_plain_function
refused-Function f ctx = ap (λ (r : Refused). r ctx) (ap statement_refused (sym (s.rolls-Function f)) ∙ statement_rolled (Statement-F.Function f))

pub refused-Class : (declared : Class) (ctx : Context) → statement_refused (s.Class declared) ctx ≡ declared_class declared ctx
refused-Class declared ctx = ap (λ (r : Refused). r ctx) (ap statement_refused (sym (s.rolls-Class declared)) ∙ statement_rolled (Statement-F.Class declared))

pub refused-While : (at : At) (x : Expr) (body : Statement) (ctx : Context) → statement_refused (s.While at x body) ctx ≡ refused_in x ctx ++ statement_refused body (in_loop ctx)
refused-While at x body ctx = ap (λ (r : Refused). r ctx) (ap statement_refused (sym (s.rolls-While at x body)) ∙ statement_rolled (Statement-F.While at x body))

pub refused-DoWhile : (at : At) (body : Statement) (x : Expr) (ctx : Context) → statement_refused (s.DoWhile at body x) ctx ≡ statement_refused body (in_loop ctx) ++ refused_in x ctx
refused-DoWhile at body x ctx = ap (λ (r : Refused). r ctx) (ap statement_refused (sym (s.rolls-DoWhile at body x)) ∙ statement_rolled (Statement-F.DoWhile at body x))

pub refused-For : (at : At) (init : List Expr) (test : List Expr) (step : List Expr) (body : Statement) (ctx : Context) → statement_refused (s.For at init test step body) ctx ≡ flat_map (λ x. refused_in x ctx) init ++ (flat_map (λ x. refused_in x ctx) test ++ (flat_map (λ x. refused_in x ctx) step ++ statement_refused body (in_loop ctx)))
refused-For at init test step body ctx = ap (λ (r : Refused). r ctx) (ap statement_refused (sym (s.rolls-For at init test step body)) ∙ statement_rolled (Statement-F.For at init test step body))

pub refused-Foreach : (at : At) (x : Expr) (key : Option Identifier) (value : ForeachTarget) (body : Statement) (ctx : Context) → statement_refused (s.Foreach at x key value body) ctx ≡ refused_in x ctx ++ (maybe bound key ctx ++ (target_refused value ctx ++ statement_refused body (in_loop ctx)))
refused-Foreach at x key value body ctx = ap (λ (r : Refused). r ctx) (ap statement_refused (sym (s.rolls-Foreach at x key value body)) ∙ statement_rolled (Statement-F.Foreach at x key value body))

pub refused-Switch : (at : At) (x : Expr) (cases : List Case) (ctx : Context) → statement_refused (s.Switch at x cases) ctx ≡ refused_in x ctx ++ flat_map (λ x. case_found x (in_loop ctx)) cases
refused-Switch at x cases ctx = ap (λ (r : Refused). r ctx) (ap statement_refused (sym (s.rolls-Switch at x cases)) ∙ statement_rolled (Statement-F.Switch at x cases)) ∙ ap (λ l. refused_in x ctx ++ l) (flat_map-map (λ (r : Refused). r (in_loop ctx)) case_found cases)

pub refused-Break : (at : At) (levels : Option ℕ) (ctx : Context) → statement_refused (s.Break at levels) ctx ≡ bad_break at levels ctx
refused-Break at levels ctx = ap (λ (r : Refused). r ctx) (ap statement_refused (sym (s.rolls-Break at levels)) ∙ statement_rolled (Statement-F.Break at levels))

pub refused-Continue : (at : At) (levels : Option ℕ) (ctx : Context) → statement_refused (s.Continue at levels) ctx ≡ bad_break at levels ctx
refused-Continue at levels ctx = ap (λ (r : Refused). r ctx) (ap statement_refused (sym (s.rolls-Continue at levels)) ∙ statement_rolled (Statement-F.Continue at levels))

pub refused-Return : (at : At) (value : Option Expr) (ctx : Context) → statement_refused (s.Return at value) ctx ≡ maybe refused_in value ctx
refused-Return at value ctx = ap (λ (r : Refused). r ctx) (ap statement_refused (sym (s.rolls-Return at value)) ∙ statement_rolled (Statement-F.Return at value))

pub refused-Echo : (at : At) (values : List Expr) (ctx : Context) → statement_refused (s.Echo at values) ctx ≡ flat_map (λ x. refused_in x ctx) values
refused-Echo at values ctx = ap (λ (r : Refused). r ctx) (ap statement_refused (sym (s.rolls-Echo at values)) ∙ statement_rolled (Statement-F.Echo at values))

pub refused-Global : (at : At) (names : List Identifier) (ctx : Context) → statement_refused (s.Global at names) ctx ≡ flat_map (λ x. bound x ctx) names
refused-Global at names ctx = ap (λ (r : Refused). r ctx) (ap statement_refused (sym (s.rolls-Global at names)) ∙ statement_rolled (Statement-F.Global at names))

pub refused-Static : (at : At) (variables : List StaticVariable) (ctx : Context) → statement_refused (s.Static at variables) ctx ≡ static_place at ctx ++ flat_map (λ (v : StaticVariable). bound v.name ctx ++ maybe refused_in v.value ctx) variables
refused-Static at variables ctx = ap (λ (r : Refused). r ctx) (ap statement_refused (sym (s.rolls-Static at variables)) ∙ statement_rolled (Statement-F.Static at variables))

pub refused-Unset : (at : At) (paths : List Expr) (ctx : Context) → statement_refused (s.Unset at paths) ctx ≡ flat_map (λ x. unset_refused x ctx) paths
refused-Unset at paths ctx = ap (λ (r : Refused). r ctx) (ap statement_refused (sym (s.rolls-Unset at paths)) ∙ statement_rolled (Statement-F.Unset at paths))

pub refused-Const : (at : At) (items : List ConstantItem) (ctx : Context) → statement_refused (s.Const at items) ctx ≡ flat_map (λ (i : ConstantItem). refused_in i.value ctx) items
refused-Const at items ctx = ap (λ (r : Refused). r ctx) (ap statement_refused (sym (s.rolls-Const at items)) ∙ statement_rolled (Statement-F.Const at items))

pub refused-If : (at : At) (x : Expr) (body : Statement) (more : List ElseIf) (other : Option Statement) (ctx : Context) → statement_refused (s.If at x body more other) ctx ≡
    refused_in x ctx ++ (statement_refused body ctx ++ (flat_map (λ b. else_if_found b ctx) more ++ maybe statement_refused other ctx))
refused-If at x body more None ctx = ap (λ (r : Refused). r ctx) (ap statement_refused (sym (s.rolls-If at x body more None)) ∙ statement_rolled (Statement-F.If at x body more None))
    ∙ ap (λ l. refused_in x ctx ++ (statement_refused body ctx ++ (l ++ []))) (flat_map-map (λ (r : Refused). r ctx) else_if_found more)
refused-If at x body more (Some other) ctx = ap (λ (r : Refused). r ctx) (ap statement_refused (sym (s.rolls-If at x body more (Some other))) ∙ statement_rolled (Statement-F.If at x body more (Some other)))
    ∙ ap (λ l. refused_in x ctx ++ (statement_refused body ctx ++ (l ++ statement_refused other ctx))) (flat_map-map (λ (r : Refused). r ctx) else_if_found more)

member-Constants : (at : At) (mods : Modifiers) (items : List ConstantItem) → member_of (member.Constants at mods items) ≡ member_part (map-Member Member Statement Class Function Case ElseIf MemberPart Refused Refused FunctionPart Refused Refused member_of statement_refused declared_class function_of case_found else_if_found (Member-F.Constants at mods items))
member-Constants at mods items = ap member_of (sym (member.rolls-Constants at mods items)) ∙ member_rolled (Member-F.Constants at mods items)

pub sort-Constants : (at : At) (mods : Modifiers) (items : List ConstantItem) → (member_of (member.Constants at mods items)).sort ≡ constants
sort-Constants at mods items = ap (λ (m : MemberPart). m.sort) (member-Constants at mods items)

pub names-Constants : (at : At) (mods : Modifiers) (items : List ConstantItem) → (member_of (member.Constants at mods items)).names ≡ map (λ (i : ConstantItem). i.name) items
names-Constants at mods items = ap (λ (m : MemberPart). m.names) (member-Constants at mods items)

pub member_refused-Constants : (at : At) (mods : Modifiers) (items : List ConstantItem) (ctx : Context) → (member_of (member.Constants at mods items)).refused ctx ≡ flat_map (λ (i : ConstantItem). refused_in i.value ctx) items
member_refused-Constants at mods items ctx = ap (λ (m : MemberPart). m.refused ctx) (member-Constants at mods items)

member-Properties : (at : At) (mods : Modifiers) (ty : Option DeclaredType) (items : List PropertyItem) → member_of (member.Properties at mods ty items) ≡ member_part (map-Member Member Statement Class Function Case ElseIf MemberPart Refused Refused FunctionPart Refused Refused member_of statement_refused declared_class function_of case_found else_if_found (Member-F.Properties at mods ty items))
member-Properties at mods ty items = ap member_of (sym (member.rolls-Properties at mods ty items)) ∙ member_rolled (Member-F.Properties at mods ty items)

pub sort-Properties : (at : At) (mods : Modifiers) (ty : Option DeclaredType) (items : List PropertyItem) → (member_of (member.Properties at mods ty items)).sort ≡ properties
sort-Properties at mods ty items = ap (λ (m : MemberPart). m.sort) (member-Properties at mods ty items)

pub names-Properties : (at : At) (mods : Modifiers) (ty : Option DeclaredType) (items : List PropertyItem) → (member_of (member.Properties at mods ty items)).names ≡ map (λ (i : PropertyItem). i.name) items
names-Properties at mods ty items = ap (λ (m : MemberPart). m.names) (member-Properties at mods ty items)

pub member_refused-Properties : (at : At) (mods : Modifiers) (ty : Option DeclaredType) (items : List PropertyItem) (ctx : Context) → (member_of (member.Properties at mods ty items)).refused ctx ≡ maybe type_refused ty ctx ++ flat_map (λ (i : PropertyItem). maybe refused_in i.value ctx) items
member_refused-Properties at mods ty items ctx = ap (λ (m : MemberPart). m.refused ctx) (member-Properties at mods ty items)

member-Method : (at : At) (mods : Modifiers) (f : Function) → member_of (member.Method at mods f) ≡ member_part (map-Member Member Statement Class Function Case ElseIf MemberPart Refused Refused FunctionPart Refused Refused member_of statement_refused declared_class function_of case_found else_if_found (Member-F.Method at mods f))
member-Method at mods f = ap member_of (sym (member.rolls-Method at mods f)) ∙ member_rolled (Member-F.Method at mods f)

pub sort-Method : (at : At) (mods : Modifiers) (f : Function) → (member_of (member.Method at mods f)).sort ≡ methods
sort-Method at mods f = ap (λ (m : MemberPart). m.sort) (member-Method at mods f)

pub names-Method : (at : At) (mods : Modifiers) (f : Function) → (member_of (member.Method at mods f)).names ≡ (function_of f).name ∷ []
names-Method at mods f = ap (λ (m : MemberPart). m.names) (member-Method at mods f)

pub member_refused-Method : (at : At) (mods : Modifiers) (f : Function) (ctx : Context) → (member_of (member.Method at mods f)).refused ctx ≡ magic_method (function_of f).name ++ (function_of f).refused (in_method ctx mods.is_static)
member_refused-Method at mods f ctx = ap (λ (m : MemberPart). m.refused ctx) (member-Method at mods f)

-- a struct is seen by its fields
pub function_name : (f : Function) → (function_of f).name ≡ (out-Function f).name
unfolding member_of statement_refused declared_class function_of case_found else_if_found
function_name f = ap (λ (p : FunctionPart). p.name) (fold_out-Function MemberPart Refused Refused FunctionPart Refused Refused member_part statement_part class_part function_part case_part else_if_part f)

pub function_refused : (f : Function) (ctx : Context) → (function_of f).refused ctx ≡
    flat_map (λ x. param_refused x ctx) (out-Function f).params ++ (duplicates bytes_eq [] (map (λ (x : Param). x.name) (out-Function f).params) ++
    (maybe type_refused (out-Function f).result ctx ++ flat_map (λ x. statement_refused x ctx) (out-Function f).body))
unfolding member_of statement_refused declared_class function_of case_found else_if_found
function_refused f ctx = ap (λ (p : FunctionPart). p.refused ctx) (fold_out-Function MemberPart Refused Refused FunctionPart Refused Refused member_part statement_part class_part function_part case_part else_if_part f)
    ∙ ap (λ l. flat_map (λ x. param_refused x ctx) (out-Function f).params ++ (duplicates bytes_eq [] (map (λ (x : Param). x.name) (out-Function f).params) ++ (maybe type_refused (out-Function f).result ctx ++ l)))
    (flat_map-map (λ (r : Refused). r ctx) statement_refused (out-Function f).body)

pub class_refused : (declared : Class) (ctx : Context) → declared_class declared ctx ≡
    duplicate_members (map member_of (out-Class declared).members) ++ flat_map (λ x. (member_of x).refused (in_class (is_some (out-Class declared).parent))) (out-Class declared).members
unfolding member_of statement_refused declared_class function_of case_found else_if_found
class_refused declared ctx = ap (λ (r : Refused). r ctx) (fold_out-Class MemberPart Refused Refused FunctionPart Refused Refused member_part statement_part class_part function_part case_part else_if_part declared)
    ∙ ap (λ l. duplicate_members (map member_of (out-Class declared).members) ++ l)
    (flat_map-map (λ (m : MemberPart). m.refused (in_class (is_some (out-Class declared).parent))) member_of (out-Class declared).members)

pub case_refused : (x : Case) (ctx : Context) → case_found x ctx ≡ maybe refused_in (out-Case x).test ctx ++ flat_map (λ x. statement_refused x ctx) (out-Case x).body
unfolding member_of statement_refused declared_class function_of case_found else_if_found
case_refused x ctx = ap (λ (r : Refused). r ctx) (fold_out-Case MemberPart Refused Refused FunctionPart Refused Refused member_part statement_part class_part function_part case_part else_if_part x)
    ∙ ap (λ l. maybe refused_in (out-Case x).test ctx ++ l) (flat_map-map (λ (r : Refused). r ctx) statement_refused (out-Case x).body)

pub else_if_refused : (x : ElseIf) (ctx : Context) → else_if_found x ctx ≡ refused_in (out-ElseIf x).test ctx ++ statement_refused (out-ElseIf x).body ctx
unfolding member_of statement_refused declared_class function_of case_found else_if_found
else_if_refused x ctx = ap (λ (r : Refused). r ctx) (fold_out-ElseIf MemberPart Refused Refused FunctionPart Refused Refused member_part statement_part class_part function_part case_part else_if_part x)

pub ruleset the_parts = (refused-Empty, refused-InlineText, refused-Block, refused-Expression, refused-Function, refused-Class, refused-While, refused-DoWhile, refused-For, refused-Foreach, refused-Switch, refused-Break, refused-Continue, refused-Return, refused-Echo, refused-Global, refused-Static, refused-Unset, refused-Const, refused-If, sort-Constants, names-Constants, member_refused-Constants, sort-Properties, names-Properties, member_refused-Properties, sort-Method, names-Method, member_refused-Method, function_name, function_refused, class_refused, case_refused, else_if_refused)
