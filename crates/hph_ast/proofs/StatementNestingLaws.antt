-- The nesting of each statement, and of what it declares.
use Rattle.std.specs.Prelude.{◌≡◌, ℕ, List, suc, max, Option, Some, None}
use Rattle.std.proofs.Common.{ap, sym, ◌∙◌}
use Rattle.hph_ast.specs.declared.token.At.{At}
use Rattle.hph_ast.specs.declared.token.Identifier.{Identifier}
use Rattle.hph_ast.specs.declared.expr.Expr.{Expr}
use Rattle.hph_ast.specs.declared.function.DeclaredType.{DeclaredType}
use Rattle.hph_ast.specs.declared.function.Function.{Function, out-Function}
use Rattle.hph_ast.specs.declared.class.Class.{Class, out-Class}
use Rattle.hph_ast.specs.declared.class.Modifiers.{Modifiers}
use Rattle.hph_ast.specs.declared.class.ConstantItem.{ConstantItem}
use Rattle.hph_ast.specs.declared.class.PropertyItem.{PropertyItem}
use Rattle.hph_ast.specs.declared.class.Member.{Member, roll-Member}
use Rattle.hph_ast.specs.declared.class.Member.TheVariants as member
use Rattle.hph_ast.specs.declared.class.Member.TheOpen.{Member-F, Statement-F}
use Rattle.hph_ast.specs.declared.class.Member.TheFolds.{fold-roll-Member, fold-roll-Statement, fold_out-Class, fold_out-Function, fold_out-Case, fold_out-ElseIf, map-Member, map-Statement}
use Rattle.hph_ast.specs.declared.stmt.Statement.{Statement, roll-Statement}
use Rattle.hph_ast.specs.declared.stmt.Statement.TheVariants as s
use Rattle.hph_ast.specs.declared.stmt.Case.{Case, out-Case}
use Rattle.hph_ast.specs.declared.stmt.ElseIf.{ElseIf, out-ElseIf}
use Rattle.hph_ast.specs.declared.stmt.ForeachTarget.{ForeachTarget}
use Rattle.hph_ast.specs.declared.stmt.StaticVariable.{StaticVariable}
use Rattle.hph_ast.specs.Nesting.{greatest, nesting}
use Rattle.hph_ast.specs.StatementNesting.{maybe, type_nesting, param_nesting, target_nesting, member_nesting, statement_nesting, class_nesting, function_nesting, case_nesting, else_if_nesting, member_nesting_by, statement_nesting_by, class_nesting_by, function_nesting_by, case_nesting_by, else_if_nesting_by}
use Rattle.hph_ast.proofs.ExpressionNesting.{greatest-map}

-- one level of a statement and of a member
statement_rolled : (d : Statement-F Member Statement Class Function Case ElseIf) → statement_nesting (roll-Statement d) ≡ statement_nesting_by (map-Statement Member Statement Class Function Case ElseIf ℕ ℕ ℕ ℕ ℕ ℕ member_nesting statement_nesting class_nesting function_nesting case_nesting else_if_nesting d)
unfolding member_nesting statement_nesting class_nesting function_nesting case_nesting else_if_nesting
statement_rolled d = fold-roll-Statement ℕ ℕ ℕ ℕ ℕ ℕ member_nesting_by statement_nesting_by class_nesting_by function_nesting_by case_nesting_by else_if_nesting_by d

member_rolled : (d : Member-F Member Statement Class Function Case ElseIf) → member_nesting (roll-Member d) ≡ member_nesting_by (map-Member Member Statement Class Function Case ElseIf ℕ ℕ ℕ ℕ ℕ ℕ member_nesting statement_nesting class_nesting function_nesting case_nesting else_if_nesting d)
unfolding member_nesting statement_nesting class_nesting function_nesting case_nesting else_if_nesting
member_rolled d = fold-roll-Member ℕ ℕ ℕ ℕ ℕ ℕ member_nesting_by statement_nesting_by class_nesting_by function_nesting_by case_nesting_by else_if_nesting_by d

pub statement_nesting-Empty : (at : At) → statement_nesting (s.Empty at) ≡ 1
statement_nesting-Empty at = ap statement_nesting (sym (s.rolls-Empty at)) ∙ statement_rolled (Statement-F.Empty at)

pub statement_nesting-InlineText : (at : At) (bytes : List ℕ) → statement_nesting (s.InlineText at bytes) ≡ 1
statement_nesting-InlineText at bytes = ap statement_nesting (sym (s.rolls-InlineText at bytes)) ∙ statement_rolled (Statement-F.InlineText at bytes)

pub statement_nesting-Block : (at : At) (body : List Statement) → statement_nesting (s.Block at body) ≡ suc (greatest statement_nesting body)
statement_nesting-Block at body = ap statement_nesting (sym (s.rolls-Block at body)) ∙ statement_rolled (Statement-F.Block at body) ∙ ap suc (greatest-map (λ n. n) statement_nesting body)

pub statement_nesting-Expression : (at : At) (x : Expr) → statement_nesting (s.Expression at x) ≡ suc (nesting x)
statement_nesting-Expression at x = ap statement_nesting (sym (s.rolls-Expression at x)) ∙ statement_rolled (Statement-F.Expression at x)

pub statement_nesting-Function : (f : Function) → statement_nesting (s.Function f) ≡ function_nesting f
statement_nesting-Function f = ap statement_nesting (sym (s.rolls-Function f)) ∙ statement_rolled (Statement-F.Function f)

pub statement_nesting-Class : (class : Class) → statement_nesting (s.Class class) ≡ class_nesting class
statement_nesting-Class class = ap statement_nesting (sym (s.rolls-Class class)) ∙ statement_rolled (Statement-F.Class class)

pub statement_nesting-While : (at : At) (x : Expr) (body : Statement) → statement_nesting (s.While at x body) ≡ suc (max (nesting x) (statement_nesting body))
statement_nesting-While at x body = ap statement_nesting (sym (s.rolls-While at x body)) ∙ statement_rolled (Statement-F.While at x body)

pub statement_nesting-DoWhile : (at : At) (body : Statement) (x : Expr) → statement_nesting (s.DoWhile at body x) ≡ suc (max (statement_nesting body) (nesting x))
statement_nesting-DoWhile at body x = ap statement_nesting (sym (s.rolls-DoWhile at body x)) ∙ statement_rolled (Statement-F.DoWhile at body x)

pub statement_nesting-For : (at : At) (init test step : List Expr) (body : Statement) → statement_nesting (s.For at init test step body) ≡ suc (max (greatest nesting init) (max (greatest nesting test) (max (greatest nesting step) (statement_nesting body))))
statement_nesting-For at init test step body = ap statement_nesting (sym (s.rolls-For at init test step body)) ∙ statement_rolled (Statement-F.For at init test step body)

pub statement_nesting-Foreach : (at : At) (x : Expr) (key : Option Identifier) (value : ForeachTarget) (body : Statement) → statement_nesting (s.Foreach at x key value body) ≡ suc (max (nesting x) (max (target_nesting value) (statement_nesting body)))
statement_nesting-Foreach at x key value body = ap statement_nesting (sym (s.rolls-Foreach at x key value body)) ∙ statement_rolled (Statement-F.Foreach at x key value body)

pub statement_nesting-Switch : (at : At) (x : Expr) (cases : List Case) → statement_nesting (s.Switch at x cases) ≡ suc (max (nesting x) (greatest case_nesting cases))
statement_nesting-Switch at x cases = ap statement_nesting (sym (s.rolls-Switch at x cases)) ∙ statement_rolled (Statement-F.Switch at x cases) ∙ ap (λ n. suc (max (nesting x) n)) (greatest-map (λ n. n) case_nesting cases)

pub statement_nesting-Break : (at : At) (levels : Option ℕ) → statement_nesting (s.Break at levels) ≡ 1
statement_nesting-Break at levels = ap statement_nesting (sym (s.rolls-Break at levels)) ∙ statement_rolled (Statement-F.Break at levels)

pub statement_nesting-Continue : (at : At) (levels : Option ℕ) → statement_nesting (s.Continue at levels) ≡ 1
statement_nesting-Continue at levels = ap statement_nesting (sym (s.rolls-Continue at levels)) ∙ statement_rolled (Statement-F.Continue at levels)

pub statement_nesting-Return : (at : At) (value : Option Expr) → statement_nesting (s.Return at value) ≡ suc (maybe nesting value)
statement_nesting-Return at value = ap statement_nesting (sym (s.rolls-Return at value)) ∙ statement_rolled (Statement-F.Return at value)

pub statement_nesting-Echo : (at : At) (values : List Expr) → statement_nesting (s.Echo at values) ≡ suc (greatest nesting values)
statement_nesting-Echo at values = ap statement_nesting (sym (s.rolls-Echo at values)) ∙ statement_rolled (Statement-F.Echo at values)

pub statement_nesting-Global : (at : At) (names : List Identifier) → statement_nesting (s.Global at names) ≡ 1
statement_nesting-Global at names = ap statement_nesting (sym (s.rolls-Global at names)) ∙ statement_rolled (Statement-F.Global at names)

pub statement_nesting-Static : (at : At) (variables : List StaticVariable) → statement_nesting (s.Static at variables) ≡ suc (greatest (λ v. maybe nesting v.value) variables)
statement_nesting-Static at variables = ap statement_nesting (sym (s.rolls-Static at variables)) ∙ statement_rolled (Statement-F.Static at variables)

pub statement_nesting-Unset : (at : At) (paths : List Expr) → statement_nesting (s.Unset at paths) ≡ suc (greatest nesting paths)
statement_nesting-Unset at paths = ap statement_nesting (sym (s.rolls-Unset at paths)) ∙ statement_rolled (Statement-F.Unset at paths)

pub statement_nesting-Const : (at : At) (items : List ConstantItem) → statement_nesting (s.Const at items) ≡ suc (greatest (λ i. nesting i.value) items)
statement_nesting-Const at items = ap statement_nesting (sym (s.rolls-Const at items)) ∙ statement_rolled (Statement-F.Const at items)

pub statement_nesting-If : (at : At) (x : Expr) (body : Statement) (more : List ElseIf) (other : Option Statement) → statement_nesting (s.If at x body more other) ≡
    suc (max (nesting x) (max (statement_nesting body) (max (greatest else_if_nesting more) (maybe statement_nesting other))))
statement_nesting-If at x body more None = ap statement_nesting (sym (s.rolls-If at x body more None)) ∙ statement_rolled (Statement-F.If at x body more None)
    ∙ ap (λ n. suc (max (nesting x) (max (statement_nesting body) (max n 0)))) (greatest-map (λ n. n) else_if_nesting more)
statement_nesting-If at x body more (Some other) = ap statement_nesting (sym (s.rolls-If at x body more (Some other))) ∙ statement_rolled (Statement-F.If at x body more (Some other))
    ∙ ap (λ n. suc (max (nesting x) (max (statement_nesting body) (max n (statement_nesting other))))) (greatest-map (λ n. n) else_if_nesting more)

pub member_nesting-Constants : (at : At) (mods : Modifiers) (items : List ConstantItem) → member_nesting (member.Constants at mods items) ≡ suc (greatest (λ i. nesting i.value) items)
member_nesting-Constants at mods items = ap member_nesting (sym (member.rolls-Constants at mods items)) ∙ member_rolled (Member-F.Constants at mods items)

pub member_nesting-Properties : (at : At) (mods : Modifiers) (ty : Option DeclaredType) (items : List PropertyItem) → member_nesting (member.Properties at mods ty items) ≡ suc (max (maybe type_nesting ty) (greatest (λ i. maybe nesting i.value) items))
member_nesting-Properties at mods ty items = ap member_nesting (sym (member.rolls-Properties at mods ty items)) ∙ member_rolled (Member-F.Properties at mods ty items)

pub member_nesting-Method : (at : At) (mods : Modifiers) (f : Function) → member_nesting (member.Method at mods f) ≡ suc (function_nesting f)
member_nesting-Method at mods f = ap member_nesting (sym (member.rolls-Method at mods f)) ∙ member_rolled (Member-F.Method at mods f)

-- a struct is seen by its fields
pub function_nesting-out : (f : Function) → function_nesting f ≡ suc (max (greatest param_nesting (out-Function f).params) (max (maybe type_nesting (out-Function f).result) (greatest statement_nesting (out-Function f).body)))
unfolding member_nesting statement_nesting class_nesting function_nesting case_nesting else_if_nesting
function_nesting-out f = fold_out-Function ℕ ℕ ℕ ℕ ℕ ℕ member_nesting_by statement_nesting_by class_nesting_by function_nesting_by case_nesting_by else_if_nesting_by f ∙ ap (λ n. suc (max (greatest param_nesting (out-Function f).params) (max (maybe type_nesting (out-Function f).result) n))) (greatest-map (λ n. n) statement_nesting (out-Function f).body)

-- a struct is seen by its fields
pub class_nesting-out : (class : Class) → class_nesting class ≡ suc (greatest member_nesting (out-Class class).members)
unfolding member_nesting statement_nesting class_nesting function_nesting case_nesting else_if_nesting
class_nesting-out class = fold_out-Class ℕ ℕ ℕ ℕ ℕ ℕ member_nesting_by statement_nesting_by class_nesting_by function_nesting_by case_nesting_by else_if_nesting_by class ∙ ap suc (greatest-map (λ n. n) member_nesting (out-Class class).members)

-- a struct is seen by its fields
pub case_nesting-out : (x : Case) → case_nesting x ≡ suc (max (maybe nesting (out-Case x).test) (greatest statement_nesting (out-Case x).body))
unfolding member_nesting statement_nesting class_nesting function_nesting case_nesting else_if_nesting
case_nesting-out x = fold_out-Case ℕ ℕ ℕ ℕ ℕ ℕ member_nesting_by statement_nesting_by class_nesting_by function_nesting_by case_nesting_by else_if_nesting_by x ∙ ap (λ n. suc (max (maybe nesting (out-Case x).test) n)) (greatest-map (λ n. n) statement_nesting (out-Case x).body)

-- a struct is seen by its fields
pub else_if_nesting-out : (x : ElseIf) → else_if_nesting x ≡ max (nesting (out-ElseIf x).test) (statement_nesting (out-ElseIf x).body)
unfolding member_nesting statement_nesting class_nesting function_nesting case_nesting else_if_nesting
else_if_nesting-out x = fold_out-ElseIf ℕ ℕ ℕ ℕ ℕ ℕ member_nesting_by statement_nesting_by class_nesting_by function_nesting_by case_nesting_by else_if_nesting_by x
