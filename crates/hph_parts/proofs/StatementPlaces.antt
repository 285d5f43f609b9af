-- The places of statements, variant by variant.
use Rattle.std.specs.Prelude.{◌≡◌, ℕ, List, Option, refl}
use Rattle.hph_ast.specs.declared.token.At.{At}
use Rattle.hph_ast.specs.declared.token.Identifier.{Identifier}
use Rattle.hph_ast.specs.declared.expr.Expr.{Expr}
use Rattle.hph_ast.specs.declared.function.Function.{Function}
use Rattle.hph_ast.specs.declared.class.Class.{Class}
use Rattle.hph_ast.specs.declared.class.ConstantItem.{ConstantItem}
use Rattle.hph_ast.specs.declared.stmt.Statement.{Statement, out-Statement}
use Rattle.hph_ast.specs.declared.stmt.Statement.TheVariants as s
use Rattle.hph_ast.specs.declared.stmt.Case.{Case}
use Rattle.hph_ast.specs.declared.stmt.ElseIf.{ElseIf}
use Rattle.hph_ast.specs.declared.stmt.ForeachTarget.{ForeachTarget}
use Rattle.hph_ast.specs.declared.stmt.StaticVariable.{StaticVariable}
use denote.Hole.Carrier.{out, shown, hidden}
use Rattle.hph_ast.specs.declared.class.Member.TheBlock.{shown-the_row-Function-1, shown-the_row-Class-3}
use Rattle.hph_ast.specs.Statements.{statement_place, function_place, class_place}

pub place-Empty : (at : At) → statement_place (s.Empty at) ≡ at
unfolding out-Statement out
place-Empty at = refl

pub place-InlineText : (at : At) (bytes : List ℕ) → statement_place (s.InlineText at bytes) ≡ at
unfolding out-Statement out
place-InlineText at bytes = refl

pub place-Block : (at : At) (body : List Statement) → statement_place (s.Block at body) ≡ at
unfolding out-Statement out
place-Block at body = refl

pub place-Expression : (at : At) (x : Expr) → statement_place (s.Expression at x) ≡ at
unfolding out-Statement out
place-Expression at x = refl

pub place-If : (at : At) (x : Expr) (body : Statement) (more : List ElseIf) (other : Option Statement) → statement_place (s.If at x body more other) ≡ at
unfolding out-Statement out
place-If at x body more other = refl

pub place-While : (at : At) (x : Expr) (body : Statement) → statement_place (s.While at x body) ≡ at
unfolding out-Statement out
place-While at x body = refl

pub place-DoWhile : (at : At) (body : Statement) (x : Expr) → statement_place (s.DoWhile at body x) ≡ at
unfolding out-Statement out
place-DoWhile at body x = refl

pub place-For : (at : At) (init test step : List Expr) (body : Statement) → statement_place (s.For at init test step body) ≡ at
unfolding out-Statement out
place-For at init test step body = refl

pub place-Foreach : (at : At) (x : Expr) (key : Option Identifier) (value : ForeachTarget) (body : Statement) → statement_place (s.Foreach at x key value body) ≡ at
unfolding out-Statement out
place-Foreach at x key value body = refl

pub place-Switch : (at : At) (x : Expr) (cases : List Case) → statement_place (s.Switch at x cases) ≡ at
unfolding out-Statement out
place-Switch at x cases = refl

pub place-Break : (at : At) (levels : Option ℕ) → statement_place (s.Break at levels) ≡ at
unfolding out-Statement out
place-Break at levels = refl

pub place-Continue : (at : At) (levels : Option ℕ) → statement_place (s.Continue at levels) ≡ at
unfolding out-Statement out
place-Continue at levels = refl

pub place-Return : (at : At) (value : Option Expr) → statement_place (s.Return at value) ≡ at
unfolding out-Statement out
place-Return at value = refl

pub place-Echo : (at : At) (values : List Expr) → statement_place (s.Echo at values) ≡ at
unfolding out-Statement out
place-Echo at values = refl

pub place-Global : (at : At) (names : List Identifier) → statement_place (s.Global at names) ≡ at
unfolding out-Statement out
place-Global at names = refl

pub place-Static : (at : At) (variables : List StaticVariable) → statement_place (s.Static at variables) ≡ at
unfolding out-Statement out
place-Static at variables = refl

pub place-Unset : (at : At) (paths : List Expr) → statement_place (s.Unset at paths) ≡ at
unfolding out-Statement out
place-Unset at paths = refl

pub place-Const : (at : At) (items : List ConstantItem) → statement_place (s.Const at items) ≡ at
unfolding out-Statement out
place-Const at items = refl

pub place-Function : (f : Function) → statement_place (s.Function f) ≡ function_place f
unfolding out-Statement out shown-the_row-Function-1 shown hidden
place-Function f = refl

pub place-Class : (c : Class) → statement_place (s.Class c) ≡ class_place c
unfolding out-Statement out shown-the_row-Class-3 shown hidden
place-Class c = refl

pub ruleset statement_places = (place-Empty, place-InlineText, place-Block, place-Expression, place-If, place-While, place-DoWhile, place-For, place-Foreach, place-Switch, place-Break, place-Continue, place-Return, place-Echo, place-Global, place-Static, place-Unset, place-Const, place-Function, place-Class)
