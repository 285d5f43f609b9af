-- The places of nodes, variant by variant.
use Rattle.std.specs.Prelude.{◌≡◌, ℕ, List, refl}
use Rattle.hph_ast.specs.declared.token.At.{At}
use Rattle.hph_ast.specs.declared.operator.Binary.{Binary}
use Rattle.hph_ast.specs.declared.operator.Prefix.{Prefix}
use Rattle.hph_ast.specs.declared.operator.Assignment.{Assignment}
use Rattle.hph_ast.specs.declared.expr.Update.{Update}
use Rattle.hph_ast.specs.declared.expr.ArrayForm.{ArrayForm}
use Rattle.hph_ast.specs.declared.expr.StringPart.{StringPart}
use Rattle.hph_ast.specs.declared.expr.Item.{Item}
use Rattle.hph_ast.specs.declared.expr.MemberName.{MemberName}
use Rattle.hph_ast.specs.declared.expr.Expr.{Expr, out-Expr}
use Rattle.hph_ast.specs.declared.expr.Expr.TheVariants as e
use Rattle.hph_ast.specs.declared.expr.Step.{Step, out-Step}
use Rattle.hph_ast.specs.declared.expr.Step.TheVariants as s
use Rattle.hph_ast.specs.declared.expr.ClassReference.{ClassReference, out-ClassReference}
use Rattle.hph_ast.specs.declared.expr.ClassReference.TheVariants as c
use denote.Hole.Carrier.{out}
use Rattle.hph_ast.specs.Places.{place, class_place, step_place}

pub place-Int : (at : At) (value : ℕ) → place (e.Int at value) ≡ at
unfolding out-Expr out
place-Int at value = refl

pub place-Text : (at : At) (bytes : List ℕ) → place (e.Text at bytes) ≡ at
unfolding out-Expr out
place-Text at bytes = refl

pub place-Interpolated : (at : At) (parts : List StringPart) → place (e.Interpolated at parts) ≡ at
unfolding out-Expr out
place-Interpolated at parts = refl

pub place-Variable : (at : At) (name : List ℕ) → place (e.Variable at name) ≡ at
unfolding out-Expr out
place-Variable at name = refl

pub place-Constant : (at : At) (name : List ℕ) → place (e.Constant at name) ≡ at
unfolding out-Expr out
place-Constant at name = refl

pub place-Directory : (at : At) → place (e.Directory at) ≡ at
unfolding out-Expr out
place-Directory at = refl

pub place-Array : (at : At) (form : ArrayForm) (items : List Item) → place (e.Array at form items) ≡ at
unfolding out-Expr out
place-Array at form items = refl

pub place-Call : (at : At) (name : List ℕ) (arguments : List Expr) → place (e.Call at name arguments) ≡ at
unfolding out-Expr out
place-Call at name arguments = refl

pub place-DynamicCall : (at : At) (callee : Expr) (arguments : List Expr) → place (e.DynamicCall at callee arguments) ≡ at
unfolding out-Expr out
place-DynamicCall at callee arguments = refl

pub place-StaticCall : (at : At) (class : ClassReference) (name : MemberName) (arguments : List Expr) → place (e.StaticCall at class name arguments) ≡ at
unfolding out-Expr out
place-StaticCall at class name arguments = refl

pub place-MethodCall : (at : At) (object : Expr) (name : MemberName) (arguments : List Expr) → place (e.MethodCall at object name arguments) ≡ at
unfolding out-Expr out
place-MethodCall at object name arguments = refl

pub place-New : (at : At) (class : ClassReference) (arguments : List Expr) → place (e.New at class arguments) ≡ at
unfolding out-Expr out
place-New at class arguments = refl

pub place-ClassConstant : (at : At) (class : ClassReference) (name : List ℕ) → place (e.ClassConstant at class name) ≡ at
unfolding out-Expr out
place-ClassConstant at class name = refl

pub place-ClassName : (at : At) (class : ClassReference) (colons : ℕ) → place (e.ClassName at class colons) ≡ at
unfolding out-Expr out
place-ClassName at class colons = refl

pub place-StaticProperty : (at : At) (class : ClassReference) (name : List ℕ) → place (e.StaticProperty at class name) ≡ at
unfolding out-Expr out
place-StaticProperty at class name = refl

pub place-Paren : (at : At) (inner : Expr) → place (e.Paren at inner) ≡ at
unfolding out-Expr out
place-Paren at inner = refl

pub place-Isset : (at : At) (paths : List Expr) → place (e.Isset at paths) ≡ at
unfolding out-Expr out
place-Isset at paths = refl

pub place-Empty : (at : At) (operand : Expr) → place (e.Empty at operand) ≡ at
unfolding out-Expr out
place-Empty at operand = refl

pub place-Exit : (at : At) → place (e.Exit at) ≡ at
unfolding out-Expr out
place-Exit at = refl

pub place-ExitWith : (at : At) (operand : Expr) → place (e.ExitWith at operand) ≡ at
unfolding out-Expr out
place-ExitWith at operand = refl

pub place-Path : (at : At) (base : Expr) (steps : List Step) → place (e.Path at base steps) ≡ at
unfolding out-Expr out
place-Path at base steps = refl

pub place-Update : (at : At) (form : Update) (path : Expr) → place (e.Update at form path) ≡ at
unfolding out-Expr out
place-Update at form path = refl

pub place-Prefix : (at : At) (operator : Prefix) (operand : Expr) → place (e.Prefix at operator operand) ≡ at
unfolding out-Expr out
place-Prefix at operator operand = refl

pub place-InstanceOf : (at : At) (subject : Expr) (classes : List ClassReference) → place (e.InstanceOf at subject classes) ≡ at
unfolding out-Expr out
place-InstanceOf at subject classes = refl

pub place-Run : (at : At) (first : Expr) (more : List (Binary × Expr)) → place (e.Run at first more) ≡ at
unfolding out-Expr out
place-Run at first more = refl

pub place-Pair : (at : At) (operator : Binary) (left : Expr) (right : Expr) → place (e.Pair at operator left right) ≡ at
unfolding out-Expr out
place-Pair at operator left right = refl

pub place-Ternary : (at : At) (test : Expr) (first : Expr) (second : Expr) → place (e.Ternary at test first second) ≡ at
unfolding out-Expr out
place-Ternary at test first second = refl

pub place-ShortTernary : (at : At) (first : Expr) (more : List Expr) → place (e.ShortTernary at first more) ≡ at
unfolding out-Expr out
place-ShortTernary at first more = refl

pub place-Assign : (at : At) (operator : Assignment) (target : Expr) (value : Expr) → place (e.Assign at operator target value) ≡ at
unfolding out-Expr out
place-Assign at operator target value = refl

pub place-AssignReference : (at : At) (target : Expr) (source : Expr) (ampersand : ℕ) → place (e.AssignReference at target source ampersand) ≡ at
unfolding out-Expr out
place-AssignReference at target source ampersand = refl

pub place-Destructure : (at : At) (items : List Item) (value : Expr) → place (e.Destructure at items value) ≡ at
unfolding out-Expr out
place-Destructure at items value = refl

pub place-NamedArgument : (at : At) (name : List ℕ) (value : Expr) → place (e.NamedArgument at name value) ≡ at
unfolding out-Expr out
place-NamedArgument at name value = refl

pub class_place-ByName : (at : At) (name : List ℕ) → class_place (c.ByName at name) ≡ at
unfolding out-ClassReference out
class_place-ByName at name = refl

pub class_place-SelfClass : (at : At) → class_place (c.SelfClass at) ≡ at
unfolding out-ClassReference out
class_place-SelfClass at = refl

pub class_place-Parent : (at : At) → class_place (c.Parent at) ≡ at
unfolding out-ClassReference out
class_place-Parent at = refl

pub class_place-Static : (at : At) → class_place (c.Static at) ≡ at
unfolding out-ClassReference out
class_place-Static at = refl

pub class_place-ByExpression : (at : At) (class : Expr) → class_place (c.ByExpression at class) ≡ at
unfolding out-ClassReference out
class_place-ByExpression at class = refl

pub step_place-Index : (at : At) (key : Expr) → step_place (s.Index at key) ≡ at
unfolding out-Step out
step_place-Index at key = refl

pub step_place-Append : (at : At) → step_place (s.Append at) ≡ at
unfolding out-Step out
step_place-Append at = refl

pub step_place-Property : (at : At) (name : MemberName) → step_place (s.Property at name) ≡ at
unfolding out-Step out
step_place-Property at name = refl

pub ruleset expr_places = (place-Int, place-Text, place-Interpolated, place-Variable, place-Constant, place-Directory, place-Array, place-Call, place-DynamicCall, place-StaticCall, place-MethodCall, place-New, place-ClassConstant, place-ClassName, place-StaticProperty, place-Paren, place-Isset, place-Empty, place-Exit, place-ExitWith, place-Path, place-Update, place-Prefix, place-InstanceOf, place-Run, place-Pair, place-Ternary, place-ShortTernary, place-Assign, place-AssignReference, place-Destructure, place-NamedArgument)

pub ruleset class_places = (class_place-ByName, class_place-SelfClass, class_place-Parent, class_place-Static, class_place-ByExpression)

pub ruleset step_places = (step_place-Index, step_place-Append, step_place-Property)
