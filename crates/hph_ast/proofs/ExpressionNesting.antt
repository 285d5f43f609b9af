-- The nesting of each node of an expression.
use Rattle.std.specs.Prelude.{◌≡◌, ℕ, List, [], ◌∷◌, suc, max, map, refl}
use Rattle.std.proofs.Common.{ap, sym, ◌∙◌}
use Rattle.hph_ast.specs.declared.token.At.{At}
use Rattle.hph_ast.specs.declared.operator.Binary.{Binary}
use Rattle.hph_ast.specs.declared.operator.Prefix.{Prefix}
use Rattle.hph_ast.specs.declared.operator.Assignment.{Assignment}
use Rattle.hph_ast.specs.declared.expr.Update.{Update}
use Rattle.hph_ast.specs.declared.expr.ArrayForm.{ArrayForm}
use Rattle.hph_ast.specs.declared.expr.Expr.{Expr, roll-Expr}
use Rattle.hph_ast.specs.declared.expr.Expr.TheVariants as e
use Rattle.hph_ast.specs.declared.expr.ClassReference.{ClassReference, roll-ClassReference}
use Rattle.hph_ast.specs.declared.expr.ClassReference.TheVariants as c
use Rattle.hph_ast.specs.declared.expr.Item.{Item, roll-Item}
use Rattle.hph_ast.specs.declared.expr.Item.TheVariants as item
use Rattle.hph_ast.specs.declared.expr.MemberName.{MemberName, roll-MemberName}
use Rattle.hph_ast.specs.declared.expr.MemberName.TheVariants as member
use Rattle.hph_ast.specs.declared.expr.Step.{Step, roll-Step}
use Rattle.hph_ast.specs.declared.expr.Step.TheVariants as s
use Rattle.hph_ast.specs.declared.expr.StringPart.{StringPart, roll-StringPart}
use Rattle.hph_ast.specs.declared.expr.StringPart.TheVariants as part
use Rattle.hph_ast.specs.declared.expr.ClassReference.TheOpen.{ClassReference-F, Expr-F, Item-F, MemberName-F, Step-F, StringPart-F}
use Rattle.hph_ast.specs.declared.expr.ClassReference.TheFolds.{fold-roll-ClassReference, fold-roll-Expr, fold-roll-Item, fold-roll-MemberName, fold-roll-Step, fold-roll-StringPart, map-ClassReference, map-Expr, map-Item, map-MemberName, map-Step, map-StringPart}
use Rattle.hph_ast.specs.Layers.{ExprLayer, ClassLayer, ItemLayer, MemberLayer, StepLayer, PartLayer}
use Rattle.hph_ast.specs.Nesting.{greatest, nesting, class_nesting, item_nesting, member_nesting, step_nesting, part_nesting, nesting_by, class_nesting_by, item_nesting_by, member_nesting_by, step_nesting_by, part_nesting_by}

-- the greatest over a mapped list
pub greatest-map : {A B : Type 0} (f : B → ℕ) (g : A → B) (xs : List A) → greatest f (map g xs) ≡ greatest (λ x. f (g x)) xs
greatest-map f g [] = refl
greatest-map f g (x ∷ xs) = ap (max (f (g x))) (greatest-map f g xs)

-- one level of it
expr_rolled : (d : ExprLayer) → nesting (roll-Expr d) ≡ nesting_by (map-Expr ClassReference Expr Item MemberName Step StringPart ℕ ℕ ℕ ℕ ℕ ℕ class_nesting nesting item_nesting member_nesting step_nesting part_nesting d)
unfolding nesting class_nesting item_nesting member_nesting step_nesting part_nesting
expr_rolled d = fold-roll-Expr ℕ ℕ ℕ ℕ ℕ ℕ class_nesting_by nesting_by item_nesting_by member_nesting_by step_nesting_by part_nesting_by d

-- one level of it
class_rolled : (d : ClassLayer) → class_nesting (roll-ClassReference d) ≡ class_nesting_by (map-ClassReference ClassReference Expr Item MemberName Step StringPart ℕ ℕ ℕ ℕ ℕ ℕ class_nesting nesting item_nesting member_nesting step_nesting part_nesting d)
unfolding nesting class_nesting item_nesting member_nesting step_nesting part_nesting
class_rolled d = fold-roll-ClassReference ℕ ℕ ℕ ℕ ℕ ℕ class_nesting_by nesting_by item_nesting_by member_nesting_by step_nesting_by part_nesting_by d

-- one level of it
item_rolled : (d : ItemLayer) → item_nesting (roll-Item d) ≡ item_nesting_by (map-Item ClassReference Expr Item MemberName Step StringPart ℕ ℕ ℕ ℕ ℕ ℕ class_nesting nesting item_nesting member_nesting step_nesting part_nesting d)
unfolding nesting class_nesting item_nesting member_nesting step_nesting part_nesting
item_rolled d = fold-roll-Item ℕ ℕ ℕ ℕ ℕ ℕ class_nesting_by nesting_by item_nesting_by member_nesting_by step_nesting_by part_nesting_by d

-- one level of it
member_rolled : (d : MemberLayer) → member_nesting (roll-MemberName d) ≡ member_nesting_by (map-MemberName ClassReference Expr Item MemberName Step StringPart ℕ ℕ ℕ ℕ ℕ ℕ class_nesting nesting item_nesting member_nesting step_nesting part_nesting d)
unfolding nesting class_nesting item_nesting member_nesting step_nesting part_nesting
member_rolled d = fold-roll-MemberName ℕ ℕ ℕ ℕ ℕ ℕ class_nesting_by nesting_by item_nesting_by member_nesting_by step_nesting_by part_nesting_by d

-- one level of it
step_rolled : (d : StepLayer) → step_nesting (roll-Step d) ≡ step_nesting_by (map-Step ClassReference Expr Item MemberName Step StringPart ℕ ℕ ℕ ℕ ℕ ℕ class_nesting nesting item_nesting member_nesting step_nesting part_nesting d)
unfolding nesting class_nesting item_nesting member_nesting step_nesting part_nesting
step_rolled d = fold-roll-Step ℕ ℕ ℕ ℕ ℕ ℕ class_nesting_by nesting_by item_nesting_by member_nesting_by step_nesting_by part_nesting_by d

-- one level of it
part_rolled : (d : PartLayer) → part_nesting (roll-StringPart d) ≡ part_nesting_by (map-StringPart ClassReference Expr Item MemberName Step StringPart ℕ ℕ ℕ ℕ ℕ ℕ class_nesting nesting item_nesting member_nesting step_nesting part_nesting d)
unfolding nesting class_nesting item_nesting member_nesting step_nesting part_nesting
part_rolled d = fold-roll-StringPart ℕ ℕ ℕ ℕ ℕ ℕ class_nesting_by nesting_by item_nesting_by member_nesting_by step_nesting_by part_nesting_by d

pub nesting-Int : (at : At) (n : ℕ) → nesting (e.Int at n) ≡ 1
nesting-Int at n = ap nesting (sym (e.rolls-Int at n)) ∙ expr_rolled (Expr-F.Int at n)

pub nesting-Text : (at : At) (bytes : List ℕ) → nesting (e.Text at bytes) ≡ 1
nesting-Text at bytes = ap nesting (sym (e.rolls-Text at bytes)) ∙ expr_rolled (Expr-F.Text at bytes)

pub nesting-Interpolated : (at : At) (parts : List StringPart) → nesting (e.Interpolated at parts) ≡ suc (greatest part_nesting parts)
nesting-Interpolated at parts = ap nesting (sym (e.rolls-Interpolated at parts)) ∙ expr_rolled (Expr-F.Interpolated at parts) ∙ ap suc (greatest-map (λ n. n) part_nesting parts)

pub nesting-Variable : (at : At) (name : List ℕ) → nesting (e.Variable at name) ≡ 1
nesting-Variable at name = ap nesting (sym (e.rolls-Variable at name)) ∙ expr_rolled (Expr-F.Variable at name)

pub nesting-Constant : (at : At) (name : List ℕ) → nesting (e.Constant at name) ≡ 1
nesting-Constant at name = ap nesting (sym (e.rolls-Constant at name)) ∙ expr_rolled (Expr-F.Constant at name)

pub nesting-Directory : (at : At) → nesting (e.Directory at) ≡ 1
nesting-Directory at = ap nesting (sym (e.rolls-Directory at)) ∙ expr_rolled (Expr-F.Directory at)

pub nesting-Array : (at : At) (form : ArrayForm) (items : List Item) → nesting (e.Array at form items) ≡ suc (greatest item_nesting items)
nesting-Array at form items = ap nesting (sym (e.rolls-Array at form items)) ∙ expr_rolled (Expr-F.Array at form items) ∙ ap suc (greatest-map (λ n. n) item_nesting items)

pub nesting-Call : (at : At) (name : List ℕ) (xs : List Expr) → nesting (e.Call at name xs) ≡ suc (greatest nesting xs)
nesting-Call at name xs = ap nesting (sym (e.rolls-Call at name xs)) ∙ expr_rolled (Expr-F.Call at name xs) ∙ ap suc (greatest-map (λ n. n) nesting xs)

pub nesting-DynamicCall : (at : At) (x : Expr) (xs : List Expr) → nesting (e.DynamicCall at x xs) ≡ suc (max (nesting x) (greatest nesting xs))
nesting-DynamicCall at x xs = ap nesting (sym (e.rolls-DynamicCall at x xs)) ∙ expr_rolled (Expr-F.DynamicCall at x xs) ∙ ap (λ n. suc (max (nesting x) n)) (greatest-map (λ n. n) nesting xs)

pub nesting-StaticCall : (at : At) (class : ClassReference) (name : MemberName) (xs : List Expr) → nesting (e.StaticCall at class name xs) ≡ suc (max (class_nesting class) (max (member_nesting name) (greatest nesting xs)))
nesting-StaticCall at class name xs = ap nesting (sym (e.rolls-StaticCall at class name xs)) ∙ expr_rolled (Expr-F.StaticCall at class name xs) ∙ ap (λ n. suc (max (class_nesting class) (max (member_nesting name) n))) (greatest-map (λ n. n) nesting xs)

pub nesting-MethodCall : (at : At) (x : Expr) (name : MemberName) (xs : List Expr) → nesting (e.MethodCall at x name xs) ≡ suc (max (nesting x) (max (member_nesting name) (greatest nesting xs)))
nesting-MethodCall at x name xs = ap nesting (sym (e.rolls-MethodCall at x name xs)) ∙ expr_rolled (Expr-F.MethodCall at x name xs) ∙ ap (λ n. suc (max (nesting x) (max (member_nesting name) n))) (greatest-map (λ n. n) nesting xs)

pub nesting-New : (at : At) (class : ClassReference) (xs : List Expr) → nesting (e.New at class xs) ≡ suc (max (class_nesting class) (greatest nesting xs))
nesting-New at class xs = ap nesting (sym (e.rolls-New at class xs)) ∙ expr_rolled (Expr-F.New at class xs) ∙ ap (λ n. suc (max (class_nesting class) n)) (greatest-map (λ n. n) nesting xs)

pub nesting-ClassConstant : (at : At) (class : ClassReference) (name : List ℕ) → nesting (e.ClassConstant at class name) ≡ suc (class_nesting class)
nesting-ClassConstant at class name = ap nesting (sym (e.rolls-ClassConstant at class name)) ∙ expr_rolled (Expr-F.ClassConstant at class name)

pub nesting-ClassName : (at : At) (class : ClassReference) (colons : ℕ) → nesting (e.ClassName at class colons) ≡ suc (class_nesting class)
nesting-ClassName at class colons = ap nesting (sym (e.rolls-ClassName at class colons)) ∙ expr_rolled (Expr-F.ClassName at class colons)

pub nesting-StaticProperty : (at : At) (class : ClassReference) (name : List ℕ) → nesting (e.StaticProperty at class name) ≡ suc (class_nesting class)
nesting-StaticProperty at class name = ap nesting (sym (e.rolls-StaticProperty at class name)) ∙ expr_rolled (Expr-F.StaticProperty at class name)

pub nesting-Paren : (at : At) (x : Expr) → nesting (e.Paren at x) ≡ suc (nesting x)
nesting-Paren at x = ap nesting (sym (e.rolls-Paren at x)) ∙ expr_rolled (Expr-F.Paren at x)

pub nesting-Isset : (at : At) (xs : List Expr) → nesting (e.Isset at xs) ≡ suc (greatest nesting xs)
nesting-Isset at xs = ap nesting (sym (e.rolls-Isset at xs)) ∙ expr_rolled (Expr-F.Isset at xs) ∙ ap suc (greatest-map (λ n. n) nesting xs)

pub nesting-Empty : (at : At) (x : Expr) → nesting (e.Empty at x) ≡ suc (nesting x)
nesting-Empty at x = ap nesting (sym (e.rolls-Empty at x)) ∙ expr_rolled (Expr-F.Empty at x)

pub nesting-Exit : (at : At) → nesting (e.Exit at) ≡ 1
nesting-Exit at = ap nesting (sym (e.rolls-Exit at)) ∙ expr_rolled (Expr-F.Exit at)

pub nesting-ExitWith : (at : At) (x : Expr) → nesting (e.ExitWith at x) ≡ suc (nesting x)
nesting-ExitWith at x = ap nesting (sym (e.rolls-ExitWith at x)) ∙ expr_rolled (Expr-F.ExitWith at x)

pub nesting-Path : (at : At) (x : Expr) (steps : List Step) → nesting (e.Path at x steps) ≡ suc (max (nesting x) (greatest step_nesting steps))
nesting-Path at x steps = ap nesting (sym (e.rolls-Path at x steps)) ∙ expr_rolled (Expr-F.Path at x steps) ∙ ap (λ n. suc (max (nesting x) n)) (greatest-map (λ n. n) step_nesting steps)

pub nesting-Update : (at : At) (form : Update) (x : Expr) → nesting (e.Update at form x) ≡ suc (nesting x)
nesting-Update at form x = ap nesting (sym (e.rolls-Update at form x)) ∙ expr_rolled (Expr-F.Update at form x)

pub nesting-Prefix : (at : At) (op : Prefix) (x : Expr) → nesting (e.Prefix at op x) ≡ suc (nesting x)
nesting-Prefix at op x = ap nesting (sym (e.rolls-Prefix at op x)) ∙ expr_rolled (Expr-F.Prefix at op x)

pub nesting-InstanceOf : (at : At) (x : Expr) (classes : List ClassReference) → nesting (e.InstanceOf at x classes) ≡ suc (max (nesting x) (greatest class_nesting classes))
nesting-InstanceOf at x classes = ap nesting (sym (e.rolls-InstanceOf at x classes)) ∙ expr_rolled (Expr-F.InstanceOf at x classes) ∙ ap (λ n. suc (max (nesting x) n)) (greatest-map (λ n. n) class_nesting classes)

pub nesting-Run : (at : At) (x : Expr) (more : List (Binary × Expr)) → nesting (e.Run at x more) ≡ suc (max (nesting x) (greatest (λ o. nesting o.1) more))
nesting-Run at x more = ap nesting (sym (e.rolls-Run at x more)) ∙ expr_rolled (Expr-F.Run at x more) ∙ ap (λ n. suc (max (nesting x) n)) (greatest-map (λ o. o.1) _ more)

pub nesting-Pair : (at : At) (op : Binary) (x y : Expr) → nesting (e.Pair at op x y) ≡ suc (max (nesting x) (nesting y))
nesting-Pair at op x y = ap nesting (sym (e.rolls-Pair at op x y)) ∙ expr_rolled (Expr-F.Pair at op x y)

pub nesting-Ternary : (at : At) (x y z : Expr) → nesting (e.Ternary at x y z) ≡ suc (max (nesting x) (max (nesting y) (nesting z)))
nesting-Ternary at x y z = ap nesting (sym (e.rolls-Ternary at x y z)) ∙ expr_rolled (Expr-F.Ternary at x y z)

pub nesting-ShortTernary : (at : At) (x : Expr) (more : List Expr) → nesting (e.ShortTernary at x more) ≡ suc (max (nesting x) (greatest nesting more))
nesting-ShortTernary at x more = ap nesting (sym (e.rolls-ShortTernary at x more)) ∙ expr_rolled (Expr-F.ShortTernary at x more) ∙ ap (λ n. suc (max (nesting x) n)) (greatest-map (λ n. n) nesting more)

pub nesting-Assign : (at : At) (op : Assignment) (x y : Expr) → nesting (e.Assign at op x y) ≡ suc (max (nesting x) (nesting y))
nesting-Assign at op x y = ap nesting (sym (e.rolls-Assign at op x y)) ∙ expr_rolled (Expr-F.Assign at op x y)

pub nesting-AssignReference : (at : At) (x y : Expr) (ampersand : ℕ) → nesting (e.AssignReference at x y ampersand) ≡ suc (max (nesting x) (nesting y))
nesting-AssignReference at x y ampersand = ap nesting (sym (e.rolls-AssignReference at x y ampersand)) ∙ expr_rolled (Expr-F.AssignReference at x y ampersand)

pub nesting-Destructure : (at : At) (items : List Item) (x : Expr) → nesting (e.Destructure at items x) ≡ suc (max (greatest item_nesting items) (nesting x))
nesting-Destructure at items x = ap nesting (sym (e.rolls-Destructure at items x)) ∙ expr_rolled (Expr-F.Destructure at items x) ∙ ap (λ n. suc (max n (nesting x))) (greatest-map (λ n. n) item_nesting items)

pub nesting-NamedArgument : (at : At) (name : List ℕ) (x : Expr) → nesting (e.NamedArgument at name x) ≡ suc (nesting x)
nesting-NamedArgument at name x = ap nesting (sym (e.rolls-NamedArgument at name x)) ∙ expr_rolled (Expr-F.NamedArgument at name x)

pub class_nesting-ByName : (at : At) (name : List ℕ) → class_nesting (c.ByName at name) ≡ 1
class_nesting-ByName at name = ap class_nesting (sym (c.rolls-ByName at name)) ∙ class_rolled (ClassReference-F.ByName at name)

pub class_nesting-SelfClass : (at : At) → class_nesting (c.SelfClass at) ≡ 1
class_nesting-SelfClass at = ap class_nesting (sym (c.rolls-SelfClass at)) ∙ class_rolled (ClassReference-F.SelfClass at)

pub class_nesting-Parent : (at : At) → class_nesting (c.Parent at) ≡ 1
class_nesting-Parent at = ap class_nesting (sym (c.rolls-Parent at)) ∙ class_rolled (ClassReference-F.Parent at)

pub class_nesting-Static : (at : At) → class_nesting (c.Static at) ≡ 1
class_nesting-Static at = ap class_nesting (sym (c.rolls-Static at)) ∙ class_rolled (ClassReference-F.Static at)

pub class_nesting-ByExpression : (at : At) (x : Expr) → class_nesting (c.ByExpression at x) ≡ suc (nesting x)
class_nesting-ByExpression at x = ap class_nesting (sym (c.rolls-ByExpression at x)) ∙ class_rolled (ClassReference-F.ByExpression at x)

pub item_nesting-Plain : (at : At) (x : Expr) → item_nesting (item.Plain at x) ≡ suc (nesting x)
item_nesting-Plain at x = ap item_nesting (sym (item.rolls-Plain at x)) ∙ item_rolled (Item-F.Plain at x)

pub item_nesting-Keyed : (at : At) (x y : Expr) → item_nesting (item.Keyed at x y) ≡ suc (max (nesting x) (nesting y))
item_nesting-Keyed at x y = ap item_nesting (sym (item.rolls-Keyed at x y)) ∙ item_rolled (Item-F.Keyed at x y)

pub item_nesting-Reference : (at : At) (x : Expr) → item_nesting (item.Reference at x) ≡ suc (nesting x)
item_nesting-Reference at x = ap item_nesting (sym (item.rolls-Reference at x)) ∙ item_rolled (Item-F.Reference at x)

pub item_nesting-KeyedReference : (at : At) (x y : Expr) (ampersand : ℕ) → item_nesting (item.KeyedReference at x y ampersand) ≡ suc (max (nesting x) (nesting y))
item_nesting-KeyedReference at x y ampersand = ap item_nesting (sym (item.rolls-KeyedReference at x y ampersand)) ∙ item_rolled (Item-F.KeyedReference at x y ampersand)

pub item_nesting-Hole : (at : At) → item_nesting (item.Hole at) ≡ 1
item_nesting-Hole at = ap item_nesting (sym (item.rolls-Hole at)) ∙ item_rolled (Item-F.Hole at)

pub member_nesting-Named : (name : List ℕ) → member_nesting (member.Named name) ≡ 0
member_nesting-Named name = ap member_nesting (sym (member.rolls-Named name)) ∙ member_rolled (MemberName-F.Named name)

pub member_nesting-Computed : (x : Expr) → member_nesting (member.Computed x) ≡ nesting x
member_nesting-Computed x = ap member_nesting (sym (member.rolls-Computed x)) ∙ member_rolled (MemberName-F.Computed x)

pub step_nesting-Index : (at : At) (x : Expr) → step_nesting (s.Index at x) ≡ nesting x
step_nesting-Index at x = ap step_nesting (sym (s.rolls-Index at x)) ∙ step_rolled (Step-F.Index at x)

pub step_nesting-Append : (at : At) → step_nesting (s.Append at) ≡ 0
step_nesting-Append at = ap step_nesting (sym (s.rolls-Append at)) ∙ step_rolled (Step-F.Append at)

pub step_nesting-Property : (at : At) (name : MemberName) → step_nesting (s.Property at name) ≡ member_nesting name
step_nesting-Property at name = ap step_nesting (sym (s.rolls-Property at name)) ∙ step_rolled (Step-F.Property at name)

pub part_nesting-Piece : (at : At) (bytes : List ℕ) → part_nesting (part.Piece at bytes) ≡ 0
part_nesting-Piece at bytes = ap part_nesting (sym (part.rolls-Piece at bytes)) ∙ part_rolled (StringPart-F.Piece at bytes)

pub part_nesting-Interpolation : (x : Expr) → part_nesting (part.Interpolation x) ≡ nesting x
part_nesting-Interpolation x = ap part_nesting (sym (part.rolls-Interpolation x)) ∙ part_rolled (StringPart-F.Interpolation x)
