-- What a node of an expression makes of its parts.
use Rattle.std.specs.Prelude.{◌≡◌, ◌<◌, ℕ, suc, Bool, true, false, ◌&&◌, List, [], ◌∷◌, length, map, refl}
use Rattle.std.specs.List.{list_all}
use Rattle.std.proofs.Common.{ap, sym, ◌∙◌, drop, get_or, drop-cons, add-one, ◌+◌}
use Rattle.std.proofs.lemmas.List.Folds.{list_all-map}
use Rattle.hph_ast.specs.declared.token.At.{At}
use Rattle.hph_ast.specs.declared.operator.Binary.{Binary}
use Rattle.hph_ast.specs.declared.operator.Prefix.{Prefix}
use Rattle.hph_ast.specs.declared.operator.Assignment.{Assignment}
use Rattle.hph_ast.specs.declared.expr.Update.{Update}
use Rattle.hph_ast.specs.declared.expr.ArrayForm.{ArrayForm}
use Rattle.hph_ast.specs.declared.expr.Expr.{Expr, roll-Expr}
use Rattle.hph_ast.specs.declared.expr.Expr.TheVariants as e
use Rattle.hph_ast.specs.declared.expr.ClassReference.{ClassReference, roll-ClassReference}
use Rattle.hph_ast.specs.declared.expr.ClassReference.TheVariants as c
use Rattle.hph_ast.specs.declared.expr.Item.{Item, roll-Item}
use Rattle.hph_ast.specs.declared.expr.Item.TheVariants as item
use Rattle.hph_ast.specs.declared.expr.MemberName.{MemberName, roll-MemberName}
use Rattle.hph_ast.specs.declared.expr.MemberName.TheVariants as member
use Rattle.hph_ast.specs.declared.expr.Step.{Step, roll-Step}
use Rattle.hph_ast.specs.declared.expr.Step.TheVariants as s
use Rattle.hph_ast.specs.declared.expr.StringPart.{StringPart, roll-StringPart}
use Rattle.hph_ast.specs.declared.expr.StringPart.TheVariants as part
use Rattle.hph_ast.specs.declared.expr.ClassReference.TheOpen.{ClassReference-F, Expr-F, Item-F, MemberName-F, Step-F, StringPart-F}
use Rattle.hph_ast.specs.declared.expr.ClassReference.TheFolds.{fold-roll-ClassReference, fold-roll-Expr, fold-roll-Item, fold-roll-MemberName, fold-roll-Step, fold-roll-StringPart, map-ClassReference, map-Expr, map-Item, map-MemberName, map-Step, map-StringPart}
use Rattle.hph_ast.specs.Layers.{ExprLayer, ClassLayer, ItemLayer, MemberLayer, StepLayer, PartLayer}
use Rattle.hph_ast.specs.ConstantExpressions.{is_constant, is_constant_prefix, class_is_constant, expr_is_constant, item_is_constant, member_is_constant, step_is_constant, part_is_constant}
use Rattle.hph_nest.specs.ConstantParts.{constant_class, constant_item, constant_member, constant_part, constant_step}

-- the first item, and those behind it
pub list_all-drop : {A : Type 0} (f : A → Bool) (xs : List A) (i : ℕ) (d : A) → i < length xs → list_all f (drop i xs) ≡ (f (get_or xs i d) && list_all f (drop (i + 1) xs))
list_all-drop f xs i d h = rw (add-one, drop-cons xs i d) refl

-- one level of it
expr_rolled : (d : ExprLayer) → is_constant (roll-Expr d) ≡ expr_is_constant (map-Expr ClassReference Expr Item MemberName Step StringPart Bool Bool Bool Bool Bool Bool constant_class is_constant constant_item constant_member constant_step constant_part d)
unfolding is_constant constant_class constant_item constant_member constant_step constant_part
expr_rolled d = fold-roll-Expr Bool Bool Bool Bool Bool Bool class_is_constant expr_is_constant item_is_constant member_is_constant step_is_constant part_is_constant d

-- one level of it
class_rolled : (d : ClassLayer) → constant_class (roll-ClassReference d) ≡ class_is_constant (map-ClassReference ClassReference Expr Item MemberName Step StringPart Bool Bool Bool Bool Bool Bool constant_class is_constant constant_item constant_member constant_step constant_part d)
unfolding is_constant constant_class constant_item constant_member constant_step constant_part
class_rolled d = fold-roll-ClassReference Bool Bool Bool Bool Bool Bool class_is_constant expr_is_constant item_is_constant member_is_constant step_is_constant part_is_constant d

-- one level of it
item_rolled : (d : ItemLayer) → constant_item (roll-Item d) ≡ item_is_constant (map-Item ClassReference Expr Item MemberName Step StringPart Bool Bool Bool Bool Bool Bool constant_class is_constant constant_item constant_member constant_step constant_part d)
unfolding is_constant constant_class constant_item constant_member constant_step constant_part
item_rolled d = fold-roll-Item Bool Bool Bool Bool Bool Bool class_is_constant expr_is_constant item_is_constant member_is_constant step_is_constant part_is_constant d

-- one level of it
member_rolled : (d : MemberLayer) → constant_member (roll-MemberName d) ≡ member_is_constant (map-MemberName ClassReference Expr Item MemberName Step StringPart Bool Bool Bool Bool Bool Bool constant_class is_constant constant_item constant_member constant_step constant_part d)
unfolding is_constant constant_class constant_item constant_member constant_step constant_part
member_rolled d = fold-roll-MemberName Bool Bool Bool Bool Bool Bool class_is_constant expr_is_constant item_is_constant member_is_constant step_is_constant part_is_constant d

-- one level of it
step_rolled : (d : StepLayer) → constant_step (roll-Step d) ≡ step_is_constant (map-Step ClassReference Expr Item MemberName Step StringPart Bool Bool Bool Bool Bool Bool constant_class is_constant constant_item constant_member constant_step constant_part d)
unfolding is_constant constant_class constant_item constant_member constant_step constant_part
step_rolled d = fold-roll-Step Bool Bool Bool Bool Bool Bool class_is_constant expr_is_constant item_is_constant member_is_constant step_is_constant part_is_constant d

-- one level of it
part_rolled : (d : PartLayer) → constant_part (roll-StringPart d) ≡ part_is_constant (map-StringPart ClassReference Expr Item MemberName Step StringPart Bool Bool Bool Bool Bool Bool constant_class is_constant constant_item constant_member constant_step constant_part d)
unfolding is_constant constant_class constant_item constant_member constant_step constant_part
part_rolled d = fold-roll-StringPart Bool Bool Bool Bool Bool Bool class_is_constant expr_is_constant item_is_constant member_is_constant step_is_constant part_is_constant d

pub constant-Int : (at : At) (n : ℕ) → is_constant (e.Int at n) ≡ true
constant-Int at n = ap is_constant (sym (e.rolls-Int at n)) ∙ expr_rolled (Expr-F.Int at n)

pub constant-Text : (at : At) (bytes : List ℕ) → is_constant (e.Text at bytes) ≡ true
constant-Text at bytes = ap is_constant (sym (e.rolls-Text at bytes)) ∙ expr_rolled (Expr-F.Text at bytes)

pub constant-Interpolated : (at : At) (parts : List StringPart) → is_constant (e.Interpolated at parts) ≡ list_all constant_part parts
constant-Interpolated at parts = ap is_constant (sym (e.rolls-Interpolated at parts)) ∙ expr_rolled (Expr-F.Interpolated at parts) ∙ list_all-map (λ b. b) constant_part parts

pub constant-Variable : (at : At) (name : List ℕ) → is_constant (e.Variable at name) ≡ false
constant-Variable at name = ap is_constant (sym (e.rolls-Variable at name)) ∙ expr_rolled (Expr-F.Variable at name)

pub constant-Constant : (at : At) (name : List ℕ) → is_constant (e.Constant at name) ≡ true
constant-Constant at name = ap is_constant (sym (e.rolls-Constant at name)) ∙ expr_rolled (Expr-F.Constant at name)

pub constant-Directory : (at : At) → is_constant (e.Directory at) ≡ true
constant-Directory at = ap is_constant (sym (e.rolls-Directory at)) ∙ expr_rolled (Expr-F.Directory at)

pub constant-Array : (at : At) (form : ArrayForm) (items : List Item) → is_constant (e.Array at form items) ≡ list_all constant_item items
constant-Array at form items = ap is_constant (sym (e.rolls-Array at form items)) ∙ expr_rolled (Expr-F.Array at form items) ∙ list_all-map (λ b. b) constant_item items

pub constant-Call : (at : At) (name : List ℕ) (xs : List Expr) → is_constant (e.Call at name xs) ≡ false
constant-Call at name xs = ap is_constant (sym (e.rolls-Call at name xs)) ∙ expr_rolled (Expr-F.Call at name xs)

pub constant-DynamicCall : (at : At) (x : Expr) (xs : List Expr) → is_constant (e.DynamicCall at x xs) ≡ false
constant-DynamicCall at x xs = ap is_constant (sym (e.rolls-DynamicCall at x xs)) ∙ expr_rolled (Expr-F.DynamicCall at x xs)

pub constant-StaticCall : (at : At) (class : ClassReference) (name : MemberName) (xs : List Expr) → is_constant (e.StaticCall at class name xs) ≡ false
constant-StaticCall at class name xs = ap is_constant (sym (e.rolls-StaticCall at class name xs)) ∙ expr_rolled (Expr-F.StaticCall at class name xs)

pub constant-MethodCall : (at : At) (x : Expr) (name : MemberName) (xs : List Expr) → is_constant (e.MethodCall at x name xs) ≡ false
constant-MethodCall at x name xs = ap is_constant (sym (e.rolls-MethodCall at x name xs)) ∙ expr_rolled (Expr-F.MethodCall at x name xs)

pub constant-New : (at : At) (class : ClassReference) (xs : List Expr) → is_constant (e.New at class xs) ≡ false
constant-New at class xs = ap is_constant (sym (e.rolls-New at class xs)) ∙ expr_rolled (Expr-F.New at class xs)

pub constant-ClassConstant : (at : At) (class : ClassReference) (name : List ℕ) → is_constant (e.ClassConstant at class name) ≡ constant_class class
constant-ClassConstant at class name = ap is_constant (sym (e.rolls-ClassConstant at class name)) ∙ expr_rolled (Expr-F.ClassConstant at class name)

pub constant-ClassName : (at : At) (class : ClassReference) (colons : ℕ) → is_constant (e.ClassName at class colons) ≡ constant_class class
constant-ClassName at class colons = ap is_constant (sym (e.rolls-ClassName at class colons)) ∙ expr_rolled (Expr-F.ClassName at class colons)

pub constant-StaticProperty : (at : At) (class : ClassReference) (name : List ℕ) → is_constant (e.StaticProperty at class name) ≡ false
constant-StaticProperty at class name = ap is_constant (sym (e.rolls-StaticProperty at class name)) ∙ expr_rolled (Expr-F.StaticProperty at class name)

pub constant-Paren : (at : At) (x : Expr) → is_constant (e.Paren at x) ≡ is_constant x
constant-Paren at x = ap is_constant (sym (e.rolls-Paren at x)) ∙ expr_rolled (Expr-F.Paren at x)

pub constant-Isset : (at : At) (xs : List Expr) → is_constant (e.Isset at xs) ≡ false
constant-Isset at xs = ap is_constant (sym (e.rolls-Isset at xs)) ∙ expr_rolled (Expr-F.Isset at xs)

pub constant-Empty : (at : At) (x : Expr) → is_constant (e.Empty at x) ≡ false
constant-Empty at x = ap is_constant (sym (e.rolls-Empty at x)) ∙ expr_rolled (Expr-F.Empty at x)

pub constant-Exit : (at : At) → is_constant (e.Exit at) ≡ false
constant-Exit at = ap is_constant (sym (e.rolls-Exit at)) ∙ expr_rolled (Expr-F.Exit at)

pub constant-ExitWith : (at : At) (x : Expr) → is_constant (e.ExitWith at x) ≡ false
constant-ExitWith at x = ap is_constant (sym (e.rolls-ExitWith at x)) ∙ expr_rolled (Expr-F.ExitWith at x)

pub constant-Path : (at : At) (x : Expr) (steps : List Step) → is_constant (e.Path at x steps) ≡ (is_constant x && list_all constant_step steps)
constant-Path at x steps = ap is_constant (sym (e.rolls-Path at x steps)) ∙ expr_rolled (Expr-F.Path at x steps) ∙ ap (λ b. is_constant x && b) (list_all-map (λ b. b) constant_step steps)

pub constant-Update : (at : At) (form : Update) (x : Expr) → is_constant (e.Update at form x) ≡ false
constant-Update at form x = ap is_constant (sym (e.rolls-Update at form x)) ∙ expr_rolled (Expr-F.Update at form x)

pub constant-Prefix : (at : At) (op : Prefix) (x : Expr) → is_constant (e.Prefix at op x) ≡ (is_constant_prefix op && is_constant x)
constant-Prefix at op x = ap is_constant (sym (e.rolls-Prefix at op x)) ∙ expr_rolled (Expr-F.Prefix at op x)

pub constant-InstanceOf : (at : At) (x : Expr) (classes : List ClassReference) → is_constant (e.InstanceOf at x classes) ≡ (is_constant x && list_all constant_class classes)
constant-InstanceOf at x classes = ap is_constant (sym (e.rolls-InstanceOf at x classes)) ∙ expr_rolled (Expr-F.InstanceOf at x classes) ∙ ap (λ b. is_constant x && b) (list_all-map (λ b. b) constant_class classes)

pub constant-Run : (at : At) (x : Expr) (more : List (Binary × Expr)) → is_constant (e.Run at x more) ≡ (is_constant x && list_all (λ o. is_constant o.1) more)
constant-Run at x more = ap is_constant (sym (e.rolls-Run at x more)) ∙ expr_rolled (Expr-F.Run at x more) ∙ ap (λ b. is_constant x && b) (list_all-map (λ o. o.1) _ more)

pub constant-Pair : (at : At) (op : Binary) (x y : Expr) → is_constant (e.Pair at op x y) ≡ (is_constant x && is_constant y)
constant-Pair at op x y = ap is_constant (sym (e.rolls-Pair at op x y)) ∙ expr_rolled (Expr-F.Pair at op x y)

pub constant-Ternary : (at : At) (x y z : Expr) → is_constant (e.Ternary at x y z) ≡ (is_constant x && (is_constant y && is_constant z))
constant-Ternary at x y z = ap is_constant (sym (e.rolls-Ternary at x y z)) ∙ expr_rolled (Expr-F.Ternary at x y z)

pub constant-ShortTernary : (at : At) (x : Expr) (more : List Expr) → is_constant (e.ShortTernary at x more) ≡ (is_constant x && list_all is_constant more)
constant-ShortTernary at x more = ap is_constant (sym (e.rolls-ShortTernary at x more)) ∙ expr_rolled (Expr-F.ShortTernary at x more) ∙ ap (λ b. is_constant x && b) (list_all-map (λ b. b) is_constant more)

pub constant-Assign : (at : At) (op : Assignment) (x y : Expr) → is_constant (e.Assign at op x y) ≡ false
constant-Assign at op x y = ap is_constant (sym (e.rolls-Assign at op x y)) ∙ expr_rolled (Expr-F.Assign at op x y)

pub constant-AssignReference : (at : At) (x y : Expr) (ampersand : ℕ) → is_constant (e.AssignReference at x y ampersand) ≡ false
constant-AssignReference at x y ampersand = ap is_constant (sym (e.rolls-AssignReference at x y ampersand)) ∙ expr_rolled (Expr-F.AssignReference at x y ampersand)

pub constant-Destructure : (at : At) (items : List Item) (x : Expr) → is_constant (e.Destructure at items x) ≡ false
constant-Destructure at items x = ap is_constant (sym (e.rolls-Destructure at items x)) ∙ expr_rolled (Expr-F.Destructure at items x)

pub constant-NamedArgument : (at : At) (name : List ℕ) (x : Expr) → is_constant (e.NamedArgument at name x) ≡ false
constant-NamedArgument at name x = ap is_constant (sym (e.rolls-NamedArgument at name x)) ∙ expr_rolled (Expr-F.NamedArgument at name x)

pub constant_class-ByName : (at : At) (name : List ℕ) → constant_class (c.ByName at name) ≡ true
constant_class-ByName at name = ap constant_class (sym (c.rolls-ByName at name)) ∙ class_rolled (ClassReference-F.ByName at name)

pub constant_class-SelfClass : (at : At) → constant_class (c.SelfClass at) ≡ true
constant_class-SelfClass at = ap constant_class (sym (c.rolls-SelfClass at)) ∙ class_rolled (ClassReference-F.SelfClass at)

pub constant_class-Parent : (at : At) → constant_class (c.Parent at) ≡ true
constant_class-Parent at = ap constant_class (sym (c.rolls-Parent at)) ∙ class_rolled (ClassReference-F.Parent at)

pub constant_class-Static : (at : At) → constant_class (c.Static at) ≡ true
constant_class-Static at = ap constant_class (sym (c.rolls-Static at)) ∙ class_rolled (ClassReference-F.Static at)

pub constant_class-ByExpression : (at : At) (x : Expr) → constant_class (c.ByExpression at x) ≡ is_constant x
constant_class-ByExpression at x = ap constant_class (sym (c.rolls-ByExpression at x)) ∙ class_rolled (ClassReference-F.ByExpression at x)

pub constant_item-Plain : (at : At) (x : Expr) → constant_item (item.Plain at x) ≡ is_constant x
constant_item-Plain at x = ap constant_item (sym (item.rolls-Plain at x)) ∙ item_rolled (Item-F.Plain at x)

pub constant_item-Keyed : (at : At) (x y : Expr) → constant_item (item.Keyed at x y) ≡ (is_constant x && is_constant y)
constant_item-Keyed at x y = ap constant_item (sym (item.rolls-Keyed at x y)) ∙ item_rolled (Item-F.Keyed at x y)

pub constant_item-Reference : (at : At) (x : Expr) → constant_item (item.Reference at x) ≡ false
constant_item-Reference at x = ap constant_item (sym (item.rolls-Reference at x)) ∙ item_rolled (Item-F.Reference at x)

pub constant_item-KeyedReference : (at : At) (x y : Expr) (ampersand : ℕ) → constant_item (item.KeyedReference at x y ampersand) ≡ false
constant_item-KeyedReference at x y ampersand = ap constant_item (sym (item.rolls-KeyedReference at x y ampersand)) ∙ item_rolled (Item-F.KeyedReference at x y ampersand)

pub constant_item-Hole : (at : At) → constant_item (item.Hole at) ≡ false
constant_item-Hole at = ap constant_item (sym (item.rolls-Hole at)) ∙ item_rolled (Item-F.Hole at)

pub constant_member-Named : (name : List ℕ) → constant_member (member.Named name) ≡ true
constant_member-Named name = ap constant_member (sym (member.rolls-Named name)) ∙ member_rolled (MemberName-F.Named name)

pub constant_member-Computed : (x : Expr) → constant_member (member.Computed x) ≡ is_constant x
constant_member-Computed x = ap constant_member (sym (member.rolls-Computed x)) ∙ member_rolled (MemberName-F.Computed x)

pub constant_step-Index : (at : At) (x : Expr) → constant_step (s.Index at x) ≡ is_constant x
constant_step-Index at x = ap constant_step (sym (s.rolls-Index at x)) ∙ step_rolled (Step-F.Index at x)

pub constant_step-Append : (at : At) → constant_step (s.Append at) ≡ false
constant_step-Append at = ap constant_step (sym (s.rolls-Append at)) ∙ step_rolled (Step-F.Append at)

pub constant_step-Property : (at : At) (name : MemberName) → constant_step (s.Property at name) ≡ constant_member name
constant_step-Property at name = ap constant_step (sym (s.rolls-Property at name)) ∙ step_rolled (Step-F.Property at name)

pub constant_part-Piece : (at : At) (bytes : List ℕ) → constant_part (part.Piece at bytes) ≡ true
constant_part-Piece at bytes = ap constant_part (sym (part.rolls-Piece at bytes)) ∙ part_rolled (StringPart-F.Piece at bytes)

pub constant_part-Interpolation : (x : Expr) → constant_part (part.Interpolation x) ≡ is_constant x
constant_part-Interpolation x = ap constant_part (sym (part.rolls-Interpolation x)) ∙ part_rolled (StringPart-F.Interpolation x)

pub ruleset constants = (list_all-drop, constant-Int, constant-Text, constant-Interpolated, constant-Variable, constant-Constant, constant-Directory, constant-Array, constant-Call, constant-DynamicCall, constant-StaticCall, constant-MethodCall, constant-New, constant-ClassConstant, constant-ClassName, constant-StaticProperty, constant-Paren, constant-Isset, constant-Empty, constant-Exit, constant-ExitWith, constant-Path, constant-Update, constant-Prefix, constant-InstanceOf, constant-Run, constant-Pair, constant-Ternary, constant-ShortTernary, constant-Assign, constant-AssignReference, constant-Destructure, constant-NamedArgument, constant_class-ByName, constant_class-SelfClass, constant_class-Parent, constant_class-Static, constant_class-ByExpression, constant_item-Plain, constant_item-Keyed, constant_item-Reference, constant_item-KeyedReference, constant_item-Hole, constant_member-Named, constant_member-Computed, constant_step-Index, constant_step-Append, constant_step-Property, constant_part-Piece, constant_part-Interpolation)
