-- What is refused in each node of an expression, in terms of its parts.
use Rattle.std.specs.Prelude.{◌≡◌, ℕ, List, [], ◌∷◌, ◌++◌, not, map, flat_map, refl}
use Rattle.std.proofs.Common.{ap, sym, ◌∙◌}
use Rattle.hph_ast.specs.declared.token.At.{At}
use Rattle.hph_ast.specs.declared.operator.Binary.{Binary}
use Rattle.hph_ast.specs.declared.operator.Prefix.{Prefix}
use Rattle.hph_ast.specs.declared.operator.Assignment.{Assignment}
use Rattle.hph_ast.specs.declared.refusal.Construct.TheVariants as c
use Rattle.hph_ast.specs.declared.expr.Update.{Update}
use Rattle.hph_ast.specs.declared.expr.ArrayForm.{ArrayForm}
use Rattle.hph_ast.specs.declared.expr.Expr.{Expr, roll-Expr}
use Rattle.hph_ast.specs.declared.expr.Expr.TheVariants as e
use Rattle.hph_ast.specs.declared.expr.ClassReference.{ClassReference, roll-ClassReference}
use Rattle.hph_ast.specs.declared.expr.ClassReference.TheVariants as class
use Rattle.hph_ast.specs.declared.expr.Item.{Item, roll-Item}
use Rattle.hph_ast.specs.declared.expr.Item.TheVariants as item
use Rattle.hph_ast.specs.declared.expr.MemberName.{MemberName, roll-MemberName}
use Rattle.hph_ast.specs.declared.expr.MemberName.TheVariants as member
use Rattle.hph_ast.specs.declared.expr.Step.{Step, roll-Step}
use Rattle.hph_ast.specs.declared.expr.Step.TheVariants as step
use Rattle.hph_ast.specs.declared.expr.StringPart.{StringPart, roll-StringPart}
use Rattle.hph_ast.specs.declared.expr.StringPart.TheVariants as piece
use Rattle.hph_ast.specs.declared.expr.ClassReference.TheOpen.{ClassReference-F, Expr-F, Item-F, MemberName-F, Step-F, StringPart-F}
use Rattle.hph_ast.specs.declared.expr.ClassReference.TheFolds.{fold-roll-ClassReference, fold-roll-Expr, fold-roll-Item, fold-roll-MemberName, fold-roll-Step, fold-roll-StringPart, map-ClassReference, map-Expr, map-Item, map-MemberName, map-Step, map-StringPart}
use Rattle.hph_ast.specs.Layers.{ExprLayer, ClassLayer, ItemLayer, MemberLayer, StepLayer, PartLayer}
use Rattle.hph_ast.specs.RefusedExpressions.{Context, Found, Refused, Part, on_true, is_this_name, this_outside, this_written, class_context, library_name, prefix_refused, reference_refused, class_refused, item_refused, member_refused, step_refused, piece_refused, joined, part_of, part, item_found, refused_in}
use Rattle.hph_accept.specs.Parts.{class_found, name_found, step_found, piece_found}

-- what is found in a mapped list
pub flat_map-map : {A B C : Type 0} (f : B → List C) (g : A → B) (xs : List A) → flat_map f (map g xs) ≡ flat_map (λ x. f (g x)) xs
flat_map-map f g [] = refl
flat_map-map f g (x ∷ xs) = ap (λ l. f (g x) ++ l) (flat_map-map f g xs)

-- one level of it
part_rolled : (d : ExprLayer) → part (roll-Expr d) ≡ part_of (map-Expr ClassReference Expr Item MemberName Step StringPart Refused Part Refused Refused Refused Refused class_found part item_found name_found step_found piece_found d)
unfolding class_found part item_found name_found step_found piece_found
part_rolled d = fold-roll-Expr Refused Part Refused Refused Refused Refused class_refused part_of item_refused member_refused step_refused piece_refused d

-- one level of it
class_rolled : (d : ClassLayer) → class_found (roll-ClassReference d) ≡ class_refused (map-ClassReference ClassReference Expr Item MemberName Step StringPart Refused Part Refused Refused Refused Refused class_found part item_found name_found step_found piece_found d)
unfolding class_found part item_found name_found step_found piece_found
class_rolled d = fold-roll-ClassReference Refused Part Refused Refused Refused Refused class_refused part_of item_refused member_refused step_refused piece_refused d

-- one level of it
item_rolled : (d : ItemLayer) → item_found (roll-Item d) ≡ item_refused (map-Item ClassReference Expr Item MemberName Step StringPart Refused Part Refused Refused Refused Refused class_found part item_found name_found step_found piece_found d)
unfolding class_found part item_found name_found step_found piece_found
item_rolled d = fold-roll-Item Refused Part Refused Refused Refused Refused class_refused part_of item_refused member_refused step_refused piece_refused d

-- one level of it
member_rolled : (d : MemberLayer) → name_found (roll-MemberName d) ≡ member_refused (map-MemberName ClassReference Expr Item MemberName Step StringPart Refused Part Refused Refused Refused Refused class_found part item_found name_found step_found piece_found d)
unfolding class_found part item_found name_found step_found piece_found
member_rolled d = fold-roll-MemberName Refused Part Refused Refused Refused Refused class_refused part_of item_refused member_refused step_refused piece_refused d

-- one level of it
step_rolled : (d : StepLayer) → step_found (roll-Step d) ≡ step_refused (map-Step ClassReference Expr Item MemberName Step StringPart Refused Part Refused Refused Refused Refused class_found part item_found name_found step_found piece_found d)
unfolding class_found part item_found name_found step_found piece_found
step_rolled d = fold-roll-Step Refused Part Refused Refused Refused Refused class_refused part_of item_refused member_refused step_refused piece_refused d

-- one level of it
piece_rolled : (d : PartLayer) → piece_found (roll-StringPart d) ≡ piece_refused (map-StringPart ClassReference Expr Item MemberName Step StringPart Refused Part Refused Refused Refused Refused class_found part item_found name_found step_found piece_found d)
unfolding class_found part item_found name_found step_found piece_found
piece_rolled d = fold-roll-StringPart Refused Part Refused Refused Refused Refused class_refused part_of item_refused member_refused step_refused piece_refused d

part-Int : (at : At) (value : ℕ) → part (e.Int at value) ≡ part_of (map-Expr ClassReference Expr Item MemberName Step StringPart Refused Part Refused Refused Refused Refused class_found part item_found name_found step_found piece_found (Expr-F.Int at value))
part-Int at value = ap part (sym (e.rolls-Int at value)) ∙ part_rolled (Expr-F.Int at value)

pub refused-Int : (at : At) (value : ℕ) (ctx : Context) → refused_in (e.Int at value) ctx ≡ []
refused-Int at value ctx = ap (λ (p : Part). p.refused ctx) (part-Int at value)

part-Text : (at : At) (bytes : List ℕ) → part (e.Text at bytes) ≡ part_of (map-Expr ClassReference Expr Item MemberName Step StringPart Refused Part Refused Refused Refused Refused class_found part item_found name_found step_found piece_found (Expr-F.Text at bytes))
part-Text at bytes = ap part (sym (e.rolls-Text at bytes)) ∙ part_rolled (Expr-F.Text at bytes)

pub refused-Text : (at : At) (bytes : List ℕ) (ctx : Context) → refused_in (e.Text at bytes) ctx ≡ []
refused-Text at bytes ctx = ap (λ (p : Part). p.refused ctx) (part-Text at bytes)

part-Interpolated : (at : At) (parts : List StringPart) → part (e.Interpolated at parts) ≡ part_of (map-Expr ClassReference Expr Item MemberName Step StringPart Refused Part Refused Refused Refused Refused class_found part item_found name_found step_found piece_found (Expr-F.Interpolated at parts))
part-Interpolated at parts = ap part (sym (e.rolls-Interpolated at parts)) ∙ part_rolled (Expr-F.Interpolated at parts)

pub refused-Interpolated : (at : At) (parts : List StringPart) (ctx : Context) → refused_in (e.Interpolated at parts) ctx ≡ flat_map (λ x. piece_found x ctx) parts
refused-Interpolated at parts ctx = ap (λ (p : Part). p.refused ctx) (part-Interpolated at parts) ∙ flat_map-map (λ r. r ctx) piece_found parts

part-Variable : (at : At) (name : List ℕ) → part (e.Variable at name) ≡ part_of (map-Expr ClassReference Expr Item MemberName Step StringPart Refused Part Refused Refused Refused Refused class_found part item_found name_found step_found piece_found (Expr-F.Variable at name))
part-Variable at name = ap part (sym (e.rolls-Variable at name)) ∙ part_rolled (Expr-F.Variable at name)

pub refused-Variable : (at : At) (name : List ℕ) (ctx : Context) → refused_in (e.Variable at name) ctx ≡ this_outside ctx (is_this_name name) at.start
refused-Variable at name ctx = ap (λ (p : Part). p.refused ctx) (part-Variable at name)

part-Constant : (at : At) (name : List ℕ) → part (e.Constant at name) ≡ part_of (map-Expr ClassReference Expr Item MemberName Step StringPart Refused Part Refused Refused Refused Refused class_found part item_found name_found step_found piece_found (Expr-F.Constant at name))
part-Constant at name = ap part (sym (e.rolls-Constant at name)) ∙ part_rolled (Expr-F.Constant at name)

pub refused-Constant : (at : At) (name : List ℕ) (ctx : Context) → refused_in (e.Constant at name) ctx ≡ []
refused-Constant at name ctx = ap (λ (p : Part). p.refused ctx) (part-Constant at name)

part-Directory : (at : At) → part (e.Directory at) ≡ part_of (map-Expr ClassReference Expr Item MemberName Step StringPart Refused Part Refused Refused Refused Refused class_found part item_found name_found step_found piece_found (Expr-F.Directory at))
part-Directory at = ap part (sym (e.rolls-Directory at)) ∙ part_rolled (Expr-F.Directory at)

pub refused-Directory : (at : At) (ctx : Context) → refused_in (e.Directory at) ctx ≡ on_true (not ctx.in_include) c.MagicConstant at.start
refused-Directory at ctx = ap (λ (p : Part). p.refused ctx) (part-Directory at)

part-Array : (at : At) (form : ArrayForm) (items : List Item) → part (e.Array at form items) ≡ part_of (map-Expr ClassReference Expr Item MemberName Step StringPart Refused Part Refused Refused Refused Refused class_found part item_found name_found step_found piece_found (Expr-F.Array at form items))
part-Array at form items = ap part (sym (e.rolls-Array at form items)) ∙ part_rolled (Expr-F.Array at form items)

pub refused-Array : (at : At) (form : ArrayForm) (items : List Item) (ctx : Context) → refused_in (e.Array at form items) ctx ≡ flat_map (λ x. item_found x ctx) items
refused-Array at form items ctx = ap (λ (p : Part). p.refused ctx) (part-Array at form items) ∙ flat_map-map (λ r. r ctx) item_found items

part-Call : (at : At) (name : List ℕ) (xs : List Expr) → part (e.Call at name xs) ≡ part_of (map-Expr ClassReference Expr Item MemberName Step StringPart Refused Part Refused Refused Refused Refused class_found part item_found name_found step_found piece_found (Expr-F.Call at name xs))
part-Call at name xs = ap part (sym (e.rolls-Call at name xs)) ∙ part_rolled (Expr-F.Call at name xs)

pub refused-Call : (at : At) (name : List ℕ) (xs : List Expr) (ctx : Context) → refused_in (e.Call at name xs) ctx ≡ library_name name at.start ++ flat_map (λ x. refused_in x ctx) xs
refused-Call at name xs ctx = ap (λ (p : Part). p.refused ctx) (part-Call at name xs) ∙ ap (λ l. library_name name at.start ++ l) (flat_map-map (λ (p : Part). p.refused ctx) part xs)

part-DynamicCall : (at : At) (x : Expr) (xs : List Expr) → part (e.DynamicCall at x xs) ≡ part_of (map-Expr ClassReference Expr Item MemberName Step StringPart Refused Part Refused Refused Refused Refused class_found part item_found name_found step_found piece_found (Expr-F.DynamicCall at x xs))
part-DynamicCall at x xs = ap part (sym (e.rolls-DynamicCall at x xs)) ∙ part_rolled (Expr-F.DynamicCall at x xs)

pub refused-DynamicCall : (at : At) (x : Expr) (xs : List Expr) (ctx : Context) → refused_in (e.DynamicCall at x xs) ctx ≡ (c.Dynamic, (part x).start) ∷ (refused_in x ctx ++ flat_map (λ x. refused_in x ctx) xs)
refused-DynamicCall at x xs ctx = ap (λ (p : Part). p.refused ctx) (part-DynamicCall at x xs) ∙ ap (λ l. (c.Dynamic, (part x).start) ∷ (refused_in x ctx ++ l)) (flat_map-map (λ (p : Part). p.refused ctx) part xs)

part-StaticCall : (at : At) (class : ClassReference) (name : MemberName) (xs : List Expr) → part (e.StaticCall at class name xs) ≡ part_of (map-Expr ClassReference Expr Item MemberName Step StringPart Refused Part Refused Refused Refused Refused class_found part item_found name_found step_found piece_found (Expr-F.StaticCall at class name xs))
part-StaticCall at class name xs = ap part (sym (e.rolls-StaticCall at class name xs)) ∙ part_rolled (Expr-F.StaticCall at class name xs)

pub refused-StaticCall : (at : At) (class : ClassReference) (name : MemberName) (xs : List Expr) (ctx : Context) → refused_in (e.StaticCall at class name xs) ctx ≡ class_found class ctx ++ (name_found name ctx ++ flat_map (λ x. refused_in x ctx) xs)
refused-StaticCall at class name xs ctx = ap (λ (p : Part). p.refused ctx) (part-StaticCall at class name xs) ∙ ap (λ l. class_found class ctx ++ (name_found name ctx ++ l)) (flat_map-map (λ (p : Part). p.refused ctx) part xs)

part-MethodCall : (at : At) (x : Expr) (name : MemberName) (xs : List Expr) → part (e.MethodCall at x name xs) ≡ part_of (map-Expr ClassReference Expr Item MemberName Step StringPart Refused Part Refused Refused Refused Refused class_found part item_found name_found step_found piece_found (Expr-F.MethodCall at x name xs))
part-MethodCall at x name xs = ap part (sym (e.rolls-MethodCall at x name xs)) ∙ part_rolled (Expr-F.MethodCall at x name xs)

pub refused-MethodCall : (at : At) (x : Expr) (name : MemberName) (xs : List Expr) (ctx : Context) → refused_in (e.MethodCall at x name xs) ctx ≡ refused_in x ctx ++ (name_found name ctx ++ flat_map (λ x. refused_in x ctx) xs)
refused-MethodCall at x name xs ctx = ap (λ (p : Part). p.refused ctx) (part-MethodCall at x name xs) ∙ ap (λ l. refused_in x ctx ++ (name_found name ctx ++ l)) (flat_map-map (λ (p : Part). p.refused ctx) part xs)

part-New : (at : At) (class : ClassReference) (xs : List Expr) → part (e.New at class xs) ≡ part_of (map-Expr ClassReference Expr Item MemberName Step StringPart Refused Part Refused Refused Refused Refused class_found part item_found name_found step_found piece_found (Expr-F.New at class xs))
part-New at class xs = ap part (sym (e.rolls-New at class xs)) ∙ part_rolled (Expr-F.New at class xs)

pub refused-New : (at : At) (class : ClassReference) (xs : List Expr) (ctx : Context) → refused_in (e.New at class xs) ctx ≡ class_found class ctx ++ flat_map (λ x. refused_in x ctx) xs
refused-New at class xs ctx = ap (λ (p : Part). p.refused ctx) (part-New at class xs) ∙ ap (λ l. class_found class ctx ++ l) (flat_map-map (λ (p : Part). p.refused ctx) part xs)

part-ClassConstant : (at : At) (class : ClassReference) (name : List ℕ) → part (e.ClassConstant at class name) ≡ part_of (map-Expr ClassReference Expr Item MemberName Step StringPart Refused Part Refused Refused Refused Refused class_found part item_found name_found step_found piece_found (Expr-F.ClassConstant at class name))
part-ClassConstant at class name = ap part (sym (e.rolls-ClassConstant at class name)) ∙ part_rolled (Expr-F.ClassConstant at class name)

pub refused-ClassConstant : (at : At) (class : ClassReference) (name : List ℕ) (ctx : Context) → refused_in (e.ClassConstant at class name) ctx ≡ class_found class ctx
refused-ClassConstant at class name ctx = ap (λ (p : Part). p.refused ctx) (part-ClassConstant at class name)

part-ClassName : (at : At) (class : ClassReference) (colons : ℕ) → part (e.ClassName at class colons) ≡ part_of (map-Expr ClassReference Expr Item MemberName Step StringPart Refused Part Refused Refused Refused Refused class_found part item_found name_found step_found piece_found (Expr-F.ClassName at class colons))
part-ClassName at class colons = ap part (sym (e.rolls-ClassName at class colons)) ∙ part_rolled (Expr-F.ClassName at class colons)

pub refused-ClassName : (at : At) (class : ClassReference) (colons : ℕ) (ctx : Context) → refused_in (e.ClassName at class colons) ctx ≡ (c.ClassName, colons) ∷ class_found class ctx
refused-ClassName at class colons ctx = ap (λ (p : Part). p.refused ctx) (part-ClassName at class colons)

part-StaticProperty : (at : At) (class : ClassReference) (name : List ℕ) → part (e.StaticProperty at class name) ≡ part_of (map-Expr ClassReference Expr Item MemberName Step StringPart Refused Part Refused Refused Refused Refused class_found part item_found name_found step_found piece_found (Expr-F.StaticProperty at class name))
part-StaticProperty at class name = ap part (sym (e.rolls-StaticProperty at class name)) ∙ part_rolled (Expr-F.StaticProperty at class name)

pub refused-StaticProperty : (at : At) (class : ClassReference) (name : List ℕ) (ctx : Context) → refused_in (e.StaticProperty at class name) ctx ≡ class_found class ctx
refused-StaticProperty at class name ctx = ap (λ (p : Part). p.refused ctx) (part-StaticProperty at class name)

part-Paren : (at : At) (x : Expr) → part (e.Paren at x) ≡ part_of (map-Expr ClassReference Expr Item MemberName Step StringPart Refused Part Refused Refused Refused Refused class_found part item_found name_found step_found piece_found (Expr-F.Paren at x))
part-Paren at x = ap part (sym (e.rolls-Paren at x)) ∙ part_rolled (Expr-F.Paren at x)

pub refused-Paren : (at : At) (x : Expr) (ctx : Context) → refused_in (e.Paren at x) ctx ≡ refused_in x ctx
refused-Paren at x ctx = ap (λ (p : Part). p.refused ctx) (part-Paren at x)

part-Isset : (at : At) (xs : List Expr) → part (e.Isset at xs) ≡ part_of (map-Expr ClassReference Expr Item MemberName Step StringPart Refused Part Refused Refused Refused Refused class_found part item_found name_found step_found piece_found (Expr-F.Isset at xs))
part-Isset at xs = ap part (sym (e.rolls-Isset at xs)) ∙ part_rolled (Expr-F.Isset at xs)

pub refused-Isset : (at : At) (xs : List Expr) (ctx : Context) → refused_in (e.Isset at xs) ctx ≡ flat_map (λ x. refused_in x ctx) xs
refused-Isset at xs ctx = ap (λ (p : Part). p.refused ctx) (part-Isset at xs) ∙ flat_map-map (λ (p : Part). p.refused ctx) part xs

part-Empty : (at : At) (x : Expr) → part (e.Empty at x) ≡ part_of (map-Expr ClassReference Expr Item MemberName Step StringPart Refused Part Refused Refused Refused Refused class_found part item_found name_found step_found piece_found (Expr-F.Empty at x))
part-Empty at x = ap part (sym (e.rolls-Empty at x)) ∙ part_rolled (Expr-F.Empty at x)

pub refused-Empty : (at : At) (x : Expr) (ctx : Context) → refused_in (e.Empty at x) ctx ≡ refused_in x ctx
refused-Empty at x ctx = ap (λ (p : Part). p.refused ctx) (part-Empty at x)

part-Exit : (at : At) → part (e.Exit at) ≡ part_of (map-Expr ClassReference Expr Item MemberName Step StringPart Refused Part Refused Refused Refused Refused class_found part item_found name_found step_found piece_found (Expr-F.Exit at))
part-Exit at = ap part (sym (e.rolls-Exit at)) ∙ part_rolled (Expr-F.Exit at)

pub refused-Exit : (at : At) (ctx : Context) → refused_in (e.Exit at) ctx ≡ []
refused-Exit at ctx = ap (λ (p : Part). p.refused ctx) (part-Exit at)

part-ExitWith : (at : At) (x : Expr) → part (e.ExitWith at x) ≡ part_of (map-Expr ClassReference Expr Item MemberName Step StringPart Refused Part Refused Refused Refused Refused class_found part item_found name_found step_found piece_found (Expr-F.ExitWith at x))
part-ExitWith at x = ap part (sym (e.rolls-ExitWith at x)) ∙ part_rolled (Expr-F.ExitWith at x)

pub refused-ExitWith : (at : At) (x : Expr) (ctx : Context) → refused_in (e.ExitWith at x) ctx ≡ refused_in x ctx
refused-ExitWith at x ctx = ap (λ (p : Part). p.refused ctx) (part-ExitWith at x)

part-Path : (at : At) (x : Expr) (steps : List Step) → part (e.Path at x steps) ≡ part_of (map-Expr ClassReference Expr Item MemberName Step StringPart Refused Part Refused Refused Refused Refused class_found part item_found name_found step_found piece_found (Expr-F.Path at x steps))
part-Path at x steps = ap part (sym (e.rolls-Path at x steps)) ∙ part_rolled (Expr-F.Path at x steps)

pub refused-Path : (at : At) (x : Expr) (steps : List Step) (ctx : Context) → refused_in (e.Path at x steps) ctx ≡ refused_in x ctx ++ flat_map (λ x. step_found x ctx) steps
refused-Path at x steps ctx = ap (λ (p : Part). p.refused ctx) (part-Path at x steps) ∙ ap (λ l. refused_in x ctx ++ l) (flat_map-map (λ r. r ctx) step_found steps)

part-Update : (at : At) (form : Update) (x : Expr) → part (e.Update at form x) ≡ part_of (map-Expr ClassReference Expr Item MemberName Step StringPart Refused Part Refused Refused Refused Refused class_found part item_found name_found step_found piece_found (Expr-F.Update at form x))
part-Update at form x = ap part (sym (e.rolls-Update at form x)) ∙ part_rolled (Expr-F.Update at form x)

pub refused-Update : (at : At) (form : Update) (x : Expr) (ctx : Context) → refused_in (e.Update at form x) ctx ≡ this_written (part x) ++ refused_in x ctx
refused-Update at form x ctx = ap (λ (p : Part). p.refused ctx) (part-Update at form x)

part-Prefix : (at : At) (op : Prefix) (x : Expr) → part (e.Prefix at op x) ≡ part_of (map-Expr ClassReference Expr Item MemberName Step StringPart Refused Part Refused Refused Refused Refused class_found part item_found name_found step_found piece_found (Expr-F.Prefix at op x))
part-Prefix at op x = ap part (sym (e.rolls-Prefix at op x)) ∙ part_rolled (Expr-F.Prefix at op x)

pub refused-Prefix : (at : At) (op : Prefix) (x : Expr) (ctx : Context) → refused_in (e.Prefix at op x) ctx ≡ prefix_refused op at.start (part x) ctx
refused-Prefix at op x ctx = ap (λ (p : Part). p.refused ctx) (part-Prefix at op x)

part-InstanceOf : (at : At) (x : Expr) (classes : List ClassReference) → part (e.InstanceOf at x classes) ≡ part_of (map-Expr ClassReference Expr Item MemberName Step StringPart Refused Part Refused Refused Refused Refused class_found part item_found name_found step_found piece_found (Expr-F.InstanceOf at x classes))
part-InstanceOf at x classes = ap part (sym (e.rolls-InstanceOf at x classes)) ∙ part_rolled (Expr-F.InstanceOf at x classes)

pub refused-InstanceOf : (at : At) (x : Expr) (classes : List ClassReference) (ctx : Context) → refused_in (e.InstanceOf at x classes) ctx ≡ refused_in x ctx ++ flat_map (λ x. class_found x ctx) classes
refused-InstanceOf at x classes ctx = ap (λ (p : Part). p.refused ctx) (part-InstanceOf at x classes) ∙ ap (λ l. refused_in x ctx ++ l) (flat_map-map (λ r. r ctx) class_found classes)

part-Run : (at : At) (x : Expr) (more : List (Binary × Expr)) → part (e.Run at x more) ≡ part_of (map-Expr ClassReference Expr Item MemberName Step StringPart Refused Part Refused Refused Refused Refused class_found part item_found name_found step_found piece_found (Expr-F.Run at x more))
part-Run at x more = ap part (sym (e.rolls-Run at x more)) ∙ part_rolled (Expr-F.Run at x more)

pub refused-Run : (at : At) (x : Expr) (more : List (Binary × Expr)) (ctx : Context) → refused_in (e.Run at x more) ctx ≡ refused_in x ctx ++ flat_map (λ (o : Binary × Expr). refused_in o.1 ctx) more
refused-Run at x more ctx = ap (λ (p : Part). p.refused ctx) (part-Run at x more) ∙ ap (λ l. refused_in x ctx ++ l) (flat_map-map (λ (o : Binary × Part). o.1.refused ctx) (λ (o : Binary × Expr). (o.0, part o.1)) more)

-- operands of one level
pub shape-Run : (at : At) (x : Expr) (more : List (Binary × Expr)) → (part (e.Run at x more)).shape ≡ joined (part x).shape (map (λ (o : Binary × Expr). (o.0, part o.1)) more)
shape-Run at x more = ap (λ (p : Part). p.shape) (part-Run at x more)

part-Pair : (at : At) (op : Binary) (x : Expr) (y : Expr) → part (e.Pair at op x y) ≡ part_of (map-Expr ClassReference Expr Item MemberName Step StringPart Refused Part Refused Refused Refused Refused class_found part item_found name_found step_found piece_found (Expr-F.Pair at op x y))
part-Pair at op x y = ap part (sym (e.rolls-Pair at op x y)) ∙ part_rolled (Expr-F.Pair at op x y)

pub refused-Pair : (at : At) (op : Binary) (x : Expr) (y : Expr) (ctx : Context) → refused_in (e.Pair at op x y) ctx ≡ refused_in x ctx ++ refused_in y ctx
refused-Pair at op x y ctx = ap (λ (p : Part). p.refused ctx) (part-Pair at op x y)

part-Ternary : (at : At) (x : Expr) (y : Expr) (z : Expr) → part (e.Ternary at x y z) ≡ part_of (map-Expr ClassReference Expr Item MemberName Step StringPart Refused Part Refused Refused Refused Refused class_found part item_found name_found step_found piece_found (Expr-F.Ternary at x y z))
part-Ternary at x y z = ap part (sym (e.rolls-Ternary at x y z)) ∙ part_rolled (Expr-F.Ternary at x y z)

pub refused-Ternary : (at : At) (x : Expr) (y : Expr) (z : Expr) (ctx : Context) → refused_in (e.Ternary at x y z) ctx ≡ refused_in x ctx ++ (refused_in y ctx ++ refused_in z ctx)
refused-Ternary at x y z ctx = ap (λ (p : Part). p.refused ctx) (part-Ternary at x y z)

part-ShortTernary : (at : At) (x : Expr) (more : List Expr) → part (e.ShortTernary at x more) ≡ part_of (map-Expr ClassReference Expr Item MemberName Step StringPart Refused Part Refused Refused Refused Refused class_found part item_found name_found step_found piece_found (Expr-F.ShortTernary at x more))
part-ShortTernary at x more = ap part (sym (e.rolls-ShortTernary at x more)) ∙ part_rolled (Expr-F.ShortTernary at x more)

pub refused-ShortTernary : (at : At) (x : Expr) (more : List Expr) (ctx : Context) → refused_in (e.ShortTernary at x more) ctx ≡ refused_in x ctx ++ flat_map (λ x. refused_in x ctx) more
refused-ShortTernary at x more ctx = ap (λ (p : Part). p.refused ctx) (part-ShortTernary at x more) ∙ ap (λ l. refused_in x ctx ++ l) (flat_map-map (λ (p : Part). p.refused ctx) part more)

part-Assign : (at : At) (op : Assignment) (x : Expr) (y : Expr) → part (e.Assign at op x y) ≡ part_of (map-Expr ClassReference Expr Item MemberName Step StringPart Refused Part Refused Refused Refused Refused class_found part item_found name_found step_found piece_found (Expr-F.Assign at op x y))
part-Assign at op x y = ap part (sym (e.rolls-Assign at op x y)) ∙ part_rolled (Expr-F.Assign at op x y)

pub refused-Assign : (at : At) (op : Assignment) (x : Expr) (y : Expr) (ctx : Context) → refused_in (e.Assign at op x y) ctx ≡ this_written (part x) ++ (refused_in x ctx ++ refused_in y ctx)
refused-Assign at op x y ctx = ap (λ (p : Part). p.refused ctx) (part-Assign at op x y)

part-AssignReference : (at : At) (x : Expr) (y : Expr) (ampersand : ℕ) → part (e.AssignReference at x y ampersand) ≡ part_of (map-Expr ClassReference Expr Item MemberName Step StringPart Refused Part Refused Refused Refused Refused class_found part item_found name_found step_found piece_found (Expr-F.AssignReference at x y ampersand))
part-AssignReference at x y ampersand = ap part (sym (e.rolls-AssignReference at x y ampersand)) ∙ part_rolled (Expr-F.AssignReference at x y ampersand)

pub refused-AssignReference : (at : At) (x : Expr) (y : Expr) (ampersand : ℕ) (ctx : Context) → refused_in (e.AssignReference at x y ampersand) ctx ≡ this_written (part x) ++ (this_written (part y) ++ (reference_refused (part x) (part y) ampersand ++ (refused_in x ctx ++ refused_in y ctx)))
refused-AssignReference at x y ampersand ctx = ap (λ (p : Part). p.refused ctx) (part-AssignReference at x y ampersand)

part-Destructure : (at : At) (items : List Item) (x : Expr) → part (e.Destructure at items x) ≡ part_of (map-Expr ClassReference Expr Item MemberName Step StringPart Refused Part Refused Refused Refused Refused class_found part item_found name_found step_found piece_found (Expr-F.Destructure at items x))
part-Destructure at items x = ap part (sym (e.rolls-Destructure at items x)) ∙ part_rolled (Expr-F.Destructure at items x)

pub refused-Destructure : (at : At) (items : List Item) (x : Expr) (ctx : Context) → refused_in (e.Destructure at items x) ctx ≡ (c.Destructure, at.start) ∷ (flat_map (λ x. item_found x ctx) items ++ refused_in x ctx)
refused-Destructure at items x ctx = ap (λ (p : Part). p.refused ctx) (part-Destructure at items x) ∙ ap (λ l. (c.Destructure, at.start) ∷ (l ++ refused_in x ctx)) (flat_map-map (λ r. r ctx) item_found items)

part-NamedArgument : (at : At) (name : List ℕ) (x : Expr) → part (e.NamedArgument at name x) ≡ part_of (map-Expr ClassReference Expr Item MemberName Step StringPart Refused Part Refused Refused Refused Refused class_found part item_found name_found step_found piece_found (Expr-F.NamedArgument at name x))
part-NamedArgument at name x = ap part (sym (e.rolls-NamedArgument at name x)) ∙ part_rolled (Expr-F.NamedArgument at name x)

pub refused-NamedArgument : (at : At) (name : List ℕ) (x : Expr) (ctx : Context) → refused_in (e.NamedArgument at name x) ctx ≡ (c.NamedArgument, at.start) ∷ refused_in x ctx
refused-NamedArgument at name x ctx = ap (λ (p : Part). p.refused ctx) (part-NamedArgument at name x)

pub class_found-ByName : (at : At) (name : List ℕ) (ctx : Context) → class_found (class.ByName at name) ctx ≡ []
class_found-ByName at name ctx = ap (λ (r : Refused). r ctx) (ap class_found (sym (class.rolls-ByName at name)) ∙ class_rolled (ClassReference-F.ByName at name))

pub class_found-SelfClass : (at : At) (ctx : Context) → class_found (class.SelfClass at) ctx ≡ class_context ctx.in_class at.start
class_found-SelfClass at ctx = ap (λ (r : Refused). r ctx) (ap class_found (sym (class.rolls-SelfClass at)) ∙ class_rolled (ClassReference-F.SelfClass at))

pub class_found-Parent : (at : At) (ctx : Context) → class_found (class.Parent at) ctx ≡ class_context ctx.has_parent at.start
class_found-Parent at ctx = ap (λ (r : Refused). r ctx) (ap class_found (sym (class.rolls-Parent at)) ∙ class_rolled (ClassReference-F.Parent at))

pub class_found-Static : (at : At) (ctx : Context) → class_found (class.Static at) ctx ≡ class_context ctx.in_class at.start
class_found-Static at ctx = ap (λ (r : Refused). r ctx) (ap class_found (sym (class.rolls-Static at)) ∙ class_rolled (ClassReference-F.Static at))

pub class_found-ByExpression : (at : At) (x : Expr) (ctx : Context) → class_found (class.ByExpression at x) ctx ≡ (c.Dynamic, (part x).start) ∷ refused_in x ctx
class_found-ByExpression at x ctx = ap (λ (r : Refused). r ctx) (ap class_found (sym (class.rolls-ByExpression at x)) ∙ class_rolled (ClassReference-F.ByExpression at x))

pub item_found-Plain : (at : At) (x : Expr) (ctx : Context) → item_found (item.Plain at x) ctx ≡ refused_in x ctx
item_found-Plain at x ctx = ap (λ (r : Refused). r ctx) (ap item_found (sym (item.rolls-Plain at x)) ∙ item_rolled (Item-F.Plain at x))

pub item_found-Keyed : (at : At) (x : Expr) (y : Expr) (ctx : Context) → item_found (item.Keyed at x y) ctx ≡ refused_in x ctx ++ refused_in y ctx
item_found-Keyed at x y ctx = ap (λ (r : Refused). r ctx) (ap item_found (sym (item.rolls-Keyed at x y)) ∙ item_rolled (Item-F.Keyed at x y))

pub item_found-Reference : (at : At) (x : Expr) (ctx : Context) → item_found (item.Reference at x) ctx ≡ (c.RefElement, at.start) ∷ (this_written (part x) ++ refused_in x ctx)
item_found-Reference at x ctx = ap (λ (r : Refused). r ctx) (ap item_found (sym (item.rolls-Reference at x)) ∙ item_rolled (Item-F.Reference at x))

pub item_found-KeyedReference : (at : At) (x : Expr) (y : Expr) (ampersand : ℕ) (ctx : Context) → item_found (item.KeyedReference at x y ampersand) ctx ≡ (c.RefElement, ampersand) ∷ (this_written (part y) ++ (refused_in x ctx ++ refused_in y ctx))
item_found-KeyedReference at x y ampersand ctx = ap (λ (r : Refused). r ctx) (ap item_found (sym (item.rolls-KeyedReference at x y ampersand)) ∙ item_rolled (Item-F.KeyedReference at x y ampersand))

pub item_found-Hole : (at : At) (ctx : Context) → item_found (item.Hole at) ctx ≡ []
item_found-Hole at ctx = ap (λ (r : Refused). r ctx) (ap item_found (sym (item.rolls-Hole at)) ∙ item_rolled (Item-F.Hole at))

pub name_found-Named : (name : List ℕ) (ctx : Context) → name_found (member.Named name) ctx ≡ []
name_found-Named name ctx = ap (λ (r : Refused). r ctx) (ap name_found (sym (member.rolls-Named name)) ∙ member_rolled (MemberName-F.Named name))

pub name_found-Computed : (x : Expr) (ctx : Context) → name_found (member.Computed x) ctx ≡ (c.Dynamic, (part x).start) ∷ refused_in x ctx
name_found-Computed x ctx = ap (λ (r : Refused). r ctx) (ap name_found (sym (member.rolls-Computed x)) ∙ member_rolled (MemberName-F.Computed x))

pub step_found-Index : (at : At) (x : Expr) (ctx : Context) → step_found (step.Index at x) ctx ≡ refused_in x ctx
step_found-Index at x ctx = ap (λ (r : Refused). r ctx) (ap step_found (sym (step.rolls-Index at x)) ∙ step_rolled (Step-F.Index at x))

pub step_found-Append : (at : At) (ctx : Context) → step_found (step.Append at) ctx ≡ []
step_found-Append at ctx = ap (λ (r : Refused). r ctx) (ap step_found (sym (step.rolls-Append at)) ∙ step_rolled (Step-F.Append at))

pub step_found-Property : (at : At) (name : MemberName) (ctx : Context) → step_found (step.Property at name) ctx ≡ name_found name ctx
step_found-Property at name ctx = ap (λ (r : Refused). r ctx) (ap step_found (sym (step.rolls-Property at name)) ∙ step_rolled (Step-F.Property at name))

pub piece_found-Piece : (at : At) (bytes : List ℕ) (ctx : Context) → piece_found (piece.Piece at bytes) ctx ≡ []
piece_found-Piece at bytes ctx = ap (λ (r : Refused). r ctx) (ap piece_found (sym (piece.rolls-Piece at bytes)) ∙ piece_rolled (StringPart-F.Piece at bytes))

pub piece_found-Interpolation : (x : Expr) (ctx : Context) → piece_found (piece.Interpolation x) ctx ≡ refused_in x ctx
piece_found-Interpolation x ctx = ap (λ (r : Refused). r ctx) (ap piece_found (sym (piece.rolls-Interpolation x)) ∙ piece_rolled (StringPart-F.Interpolation x))

pub ruleset the_parts = (refused-Int, refused-Text, refused-Interpolated, refused-Variable, refused-Constant, refused-Directory, refused-Array, refused-Call, refused-DynamicCall, refused-StaticCall, refused-MethodCall, refused-New, refused-ClassConstant, refused-ClassName, refused-StaticProperty, refused-Paren, refused-Isset, refused-Empty, refused-Exit, refused-ExitWith, refused-Path, refused-Update, refused-Prefix, refused-InstanceOf, refused-Run, refused-Pair, refused-Ternary, refused-ShortTernary, refused-Assign, refused-AssignReference, refused-Destructure, refused-NamedArgument, class_found-ByName, class_found-SelfClass, class_found-Parent, class_found-Static, class_found-ByExpression, item_found-Plain, item_found-Keyed, item_found-Reference, item_found-KeyedReference, item_found-Hole, name_found-Named, name_found-Computed, step_found-Index, step_found-Append, step_found-Property, piece_found-Piece, piece_found-Interpolation)
