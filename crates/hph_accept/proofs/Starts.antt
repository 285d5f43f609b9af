-- Where an expression starts, and its shape.
use Rattle.std.specs.Prelude.{◌≡◌, ℕ, List, map, refl}
use Rattle.std.proofs.Common.{ap, ◌∙◌}
use denote.Hole.Carrier.{out}
use Rattle.hph_ast.specs.declared.token.At.{At}
use Rattle.hph_ast.specs.declared.expr.Expr.{Expr, out-Expr}
use Rattle.hph_ast.specs.declared.expr.Expr.TheVariants as e
use Rattle.hph_ast.specs.declared.expr.ClassReference.{ClassReference}
use Rattle.hph_ast.specs.declared.expr.Item.{Item}
use Rattle.hph_ast.specs.declared.expr.MemberName.{MemberName}
use Rattle.hph_ast.specs.declared.expr.Step.{Step}
use Rattle.hph_ast.specs.declared.expr.StringPart.{StringPart}
use Rattle.hph_ast.specs.declared.expr.ClassReference.TheOpen.{Expr-F}
use Rattle.hph_ast.specs.declared.expr.ClassReference.TheFolds.{fold_out-Expr, map-Expr}
use Rattle.hph_ast.specs.Layers.{ExprLayer}
use Rattle.hph_ast.specs.Places.{place, place_at}
use Rattle.hph_ast.specs.declared.operator.Binary.{Binary}
use Rattle.hph_ast.specs.RefusedExpressions.{Refused, Part, Shape, a_variable, a_text, a_directory, another, joined, is_this_name, class_refused, item_refused, member_refused, step_refused, piece_refused, part_of, part, item_found}
use Rattle.hph_accept.specs.Parts.{class_found, name_found, step_found, piece_found}

layer_start : (d : ExprLayer) → (part_of (map-Expr ClassReference Expr Item MemberName Step StringPart Refused Part Refused Refused Refused Refused class_found part item_found name_found step_found piece_found d)).start ≡ (place_at d).start
layer_start (Expr-F.Int at value) = refl
layer_start (Expr-F.Text at bytes) = refl
layer_start (Expr-F.Interpolated at parts) = refl
layer_start (Expr-F.Variable at name) = refl
layer_start (Expr-F.Constant at name) = refl
layer_start (Expr-F.Directory at) = refl
layer_start (Expr-F.Array at form items) = refl
layer_start (Expr-F.Call at name xs) = refl
layer_start (Expr-F.DynamicCall at x xs) = refl
layer_start (Expr-F.StaticCall at class name xs) = refl
layer_start (Expr-F.MethodCall at x name xs) = refl
layer_start (Expr-F.New at class xs) = refl
layer_start (Expr-F.ClassConstant at class name) = refl
layer_start (Expr-F.ClassName at class colons) = refl
layer_start (Expr-F.StaticProperty at class name) = refl
layer_start (Expr-F.Paren at x) = refl
layer_start (Expr-F.Isset at xs) = refl
layer_start (Expr-F.Empty at x) = refl
layer_start (Expr-F.Exit at) = refl
layer_start (Expr-F.ExitWith at x) = refl
layer_start (Expr-F.Path at x steps) = refl
layer_start (Expr-F.Update at form x) = refl
layer_start (Expr-F.Prefix at op x) = refl
layer_start (Expr-F.InstanceOf at x classes) = refl
layer_start (Expr-F.Run at x more) = refl
layer_start (Expr-F.Pair at op x y) = refl
layer_start (Expr-F.Ternary at x y z) = refl
layer_start (Expr-F.ShortTernary at x more) = refl
layer_start (Expr-F.Assign at op x y) = refl
layer_start (Expr-F.AssignReference at x y ampersand) = refl
layer_start (Expr-F.Destructure at items x) = refl
layer_start (Expr-F.NamedArgument at name x) = refl

pub part_start : (x : Expr) → (part x).start ≡ (place x).start
unfolding class_found part item_found name_found step_found piece_found
part_start x = ap (λ (p : Part). p.start) (fold_out-Expr Refused Part Refused Refused Refused Refused class_refused part_of item_refused member_refused step_refused piece_refused x) ∙ layer_start (out-Expr x)

abbrev pub shape_at : ExprLayer → Shape
shape_at (Expr-F.Int at value) = another
shape_at (Expr-F.Text at bytes) = a_text bytes
shape_at (Expr-F.Interpolated at parts) = another
shape_at (Expr-F.Variable at name) = a_variable (is_this_name name)
shape_at (Expr-F.Constant at name) = another
shape_at (Expr-F.Directory at) = a_directory
shape_at (Expr-F.Array at form items) = another
shape_at (Expr-F.Call at name xs) = another
shape_at (Expr-F.DynamicCall at x xs) = another
shape_at (Expr-F.StaticCall at class name xs) = another
shape_at (Expr-F.MethodCall at x name xs) = another
shape_at (Expr-F.New at class xs) = another
shape_at (Expr-F.ClassConstant at class name) = another
shape_at (Expr-F.ClassName at class colons) = another
shape_at (Expr-F.StaticProperty at class name) = another
shape_at (Expr-F.Paren at x) = another
shape_at (Expr-F.Isset at xs) = another
shape_at (Expr-F.Empty at x) = another
shape_at (Expr-F.Exit at) = another
shape_at (Expr-F.ExitWith at x) = another
shape_at (Expr-F.Path at x steps) = another
shape_at (Expr-F.Update at form x) = another
shape_at (Expr-F.Prefix at op x) = another
shape_at (Expr-F.InstanceOf at x classes) = another
shape_at (Expr-F.Run at x more) = joined (part x).shape (map (λ (o : Binary × Expr). (o.0, part o.1)) more)
shape_at (Expr-F.Pair at op x y) = another
shape_at (Expr-F.Ternary at x y z) = another
shape_at (Expr-F.ShortTernary at x more) = another
shape_at (Expr-F.Assign at op x y) = another
shape_at (Expr-F.AssignReference at x y ampersand) = another
shape_at (Expr-F.Destructure at items x) = another
shape_at (Expr-F.NamedArgument at name x) = another

layer_shape : (d : ExprLayer) → (part_of (map-Expr ClassReference Expr Item MemberName Step StringPart Refused Part Refused Refused Refused Refused class_found part item_found name_found step_found piece_found d)).shape ≡ shape_at d
layer_shape (Expr-F.Int at value) = refl
layer_shape (Expr-F.Text at bytes) = refl
layer_shape (Expr-F.Interpolated at parts) = refl
layer_shape (Expr-F.Variable at name) = refl
layer_shape (Expr-F.Constant at name) = refl
layer_shape (Expr-F.Directory at) = refl
layer_shape (Expr-F.Array at form items) = refl
layer_shape (Expr-F.Call at name xs) = refl
layer_shape (Expr-F.DynamicCall at x xs) = refl
layer_shape (Expr-F.StaticCall at class name xs) = refl
layer_shape (Expr-F.MethodCall at x name xs) = refl
layer_shape (Expr-F.New at class xs) = refl
layer_shape (Expr-F.ClassConstant at class name) = refl
layer_shape (Expr-F.ClassName at class colons) = refl
layer_shape (Expr-F.StaticProperty at class name) = refl
layer_shape (Expr-F.Paren at x) = refl
layer_shape (Expr-F.Isset at xs) = refl
layer_shape (Expr-F.Empty at x) = refl
layer_shape (Expr-F.Exit at) = refl
layer_shape (Expr-F.ExitWith at x) = refl
layer_shape (Expr-F.Path at x steps) = refl
layer_shape (Expr-F.Update at form x) = refl
layer_shape (Expr-F.Prefix at op x) = refl
layer_shape (Expr-F.InstanceOf at x classes) = refl
layer_shape (Expr-F.Run at x more) = refl
layer_shape (Expr-F.Pair at op x y) = refl
layer_shape (Expr-F.Ternary at x y z) = refl
layer_shape (Expr-F.ShortTernary at x more) = refl
layer_shape (Expr-F.Assign at op x y) = refl
layer_shape (Expr-F.AssignReference at x y ampersand) = refl
layer_shape (Expr-F.Destructure at items x) = refl
layer_shape (Expr-F.NamedArgument at name x) = refl

-- its shape by one level of it
pub part_shape : (x : Expr) → (part x).shape ≡ shape_at (out-Expr x)
unfolding class_found part item_found name_found step_found piece_found
part_shape x = ap (λ (p : Part). p.shape) (fold_out-Expr Refused Part Refused Refused Refused Refused class_refused part_of item_refused member_refused step_refused piece_refused x) ∙ layer_shape (out-Expr x)

-- a variable
pub variable_shape : (at : At) (name : List ℕ) → (part (e.Variable at name)).shape ≡ a_variable (is_this_name name)
unfolding out-Expr out
variable_shape at name = part_shape (e.Variable at name)

-- a text
pub text_shape : (at : At) (bytes : List ℕ) → (part (e.Text at bytes)).shape ≡ a_text bytes
unfolding out-Expr out
text_shape at bytes = part_shape (e.Text at bytes)

pub ruleset shapes = (part_start, part_shape, variable_shape, text_shape)
