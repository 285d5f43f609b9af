-- What the facts of an expression say of whether it is written is what the grammar says.
use Rattle.std.specs.Prelude.{◌≡◌, ◌||◌, ◌&&◌, List, [], ◌∷◌, map}
use Rattle.std.proofs.Common.{arith, refl, ap, sym, ◌∙◌}
use Rattle.hph_ast.specs.declared.expr.Expr.{Expr, out-Expr, roll-out-Expr}
use Rattle.hph_ast.specs.declared.expr.Step.{Step, out-Step, roll-out-Step}
use Rattle.hph_ast.specs.declared.expr.ClassReference.TheOpen.{Expr-F}
use Rattle.hph_ast.specs.Layers.{ExprLayer, StepLayer}
use Rattle.hph_ast.specs.Shapes.{is_written, is_written_at, is_variable_at, is_value_base_at, is_property_at}
use Rattle.hph_ast.specs.Shapes as shape
use Rattle.hph_lowerable.specs.Facts.{Facts, facts, begins_with_property}
use Rattle.hph_lowerable.proofs.ExpressionLevels.{facts_at, facts_rolled, step_facts, step_facts_at, step_facts_rolled}

facts_out : (x : Expr) → facts x ≡ facts_at (out-Expr x)
facts_out x = ap facts (sym (roll-out-Expr x)) ∙ facts_rolled (out-Expr x)

variable_level : (d : ExprLayer) → (facts_at d).is_variable ≡ is_variable_at d
variable_level d = grind arith

value_level : (d : ExprLayer) → (facts_at d).is_value ≡ is_value_base_at d
value_level d = grind arith

variable_is : (x : Expr) → (facts x).is_variable ≡ is_variable_at (out-Expr x)
variable_is x = ap (λ (f : Facts). f.is_variable) (facts_out x) ∙ variable_level (out-Expr x)

value_is : (x : Expr) → (facts x).is_value ≡ is_value_base_at (out-Expr x)
value_is x = ap (λ (f : Facts). f.is_value) (facts_out x) ∙ value_level (out-Expr x)

property_level : (d : StepLayer) → (step_facts_at d).is_property ≡ is_property_at d
property_level d = grind arith

property_is : (s : Step) → (step_facts s).is_property ≡ is_property_at (out-Step s)
property_is s = ap (λ t. (step_facts t).is_property) (sym (roll-out-Step s)) ∙ ap (λ f. f.is_property) (step_facts_rolled (out-Step s)) ∙ property_level (out-Step s)

begins_is : (ss : List Step) → begins_with_property (map step_facts ss) ≡ shape.begins_with_property ss
begins_is [] = refl
begins_is (s ∷ ss) = property_is s

written_level : (d : ExprLayer) → (facts_at d).is_written ≡ is_written_at d
written_level (Expr-F.Path at x steps) = λ i. variable_is x i || (value_is x i && begins_is steps i)
written_level (Expr-F.Int at k) = refl
written_level (Expr-F.Text at bytes) = refl
written_level (Expr-F.Interpolated at parts) = refl
written_level (Expr-F.Variable at name) = refl
written_level (Expr-F.Constant at name) = refl
written_level (Expr-F.Directory at) = refl
written_level (Expr-F.Array at form items) = refl
written_level (Expr-F.Call at name xs) = refl
written_level (Expr-F.DynamicCall at x xs) = refl
written_level (Expr-F.StaticCall at class name xs) = refl
written_level (Expr-F.MethodCall at x name xs) = refl
written_level (Expr-F.New at class xs) = refl
written_level (Expr-F.ClassConstant at class name) = refl
written_level (Expr-F.ClassName at class colons) = refl
written_level (Expr-F.StaticProperty at class name) = refl
written_level (Expr-F.Paren at x) = refl
written_level (Expr-F.Isset at xs) = refl
written_level (Expr-F.Empty at x) = refl
written_level (Expr-F.Exit at) = refl
written_level (Expr-F.ExitWith at x) = refl
written_level (Expr-F.Update at form x) = refl
written_level (Expr-F.Prefix at op x) = refl
written_level (Expr-F.InstanceOf at x classes) = refl
written_level (Expr-F.Run at x more) = refl
written_level (Expr-F.Pair at op x y) = refl
written_level (Expr-F.Ternary at x y z) = refl
written_level (Expr-F.ShortTernary at x more) = refl
written_level (Expr-F.Assign at op x y) = refl
written_level (Expr-F.AssignReference at x y ampersand) = refl
written_level (Expr-F.Destructure at items x) = refl
written_level (Expr-F.NamedArgument at name x) = refl

-- the grammar's rule
pub written_is : (x : Expr) → (facts x).is_written ≡ is_written x
written_is x = ap (λ (f : Facts). f.is_written) (facts_out x) ∙ written_level (out-Expr x)
