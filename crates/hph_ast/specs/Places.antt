-- Where nodes of expressions stand: from the first byte of their first token up to the end of their last one. The
-- number of each site is 0 until the files of a program are numbered.
use Rattle.std.specs.Prelude.{ℕ, List, [], ◌∷◌}
use Rattle.hph_ast.specs.declared.token.At.{At}
use Rattle.hph_ast.specs.declared.token.Token.{Token}
use Rattle.hph_ast.specs.declared.token.Identifier.{Identifier}
use Rattle.hph_ast.specs.declared.operator.Binary.{Binary}
use Rattle.hph_ast.specs.declared.expr.Expr.{Expr, out-Expr}
use Rattle.hph_ast.specs.declared.expr.Expr.TheVariants as e
use Rattle.hph_ast.specs.declared.expr.Step.{Step, out-Step}
use Rattle.hph_ast.specs.declared.expr.ClassReference.{ClassReference, out-ClassReference}
use Rattle.hph_ast.specs.declared.expr.ClassReference.TheOpen.{ClassReference-F, Expr-F, Step-F}
use Rattle.hph_ast.specs.Layers.{ExprLayer, ClassLayer, StepLayer}

abbrev pub place_at : ExprLayer → At
place_at (Expr-F.Int at n) = at
place_at (Expr-F.Text at n) = at
place_at (Expr-F.Interpolated at parts) = at
place_at (Expr-F.Variable at n) = at
place_at (Expr-F.Constant at n) = at
place_at (Expr-F.Directory at) = at
place_at (Expr-F.Array at form items) = at
place_at (Expr-F.Call at n xs) = at
place_at (Expr-F.DynamicCall at x xs) = at
place_at (Expr-F.StaticCall at class n xs) = at
place_at (Expr-F.MethodCall at x n xs) = at
place_at (Expr-F.New at class xs) = at
place_at (Expr-F.ClassConstant at class n) = at
place_at (Expr-F.ClassName at class colons) = at
place_at (Expr-F.StaticProperty at class n) = at
place_at (Expr-F.Paren at x) = at
place_at (Expr-F.Isset at xs) = at
place_at (Expr-F.Empty at x) = at
place_at (Expr-F.Exit at) = at
place_at (Expr-F.ExitWith at x) = at
place_at (Expr-F.Path at x steps) = at
place_at (Expr-F.Update at form x) = at
place_at (Expr-F.Prefix at op x) = at
place_at (Expr-F.InstanceOf at x classes) = at
place_at (Expr-F.Run at x more) = at
place_at (Expr-F.Pair at op x y) = at
place_at (Expr-F.Ternary at x y z) = at
place_at (Expr-F.ShortTernary at x more) = at
place_at (Expr-F.Assign at op x y) = at
place_at (Expr-F.AssignReference at x y ampersand) = at
place_at (Expr-F.Destructure at items x) = at
place_at (Expr-F.NamedArgument at n x) = at

abbrev pub place : Expr → At
place x = place_at (out-Expr x)

abbrev pub step_place_at : StepLayer → At
step_place_at (Step-F.Index at x) = at
step_place_at (Step-F.Append at) = at
step_place_at (Step-F.Property at n) = at

abbrev pub step_place : Step → At
step_place s = step_place_at (out-Step s)

abbrev pub class_place_at : ClassLayer → At
class_place_at (ClassReference-F.ByName at n) = at
class_place_at (ClassReference-F.SelfClass at) = at
class_place_at (ClassReference-F.Parent at) = at
class_place_at (ClassReference-F.Static at) = at
class_place_at (ClassReference-F.ByExpression at x) = at

abbrev pub class_place : ClassReference → At
class_place c = class_place_at (out-ClassReference c)

-- the place of a token, and of a node that begins with one place and ends with another
abbrev pub on : Token → At
on t = record { start = t.start; end = t.end; site = 0 }

abbrev pub span : At → At → At
span a b = record { start = a.start; end = b.end; site = 0 }

-- a name or a variable of a token
abbrev pub identifier : Token → List ℕ → Identifier
identifier t spelled = record { start = t.start; end = t.end; spelled = spelled }

-- the place of the last of a list, or the first's where there is none
abbrev pub last_operand : At → List (Binary × Expr) → At
last_operand a [] = a
last_operand a (x ∷ xs) = last_operand (place x.1) xs

abbrev pub last_expr : At → List Expr → At
last_expr a [] = a
last_expr a (x ∷ xs) = last_expr (place x) xs

abbrev pub last_step : At → List Step → At
last_step a [] = a
last_step a (x ∷ xs) = last_step (step_place x) xs

abbrev pub last_class : At → List ClassReference → At
last_class a [] = a
last_class a (x ∷ xs) = last_class (class_place x) xs

-- an expression with steps; one without is itself
abbrev pub with_steps : Expr → List Step → Expr
with_steps x [] = x
with_steps x (step ∷ steps) = e.Path (span (place x) (last_step (place x) (step ∷ steps))) x (step ∷ steps)
