-- What is told of an expression that is a whole statement, or the operand of `unset`, is told of it with its sites numbered.
use Rattle.std.specs.Prelude.{◌≡◌, ℕ, suc, List, [], ◌∷◌, map}
use Rattle.std.proofs.Common.{refl, ap, sym, ◌∙◌, subst}
use Rattle.hph_ast.specs.declared.operator.Prefix.TheVariants as prefix
use Rattle.hph_ast.specs.declared.expr.Expr.{Expr, roll-Expr, out-Expr, out-roll-Expr, roll-out-Expr}
use Rattle.hph_ast.specs.declared.expr.ClassReference.{ClassReference}
use Rattle.hph_ast.specs.declared.expr.Item.{Item}
use Rattle.hph_ast.specs.declared.expr.MemberName.{MemberName}
use Rattle.hph_ast.specs.declared.expr.Step.{Step, out-Step, out-roll-Step, roll-out-Step}
use Rattle.hph_ast.specs.declared.expr.StringPart.{StringPart}
use Rattle.hph_ast.specs.declared.expr.ClassReference.TheOpen.{Expr-F, Step-F}
use Rattle.hph_ast.specs.declared.expr.ClassReference.TheFolds.{map-Expr, map-Step}
use Rattle.hph_ast.specs.Layers.{ExprLayer, StepLayer}
use Rattle.hph_ast.specs.Shapes.{is_property_at}
use Rattle.hph_ast.specs.RefusedExpressions.{refused_in, include_refused}
use Rattle.hph_ast.specs.RefusedStatements.{whole_statement, is_property, last_is_property}
use Rattle.hph_program.specs.Sites.{Numbered, expression, each}
use Rattle.hph_program.specs.Sites as sites
use Rattle.hph_program.specs.Sources.{include_at}
use Rattle.hph_program.proofs.SiteLevels as level
use Rattle.hph_lowerable.proofs.ExpressionFacts.{part_kept}

-- ---- whether a path ends in a property

step_layer_kept : (d : StepLayer) (n : ℕ) → is_property_at (out-Step (sites.step_by (map-Step ClassReference Expr Item MemberName Step StringPart (Numbered ClassReference) (Numbered Expr) (Numbered Item) (Numbered MemberName) (Numbered Step) (Numbered StringPart) level.class_reference expression sites.item level.member_name level.step level.part d) n).0) ≡ is_property_at d
step_layer_kept (Step-F.Index at x) n = ap is_property_at (out-roll-Step _)
step_layer_kept (Step-F.Append at) n = ap is_property_at (out-roll-Step _)
step_layer_kept (Step-F.Property at name) n = ap is_property_at (out-roll-Step _)

step_kept : (s : Step) (n : ℕ) → is_property_at (out-Step (level.step s n).0) ≡ is_property_at (out-Step s)
step_kept s n = ap (λ t. is_property_at (out-Step (level.step t n).0)) (sym (roll-out-Step s))
    ∙ ap (λ r. is_property_at (out-Step r.0)) (level.step_rolled (out-Step s) n) ∙ step_layer_kept (out-Step s) n

last_kept : (ss : List Step) (n : ℕ) → last_is_property (each (map level.step ss) n).0 ≡ last_is_property ss
last_kept [] n = refl
last_kept (s ∷ []) n = step_kept s n
last_kept (s ∷ t ∷ ss) n = last_kept (t ∷ ss) (level.step s n).1

-- ---- one level

-- what is told of one expression by its level is told of another
record TellsTheSame (x : Expr) (c : ExprLayer) (y : Expr) (d : ExprLayer) : Type 0 where
  refused : whole_statement x c ≡ whole_statement y d
  included : include_at c ≡ include_at d
  property : is_property c ≡ is_property d

by_layer : (c d : ExprLayer) → TellsTheSame (roll-Expr c) c (roll-Expr d) d →
    TellsTheSame (roll-Expr c) (out-Expr (roll-Expr c)) (roll-Expr d) (out-Expr (roll-Expr d))
by_layer c d same = subst (λ e. TellsTheSame (roll-Expr c) e (roll-Expr d) (out-Expr (roll-Expr d))) (sym (out-roll-Expr c))
    (subst (λ e. TellsTheSame (roll-Expr c) c (roll-Expr d) e) (sym (out-roll-Expr d)) same)

abbrev numbered : ExprLayer → ℕ → Expr
numbered d n = (sites.expression_by (map-Expr ClassReference Expr Item MemberName Step StringPart (Numbered ClassReference) (Numbered Expr) (Numbered Item) (Numbered MemberName) (Numbered Step) (Numbered StringPart) level.class_reference expression sites.item level.member_name level.step level.part d) n).0

refused_level : (d : ExprLayer) (n : ℕ) → refused_in (numbered d n) ≡ refused_in (roll-Expr d)
refused_level d n = ap (λ r. refused_in r.0) (sym (level.expression_rolled d n)) ∙ ap (λ p. p.refused) (part_kept (roll-Expr d) n)

expression_level : (d : ExprLayer) (n : ℕ) →
    TellsTheSame (numbered d n) (out-Expr (numbered d n)) (roll-Expr d) (out-Expr (roll-Expr d))
expression_level (Expr-F.Int at k) n = by_layer _ (Expr-F.Int at k) (record { refused = refused_level (Expr-F.Int at k) n; included = refl; property = refl })
expression_level (Expr-F.Text at bytes) n = by_layer _ (Expr-F.Text at bytes) (record { refused = refused_level (Expr-F.Text at bytes) n; included = refl; property = refl })
expression_level (Expr-F.Interpolated at parts) n = by_layer _ (Expr-F.Interpolated at parts) (record { refused = refused_level (Expr-F.Interpolated at parts) n; included = refl; property = refl })
expression_level (Expr-F.Variable at name) n = by_layer _ (Expr-F.Variable at name) (record { refused = refused_level (Expr-F.Variable at name) n; included = refl; property = refl })
expression_level (Expr-F.Constant at name) n = by_layer _ (Expr-F.Constant at name) (record { refused = refused_level (Expr-F.Constant at name) n; included = refl; property = refl })
expression_level (Expr-F.Directory at) n = by_layer _ (Expr-F.Directory at) (record { refused = refused_level (Expr-F.Directory at) n; included = refl; property = refl })
expression_level (Expr-F.Array at form items) n = by_layer _ (Expr-F.Array at form items) (record { refused = refused_level (Expr-F.Array at form items) n; included = refl; property = refl })
expression_level (Expr-F.Call at name xs) n = by_layer _ (Expr-F.Call at name xs) (record { refused = refused_level (Expr-F.Call at name xs) n; included = refl; property = refl })
expression_level (Expr-F.DynamicCall at x xs) n = by_layer _ (Expr-F.DynamicCall at x xs) (record { refused = refused_level (Expr-F.DynamicCall at x xs) n; included = refl; property = refl })
expression_level (Expr-F.StaticCall at class name xs) n = by_layer _ (Expr-F.StaticCall at class name xs) (record { refused = refused_level (Expr-F.StaticCall at class name xs) n; included = refl; property = refl })
expression_level (Expr-F.MethodCall at x name xs) n = by_layer _ (Expr-F.MethodCall at x name xs) (record { refused = refused_level (Expr-F.MethodCall at x name xs) n; included = refl; property = refl })
expression_level (Expr-F.New at class xs) n = by_layer _ (Expr-F.New at class xs) (record { refused = refused_level (Expr-F.New at class xs) n; included = refl; property = refl })
expression_level (Expr-F.ClassConstant at class name) n = by_layer _ (Expr-F.ClassConstant at class name) (record { refused = refused_level (Expr-F.ClassConstant at class name) n; included = refl; property = refl })
expression_level (Expr-F.ClassName at class colons) n = by_layer _ (Expr-F.ClassName at class colons) (record { refused = refused_level (Expr-F.ClassName at class colons) n; included = refl; property = refl })
expression_level (Expr-F.StaticProperty at class name) n = by_layer _ (Expr-F.StaticProperty at class name) (record { refused = refused_level (Expr-F.StaticProperty at class name) n; included = refl; property = refl })
expression_level (Expr-F.Paren at x) n = by_layer _ (Expr-F.Paren at x) (record { refused = refused_level (Expr-F.Paren at x) n; included = refl; property = refl })
expression_level (Expr-F.Isset at xs) n = by_layer _ (Expr-F.Isset at xs) (record { refused = refused_level (Expr-F.Isset at xs) n; included = refl; property = refl })
expression_level (Expr-F.Empty at x) n = by_layer _ (Expr-F.Empty at x) (record { refused = refused_level (Expr-F.Empty at x) n; included = refl; property = refl })
expression_level (Expr-F.Exit at) n = by_layer _ (Expr-F.Exit at) (record { refused = refused_level (Expr-F.Exit at) n; included = refl; property = refl })
expression_level (Expr-F.ExitWith at x) n = by_layer _ (Expr-F.ExitWith at x) (record { refused = refused_level (Expr-F.ExitWith at x) n; included = refl; property = refl })
expression_level (Expr-F.Path at x steps) n = by_layer _ (Expr-F.Path at x steps) (record { refused = refused_level (Expr-F.Path at x steps) n; included = refl; property = last_kept steps (expression x (suc n)).1 })
expression_level (Expr-F.Update at form x) n = by_layer _ (Expr-F.Update at form x) (record { refused = refused_level (Expr-F.Update at form x) n; included = refl; property = refl })
expression_level (Expr-F.Prefix at prefix.Plus x) n = by_layer _ (Expr-F.Prefix at prefix.Plus x) (record { refused = refused_level (Expr-F.Prefix at prefix.Plus x) n; included = refl; property = refl })
expression_level (Expr-F.Prefix at prefix.Minus x) n = by_layer _ (Expr-F.Prefix at prefix.Minus x) (record { refused = refused_level (Expr-F.Prefix at prefix.Minus x) n; included = refl; property = refl })
expression_level (Expr-F.Prefix at prefix.BitNot x) n = by_layer _ (Expr-F.Prefix at prefix.BitNot x) (record { refused = refused_level (Expr-F.Prefix at prefix.BitNot x) n; included = refl; property = refl })
expression_level (Expr-F.Prefix at prefix.Silence x) n = by_layer _ (Expr-F.Prefix at prefix.Silence x) (record { refused = refused_level (Expr-F.Prefix at prefix.Silence x) n; included = refl; property = refl })
expression_level (Expr-F.Prefix at (prefix.Cast type) x) n = by_layer _ (Expr-F.Prefix at (prefix.Cast type) x) (record { refused = refused_level (Expr-F.Prefix at (prefix.Cast type) x) n; included = refl; property = refl })
expression_level (Expr-F.Prefix at prefix.Not x) n = by_layer _ (Expr-F.Prefix at prefix.Not x) (record { refused = refused_level (Expr-F.Prefix at prefix.Not x) n; included = refl; property = refl })
expression_level (Expr-F.Prefix at prefix.Print x) n = by_layer _ (Expr-F.Prefix at prefix.Print x) (record { refused = refused_level (Expr-F.Prefix at prefix.Print x) n; included = refl; property = refl })
expression_level (Expr-F.Prefix at (prefix.Include form) x) n = by_layer _ (Expr-F.Prefix at (prefix.Include form) x) (record {
  refused = λ i. include_refused at.start (part_kept x (suc n) i);
  included = λ i. (part_kept x (suc n) i).shape ∷ [];
  property = refl;
})
expression_level (Expr-F.InstanceOf at x classes) n = by_layer _ (Expr-F.InstanceOf at x classes) (record { refused = refused_level (Expr-F.InstanceOf at x classes) n; included = refl; property = refl })
expression_level (Expr-F.Run at x more) n = by_layer _ (Expr-F.Run at x more) (record { refused = refused_level (Expr-F.Run at x more) n; included = refl; property = refl })
expression_level (Expr-F.Pair at op x y) n = by_layer _ (Expr-F.Pair at op x y) (record { refused = refused_level (Expr-F.Pair at op x y) n; included = refl; property = refl })
expression_level (Expr-F.Ternary at x y z) n = by_layer _ (Expr-F.Ternary at x y z) (record { refused = refused_level (Expr-F.Ternary at x y z) n; included = refl; property = refl })
expression_level (Expr-F.ShortTernary at x more) n = by_layer _ (Expr-F.ShortTernary at x more) (record { refused = refused_level (Expr-F.ShortTernary at x more) n; included = refl; property = refl })
expression_level (Expr-F.Assign at op x y) n = by_layer _ (Expr-F.Assign at op x y) (record { refused = refused_level (Expr-F.Assign at op x y) n; included = refl; property = refl })
expression_level (Expr-F.AssignReference at x y ampersand) n = by_layer _ (Expr-F.AssignReference at x y ampersand) (record { refused = refused_level (Expr-F.AssignReference at x y ampersand) n; included = refl; property = refl })
expression_level (Expr-F.Destructure at items x) n = by_layer _ (Expr-F.Destructure at items x) (record { refused = refused_level (Expr-F.Destructure at items x) n; included = refl; property = refl })
expression_level (Expr-F.NamedArgument at name x) n = by_layer _ (Expr-F.NamedArgument at name x) (record { refused = refused_level (Expr-F.NamedArgument at name x) n; included = refl; property = refl })

whole : (x : Expr) (n : ℕ) → TellsTheSame (expression x n).0 (out-Expr (expression x n).0) x (out-Expr x)
whole x n = subst (λ y. TellsTheSame (expression y n).0 (out-Expr (expression y n).0) y (out-Expr y)) (roll-out-Expr x)
    (subst (λ y. TellsTheSame y (out-Expr y) (roll-Expr (out-Expr x)) (out-Expr (roll-Expr (out-Expr x))))
    (ap (λ r. r.0) (sym (level.expression_rolled (out-Expr x) n))) (expression_level (out-Expr x) n))

pub whole_kept : (x : Expr) (n : ℕ) → whole_statement (expression x n).0 (out-Expr (expression x n).0) ≡ whole_statement x (out-Expr x)
whole_kept x n = (whole x n).refused

pub include_kept : (x : Expr) (n : ℕ) → include_at (out-Expr (expression x n).0) ≡ include_at (out-Expr x)
include_kept x n = (whole x n).included

pub property_kept : (x : Expr) (n : ℕ) → is_property (out-Expr (expression x n).0) ≡ is_property (out-Expr x)
property_kept x n = (whole x n).property
