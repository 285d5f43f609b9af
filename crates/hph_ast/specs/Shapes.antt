-- Which expressions are paths, and what may be read, written, called and asked for a member: PHP manual, Variables and
-- Functions. That a path whose base is a call or a parenthesis is written only by a first step `->` is this project's own.
use Rattle.std.specs.Prelude.{Bool, true, false, not, ◌&&◌, ◌||◌, List, [], ◌∷◌}
use Rattle.std.specs.List.{list_any}
use Rattle.hph_ast.specs.declared.expr.Expr.{Expr, out-Expr}
use Rattle.hph_ast.specs.declared.expr.Step.{Step, out-Step}
use Rattle.hph_ast.specs.declared.expr.Item.{Item, out-Item}
use Rattle.hph_ast.specs.declared.expr.ArrayForm.{ArrayForm}
use Rattle.hph_ast.specs.declared.expr.ArrayForm.TheVariants.{Targets}
use Rattle.hph_ast.specs.declared.expr.ClassReference.TheOpen.{Expr-F, Item-F, Step-F}
use Rattle.hph_ast.specs.Layers.{ExprLayer, ItemLayer, StepLayer}

abbrev pub is_append_at : StepLayer → Bool
is_append_at (Step-F.Append at) = true
is_append_at _ = false

abbrev pub is_append : Step → Bool
is_append s = is_append_at (out-Step s)

abbrev pub is_property_at : StepLayer → Bool
is_property_at (Step-F.Property at name) = true
is_property_at _ = false

abbrev pub begins_with_property : List Step → Bool
begins_with_property [] = false
begins_with_property (s ∷ ss) = is_property_at (out-Step s)

-- a path that is not only written: none of its steps is `[]`
abbrev pub is_read_at : ExprLayer → Bool
is_read_at (Expr-F.Path at base steps) = not (list_any is_append steps)
is_read_at _ = true

abbrev pub is_read : Expr → Bool
is_read x = is_read_at (out-Expr x)

-- elements of a destructuring within another
abbrev pub is_targets : ArrayForm → Bool
is_targets Targets = true
is_targets _ = false

-- what stands as an element of a destructuring alone: a path with a step `[]`, or elements of which one stands there alone
abbrev pub is_written_only_at : ExprLayer → Bool
is_written_only_at (Expr-F.Array at form items) = is_targets form
is_written_only_at x = not (is_read_at x)

abbrev pub is_written_only : Expr → Bool
is_written_only x = is_written_only_at (out-Expr x)

abbrev pub is_target_at : ItemLayer → Bool
is_target_at (Item-F.Plain at x) = is_written_only x
is_target_at (Item-F.Keyed at x y) = is_written_only y
is_target_at (Item-F.Hole at) = true
is_target_at _ = false

abbrev pub is_target : Item → Bool
is_target x = is_target_at (out-Item x)

abbrev pub has_targets : List Item → Bool
has_targets items = list_any is_target items

-- a variable, of a function or of a class
abbrev pub is_variable_at : ExprLayer → Bool
is_variable_at (Expr-F.Variable at name) = true
is_variable_at (Expr-F.StaticProperty at class name) = true
is_variable_at _ = false

-- a call or a parenthesis
abbrev pub is_value_base_at : ExprLayer → Bool
is_value_base_at (Expr-F.Call at name xs) = true
is_value_base_at (Expr-F.DynamicCall at callee xs) = true
is_value_base_at (Expr-F.StaticCall at class name xs) = true
is_value_base_at (Expr-F.MethodCall at object name xs) = true
is_value_base_at (Expr-F.Paren at x) = true
is_value_base_at _ = false

-- base = VAR | cls "::" VAR | call | "(" expr ")"
abbrev pub is_base_at : ExprLayer → Bool
is_base_at x = is_variable_at x || is_value_base_at x

-- path = base { "[" [expr] "]" | "->" NAME }
abbrev pub is_path_at : ExprLayer → Bool
is_path_at (Expr-F.Path at base steps) = is_base_at (out-Expr base)
is_path_at x = is_base_at x

abbrev pub is_path : Expr → Bool
is_path x = is_path_at (out-Expr x)

-- what may be assigned to, and moved by `++` and `--`
abbrev pub is_written_at : ExprLayer → Bool
is_written_at (Expr-F.Path at base steps) =
    is_variable_at (out-Expr base) || (is_value_base_at (out-Expr base) && begins_with_property steps)
is_written_at x = is_variable_at x

abbrev pub is_written : Expr → Bool
is_written x = is_written_at (out-Expr x)

-- what stands behind a `&`: a path that is more than a parenthesis
abbrev pub is_source_at : ExprLayer → Bool
is_source_at (Expr-F.Paren at x) = false
is_source_at x = is_path_at x

abbrev pub is_source : Expr → Bool
is_source x = is_source_at (out-Expr x)

-- a string, an array, or an expression with steps
abbrev pub is_open_at : ExprLayer → Bool
is_open_at (Expr-F.Text at bytes) = true
is_open_at (Expr-F.Interpolated at parts) = true
is_open_at (Expr-F.Array at form items) = true
is_open_at (Expr-F.Path at base steps) = true
is_open_at _ = false

-- variables, paths, calls, parentheses, strings and arrays; what looks like a call of a static property is a static call
abbrev pub is_callable_at : ExprLayer → Bool
is_callable_at (Expr-F.StaticProperty at class name) = false
is_callable_at x = is_base_at x || is_open_at x

abbrev pub is_callable : Expr → Bool
is_callable x = is_callable_at (out-Expr x)

-- an expression that stands for a class before `::`
abbrev pub is_class_expression_at : ExprLayer → Bool
is_class_expression_at (Expr-F.ClassConstant at class name) = true
is_class_expression_at (Expr-F.ClassName at class colons) = true
is_class_expression_at x = is_base_at x || is_open_at x

abbrev pub is_class_expression : Expr → Bool
is_class_expression x = is_class_expression_at (out-Expr x)
