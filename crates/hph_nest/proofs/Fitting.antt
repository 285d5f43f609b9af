-- The nesting of a node and of a list, as a test.
use Rattle.std.specs.Prelude.{◌≡◌, ◌+◌, ◌<◌, length, refl, max, List, ℕ}
use Rattle.std.proofs.Common.{drop, get_or, drop-cons, add-one}
use Rattle.std.proofs.lemmas.Bool.Decides.{nat_tests}
use Rattle.hph_ast.specs.Nesting.{greatest}
use Rattle.hph_ast.proofs.PositiveNesting.{nesting-positive, class_nesting-positive, item_nesting-positive}
use Rattle.hph_ast.proofs.ExpressionNesting.{nesting-Int, nesting-Text, nesting-Interpolated, nesting-Variable, nesting-Constant, nesting-Directory, nesting-Array, nesting-Call, nesting-DynamicCall, nesting-StaticCall, nesting-MethodCall, nesting-New, nesting-ClassConstant, nesting-ClassName, nesting-StaticProperty, nesting-Paren, nesting-Isset, nesting-Empty, nesting-Exit, nesting-ExitWith, nesting-Path, nesting-Update, nesting-Prefix, nesting-InstanceOf, nesting-Run, nesting-Pair, nesting-Ternary, nesting-ShortTernary, nesting-Assign, nesting-AssignReference, nesting-Destructure, nesting-NamedArgument, class_nesting-ByName, class_nesting-SelfClass, class_nesting-Parent, class_nesting-Static, class_nesting-ByExpression, item_nesting-Plain, item_nesting-Keyed, item_nesting-Reference, item_nesting-KeyedReference, item_nesting-Hole, member_nesting-Named, member_nesting-Computed, step_nesting-Index, step_nesting-Append, step_nesting-Property, part_nesting-Piece, part_nesting-Interpolation}

-- the greatest of the first item and of those behind it
pub greatest-drop : {A : Type 0} (f : A → ℕ) (xs : List A) (i : ℕ) (d : A) → i < length xs → greatest f (drop i xs) ≡ max (f (get_or xs i d)) (greatest f (drop (i + 1) xs))
greatest-drop f xs i d h = rw (add-one, drop-cons xs i d) refl

pub ruleset fitting = (greatest-drop, nat_tests, nesting-positive, class_nesting-positive, item_nesting-positive, nesting-Int, nesting-Text, nesting-Interpolated, nesting-Variable, nesting-Constant, nesting-Directory, nesting-Array, nesting-Call, nesting-DynamicCall, nesting-StaticCall, nesting-MethodCall, nesting-New, nesting-ClassConstant, nesting-ClassName, nesting-StaticProperty, nesting-Paren, nesting-Isset, nesting-Empty, nesting-Exit, nesting-ExitWith, nesting-Path, nesting-Update, nesting-Prefix, nesting-InstanceOf, nesting-Run, nesting-Pair, nesting-Ternary, nesting-ShortTernary, nesting-Assign, nesting-AssignReference, nesting-Destructure, nesting-NamedArgument, class_nesting-ByName, class_nesting-SelfClass, class_nesting-Parent, class_nesting-Static, class_nesting-ByExpression, item_nesting-Plain, item_nesting-Keyed, item_nesting-Reference, item_nesting-KeyedReference, item_nesting-Hole, member_nesting-Named, member_nesting-Computed, step_nesting-Index, step_nesting-Append, step_nesting-Property, part_nesting-Piece, part_nesting-Interpolation)
