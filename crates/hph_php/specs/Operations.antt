-- What operators, assignments, casts, constants and variables do with what their operands mean (PHP manual, Expressions,
-- Operators, Constants). Operands are evaluated strictly from left to right, this project's own.
use Rattle.std.specs.Prelude.{ℕ, ℤ, pos, neg_ℤ, Result, Ok, Bool, true, false, List, [], ◌∷◌, ◌++◌, Option, None, Some, if◌then◌else◌, codes, bytes_eq}
use Rattle.std.specs.Option.{option_map_or, unwrap_or, ok_or}
use Rattle.hph_ast.specs.declared.operator.Binary.{Binary}
use Rattle.hph_ast.specs.declared.operator.Binary.TheVariants as b
use Rattle.hph_ast.specs.declared.operator.Prefix.{Prefix}
use Rattle.hph_ast.specs.declared.operator.Prefix.TheVariants as p
use Rattle.hph_ast.specs.declared.operator.Cast.{Cast}
use Rattle.hph_ast.specs.declared.operator.Cast.TheVariants as cast
use Rattle.hph_ast.specs.declared.operator.Assignment.{Assignment}
use Rattle.hph_ast.specs.declared.operator.Assignment.TheVariants as a
use Rattle.hph_ast.specs.declared.expr.Update.{Update}
use Rattle.hph_ast.specs.declared.expr.Update.TheVariants as update
use Rattle.hph_php.specs.declared.fatal.Fatal.{Fatal}
use Rattle.hph_php.specs.declared.fatal.Fatal.TheVariants.{UndefinedConstant}
use Rattle.hph_php.specs.declared.operator.BinOp.{BinOp}
use Rattle.hph_php.specs.declared.operator.BinOp.TheVariants as binary
use Rattle.hph_php.specs.declared.operator.UnOp.{UnOp}
use Rattle.hph_php.specs.declared.operator.UnOp.TheVariants as unary
use Rattle.hph_php.specs.Values.{Value, Null, Boolean, Int, Str, Obj}
use Rattle.hph_php.specs.Conversions.{map_ok, to_bool, to_text, to_key}
use Rattle.hph_php.specs.Operators.{binary_of, unary_of, incremented, decremented}
use Rattle.hph_php.specs.Arrays.{Array, append, set}
use Rattle.hph_php.specs.State.{State, Heap, Name, named, folded, share, by_name, on_located, variable_value, this_object}
use Rattle.hph_php.specs.Answers.{Means, Exits, bind, first, give, look, change, by_heap, settle, print, end_with}
use Rattle.hph_php.specs.World.{World, Context}
use Rattle.hph_php.specs.Targets.{Reading, Form, plain_variable, valued, variable_base, try, assign, assign_with, assign_if_unset, update, value_or}
use Rattle.hph_php.specs.Classes.{ClassChoice, instance_of}
use Rattle.hph_php.specs.Includes.{include}

-- ---- constants

-- the constants that are there in each program; true, false and null in any case (PHP manual, Predefined Constants)
abbrev pub words : List (Name × Value)
words = (codes "true", Boolean true) ∷ (codes "false", Boolean false) ∷ (codes "null", Null) ∷ []

abbrev pub predefined : List (Name × Value)
predefined =
    (codes "PHP_INT_MAX", Int (pos 9223372036854775807)) ∷ (codes "PHP_INT_MIN", Int (neg_ℤ (pos 9223372036854775808)))
    ∷ (codes "PHP_INT_SIZE", Int (pos 8)) ∷ (codes "PHP_EOL", Str (10 ∷ [])) ∷ []

abbrev pub or_else : {A : Type 0} → Option A → Option A → Option A
or_else (Some x) other = Some x
or_else None other = other

-- a constant that is there
abbrev pub constant_in : Name → Heap → Result Value Fatal
constant_in name heap =
    ok_or (or_else (named (folded name) words) (or_else (named name predefined) (named name heap.constants))) UndefinedConstant

abbrev pub constant_named : Name → Means Value
constant_named name = by_heap (constant_in name)

-- ---- variables

abbrev pub is_this : Name → Bool
is_this name = bytes_eq name (codes "this")

abbrev pub this_value : State → Value
this_value st = option_map_or Obj (this_object st) Null

abbrev pub variable : Name → Reading
variable name = if is_this name then valued (look this_value) else record {
  form = plain_variable name;
  value = look (λ st. unwrap_or (variable_value name st) Null);
  base = variable_base name;
  steps = give [];
}

-- `$x =& $y`: both have the location of $y, which is made if there is none
abbrev pub share_forms : Form → Form → Means Value
share_forms (plain_variable x) (plain_variable y) =
    first (change (on_located (share by_name x y))) (look (λ st. unwrap_or (variable_value x st) Null))
share_forms _ _ = give Null

-- ---- operators

-- what an operator does with the values of its operands; `&&`, `||`, `??` and their kin aren't such
abbrev pub strict : Binary → Option BinOp
strict b.Pow = Some binary.Pow
strict b.Mul = Some binary.Mul
strict b.Div = Some binary.Div
strict b.Rem = Some binary.Rem
strict b.Add = Some binary.Add
strict b.Sub = Some binary.Sub
strict b.ShiftLeft = Some binary.ShiftLeft
strict b.ShiftRight = Some binary.ShiftRight
strict b.Concat = Some binary.Concat
strict b.Less = Some binary.Less
strict b.LessEqual = Some binary.LessEqual
strict b.Greater = Some binary.Greater
strict b.GreaterEqual = Some binary.GreaterEqual
strict b.Equal = Some binary.Equal
strict b.NotEqual = Some binary.NotEqual
strict b.Identical = Some binary.Identical
strict b.NotIdentical = Some binary.NotIdentical
strict b.Spaceship = Some binary.Spaceship
strict b.BitAnd = Some binary.BitAnd
strict b.BitXor = Some binary.BitXor
strict b.BitOr = Some binary.BitOr
strict b.LogicalXor = Some binary.LogicalXor
strict _ = None

abbrev pub truth_of : Means Value → Means Value
truth_of m = bind m (λ v. give (Boolean (to_bool v)))

abbrev pub and_also : Value → Means Value → Means Value
and_also v m = if to_bool v then truth_of m else give (Boolean false)

abbrev pub or_other : Value → Means Value → Means Value
or_other v m = if to_bool v then give (Boolean true) else truth_of m

abbrev pub operated : Option BinOp → Value → Means Value → Means Value
operated None v m = m
operated (Some op) v m = bind m (λ w. settle (binary_of op v w))

-- an operator goes on from the value of its left operand
abbrev pub operate : Binary → Value → Means Value → Means Value
operate b.BooleanAnd v m = and_also v m
operate b.LogicalAnd v m = and_also v m
operate b.BooleanOr v m = or_other v m
operate b.LogicalOr v m = or_other v m
operate op v m = operated (strict op) v m

-- operators of one level, from the left
abbrev pub run : Value → List (Binary × Reading) → Means Value
run v [] = give v
run v (o ∷ more) = bind (operate o.0 v o.1.value) (λ w. run w more)

abbrev pub pair : Option ℕ → Binary → Reading → Reading → Means Value
pair within b.Coalesce x y = bind (try within x) (λ v. value_or v y.value)
pair within op x y = bind x.value (λ v. operate op v y.value)

abbrev pub ternary : Means Value → Means Value → Means Value → Means Value
ternary x y z = bind x (λ v. if to_bool v then y else z)

-- `a ?: b ?: c` is `(a ?: b) ?: c`
abbrev pub short_ternary : Value → List Reading → Means Value
short_ternary v [] = give v
short_ternary v (x ∷ xs) = bind (if to_bool v then give v else x.value) (λ w. short_ternary w xs)

abbrev pub apply : UnOp → Means Value → Means Value
apply op m = bind m (λ v. settle (unary_of op v))

abbrev pub cast_of : Cast → UnOp
cast_of cast.Int = unary.ToInt
cast_of cast.Bool = unary.ToBool
cast_of cast.String = unary.ToString
cast_of cast.Array = unary.ToArray

-- echo and print write the text of a value
abbrev pub echo : Means Value → Means (Unit {0})
echo m = bind m (λ v. bind (settle (to_text v)) print)

-- what `exit` prints, and the status
abbrev pub exit_of : Value → Result (List ℕ × ℤ) Fatal
exit_of (Int z) = Ok ([], z)
exit_of v = map_ok (λ text. (text, pos 0)) (to_text v)

abbrev pub exit_with : Value → Means Value
exit_with v = bind (settle (exit_of v)) (λ e. first (print e.0) (end_with (Exits e.1)))

abbrev pub prefix : World → Context → Prefix → Reading → Means Value
prefix world context p.Plus x = apply unary.Plus x.value
prefix world context p.Minus x = apply unary.Minus x.value
prefix world context p.BitNot x = apply unary.BitNot x.value
prefix world context p.Silence x = x.value
prefix world context (p.Cast type) x = apply (cast_of type) x.value
prefix world context p.Not x = apply unary.Not x.value
prefix world context p.Print x = first (echo x.value) (give (Int (pos 1)))
prefix world context (p.Include form) x = include world context form x

-- `x instanceof B instanceof C`
abbrev pub instances : Value → List ClassChoice → Means Value
instances v [] = give v
instances v (c ∷ cs) = bind (instance_of v c) (λ w. instances w cs)

-- ---- assignments

abbrev pub compound : Assignment → Option BinOp
compound a.Add = Some binary.Add
compound a.Sub = Some binary.Sub
compound a.Mul = Some binary.Mul
compound a.Div = Some binary.Div
compound a.Rem = Some binary.Rem
compound a.Pow = Some binary.Pow
compound a.Concat = Some binary.Concat
compound a.ShiftLeft = Some binary.ShiftLeft
compound a.ShiftRight = Some binary.ShiftRight
compound a.BitAnd = Some binary.BitAnd
compound a.BitOr = Some binary.BitOr
compound a.BitXor = Some binary.BitXor
compound _ = None

abbrev pub assigned : Option ℕ → Option BinOp → Reading → Reading → Means Value
assigned within None x y = assign within x y.value
assigned within (Some op) x y = assign_with within (binary_of op) x y.value

abbrev pub assignment : Option ℕ → Assignment → Reading → Reading → Means Value
assignment within a.Coalesce x y = assign_if_unset within x y.value
assignment within op x y = assigned within (compound op) x y

abbrev pub moved_by : Option ℕ → Update → Reading → Means Value
moved_by within update.PreIncrement x = update within incremented (λ old new. new) x
moved_by within update.PreDecrement x = update within decremented (λ old new. new) x
moved_by within update.PostIncrement x = update within incremented (λ old new. old) x
moved_by within update.PostDecrement x = update within decremented (λ old new. old) x

-- ---- arrays and strings

abbrev pub add_last : Value → Array Value → Means (Array Value)
add_last v elements = settle (append elements v)

abbrev pub with_key : Value → Value → Array Value → Result (Array Value) Fatal
with_key key v elements = map_ok (λ k. set elements k v) (to_key key)

abbrev pub add_keyed : Value → Value → Array Value → Means (Array Value)
add_keyed key v elements = settle (with_key key v elements)

abbrev pub text_of : Means Value → List ℕ → Means (List ℕ)
text_of m before = bind m (λ v. bind (settle (to_text v)) (λ text. give (before ++ text)))
