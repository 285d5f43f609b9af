-- Types of expressions under a typing of cells: one clause for each row of the table. An expression one of whose operands has no
-- type has none, unless its row says otherwise. This project's own.
use Rattle.std.specs.Prelude.{◌==◌, ◌&&◌, ◌||◌, ℕ, zero, suc, Bool, true, false, List, [], ◌∷◌, ◌++◌, map, flat_map, fold, position, Option, None, Some, slice_get, bytes_eq, codes, if◌then◌else◌}
use Rattle.std.specs.List.{filter, list_any}
use Rattle.std.specs.Option.{option_map_or, unwrap_or}
use Rattle.hph_type.specs.declared.kind.Kind.{Kind}
use Rattle.hph_type.specs.declared.kind.Kind.TheVariants as k
use Rattle.hph_type.specs.declared.object.ObjPart.{ObjPart}
use Rattle.hph_type.specs.declared.object.ObjPart.TheVariants.{NoObj, Of, AnyObj}
use Rattle.hph_type.specs.Kinds.{holds, kinds_where, only, without, bits_of}
use Rattle.hph_type.specs.Types.{PhpType, none, top, same_type}
use Rattle.hph_type.specs.Classes.{Parents}
use Rattle.hph_type.specs.Order.{join}
use Rattle.hph_ast.specs.declared.expr.Expr.{Expr}
use Rattle.hph_ast.specs.declared.expr.Update.{Update}
use Rattle.hph_ast.specs.declared.expr.Update.TheVariants as update
use Rattle.hph_ast.specs.declared.expr.ClassReference.TheOpen.{ClassReference-F, Expr-F, Item-F, MemberName-F, Step-F, StringPart-F}
use Rattle.hph_ast.specs.declared.expr.ClassReference.TheFolds.{fold-Expr}
use Rattle.hph_ast.specs.declared.operator.Binary.{Binary}
use Rattle.hph_ast.specs.declared.operator.Binary.TheVariants as b
use Rattle.hph_ast.specs.declared.operator.Prefix.{Prefix}
use Rattle.hph_ast.specs.declared.operator.Prefix.TheVariants as prefix
use Rattle.hph_ast.specs.declared.operator.Cast.{Cast}
use Rattle.hph_ast.specs.declared.operator.Cast.TheVariants as cast
use Rattle.hph_ast.specs.declared.operator.Assignment.{Assignment}
use Rattle.hph_ast.specs.declared.operator.Assignment.TheVariants as a
use Rattle.hph_ast.specs.RefusedExpressions.{is_this_name}
use Rattle.hph_php.specs.declared.builtin.Builtin.{Builtin}
use Rattle.hph_php.specs.declared.builtin.Builtin.TheVariants as f
use Rattle.hph_php.specs.Codes.{builtin_named}
use Rattle.hph_php.specs.State.{Name}
use Rattle.hph_sys.specs.Typings.{at}
use Rattle.hph_typing.specs.Scopes.{Placed, same_name, declared, parent_of, class_of, classes_named, functions_named, methods_named}
use Rattle.hph_typing.specs.Cells.{Table, Cell, Sort, a_property, owner_of, properties_named, result_cell, variable_cell}

-- ---- types of kinds

abbrev pub of_kind : Kind → PhpType
of_kind kind = record { kinds = only kind; obj = NoObj }

abbrev pub null : PhpType
null = of_kind k.Null

abbrev pub bool : PhpType
bool = of_kind k.Bool

abbrev pub int : PhpType
int = of_kind k.Int

abbrev pub str : PhpType
str = of_kind k.Str

abbrev pub arr : PhpType
arr = of_kind k.Arr

abbrev pub of_kinds : List Kind → PhpType
of_kinds [] = none
of_kinds (kind ∷ kinds) = record { kinds = kinds_where (λ x. holds (only kind) x || holds (of_kinds kinds).kinds x); obj = NoObj }

abbrev pub objects : ObjPart → PhpType
objects part = record { kinds = none.kinds; obj = part }

abbrev pub is_none : PhpType → Bool
is_none x = same_type x none

abbrev pub has : PhpType → Kind → Bool
has x kind = holds x.kinds kind

-- Null, Bool, Int or Str
abbrev pub is_numeric : PhpType → Bool
is_numeric x = has x k.Null || (has x k.Bool || (has x k.Int || has x k.Str))

abbrev pub int_if : Bool → PhpType
int_if there = if there then int else none

abbrev pub without_null : PhpType → PhpType
without_null x = record x { kinds = without x.kinds k.Null }

abbrev pub any_constant : PhpType
any_constant = of_kinds (k.Null ∷ k.Bool ∷ k.Int ∷ k.Str ∷ k.Arr ∷ [])

abbrev pub if_all : List PhpType → PhpType → PhpType
if_all operands x = if list_any is_none operands then none else x

-- ---- constants

abbrev pub constant_type : Name → PhpType
constant_type name =
    if list_any (bytes_eq name) (codes "PHP_INT_MAX" ∷ codes "PHP_INT_MIN" ∷ codes "PHP_INT_SIZE" ∷ []) then int
    else (if bytes_eq name (codes "PHP_EOL") then str
    else (if same_name name (codes "true") || same_name name (codes "false") then bool
    else (if same_name name (codes "null") then null else any_constant)))

-- ---- operators

-- of two operands with a type
abbrev pub binary_type : Parents → Binary → PhpType → PhpType → PhpType
binary_type tree b.Concat x y = str
binary_type tree b.Spaceship x y = int
binary_type tree b.Less x y = bool
binary_type tree b.LessEqual x y = bool
binary_type tree b.Greater x y = bool
binary_type tree b.GreaterEqual x y = bool
binary_type tree b.Equal x y = bool
binary_type tree b.NotEqual x y = bool
binary_type tree b.Identical x y = bool
binary_type tree b.NotIdentical x y = bool
binary_type tree b.LogicalXor x y = bool
binary_type tree b.Add x y = join tree (if has x k.Arr && has y k.Arr then arr else none) (int_if (is_numeric x && is_numeric y))
binary_type tree _ x y = int_if (is_numeric x && is_numeric y)

abbrev pub operator_type : Parents → Binary → PhpType → PhpType → PhpType
operator_type tree b.BooleanAnd x y = if_all (x ∷ []) bool
operator_type tree b.BooleanOr x y = if_all (x ∷ []) bool
operator_type tree b.LogicalAnd x y = if_all (x ∷ []) bool
operator_type tree b.LogicalOr x y = if_all (x ∷ []) bool
operator_type tree b.Coalesce x y = join tree (without_null x) y
operator_type tree op x y = if_all (x ∷ y ∷ []) (binary_type tree op x y)

abbrev pub cast_type : Cast → PhpType
cast_type cast.Int = int
cast_type cast.Bool = bool
cast_type cast.String = str
cast_type cast.Array = arr

-- of an operand with a type
abbrev pub prefix_type : Prefix → PhpType → PhpType
prefix_type prefix.Plus x = int_if (is_numeric x)
prefix_type prefix.Minus x = int_if (is_numeric x)
prefix_type prefix.BitNot x = int_if (has x k.Int)
prefix_type prefix.Silence x = x
prefix_type (prefix.Cast to) x = cast_type to
prefix_type prefix.Not x = bool
prefix_type prefix.Print x = int
prefix_type (prefix.Include form) x = top

-- the operator of a compound assignment
abbrev pub operator_of : Assignment → Option Binary
operator_of a.Set = None
operator_of a.Add = Some b.Add
operator_of a.Sub = Some b.Sub
operator_of a.Mul = Some b.Mul
operator_of a.Div = Some b.Div
operator_of a.Rem = Some b.Rem
operator_of a.Pow = Some b.Pow
operator_of a.Concat = Some b.Concat
operator_of a.ShiftLeft = Some b.ShiftLeft
operator_of a.ShiftRight = Some b.ShiftRight
operator_of a.BitAnd = Some b.BitAnd
operator_of a.BitOr = Some b.BitOr
operator_of a.BitXor = Some b.BitXor
operator_of a.Coalesce = Some b.Coalesce

-- the new value of `++` and `--`
abbrev pub only_if : Bool → Kind → List Kind
only_if there kind = if there then kind ∷ [] else []

abbrev pub raised : PhpType → PhpType
raised x = of_kinds (only_if (has x k.Int || (has x k.Str || has x k.Null)) k.Int ++ only_if (has x k.Bool) k.Bool)

abbrev pub lowered : PhpType → PhpType
lowered x = of_kinds (only_if (has x k.Int || has x k.Str) k.Int ++ (only_if (has x k.Bool) k.Bool ++ only_if (has x k.Null) k.Null))

abbrev pub moved : Update → PhpType → PhpType
moved update.PreIncrement x = raised x
moved update.PostIncrement x = raised x
moved update.PreDecrement x = lowered x
moved update.PostDecrement x = lowered x

abbrev pub update_type : Update → PhpType → PhpType
update_type update.PreIncrement x = raised x
update_type update.PreDecrement x = lowered x
update_type _ x = x

-- ---- functions that are built in

abbrev pub builtin_type : Builtin → PhpType
builtin_type f.Strlen = int
builtin_type f.Count = int
builtin_type f.Intdiv = int
builtin_type f.Abs = int
builtin_type f.Ord = int
builtin_type f.Strpos = of_kinds (k.Bool ∷ k.Int ∷ [])
builtin_type f.Explode = arr
builtin_type f.ArrayKeys = arr
builtin_type f.ArrayValues = arr
builtin_type f.ArrayPush = int
builtin_type f.ArrayPop = top
builtin_type f.InArray = bool
builtin_type f.ArrayKeyExists = bool
builtin_type f.IsInt = bool
builtin_type f.IsString = bool
builtin_type f.IsBool = bool
builtin_type f.IsArray = bool
builtin_type f.IsNull = bool
builtin_type f.IsObject = bool
builtin_type f.VarDump = null
builtin_type _ = str

-- ---- classes

-- the number of a steady class
abbrev pub class_number : Table → ℕ → Option ℕ
class_number t s = position (λ c. c == s) t.classes

-- the tree of the steady classes
abbrev pub parents_of : Table → Parents
parents_of t = map parent_number t.classes
  where
    parent_named : Name → Option ℕ
    parent_named name = position (λ c. list_any (λ s. s == c) (classes_named t.declarations name)) t.classes

    parent_number : ℕ → Option ℕ
    parent_number s = option_map_or parent_named (option_map_or (λ d. parent_of d.1) (declared t.declarations s) None) None

abbrev pub objects_of : Table → Option ℕ → PhpType
objects_of t class = objects (option_map_or Of class AnyObj)

-- Of(that class) if it is steady, else AnyObj
abbrev pub named_objects : Table → Name → PhpType
named_objects t name = objects_of t (position (λ c. list_any (λ s. s == c) (classes_named t.declarations name)) t.classes)

-- Of the class that a scope is in
abbrev pub own_objects : Table → ℕ → PhpType
own_objects t s = objects_of t (option_map_or (class_number t) (class_of t.declarations s) None)

-- ---- candidates

abbrev pub is_among : List ℕ → ℕ → Bool
is_among ns n = list_any (λ m. m == n) ns

abbrev pub parents_by_name : Table → ℕ → List ℕ
parents_by_name t s = option_map_or (classes_named t.declarations) (option_map_or (λ d. parent_of d.1) (declared t.declarations s) None) []

abbrev pub with_new : List ℕ → List ℕ → List ℕ
with_new known [] = known
with_new known (n ∷ ns) = if is_among known n then with_new known ns else with_new (known ++ n ∷ []) ns

-- classes with their parents by name, so many levels up
abbrev pub upward : Table → ℕ → List ℕ → List ℕ
upward t zero known = known
upward t (suc levels) known = upward t levels (with_new known (flat_map (parents_by_name t) known))

-- the ancestors by name of a scope's class
abbrev pub ancestors_by_name : Table → ℕ → List ℕ
ancestors_by_name t s = upward t (levels t.declarations) (with_new [] (parents_by_name t s))
  where
    levels : List Placed → ℕ
    levels [] = 0
    levels (d ∷ ds) = suc (levels ds)

-- a class or one of its ancestors
abbrev pub is_in_line : Table → (class : ℕ) → ℕ → Bool
is_in_line t class s = (class == s) || is_among (ancestors_by_name t class) s

-- a member of a class is a candidate under another class if one of them is the other or extends it by name
abbrev pub is_related : Table → (class : ℕ) → ℕ → Bool
is_related t class s = is_in_line t class s || is_among (ancestors_by_name t s) class

-- those of some things, each in a class, that are candidates under an object part
abbrev pub candidates : Table → (ℕ → ℕ) → ObjPart → List ℕ → List ℕ
candidates t class_at NoObj xs = []
candidates t class_at AnyObj xs = xs
candidates t class_at (Of c) xs = option_map_or (λ class. filter (λ x. is_related t class (class_at x)) xs) (slice_get t.classes c) []

abbrev pub property_candidates : Table → ObjPart → Name → List ℕ
property_candidates t part name = candidates t (owner_of t) part (properties_named t name)

abbrev pub method_candidates : Table → ObjPart → Name → List ℕ
method_candidates t part name = candidates t (λ s. unwrap_or (class_of t.declarations s) 0) part (methods_named t.declarations name)

-- ---- expressions of a scope, under a typing

-- What an expression has: its type; and whether a key of it, or its base where that is no variable and no static property, has none.
pub record Typed : Type 0 where
  pub type : PhpType
  pub lacks : Bool

abbrev pub plainly : PhpType → Typed
plainly x = record { type = x; lacks = is_none x }

abbrev pub a_place : PhpType → Typed
a_place x = record { type = x; lacks = false }

abbrev pub types : List Typed → List PhpType
types xs = map (λ x. x.type) xs

-- what a step makes of the type before it, and whether its key has no type
pub record Stepped : Type 0 where
  pub type : PhpType → PhpType
  pub lacks : Bool

-- an index read
abbrev pub index_type : Parents → PhpType → PhpType
index_type tree x = if_all (x ∷ []) (join tree null (join tree (if has x k.Arr then top else none) (if has x k.Str then str else none)))

module _ (t : Table) (tree : Parents) (typing : List PhpType) (s : ℕ) where
  abbrev pub joined : List PhpType → PhpType
  joined xs = fold (join tree) none xs

  abbrev pub cells_type : List ℕ → PhpType
  cells_type cells = joined (map (at typing) cells)

  abbrev pub results_type : List ℕ → PhpType
  results_type scopes = cells_type (flat_map (result_cell t) scopes)

  -- c or an ancestor declares the property, which isn't static
  abbrev pub is_declared_property : Cell → Bool
  is_declared_property c = is_own c.sort
    where
      is_own : Sort → Bool
      is_own a_property = true
      is_own _ = false

  abbrev pub declares : ObjPart → Name → Bool
  declares (Of c) name = option_map_or in_line_declares (slice_get t.classes c) false
    where
      in_line_declares : ℕ → Bool
      in_line_declares class =
          list_any (λ (x : Cell). is_declared_property x && (bytes_eq name x.name && is_in_line t class x.owner)) t.cells
  declares _ name = false

  abbrev pub property_type : PhpType → Name → PhpType
  property_type x name =
      if_all (x ∷ []) (join tree (cells_type (property_candidates t x.obj name))
      (if (bits_of x.kinds == 0) && declares x.obj name then none else null))

  -- ---- each is given its parts
  abbrev pub class_by : ClassReference-F PhpType Typed Bool Name Stepped Bool → PhpType
  class_by (ClassReference-F.ByName at name) = named_objects t name
  class_by (ClassReference-F.SelfClass at) = own_objects t s
  class_by (ClassReference-F.Static at) = own_objects t s
  class_by (ClassReference-F.Parent at) =
      option_map_or (named_objects t)
      (option_map_or (λ class. option_map_or (λ d. parent_of d.1) (declared t.declarations class) None) (class_of t.declarations s) None)
      (objects AnyObj)
  class_by (ClassReference-F.ByExpression at x) = none

  -- whether a value in it has no type
  abbrev pub item_by : Item-F PhpType Typed Bool Name Stepped Bool → Bool
  item_by (Item-F.Plain at x) = is_none x.type
  item_by (Item-F.Keyed at x y) = is_none x.type || is_none y.type
  item_by _ = false

  abbrev pub member_by : MemberName-F PhpType Typed Bool Name Stepped Bool → Name
  member_by (MemberName-F.Named name) = name
  member_by (MemberName-F.Computed x) = []

  abbrev pub step_by : Step-F PhpType Typed Bool Name Stepped Bool → Stepped
  step_by (Step-F.Index at key) =
      record { type = λ x. if_all (key.type ∷ []) (index_type tree x); lacks = is_none key.type }
  step_by (Step-F.Append at) = record { type = index_type tree; lacks = false }
  step_by (Step-F.Property at name) = record { type = λ x. property_type x name; lacks = false }

  abbrev pub part_by : StringPart-F PhpType Typed Bool Name Stepped Bool → Bool
  part_by (StringPart-F.Piece at bytes) = false
  part_by (StringPart-F.Interpolation x) = is_none x.type

  abbrev pub unless : Bool → PhpType → PhpType
  unless lacks x = if lacks then none else x

  abbrev pub variable_type : Name → PhpType
  variable_type name = if is_this_name name then own_objects t s else cells_type (variable_cell t s name)

  abbrev pub call_type : Name → PhpType
  call_type name = option_map_or builtin_type (builtin_named name) (results_type (functions_named t.declarations name))

  abbrev pub assigned_type : Assignment → Typed → PhpType → PhpType
  assigned_type op x value = option_map_or (λ o. operator_type tree o x.type value) (operator_of op) (unless x.lacks value)

  abbrev pub any : List Bool → Bool
  any bs = list_any (λ x. x) bs

  abbrev pub typed_by : Expr-F PhpType Typed Bool Name Stepped Bool → Typed
  typed_by (Expr-F.Int at n) = plainly int
  typed_by (Expr-F.Text at bytes) = plainly str
  typed_by (Expr-F.Directory at) = plainly str
  typed_by (Expr-F.Interpolated at parts) = plainly (unless (any parts) str)
  typed_by (Expr-F.Array at form items) = plainly (unless (any items) arr)
  typed_by (Expr-F.Constant at name) = plainly (constant_type name)
  typed_by (Expr-F.ClassConstant at class name) = plainly any_constant
  typed_by (Expr-F.Variable at name) = a_place (variable_type name)
  typed_by (Expr-F.New at class xs) = plainly (if_all (types xs) class)
  typed_by (Expr-F.Paren at x) = plainly x.type
  typed_by (Expr-F.Prefix at (prefix.Include form) x) = plainly top
  typed_by (Expr-F.Prefix at op x) = plainly (if_all (x.type ∷ []) (prefix_type op x.type))
  typed_by (Expr-F.InstanceOf at x classes) = plainly (if_all (x.type ∷ []) bool)
  typed_by (Expr-F.Isset at xs) = plainly bool
  typed_by (Expr-F.Empty at x) = plainly bool
  typed_by (Expr-F.Exit at) = plainly none
  typed_by (Expr-F.ExitWith at x) = plainly none
  typed_by (Expr-F.Run at x more) = plainly (fold (λ y o. operator_type tree o.0 y o.1.type) x.type more)
  typed_by (Expr-F.Pair at op x y) = plainly (operator_type tree op x.type y.type)
  typed_by (Expr-F.Ternary at x y z) = plainly (join tree y.type z.type)
  typed_by (Expr-F.ShortTernary at x more) = plainly (joined (x.type ∷ types more))
  typed_by (Expr-F.Assign at op x y) = plainly (assigned_type op x y.type)
  typed_by (Expr-F.AssignReference at x y ampersand) = plainly y.type
  typed_by (Expr-F.Update at form x) = plainly (update_type form x.type)
  typed_by (Expr-F.Path at x steps) = record {
    type = fold (λ y step. step.type y) x.type steps;
    lacks = x.lacks || list_any (λ step. step.lacks) steps;
  }
  typed_by (Expr-F.StaticProperty at class name) = a_place (cells_type (properties_named t name))
  typed_by (Expr-F.StaticCall at class name xs) = plainly (results_type (methods_named t.declarations name))
  typed_by (Expr-F.Call at name xs) = plainly (call_type name)
  typed_by (Expr-F.MethodCall at x name xs) = plainly (results_type (method_candidates t x.type.obj name))
  -- the last forms are refused
  typed_by (Expr-F.DynamicCall at x xs) = plainly none
  typed_by (Expr-F.ClassName at class colons) = plainly none
  typed_by (Expr-F.Destructure at items x) = plainly none
  typed_by (Expr-F.NamedArgument at name x) = plainly none

  unfoldable pub typed : Expr → Typed
  typed = fold-Expr PhpType Typed Bool Name Stepped Bool class_by typed_by item_by member_by step_by part_by

  abbrev pub type_of : Expr → PhpType
  type_of x = (typed x).type
