-- What is found in trees, in order of text: the literals that their code needs, the names of variables, and those that `global`
-- statements name. A function or class inside gives its literals and the names of its `global` statements, but not its variables,
-- which have a frame of their own. This project's own.
use Rattle.std.specs.Prelude.{ℕ, pos, ◌++◌, List, [], ◌∷◌, map, Option, None, Some, is_some, if◌then◌else◌, bytes_eq}
use Rattle.std.specs.List.{list_any}
use Rattle.std.specs.Fmt.{signed_decimal}
use Rattle.std.specs.Option.{option_map_or}
use Rattle.hph_ast.specs.declared.token.Identifier.{Identifier}
use Rattle.hph_ast.specs.declared.expr.Expr.{Expr, out-Expr}
use Rattle.hph_ast.specs.declared.expr.ClassReference.TheOpen.{ClassReference-F, Expr-F, Item-F, MemberName-F, Step-F, StringPart-F}
use Rattle.hph_ast.specs.declared.expr.ClassReference.TheFolds.{fold-Expr}
use Rattle.hph_ast.specs.declared.class.Member.TheOpen.{Member-F, Statement-F, Class-F, Function-F, Case-F, ElseIf-F}
use Rattle.hph_ast.specs.declared.class.Member.TheFolds.{fold-Statement}
use Rattle.hph_ast.specs.declared.class.ConstantItem.{ConstantItem}
use Rattle.hph_ast.specs.declared.class.PropertyItem.{PropertyItem}
use Rattle.hph_ast.specs.declared.function.Param.{Param}
use Rattle.hph_ast.specs.declared.stmt.Statement.{Statement}
use Rattle.hph_ast.specs.declared.stmt.StaticVariable.{StaticVariable}
use Rattle.hph_ast.specs.declared.stmt.ForeachTarget.{ForeachTarget}
use Rattle.hph_ast.specs.declared.stmt.ForeachTarget.TheVariants as target
use Rattle.hph_ast.specs.Layers.{ExprLayer}
use Rattle.hph_php.specs.State.{Name, named, folded}
use Rattle.hph_php.specs.Codes.{builtin_named}
use Rattle.hph_php.specs.Operations.{words, is_this}

pub record Parts : Type 0 where
  pub texts : List (List ℕ)
  pub variables : List Name
  pub globals : List Name

abbrev pub none : Parts
none = record { texts = []; variables = []; globals = [] }

abbrev pub text : List ℕ → Parts
text bytes = record { texts = bytes ∷ []; variables = []; globals = [] }

-- `$this` has no slot
abbrev pub a_variable : Name → Parts
a_variable name = if is_this name then none else record { texts = []; variables = name ∷ []; globals = [] }

abbrev pub both : Parts → Parts → Parts
both a b = record {
  texts = a.texts ++ b.texts;
  variables = a.variables ++ b.variables;
  globals = a.globals ++ b.globals;
}

abbrev pub together : List Parts → Parts
together [] = none
together (p ∷ ps) = both p (together ps)

abbrev pub each_part : {A : Type 0} → (A → Parts) → List A → Parts
each_part f xs = together (map f xs)

abbrev pub maybe_part : {A : Type 0} → (A → Parts) → Option A → Parts
maybe_part f x = option_map_or f x none

-- the text of an operand of `echo` that is known before anything runs: an INT, or a STRING without interpolation
abbrev pub echoed : ExprLayer → Option (List ℕ)
echoed (Expr-F.Int at n) = Some (signed_decimal (pos n))
echoed (Expr-F.Text at bytes) = Some bytes
echoed _ = None

-- each once, in order
abbrev pub distinct : List (List ℕ) → List (List ℕ) → List (List ℕ)
distinct known [] = []
distinct known (x ∷ xs) = if list_any (bytes_eq x) known then distinct known xs else x ∷ distinct (x ∷ known) xs

-- ---- expressions

module _ (directory : List ℕ) where
  abbrev pub class_parts : ClassReference-F Parts Parts Parts Name Parts Parts → Parts
  class_parts (ClassReference-F.ByName at name) = text name
  class_parts _ = none

  abbrev pub item_parts : Item-F Parts Parts Parts Name Parts Parts → Parts
  item_parts (Item-F.Plain at x) = x
  item_parts (Item-F.Keyed at k x) = both k x
  item_parts _ = none

  abbrev pub name_parts : MemberName-F Parts Parts Parts Name Parts Parts → Name
  name_parts (MemberName-F.Named name) = name
  name_parts (MemberName-F.Computed x) = []

  abbrev pub step_parts : Step-F Parts Parts Parts Name Parts Parts → Parts
  step_parts (Step-F.Index at x) = x
  step_parts (Step-F.Append at) = none
  step_parts (Step-F.Property at name) = text name

  abbrev pub string_parts : StringPart-F Parts Parts Parts Name Parts Parts → Parts
  string_parts (StringPart-F.Piece at bytes) = text bytes
  string_parts (StringPart-F.Interpolation x) = x

  abbrev pub parts_by : Expr-F Parts Parts Parts Name Parts Parts → Parts
  parts_by (Expr-F.Text at bytes) = text bytes
  parts_by (Expr-F.Interpolated at parts) = both (text []) (together parts)
  parts_by (Expr-F.Variable at name) = a_variable name
  parts_by (Expr-F.Constant at name) = if is_some (named (folded name) words) then none else text name
  parts_by (Expr-F.Directory at) = text directory
  parts_by (Expr-F.Array at form items) = together items
  parts_by (Expr-F.Call at name xs) = both (if is_some (builtin_named name) then none else text name) (together xs)
  parts_by (Expr-F.StaticCall at class name xs) = both class (both (text name) (together xs))
  parts_by (Expr-F.MethodCall at x name xs) = both x (both (text name) (together xs))
  parts_by (Expr-F.New at class xs) = both class (together xs)
  parts_by (Expr-F.ClassConstant at class name) = both class (text name)
  parts_by (Expr-F.StaticProperty at class name) = both class (text name)
  parts_by (Expr-F.Paren at x) = x
  parts_by (Expr-F.Isset at xs) = together xs
  parts_by (Expr-F.Empty at x) = x
  parts_by (Expr-F.ExitWith at x) = x
  parts_by (Expr-F.Path at x steps) = both x (together steps)
  parts_by (Expr-F.Update at form x) = x
  parts_by (Expr-F.Prefix at op x) = x
  parts_by (Expr-F.InstanceOf at x classes) = both x (together classes)
  parts_by (Expr-F.Run at x more) = both x (each_part (λ o. o.1) more)
  parts_by (Expr-F.Pair at op x y) = both x y
  parts_by (Expr-F.Ternary at x y z) = both x (both y z)
  parts_by (Expr-F.ShortTernary at x more) = both x (together more)
  parts_by (Expr-F.Assign at op x y) = both x y
  parts_by (Expr-F.AssignReference at x y ampersand) = both x y
  parts_by _ = none

  unfoldable pub parts_in : Expr → Parts
  parts_in = fold-Expr Parts Parts Parts Name Parts Parts class_parts parts_by item_parts name_parts step_parts string_parts

  -- ---- statements

  abbrev pub spelled : Identifier → Parts
  spelled i = text i.spelled

  abbrev pub variable_named : Identifier → Parts
  variable_named i = a_variable i.spelled

  abbrev pub constant_parts : ConstantItem → Parts
  constant_parts i = both (spelled i.name) (parts_in i.value)

  abbrev pub property_parts : PropertyItem → Parts
  property_parts i = both (spelled i.name) (maybe_part parts_in i.value)

  abbrev pub target_parts : ForeachTarget → Parts
  target_parts (target.Variable name) = variable_named name
  target_parts _ = none

  abbrev pub static_parts : StaticVariable → Parts
  static_parts v = both (variable_named v.name) (maybe_part parts_in v.value)

  abbrev pub global_parts : Identifier → Parts
  global_parts i = record (variable_named i) { globals = i.spelled ∷ [] }

  -- An operand of `echo` that is an INT or a STRING is written as its text.
  abbrev pub echo_parts : Expr → Parts
  echo_parts x = option_map_or text (echoed (out-Expr x)) (parts_in x)

  -- without the variables of a function or class
  abbrev pub inner : Parts → Parts
  inner p = record p { variables = [] }

  abbrev pub param_parts : Param → Parts
  param_parts p = maybe_part parts_in p.default

  abbrev pub function_parts : Function-F Parts Parts Parts Parts Parts Parts → Parts
  function_parts f = inner (both (spelled f.name) (both (each_part param_parts f.params) (together f.body)))

  abbrev pub class_declaration_parts : Class-F Parts Parts Parts Parts Parts Parts → Parts
  class_declaration_parts c = inner (both (spelled c.name) (both (maybe_part spelled c.parent) (together c.members)))

  abbrev pub member_parts : Member-F Parts Parts Parts Parts Parts Parts → Parts
  member_parts (Member-F.Constants at mods items) = each_part constant_parts items
  member_parts (Member-F.Properties at mods ty items) = each_part property_parts items
  member_parts (Member-F.Method at mods f) = f

  abbrev pub case_parts : Case-F Parts Parts Parts Parts Parts Parts → Parts
  case_parts c = both (maybe_part parts_in c.test) (together c.body)

  abbrev pub else_if_parts : ElseIf-F Parts Parts Parts Parts Parts Parts → Parts
  else_if_parts b = both (parts_in b.test) b.body

  abbrev pub statement_parts_by : Statement-F Parts Parts Parts Parts Parts Parts → Parts
  statement_parts_by (Statement-F.InlineText at bytes) = text bytes
  statement_parts_by (Statement-F.Block at body) = together body
  statement_parts_by (Statement-F.Expression at x) = parts_in x
  statement_parts_by (Statement-F.Function f) = f
  statement_parts_by (Statement-F.Class c) = c
  statement_parts_by (Statement-F.If at x body more other) =
      both (parts_in x) (both body (both (together more) (maybe_part (λ s. s) other)))
  statement_parts_by (Statement-F.While at x body) = both (parts_in x) body
  statement_parts_by (Statement-F.DoWhile at body x) = both body (parts_in x)
  statement_parts_by (Statement-F.For at init test step body) =
      both (each_part parts_in init) (both (each_part parts_in test) (both (each_part parts_in step) body))
  statement_parts_by (Statement-F.Foreach at x key value body) =
      both (parts_in x) (both (maybe_part variable_named key) (both (target_parts value) body))
  statement_parts_by (Statement-F.Switch at x cases) = both (parts_in x) (together cases)
  statement_parts_by (Statement-F.Return at value) = maybe_part parts_in value
  statement_parts_by (Statement-F.Echo at xs) = each_part echo_parts xs
  statement_parts_by (Statement-F.Global at names) = each_part global_parts names
  statement_parts_by (Statement-F.Static at variables) = each_part static_parts variables
  statement_parts_by (Statement-F.Unset at paths) = each_part parts_in paths
  statement_parts_by (Statement-F.Const at items) = each_part constant_parts items
  statement_parts_by _ = none

  unfoldable pub statement_parts : Statement → Parts
  statement_parts = fold-Statement Parts Parts Parts Parts Parts Parts
      member_parts statement_parts_by class_declaration_parts function_parts case_parts else_if_parts
