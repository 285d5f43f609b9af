-- What a scope asks under a typing: pairs of a cell and a type, one clause for each item, in order of file, place, item, cell and
-- step of a path. This project's own.
use Rattle.std.specs.Prelude.{◌==◌, ◌-◌, ℕ, suc, Bool, true, false, List, [], ◌∷◌, ◌++◌, map, flat_map, take, Option, None, Some, slice_get, codes, if◌then◌else◌}
use Rattle.std.specs.List.{filter}
use Rattle.std.specs.Option.{option_map_or}
use Rattle.hph_type.specs.declared.kind.Kind.TheVariants as k
use Rattle.hph_type.specs.Types.{PhpType, top}
use Rattle.hph_type.specs.Classes.{Parents}
use Rattle.hph_ast.specs.declared.token.Identifier.{Identifier}
use Rattle.hph_ast.specs.declared.expr.Expr.{Expr, out-Expr}
use Rattle.hph_ast.specs.declared.expr.Expr.TheVariants as e
use Rattle.hph_ast.specs.declared.expr.Step.{Step, out-Step}
use Rattle.hph_ast.specs.declared.expr.ClassReference.TheOpen.{Expr-F, Step-F}
use Rattle.hph_ast.specs.declared.operator.Assignment.{Assignment}
use Rattle.hph_ast.specs.declared.operator.Assignment.TheVariants as a
use Rattle.hph_ast.specs.declared.function.Function.{Function, out-Function}
use Rattle.hph_ast.specs.declared.function.Param.{Param}
use Rattle.hph_ast.specs.declared.class.Class.{Class, out-Class}
use Rattle.hph_ast.specs.declared.class.Member.{Member, out-Member}
use Rattle.hph_ast.specs.declared.class.Member.TheOpen.{Member-F, Statement-F}
use Rattle.hph_ast.specs.declared.class.PropertyItem.{PropertyItem}
use Rattle.hph_ast.specs.declared.stmt.Statement.{Statement}
use Rattle.hph_ast.specs.declared.stmt.Case.{Case}
use Rattle.hph_ast.specs.declared.stmt.ElseIf.{ElseIf}
use Rattle.hph_ast.specs.declared.stmt.StaticVariable.{StaticVariable}
use Rattle.hph_ast.specs.declared.stmt.ForeachTarget.{ForeachTarget}
use Rattle.hph_ast.specs.declared.stmt.ForeachTarget.TheVariants as target
use Rattle.hph_ast.specs.Layers.{ExprLayer, StepLayer}
use Rattle.hph_php.specs.State.{Name}
use Rattle.hph_php.specs.Declarations.{Declaration, a_class, numbered_from}
use Rattle.hph_program.specs.Names.{named_member as member_name, changes_array}
use Rattle.hph_typing.specs.Scopes.{declared, code_of, functions_named, methods_named}
use Rattle.hph_typing.specs.Parts.{With, Layer, StatementLayer, collected, collected_statement, ordered}
use Rattle.hph_typing.specs.Cells.{Table, Appearance, bodies, variables_of, variable_cell, result_cell, parameter_cells, own_cells, properties_named}
use Rattle.hph_typing.specs.Assignment.{takes_in, unsure_reads, is_cut_off}
use Rattle.hph_asks.specs.Types.{null, arr, of_kinds, operator_type, operator_of, moved, property_candidates, method_candidates, type_of}

-- A pair with its place in a file, its item, and the step of a path that asks it.
pub record Ask : Type 0 where
  pub place : ℕ
  pub item : ℕ
  pub cell : ℕ
  pub step : ℕ
  pub type : PhpType

-- cells that are asked one type at one place
abbrev pub asks : ℕ → ℕ → ℕ → PhpType → List ℕ → List Ask
asks place item step type cells = map (λ c. record { place = place; item = item; cell = c; step = step; type = type }) cells

-- where an expression begins
abbrev pub start_of : Expr → ℕ
start_of x = start_at (out-Expr x)
  where
    start_at : ExprLayer → ℕ
    start_at (Expr-F.Int at n) = at.start
    start_at (Expr-F.Text at bytes) = at.start
    start_at (Expr-F.Interpolated at parts) = at.start
    start_at (Expr-F.Variable at name) = at.start
    start_at (Expr-F.Constant at name) = at.start
    start_at (Expr-F.Directory at) = at.start
    start_at (Expr-F.Array at form items) = at.start
    start_at (Expr-F.Call at name xs) = at.start
    start_at (Expr-F.DynamicCall at y xs) = at.start
    start_at (Expr-F.StaticCall at class name xs) = at.start
    start_at (Expr-F.MethodCall at y name xs) = at.start
    start_at (Expr-F.New at class xs) = at.start
    start_at (Expr-F.ClassConstant at class name) = at.start
    start_at (Expr-F.ClassName at class colons) = at.start
    start_at (Expr-F.StaticProperty at class name) = at.start
    start_at (Expr-F.Paren at y) = at.start
    start_at (Expr-F.Isset at xs) = at.start
    start_at (Expr-F.Empty at y) = at.start
    start_at (Expr-F.Exit at) = at.start
    start_at (Expr-F.ExitWith at y) = at.start
    start_at (Expr-F.Path at y steps) = at.start
    start_at (Expr-F.Update at form y) = at.start
    start_at (Expr-F.Prefix at op y) = at.start
    start_at (Expr-F.InstanceOf at y classes) = at.start
    start_at (Expr-F.Run at y more) = at.start
    start_at (Expr-F.Pair at op y z) = at.start
    start_at (Expr-F.Ternary at y z w) = at.start
    start_at (Expr-F.ShortTernary at y more) = at.start
    start_at (Expr-F.Assign at op y z) = at.start
    start_at (Expr-F.AssignReference at y z ampersand) = at.start
    start_at (Expr-F.Destructure at items y) = at.start
    start_at (Expr-F.NamedArgument at name y) = at.start

-- the name of a variable
abbrev pub variable_name : Expr → Option Name
variable_name x = name_at (out-Expr x)
  where
    name_at : ExprLayer → Option Name
    name_at (Expr-F.Variable at name) = Some name
    name_at _ = None

-- the base and the steps of a path
abbrev pub parts_of_path : Expr → Expr × List Step
parts_of_path x = path_at (out-Expr x)
  where
    path_at : ExprLayer → Expr × List Step
    path_at (Expr-F.Path at base steps) = (base, steps)
    path_at _ = (x, [])

abbrev pub is_index : Step → Bool
is_index step = is_index_at (out-Step step)
  where
    is_index_at : StepLayer → Bool
    is_index_at (Step-F.Property at name) = false
    is_index_at _ = true

-- array_push and array_pop
abbrev pub changed_path : Name → List (With Ask Expr) → List Expr
changed_path name [] = []
changed_path name (x ∷ xs) = if changes_array name then x.0 ∷ [] else []

abbrev pub plain_parts : List (With Ask Expr) → List Expr
plain_parts xs = map (λ x. x.0) xs

module _ (t : Table) (tree : Parents) (typing : List PhpType) (s : ℕ) where
  abbrev pub type_here : Expr → PhpType
  type_here x = type_of t tree typing s x

  -- ---- paths that are written or unset: each cell whose next step is an index, and the cells that a write ends in

  -- the cells of a base: of a variable or a static property
  abbrev pub base_cells : Expr → List ℕ
  base_cells x = cells_at (out-Expr x)
    where
      cells_at : ExprLayer → List ℕ
      cells_at (Expr-F.Variable at name) = variable_cell t s name
      cells_at (Expr-F.StaticProperty at class name) = properties_named t name
      cells_at _ = []

  -- the cells that a step leads to from a type
  abbrev pub step_cells : PhpType → Step → List ℕ
  step_cells before step = cells_at (out-Step step)
    where
      cells_at : StepLayer → List ℕ
      cells_at (Step-F.Property at name) = property_candidates t before.obj (member_name name)
      cells_at _ = []

  -- the type of a path's first steps
  abbrev pub prefix_type : Expr → List Step → ℕ → PhpType
  prefix_type base steps n = type_here (e.Path (record { start = 0; end = 0; site = 0 }) base (take n steps))

  abbrev pub step_asks : ℕ → Option PhpType → Expr × List Step → ℕ → List ℕ → List Step → List Ask
  step_asks place last path n cells [] = option_map_or (λ type. asks place 2 n type cells) last []
  step_asks place last path n cells (step ∷ steps) =
      (if is_index step then asks place 2 n arr cells else [])
      ++ step_asks place last path (suc n) (step_cells (prefix_type path.0 path.1 n) step) steps

  abbrev pub path_asks : ℕ → Option PhpType → Expr × List Step → List Ask
  path_asks place last path = step_asks place last path 0 (base_cells path.0) path.1

  -- ---- items of expressions

  -- the value that an assignment writes
  abbrev pub written_type : Assignment → Expr → Expr → PhpType
  written_type a.Coalesce x y = type_here y
  written_type op x y = option_map_or (λ o. operator_type tree o (type_here x) (type_here y)) (operator_of op) (type_here y)

  abbrev pub item_1 : Layer Ask → List Ask
  item_1 (Expr-F.Assign at op x y) = option_map_or (λ name. asks at.start 1 0 (written_type op x.0 y.0) (variable_cell t s name)) (variable_name x.0) []
  item_1 (Expr-F.Update at form x) = option_map_or (λ name. asks at.start 1 0 (moved form (type_here x.0)) (variable_cell t s name)) (variable_name x.0) []
  item_1 _ = []

  abbrev pub unless_variable : Expr → List Ask → List Ask
  unless_variable x found = option_map_or (λ name. []) (variable_name x) found

  abbrev pub item_2 : Layer Ask → List Ask
  item_2 (Expr-F.Assign at op x y) = unless_variable x.0 (path_asks at.start (Some (written_type op x.0 y.0)) (parts_of_path x.0))
  item_2 (Expr-F.Update at form x) = unless_variable x.0 (path_asks at.start (Some (moved form (type_here x.0))) (parts_of_path x.0))
  item_2 (Expr-F.Call at name xs) = flat_map (λ x. path_asks (start_of x) (Some arr) (parts_of_path x)) (changed_path name xs)
  item_2 _ = []

  abbrev pub bound : Expr → List Ask
  bound x = option_map_or (λ name. asks (start_of x) 4 0 top (variable_cell t s name)) (variable_name x) []

  -- arguments with their positions, for the parameters that some declarations have there
  abbrev pub referring : (ℕ → Bool) → ℕ → List Expr → List Ask
  referring takes position [] = []
  referring takes position (x ∷ xs) = (if takes position then bound x else []) ++ referring takes (suc position) xs

  abbrev pub parameter_at : ℕ → ℕ → List ℕ
  parameter_at position scope = option_map_or (λ c. c ∷ []) (slice_get (parameter_cells t scope) position) []

  abbrev pub passing : List ℕ → ℕ → List Expr → List Ask
  passing scopes position [] = []
  passing scopes position (x ∷ xs) =
      asks (start_of x) 6 0 (type_here x) (flat_map (parameter_at position) scopes) ++ passing scopes (suc position) xs

  abbrev pub item_4 : Layer Ask → List Ask
  item_4 (Expr-F.AssignReference at x y ampersand) = bound x.0 ++ bound y.0
  item_4 (Expr-F.Call at name xs) = referring (takes_in t (functions_named t.declarations name)) 0 (plain_parts xs)
  item_4 (Expr-F.StaticCall at class name xs) = referring (takes_in t (methods_named t.declarations (member_name name.0))) 0 (plain_parts xs)
  item_4 (Expr-F.MethodCall at x name xs) = referring (takes_in t (methods_named t.declarations (member_name name.0))) 0 (plain_parts xs)
  item_4 (Expr-F.New at class xs) = referring (takes_in t (methods_named t.declarations (codes "__construct"))) 0 (plain_parts xs)
  item_4 _ = []

  abbrev pub item_6 : Layer Ask → List Ask
  item_6 (Expr-F.Call at name xs) = passing (functions_named t.declarations name) 0 (plain_parts xs)
  item_6 (Expr-F.StaticCall at class name xs) = passing (methods_named t.declarations (member_name name.0)) 0 (plain_parts xs)
  item_6 (Expr-F.MethodCall at x name xs) = passing (method_candidates t (type_here x.0).obj (member_name name.0)) 0 (plain_parts xs)
  item_6 (Expr-F.New at class xs) =
      passing (method_candidates t (type_here (e.New at class.0 [])).obj (codes "__construct")) 0 (plain_parts xs)
  item_6 _ = []

  abbrev pub expression_asks : Expr → List Ask
  expression_asks = collected (λ x. item_1 x ++ (item_2 x ++ (item_4 x ++ item_6 x)))

  -- ---- items of statements

  abbrev pub unset_asks : Expr → List Ask
  unset_asks x =
      option_map_or (λ name. asks (start_of x) 3 0 null (variable_cell t s name)) (variable_name x) (path_asks (start_of x) None (parts_of_path x))

  abbrev pub identifier_bound : Identifier → List Ask
  identifier_bound i = asks i.start 4 0 top (variable_cell t s i.spelled)

  abbrev pub set_by_foreach : ℕ → PhpType → Identifier → List Ask
  set_by_foreach place type i = asks place 5 0 type (variable_cell t s i.spelled)

  abbrev pub set_target : ℕ → ForeachTarget → List Ask
  set_target place (target.Variable name) = set_by_foreach place top name
  set_target place _ = []

  abbrev pub statement_items : StatementLayer Ask → List Ask
  statement_items (Statement-F.Unset at paths) = flat_map unset_asks paths
  statement_items (Statement-F.Foreach at x key value body) =
      set_target at.start value ++ option_map_or (set_by_foreach at.start (of_kinds (k.Int ∷ k.Str ∷ []))) key []
  statement_items (Statement-F.Global at names) = flat_map identifier_bound names
  statement_items (Statement-F.Static at variables) = flat_map (λ (v : StaticVariable). identifier_bound v.name) variables
  statement_items (Statement-F.Return at value) = asks at.start 7 0 (option_map_or type_here value null) (result_cell t s)
  statement_items _ = []

  abbrev pub statement_asks : Statement → List Ask
  statement_asks = collected_statement expression_asks statement_items

  -- ---- items of scopes

  abbrev pub in_file : {A : Type 0} → ℕ → List (ℕ × A) → List A
  in_file file xs = map (λ x. x.1) (filter (λ x. x.0 == file) xs)

  -- reads of variables that aren't definitely assigned
  abbrev pub read_asks : ℕ → List Ask
  read_asks file = flat_map (λ (r : Appearance). asks r.place 3 0 null (variable_cell t s r.name)) (in_file file (unsure_reads t s))

  -- variables of scope 0, at their first appearance
  abbrev pub main_asks : ℕ → List Ask
  main_asks file =
      if s == 0 then flat_map (λ (r : Appearance). asks r.place 4 0 top (variable_cell t s r.name)) (in_file file (variables_of t.program t.declarations s))
      else []

  abbrev pub parameter_asks : Param → List Ask
  parameter_asks x =
      (if x.by_reference then asks x.name.start 4 0 top (variable_cell t s x.name.spelled) else [])
      ++ option_map_or (λ d. asks (start_of d) 6 0 (type_here d) (variable_cell t s x.name.spelled)) x.default []

  -- the end of a body that isn't cut off, at its closing brace
  abbrev pub end_asks : Function → List Ask
  end_asks f = if is_cut_off t s then [] else asks ((out-Function f).at.end - 1) 7 0 null (result_cell t s)

  abbrev pub head_asks : Function → List Ask
  head_asks f = flat_map parameter_asks (out-Function f).params ++ end_asks f

  abbrev pub property_items : Class → List PropertyItem
  property_items c = flat_map (λ m. items_at (out-Member m)) (out-Class c).members
    where
      items_at : Member-F Member Statement Class Function Case ElseIf → List PropertyItem
      items_at (Member-F.Properties at mods ty items) = items
      items_at _ = []

  abbrev pub property_asks : ℕ × PropertyItem → List Ask
  property_asks (n, i) = asks i.name.start 8 0 (option_map_or type_here i.value null) (option_map_or (λ c. c ∷ []) (slice_get (own_cells t s) n) [])

  abbrev pub declaration_asks : Declaration → List Ask
  declaration_asks (a_class c) = flat_map property_asks (numbered_from 0 (property_items c))
  declaration_asks d = option_map_or head_asks (code_of d) []

  abbrev pub class_bodies : List (ℕ × List Statement)
  class_bodies = option_map_or (λ d. (d.0, []) ∷ []) (declared t.declarations s) []

  -- the bodies of a scope; a class has none, but asks in its file
  abbrev pub places : List (ℕ × List Statement)
  places = or_else (bodies t.program t.declarations s)
    where
      or_else : List (ℕ × List Statement) → List (ℕ × List Statement)
      or_else [] = class_bodies
      or_else bs = bs

  abbrev pub body_asks : ℕ × List Statement → List Ask
  body_asks (file, ss) =
      option_map_or (λ d. declaration_asks d.1) (declared t.declarations s) []
      ++ (main_asks file ++ (read_asks file ++ flat_map statement_asks ss))

  -- in order of file and place, at one place in order of the items, then of cells, then of the path's steps
  abbrev pub all_asks : List Ask
  all_asks = flat_map (λ b. ordered (λ (x : Ask). x.place ∷ x.item ∷ x.cell ∷ x.step ∷ []) (body_asks b)) places

  unfoldable pub contrib : List (ℕ × PhpType)
  contrib = map (λ (x : Ask). (x.cell, x.type)) all_asks
