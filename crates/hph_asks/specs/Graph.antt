-- Which cells a scope reads and which it may ask, over every typing: a member access or a `new` counts for all declarations of its
-- member name. This project's own.
use Rattle.std.specs.Prelude.{◌==◌, ◌&&◌, ℕ, Bool, true, false, List, [], ◌∷◌, ◌++◌, map, flat_map, length, take, Option, None, Some, codes, if◌then◌else◌}
use Rattle.std.specs.List.{filter, list_any}
use Rattle.std.specs.Option.{option_map_or}
use Rattle.hph_ast.specs.declared.expr.Expr.{Expr}
use Rattle.hph_ast.specs.declared.expr.ClassReference.TheOpen.{ClassReference-F, Expr-F, Item-F, MemberName-F, Step-F, StringPart-F}
use Rattle.hph_ast.specs.declared.expr.ClassReference.TheFolds.{fold-Expr}
use Rattle.hph_ast.specs.declared.operator.Assignment.{Assignment}
use Rattle.hph_ast.specs.declared.operator.Assignment.TheVariants as a
use Rattle.hph_ast.specs.declared.class.ConstantItem.{ConstantItem}
use Rattle.hph_ast.specs.declared.class.Member.TheOpen.{Statement-F, Case-F, ElseIf-F}
use Rattle.hph_ast.specs.declared.class.Member.TheFolds.{fold-Statement}
use Rattle.hph_ast.specs.declared.stmt.Statement.{Statement}
use Rattle.hph_ast.specs.declared.stmt.StaticVariable.{StaticVariable}
use Rattle.hph_php.specs.State.{Name}
use Rattle.hph_php.specs.Declarations.{numbered_from}
use Rattle.hph_program.specs.Names.{changes_array}
use Rattle.hph_typing.specs.Scopes.{functions_named, methods_named}
use Rattle.hph_typing.specs.Cells.{Table, bodies, variable_cell, result_cell, parameter_cells, own_cells, properties_named, owner_of}

-- cells that are read, and cells of others that may be asked
pub record Touched : Type 0 where
  pub reads : List ℕ
  pub asks : List ℕ

abbrev pub untouched : Touched
untouched = record { reads = []; asks = [] }

abbrev pub reading : List ℕ → Touched
reading cells = record { reads = cells; asks = [] }

abbrev pub asking : List ℕ → Touched
asking cells = record { reads = []; asks = cells }

abbrev pub together : Touched → Touched → Touched
together x y = record { reads = x.reads ++ y.reads; asks = x.asks ++ y.asks }

abbrev pub all : List Touched → Touched
all [] = untouched
all (x ∷ xs) = together x (all xs)

-- What an expression touches as a value and as a path that is written, and what it has read by all its steps but those from its
-- last property on, if it has one.
pub record Uses : Type 0 where
  pub value : Touched
  pub written : Touched

-- a base that is neither a variable nor a static property is read
abbrev pub valued : Touched → Uses
valued x = record { value = x; written = x }

-- What a step touches: where it is read, and where it is written; and whether it is a property.
pub record Stepped : Type 0 where
  pub value : Touched
  pub written : Touched
  pub is_property : Bool

abbrev pub values : List Uses → List Touched
values xs = map (λ x. x.value) xs

-- the steps before the last property, None where there is none
abbrev pub before_last_property : List Stepped → Option (List Stepped)
before_last_property [] = None
before_last_property (x ∷ xs) = option_map_or (λ more. Some (x ∷ more)) (before_last_property xs) (if x.is_property then Some [] else None)

-- a written path reads what chooses its properties, and its keys
abbrev pub written_path : Uses → List Stepped → Touched
written_path x steps = together x.written (together (all (map (λ (y : Stepped). y.written) steps))
    (option_map_or (λ front. together x.value (all (map (λ (y : Stepped). y.value) front))) (before_last_property steps) untouched))

abbrev pub assigned : Assignment → Uses → Touched → Touched
assigned a.Set x value = together x.written value
assigned _ x value = together x.written (together x.value value)

module _ (t : Table) (s : ℕ) where
  abbrev pub parameters_at : ℕ → List ℕ → List ℕ
  parameters_at count scopes = flat_map (λ c. take count (parameter_cells t c)) scopes

  -- the arguments, the parameters at their places, and the results
  abbrev pub calls : List ℕ → List Uses → Touched
  calls scopes xs =
      together (all (values xs)) (record { reads = flat_map (result_cell t) scopes; asks = parameters_at (length xs) scopes })

  -- array_push and array_pop don't read what they change
  abbrev pub changes_first : List Uses → Touched
  changes_first [] = untouched
  changes_first (x ∷ xs) = x.written

  abbrev pub calls_function : Name → List Uses → Touched
  calls_function name xs =
      if changes_array name && is_empty (functions_named t.declarations name)
      then together (changes_first xs) (calls [] (rest xs)) else calls_others name xs
    where
      is_empty : List ℕ → Bool
      is_empty [] = true
      is_empty _ = false

      rest : List Uses → List Uses
      rest [] = []
      rest (x ∷ more) = more

      calls_others : Name → List Uses → Touched
      calls_others name xs =
          together (if changes_array name then changes_first xs else untouched) (calls (functions_named t.declarations name) xs)

  abbrev pub news : List Uses → Touched
  news xs = together (all (values xs)) (asking (parameters_at (length xs) (methods_named t.declarations (codes "__construct"))))

  abbrev pub class_by : ClassReference-F (Unit {0}) Uses Touched Name Stepped Touched → Unit {0}
  class_by c = tt

  abbrev pub item_by : Item-F (Unit {0}) Uses Touched Name Stepped Touched → Touched
  item_by (Item-F.Plain at x) = x.value
  item_by (Item-F.Keyed at x y) = together x.value y.value
  item_by _ = untouched

  abbrev pub member_by : MemberName-F (Unit {0}) Uses Touched Name Stepped Touched → Name
  member_by (MemberName-F.Named name) = name
  member_by (MemberName-F.Computed x) = []

  abbrev pub step_by : Step-F (Unit {0}) Uses Touched Name Stepped Touched → Stepped
  step_by (Step-F.Index at key) = record { value = key.value; written = key.value; is_property = false }
  step_by (Step-F.Append at) = record { value = untouched; written = untouched; is_property = false }
  step_by (Step-F.Property at name) = record {
    value = reading (properties_named t name);
    written = asking (properties_named t name);
    is_property = true;
  }

  abbrev pub part_by : StringPart-F (Unit {0}) Uses Touched Name Stepped Touched → Touched
  part_by (StringPart-F.Piece at bytes) = untouched
  part_by (StringPart-F.Interpolation x) = x.value

  abbrev pub uses_by : Expr-F (Unit {0}) Uses Touched Name Stepped Touched → Uses
  uses_by (Expr-F.Interpolated at parts) = valued (all parts)
  uses_by (Expr-F.Variable at name) = record { value = reading (variable_cell t s name); written = untouched }
  uses_by (Expr-F.StaticProperty at class name) =
      record { value = reading (properties_named t name); written = asking (properties_named t name) }
  uses_by (Expr-F.Array at form items) = valued (all items)
  uses_by (Expr-F.Call at name xs) = valued (calls_function name xs)
  uses_by (Expr-F.StaticCall at class name xs) = valued (calls (methods_named t.declarations name) xs)
  uses_by (Expr-F.MethodCall at x name xs) = valued (together x.value (calls (methods_named t.declarations name) xs))
  uses_by (Expr-F.New at class xs) = valued (news xs)
  uses_by (Expr-F.Paren at x) = valued x.value
  uses_by (Expr-F.Isset at xs) = valued (all (values xs))
  uses_by (Expr-F.Empty at x) = valued x.value
  uses_by (Expr-F.ExitWith at x) = valued x.value
  uses_by (Expr-F.Path at x steps) =
      record { value = together x.value (all (map (λ (y : Stepped). y.value) steps)); written = written_path x steps }
  uses_by (Expr-F.Update at form x) = valued (together x.written x.value)
  uses_by (Expr-F.Prefix at op x) = valued x.value
  uses_by (Expr-F.InstanceOf at x classes) = valued x.value
  uses_by (Expr-F.Run at x more) = valued (together x.value (all (map (λ o. o.1.value) more)))
  uses_by (Expr-F.Pair at op x y) = valued (together x.value y.value)
  uses_by (Expr-F.Ternary at x y z) = valued (together x.value (together y.value z.value))
  uses_by (Expr-F.ShortTernary at x more) = valued (together x.value (all (values more)))
  uses_by (Expr-F.Assign at op x y) = valued (assigned op x y.value)
  uses_by (Expr-F.AssignReference at x y ampersand) = valued y.value
  uses_by _ = valued untouched

  unfoldable pub uses : Expr → Uses
  uses = fold-Expr (Unit {0}) Uses Touched Name Stepped Touched class_by uses_by item_by member_by step_by part_by

  abbrev pub touched : Expr → Touched
  touched x = (uses x).value

  abbrev pub each : List Expr → Touched
  each xs = all (map touched xs)

  abbrev pub maybe : Option Expr → Touched
  maybe x = option_map_or touched x untouched

  -- ---- statements

  abbrev pub case_by : Case-F (Unit {0}) Touched (Unit {0}) (Unit {0}) Touched Touched → Touched
  case_by c = together (maybe c.test) (all c.body)

  abbrev pub else_if_by : ElseIf-F (Unit {0}) Touched (Unit {0}) (Unit {0}) Touched Touched → Touched
  else_if_by b = together (touched b.test) b.body

  abbrev pub statement_by : Statement-F (Unit {0}) Touched (Unit {0}) (Unit {0}) Touched Touched → Touched
  statement_by (Statement-F.Block at body) = all body
  statement_by (Statement-F.Expression at x) = touched x
  statement_by (Statement-F.If at x body more other) =
      together (touched x) (together body (together (all more) (option_map_or (λ y. y) other untouched)))
  statement_by (Statement-F.While at x body) = together (touched x) body
  statement_by (Statement-F.DoWhile at body x) = together body (touched x)
  statement_by (Statement-F.For at init test step body) = together (each init) (together (each test) (together (each step) body))
  statement_by (Statement-F.Foreach at x key value body) = together (touched x) body
  statement_by (Statement-F.Switch at x cs) = together (touched x) (all cs)
  statement_by (Statement-F.Return at value) = maybe value
  statement_by (Statement-F.Echo at xs) = each xs
  statement_by (Statement-F.Static at variables) = all (map (λ (v : StaticVariable). maybe v.value) variables)
  statement_by (Statement-F.Unset at paths) = all (map (λ x. (uses x).written) paths)
  statement_by (Statement-F.Const at items) = each (map (λ (i : ConstantItem). i.value) items)
  statement_by _ = untouched

  abbrev pub statement_touched : Statement → Touched
  statement_touched = fold-Statement (Unit {0}) Touched (Unit {0}) (Unit {0}) Touched Touched
      (λ m. tt) statement_by (λ c. tt) (λ f. tt) case_by else_if_by

  -- what a scope touches; it may ask its own cells
  unfoldable pub scope_touched : Touched
  scope_touched = together (asking (own_cells t s)) (all (map statement_touched (flat_map (λ b. b.1) (bodies t.program t.declarations s))))

-- ---- the system

abbrev pub scope_numbers : Table → List ℕ
scope_numbers t = 0 ∷ map (λ d. d.0) (numbered_from 1 t.declarations)

abbrev pub is_among : ℕ → List ℕ → Bool
is_among n ns = list_any (λ m. m == n) ns

-- the scopes in which some expression or ask reads a cell
abbrev pub readers : Table → ℕ → List ℕ
readers t c = filter (λ s. is_among c (scope_touched t s).reads) (scope_numbers t)

-- a scope, and the owners of all cells that it reads or may ask, in ascending order
abbrev pub look : Table → ℕ → List ℕ
look t s = seen (s ∷ map (owner_of t) ((scope_touched t s).reads ++ (scope_touched t s).asks))
  where
    seen : List ℕ → List ℕ
    seen owners = filter (λ r. is_among r owners) (scope_numbers t)
