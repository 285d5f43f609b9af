-- Definite assignment: which variables are assigned wherever an expression or statement is evaluated, in the order of evaluation.
-- This project's own.
use Rattle.std.specs.Prelude.{◌==◌, ◌&&◌, ℕ, suc, Bool, true, false, List, [], ◌∷◌, ◌++◌, map, flat_map, Option, None, Some, is_some, codes, if◌then◌else◌}
use Rattle.std.specs.List.{filter, list_any, list_all}
use Rattle.std.specs.Option.{option_map_or}
use Rattle.hph_ast.specs.declared.token.Identifier.{Identifier}
use Rattle.hph_ast.specs.declared.expr.Expr.{Expr}
use Rattle.hph_ast.specs.declared.expr.ClassReference.TheOpen.{ClassReference-F, Expr-F, Item-F, MemberName-F, Step-F, StringPart-F}
use Rattle.hph_ast.specs.declared.expr.ClassReference.TheFolds.{fold-Expr}
use Rattle.hph_ast.specs.declared.operator.Binary.{Binary}
use Rattle.hph_ast.specs.declared.operator.Binary.TheVariants as b
use Rattle.hph_ast.specs.declared.operator.Prefix.{Prefix}
use Rattle.hph_ast.specs.declared.operator.Prefix.TheVariants as prefix
use Rattle.hph_ast.specs.declared.operator.Assignment.{Assignment}
use Rattle.hph_ast.specs.declared.operator.Assignment.TheVariants as a
use Rattle.hph_ast.specs.declared.class.ConstantItem.{ConstantItem}
use Rattle.hph_ast.specs.declared.function.Param.{Param}
use Rattle.hph_ast.specs.declared.class.Member.TheOpen.{Statement-F, Case-F, ElseIf-F}
use Rattle.hph_ast.specs.declared.class.Member.TheFolds.{fold-Statement}
use Rattle.hph_ast.specs.declared.stmt.Statement.{Statement}
use Rattle.hph_ast.specs.declared.stmt.StaticVariable.{StaticVariable}
use Rattle.hph_ast.specs.declared.stmt.ForeachTarget.{ForeachTarget}
use Rattle.hph_ast.specs.declared.stmt.ForeachTarget.TheVariants as target
use Rattle.hph_php.specs.State.{Name}
use Rattle.hph_php.specs.Declarations.{takes_reference_at}
use Rattle.hph_program.specs.Names.{changes_array}
use Rattle.hph_typing.specs.Scopes.{declared, params_of, functions_named, methods_named}
use Rattle.hph_typing.specs.Cells.{Table, Appearance, Cell, is_variable, bodies}
use Rattle.hph_typing.specs.Flows.{Assigned, has, without, Flowed, Flow, pass, changes, first, all, aside, all_aside, either_of, either, adds, takes_away, reads}

-- ---- expressions

-- What an expression does: as a value; as a path that is written, whose keys are evaluated but whose base variable isn't read;
-- the read of that variable; and the variable that it is, if it is one.
pub record Uses : Type 0 where
  pub value : Flow
  pub keys : Flow
  pub base : Flow
  pub variable : Option Name

abbrev pub valued : Flow → Uses
valued f = record { value = f; keys = f; base = pass; variable = None }

abbrev pub values : List Uses → List Flow
values xs = map (λ x. x.value) xs

abbrev pub is_dropped : Binary → Bool
is_dropped b.BooleanAnd = true
is_dropped b.BooleanOr = true
is_dropped b.LogicalAnd = true
is_dropped b.LogicalOr = true
is_dropped b.Coalesce = true
is_dropped _ = false

-- the right part of an operator
abbrev pub right : Binary → Flow → Flow
right op f = if is_dropped op then aside f else f

-- an assignment to a variable adds it
abbrev pub adds_target : Uses → Flow
adds_target x = option_map_or adds x.variable pass

-- `=` evaluates the keys and then the value; the others read the old value behind that, and `??=` before it
abbrev pub assigns : Assignment → Uses → Flow → Flow
assigns a.Set x value = first x.keys (first value (adds_target x))
assigns a.Coalesce x value = first x.keys (first x.base (first (aside value) (adds_target x)))
assigns _ x value = first x.keys (first value (first x.base (adds_target x)))

-- a variable that is bound by reference isn't read, and nothing is added
abbrev pub arguments : (ℕ → Bool) → ℕ → List Uses → Flow
arguments takes position [] = pass
arguments takes position (x ∷ xs) =
    first (if takes position && is_some x.variable then pass else x.value) (arguments takes (suc position) xs)

-- array_push and array_pop read their first argument's variable behind the others
abbrev pub changes_first : List Uses → Flow
changes_first [] = pass
changes_first (x ∷ xs) = first x.keys (first (all (values xs)) x.base)

-- what further paths of an isset add is dropped
abbrev pub tests : List Uses → Flow
tests [] = pass
tests (x ∷ xs) = first x.value (all_aside (values xs))

-- What a statement does, the variables that unsets in it take away, and whether it holds a continue.
pub record Does : Type 0 where
  pub flow : Flow
  pub unsets : List Name
  pub continues : Bool

abbrev pub simply : Flow → Does
simply f = record { flow = f; unsets = []; continues = false }

abbrev pub with_body : Flow → Does → Does
with_body f body = record body { flow = f }

abbrev pub in_all : Flow → List Does → Does
in_all f ds = record { flow = f; unsets = flat_map (λ (d : Does). d.unsets) ds; continues = list_any (λ (d : Does). d.continues) ds }

abbrev pub sequence : List Does → Does
sequence ds = in_all (all (map (λ (d : Does). d.flow) ds)) ds

-- ---- branches

-- An end takes the variables away that an unset in an unfinished branch does: one that ends in return, break, continue or exit,
-- and so has everything. Each end stands with the variables of the unsets in its branch.
abbrev pub gone_at : List Name × Flowed → List Name
gone_at (unsets, x) = if x.after.others then unsets else []

-- what all ends have, less that
abbrev pub ends_joined : List Name × Flowed → List Name × Flowed → List Name × Flowed
ends_joined x y = (gone_at x ++ y.0, either_of x.1 y.1)

abbrev pub less_gone : List Name × Flowed → Flowed
less_gone x = record x.1 { after = without x.0 x.1.after }

-- the last test goes before the branches behind it
abbrev pub ends_after : Flowed → List Name × Flowed → List Name × Flowed
ends_after x y = (y.0, record y.1 { unsure = x.unsure ++ y.1.unsure })

abbrev pub branch_ends : List (Flow × Does) → Does → Assigned → List Name × Flowed
branch_ends [] other s = first_end (other.flow s)
  where
    first_end : Flowed → List Name × Flowed
    first_end x = (gone_at (other.unsets, x), x)
branch_ends (x ∷ more) other s = tested (x.0 s) (λ r. ends_joined (x.1.unsets, x.1.flow r) (branch_ends more other r))
  where
    tested : Flowed → (Assigned → List Name × Flowed) → List Name × Flowed
    tested test rest = ends_after test (rest test.after)

abbrev pub branches : List (Flow × Does) → Does → Flow
branches bs other s = less_gone (branch_ends bs other s)

-- ---- loops: after a loop the set is that of its first test, less what an unset in the loop takes away

-- the step of a `for` and the test of a `do` begin with the end of the body, if it holds no continue
abbrev pub turn : Does → Flow → Flow
turn body last = if body.continues then first (aside body.flow) (aside last) else aside (first body.flow last)

abbrev pub loop : Flow → Does → Flow → Flow
loop test body last = first test (first (takes_away body.unsets) (turn body last))

-- a case test and its body each begin with the set after the subject
abbrev pub cases : List (Flow × Does) → Flow
cases cs = all (map (λ c. first (aside c.0) (aside c.1.flow)) cs)

-- whether some of these declarations takes the argument at a position by reference
abbrev pub takes_in : Table → List ℕ → ℕ → Bool
takes_in t scopes position =
    list_any (λ s. option_map_or (λ d. takes_reference_at position (params_of d.1)) (declared t.declarations s) false) scopes

module _ (t : Table) (everything : Assigned) where
  abbrev pub exits : Flow
  exits = changes (λ s. everything)

  abbrev pub calls_function : Name → List Uses → Flow
  calls_function name xs =
      if changes_array name then changes_first xs else arguments (takes_in t (functions_named t.declarations name)) 0 xs

  abbrev pub calls_method : Name → List Uses → Flow
  calls_method name xs = arguments (takes_in t (methods_named t.declarations name)) 0 xs

  abbrev pub prefixes : Prefix → Uses → Flow
  prefixes (prefix.Include form) x = pass
  prefixes op x = x.value

  -- each is given its parts
  abbrev pub class_by : ClassReference-F (Unit {0}) Uses Flow Name Flow Flow → Unit {0}
  class_by c = tt

  abbrev pub item_by : Item-F (Unit {0}) Uses Flow Name Flow Flow → Flow
  item_by (Item-F.Plain at x) = x.value
  item_by (Item-F.Keyed at x y) = first x.value y.value
  item_by _ = pass

  abbrev pub member_by : MemberName-F (Unit {0}) Uses Flow Name Flow Flow → Name
  member_by (MemberName-F.Named name) = name
  member_by (MemberName-F.Computed x) = []

  abbrev pub step_by : Step-F (Unit {0}) Uses Flow Name Flow Flow → Flow
  step_by (Step-F.Index at x) = x.value
  step_by _ = pass

  abbrev pub part_by : StringPart-F (Unit {0}) Uses Flow Name Flow Flow → Flow
  part_by (StringPart-F.Piece at bytes) = pass
  part_by (StringPart-F.Interpolation x) = x.value

  abbrev pub uses_by : Expr-F (Unit {0}) Uses Flow Name Flow Flow → Uses
  uses_by (Expr-F.Interpolated at parts) = valued (all parts)
  uses_by (Expr-F.Variable at name) =
      record { value = reads at.start name; keys = pass; base = reads at.start name; variable = Some name }
  uses_by (Expr-F.Array at form items) = valued (all items)
  uses_by (Expr-F.Call at name xs) = valued (calls_function name xs)
  uses_by (Expr-F.StaticCall at class name xs) = valued (calls_method name xs)
  uses_by (Expr-F.MethodCall at x name xs) = valued (first x.value (calls_method name xs))
  uses_by (Expr-F.New at class xs) = valued (calls_method (codes "__construct") xs)
  uses_by (Expr-F.Paren at x) = valued x.value
  uses_by (Expr-F.Isset at xs) = valued (tests xs)
  uses_by (Expr-F.Empty at x) = valued x.value
  uses_by (Expr-F.Exit at) = valued exits
  uses_by (Expr-F.ExitWith at x) = valued (first x.value exits)
  uses_by (Expr-F.Path at x steps) =
      record { value = first x.keys (first (all steps) x.base); keys = first x.keys (all steps); base = x.base; variable = None }
  uses_by (Expr-F.Update at form x) = valued x.value
  uses_by (Expr-F.Prefix at op x) = valued (prefixes op x)
  uses_by (Expr-F.InstanceOf at x classes) = valued x.value
  uses_by (Expr-F.Run at x more) = valued (first x.value (all (map (λ o. right o.0 o.1.value) more)))
  uses_by (Expr-F.Pair at op x y) = valued (first x.value (right op y.value))
  uses_by (Expr-F.Ternary at x y z) = valued (first x.value (either y.value z.value))
  uses_by (Expr-F.ShortTernary at x more) = valued (first x.value (all (map (λ y. either pass y.value) more)))
  uses_by (Expr-F.Assign at op x y) = valued (assigns op x y.value)
  uses_by (Expr-F.AssignReference at x y ampersand) = valued (adds_target x)
  uses_by _ = valued pass

  unfoldable pub uses : Expr → Uses
  uses = fold-Expr (Unit {0}) Uses Flow Name Flow Flow class_by uses_by item_by member_by step_by part_by

  abbrev pub value_flow : Expr → Flow
  value_flow x = (uses x).value

  abbrev pub value_flows : List Expr → Flow
  value_flows xs = all (map value_flow xs)

  abbrev pub maybe_flow : Option Expr → Flow
  maybe_flow x = option_map_or value_flow x pass

  -- ---- statements

  abbrev pub target_names : ForeachTarget → List Name
  target_names (target.Variable name) = name.spelled ∷ []
  target_names _ = []

  abbrev pub case_by : Case-F (Unit {0}) Does (Unit {0}) (Unit {0}) (Flow × Does) (Flow × Does) → Flow × Does
  case_by c = (maybe_flow c.test, sequence c.body)

  abbrev pub else_if_by : ElseIf-F (Unit {0}) Does (Unit {0}) (Unit {0}) (Flow × Does) (Flow × Does) → Flow × Does
  else_if_by b = (value_flow b.test, b.body)

  abbrev pub choice : List (Flow × Does) → Option Does → Does
  choice bs other = in_all (branches bs (option_map_or (λ d. d) other (simply pass))) (map (λ b. b.1) bs ++ option_map_or (λ d. d ∷ []) other [])

  -- foreach's own variables are assigned inside its body
  abbrev pub with_names : List Name → Does → Does
  with_names names body = record body { flow = first (all (map adds names)) body.flow }

  abbrev pub static_flow : StaticVariable → Flow
  static_flow v = first (maybe_flow v.value) (adds v.name.spelled)

  -- the variable that is unset
  abbrev pub unset_name : Expr → List Name
  unset_name x = option_map_or (λ name. name ∷ []) (uses x).variable []

  abbrev pub unset_flow : Expr → Flow
  unset_flow x = first (uses x).keys (takes_away (unset_name x))

  abbrev pub statement_by : Statement-F (Unit {0}) Does (Unit {0}) (Unit {0}) (Flow × Does) (Flow × Does) → Does
  statement_by (Statement-F.Block at body) = sequence body
  statement_by (Statement-F.Expression at x) = simply (value_flow x)
  statement_by (Statement-F.If at x body more other) = choice ((value_flow x, body) ∷ more) other
  statement_by (Statement-F.While at x body) = with_body (loop (value_flow x) body pass) body
  statement_by (Statement-F.DoWhile at body x) = with_body (loop pass body (value_flow x)) body
  statement_by (Statement-F.For at init test step body) = with_body (loop (first (value_flows init) (value_flows test)) body (value_flows step)) body
  statement_by (Statement-F.Foreach at x key value body) =
      with_body (loop (value_flow x) (with_names (target_names value ++ option_map_or (λ k. k.spelled ∷ []) key []) body) pass) body
  statement_by (Statement-F.Switch at x cs) =
      in_all (first (value_flow x) (first (cases cs) (takes_away (flat_map (λ c. c.1.unsets) cs)))) (map (λ c. c.1) cs)
  statement_by (Statement-F.Break at levels) = simply exits
  statement_by (Statement-F.Continue at levels) = record { flow = exits; unsets = []; continues = true }
  statement_by (Statement-F.Return at value) = simply (first (maybe_flow value) exits)
  statement_by (Statement-F.Echo at xs) = simply (value_flows xs)
  statement_by (Statement-F.Global at names) = simply (all (map (λ (i : Identifier). adds i.spelled) names))
  statement_by (Statement-F.Static at variables) = simply (all (map static_flow variables))
  statement_by (Statement-F.Unset at paths) =
      record { flow = all (map unset_flow paths); unsets = flat_map unset_name paths; continues = false }
  statement_by (Statement-F.Const at items) = simply (value_flows (map (λ (i : ConstantItem). i.value) items))
  statement_by _ = simply pass

  abbrev pub does : Statement → Does
  does = fold-Statement (Unit {0}) Does (Unit {0}) (Unit {0}) (Flow × Does) (Flow × Does)
      (λ m. tt) statement_by (λ c. tt) (λ f. tt) case_by else_if_by

  abbrev pub body_flow : List Statement → Flow
  body_flow ss = (sequence (map does ss)).flow

-- ---- scopes

abbrev pub scope_variables : Table → ℕ → List Name
scope_variables t s = map (λ (c : Cell). c.name) (filter (λ (c : Cell). (c.owner == s) && is_variable c.sort) t.cells)

-- all variables of a scope, and all others
abbrev pub everything_in : Table → ℕ → Assigned
everything_in t s = record { names = scope_variables t s; others = true }

-- it starts with the parameters, in each file of scope 0 with none
abbrev pub at_start : Table → ℕ → Assigned
at_start t s = record {
  names = option_map_or (λ d. map (λ (x : Param). x.name.spelled) (params_of d.1)) (declared t.declarations s) [];
  others = false;
}

-- what each body of a scope does, with the number of its file
unfoldable pub flowed : Table → ℕ → List (ℕ × Flowed)
flowed t s = map (λ b. (b.0, body_flow t (everything_in t s) b.1 (at_start t s))) (bodies t.program t.declarations s)

-- the reads of variables that aren't definitely assigned
abbrev pub unsure_reads : Table → ℕ → List (ℕ × Appearance)
unsure_reads t s = flat_map (λ f. map (λ a. (f.0, a)) f.1.unsure) (flowed t s)

-- the end of a body is cut off where everything is assigned
abbrev pub is_cut_off : Table → ℕ → Bool
is_cut_off t s = list_all (λ f. f.1.after.others && list_all (λ n. has n f.1.after.names) (scope_variables t s)) (flowed t s)
