-- Cells: what has a type. They are numbered by scope. A function or method has its parameters, its other variables in order of
-- first appearance, and its result; scope 0 its variables; a class its properties. This project's own.
use Rattle.std.specs.Prelude.{◌==◌, ◌&&◌, ℕ, zero, suc, Bool, true, false, List, [], ◌∷◌, ◌++◌, map, flat_map, None, Some, slice_get, bytes_eq, if◌then◌else◌}
use Rattle.std.specs.List.{filter_map, list_any}
use Rattle.std.specs.Option.{option_map_or}
use Rattle.hph_ast.specs.declared.token.Identifier.{Identifier}
use Rattle.hph_ast.specs.declared.expr.Expr.{Expr}
use Rattle.hph_ast.specs.declared.expr.ClassReference.TheOpen.{Expr-F}
use Rattle.hph_ast.specs.declared.function.Function.{Function, out-Function}
use Rattle.hph_ast.specs.declared.function.Param.{Param}
use Rattle.hph_ast.specs.declared.class.Class.{Class, out-Class}
use Rattle.hph_ast.specs.declared.class.Member.{Member, out-Member}
use Rattle.hph_ast.specs.declared.class.Member.TheOpen.{Member-F, Statement-F}
use Rattle.hph_ast.specs.declared.class.PropertyItem.{PropertyItem}
use Rattle.hph_ast.specs.declared.stmt.Statement.{Statement}
use Rattle.hph_ast.specs.declared.stmt.Case.{Case}
use Rattle.hph_ast.specs.declared.stmt.ElseIf.{ElseIf}
use Rattle.hph_ast.specs.declared.stmt.StaticVariable.{StaticVariable}
use Rattle.hph_ast.specs.declared.stmt.ForeachTarget.{ForeachTarget}
use Rattle.hph_ast.specs.declared.stmt.ForeachTarget.TheVariants as target
use Rattle.hph_ast.specs.declared.program.Program.{Program}
use Rattle.hph_ast.specs.RefusedExpressions.{is_this_name}
use Rattle.hph_php.specs.State.{Name}
use Rattle.hph_php.specs.Declarations.{a_function, a_class, a_method, a_static, numbered_from}
use Rattle.hph_php.specs.Run.{scopes}
use Rattle.hph_typing.specs.Scopes.{Placed, declared, params_of, code_of}
use Rattle.hph_typing.specs.Steady.{steady_scopes, steady_classes}
use Rattle.hph_typing.specs.Parts.{Layer, StatementLayer, collected, collected_statement, ordered}

pub data Sort : Type 0 where
  a_parameter : Sort
  a_variable : Sort
  a_result : Sort
  a_property : Sort
  a_static_property : Sort

pub record Cell : Type 0 where
  -- the scope that owns it
  pub owner : ℕ
  pub sort : Sort
  pub name : Name

-- ---- the bodies of a scope, with the numbers of their files: for scope 0 the statements of each file

abbrev pub bodies : Program → List Placed → ℕ → List (ℕ × List Statement)
bodies p ds zero = map (λ f. (f.0, f.1.tree.statements)) (numbered_from 0 p.files)
bodies p ds (suc s) = option_map_or (λ d. option_map_or (λ f. (d.0, (out-Function f).body) ∷ []) (code_of d.1) []) (slice_get ds s) []

-- ---- where variables appear

-- a variable with the place where it stands; `$this` is none
pub record Appearance : Type 0 where
  pub place : ℕ
  pub name : Name

abbrev pub appears : ℕ → Name → List Appearance
appears place name = if is_this_name name then [] else record { place = place; name = name } ∷ []

abbrev pub identifier_appears : Identifier → List Appearance
identifier_appears i = appears i.start i.spelled

abbrev pub target_appears : ForeachTarget → List Appearance
target_appears (target.Variable name) = identifier_appears name
target_appears _ = []

abbrev pub expression_variables : Expr → List Appearance
expression_variables = collected variable_at
  where
    variable_at : Layer Appearance → List Appearance
    variable_at (Expr-F.Variable at name) = appears at.start name
    variable_at _ = []

abbrev pub statement_variables : Statement → List Appearance
statement_variables = collected_statement expression_variables names_at
  where
    names_at : StatementLayer Appearance → List Appearance
    names_at (Statement-F.Foreach at x key value body) = option_map_or identifier_appears key [] ++ target_appears value
    names_at (Statement-F.Global at names) = flat_map identifier_appears names
    names_at (Statement-F.Static at variables) = flat_map (λ (v : StaticVariable). identifier_appears v.name) variables
    names_at _ = []

-- in order of text
abbrev pub appearances : List Statement → List Appearance
appearances ss = ordered (λ a. a.place ∷ []) (flat_map statement_variables ss)

-- those whose names aren't among some, each name at its first
abbrev pub first_appearances : List Name → List (ℕ × Appearance) → List (ℕ × Appearance)
first_appearances known [] = []
first_appearances known (a ∷ more) =
    if list_any (bytes_eq a.1.name) known then first_appearances known more else a ∷ first_appearances (a.1.name ∷ known) more

-- the first appearances of a scope's variables but its parameters, with the numbers of their files
abbrev pub variables_of : Program → List Placed → ℕ → List (ℕ × Appearance)
variables_of p ds s =
    first_appearances (map (λ (x : Param). x.name.spelled) (option_map_or (λ d. params_of d.1) (declared ds s) []))
    (flat_map (λ b. map (λ a. (b.0, a)) (appearances b.1)) (bodies p ds s))

-- ---- cells

abbrev pub cell : ℕ → Sort → Name → Cell
cell s sort name = record { owner = s; sort = sort; name = name }

abbrev pub property_cells : ℕ → Member → List Cell
property_cells s m = cells_at (out-Member m)
  where
    sort_of : Bool → Sort
    sort_of true = a_static_property
    sort_of false = a_property

    cells_at : Member-F Member Statement Class Function Case ElseIf → List Cell
    cells_at (Member-F.Properties at mods ty items) = map (λ (i : PropertyItem). cell s (sort_of mods.is_static) i.name.spelled) items
    cells_at _ = []

abbrev pub variable_cells : Program → List Placed → ℕ → List Cell
variable_cells p ds s = map (λ a. cell s a_variable a.1.name) (variables_of p ds s)

abbrev pub function_cells : Program → List Placed → ℕ → Function → List Cell
function_cells p ds s f =
    map (λ (x : Param). cell s a_parameter x.name.spelled) (out-Function f).params ++ (variable_cells p ds s ++ cell s a_result [] ∷ [])

abbrev pub declared_cells : Program → List Placed → ℕ × Placed → List Cell
declared_cells p ds (s, (file, a_function f)) = function_cells p ds s f
declared_cells p ds (s, (file, a_method class is_static f)) = function_cells p ds s f
declared_cells p ds (s, (file, a_class c)) = flat_map (property_cells s) (out-Class c).members
declared_cells p ds (s, (file, a_static offset)) = []

abbrev pub all_cells : Program → List Placed → List Cell
all_cells p ds = variable_cells p ds 0 ++ flat_map (declared_cells p ds) (numbered_from 1 ds)

-- ---- a program with its scopes and cells

pub record Table : Type 0 where
  pub program : Program
  pub declarations : List Placed
  -- steady functions and classes, and steady classes by their numbers
  pub steady : List ℕ
  pub classes : List ℕ
  pub cells : List Cell

unfoldable pub table_of : Program → Table
table_of p = record {
  program = p;
  declarations = scopes p;
  steady = steady_scopes (scopes p) p;
  classes = steady_classes (scopes p) p;
  cells = all_cells p (scopes p);
}

-- ---- cells by names

abbrev pub is_variable : Sort → Bool
is_variable a_parameter = true
is_variable a_variable = true
is_variable _ = false

abbrev pub is_property : Sort → Bool
is_property a_property = true
is_property a_static_property = true
is_property _ = false

abbrev pub is_result : Sort → Bool
is_result a_result = true
is_result _ = false

abbrev pub is_parameter : Sort → Bool
is_parameter a_parameter = true
is_parameter _ = false

abbrev pub cells_where : (Cell → Bool) → Table → List ℕ
cells_where test t = filter_map (λ c. if test c.1 then Some c.0 else None) (numbered_from 0 t.cells)

-- a variable of a scope, none for `$this`
abbrev pub variable_cell : Table → ℕ → Name → List ℕ
variable_cell t s name = cells_where (λ c. (c.owner == s) && (is_variable c.sort && bytes_eq name c.name)) t

abbrev pub result_cell : Table → ℕ → List ℕ
result_cell t s = cells_where (λ c. (c.owner == s) && is_result c.sort) t

abbrev pub parameter_cells : Table → ℕ → List ℕ
parameter_cells t s = cells_where (λ c. (c.owner == s) && is_parameter c.sort) t

abbrev pub own_cells : Table → ℕ → List ℕ
own_cells t s = cells_where (λ c. c.owner == s) t

-- the properties of a name, static ones among them
abbrev pub properties_named : Table → Name → List ℕ
properties_named t name = cells_where (λ c. is_property c.sort && bytes_eq name c.name) t

abbrev pub owner_of : Table → ℕ → ℕ
owner_of t c = option_map_or (λ (x : Cell). x.owner) (slice_get t.cells c) 0
