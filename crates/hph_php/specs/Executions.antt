-- The meaning of each statement of a tree, and how functions and classes are declared (PHP manual, User-defined functions, The
-- Basics of classes). A declaration whose name exists is a fatal error, and so is a parent that isn't declared.
use Rattle.std.specs.Prelude.{ℕ, ◌||◌, Bool, List, [], ◌∷◌, map, is_some, Option, None, Some, Result, Ok, Err, position, slice_get, if◌then◌else◌}
use Rattle.std.specs.Option.{option_map, option_map_or, unwrap_or}
use Rattle.hph_ast.specs.declared.token.Identifier.{Identifier}
use Rattle.hph_ast.specs.declared.expr.Expr.{Expr}
use Rattle.hph_ast.specs.declared.class.ConstantItem.{ConstantItem}
use Rattle.hph_ast.specs.declared.class.Class.{out-Class}
use Rattle.hph_ast.specs.declared.class.Member.TheOpen.{Member-F, Statement-F, Class-F, Function-F, Case-F, ElseIf-F}
use Rattle.hph_ast.specs.declared.class.Member.TheFolds.{fold-Statement}
use Rattle.hph_ast.specs.declared.stmt.Statement.{Statement}
use Rattle.hph_ast.specs.declared.stmt.StaticVariable.{StaticVariable}
use Rattle.hph_ast.specs.declared.stmt.ForeachTarget.{ForeachTarget}
use Rattle.hph_ast.specs.declared.stmt.ForeachTarget.TheVariants as target
use Rattle.hph_php.specs.declared.fatal.Fatal.{Fatal}
use Rattle.hph_php.specs.declared.fatal.Fatal.TheVariants.{Redeclare}
use Rattle.hph_php.specs.Values.{Value}
use Rattle.hph_php.specs.Conversions.{map_ok}
use Rattle.hph_php.specs.Codes.{builtin_named}
use Rattle.hph_php.specs.State.{Heap, Name, Site, is_site, folded, named, with_function, with_class, class_named}
use Rattle.hph_php.specs.Answers.{Means, bind, give, nothing, change, by_heap, change_heap, remake_heap, print, in_order}
use Rattle.hph_php.specs.Declarations.{Codes, PlacedClass, site_at, code_number, class_number, static_number, declared_class}
use Rattle.hph_php.specs.World.{World, Context}
use Rattle.hph_php.specs.Targets.{Reading}
use Rattle.hph_php.specs.Expressions.{reading, evaluate}
use Rattle.hph_php.specs.Classes.{class_in}
use Rattle.hph_php.specs.Operations.{echo}
use Rattle.hph_php.specs.Statements.{Way, Next, Breaks, Continues, goes_on, block, branches, truth, loop, loop_after, for_loop, dropped, foreach, Case, switch, global_variable, static_variable_with, unset_by, define_constant, return_with, level_of}

-- ---- declarations

abbrev pub is_function : Name → Heap → Bool
is_function name heap = is_some (builtin_named name) || is_some (named (folded name) heap.functions)

abbrev pub declare_in : Name → ℕ → Heap → Result Heap Fatal
declare_in name code heap = if is_function name heap then Err Redeclare else Ok (with_function name code heap)

abbrev pub declare_function : Name → ℕ → Means (Unit {0})
declare_function name code = remake_heap (declare_in name code)

-- the parent that a class names, if it names one, is declared
abbrev pub parent_for : Option Name → Heap → Result (Option ℕ) Fatal
parent_for None heap = Ok None
parent_for (Some name) heap = map_ok Some (class_in name heap)

-- the parent of a class that may be declared: the name is tested first, then the parent
abbrev pub begin_class : Name → Option Name → Heap → Result (Option ℕ) Fatal
begin_class name parent heap = if is_some (class_named name heap) then Err Redeclare else parent_for parent heap

abbrev pub parent_name : PlacedClass → Option Name
parent_name c = option_map (λ (i : Identifier). i.spelled) (out-Class c.class).parent

abbrev pub class_name : PlacedClass → Name
class_name c = (out-Class c.class).name.spelled

abbrev pub declare_class : Codes → ℕ → PlacedClass → Means (Unit {0})
declare_class program number c = bind (by_heap (begin_class (class_name c) (parent_name c))) (λ parent.
    change_heap (with_class (declared_class program number parent c)))

abbrev pub declare_class_at : Codes → Site → Means (Unit {0})
declare_class_at program site = option_map_or (declare_class program (class_number program.classes site))
    (option_map_or (slice_get program.classes) (position (λ (c : PlacedClass). is_site site c.site) program.classes) None) nothing

-- ---- nodes

abbrev pub names_of : List Identifier → List Name
names_of names = map (λ (i : Identifier). i.spelled) names

-- a target that is no variable is refused
abbrev pub target_name : ForeachTarget → Name
target_name (target.Variable name) = name.spelled
target_name (target.Reference x ampersand) = []
target_name (target.Destructure bracket items) = []

-- what a declaration means where it stands: that of a function, and that of a class
pub record Place : Type 0 where
  pub name : Name
  pub offset : ℕ

module _ (world : World) (context : Context) where
  abbrev pub function_statement : Place → Means (Unit {0})
  function_statement p = declare_function p.name (code_number context.program (site_at context.file p.offset))

  abbrev pub class_statement : ℕ → Means (Unit {0})
  class_statement offset = declare_class_at context.program (site_at context.file offset)

  abbrev pub values : List Expr → List (Means Value)
  values xs = map (evaluate world context) xs

  abbrev pub static_statement : StaticVariable → Means (Unit {0})
  static_statement v = static_variable_with (static_number context.program (site_at context.file v.name.start)) v.name.spelled
      (option_map (evaluate world context) v.value)

  abbrev pub unset_statement : Reading → Means (Unit {0})
  unset_statement x = unset_by context.class x.form x

  abbrev pub constant_statement : ConstantItem → Means (Unit {0})
  constant_statement i = define_constant i.name.spelled (evaluate world context i.value)

  -- members mean nothing where they stand; a class and a function are given by their places
  abbrev pub member_by : Member-F (Unit {0}) (Means Way) ℕ Place Case (Means Value × Means Way) → Unit {0}
  member_by m = tt

  abbrev pub class_by : Class-F (Unit {0}) (Means Way) ℕ Place Case (Means Value × Means Way) → ℕ
  class_by c = c.at.start

  abbrev pub function_by : Function-F (Unit {0}) (Means Way) ℕ Place Case (Means Value × Means Way) → Place
  function_by f = record { name = f.name.spelled; offset = f.at.start }

  abbrev pub case_by : Case-F (Unit {0}) (Means Way) ℕ Place Case (Means Value × Means Way) → Case
  case_by c = record { test = option_map (evaluate world context) c.test; body = block c.body }

  abbrev pub else_if_by : ElseIf-F (Unit {0}) (Means Way) ℕ Place Case (Means Value × Means Way) → Means Value × Means Way
  else_if_by b = (evaluate world context b.test, b.body)

  -- each is given what its parts mean
  abbrev pub statement_by : Statement-F (Unit {0}) (Means Way) ℕ Place Case (Means Value × Means Way) → Means Way
  statement_by (Statement-F.Empty at) = give Next
  statement_by (Statement-F.InlineText at bytes) = goes_on (print bytes)
  statement_by (Statement-F.Block at body) = block body
  statement_by (Statement-F.Expression at x) = goes_on (dropped (evaluate world context x))
  statement_by (Statement-F.Function f) = goes_on (function_statement f)
  statement_by (Statement-F.Class c) = goes_on (class_statement c)
  statement_by (Statement-F.If at x body more other) =
      branches ((evaluate world context x, body) ∷ more) (unwrap_or other (give Next))
  statement_by (Statement-F.While at x body) = loop (truth (evaluate world context x)) nothing body
  statement_by (Statement-F.DoWhile at body x) = loop_after (truth (evaluate world context x)) body
  statement_by (Statement-F.For at init test step body) = for_loop (values init) (values test) (values step) body
  statement_by (Statement-F.Foreach at x key value body) =
      foreach (evaluate world context x) (option_map (λ (i : Identifier). i.spelled) key) (target_name value) body
  statement_by (Statement-F.Switch at x cases) = switch (evaluate world context x) cases
  statement_by (Statement-F.Break at levels) = give (Breaks (level_of levels))
  statement_by (Statement-F.Continue at levels) = give (Continues (level_of levels))
  statement_by (Statement-F.Return at value) = return_with (option_map (evaluate world context) value)
  statement_by (Statement-F.Echo at xs) = goes_on (in_order (map echo (values xs)))
  statement_by (Statement-F.Global at names) = goes_on (change_all (names_of names))
    where
      change_all : List Name → Means (Unit {0})
      change_all names = in_order (map (λ name. change (global_variable context.in_function name)) names)
  statement_by (Statement-F.Static at variables) = goes_on (in_order (map static_statement variables))
  statement_by (Statement-F.Unset at paths) = goes_on (in_order (map (λ x. unset_statement (reading world context x)) paths))
  statement_by (Statement-F.Const at items) = goes_on (in_order (map constant_statement items))

  unfoldable pub execute : Statement → Means Way
  execute = fold-Statement (Unit {0}) (Means Way) ℕ Place Case (Means Value × Means Way)
      member_by statement_by class_by function_by case_by else_if_by

  -- several, one after the other
  abbrev pub execute_all : List Statement → Means Way
  execute_all ss = block (map execute ss)
