-- The code of statements, one clause a form, by the names that their meanings have. Between statements the frame's share of the
-- host's operand stack and the module's stack are empty. The code goes by the loops and switches around it. This project's own.
use Rattle.std.specs.Prelude.{ℕ, suc, ◌+◌, ◌++◌, Bool, true, false, List, [], ◌∷◌, map, length, Option, None, Some, slice_get, take, if◌then◌else◌}
use Rattle.std.specs.Option.{option_map, option_map_or, unwrap_or}
use Rattle.hph_wasm.specs.declared.instr.Instr.{Instr, Call, Br, BrIf, Eqz, Compare, LocalGet, LocalSet, Return}
use Rattle.hph_wasm.specs.declared.instr.Instr as instr
use Rattle.hph_wasm.specs.declared.instr.Instr.TheViews as view
use Rattle.hph_wasm.specs.declared.instr.Sign.TheVariants.{Unsigned}
use Rattle.hph_wasm.specs.declared.instr.Comparison.TheVariants.{Gt}
use Rattle.hph_wasm.specs.declared.types.ValType.TheVariants.{I32}
use Rattle.hph_ast.specs.declared.token.Identifier.{Identifier}
use Rattle.hph_ast.specs.declared.operator.IncludeForm.{IncludeForm}
use Rattle.hph_ast.specs.declared.operator.Prefix.TheVariants as prefix
use Rattle.hph_ast.specs.declared.expr.Expr.{Expr, out-Expr}
use Rattle.hph_ast.specs.declared.expr.ClassReference.TheOpen.{Expr-F}
use Rattle.hph_ast.specs.declared.class.Class.{out-Class}
use Rattle.hph_ast.specs.declared.class.ConstantItem.{ConstantItem}
use Rattle.hph_ast.specs.declared.class.Member.{Member}
use Rattle.hph_ast.specs.declared.class.Member.TheOpen.{Member-F, Statement-F, Class-F, Function-F, Case-F, ElseIf-F}
use Rattle.hph_ast.specs.declared.class.Member.TheFolds.{fold-Statement}
use Rattle.hph_ast.specs.declared.stmt.Statement.{Statement}
use Rattle.hph_ast.specs.declared.stmt.StaticVariable.{StaticVariable}
use Rattle.hph_ast.specs.declared.stmt.ForeachTarget.{ForeachTarget}
use Rattle.hph_ast.specs.declared.stmt.ForeachTarget.TheVariants as target
use Rattle.hph_ast.specs.Layers.{ExprLayer}
use Rattle.hph_ast.specs.RefusedExpressions.{Shape, part}
use Rattle.hph_php.specs.declared.operator.BinOp.TheVariants as binary
use Rattle.hph_php.specs.State.{Name, Visibility, Public, Protected, Private}
use Rattle.hph_php.specs.State as state
use Rattle.hph_php.specs.Declarations.{PlacedClass, site_at, code_number, class_number, static_number, members_of, declared_constants, declared_properties, declared_methods}
use Rattle.hph_php.specs.Includes.{folder, current_path, file_at, is_once}
use Rattle.hph_php.specs.Statements.{level_of}
use Rattle.hph_program.specs.Sources.{path_named}
use Rattle.hph_effects.specs.declared.row.Row.TheVariants as r
use Rattle.hph_effects.specs.Rows.{all_rows}
use Rattle.hph_plan.specs.Parts.{echoed}
use Rattle.hph_plan.specs.Plan.{Plan, slot_in}
use Rattle.hph_lowering.specs.Code.{Code, with_code, with_both, call, plain, all, no_value, number, Scope, slot_of, by_number, at_text, text_code}
use Rattle.hph_lowering.specs.Expressions.{Lowered, lowered, value_code, along, depth, slot_code, choice, when, op2, null}

-- a loop or switch around a statement: the labels to which `break` and `continue` go, and whether it has an iterator on the hold stack
pub record Target : Type 0 where
  pub out : ℕ
  pub on : ℕ
  pub holds : Bool

abbrev pub labels : ℕ → ℕ → Bool → Target
labels out on holds = record { out = out; on = on; holds = holds }

-- the same from inside so many further blocks
abbrev pub under : ℕ → List Target → List Target
under n [] = []
under n (t ∷ ts) = labels (n + t.out) (n + t.on) t.holds ∷ under n ts

-- the iterators of targets go
abbrev pub unholds : List Target → List Instr
unholds [] = []
unholds (t ∷ ts) = (if t.holds then call r.Unhold ∷ [] else []) ++ unholds ts

abbrev pub Lowers : Type 0
Lowers = List Target → Code

-- ---- blocks

abbrev pub block_of : List Instr → List Instr
block_of code = view.Block no_value code ∷ []

abbrev pub loop_of : List Instr → List Instr
loop_of code = view.Block no_value (view.Loop no_value code ∷ []) ∷ []

abbrev pub out_unless_true : ℕ → List Instr
out_unless_true label = call r.Truth ∷ Eqz I32 ∷ BrIf label ∷ []

abbrev pub block_code : List Lowers → Lowers
block_code ss targets = all (map (λ (s : Lowers). s targets) ss)

-- ---- if: arms stand side by side

-- a test with its body
pub record Arm : Type 0 where
  pub test : Code
  pub body : Lowers

abbrev pub arm_code : List Target → Arm → Code
arm_code targets arm =
    with_code (all (arm.test ∷ plain (out_unless_true 0) ∷ arm.body (under 2 targets) ∷ plain (Br 1 ∷ []) ∷ [])) block_of

abbrev pub nothing : Lowers
nothing targets = Some []

abbrev pub if_code : Arm → List Arm → Lowers → Lowers
if_code arm [] other targets =
    all (arm.test ∷ with_both (arm.body (under 1 targets)) (other (under 1 targets)) choice ∷ [])
if_code arm (a ∷ more) other targets =
    with_code (all (all (map (arm_code targets) (arm ∷ a ∷ more)) ∷ other (under 1 targets) ∷ [])) block_of

-- ---- loops

abbrev pub while_code : Code → Lowers → Lowers
while_code test body targets =
    with_code (all (test ∷ plain (out_unless_true 1) ∷ body (labels 1 0 false ∷ under 2 targets) ∷ plain (Br 0 ∷ []) ∷ [])) loop_of

abbrev pub do_code : Lowers → Code → Lowers
do_code body test targets =
    with_code (all (with_code (body (labels 2 0 false ∷ under 3 targets)) block_of ∷ test ∷ plain (call r.Truth ∷ BrIf 0 ∷ []) ∷ [])) loop_of

abbrev pub dropped : Code → Code
dropped x = with_code x (λ code. code ++ call r.Drop ∷ [])

-- the last of the tests decides
abbrev pub tests_code : List Code → Code
tests_code [] = Some []
tests_code (x ∷ []) = all (x ∷ plain (out_unless_true 1) ∷ [])
tests_code (x ∷ y ∷ xs) = all (dropped x ∷ tests_code (y ∷ xs) ∷ [])

abbrev pub for_code : List Code → List Code → List Code → Lowers → Lowers
for_code init test step body targets = all (all (map dropped init) ∷ with_code (all (tests_code test
    ∷ with_code (body (labels 2 0 false ∷ under 3 targets)) block_of ∷ all (map dropped step) ∷ plain (Br 0 ∷ []) ∷ [])) loop_of ∷ [])

-- `elements` takes a key and an element off the operand stack
abbrev pub foreach_code : Code → Code → Lowers → Lowers
foreach_code subject elements body targets = all (subject ∷ plain (call r.Iter ∷ []) ∷ with_code (all (
    plain (call r.Next ∷ Eqz I32 ∷ BrIf 1 ∷ []) ∷ elements ∷ body (labels 1 0 true ∷ under 2 targets) ∷ plain (Br 0 ∷ []) ∷ [])) loop_of
    ∷ plain (call r.Unhold ∷ []) ∷ [])

-- ---- switch: the number of the case is found first; then each body stands in a block of its own, which is left if a later case is it

pub record Case : Type 0 where
  pub test : Option Code
  pub body : Lowers

-- the number of the default, or one past the last
abbrev pub default_number : ℕ → List Case → ℕ
default_number n [] = n
default_number n (c ∷ cs) = option_map_or (λ _. default_number (suc n) cs) c.test n

module _ (scratch : ℕ) where
  abbrev pub found : ℕ → List Instr
  found n = number n ∷ LocalSet scratch ∷ []

  abbrev pub case_test : ℕ → Code → Code
  case_test n test = all (plain (call r.Held ∷ []) ∷ test ∷ plain (op2 binary.Equal ++ call r.Truth ∷ when (found n ++ Br 1 ∷ [])) ∷ [])

  abbrev pub case_tests : ℕ → List Case → Code
  case_tests n [] = Some []
  case_tests n (c ∷ cs) = all (option_map_or (case_test n) c.test (plain []) ∷ case_tests (suc n) cs ∷ [])

  -- the local is free while a body runs; after it, all further bodies run
  abbrev pub case_body : ℕ → List Target → Case → Code
  case_body n targets c = with_code (all (plain (LocalGet scratch ∷ number n ∷ Compare I32 (Gt Unsigned) ∷ BrIf 0 ∷ [])
      ∷ c.body (labels 1 1 false ∷ under 2 targets) ∷ plain (found 0) ∷ [])) block_of

  abbrev pub case_bodies : ℕ → List Target → List Case → Code
  case_bodies n targets [] = Some []
  case_bodies n targets (c ∷ cs) = all (case_body n targets c ∷ case_bodies (suc n) targets cs ∷ [])

  abbrev pub switch_code : Code → List Case → Lowers
  switch_code subject cases targets = with_code (all (subject ∷ plain (call r.Hold ∷ [])
      ∷ with_code (all (case_tests 0 cases ∷ plain (found (default_number 0 cases)) ∷ [])) block_of
      ∷ plain (call r.Unhold ∷ []) ∷ case_bodies 0 targets cases ∷ [])) block_of

-- ---- out of loops

abbrev pub break_code : ℕ → Lowers
break_code level targets = by_number (option_map (λ (t : Target). t.out) (slice_get targets level))
    (λ label. unholds (take level targets) ++ Br label ∷ [])

abbrev pub continue_code : ℕ → Lowers
continue_code level targets = by_number (option_map (λ (t : Target). t.on) (slice_get targets level))
    (λ label. unholds (take level targets) ++ Br label ∷ [])

-- ---- members of classes

abbrev pub visibility_code : Visibility → ℕ
visibility_code Public = 0
visibility_code Protected = 1
visibility_code Private = 2

abbrev pub flags_of : state.Member → ℕ
flags_of m = visibility_code m.visibility + (if m.is_static then 4 else 0)

-- the function of a file, behind all rows and the code of the program
abbrev pub function_of_file : Plan → ℕ → ℕ
function_of_file plan file = length all_rows + (length plan.program.codes + file)

-- what a declaration is by its name and its place
pub record Place : Type 0 where
  pub name : Name
  pub offset : ℕ

module _ (plan : Plan) (scope : Scope) where
  abbrev pub value : Expr → Code
  value x = value_code plan scope x

  abbrev pub values : List Expr → List Code
  values xs = map value xs

  abbrev pub text : List ℕ → Code
  text bytes = text_code plan bytes

  abbrev pub slot : Name → Instr → Code
  slot name row = slot_code plan scope name row

  -- ---- declarations

  abbrev pub function_statement : Place → Code
  function_statement p =
      all (text p.name ∷ plain (number (code_number plan.program (site_at scope.file p.offset)) ∷ call r.FnDeclare ∷ []) ∷ [])

  abbrev pub with_flags : Instr → state.Member → Code
  with_flags row m = all (text m.name ∷ plain (number m.code ∷ number (flags_of m) ∷ row ∷ []) ∷ [])

  abbrev pub constant_member : state.Member → Code
  constant_member m = all (text m.name ∷ plain (number m.code ∷ call r.ClassConst ∷ []) ∷ [])

  abbrev pub member_code : Member → Code
  member_code m = all (map constant_member (declared_constants plan.program scope.file m)
      ++ map (with_flags (call r.ClassProp)) (declared_properties plan.program scope.file m)
      ++ map (with_flags (call r.ClassMethod)) (declared_methods plan.program scope.file m))

  abbrev pub declare_placed : ℕ → PlacedClass → Code
  declare_placed k c = all (text (out-Class c.class).name.spelled
      ∷ option_map_or (λ (i : Identifier). text i.spelled) (out-Class c.class).parent (plain null)
      ∷ plain (number k ∷ call r.ClassBegin ∷ []) ∷ all (map member_code (members_of c))
      ∷ plain (number (code_number plan.program c.site) ∷ call r.ClassEnd ∷ []) ∷ [])

  abbrev pub class_at : ℕ → ℕ
  class_at offset = class_number plan.program.classes (site_at scope.file offset)

  abbrev pub class_statement : ℕ → Code
  class_statement offset = option_map_or (declare_placed (class_at offset)) (slice_get plan.program.classes (class_at offset)) None

  -- ---- includes

  pub record Include : Type 0 where
    pub form : IncludeForm
    pub shape : Shape

  abbrev pub include_of : ExprLayer → Option Include
  include_of (Expr-F.Prefix at (prefix.Include form) x) = Some (record { form = form; shape = (part x).shape })
  include_of _ = None

  abbrev pub included_file : Shape → Option ℕ
  included_file shape = option_map_or (file_at plan.program) (path_named (folder (current_path plan.program scope.file)) shape) None

  abbrev pub enter_code : Bool → ℕ → List Instr
  enter_code true file = number file ∷ call r.Once ∷ when (Call (function_of_file plan file) ∷ [])
  enter_code false file = number file ∷ call r.Once ∷ instr.Drop ∷ Call (function_of_file plan file) ∷ []

  abbrev pub include_code : Include → Code
  include_code i = by_number (included_file i.shape) (enter_code (is_once i.form))

  abbrev pub expression_statement : Expr → Code
  expression_statement x = option_map_or include_code (include_of (out-Expr x)) (dropped (value x))

  -- ---- variables

  abbrev pub unset_code : Lowered → Code
  unset_code x = option_map_or (λ name. slot name (call r.Unset)) x.variable
      (all (along x [] ∷ plain (depth x ∷ call r.PathUnset ∷ []) ∷ []))

  abbrev pub global_code : Bool → Name → Code
  global_code false name = plain []
  global_code true name = with_both (by_number (slot_of scope name) (λ s. number s ∷ []))
      (by_number (slot_in plan.globals name) (λ g. number g ∷ call r.BindGlobal ∷ [])) (λ s g. s ++ g)

  abbrev pub first_value : Name → Option Expr → Code
  first_value name None = plain (instr.Drop ∷ [])
  first_value name (Some x) = with_code (all (value x ∷ slot name (call r.Set) ∷ [])) when

  abbrev pub static_code : StaticVariable → Code
  static_code v = all (by_number (slot_of scope v.name.spelled) (λ s. number s ∷ [])
      ∷ plain (number (static_number plan.program (site_at scope.file v.name.start)) ∷ call r.BindStatic ∷ [])
      ∷ first_value v.name.spelled v.value ∷ [])

  abbrev pub constant_statement : ConstantItem → Code
  constant_statement i = all (text i.name.spelled ∷ value i.value ∷ plain (call r.ConstSet ∷ []) ∷ [])

  -- a target that is no variable is refused
  abbrev pub target_code : ForeachTarget → Code
  target_code (target.Variable name) = slot name.spelled (call r.Set)
  target_code _ = None

  abbrev pub elements_code : Option Identifier → ForeachTarget → Code
  elements_code key element = all (target_code element
      ∷ option_map_or (λ (i : Identifier). slot i.spelled (call r.Set)) key (plain (call r.Drop ∷ [])) ∷ [])

  -- ---- return

  abbrev pub return_code : Bool → Option Code → List Target → Code
  return_code true value targets = all (unwrap_or value (plain null) ∷ plain (unholds targets ++ call r.Leave ∷ Return ∷ []) ∷ [])
  return_code false value targets = all (option_map_or dropped value (plain []) ∷ plain (unholds targets ++ Return ∷ []) ∷ [])

  -- what is known before anything runs is written as it lies in memory
  abbrev pub echo_code : Expr → Code
  echo_code x = option_map_or (λ bytes. at_text plan bytes (call r.Write)) (echoed (out-Expr x))
      (with_code (value x) (λ code. code ++ call r.Echo ∷ []))

  -- ---- nodes

  abbrev pub member_by : Member-F (Unit {0}) Lowers ℕ Place Case Arm → Unit {0}
  member_by m = tt

  abbrev pub class_by : Class-F (Unit {0}) Lowers ℕ Place Case Arm → ℕ
  class_by c = c.at.start

  abbrev pub function_by : Function-F (Unit {0}) Lowers ℕ Place Case Arm → Place
  function_by f = record { name = f.name.spelled; offset = f.at.start }

  abbrev pub case_by : Case-F (Unit {0}) Lowers ℕ Place Case Arm → Case
  case_by c = record { test = option_map value c.test; body = block_code c.body }

  abbrev pub else_if_by : ElseIf-F (Unit {0}) Lowers ℕ Place Case Arm → Arm
  else_if_by b = record { test = value b.test; body = b.body }

  abbrev pub statement_by : Statement-F (Unit {0}) Lowers ℕ Place Case Arm → Lowers
  statement_by (Statement-F.Empty at) targets = Some []
  statement_by (Statement-F.InlineText at bytes) targets = at_text plan bytes (call r.Write)
  statement_by (Statement-F.Block at body) targets = block_code body targets
  statement_by (Statement-F.Expression at x) targets = expression_statement x
  statement_by (Statement-F.Function f) targets = function_statement f
  statement_by (Statement-F.Class c) targets = class_statement c
  statement_by (Statement-F.If at x body more other) targets =
      if_code (record { test = value x; body = body }) more (unwrap_or other nothing) targets
  statement_by (Statement-F.While at x body) targets = while_code (value x) body targets
  statement_by (Statement-F.DoWhile at body x) targets = do_code body (value x) targets
  statement_by (Statement-F.For at init test step body) targets = for_code (values init) (values test) (values step) body targets
  statement_by (Statement-F.Foreach at x key element body) targets = foreach_code (value x) (elements_code key element) body targets
  statement_by (Statement-F.Switch at x cases) targets = switch_code scope.scratch (value x) cases targets
  statement_by (Statement-F.Break at levels) targets = break_code (level_of levels) targets
  statement_by (Statement-F.Continue at levels) targets = continue_code (level_of levels) targets
  statement_by (Statement-F.Return at result) targets = return_code scope.in_function (option_map value result) targets
  statement_by (Statement-F.Echo at xs) targets = all (map echo_code xs)
  statement_by (Statement-F.Global at names) targets = all (map (λ (i : Identifier). global_code scope.in_function i.spelled) names)
  statement_by (Statement-F.Static at variables) targets = all (map static_code variables)
  statement_by (Statement-F.Unset at paths) targets = all (map (λ x. unset_code (lowered plan scope x)) paths)
  statement_by (Statement-F.Const at items) targets = all (map constant_statement items)

  unfoldable pub lowers : Statement → Lowers
  lowers = fold-Statement (Unit {0}) Lowers ℕ Place Case Arm member_by statement_by class_by function_by case_by else_if_by

  abbrev pub all_code : List Statement → Code
  all_code ss = block_code (map lowers ss) []
