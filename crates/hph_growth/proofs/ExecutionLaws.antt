-- What a statement means keeps that answers stay, by induction on its tree.
use Rattle.std.proofs.Common.{◌≡◌, ℕ, List, [], ◌∷◌, ◌∙◌, map, sym, subst}
use Rattle.std.specs.Prelude.{Option, None, Some, position, slice_get}
use Rattle.std.specs.Option.{option_map, option_map_or}
use Rattle.hph_ast.specs.declared.token.Identifier.{Identifier}
use Rattle.hph_ast.specs.declared.expr.Expr.{Expr}
use Rattle.hph_ast.specs.declared.class.ConstantItem.{ConstantItem}
use Rattle.hph_ast.specs.declared.class.Member.{Member, roll-Member}
use Rattle.hph_ast.specs.declared.class.Class.{Class, roll-Class}
use Rattle.hph_ast.specs.declared.function.Function.{Function, roll-Function}
use Rattle.hph_ast.specs.declared.stmt.Statement.{Statement, roll-Statement}
use Rattle.hph_ast.specs.declared.stmt.Case.{Case, roll-Case}
use Rattle.hph_ast.specs.declared.stmt.ElseIf.{ElseIf, roll-ElseIf}
use Rattle.hph_ast.specs.declared.stmt.StaticVariable.{StaticVariable}
use Rattle.hph_ast.specs.declared.class.Member.TheOpen.{Member-F, Statement-F, Class-F, Function-F, Case-F, ElseIf-F}
use Rattle.hph_ast.specs.declared.class.Member.TheFolds.{ind-Statement, map-Member, map-Statement, map-Class, map-Function, map-Case, map-ElseIf}
use Rattle.hph_php.specs.Values.{Value}
use Rattle.hph_php.specs.State.{Name, Site, is_site, with_class}
use Rattle.hph_php.specs.Answers.{Means, change}
use Rattle.hph_php.specs.Declarations.{Codes, PlacedClass, site_at, code_number, class_number, static_number, declared_class}
use Rattle.hph_php.specs.World.{World, Context}
use Rattle.hph_php.specs.Expressions.{reading, evaluate}
use Rattle.hph_php.specs.Operations.{echo}
use Rattle.hph_php.specs.Statements.{Way, Next, Breaks, Continues, global_variable, level_of}
use Rattle.hph_php.specs.Executions.{declare_in, declare_function, begin_class, parent_name, class_name, declare_class, declare_class_at, names_of, target_name, Place, function_statement, class_statement, values, static_statement, unset_statement, constant_statement, statement_by, execute, execute_all}
use Rattle.hph_php.specs.Executions as ex
use Rattle.hph_growth.specs.Growth.{Grows}
use Rattle.hph_growth.proofs.GrowthLaws.{EachGrows, none, one_more, give_grows, nothing_grows, heap_grows, print_grows, bind_grows, in_order_grows, option_grows, by_both}
use Rattle.hph_growth.proofs.StateLaws.{same_grows, change_heap_grows, remake_heap_grows, global_variable_same}
use Rattle.hph_growth.proofs.Worlds.{Worlds, earlier, later}
use Rattle.hph_growth.proofs.CallLaws.{OptionGrows, neither, each_one}
use Rattle.hph_growth.proofs.OperationLaws.{echo_grows}
use Rattle.hph_growth.proofs.StatementLaws.{goes_on_grows, block_grows, truth_grows, BranchesGrow, no_branch, one_branch, branches_grow, loop_grows, loop_after_grows, for_grows, dropped_grows, foreach_grows, CaseGrows, CasesGrow, no_case, one_case, switch_grows, static_grows, unset_grows, define_grows, return_grows}
use Rattle.hph_php.proofs.Levels.{class_place, function_place, case_meaning, branch_meaning, statement_parts, case_parts, branch_parts, statement_rolled, class_place_rolled, function_rolled, case_rolled, branch_rolled}
use Rattle.hph_growth.proofs.ExpressionLaws.{reading_grows, evaluate_grows}

-- ---- declarations

pub declare_function_grows : (name : Name) (code : ℕ) → Grows (declare_function name code) (declare_function name code)
declare_function_grows name code = remake_heap_grows (declare_in name code)

declare_class_grows : (program : Codes) (number : ℕ) (c : PlacedClass) →
    Grows (declare_class program number c) (declare_class program number c)
declare_class_grows program number c = bind_grows (heap_grows (begin_class (class_name c) (parent_name c))) (λ parent.
    change_heap_grows (with_class (declared_class program number parent c)))

pub declare_class_at_grows : (program : Codes) (site : Site) → Grows (declare_class_at program site) (declare_class_at program site)
declare_class_at_grows program site = option_grows
    (option_map_or (slice_get program.classes) (position (λ (c : PlacedClass). is_site site c.site) program.classes) None)
    (declare_class_grows program (class_number program.classes site)) nothing_grows

module _ (ws : Worlds) (context : Context) where
  abbrev before : World
  before = earlier ws

  abbrev after : World
  after = later ws

  function_grows : {p q : Place} → p ≡ q → Grows (function_statement before context p) (function_statement after context q)
  function_grows {p} e = subst (λ q. Grows (function_statement before context p) (function_statement after context q)) e
      (declare_function_grows p.name (code_number context.program (site_at context.file p.offset)))

  class_grows : {m n : ℕ} → m ≡ n → Grows (class_statement before context m) (class_statement after context n)
  class_grows {m} e = subst (λ n. Grows (class_statement before context m) (class_statement after context n)) e
      (declare_class_at_grows context.program (site_at context.file m))

  -- ---- expressions of statements

  values_grow : (xs : List Expr) → EachGrows (values before context xs) (values after context xs)
  values_grow [] = none
  values_grow (x ∷ xs) = one_more (evaluate_grows ws context x) (values_grow xs)

  pub value_grows : (o : Option Expr) → OptionGrows (option_map (evaluate before context) o) (option_map (evaluate after context) o)
  value_grows None = neither
  value_grows (Some x) = each_one (evaluate_grows ws context x)

  echoes_grow : (xs : List Expr) → EachGrows (map echo (values before context xs)) (map echo (values after context xs))
  echoes_grow [] = none
  echoes_grow (x ∷ xs) = one_more (echo_grows (evaluate_grows ws context x)) (echoes_grow xs)

  globals_grow : (names : List Name) → EachGrows (map (λ name. change (global_variable context.in_function name)) names)
      (map (λ name. change (global_variable context.in_function name)) names)
  globals_grow [] = none
  globals_grow (name ∷ names) = one_more
      (same_grows (global_variable context.in_function name) (global_variable_same context.in_function name)) (globals_grow names)

  statics_grow : (vs : List StaticVariable) → EachGrows (map (static_statement before context) vs) (map (static_statement after context) vs)
  statics_grow [] = none
  statics_grow (v ∷ vs) =
      one_more (static_grows (static_number context.program (site_at context.file v.name.start)) v.name.spelled (value_grows v.value))
      (statics_grow vs)

  unsets_grow : (xs : List Expr) → EachGrows (map (λ x. unset_statement before context (reading before context x)) xs)
      (map (λ x. unset_statement after context (reading after context x)) xs)
  unsets_grow [] = none
  unsets_grow (x ∷ xs) = one_more (unset_grows context.class (reading_grows ws context x)) (unsets_grow xs)

  constants_grow : (is : List ConstantItem) →
      EachGrows (map (constant_statement before context) is) (map (constant_statement after context) is)
  constants_grow [] = none
  constants_grow (i ∷ is) = one_more (define_grows i.name.spelled (evaluate_grows ws context i.value)) (constants_grow is)

  -- ---- what holds of a tree and of its parts

  abbrev MemberHolds : Member → Type 0
  MemberHolds m = Unit {0}

  abbrev StatementHolds : Statement → Type 0
  StatementHolds x = Grows (execute before context x) (execute after context x)

  abbrev ClassHolds : Class → Type 0
  ClassHolds c = class_place before context c ≡ class_place after context c

  abbrev FunctionHolds : Function → Type 0
  FunctionHolds f = function_place before context f ≡ function_place after context f

  abbrev CaseHolds : Case → Type 0
  CaseHolds c = CaseGrows (case_meaning before context c) (case_meaning after context c)

  abbrev BranchGrows : Means Value × Means Way → Means Value × Means Way → Type 0
  BranchGrows b c = Grows b.0 c.0 × Grows b.1 c.1

  abbrev BranchHolds : ElseIf → Type 0
  BranchHolds b = BranchGrows (branch_meaning before context b) (branch_meaning after context b)

  abbrev HeldMember : Type 0
  HeldMember = (m : Member) × MemberHolds m

  abbrev HeldStatement : Type 0
  HeldStatement = (x : Statement) × StatementHolds x

  abbrev HeldClass : Type 0
  HeldClass = (c : Class) × ClassHolds c

  abbrev HeldFunction : Type 0
  HeldFunction = (f : Function) × FunctionHolds f

  abbrev HeldCase : Type 0
  HeldCase = (c : Case) × CaseHolds c

  abbrev HeldBranch : Type 0
  HeldBranch = (b : ElseIf) × BranchHolds b

  -- ---- lists of parts

  statements_hold : (xs : List HeldStatement) →
      EachGrows (map (execute before context) (map (λ e. e.0) xs)) (map (execute after context) (map (λ e. e.0) xs))
  statements_hold [] = none
  statements_hold (x ∷ xs) = one_more x.1 (statements_hold xs)

  cases_hold : (cs : List HeldCase) →
      CasesGrow (map (case_meaning before context) (map (λ e. e.0) cs)) (map (case_meaning after context) (map (λ e. e.0) cs))
  cases_hold [] = no_case
  cases_hold (c ∷ cs) = one_case c.1.test c.1.body (cases_hold cs)

  branches_hold : (bs : List HeldBranch) →
      BranchesGrow (map (branch_meaning before context) (map (λ e. e.0) bs)) (map (branch_meaning after context) (map (λ e. e.0) bs))
  branches_hold [] = no_branch
  branches_hold (b ∷ bs) = one_branch b.1.0 b.1.1 (branches_hold bs)

  -- ---- one level

  abbrev bare_member : Member-F HeldMember HeldStatement HeldClass HeldFunction HeldCase HeldBranch →
      Member-F Member Statement Class Function Case ElseIf
  bare_member y = map-Member HeldMember HeldStatement HeldClass HeldFunction HeldCase HeldBranch
      Member Statement Class Function Case ElseIf (λ e. e.0) (λ e. e.0) (λ e. e.0) (λ e. e.0) (λ e. e.0) (λ e. e.0) y

  abbrev bare_statement : Statement-F HeldMember HeldStatement HeldClass HeldFunction HeldCase HeldBranch →
      Statement-F Member Statement Class Function Case ElseIf
  bare_statement y = map-Statement HeldMember HeldStatement HeldClass HeldFunction HeldCase HeldBranch
      Member Statement Class Function Case ElseIf (λ e. e.0) (λ e. e.0) (λ e. e.0) (λ e. e.0) (λ e. e.0) (λ e. e.0) y

  abbrev bare_class : Class-F HeldMember HeldStatement HeldClass HeldFunction HeldCase HeldBranch →
      Class-F Member Statement Class Function Case ElseIf
  bare_class y = map-Class HeldMember HeldStatement HeldClass HeldFunction HeldCase HeldBranch
      Member Statement Class Function Case ElseIf (λ e. e.0) (λ e. e.0) (λ e. e.0) (λ e. e.0) (λ e. e.0) (λ e. e.0) y

  abbrev bare_function : Function-F HeldMember HeldStatement HeldClass HeldFunction HeldCase HeldBranch →
      Function-F Member Statement Class Function Case ElseIf
  bare_function y = map-Function HeldMember HeldStatement HeldClass HeldFunction HeldCase HeldBranch
      Member Statement Class Function Case ElseIf (λ e. e.0) (λ e. e.0) (λ e. e.0) (λ e. e.0) (λ e. e.0) (λ e. e.0) y

  abbrev bare_case : Case-F HeldMember HeldStatement HeldClass HeldFunction HeldCase HeldBranch →
      Case-F Member Statement Class Function Case ElseIf
  bare_case y = map-Case HeldMember HeldStatement HeldClass HeldFunction HeldCase HeldBranch
      Member Statement Class Function Case ElseIf (λ e. e.0) (λ e. e.0) (λ e. e.0) (λ e. e.0) (λ e. e.0) (λ e. e.0) y

  abbrev bare_branch : ElseIf-F HeldMember HeldStatement HeldClass HeldFunction HeldCase HeldBranch →
      ElseIf-F Member Statement Class Function Case ElseIf
  bare_branch y = map-ElseIf HeldMember HeldStatement HeldClass HeldFunction HeldCase HeldBranch
      Member Statement Class Function Case ElseIf (λ e. e.0) (λ e. e.0) (λ e. e.0) (λ e. e.0) (λ e. e.0) (λ e. e.0) y

  statement_level : (y : Statement-F HeldMember HeldStatement HeldClass HeldFunction HeldCase HeldBranch) →
      Grows (statement_by before context (statement_parts before context (bare_statement y)))
      (statement_by after context (statement_parts after context (bare_statement y)))
  statement_level (Statement-F.Empty at) = give_grows Next
  statement_level (Statement-F.InlineText at bytes) = goes_on_grows (print_grows bytes)
  statement_level (Statement-F.Block at body) = block_grows (statements_hold body)
  statement_level (Statement-F.Expression at x) = goes_on_grows (dropped_grows (evaluate_grows ws context x))
  statement_level (Statement-F.Function f) = goes_on_grows (function_grows f.1)
  statement_level (Statement-F.Class c) = goes_on_grows (class_grows c.1)
  statement_level (Statement-F.If at x body more None) =
      branches_grow (one_branch (evaluate_grows ws context x) body.1 (branches_hold more)) (give_grows Next)
  statement_level (Statement-F.If at x body more (Some other)) =
      branches_grow (one_branch (evaluate_grows ws context x) body.1 (branches_hold more)) other.1
  statement_level (Statement-F.While at x body) = loop_grows (truth_grows (evaluate_grows ws context x)) nothing_grows body.1
  statement_level (Statement-F.DoWhile at body x) = loop_after_grows (truth_grows (evaluate_grows ws context x)) body.1
  statement_level (Statement-F.For at init test step body) =
      for_grows (values_grow init) (values_grow test) (values_grow step) body.1
  statement_level (Statement-F.Foreach at x key value body) =
      foreach_grows (option_map (λ (i : Identifier). i.spelled) key) (target_name value) (evaluate_grows ws context x) body.1
  statement_level (Statement-F.Switch at x cases) = switch_grows (evaluate_grows ws context x) (cases_hold cases)
  statement_level (Statement-F.Break at levels) = give_grows (Breaks (level_of levels))
  statement_level (Statement-F.Continue at levels) = give_grows (Continues (level_of levels))
  statement_level (Statement-F.Return at value) = return_grows (value_grows value)
  statement_level (Statement-F.Echo at xs) = goes_on_grows (in_order_grows (echoes_grow xs))
  statement_level (Statement-F.Global at names) = goes_on_grows (in_order_grows (globals_grow (names_of names)))
  statement_level (Statement-F.Static at variables) = goes_on_grows (in_order_grows (statics_grow variables))
  statement_level (Statement-F.Unset at paths) = goes_on_grows (in_order_grows (unsets_grow paths))
  statement_level (Statement-F.Const at items) = goes_on_grows (in_order_grows (constants_grow items))

  -- ---- whole trees

  member_made : (x : Member-F Member Statement Class Function Case ElseIf)
      (y : Member-F HeldMember HeldStatement HeldClass HeldFunction HeldCase HeldBranch) → bare_member y ≡ x → MemberHolds (roll-Member x)
  member_made x y is = tt

  statement_made : (x : Statement-F Member Statement Class Function Case ElseIf)
      (y : Statement-F HeldMember HeldStatement HeldClass HeldFunction HeldCase HeldBranch) → bare_statement y ≡ x →
      StatementHolds (roll-Statement x)
  statement_made x y is = subst (λ d. StatementHolds (roll-Statement d)) is (by_both (λ m m'. Grows m m')
      (statement_rolled before context (bare_statement y)) (statement_rolled after context (bare_statement y)) (statement_level y))

  class_made : (x : Class-F Member Statement Class Function Case ElseIf)
      (y : Class-F HeldMember HeldStatement HeldClass HeldFunction HeldCase HeldBranch) → bare_class y ≡ x → ClassHolds (roll-Class x)
  class_made x y is = class_place_rolled before context x ∙ sym (class_place_rolled after context x)

  function_made : (x : Function-F Member Statement Class Function Case ElseIf)
      (y : Function-F HeldMember HeldStatement HeldClass HeldFunction HeldCase HeldBranch) → bare_function y ≡ x →
      FunctionHolds (roll-Function x)
  function_made x y is = function_rolled before context x ∙ sym (function_rolled after context x)

  case_level : (y : Case-F HeldMember HeldStatement HeldClass HeldFunction HeldCase HeldBranch) →
      CaseGrows (ex.case_by before context (case_parts before context (bare_case y)))
      (ex.case_by after context (case_parts after context (bare_case y)))
  case_level y = record { test = value_grows y.test; body = block_grows (statements_hold y.body) }

  case_made : (x : Case-F Member Statement Class Function Case ElseIf)
      (y : Case-F HeldMember HeldStatement HeldClass HeldFunction HeldCase HeldBranch) → bare_case y ≡ x → CaseHolds (roll-Case x)
  case_made x y is = subst (λ d. CaseHolds (roll-Case d)) is
      (by_both CaseGrows (case_rolled before context (bare_case y)) (case_rolled after context (bare_case y)) (case_level y))

  branch_level : (y : ElseIf-F HeldMember HeldStatement HeldClass HeldFunction HeldCase HeldBranch) →
      BranchGrows (ex.else_if_by before context (branch_parts before context (bare_branch y)))
      (ex.else_if_by after context (branch_parts after context (bare_branch y)))
  branch_level y = (evaluate_grows ws context y.test, y.body.1)

  branch_made : (x : ElseIf-F Member Statement Class Function Case ElseIf)
      (y : ElseIf-F HeldMember HeldStatement HeldClass HeldFunction HeldCase HeldBranch) → bare_branch y ≡ x → BranchHolds (roll-ElseIf x)
  branch_made x y is = subst (λ d. BranchHolds (roll-ElseIf d)) is (by_both BranchGrows
      (branch_rolled before context (bare_branch y)) (branch_rolled after context (bare_branch y)) (branch_level y))

  pub execute_grows : (x : Statement) → Grows (execute before context x) (execute after context x)
  execute_grows = ind-Statement MemberHolds StatementHolds ClassHolds FunctionHolds CaseHolds BranchHolds
      member_made statement_made class_made function_made case_made branch_made

  pub executed_grow : (xs : List Statement) → EachGrows (map (execute before context) xs) (map (execute after context) xs)
  executed_grow [] = none
  executed_grow (x ∷ xs) = one_more (execute_grows x) (executed_grow xs)

  pub execute_all_grows : (xs : List Statement) → Grows (execute_all before context xs) (execute_all after context xs)
  execute_all_grows xs = block_grows (executed_grow xs)
