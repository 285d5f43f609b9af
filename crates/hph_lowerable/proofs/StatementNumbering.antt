-- The same of folds over statements: what they tell of a node with other nodes' sites numbered is told again of a whole tree.
use Rattle.std.specs.Prelude.{◌≡◌, ℕ, suc, List, map, Option, None, Some}
use Rattle.std.proofs.Common.{ap, sym, ◌∙◌, subst}
use Rattle.hph_ast.specs.declared.token.At.{At}
use Rattle.hph_ast.specs.declared.token.Identifier.{Identifier}
use Rattle.hph_ast.specs.declared.expr.Expr.{Expr}
use Rattle.hph_ast.specs.declared.function.DeclaredType.{DeclaredType}
use Rattle.hph_ast.specs.declared.function.Param.{Param}
use Rattle.hph_ast.specs.declared.function.Function.{Function, roll-Function}
use Rattle.hph_ast.specs.declared.class.Class.{Class, roll-Class}
use Rattle.hph_ast.specs.declared.class.Modifiers.{Modifiers}
use Rattle.hph_ast.specs.declared.class.ConstantItem.{ConstantItem}
use Rattle.hph_ast.specs.declared.class.PropertyItem.{PropertyItem}
use Rattle.hph_ast.specs.declared.class.Member.{Member, roll-Member}
use Rattle.hph_ast.specs.declared.class.Member.TheOpen.{Member-F, Statement-F, Class-F, Function-F, Case-F, ElseIf-F}
use Rattle.hph_ast.specs.declared.class.Member.TheFolds.{fold-Member, fold-Statement, fold-Class, fold-Function, fold-Case, fold-ElseIf, fold-roll-Member, fold-roll-Statement, fold-roll-Class, fold-roll-Function, fold-roll-Case, fold-roll-ElseIf, ind-Statement, map-Member, map-Statement, map-Class, map-Function, map-Case, map-ElseIf}
use Rattle.hph_ast.specs.declared.stmt.Statement.{Statement, roll-Statement}
use Rattle.hph_ast.specs.declared.stmt.Case.{Case, roll-Case}
use Rattle.hph_ast.specs.declared.stmt.ElseIf.{ElseIf, roll-ElseIf}
use Rattle.hph_ast.specs.declared.stmt.StaticVariable.{StaticVariable}
use Rattle.hph_ast.specs.declared.stmt.ForeachTarget.{ForeachTarget}
use Rattle.hph_program.specs.Sites.{Numbered, expression, expressions, each, maybe_expression, type, param, constant_item, property_item, static_variable, foreach_target, statement}
use Rattle.hph_program.specs.Sites as sites
use Rattle.hph_program.proofs.SiteLevels.{member, class, function, case, else_if, member_rolled, statement_rolled, class_rolled, function_rolled, case_rolled, else_if_rolled}
use Rattle.hph_lowerable.proofs.Numbering.{Kept, all_kept}

-- a place with the number of its site
abbrev pub sited : At → ℕ → At
sited at n = record at { site = n }

module _ {M S C F K E : Type 0}
    (mb : Member-F M S C F K E → M) (sb : Statement-F M S C F K E → S) (cb : Class-F M S C F K E → C)
    (fb : Function-F M S C F K E → F) (kb : Case-F M S C F K E → K) (eb : ElseIf-F M S C F K E → E) where
  abbrev pub member_value : Member → M
  member_value = fold-Member M S C F K E mb sb cb fb kb eb

  abbrev pub value : Statement → S
  value = fold-Statement M S C F K E mb sb cb fb kb eb

  abbrev pub class_value : Class → C
  class_value = fold-Class M S C F K E mb sb cb fb kb eb

  abbrev pub function_value : Function → F
  function_value = fold-Function M S C F K E mb sb cb fb kb eb

  abbrev pub case_value : Case → K
  case_value = fold-Case M S C F K E mb sb cb fb kb eb

  abbrev pub branch_value : ElseIf → E
  branch_value = fold-ElseIf M S C F K E mb sb cb fb kb eb

  -- a fold to which a node is the same with its own sites and those of its expressions numbered
  pub record KeepsNodes : Type 0 where
    pub empty : (at : At) (n : ℕ) →
        sb (Statement-F.Empty (sited at n)) ≡ sb (Statement-F.Empty at)
    pub inline_text : (at : At) (n : ℕ) (bytes : List ℕ) →
        sb (Statement-F.InlineText (sited at n) bytes) ≡ sb (Statement-F.InlineText at bytes)
    pub block : (at : At) (n : ℕ) (body : List S) →
        sb (Statement-F.Block (sited at n) body) ≡ sb (Statement-F.Block at body)
    pub alone : (at : At) (n : ℕ) (x : Expr) (n-x : ℕ) →
        sb (Statement-F.Expression (sited at n) (expression x n-x).0) ≡ sb (Statement-F.Expression at x)
    pub if_then : (at : At) (n : ℕ) (x : Expr) (n-x : ℕ) (body : S) (more : List E) (other : Option S) →
        sb (Statement-F.If (sited at n) (expression x n-x).0 body more other) ≡ sb (Statement-F.If at x body more other)
    pub while_loop : (at : At) (n : ℕ) (x : Expr) (n-x : ℕ) (body : S) →
        sb (Statement-F.While (sited at n) (expression x n-x).0 body) ≡ sb (Statement-F.While at x body)
    pub do_while : (at : At) (n : ℕ) (body : S) (x : Expr) (n-x : ℕ) →
        sb (Statement-F.DoWhile (sited at n) body (expression x n-x).0) ≡ sb (Statement-F.DoWhile at body x)
    pub for_loop : (at : At) (n : ℕ) (init : List Expr) (n-init : ℕ) (test : List Expr) (n-test : ℕ) (step : List Expr) (n-step : ℕ) (body : S) →
        sb (Statement-F.For (sited at n) (each (map expression init) n-init).0 (each (map expression test) n-test).0 (each (map expression step) n-step).0 body) ≡ sb (Statement-F.For at init test step body)
    pub foreach : (at : At) (n : ℕ) (x : Expr) (n-x : ℕ) (key : Option Identifier) (element : ForeachTarget) (n-element : ℕ) (body : S) →
        sb (Statement-F.Foreach (sited at n) (expression x n-x).0 key (foreach_target element n-element).0 body) ≡ sb (Statement-F.Foreach at x key element body)
    pub switch : (at : At) (n : ℕ) (x : Expr) (n-x : ℕ) (cases : List K) →
        sb (Statement-F.Switch (sited at n) (expression x n-x).0 cases) ≡ sb (Statement-F.Switch at x cases)
    pub break : (at : At) (n : ℕ) (levels : Option ℕ) →
        sb (Statement-F.Break (sited at n) levels) ≡ sb (Statement-F.Break at levels)
    pub continue : (at : At) (n : ℕ) (levels : Option ℕ) →
        sb (Statement-F.Continue (sited at n) levels) ≡ sb (Statement-F.Continue at levels)
    pub return : (at : At) (n : ℕ) (result : Option Expr) (n-result : ℕ) →
        sb (Statement-F.Return (sited at n) (maybe_expression result n-result).0) ≡ sb (Statement-F.Return at result)
    pub echo : (at : At) (n : ℕ) (xs : List Expr) (n-xs : ℕ) →
        sb (Statement-F.Echo (sited at n) (each (map expression xs) n-xs).0) ≡ sb (Statement-F.Echo at xs)
    pub global : (at : At) (n : ℕ) (names : List Identifier) →
        sb (Statement-F.Global (sited at n) names) ≡ sb (Statement-F.Global at names)
    pub static : (at : At) (n : ℕ) (variables : List StaticVariable) (n-variables : ℕ) →
        sb (Statement-F.Static (sited at n) (each (map static_variable variables) n-variables).0) ≡ sb (Statement-F.Static at variables)
    pub unset : (at : At) (n : ℕ) (paths : List Expr) (n-paths : ℕ) →
        sb (Statement-F.Unset (sited at n) (each (map expression paths) n-paths).0) ≡ sb (Statement-F.Unset at paths)
    pub const : (at : At) (n : ℕ) (items : List ConstantItem) (n-items : ℕ) →
        sb (Statement-F.Const (sited at n) (each (map constant_item items) n-items).0) ≡ sb (Statement-F.Const at items)
    pub constants : (at : At) (n : ℕ) (mods : Modifiers) (items : List ConstantItem) (n-items : ℕ) →
        mb (Member-F.Constants (sited at n) mods (each (map constant_item items) n-items).0) ≡ mb (Member-F.Constants at mods items)
    pub properties : (at : At) (n : ℕ) (mods : Modifiers) (ty : Option DeclaredType) (n-ty : ℕ) (items : List PropertyItem) (n-items : ℕ) →
        mb (Member-F.Properties (sited at n) mods (type ty n-ty).0 (each (map property_item items) n-items).0) ≡ mb (Member-F.Properties at mods ty items)
    pub method : (at : At) (n : ℕ) (mods : Modifiers) (f : F) →
        mb (Member-F.Method (sited at n) mods f) ≡ mb (Member-F.Method at mods f)
    pub function_node : (at : At) (n : ℕ) (name : Identifier) (params : List Param) (n-params : ℕ) (ty : Option DeclaredType) (n-ty : ℕ) (body : List S) →
        fb (record { at = sited at n; name = name; params = (each (map param params) n-params).0; result = (type ty n-ty).0; body = body })
        ≡ fb (record { at = at; name = name; params = params; result = ty; body = body })
    pub class_node : (at : At) (n : ℕ) (name : Identifier) (parent : Option Identifier) (members : List M) →
        cb (record { at = sited at n; name = name; parent = parent; members = members })
        ≡ cb (record { at = at; name = name; parent = parent; members = members })
    pub case_node : (at : At) (n : ℕ) (test : Option Expr) (n-test : ℕ) (body : List S) →
        kb (record { at = sited at n; test = (maybe_expression test n-test).0; body = body }) ≡ kb (record { at = at; test = test; body = body })
    pub branch_node : (test : Expr) (n-test : ℕ) (body : S) →
        eb (record { test = (expression test n-test).0; body = body }) ≡ eb (record { test = test; body = body })

  module _ (keeps : KeepsNodes) where
    member_alike : (c d : Member-F Member Statement Class Function Case ElseIf) → mb (map-Member Member Statement Class Function Case ElseIf M S C F K E member_value value class_value function_value case_value branch_value c) ≡ mb (map-Member Member Statement Class Function Case ElseIf M S C F K E member_value value class_value function_value case_value branch_value d) → member_value (roll-Member c) ≡ member_value (roll-Member d)
    member_alike c d e = fold-roll-Member M S C F K E mb sb cb fb kb eb c ∙ e ∙ sym (fold-roll-Member M S C F K E mb sb cb fb kb eb d)

    statement_alike : (c d : Statement-F Member Statement Class Function Case ElseIf) → sb (map-Statement Member Statement Class Function Case ElseIf M S C F K E member_value value class_value function_value case_value branch_value c) ≡ sb (map-Statement Member Statement Class Function Case ElseIf M S C F K E member_value value class_value function_value case_value branch_value d) → value (roll-Statement c) ≡ value (roll-Statement d)
    statement_alike c d e = fold-roll-Statement M S C F K E mb sb cb fb kb eb c ∙ e ∙ sym (fold-roll-Statement M S C F K E mb sb cb fb kb eb d)

    class_alike : (c d : Class-F Member Statement Class Function Case ElseIf) → cb (map-Class Member Statement Class Function Case ElseIf M S C F K E member_value value class_value function_value case_value branch_value c) ≡ cb (map-Class Member Statement Class Function Case ElseIf M S C F K E member_value value class_value function_value case_value branch_value d) → class_value (roll-Class c) ≡ class_value (roll-Class d)
    class_alike c d e = fold-roll-Class M S C F K E mb sb cb fb kb eb c ∙ e ∙ sym (fold-roll-Class M S C F K E mb sb cb fb kb eb d)

    function_alike : (c d : Function-F Member Statement Class Function Case ElseIf) → fb (map-Function Member Statement Class Function Case ElseIf M S C F K E member_value value class_value function_value case_value branch_value c) ≡ fb (map-Function Member Statement Class Function Case ElseIf M S C F K E member_value value class_value function_value case_value branch_value d) → function_value (roll-Function c) ≡ function_value (roll-Function d)
    function_alike c d e = fold-roll-Function M S C F K E mb sb cb fb kb eb c ∙ e ∙ sym (fold-roll-Function M S C F K E mb sb cb fb kb eb d)

    case_alike : (c d : Case-F Member Statement Class Function Case ElseIf) → kb (map-Case Member Statement Class Function Case ElseIf M S C F K E member_value value class_value function_value case_value branch_value c) ≡ kb (map-Case Member Statement Class Function Case ElseIf M S C F K E member_value value class_value function_value case_value branch_value d) → case_value (roll-Case c) ≡ case_value (roll-Case d)
    case_alike c d e = fold-roll-Case M S C F K E mb sb cb fb kb eb c ∙ e ∙ sym (fold-roll-Case M S C F K E mb sb cb fb kb eb d)

    branch_alike : (c d : ElseIf-F Member Statement Class Function Case ElseIf) → eb (map-ElseIf Member Statement Class Function Case ElseIf M S C F K E member_value value class_value function_value case_value branch_value c) ≡ eb (map-ElseIf Member Statement Class Function Case ElseIf M S C F K E member_value value class_value function_value case_value branch_value d) → branch_value (roll-ElseIf c) ≡ branch_value (roll-ElseIf d)
    branch_alike c d e = fold-roll-ElseIf M S C F K E mb sb cb fb kb eb c ∙ e ∙ sym (fold-roll-ElseIf M S C F K E mb sb cb fb kb eb d)

    -- ---- what holds of a tree and of its parts

    abbrev MemberHolds : Member → Type 0
    MemberHolds x = Kept member_value member x

    abbrev StatementHolds : Statement → Type 0
    StatementHolds x = Kept value statement x

    abbrev ClassHolds : Class → Type 0
    ClassHolds x = Kept class_value class x

    abbrev FunctionHolds : Function → Type 0
    FunctionHolds x = Kept function_value function x

    abbrev CaseHolds : Case → Type 0
    CaseHolds x = Kept case_value case x

    abbrev BranchHolds : ElseIf → Type 0
    BranchHolds x = Kept branch_value else_if x

    abbrev HeldMember : Type 0
    HeldMember = (x : Member) × MemberHolds x

    abbrev HeldStatement : Type 0
    HeldStatement = (x : Statement) × StatementHolds x

    abbrev HeldClass : Type 0
    HeldClass = (x : Class) × ClassHolds x

    abbrev HeldFunction : Type 0
    HeldFunction = (x : Function) × FunctionHolds x

    abbrev HeldCase : Type 0
    HeldCase = (x : Case) × CaseHolds x

    abbrev HeldBranch : Type 0
    HeldBranch = (x : ElseIf) × BranchHolds x

    abbrev only_member : Member-F HeldMember HeldStatement HeldClass HeldFunction HeldCase HeldBranch → Member-F Member Statement Class Function Case ElseIf
    only_member y = map-Member HeldMember HeldStatement HeldClass HeldFunction HeldCase HeldBranch Member Statement Class Function Case ElseIf (λ e. e.0) (λ e. e.0) (λ e. e.0) (λ e. e.0) (λ e. e.0) (λ e. e.0) y

    abbrev only_statement : Statement-F HeldMember HeldStatement HeldClass HeldFunction HeldCase HeldBranch → Statement-F Member Statement Class Function Case ElseIf
    only_statement y = map-Statement HeldMember HeldStatement HeldClass HeldFunction HeldCase HeldBranch Member Statement Class Function Case ElseIf (λ e. e.0) (λ e. e.0) (λ e. e.0) (λ e. e.0) (λ e. e.0) (λ e. e.0) y

    abbrev only_class : Class-F HeldMember HeldStatement HeldClass HeldFunction HeldCase HeldBranch → Class-F Member Statement Class Function Case ElseIf
    only_class y = map-Class HeldMember HeldStatement HeldClass HeldFunction HeldCase HeldBranch Member Statement Class Function Case ElseIf (λ e. e.0) (λ e. e.0) (λ e. e.0) (λ e. e.0) (λ e. e.0) (λ e. e.0) y

    abbrev only_function : Function-F HeldMember HeldStatement HeldClass HeldFunction HeldCase HeldBranch → Function-F Member Statement Class Function Case ElseIf
    only_function y = map-Function HeldMember HeldStatement HeldClass HeldFunction HeldCase HeldBranch Member Statement Class Function Case ElseIf (λ e. e.0) (λ e. e.0) (λ e. e.0) (λ e. e.0) (λ e. e.0) (λ e. e.0) y

    abbrev only_case : Case-F HeldMember HeldStatement HeldClass HeldFunction HeldCase HeldBranch → Case-F Member Statement Class Function Case ElseIf
    only_case y = map-Case HeldMember HeldStatement HeldClass HeldFunction HeldCase HeldBranch Member Statement Class Function Case ElseIf (λ e. e.0) (λ e. e.0) (λ e. e.0) (λ e. e.0) (λ e. e.0) (λ e. e.0) y

    abbrev only_branch : ElseIf-F HeldMember HeldStatement HeldClass HeldFunction HeldCase HeldBranch → ElseIf-F Member Statement Class Function Case ElseIf
    only_branch y = map-ElseIf HeldMember HeldStatement HeldClass HeldFunction HeldCase HeldBranch Member Statement Class Function Case ElseIf (λ e. e.0) (λ e. e.0) (λ e. e.0) (λ e. e.0) (λ e. e.0) (λ e. e.0) y

    -- ---- one level

    statement_level : (y : Statement-F HeldMember HeldStatement HeldClass HeldFunction HeldCase HeldBranch) (n : ℕ) →
        value (sites.statement_by (map-Statement Member Statement Class Function Case ElseIf (Numbered Member) (Numbered Statement) (Numbered Class) (Numbered Function) (Numbered Case) (Numbered ElseIf) member statement class function case else_if (only_statement y)) n).0 ≡ value (roll-Statement (only_statement y))
    statement_level (Statement-F.Empty at) n = statement_alike _ (only_statement (Statement-F.Empty at))
        ((λ i. sb (Statement-F.Empty (sited at n))) ∙ keeps.empty at n)
    statement_level (Statement-F.InlineText at bytes) n = statement_alike _ (only_statement (Statement-F.InlineText at bytes))
        ((λ i. sb (Statement-F.InlineText (sited at n) bytes)) ∙ keeps.inline_text at n bytes)
    statement_level (Statement-F.Block at body) n = statement_alike _ (only_statement (Statement-F.Block at body))
        ((λ i. sb (Statement-F.Block (sited at n) (all_kept value statement body (suc n) i))) ∙ keeps.block at n (map value (map (λ e. e.0) body)))
    statement_level (Statement-F.Expression at x) n = statement_alike _ (only_statement (Statement-F.Expression at x))
        ((λ i. sb (Statement-F.Expression (sited at n) (expression x (suc n)).0)) ∙ keeps.alone at n x (suc n))
    statement_level (Statement-F.Function f) n = statement_alike _ (only_statement (Statement-F.Function f))
        (λ i. sb (Statement-F.Function (f.1 n i)))
    statement_level (Statement-F.Class c) n = statement_alike _ (only_statement (Statement-F.Class c))
        (λ i. sb (Statement-F.Class (c.1 n i)))
    statement_level (Statement-F.If at x body more None) n = statement_alike _ (only_statement (Statement-F.If at x body more None))
        ((λ i. sb (Statement-F.If (sited at n) (expression x (suc n)).0 (body.1 (expression x (suc n)).1 i) (all_kept branch_value else_if more (statement body.0 (expression x (suc n)).1).1 i) None)) ∙ keeps.if_then at n x (suc n) (value body.0) (map branch_value (map (λ e. e.0) more)) None)
    statement_level (Statement-F.If at x body more (Some other)) n = statement_alike _ (only_statement (Statement-F.If at x body more (Some other)))
        ((λ i. sb (Statement-F.If (sited at n) (expression x (suc n)).0 (body.1 (expression x (suc n)).1 i) (all_kept branch_value else_if more (statement body.0 (expression x (suc n)).1).1 i) (Some (other.1 (each (map else_if (map (λ e. e.0) more)) (statement body.0 (expression x (suc n)).1).1).1 i)))) ∙ keeps.if_then at n x (suc n) (value body.0) (map branch_value (map (λ e. e.0) more)) (Some (value other.0)))
    statement_level (Statement-F.While at x body) n = statement_alike _ (only_statement (Statement-F.While at x body))
        ((λ i. sb (Statement-F.While (sited at n) (expression x (suc n)).0 (body.1 (expression x (suc n)).1 i))) ∙ keeps.while_loop at n x (suc n) (value body.0))
    statement_level (Statement-F.DoWhile at body x) n = statement_alike _ (only_statement (Statement-F.DoWhile at body x))
        ((λ i. sb (Statement-F.DoWhile (sited at n) (body.1 (suc n) i) (expression x (statement body.0 (suc n)).1).0)) ∙ keeps.do_while at n (value body.0) x (statement body.0 (suc n)).1)
    statement_level (Statement-F.For at init test step body) n = statement_alike _ (only_statement (Statement-F.For at init test step body))
        ((λ i. sb (Statement-F.For (sited at n) (each (map expression init) (suc n)).0 (each (map expression test) (each (map expression init) (suc n)).1).0 (each (map expression step) (each (map expression test) (each (map expression init) (suc n)).1).1).0 (body.1 (each (map expression step) (each (map expression test) (each (map expression init) (suc n)).1).1).1 i))) ∙ keeps.for_loop at n init (suc n) test (each (map expression init) (suc n)).1 step (each (map expression test) (each (map expression init) (suc n)).1).1 (value body.0))
    statement_level (Statement-F.Foreach at x key element body) n = statement_alike _ (only_statement (Statement-F.Foreach at x key element body))
        ((λ i. sb (Statement-F.Foreach (sited at n) (expression x (suc n)).0 key (foreach_target element (expression x (suc n)).1).0 (body.1 (foreach_target element (expression x (suc n)).1).1 i))) ∙ keeps.foreach at n x (suc n) key element (expression x (suc n)).1 (value body.0))
    statement_level (Statement-F.Switch at x cases) n = statement_alike _ (only_statement (Statement-F.Switch at x cases))
        ((λ i. sb (Statement-F.Switch (sited at n) (expression x (suc n)).0 (all_kept case_value case cases (expression x (suc n)).1 i))) ∙ keeps.switch at n x (suc n) (map case_value (map (λ e. e.0) cases)))
    statement_level (Statement-F.Break at levels) n = statement_alike _ (only_statement (Statement-F.Break at levels))
        ((λ i. sb (Statement-F.Break (sited at n) levels)) ∙ keeps.break at n levels)
    statement_level (Statement-F.Continue at levels) n = statement_alike _ (only_statement (Statement-F.Continue at levels))
        ((λ i. sb (Statement-F.Continue (sited at n) levels)) ∙ keeps.continue at n levels)
    statement_level (Statement-F.Return at result) n = statement_alike _ (only_statement (Statement-F.Return at result))
        ((λ i. sb (Statement-F.Return (sited at n) (maybe_expression result (suc n)).0)) ∙ keeps.return at n result (suc n))
    statement_level (Statement-F.Echo at xs) n = statement_alike _ (only_statement (Statement-F.Echo at xs))
        ((λ i. sb (Statement-F.Echo (sited at n) (each (map expression xs) (suc n)).0)) ∙ keeps.echo at n xs (suc n))
    statement_level (Statement-F.Global at names) n = statement_alike _ (only_statement (Statement-F.Global at names))
        ((λ i. sb (Statement-F.Global (sited at n) names)) ∙ keeps.global at n names)
    statement_level (Statement-F.Static at variables) n = statement_alike _ (only_statement (Statement-F.Static at variables))
        ((λ i. sb (Statement-F.Static (sited at n) (each (map static_variable variables) (suc n)).0)) ∙ keeps.static at n variables (suc n))
    statement_level (Statement-F.Unset at paths) n = statement_alike _ (only_statement (Statement-F.Unset at paths))
        ((λ i. sb (Statement-F.Unset (sited at n) (each (map expression paths) (suc n)).0)) ∙ keeps.unset at n paths (suc n))
    statement_level (Statement-F.Const at items) n = statement_alike _ (only_statement (Statement-F.Const at items))
        ((λ i. sb (Statement-F.Const (sited at n) (each (map constant_item items) (suc n)).0)) ∙ keeps.const at n items (suc n))

    member_level : (y : Member-F HeldMember HeldStatement HeldClass HeldFunction HeldCase HeldBranch) (n : ℕ) →
        member_value (sites.member_by (map-Member Member Statement Class Function Case ElseIf (Numbered Member) (Numbered Statement) (Numbered Class) (Numbered Function) (Numbered Case) (Numbered ElseIf) member statement class function case else_if (only_member y)) n).0 ≡ member_value (roll-Member (only_member y))
    member_level (Member-F.Constants at mods items) n = member_alike _ (only_member (Member-F.Constants at mods items))
        ((λ i. mb (Member-F.Constants (sited at n) mods (each (map constant_item items) (suc n)).0)) ∙ keeps.constants at n mods items (suc n))
    member_level (Member-F.Properties at mods ty items) n = member_alike _ (only_member (Member-F.Properties at mods ty items))
        ((λ i. mb (Member-F.Properties (sited at n) mods (type ty (suc n)).0 (each (map property_item items) (type ty (suc n)).1).0)) ∙ keeps.properties at n mods ty (suc n) items (type ty (suc n)).1)
    member_level (Member-F.Method at mods f) n = member_alike _ (only_member (Member-F.Method at mods f))
        ((λ i. mb (Member-F.Method (sited at n) mods (f.1 (suc n) i))) ∙ keeps.method at n mods (function_value f.0))

    function_level : (y : Function-F HeldMember HeldStatement HeldClass HeldFunction HeldCase HeldBranch) (n : ℕ) →
        function_value (sites.function_by (map-Function Member Statement Class Function Case ElseIf (Numbered Member) (Numbered Statement) (Numbered Class) (Numbered Function) (Numbered Case) (Numbered ElseIf) member statement class function case else_if (only_function y)) n).0 ≡ function_value (roll-Function (only_function y))
    function_level y n = function_alike _ (only_function y)
        ((λ i. fb (record {
          at = sited y.at n;
          name = y.name;
          params = (each (map param y.params) (suc n)).0;
          result = (type y.result (each (map param y.params) (suc n)).1).0;
          body = all_kept value statement y.body (type y.result (each (map param y.params) (suc n)).1).1 i;
        }))
        ∙ keeps.function_node y.at n y.name y.params (suc n) y.result (each (map param y.params) (suc n)).1 (map value (map (λ e. e.0) y.body)))

    class_level : (y : Class-F HeldMember HeldStatement HeldClass HeldFunction HeldCase HeldBranch) (n : ℕ) →
        class_value (sites.class_declaration_by (map-Class Member Statement Class Function Case ElseIf (Numbered Member) (Numbered Statement) (Numbered Class) (Numbered Function) (Numbered Case) (Numbered ElseIf) member statement class function case else_if (only_class y)) n).0 ≡ class_value (roll-Class (only_class y))
    class_level y n = class_alike _ (only_class y)
        ((λ i. cb (record { at = sited y.at n; name = y.name; parent = y.parent; members = all_kept member_value member y.members (suc n) i }))
        ∙ keeps.class_node y.at n y.name y.parent (map member_value (map (λ e. e.0) y.members)))

    case_level : (y : Case-F HeldMember HeldStatement HeldClass HeldFunction HeldCase HeldBranch) (n : ℕ) →
        case_value (sites.case_by (map-Case Member Statement Class Function Case ElseIf (Numbered Member) (Numbered Statement) (Numbered Class) (Numbered Function) (Numbered Case) (Numbered ElseIf) member statement class function case else_if (only_case y)) n).0 ≡ case_value (roll-Case (only_case y))
    case_level y n = case_alike _ (only_case y)
        ((λ i. kb (record { at = sited y.at n; test = (maybe_expression y.test (suc n)).0; body = all_kept value statement y.body (maybe_expression y.test (suc n)).1 i }))
        ∙ keeps.case_node y.at n y.test (suc n) (map value (map (λ e. e.0) y.body)))

    branch_level : (y : ElseIf-F HeldMember HeldStatement HeldClass HeldFunction HeldCase HeldBranch) (n : ℕ) →
        branch_value (sites.else_if_by (map-ElseIf Member Statement Class Function Case ElseIf (Numbered Member) (Numbered Statement) (Numbered Class) (Numbered Function) (Numbered Case) (Numbered ElseIf) member statement class function case else_if (only_branch y)) n).0 ≡ branch_value (roll-ElseIf (only_branch y))
    branch_level y n = branch_alike _ (only_branch y)
        ((λ i. eb (record { test = (expression y.test n).0; body = y.body.1 (expression y.test n).1 i }))
        ∙ keeps.branch_node y.test n (value y.body.0))

    -- ---- whole trees

    member_made : (x : Member-F Member Statement Class Function Case ElseIf) (y : Member-F HeldMember HeldStatement HeldClass HeldFunction HeldCase HeldBranch) → only_member y ≡ x → MemberHolds (roll-Member x)
    member_made x y is = subst (λ d. MemberHolds (roll-Member d)) is (λ n. ap (λ r. member_value r.0) (member_rolled (only_member y) n) ∙ member_level y n)

    statement_made : (x : Statement-F Member Statement Class Function Case ElseIf) (y : Statement-F HeldMember HeldStatement HeldClass HeldFunction HeldCase HeldBranch) → only_statement y ≡ x → StatementHolds (roll-Statement x)
    statement_made x y is = subst (λ d. StatementHolds (roll-Statement d)) is (λ n. ap (λ r. value r.0) (statement_rolled (only_statement y) n) ∙ statement_level y n)

    class_made : (x : Class-F Member Statement Class Function Case ElseIf) (y : Class-F HeldMember HeldStatement HeldClass HeldFunction HeldCase HeldBranch) → only_class y ≡ x → ClassHolds (roll-Class x)
    class_made x y is = subst (λ d. ClassHolds (roll-Class d)) is (λ n. ap (λ r. class_value r.0) (class_rolled (only_class y) n) ∙ class_level y n)

    function_made : (x : Function-F Member Statement Class Function Case ElseIf) (y : Function-F HeldMember HeldStatement HeldClass HeldFunction HeldCase HeldBranch) → only_function y ≡ x → FunctionHolds (roll-Function x)
    function_made x y is = subst (λ d. FunctionHolds (roll-Function d)) is (λ n. ap (λ r. function_value r.0) (function_rolled (only_function y) n) ∙ function_level y n)

    case_made : (x : Case-F Member Statement Class Function Case ElseIf) (y : Case-F HeldMember HeldStatement HeldClass HeldFunction HeldCase HeldBranch) → only_case y ≡ x → CaseHolds (roll-Case x)
    case_made x y is = subst (λ d. CaseHolds (roll-Case d)) is (λ n. ap (λ r. case_value r.0) (case_rolled (only_case y) n) ∙ case_level y n)

    branch_made : (x : ElseIf-F Member Statement Class Function Case ElseIf) (y : ElseIf-F HeldMember HeldStatement HeldClass HeldFunction HeldCase HeldBranch) → only_branch y ≡ x → BranchHolds (roll-ElseIf x)
    branch_made x y is = subst (λ d. BranchHolds (roll-ElseIf d)) is (λ n. ap (λ r. branch_value r.0) (else_if_rolled (only_branch y) n) ∙ branch_level y n)

    pub statement_kept : (x : Statement) → Kept value statement x
    statement_kept = ind-Statement MemberHolds StatementHolds ClassHolds FunctionHolds CaseHolds BranchHolds member_made statement_made class_made function_made case_made branch_made
