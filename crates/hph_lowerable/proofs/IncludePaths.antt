-- The includes of a tree in which nothing is refused have literals that are paths.
use Rattle.std.specs.Prelude.{◌≡◌, ℕ, Bool, true, false, not, ◌&&◌, List, [], ◌∷◌, ◌++◌, map, flat_map, None, Some}
use Rattle.std.specs.List.{list_all}
use Rattle.std.proofs.Common.{refl, ap, sym, ◌∙◌, subst}
use Rattle.hph_ast.specs.declared.operator.Prefix.TheVariants as prefix
use Rattle.hph_ast.specs.declared.expr.Expr.{Expr, out-Expr}
use Rattle.hph_ast.specs.declared.expr.ClassReference.TheOpen.{Expr-F}
use Rattle.hph_ast.specs.declared.function.Function.{Function}
use Rattle.hph_ast.specs.declared.class.Class.{Class}
use Rattle.hph_ast.specs.declared.class.Member.{Member}
use Rattle.hph_ast.specs.declared.class.Member.TheOpen.{Member-F, Statement-F, Class-F, Function-F, Case-F, ElseIf-F}
use Rattle.hph_ast.specs.declared.class.Member.TheFolds.{fold-Member, fold-Class, fold-Function, fold-Case, fold-ElseIf, fold-roll-Statement, fold-roll-Case, fold-roll-ElseIf, ind-Statement, map-Member, map-Statement, map-Class, map-Function, map-Case, map-ElseIf}
use Rattle.hph_ast.specs.declared.stmt.Statement.{Statement, roll-Statement}
use Rattle.hph_ast.specs.declared.stmt.Case.{Case, roll-Case}
use Rattle.hph_ast.specs.declared.stmt.ElseIf.{ElseIf, roll-ElseIf}
use Rattle.hph_ast.specs.declared.refusal.Construct.{Construct}
use Rattle.hph_ast.specs.declared.refusal.Construct.TheVariants as c
use Rattle.hph_ast.specs.Layers.{ExprLayer}
use Rattle.hph_ast.specs.RefusedExpressions.{Context, Refused, Shape, on_true, all_in, is_include_path, part, refused_in}
use Rattle.hph_ast.specs.RefusedStatements.{whole_statement, statement_refused, statement_part, member_part, class_part, function_part, case_part, else_if_part, FunctionPart, MemberPart, in_loop, maybe, target_refused, bound}
use Rattle.hph_program.specs.Sources.{includes_in, include_at, statement_includes, member_includes, class_includes, function_includes, case_includes, else_if_includes}

-- ---- lists

pub first_empty : {A : Type 0} (xs ys : List A) → xs ++ ys ≡ [] → xs ≡ []
first_empty [] ys e = refl
first_empty (x ∷ xs) ys e = absurd (cc)

pub second_empty : {A : Type 0} (xs ys : List A) → xs ++ ys ≡ [] → ys ≡ []
second_empty [] ys e = e
second_empty (x ∷ xs) ys e = absurd (cc)

abbrev pub ArePaths : List Shape → Type 0
ArePaths shapes = list_all is_include_path shapes ≡ true

pub both_paths : (xs ys : List Shape) → ArePaths xs → ArePaths ys → ArePaths (xs ++ ys)
both_paths [] ys p q = q
both_paths (x ∷ xs) ys p q = by_test (is_include_path x) (λ r. both_paths xs ys r q) p
  where
    by_test : (b : Bool) → (list_all is_include_path xs ≡ true → list_all is_include_path (xs ++ ys) ≡ true) →
        (b && list_all is_include_path xs) ≡ true → (b && list_all is_include_path (xs ++ ys)) ≡ true
    by_test true behind p = behind p
    by_test false behind p = p

-- ---- a whole statement

shown : (b : Bool) (which : Construct) (at : ℕ) → on_true (not b) which at ≡ [] → (b && true) ≡ true
shown true which at e = refl
shown false which at e = absurd (cc)

include_level : (x : Expr) (d : ExprLayer) (ctx : Context) → whole_statement x d ctx ≡ [] → ArePaths (include_at d)
include_level x (Expr-F.Prefix at (prefix.Include form) path) ctx e = shown (is_include_path (part path).shape) c.IncludePath (part path).start
    (first_empty _ _ (second_empty (on_true ctx.in_function c.IncludeInFunction at.start) _ e))
include_level x (Expr-F.Prefix at prefix.Plus path) ctx e = refl
include_level x (Expr-F.Prefix at prefix.Minus path) ctx e = refl
include_level x (Expr-F.Prefix at prefix.BitNot path) ctx e = refl
include_level x (Expr-F.Prefix at prefix.Silence path) ctx e = refl
include_level x (Expr-F.Prefix at (prefix.Cast type) path) ctx e = refl
include_level x (Expr-F.Prefix at prefix.Not path) ctx e = refl
include_level x (Expr-F.Prefix at prefix.Print path) ctx e = refl
include_level x (Expr-F.Int at k) ctx e = refl
include_level x (Expr-F.Text at bytes) ctx e = refl
include_level x (Expr-F.Interpolated at parts) ctx e = refl
include_level x (Expr-F.Variable at name) ctx e = refl
include_level x (Expr-F.Constant at name) ctx e = refl
include_level x (Expr-F.Directory at) ctx e = refl
include_level x (Expr-F.Array at form items) ctx e = refl
include_level x (Expr-F.Call at name xs) ctx e = refl
include_level x (Expr-F.DynamicCall at y xs) ctx e = refl
include_level x (Expr-F.StaticCall at class name xs) ctx e = refl
include_level x (Expr-F.MethodCall at y name xs) ctx e = refl
include_level x (Expr-F.New at class xs) ctx e = refl
include_level x (Expr-F.ClassConstant at class name) ctx e = refl
include_level x (Expr-F.ClassName at class colons) ctx e = refl
include_level x (Expr-F.StaticProperty at class name) ctx e = refl
include_level x (Expr-F.Paren at y) ctx e = refl
include_level x (Expr-F.Isset at xs) ctx e = refl
include_level x (Expr-F.Empty at y) ctx e = refl
include_level x (Expr-F.Exit at) ctx e = refl
include_level x (Expr-F.ExitWith at y) ctx e = refl
include_level x (Expr-F.Path at y steps) ctx e = refl
include_level x (Expr-F.Update at form y) ctx e = refl
include_level x (Expr-F.InstanceOf at y classes) ctx e = refl
include_level x (Expr-F.Run at y more) ctx e = refl
include_level x (Expr-F.Pair at op y w) ctx e = refl
include_level x (Expr-F.Ternary at y w z) ctx e = refl
include_level x (Expr-F.ShortTernary at y more) ctx e = refl
include_level x (Expr-F.Assign at op y w) ctx e = refl
include_level x (Expr-F.AssignReference at y w ampersand) ctx e = refl
include_level x (Expr-F.Destructure at items y) ctx e = refl
include_level x (Expr-F.NamedArgument at name y) ctx e = refl

-- ---- one level

unfoldable member_refused : Member → MemberPart
member_refused = fold-Member MemberPart Refused Refused FunctionPart Refused Refused member_part statement_part class_part function_part case_part else_if_part

unfoldable in_member : Member → Unit {0}
in_member = fold-Member (Unit {0}) (List Shape) (Unit {0}) (Unit {0}) (List Shape) (List Shape) member_includes statement_includes class_includes function_includes case_includes else_if_includes

unfoldable class_refused : Class → Refused
class_refused = fold-Class MemberPart Refused Refused FunctionPart Refused Refused member_part statement_part class_part function_part case_part else_if_part

unfoldable in_class : Class → Unit {0}
in_class = fold-Class (Unit {0}) (List Shape) (Unit {0}) (Unit {0}) (List Shape) (List Shape) member_includes statement_includes class_includes function_includes case_includes else_if_includes

unfoldable function_refused : Function → FunctionPart
function_refused = fold-Function MemberPart Refused Refused FunctionPart Refused Refused member_part statement_part class_part function_part case_part else_if_part

unfoldable in_function : Function → Unit {0}
in_function = fold-Function (Unit {0}) (List Shape) (Unit {0}) (Unit {0}) (List Shape) (List Shape) member_includes statement_includes class_includes function_includes case_includes else_if_includes

unfoldable case_refused : Case → Refused
case_refused = fold-Case MemberPart Refused Refused FunctionPart Refused Refused member_part statement_part class_part function_part case_part else_if_part

unfoldable in_case : Case → List Shape
in_case = fold-Case (Unit {0}) (List Shape) (Unit {0}) (Unit {0}) (List Shape) (List Shape) member_includes statement_includes class_includes function_includes case_includes else_if_includes

unfoldable branch_refused : ElseIf → Refused
branch_refused = fold-ElseIf MemberPart Refused Refused FunctionPart Refused Refused member_part statement_part class_part function_part case_part else_if_part

unfoldable in_branch : ElseIf → List Shape
in_branch = fold-ElseIf (Unit {0}) (List Shape) (Unit {0}) (Unit {0}) (List Shape) (List Shape) member_includes statement_includes class_includes function_includes case_includes else_if_includes

statement_refused_rolled : (d : Statement-F Member Statement Class Function Case ElseIf) → statement_refused (roll-Statement d) ≡ statement_part (map-Statement Member Statement Class Function Case ElseIf MemberPart Refused Refused FunctionPart Refused Refused member_refused statement_refused class_refused function_refused case_refused branch_refused d)
unfolding member_refused statement_refused class_refused function_refused case_refused branch_refused
statement_refused_rolled d = fold-roll-Statement MemberPart Refused Refused FunctionPart Refused Refused member_part statement_part class_part function_part case_part else_if_part d

includes_in_rolled : (d : Statement-F Member Statement Class Function Case ElseIf) → includes_in (roll-Statement d) ≡ statement_includes (map-Statement Member Statement Class Function Case ElseIf (Unit {0}) (List Shape) (Unit {0}) (Unit {0}) (List Shape) (List Shape) in_member includes_in in_class in_function in_case in_branch d)
unfolding in_member includes_in in_class in_function in_case in_branch
includes_in_rolled d = fold-roll-Statement (Unit {0}) (List Shape) (Unit {0}) (Unit {0}) (List Shape) (List Shape) member_includes statement_includes class_includes function_includes case_includes else_if_includes d

case_refused_rolled : (d : Case-F Member Statement Class Function Case ElseIf) → case_refused (roll-Case d) ≡ case_part (map-Case Member Statement Class Function Case ElseIf MemberPart Refused Refused FunctionPart Refused Refused member_refused statement_refused class_refused function_refused case_refused branch_refused d)
unfolding member_refused statement_refused class_refused function_refused case_refused branch_refused
case_refused_rolled d = fold-roll-Case MemberPart Refused Refused FunctionPart Refused Refused member_part statement_part class_part function_part case_part else_if_part d

in_case_rolled : (d : Case-F Member Statement Class Function Case ElseIf) → in_case (roll-Case d) ≡ case_includes (map-Case Member Statement Class Function Case ElseIf (Unit {0}) (List Shape) (Unit {0}) (Unit {0}) (List Shape) (List Shape) in_member includes_in in_class in_function in_case in_branch d)
unfolding in_member includes_in in_class in_function in_case in_branch
in_case_rolled d = fold-roll-Case (Unit {0}) (List Shape) (Unit {0}) (Unit {0}) (List Shape) (List Shape) member_includes statement_includes class_includes function_includes case_includes else_if_includes d

branch_refused_rolled : (d : ElseIf-F Member Statement Class Function Case ElseIf) → branch_refused (roll-ElseIf d) ≡ else_if_part (map-ElseIf Member Statement Class Function Case ElseIf MemberPart Refused Refused FunctionPart Refused Refused member_refused statement_refused class_refused function_refused case_refused branch_refused d)
unfolding member_refused statement_refused class_refused function_refused case_refused branch_refused
branch_refused_rolled d = fold-roll-ElseIf MemberPart Refused Refused FunctionPart Refused Refused member_part statement_part class_part function_part case_part else_if_part d

in_branch_rolled : (d : ElseIf-F Member Statement Class Function Case ElseIf) → in_branch (roll-ElseIf d) ≡ else_if_includes (map-ElseIf Member Statement Class Function Case ElseIf (Unit {0}) (List Shape) (Unit {0}) (Unit {0}) (List Shape) (List Shape) in_member includes_in in_class in_function in_case in_branch d)
unfolding in_member includes_in in_class in_function in_case in_branch
in_branch_rolled d = fold-roll-ElseIf (Unit {0}) (List Shape) (Unit {0}) (Unit {0}) (List Shape) (List Shape) member_includes statement_includes class_includes function_includes case_includes else_if_includes d

-- ---- what holds of a tree and of its parts

abbrev Holds : Refused → List Shape → Type 0
Holds refused shapes = (ctx : Context) → refused ctx ≡ [] → ArePaths shapes

abbrev MemberHolds : Member → Type 0
MemberHolds m = Unit {0}

abbrev StatementHolds : Statement → Type 0
StatementHolds x = Holds (statement_refused x) (includes_in x)

abbrev ClassHolds : Class → Type 0
ClassHolds c = Unit {0}

abbrev FunctionHolds : Function → Type 0
FunctionHolds f = Unit {0}

abbrev CaseHolds : Case → Type 0
CaseHolds c = Holds (case_refused c) (in_case c)

abbrev BranchHolds : ElseIf → Type 0
BranchHolds b = Holds (branch_refused b) (in_branch b)

abbrev HeldMember : Type 0
HeldMember = (x : Member) × MemberHolds x

abbrev HeldStatement : Type 0
HeldStatement = (x : Statement) × StatementHolds x

abbrev HeldClass : Type 0
HeldClass = (x : Class) × ClassHolds x

abbrev HeldFunction : Type 0
HeldFunction = (x : Function) × FunctionHolds x

abbrev HeldCase : Type 0
HeldCase = (x : Case) × CaseHolds x

abbrev HeldBranch : Type 0
HeldBranch = (x : ElseIf) × BranchHolds x

abbrev only_member : Member-F HeldMember HeldStatement HeldClass HeldFunction HeldCase HeldBranch → Member-F Member Statement Class Function Case ElseIf
only_member y = map-Member HeldMember HeldStatement HeldClass HeldFunction HeldCase HeldBranch Member Statement Class Function Case ElseIf (λ e. e.0) (λ e. e.0) (λ e. e.0) (λ e. e.0) (λ e. e.0) (λ e. e.0) y

abbrev only_statement : Statement-F HeldMember HeldStatement HeldClass HeldFunction HeldCase HeldBranch → Statement-F Member Statement Class Function Case ElseIf
only_statement y = map-Statement HeldMember HeldStatement HeldClass HeldFunction HeldCase HeldBranch Member Statement Class Function Case ElseIf (λ e. e.0) (λ e. e.0) (λ e. e.0) (λ e. e.0) (λ e. e.0) (λ e. e.0) y

abbrev only_class : Class-F HeldMember HeldStatement HeldClass HeldFunction HeldCase HeldBranch → Class-F Member Statement Class Function Case ElseIf
only_class y = map-Class HeldMember HeldStatement HeldClass HeldFunction HeldCase HeldBranch Member Statement Class Function Case ElseIf (λ e. e.0) (λ e. e.0) (λ e. e.0) (λ e. e.0) (λ e. e.0) (λ e. e.0) y

abbrev only_function : Function-F HeldMember HeldStatement HeldClass HeldFunction HeldCase HeldBranch → Function-F Member Statement Class Function Case ElseIf
only_function y = map-Function HeldMember HeldStatement HeldClass HeldFunction HeldCase HeldBranch Member Statement Class Function Case ElseIf (λ e. e.0) (λ e. e.0) (λ e. e.0) (λ e. e.0) (λ e. e.0) (λ e. e.0) y

abbrev only_case : Case-F HeldMember HeldStatement HeldClass HeldFunction HeldCase HeldBranch → Case-F Member Statement Class Function Case ElseIf
only_case y = map-Case HeldMember HeldStatement HeldClass HeldFunction HeldCase HeldBranch Member Statement Class Function Case ElseIf (λ e. e.0) (λ e. e.0) (λ e. e.0) (λ e. e.0) (λ e. e.0) (λ e. e.0) y

abbrev only_branch : ElseIf-F HeldMember HeldStatement HeldClass HeldFunction HeldCase HeldBranch → ElseIf-F Member Statement Class Function Case ElseIf
only_branch y = map-ElseIf HeldMember HeldStatement HeldClass HeldFunction HeldCase HeldBranch Member Statement Class Function Case ElseIf (λ e. e.0) (λ e. e.0) (λ e. e.0) (λ e. e.0) (λ e. e.0) (λ e. e.0) y

statements_hold : (xs : List HeldStatement) → Holds (all_in (λ s. s) (map statement_refused (map (λ e. e.0) xs))) (flat_map (λ s. s) (map includes_in (map (λ e. e.0) xs)))
statements_hold [] ctx e = refl
statements_hold (x ∷ xs) ctx e = both_paths (includes_in x.0) _ (x.1 ctx (first_empty _ _ e)) (statements_hold xs ctx (second_empty (statement_refused x.0 ctx) _ e))

cases_hold : (xs : List HeldCase) → Holds (all_in (λ s. s) (map case_refused (map (λ e. e.0) xs))) (flat_map (λ s. s) (map in_case (map (λ e. e.0) xs)))
cases_hold [] ctx e = refl
cases_hold (x ∷ xs) ctx e = both_paths (in_case x.0) _ (x.1 ctx (first_empty _ _ e)) (cases_hold xs ctx (second_empty (case_refused x.0 ctx) _ e))

branches_hold : (xs : List HeldBranch) → Holds (all_in (λ s. s) (map branch_refused (map (λ e. e.0) xs))) (flat_map (λ s. s) (map in_branch (map (λ e. e.0) xs)))
branches_hold [] ctx e = refl
branches_hold (x ∷ xs) ctx e = both_paths (in_branch x.0) _ (x.1 ctx (first_empty _ _ e)) (branches_hold xs ctx (second_empty (branch_refused x.0 ctx) _ e))

if_holds : (x : Expr) (body : HeldStatement) (more : List HeldBranch) (other : Refused) (shapes : List Shape) → Holds other shapes →
    Holds (λ ctx. refused_in x ctx ++ (statement_refused body.0 ctx ++ (all_in (λ b. b) (map branch_refused (map (λ e. e.0) more)) ctx ++ other ctx)))
    (includes_in body.0 ++ (flat_map (λ b. b) (map in_branch (map (λ e. e.0) more)) ++ shapes))
if_holds x body more other shapes holds ctx e = both_paths (includes_in body.0) _ (body.1 ctx (first_empty _ _ behind))
    (both_paths (flat_map (λ b. b) (map in_branch (map (λ e. e.0) more))) shapes (branches_hold more ctx (first_empty _ _ last))
    (holds ctx (second_empty (all_in (λ b. b) (map branch_refused (map (λ e. e.0) more)) ctx) _ last)))
  where
    behind : statement_refused body.0 ctx ++ (all_in (λ b. b) (map branch_refused (map (λ e. e.0) more)) ctx ++ other ctx) ≡ []
    behind = second_empty (refused_in x ctx) _ e

    last : all_in (λ b. b) (map branch_refused (map (λ e. e.0) more)) ctx ++ other ctx ≡ []
    last = second_empty (statement_refused body.0 ctx) _ behind

statement_level : (y : Statement-F HeldMember HeldStatement HeldClass HeldFunction HeldCase HeldBranch) →
    Holds (statement_part (map-Statement Member Statement Class Function Case ElseIf MemberPart Refused Refused FunctionPart Refused Refused member_refused statement_refused class_refused function_refused case_refused branch_refused (only_statement y)))
    (statement_includes (map-Statement Member Statement Class Function Case ElseIf (Unit {0}) (List Shape) (Unit {0}) (Unit {0}) (List Shape) (List Shape) in_member includes_in in_class in_function in_case in_branch (only_statement y)))
statement_level (Statement-F.Block at body) ctx e = statements_hold body ctx e
statement_level (Statement-F.Expression at x) ctx e = include_level x (out-Expr x) ctx e
statement_level (Statement-F.If at x body more None) ctx e = if_holds x body more (λ ctx. []) [] (λ ctx e. refl) ctx e
statement_level (Statement-F.If at x body more (Some other)) ctx e = if_holds x body more (statement_refused other.0) (includes_in other.0) other.1 ctx e
statement_level (Statement-F.While at x body) ctx e = body.1 (in_loop ctx) (second_empty (refused_in x ctx) _ e)
statement_level (Statement-F.DoWhile at body x) ctx e = body.1 (in_loop ctx) (first_empty _ _ e)
statement_level (Statement-F.For at init test step body) ctx e = body.1 (in_loop ctx) (second_empty (all_in refused_in step ctx) _
    (second_empty (all_in refused_in test ctx) _ (second_empty (all_in refused_in init ctx) _ e)))
statement_level (Statement-F.Foreach at x key element body) ctx e = body.1 (in_loop ctx) (second_empty (target_refused element ctx) _
    (second_empty (maybe bound key ctx) _ (second_empty (refused_in x ctx) _ e)))
statement_level (Statement-F.Switch at x cases) ctx e = cases_hold cases (in_loop ctx) (second_empty (refused_in x ctx) _ e)
statement_level (Statement-F.Empty at) ctx e = refl
statement_level (Statement-F.InlineText at bytes) ctx e = refl
statement_level (Statement-F.Function f) ctx e = refl
statement_level (Statement-F.Class c) ctx e = refl
statement_level (Statement-F.Break at levels) ctx e = refl
statement_level (Statement-F.Continue at levels) ctx e = refl
statement_level (Statement-F.Return at result) ctx e = refl
statement_level (Statement-F.Echo at xs) ctx e = refl
statement_level (Statement-F.Global at names) ctx e = refl
statement_level (Statement-F.Static at variables) ctx e = refl
statement_level (Statement-F.Unset at paths) ctx e = refl
statement_level (Statement-F.Const at items) ctx e = refl

-- ---- whole trees

by_both : {r s : Refused} {xs ys : List Shape} → r ≡ s → xs ≡ ys → Holds s ys → Holds r xs
by_both e e' h ctx none = subst ArePaths (sym e') (h ctx (sym (ap (λ r. r ctx) e) ∙ none))

statement_made : (x : Statement-F Member Statement Class Function Case ElseIf) (y : Statement-F HeldMember HeldStatement HeldClass HeldFunction HeldCase HeldBranch) → only_statement y ≡ x → StatementHolds (roll-Statement x)
statement_made x y is = subst (λ d. StatementHolds (roll-Statement d)) is
    (by_both (statement_refused_rolled (only_statement y)) (includes_in_rolled (only_statement y)) (statement_level y))

case_level : (y : Case-F HeldMember HeldStatement HeldClass HeldFunction HeldCase HeldBranch) → Holds (case_part (map-Case Member Statement Class Function Case ElseIf MemberPart Refused Refused FunctionPart Refused Refused member_refused statement_refused class_refused function_refused case_refused branch_refused (only_case y)))
    (case_includes (map-Case Member Statement Class Function Case ElseIf (Unit {0}) (List Shape) (Unit {0}) (Unit {0}) (List Shape) (List Shape) in_member includes_in in_class in_function in_case in_branch (only_case y)))
case_level y ctx e = statements_hold y.body ctx (second_empty (maybe refused_in y.test ctx) _ e)

case_made : (x : Case-F Member Statement Class Function Case ElseIf) (y : Case-F HeldMember HeldStatement HeldClass HeldFunction HeldCase HeldBranch) → only_case y ≡ x → CaseHolds (roll-Case x)
case_made x y is = subst (λ d. CaseHolds (roll-Case d)) is
    (by_both (case_refused_rolled (only_case y)) (in_case_rolled (only_case y)) (case_level y))

branch_level : (y : ElseIf-F HeldMember HeldStatement HeldClass HeldFunction HeldCase HeldBranch) → Holds (else_if_part (map-ElseIf Member Statement Class Function Case ElseIf MemberPart Refused Refused FunctionPart Refused Refused member_refused statement_refused class_refused function_refused case_refused branch_refused (only_branch y)))
    (else_if_includes (map-ElseIf Member Statement Class Function Case ElseIf (Unit {0}) (List Shape) (Unit {0}) (Unit {0}) (List Shape) (List Shape) in_member includes_in in_class in_function in_case in_branch (only_branch y)))
branch_level y ctx e = y.body.1 ctx (second_empty (refused_in y.test ctx) _ e)

branch_made : (x : ElseIf-F Member Statement Class Function Case ElseIf) (y : ElseIf-F HeldMember HeldStatement HeldClass HeldFunction HeldCase HeldBranch) → only_branch y ≡ x → BranchHolds (roll-ElseIf x)
branch_made x y is = subst (λ d. BranchHolds (roll-ElseIf d)) is
    (by_both (branch_refused_rolled (only_branch y)) (in_branch_rolled (only_branch y)) (branch_level y))

pub includes_are_paths : (x : Statement) → Holds (statement_refused x) (includes_in x)
includes_are_paths = ind-Statement MemberHolds StatementHolds ClassHolds FunctionHolds CaseHolds BranchHolds
    (λ x y is. tt) statement_made (λ x y is. tt) (λ x y is. tt) case_made branch_made

pub all_are_paths : (ss : List Statement) (ctx : Context) → all_in statement_refused ss ctx ≡ [] → ArePaths (flat_map includes_in ss)
all_are_paths [] ctx e = refl
all_are_paths (s ∷ ss) ctx e = both_paths (includes_in s) _ (includes_are_paths s ctx (first_empty _ _ e)) (all_are_paths ss ctx (second_empty (statement_refused s ctx) _ e))
