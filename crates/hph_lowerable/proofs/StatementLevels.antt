-- One level of statements: how many nodes a node has by those of its parts, and whether it is as it should be by whether they are;
-- and what tokens that spell its parts tell of it.
use Rattle.std.specs.Prelude.{◌≡◌, ℕ, suc, Bool, List, Option}
use Rattle.std.proofs.Common.{sym, subst}
use Rattle.hph_ast.specs.declared.token.At.{At}
use Rattle.hph_ast.specs.declared.token.Token.{Token}
use Rattle.hph_ast.specs.declared.token.Identifier.{Identifier}
use Rattle.hph_ast.specs.declared.expr.Expr.{Expr}
use Rattle.hph_ast.specs.declared.function.DeclaredType.{DeclaredType}
use Rattle.hph_ast.specs.declared.function.Function.{Function, roll-Function}
use Rattle.hph_ast.specs.declared.class.Class.{Class, roll-Class}
use Rattle.hph_ast.specs.declared.class.Modifiers.{Modifiers}
use Rattle.hph_ast.specs.declared.class.ConstantItem.{ConstantItem}
use Rattle.hph_ast.specs.declared.class.PropertyItem.{PropertyItem}
use Rattle.hph_ast.specs.declared.class.Member.{Member, roll-Member}
use Rattle.hph_ast.specs.declared.class.Member.TheVariants as member
use Rattle.hph_ast.specs.declared.class.Member.TheOpen.{Member-F, Statement-F, Class-F, Function-F, Case-F, ElseIf-F}
use Rattle.hph_ast.specs.declared.class.Member.TheFolds.{fold-Member, fold-Class, fold-Function, fold-Case, fold-ElseIf, fold-roll-Member, fold-roll-Statement, fold-roll-Class, fold-roll-Function, fold-roll-Case, fold-roll-ElseIf, map-Member, map-Statement, map-Class, map-Function, map-Case, map-ElseIf}
use Rattle.hph_ast.specs.declared.stmt.Statement.{Statement, roll-Statement}
use Rattle.hph_ast.specs.declared.stmt.Statement.TheVariants as s
use Rattle.hph_ast.specs.declared.stmt.Case.{Case, roll-Case}
use Rattle.hph_ast.specs.declared.stmt.ElseIf.{ElseIf, roll-ElseIf}
use Rattle.hph_ast.specs.declared.stmt.StaticVariable.{StaticVariable}
use Rattle.hph_ast.specs.declared.stmt.ForeachTarget.{ForeachTarget}
use Rattle.hph_php.specs.Cost.{statement_nodes, statement_nodes_by, member_nodes_of, class_nodes_of, function_nodes_by, case_nodes_by, else_if_nodes_by}
use Rattle.hph_lowerable.specs.Facts.{statement_fits, statement_fits_by, member_fits_by, class_declaration_fits_by, function_fits_by, case_fits_by, else_if_fits_by}
use Rattle.hph_lowerable.proofs.Chains.{Chain}

unfoldable pub member_nodes : Member → ℕ
member_nodes = fold-Member ℕ ℕ ℕ ℕ ℕ ℕ member_nodes_of statement_nodes_by class_nodes_of function_nodes_by case_nodes_by else_if_nodes_by

unfoldable pub member_fits : Member → Bool
member_fits = fold-Member Bool Bool Bool Bool Bool Bool member_fits_by statement_fits_by class_declaration_fits_by function_fits_by case_fits_by else_if_fits_by

unfoldable pub class_nodes : Class → ℕ
class_nodes = fold-Class ℕ ℕ ℕ ℕ ℕ ℕ member_nodes_of statement_nodes_by class_nodes_of function_nodes_by case_nodes_by else_if_nodes_by

unfoldable pub class_fits : Class → Bool
class_fits = fold-Class Bool Bool Bool Bool Bool Bool member_fits_by statement_fits_by class_declaration_fits_by function_fits_by case_fits_by else_if_fits_by

unfoldable pub function_nodes : Function → ℕ
function_nodes = fold-Function ℕ ℕ ℕ ℕ ℕ ℕ member_nodes_of statement_nodes_by class_nodes_of function_nodes_by case_nodes_by else_if_nodes_by

unfoldable pub function_fits : Function → Bool
function_fits = fold-Function Bool Bool Bool Bool Bool Bool member_fits_by statement_fits_by class_declaration_fits_by function_fits_by case_fits_by else_if_fits_by

unfoldable pub case_nodes : Case → ℕ
case_nodes = fold-Case ℕ ℕ ℕ ℕ ℕ ℕ member_nodes_of statement_nodes_by class_nodes_of function_nodes_by case_nodes_by else_if_nodes_by

unfoldable pub case_fits : Case → Bool
case_fits = fold-Case Bool Bool Bool Bool Bool Bool member_fits_by statement_fits_by class_declaration_fits_by function_fits_by case_fits_by else_if_fits_by

unfoldable pub branch_nodes : ElseIf → ℕ
branch_nodes = fold-ElseIf ℕ ℕ ℕ ℕ ℕ ℕ member_nodes_of statement_nodes_by class_nodes_of function_nodes_by case_nodes_by else_if_nodes_by

unfoldable pub branch_fits : ElseIf → Bool
branch_fits = fold-ElseIf Bool Bool Bool Bool Bool Bool member_fits_by statement_fits_by class_declaration_fits_by function_fits_by case_fits_by else_if_fits_by

abbrev pub statement_nodes_at : Statement-F Member Statement Class Function Case ElseIf → ℕ
statement_nodes_at d = statement_nodes_by (map-Statement Member Statement Class Function Case ElseIf ℕ ℕ ℕ ℕ ℕ ℕ member_nodes statement_nodes class_nodes function_nodes case_nodes branch_nodes d)

abbrev pub statement_fits_at : Statement-F Member Statement Class Function Case ElseIf → Bool
statement_fits_at d = statement_fits_by (map-Statement Member Statement Class Function Case ElseIf Bool Bool Bool Bool Bool Bool member_fits statement_fits class_fits function_fits case_fits branch_fits d)

pub statement_nodes_rolled : (d : Statement-F Member Statement Class Function Case ElseIf) → statement_nodes (roll-Statement d) ≡ statement_nodes_at d
unfolding member_nodes statement_nodes class_nodes function_nodes case_nodes branch_nodes
statement_nodes_rolled d = fold-roll-Statement ℕ ℕ ℕ ℕ ℕ ℕ member_nodes_of statement_nodes_by class_nodes_of function_nodes_by case_nodes_by else_if_nodes_by d

pub statement_fits_rolled : (d : Statement-F Member Statement Class Function Case ElseIf) → statement_fits (roll-Statement d) ≡ statement_fits_at d
unfolding member_fits statement_fits class_fits function_fits case_fits branch_fits
statement_fits_rolled d = fold-roll-Statement Bool Bool Bool Bool Bool Bool member_fits_by statement_fits_by class_declaration_fits_by function_fits_by case_fits_by else_if_fits_by d

pub record SpeltStatement (ts : List Token) (x : Statement) (rest : List Token) : Type 0 where
  pub chain : Chain ts (statement_nodes x) (statement_fits x) rest

pub of_statement : {ts rest : List Token} (d : Statement-F Member Statement Class Function Case ElseIf) → Chain ts (statement_nodes_at d) (statement_fits_at d) rest → SpeltStatement ts (roll-Statement d) rest
of_statement {ts} {rest} d c = record {
  chain = subst (λ f. Chain ts (statement_nodes (roll-Statement d)) f rest) (sym (statement_fits_rolled d))
      (subst (λ n. Chain ts (n) (statement_fits_at d) rest) (sym (statement_nodes_rolled d)) c);
}

abbrev pub member_nodes_at : Member-F Member Statement Class Function Case ElseIf → ℕ
member_nodes_at d = member_nodes_of (map-Member Member Statement Class Function Case ElseIf ℕ ℕ ℕ ℕ ℕ ℕ member_nodes statement_nodes class_nodes function_nodes case_nodes branch_nodes d)

abbrev pub member_fits_at : Member-F Member Statement Class Function Case ElseIf → Bool
member_fits_at d = member_fits_by (map-Member Member Statement Class Function Case ElseIf Bool Bool Bool Bool Bool Bool member_fits statement_fits class_fits function_fits case_fits branch_fits d)

pub member_nodes_rolled : (d : Member-F Member Statement Class Function Case ElseIf) → member_nodes (roll-Member d) ≡ member_nodes_at d
unfolding member_nodes statement_nodes class_nodes function_nodes case_nodes branch_nodes
member_nodes_rolled d = fold-roll-Member ℕ ℕ ℕ ℕ ℕ ℕ member_nodes_of statement_nodes_by class_nodes_of function_nodes_by case_nodes_by else_if_nodes_by d

pub member_fits_rolled : (d : Member-F Member Statement Class Function Case ElseIf) → member_fits (roll-Member d) ≡ member_fits_at d
unfolding member_fits statement_fits class_fits function_fits case_fits branch_fits
member_fits_rolled d = fold-roll-Member Bool Bool Bool Bool Bool Bool member_fits_by statement_fits_by class_declaration_fits_by function_fits_by case_fits_by else_if_fits_by d

pub record SpeltMember (ts : List Token) (x : Member) (rest : List Token) : Type 0 where
  pub chain : Chain ts (member_nodes x) (member_fits x) rest

pub of_member : {ts rest : List Token} (d : Member-F Member Statement Class Function Case ElseIf) → Chain ts (member_nodes_at d) (member_fits_at d) rest → SpeltMember ts (roll-Member d) rest
of_member {ts} {rest} d c = record {
  chain = subst (λ f. Chain ts (member_nodes (roll-Member d)) f rest) (sym (member_fits_rolled d))
      (subst (λ n. Chain ts (n) (member_fits_at d) rest) (sym (member_nodes_rolled d)) c);
}

abbrev pub class_nodes_at : Class-F Member Statement Class Function Case ElseIf → ℕ
class_nodes_at d = class_nodes_of (map-Class Member Statement Class Function Case ElseIf ℕ ℕ ℕ ℕ ℕ ℕ member_nodes statement_nodes class_nodes function_nodes case_nodes branch_nodes d)

abbrev pub class_fits_at : Class-F Member Statement Class Function Case ElseIf → Bool
class_fits_at d = class_declaration_fits_by (map-Class Member Statement Class Function Case ElseIf Bool Bool Bool Bool Bool Bool member_fits statement_fits class_fits function_fits case_fits branch_fits d)

pub class_nodes_rolled : (d : Class-F Member Statement Class Function Case ElseIf) → class_nodes (roll-Class d) ≡ class_nodes_at d
unfolding member_nodes statement_nodes class_nodes function_nodes case_nodes branch_nodes
class_nodes_rolled d = fold-roll-Class ℕ ℕ ℕ ℕ ℕ ℕ member_nodes_of statement_nodes_by class_nodes_of function_nodes_by case_nodes_by else_if_nodes_by d

pub class_fits_rolled : (d : Class-F Member Statement Class Function Case ElseIf) → class_fits (roll-Class d) ≡ class_fits_at d
unfolding member_fits statement_fits class_fits function_fits case_fits branch_fits
class_fits_rolled d = fold-roll-Class Bool Bool Bool Bool Bool Bool member_fits_by statement_fits_by class_declaration_fits_by function_fits_by case_fits_by else_if_fits_by d

pub record SpeltClassDeclaration (ts : List Token) (x : Class) (rest : List Token) : Type 0 where
  pub chain : Chain ts (class_nodes x) (class_fits x) rest

pub of_class : {ts rest : List Token} (d : Class-F Member Statement Class Function Case ElseIf) → Chain ts (class_nodes_at d) (class_fits_at d) rest → SpeltClassDeclaration ts (roll-Class d) rest
of_class {ts} {rest} d c = record {
  chain = subst (λ f. Chain ts (class_nodes (roll-Class d)) f rest) (sym (class_fits_rolled d))
      (subst (λ n. Chain ts (n) (class_fits_at d) rest) (sym (class_nodes_rolled d)) c);
}

abbrev pub function_nodes_at : Function-F Member Statement Class Function Case ElseIf → ℕ
function_nodes_at d = function_nodes_by (map-Function Member Statement Class Function Case ElseIf ℕ ℕ ℕ ℕ ℕ ℕ member_nodes statement_nodes class_nodes function_nodes case_nodes branch_nodes d)

abbrev pub function_fits_at : Function-F Member Statement Class Function Case ElseIf → Bool
function_fits_at d = function_fits_by (map-Function Member Statement Class Function Case ElseIf Bool Bool Bool Bool Bool Bool member_fits statement_fits class_fits function_fits case_fits branch_fits d)

pub function_nodes_rolled : (d : Function-F Member Statement Class Function Case ElseIf) → function_nodes (roll-Function d) ≡ function_nodes_at d
unfolding member_nodes statement_nodes class_nodes function_nodes case_nodes branch_nodes
function_nodes_rolled d = fold-roll-Function ℕ ℕ ℕ ℕ ℕ ℕ member_nodes_of statement_nodes_by class_nodes_of function_nodes_by case_nodes_by else_if_nodes_by d

pub function_fits_rolled : (d : Function-F Member Statement Class Function Case ElseIf) → function_fits (roll-Function d) ≡ function_fits_at d
unfolding member_fits statement_fits class_fits function_fits case_fits branch_fits
function_fits_rolled d = fold-roll-Function Bool Bool Bool Bool Bool Bool member_fits_by statement_fits_by class_declaration_fits_by function_fits_by case_fits_by else_if_fits_by d

pub record SpeltFunction (ts : List Token) (x : Function) (rest : List Token) : Type 0 where
  pub chain : Chain ts (suc (function_nodes x)) (function_fits x) rest

pub of_function : {ts rest : List Token} (d : Function-F Member Statement Class Function Case ElseIf) → Chain ts (suc (function_nodes_at d)) (function_fits_at d) rest → SpeltFunction ts (roll-Function d) rest
of_function {ts} {rest} d c = record {
  chain = subst (λ f. Chain ts (suc (function_nodes (roll-Function d))) f rest) (sym (function_fits_rolled d))
      (subst (λ n. Chain ts (suc (n)) (function_fits_at d) rest) (sym (function_nodes_rolled d)) c);
}

abbrev pub case_nodes_at : Case-F Member Statement Class Function Case ElseIf → ℕ
case_nodes_at d = case_nodes_by (map-Case Member Statement Class Function Case ElseIf ℕ ℕ ℕ ℕ ℕ ℕ member_nodes statement_nodes class_nodes function_nodes case_nodes branch_nodes d)

abbrev pub case_fits_at : Case-F Member Statement Class Function Case ElseIf → Bool
case_fits_at d = case_fits_by (map-Case Member Statement Class Function Case ElseIf Bool Bool Bool Bool Bool Bool member_fits statement_fits class_fits function_fits case_fits branch_fits d)

pub case_nodes_rolled : (d : Case-F Member Statement Class Function Case ElseIf) → case_nodes (roll-Case d) ≡ case_nodes_at d
unfolding member_nodes statement_nodes class_nodes function_nodes case_nodes branch_nodes
case_nodes_rolled d = fold-roll-Case ℕ ℕ ℕ ℕ ℕ ℕ member_nodes_of statement_nodes_by class_nodes_of function_nodes_by case_nodes_by else_if_nodes_by d

pub case_fits_rolled : (d : Case-F Member Statement Class Function Case ElseIf) → case_fits (roll-Case d) ≡ case_fits_at d
unfolding member_fits statement_fits class_fits function_fits case_fits branch_fits
case_fits_rolled d = fold-roll-Case Bool Bool Bool Bool Bool Bool member_fits_by statement_fits_by class_declaration_fits_by function_fits_by case_fits_by else_if_fits_by d

pub record SpeltCase (ts : List Token) (x : Case) (rest : List Token) : Type 0 where
  pub chain : Chain ts (case_nodes x) (case_fits x) rest

pub of_case : {ts rest : List Token} (d : Case-F Member Statement Class Function Case ElseIf) → Chain ts (case_nodes_at d) (case_fits_at d) rest → SpeltCase ts (roll-Case d) rest
of_case {ts} {rest} d c = record {
  chain = subst (λ f. Chain ts (case_nodes (roll-Case d)) f rest) (sym (case_fits_rolled d))
      (subst (λ n. Chain ts (n) (case_fits_at d) rest) (sym (case_nodes_rolled d)) c);
}

abbrev pub branch_nodes_at : ElseIf-F Member Statement Class Function Case ElseIf → ℕ
branch_nodes_at d = else_if_nodes_by (map-ElseIf Member Statement Class Function Case ElseIf ℕ ℕ ℕ ℕ ℕ ℕ member_nodes statement_nodes class_nodes function_nodes case_nodes branch_nodes d)

abbrev pub branch_fits_at : ElseIf-F Member Statement Class Function Case ElseIf → Bool
branch_fits_at d = else_if_fits_by (map-ElseIf Member Statement Class Function Case ElseIf Bool Bool Bool Bool Bool Bool member_fits statement_fits class_fits function_fits case_fits branch_fits d)

pub branch_nodes_rolled : (d : ElseIf-F Member Statement Class Function Case ElseIf) → branch_nodes (roll-ElseIf d) ≡ branch_nodes_at d
unfolding member_nodes statement_nodes class_nodes function_nodes case_nodes branch_nodes
branch_nodes_rolled d = fold-roll-ElseIf ℕ ℕ ℕ ℕ ℕ ℕ member_nodes_of statement_nodes_by class_nodes_of function_nodes_by case_nodes_by else_if_nodes_by d

pub branch_fits_rolled : (d : ElseIf-F Member Statement Class Function Case ElseIf) → branch_fits (roll-ElseIf d) ≡ branch_fits_at d
unfolding member_fits statement_fits class_fits function_fits case_fits branch_fits
branch_fits_rolled d = fold-roll-ElseIf Bool Bool Bool Bool Bool Bool member_fits_by statement_fits_by class_declaration_fits_by function_fits_by case_fits_by else_if_fits_by d

pub record SpeltBranch (ts : List Token) (x : ElseIf) (rest : List Token) : Type 0 where
  pub chain : Chain ts (branch_nodes x) (branch_fits x) rest

pub of_else_if : {ts rest : List Token} (d : ElseIf-F Member Statement Class Function Case ElseIf) → Chain ts (branch_nodes_at d) (branch_fits_at d) rest → SpeltBranch ts (roll-ElseIf d) rest
of_else_if {ts} {rest} d c = record {
  chain = subst (λ f. Chain ts (branch_nodes (roll-ElseIf d)) f rest) (sym (branch_fits_rolled d))
      (subst (λ n. Chain ts (n) (branch_fits_at d) rest) (sym (branch_nodes_rolled d)) c);
}

pub of_empty : {ts rest : List Token} {at : At} → Chain ts (statement_nodes_at (Statement-F.Empty at)) (statement_fits_at (Statement-F.Empty at)) rest → SpeltStatement ts (s.Empty at) rest
of_empty {ts} {rest} {at} h = subst (λ x. SpeltStatement ts x rest) (s.rolls-Empty at) (of_statement (Statement-F.Empty at) h)

pub of_inline_text : {ts rest : List Token} {at : At} {bytes : List ℕ} → Chain ts (statement_nodes_at (Statement-F.InlineText at bytes)) (statement_fits_at (Statement-F.InlineText at bytes)) rest → SpeltStatement ts (s.InlineText at bytes) rest
of_inline_text {ts} {rest} {at} {bytes} h = subst (λ x. SpeltStatement ts x rest) (s.rolls-InlineText at bytes) (of_statement (Statement-F.InlineText at bytes) h)

pub of_block : {ts rest : List Token} {at : At} (body : List Statement) → Chain ts (statement_nodes_at (Statement-F.Block at body)) (statement_fits_at (Statement-F.Block at body)) rest → SpeltStatement ts (s.Block at body) rest
of_block {ts} {rest} {at} body h = subst (λ x. SpeltStatement ts x rest) (s.rolls-Block at body) (of_statement (Statement-F.Block at body) h)

pub of_expression : {ts rest : List Token} {at : At} (x : Expr) → Chain ts (statement_nodes_at (Statement-F.Expression at x)) (statement_fits_at (Statement-F.Expression at x)) rest → SpeltStatement ts (s.Expression at x) rest
of_expression {ts} {rest} {at} x h = subst (λ x. SpeltStatement ts x rest) (s.rolls-Expression at x) (of_statement (Statement-F.Expression at x) h)

pub of_function_statement : {ts rest : List Token} (f : Function) → Chain ts (statement_nodes_at (Statement-F.Function f)) (statement_fits_at (Statement-F.Function f)) rest → SpeltStatement ts (s.Function f) rest
of_function_statement {ts} {rest} f h = subst (λ x. SpeltStatement ts x rest) (s.rolls-Function f) (of_statement (Statement-F.Function f) h)

pub of_class_statement : {ts rest : List Token} (c : Class) → Chain ts (statement_nodes_at (Statement-F.Class c)) (statement_fits_at (Statement-F.Class c)) rest → SpeltStatement ts (s.Class c) rest
of_class_statement {ts} {rest} c h = subst (λ x. SpeltStatement ts x rest) (s.rolls-Class c) (of_statement (Statement-F.Class c) h)

pub of_if : {ts rest : List Token} {at : At} (x : Expr) (body : Statement) (more : List ElseIf) (other : Option Statement) → Chain ts (statement_nodes_at (Statement-F.If at x body more other)) (statement_fits_at (Statement-F.If at x body more other)) rest → SpeltStatement ts (s.If at x body more other) rest
of_if {ts} {rest} {at} x body more other h = subst (λ x. SpeltStatement ts x rest) (s.rolls-If at x body more other) (of_statement (Statement-F.If at x body more other) h)

pub of_while : {ts rest : List Token} {at : At} (x : Expr) (body : Statement) → Chain ts (statement_nodes_at (Statement-F.While at x body)) (statement_fits_at (Statement-F.While at x body)) rest → SpeltStatement ts (s.While at x body) rest
of_while {ts} {rest} {at} x body h = subst (λ x. SpeltStatement ts x rest) (s.rolls-While at x body) (of_statement (Statement-F.While at x body) h)

pub of_do_while : {ts rest : List Token} {at : At} (body : Statement) (x : Expr) → Chain ts (statement_nodes_at (Statement-F.DoWhile at body x)) (statement_fits_at (Statement-F.DoWhile at body x)) rest → SpeltStatement ts (s.DoWhile at body x) rest
of_do_while {ts} {rest} {at} body x h = subst (λ x. SpeltStatement ts x rest) (s.rolls-DoWhile at body x) (of_statement (Statement-F.DoWhile at body x) h)

pub of_for : {ts rest : List Token} {at : At} (init : List Expr) (test : List Expr) (step : List Expr) (body : Statement) → Chain ts (statement_nodes_at (Statement-F.For at init test step body)) (statement_fits_at (Statement-F.For at init test step body)) rest → SpeltStatement ts (s.For at init test step body) rest
of_for {ts} {rest} {at} init test step body h = subst (λ x. SpeltStatement ts x rest) (s.rolls-For at init test step body) (of_statement (Statement-F.For at init test step body) h)

pub of_foreach : {ts rest : List Token} {at : At} (x : Expr) {key : Option Identifier} (element : ForeachTarget) (body : Statement) → Chain ts (statement_nodes_at (Statement-F.Foreach at x key element body)) (statement_fits_at (Statement-F.Foreach at x key element body)) rest → SpeltStatement ts (s.Foreach at x key element body) rest
of_foreach {ts} {rest} {at} x {key} element body h = subst (λ x. SpeltStatement ts x rest) (s.rolls-Foreach at x key element body) (of_statement (Statement-F.Foreach at x key element body) h)

pub of_switch : {ts rest : List Token} {at : At} (x : Expr) (cases : List Case) → Chain ts (statement_nodes_at (Statement-F.Switch at x cases)) (statement_fits_at (Statement-F.Switch at x cases)) rest → SpeltStatement ts (s.Switch at x cases) rest
of_switch {ts} {rest} {at} x cases h = subst (λ x. SpeltStatement ts x rest) (s.rolls-Switch at x cases) (of_statement (Statement-F.Switch at x cases) h)

pub of_break : {ts rest : List Token} {at : At} {levels : Option ℕ} → Chain ts (statement_nodes_at (Statement-F.Break at levels)) (statement_fits_at (Statement-F.Break at levels)) rest → SpeltStatement ts (s.Break at levels) rest
of_break {ts} {rest} {at} {levels} h = subst (λ x. SpeltStatement ts x rest) (s.rolls-Break at levels) (of_statement (Statement-F.Break at levels) h)

pub of_continue : {ts rest : List Token} {at : At} {levels : Option ℕ} → Chain ts (statement_nodes_at (Statement-F.Continue at levels)) (statement_fits_at (Statement-F.Continue at levels)) rest → SpeltStatement ts (s.Continue at levels) rest
of_continue {ts} {rest} {at} {levels} h = subst (λ x. SpeltStatement ts x rest) (s.rolls-Continue at levels) (of_statement (Statement-F.Continue at levels) h)

pub of_return : {ts rest : List Token} {at : At} (result : Option Expr) → Chain ts (statement_nodes_at (Statement-F.Return at result)) (statement_fits_at (Statement-F.Return at result)) rest → SpeltStatement ts (s.Return at result) rest
of_return {ts} {rest} {at} result h = subst (λ x. SpeltStatement ts x rest) (s.rolls-Return at result) (of_statement (Statement-F.Return at result) h)

pub of_echo : {ts rest : List Token} {at : At} (xs : List Expr) → Chain ts (statement_nodes_at (Statement-F.Echo at xs)) (statement_fits_at (Statement-F.Echo at xs)) rest → SpeltStatement ts (s.Echo at xs) rest
of_echo {ts} {rest} {at} xs h = subst (λ x. SpeltStatement ts x rest) (s.rolls-Echo at xs) (of_statement (Statement-F.Echo at xs) h)

pub of_global : {ts rest : List Token} {at : At} {names : List Identifier} → Chain ts (statement_nodes_at (Statement-F.Global at names)) (statement_fits_at (Statement-F.Global at names)) rest → SpeltStatement ts (s.Global at names) rest
of_global {ts} {rest} {at} {names} h = subst (λ x. SpeltStatement ts x rest) (s.rolls-Global at names) (of_statement (Statement-F.Global at names) h)

pub of_static : {ts rest : List Token} {at : At} (variables : List StaticVariable) → Chain ts (statement_nodes_at (Statement-F.Static at variables)) (statement_fits_at (Statement-F.Static at variables)) rest → SpeltStatement ts (s.Static at variables) rest
of_static {ts} {rest} {at} variables h = subst (λ x. SpeltStatement ts x rest) (s.rolls-Static at variables) (of_statement (Statement-F.Static at variables) h)

pub of_unset : {ts rest : List Token} {at : At} (paths : List Expr) → Chain ts (statement_nodes_at (Statement-F.Unset at paths)) (statement_fits_at (Statement-F.Unset at paths)) rest → SpeltStatement ts (s.Unset at paths) rest
of_unset {ts} {rest} {at} paths h = subst (λ x. SpeltStatement ts x rest) (s.rolls-Unset at paths) (of_statement (Statement-F.Unset at paths) h)

pub of_const : {ts rest : List Token} {at : At} (items : List ConstantItem) → Chain ts (statement_nodes_at (Statement-F.Const at items)) (statement_fits_at (Statement-F.Const at items)) rest → SpeltStatement ts (s.Const at items) rest
of_const {ts} {rest} {at} items h = subst (λ x. SpeltStatement ts x rest) (s.rolls-Const at items) (of_statement (Statement-F.Const at items) h)

pub of_member_constants : {ts rest : List Token} {at : At} {mods : Modifiers} (items : List ConstantItem) → Chain ts (member_nodes_at (Member-F.Constants at mods items)) (member_fits_at (Member-F.Constants at mods items)) rest → SpeltMember ts (member.Constants at mods items) rest
of_member_constants {ts} {rest} {at} {mods} items h = subst (λ x. SpeltMember ts x rest) (member.rolls-Constants at mods items) (of_member (Member-F.Constants at mods items) h)

pub of_member_properties : {ts rest : List Token} {at : At} {mods : Modifiers} (ty : Option DeclaredType) (items : List PropertyItem) → Chain ts (member_nodes_at (Member-F.Properties at mods ty items)) (member_fits_at (Member-F.Properties at mods ty items)) rest → SpeltMember ts (member.Properties at mods ty items) rest
of_member_properties {ts} {rest} {at} {mods} ty items h = subst (λ x. SpeltMember ts x rest) (member.rolls-Properties at mods ty items) (of_member (Member-F.Properties at mods ty items) h)

pub of_member_method : {ts rest : List Token} {at : At} {mods : Modifiers} (f : Function) → Chain ts (member_nodes_at (Member-F.Method at mods f)) (member_fits_at (Member-F.Method at mods f)) rest → SpeltMember ts (member.Method at mods f) rest
of_member_method {ts} {rest} {at} {mods} f h = subst (λ x. SpeltMember ts x rest) (member.rolls-Method at mods f) (of_member (Member-F.Method at mods f) h)
