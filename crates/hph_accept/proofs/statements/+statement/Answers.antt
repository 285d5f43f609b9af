-- One item more; functions, classes, `if` and `for` in their parts.
use Rattle.std.proofs.Common.{◌≡◌, ◌∙◌, ap, sym, arith, drop, get_or, ◌+◌, ◌++◌, []}
use Rattle.std.specs.Prelude.{flat_map, map, is_some, bytes_eq}
use Rattle.std.proofs.lemmas.List.{append-nil}
use Rattle.hph_ast.specs.declared.function.Param.{Param}
use Rattle.hph_ast.specs.declared.function.Function.{out-Function}
use Rattle.hph_ast.specs.declared.class.Class.{out-Class}
use Rattle.hph_ast.specs.declared.class.Member.{Member}
use Rattle.hph_ast.specs.declared.stmt.Statement.{Statement}
use Rattle.hph_ast.specs.declared.stmt.Case.{Case}
use Rattle.hph_ast.specs.declared.stmt.ElseIf.{ElseIf}
use Rattle.hph_ast.specs.RefusedExpressions.{Context, Found, refused_in}
use Rattle.hph_ast.specs.RefusedStatements.{maybe, in_class, in_loop, type_refused, param_refused, duplicates, duplicate_members, statement_refused}
use Rattle.hph_accept.specs.Order.{earliest}
use Rattle.hph_accept.specs.Enclosed.{seen}
use Rattle.hph_accept.specs.Parts.{member_of, function_of, case_found, else_if_found}
use Rattle.hph_accept.proofs.InTurn.{earliest-append, earliest-drop, three_in_turn, four_in_turn}
use Rattle.hph_accept.proofs.StatementParts.{refused-If, refused-For, function_refused}
use Rattle.hph_accept.proofs.statements.+statement.Goals as goal

pub statements-loop-one-preserved : goal.statements-loop-one-preserved
statements-loop-one-preserved t c =
    let f : Statement → Found = λ x. statement_refused x (seen c.args.context) in
    let i = c.loop-one.one-index in
    let one : earliest c.loop-one.met (f (get_or c.args.body.now i c.one-item.result)) ≡ c.statement-met.result =
    ap (λ x. earliest c.loop-one.met (f x)) (sym c.one-item.is) ∙ sym c.statement-met.ensures in
    c.loop-one.invariant ∙ earliest-drop c.loop-one.met f c.args.body.now i c.one-item.result (omega arith)
    ∙ ap (λ m. earliest m (flat_map f (drop (i + 1) c.args.body.now))) one

pub else_ifs-loop-branch-preserved : goal.else_ifs-loop-branch-preserved
else_ifs-loop-branch-preserved t c =
    let f : ElseIf → Found = λ x. else_if_found x (seen c.args.context) in
    let i = c.loop-branch.branch-index in
    let one : earliest c.loop-branch.met (f (get_or c.args.branches.now i c.branch-item.result)) ≡ c.else_if-met.result =
    ap (λ x. earliest c.loop-branch.met (f x)) (sym c.branch-item.is) ∙ sym c.else_if-met.ensures in
    c.loop-branch.invariant ∙ earliest-drop c.loop-branch.met f c.args.branches.now i c.branch-item.result (omega arith)
    ∙ ap (λ m. earliest m (flat_map f (drop (i + 1) c.args.branches.now))) one

pub cases-loop-one-preserved : goal.cases-loop-one-preserved
cases-loop-one-preserved t c =
    let f : Case → Found = λ x. case_found x (seen c.args.context) in
    let i = c.loop-one.one-index in
    let one : earliest c.loop-one.met (f (get_or c.args.cases.now i c.one-item.result)) ≡ c.case-met.result =
    ap (λ x. earliest c.loop-one.met (f x)) (sym c.one-item.is) ∙ sym c.case-met.ensures in
    c.loop-one.invariant ∙ earliest-drop c.loop-one.met f c.args.cases.now i c.one-item.result (omega arith)
    ∙ ap (λ m. earliest m (flat_map f (drop (i + 1) c.args.cases.now))) one

pub members-loop-one-preserved : goal.members-loop-one-preserved
members-loop-one-preserved t c =
    let f : Member → Found = λ x. (member_of x).refused (seen c.args.context) in
    let i = c.loop-one.one-index in
    let one : earliest c.loop-one.met (f (get_or c.args.members.now i c.one-item.result)) ≡ c.member-met.result =
    ap (λ x. earliest c.loop-one.met (f x)) (sym c.one-item.is) ∙ sym c.member-met.ensures in
    c.loop-one.invariant ∙ earliest-drop c.loop-one.met f c.args.members.now i c.one-item.result (omega arith)
    ∙ ap (λ m. earliest m (flat_map f (drop (i + 1) c.args.members.now))) one

pub statement-returns-in-For : goal.statement-returns-in-For
statement-returns-in-For t c =
    let ctx : Context = seen c.args.context in
    let init = flat_map (λ x. refused_in x ctx) c.in-For.init in
    let test = flat_map (λ x. refused_in x ctx) c.in-For.test in
    let step = flat_map (λ x. refused_in x ctx) c.in-For.step in
    let body = statement_refused c.in-For.body (in_loop ctx) in
    let first : c.expressions-met.result ≡ earliest c.args.met init =
    c.expressions-met.ensures ∙ ap (λ xs. earliest c.args.met (flat_map (λ x. refused_in x ctx) xs)) c.as_slice-in-For.ensures in
    let second : c.expressions-met-in-For.result ≡ earliest c.expressions-met.result test =
    c.expressions-met-in-For.ensures ∙ ap (λ xs. earliest c.expressions-met.result (flat_map (λ x. refused_in x ctx) xs)) c.as_slice-in-For-2.ensures in
    let third : c.expressions-met-in-For-2.result ≡ earliest c.expressions-met-in-For.result step =
    c.expressions-met-in-For-2.ensures ∙ ap (λ xs. earliest c.expressions-met-in-For.result (flat_map (λ x. refused_in x ctx) xs)) c.as_slice-in-For-3.ensures in
    let last : c.statement-in-For.result ≡ earliest c.expressions-met-in-For-2.result body =
    c.statement-in-For.ensures ∙ ap (λ k. earliest c.expressions-met-in-For-2.result (statement_refused c.get-in-For.result.now k)) c.in_loop-in-For.ensures
    ∙ ap (λ s. earliest c.expressions-met-in-For-2.result (statement_refused s (in_loop ctx))) c.get-in-For.ensures in
    let whole : statement_refused c.args.one.now ctx ≡ init ++ (test ++ (step ++ body)) =
    ap (λ s. statement_refused s ctx) c.in-For.is ∙ refused-For c.in-For.at c.in-For.init c.in-For.test c.in-For.step c.in-For.body ctx in
    last ∙ ap (λ m. earliest m body) (third ∙ ap (λ m. earliest m step) (second ∙ ap (λ m. earliest m test) first))
    ∙ four_in_turn c.args.met init test step body ∙ ap (earliest c.args.met) (sym whole)

pub statement-returns-in-None : goal.statement-returns-in-None
statement-returns-in-None t c =
    let ctx : Context = seen c.args.context in
    let test = refused_in c.in-If.test ctx in
    let body = statement_refused c.in-If.body ctx in
    let more = flat_map (λ b. else_if_found b ctx) c.in-If.more in
    let first : c.expression-met.result ≡ earliest c.args.met test =
    c.expression-met.ensures ∙ ap (λ x. earliest c.args.met (refused_in x ctx)) c.get-in-If.ensures in
    let second : c.statement-met.result ≡ earliest c.expression-met.result body =
    c.statement-met.ensures ∙ ap (λ s. earliest c.expression-met.result (statement_refused s ctx)) c.get-in-If-2.ensures in
    let third : c.else_ifs-met.result ≡ earliest c.statement-met.result more =
    c.else_ifs-met.ensures ∙ ap (λ xs. earliest c.statement-met.result (flat_map (λ b. else_if_found b ctx) xs)) c.as_slice-in-If.ensures in
    let whole : statement_refused c.args.one.now ctx ≡ test ++ (body ++ more) =
    ap (λ s. statement_refused s ctx) c.in-If.is ∙ refused-If c.in-If.at c.in-If.test c.in-If.body c.in-If.more c.in-If.other ctx
    ∙ ap (λ o. test ++ (body ++ (more ++ maybe statement_refused o ctx))) c.in-None.is
    ∙ ap (λ l. test ++ (body ++ l)) (append-nil more) in
    third ∙ ap (λ m. earliest m more) (second ∙ ap (λ m. earliest m body) first)
    ∙ three_in_turn c.args.met test body more ∙ ap (earliest c.args.met) (sym whole)

pub statement-returns-in-Some : goal.statement-returns-in-Some
statement-returns-in-Some t c =
    let ctx : Context = seen c.args.context in
    let test = refused_in c.in-If.test ctx in
    let body = statement_refused c.in-If.body ctx in
    let more = flat_map (λ b. else_if_found b ctx) c.in-If.more in
    let other = statement_refused c.in-Some.other ctx in
    let first : c.expression-met.result ≡ earliest c.args.met test =
    c.expression-met.ensures ∙ ap (λ x. earliest c.args.met (refused_in x ctx)) c.get-in-If.ensures in
    let second : c.statement-met.result ≡ earliest c.expression-met.result body =
    c.statement-met.ensures ∙ ap (λ s. earliest c.expression-met.result (statement_refused s ctx)) c.get-in-If-2.ensures in
    let third : c.else_ifs-met.result ≡ earliest c.statement-met.result more =
    c.else_ifs-met.ensures ∙ ap (λ xs. earliest c.statement-met.result (flat_map (λ b. else_if_found b ctx) xs)) c.as_slice-in-If.ensures in
    let last : c.statement.result ≡ earliest c.else_ifs-met.result other =
    c.statement.ensures ∙ ap (λ s. earliest c.else_ifs-met.result (statement_refused s ctx)) c.get-in-Some.ensures in
    let whole : statement_refused c.args.one.now ctx ≡ test ++ (body ++ (more ++ other)) =
    ap (λ s. statement_refused s ctx) c.in-If.is ∙ refused-If c.in-If.at c.in-If.test c.in-If.body c.in-If.more c.in-If.other ctx
    ∙ ap (λ o. test ++ (body ++ (more ++ maybe statement_refused o ctx))) c.in-Some.is in
    last ∙ ap (λ m. earliest m other) (third ∙ ap (λ m. earliest m more) (second ∙ ap (λ m. earliest m body) first))
    ∙ four_in_turn c.args.met test body more other ∙ ap (earliest c.args.met) (sym whole)

pub function-returns : goal.function-returns
function-returns t c =
    let ctx : Context = seen c.args.context in
    let f = out-Function c.args.declared.now in
    let params = flat_map (λ x. param_refused x ctx) f.params in
    let names = duplicates bytes_eq [] (map (λ (x : Param). x.name) f.params) in
    let result = maybe type_refused f.result ctx in
    let body = flat_map (λ x. statement_refused x ctx) f.body in
    let first : c.parameters-met.result ≡ earliest c.args.met params =
    c.parameters-met.ensures ∙ ap (λ xs. earliest c.args.met (flat_map (λ x. param_refused x ctx) xs)) c.as_slice-params.ensures in
    let second : c.repeated_parameters-met.result ≡ earliest c.parameters-met.result names =
    c.repeated_parameters-met.ensures ∙ ap (λ xs. earliest c.parameters-met.result (duplicates bytes_eq [] (map (λ (x : Param). x.name) xs))) c.as_slice-params.ensures in
    let third : c.maybe_type-met.result ≡ earliest c.repeated_parameters-met.result result = c.maybe_type-met.ensures in
    let last : c.statements.result ≡ earliest c.maybe_type-met.result body =
    c.statements.ensures ∙ ap (λ xs. earliest c.maybe_type-met.result (flat_map (λ x. statement_refused x ctx) xs)) c.as_slice.ensures in
    let whole : (function_of c.args.declared.now).refused ctx ≡ params ++ (names ++ (result ++ body)) =
    function_refused c.args.declared.now ctx in
    last ∙ ap (λ m. earliest m body) (third ∙ ap (λ m. earliest m result) (second ∙ ap (λ m. earliest m names) first))
    ∙ four_in_turn c.args.met params names result body ∙ ap (earliest c.args.met) (sym whole)

pub class-returns : goal.class-returns
class-returns t c =
    let d = out-Class c.args.declared.now in
    let ctx : Context = in_class (is_some d.parent) in
    let twice = duplicate_members (map member_of d.members) in
    let all = flat_map (λ x. (member_of x).refused ctx) d.members in
    let first : c.duplicate_members-met.result ≡ earliest c.args.met twice =
    c.duplicate_members-met.ensures ∙ ap (λ xs. earliest c.args.met (duplicate_members (map member_of xs))) c.as_slice-all.ensures in
    let stands : seen c.in_class.result ≡ ctx = c.in_class.ensures ∙ ap in_class c.is_some.ensures in
    let last : c.members.result ≡ earliest c.duplicate_members-met.result all =
    c.members.ensures ∙ ap (λ k. earliest c.duplicate_members-met.result (flat_map (λ x. (member_of x).refused k) c.as_slice-all.result.now)) stands
    ∙ ap (λ xs. earliest c.duplicate_members-met.result (flat_map (λ x. (member_of x).refused ctx) xs)) c.as_slice-all.ensures in
    last ∙ ap (λ m. earliest m all) first ∙ sym (earliest-append c.args.met twice all)
