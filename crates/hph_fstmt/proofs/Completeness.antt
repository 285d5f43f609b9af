-- All statements and files: what is in the grammar is what the parser answers.
use Rattle.std.specs.Prelude.{◌≡◌, ℕ, zero, suc, ◌<◌, ◌≤◌, Bool, true, false, List, [], ◌∷◌, Some, None, refl}
use Rattle.std.proofs.Common.{ap, ◌∙◌, arith}
use Rattle.hph_ast.specs.declared.token.Token.{Token}
use Rattle.hph_ast.specs.declared.token.Kind.{Kind}
use Rattle.hph_ast.specs.declared.token.Kind.TheVariants as k
use Rattle.hph_ast.specs.declared.token.Mark.TheVariants as m
use Rattle.hph_ast.specs.declared.keyword.Keyword.{Keyword}
use Rattle.hph_ast.specs.declared.keyword.Keyword.TheVariants as w
use Rattle.hph_ast.specs.declared.function.Function.{Function}
use Rattle.hph_ast.specs.declared.class.Class.{Class}
use Rattle.hph_ast.specs.declared.stmt.Statement.{Statement}
use Rattle.hph_ast.specs.declared.stmt.Statement.TheVariants as s
use Rattle.hph_ast.specs.declared.stmt.StaticVariable.{StaticVariable}
use Rattle.hph_ast.specs.StatementNesting.{statement_nesting, function_nesting, class_nesting}
use Rattle.hph_ast.specs.Places.{place, on, span}
use Rattle.hph_ast.specs.Shapes.{is_written}
use Rattle.hph_ast.specs.Terminals.{IsKeyword}
use Rattle.hph_ast.specs.Declarations as d
use Rattle.hph_ast.specs.Declarations.{IsStaticVariables}
use Rattle.hph_ast.specs.Statements as g
use Rattle.hph_ast.specs.Statements.{statement_place, last_part, is_default, IsStatement, IsFunction, IsClassDeclaration}
use Rattle.hph_fexpr.specs.Parser.{parse}
use Rattle.hph_cursor.specs.Steps.{Parser, Outcome}
use Rattle.hph_cursor.specs.Next.{is_next, is_variable}
use Rattle.hph_fstmt.specs.Laws.{Laws}
use Rattle.hph_fstmt.specs.Words.{is_keyword}
use Rattle.hph_fstmt.specs.Statements as p
use Rattle.hph_fstmt.specs.Parser.{statement}
use Rattle.hph_fstmt.proofs.Tools.{then_is, if_true, if_false, mark_is, expect_is}
use Rattle.hph_fstmt.proofs.Keywords.{keyword_is, kind_is}
use Rattle.hph_fstmt.proofs.Firsts.{begins_expression, Begins, begins, begins_static, expression_begins, not_first}
use Rattle.hph_fstmt.proofs.DeclarationsComplete.{level_is, closed_is, variables_is, statics_is, constants_is}
use Rattle.hph_fstmt.proofs.StatementsComplete.{CompleteStatement, at_most_one, foreach_key_is, paren_ends, levels_is, keyword_stops, test_is, exprs_is, maybe_exprs_is, foreach_target_is, statements_is, branches_is, otherwise_is, cases_is}
use Rattle.hph_fstmt.proofs.MembersComplete.{function_is, class_is}

statics_begin : {ts rest : List Token} {xs : List StaticVariable} {c : Token} → IsStaticVariables ts xs c rest →
    is_next is_variable ts ≡ true
statics_begin (d.statics_last is f c) = ap is_variable is
statics_begin (d.statics_more is f q h) = ap is_variable is

function_word : {t : Token} {ts rest : List Token} {f : Function} → IsFunction (t ∷ ts) f rest → IsKeyword w.Function t
function_word (g.a_function is name o ps r b body c) = is

class_word : {t : Token} {ts rest : List Token} {x : Class} → IsClassDeclaration (t ∷ ts) x rest → IsKeyword w.Class t
class_word (g.a_class is name up o members c) = is

module _ (laws : Laws) (limit depth : ℕ) (fits : depth ≤ limit) (nested : Parser Statement) (all : CompleteStatement depth nested) where
  -- the parser that the first token chooses
  by : (top : Bool) (t : Token) (ts : List Token) {kind : Kind} {z : Outcome Statement} → t.kind ≡ kind →
      p.statement_by (parse limit) nested top kind (t ∷ ts) ≡ z → p.one_statement (parse limit) nested top (t ∷ ts) ≡ z
  by top t ts is h = ap (λ kind. p.statement_by (parse limit) nested top kind (t ∷ ts)) is ∙ h

  other_keyword : (top : Bool) (word : Keyword) → begins_expression (k.Keyword word) ≡ true →
      p.keyword_by (parse limit) nested top word ≡ p.expression (parse limit)
  other_keyword top w.If h = absurd (cc)
  other_keyword top w.While h = absurd (cc)
  other_keyword top w.Do h = absurd (cc)
  other_keyword top w.For h = absurd (cc)
  other_keyword top w.Foreach h = absurd (cc)
  other_keyword top w.Switch h = absurd (cc)
  other_keyword top w.Break h = absurd (cc)
  other_keyword top w.Continue h = absurd (cc)
  other_keyword top w.Return h = absurd (cc)
  other_keyword top w.Echo h = absurd (cc)
  other_keyword top w.Global h = absurd (cc)
  other_keyword top w.Static h = absurd (cc)
  other_keyword top w.Unset h = absurd (cc)
  other_keyword top w.Const h = absurd (cc)
  other_keyword top w.Function h = absurd (cc)
  other_keyword top w.Class h = absurd (cc)
  other_keyword top _ h = refl

  other : (top : Bool) (kind : Kind) → begins_expression kind ≡ true →
      p.statement_by (parse limit) nested top kind ≡ p.expression (parse limit)
  other top (k.Mark m.Semicolon) h = absurd (cc)
  other top (k.InlineText bytes) h = absurd (cc)
  other top (k.Mark m.OpenBrace) h = absurd (cc)
  other top (k.Keyword word) h = other_keyword top word h
  other top _ h = refl

  plain : (top : Bool) {ts : List Token} {z : Outcome Statement} → Begins ts → p.expression (parse limit) ts ≡ z →
      p.one_statement (parse limit) nested top ts ≡ z
  unfolding p.static_or_expression
  plain top (begins {t = t} {ts = ts} h) e = ap (λ f. f (t ∷ ts)) (other top t.kind h) ∙ e
  plain top (begins_static {t = t} {q = q} {ts = ts} is colons) e = by top t (q ∷ ts) is (if_false _ _ (ap is_variable colons) e)

  function_stands : (top : Bool) (f : Function) {ts rest : List Token} → IsFunction ts f rest → function_nesting f ≤ suc depth →
      p.one_statement (parse limit) nested top ts ≡ Some (s.Function f, rest)
  function_stands top f {ts = []} d small = elim d [ ]
  function_stands top f {ts = t ∷ ts} d small = by top t ts (function_word d)
      (then_is _ (function_is laws limit depth fits nested all d small) refl)

  class_stands : (top : Bool) (c : Class) {ts rest : List Token} → IsClassDeclaration ts c rest → class_nesting c ≤ suc depth →
      p.one_statement (parse limit) nested top ts ≡ Some (s.Class c, rest)
  class_stands top c {ts = []} d small = elim d [ ]
  class_stands top c {ts = t ∷ ts} d small = by top t ts (class_word d) (then_is _ (class_is laws limit depth fits nested all d small) refl)

  pub one_statement_is : (top : Bool) (ts rest : List Token) (x : Statement) → IsStatement top ts x rest → statement_nesting x ≤ suc depth →
      p.one_statement (parse limit) nested top ts ≡ Some (x, rest)
  unfolding p.block p.while_ p.do_while p.for_ p.for_body p.foreach p.foreach_as p.foreach_body p.if_ p.branches p.last_branch p.switch p.switch_cases p.expression p.returned p.echo p.global p.static_ p.unset
      p.constants p.break_ p.continue_ p.static_or_expression
  one_statement_is top _ _ _ (g.empty {rest = rest} {t = t} is) small = by top t rest is refl
  one_statement_is top _ _ _ (g.inline_text {rest = rest} {t = t} is) small = by top t rest is refl
  one_statement_is top _ _ _ (g.block {ts = ts} {o = o} {c = c} {body = body} brace d mark) small =
      let n = laws.of_nesting.block (span (on o) (on c)) body in
      by top o ts brace (then_is _ (statements_is laws limit depth fits nested all d mark (omega arith)) (then_is _ (expect_is mark) refl))
  one_statement_is top _ _ _ (g.expression {c = c} {x = x} d mark) small =
      let n = laws.of_nesting.expression (span (place x) (on c)) x in
      plain top (expression_begins d) (then_is _ (closed_is laws limit m.Semicolon refl d mark (omega arith))
      (then_is _ (expect_is mark) refl))
  one_statement_is top _ _ _ (g.function {f = f} d) small = function_stands top f d (omega (arith, laws.of_nesting.of_function f))
  one_statement_is top _ _ _ (g.class {c = c} d) small = class_stands top c d (omega (arith, laws.of_nesting.of_class c))
  one_statement_is top _ _ _ (g.if_ {ts = ts} {mid = mid} {after = after} {t = t} {x = x} {body = body} {more = more} {other = other} is
      d f h i) small =
      let n = laws.of_nesting.if_statement (span (on t) (last_part (statement_place body) more other)) x body more other in
      by top t ts is (then_is _ (test_is laws limit d (omega arith)) (then_is _ (all mid after body f (omega arith))
      (then_is _ (branches_is laws limit depth fits nested all h (omega arith)) (then_is _ (otherwise_is laws limit depth fits nested
      all i (omega arith)) refl))))
  one_statement_is top _ _ _ (g.while {ts = ts} {mid = mid} {rest = rest} {t = t} {x = x} {body = body} is d f) small =
      let n = laws.of_nesting.while_loop (span (on t) (statement_place body)) x body in
      by top t ts is (then_is _ (test_is laws limit d (omega arith)) (then_is _ (all mid rest body f (omega arith)) refl))
  one_statement_is top _ _ _ (g.do_while {ts = ts} {mid = mid} {t = t} {q = q} {c = c} {x = x} {body = body} is d word f mark) small =
      let n = laws.of_nesting.do_while_loop (span (on t) (on c)) body x in
      by top t ts is (then_is _ (all ts (q ∷ mid) body d (omega arith)) (then_is _ (kind_is (is_keyword w.While) word
      (keyword_is w.While refl))
      (then_is _ (test_is laws limit f (omega arith)) (then_is _ (expect_is mark) refl))))
  one_statement_is top _ _ _ (g.for {ts = ts} {ts3 = ts3} {rest = rest} {t = t} {o = o} {init = init} {test = test} {step = step}
      {body = body} is paren d f h i) small =
      let n = laws.of_nesting.for_loop (span (on t) (statement_place body)) init test step body in
      by top t (o ∷ ts) is (then_is _ (expect_is paren) (then_is _ (maybe_exprs_is laws limit m.Semicolon refl refl refl d (omega arith))
      (then_is _ (maybe_exprs_is laws limit m.Semicolon refl refl refl f (omega arith))
      (then_is _ (maybe_exprs_is laws limit m.CloseParen refl refl refl h (omega arith)) (then_is _
      (all ts3 rest body i (omega arith)) refl)))))
  one_statement_is top _ _ _ (g.foreach {ts = ts} {later = later} {rest = rest} {t = t} {o = o} {x = x} {key = key} {value = value}
      {body = body} is paren d word f h mark i) small =
      let n = laws.of_nesting.foreach_loop (span (on t) (statement_place body)) x key value body in
      by top t (o ∷ ts) is (then_is _ (expect_is paren) (then_is _ (level_is laws limit d (keyword_stops w.As refl word) (omega arith))
      (then_is _ (kind_is (is_keyword w.As) word (keyword_is w.As refl)) (then_is _ (foreach_key_is f h mark)
      (then_is _ (foreach_target_is laws limit h (omega arith) (paren_ends mark)) (then_is _ (expect_is mark)
      (then_is _ (all later rest body i (omega arith)) refl)))))))
  one_statement_is top _ _ _ (g.switch {ts = ts} {t = t} {c = c} {x = x} {cases = cases} is d brace f mark one) small =
      let n = laws.of_nesting.switch_statement (span (on t) (on c)) x cases in
      by top t ts is (then_is _ (test_is laws limit d (omega arith)) (then_is _ (expect_is brace)
      (then_is _ (cases_is laws limit depth fits nested all f mark (omega arith)) (then_is _ (expect_is mark)
      (if_true _ _ (at_most_one one) refl)))))
  one_statement_is top _ _ _ (g.break {ts = ts} {t = t} is d) small = by top t ts is (then_is _ (levels_is d) refl)
  one_statement_is top _ _ _ (g.continue {ts = ts} {t = t} is d) small = by top t ts is (then_is _ (levels_is d) refl)
  one_statement_is top _ _ _ (g.return_nothing {rest = rest} {t = t} {c = c} is mark) small = by top t (c ∷ rest) is
      (if_true _ _ (mark_is m.Semicolon mark) refl)
  one_statement_is top _ _ _ (g.return {ts = ts} {t = t} {c = c} {x = x} is d mark) small =
      let n = laws.of_nesting.return_statement (span (on t) (on c)) (Some x) in
      by top t ts is (if_false _ _ (not_first m.Semicolon refl (expression_begins d))
      (then_is _ (closed_is laws limit m.Semicolon refl d mark (omega arith)) (then_is _ (expect_is mark) refl)))
  one_statement_is top _ _ _ (g.echo {ts = ts} {t = t} {c = c} {xs = xs} is d) small =
      let n = laws.of_nesting.echo (span (on t) (on c)) xs in
      by top t ts is (then_is _ (exprs_is laws limit m.Semicolon refl refl d (omega arith)) refl)
  one_statement_is top _ _ _ (g.global {ts = ts} {t = t} is d) small = by top t ts is (then_is _ (variables_is d) refl)
  one_statement_is top _ _ _ (g.static {ts = ts} {t = t} {c = c} {variables = variables} is d) small =
      let n = laws.of_nesting.static_variables (span (on t) (on c)) variables in
      by top t ts is (if_true _ _ (statics_begin d) (then_is _ (statics_is laws limit d (omega arith)) refl))
  one_statement_is top _ _ _ (g.unset {ts = ts} {rest = rest} {t = t} {o = o} {q = q} {c = c} {paths = paths} is paren d mark) small =
      let n = laws.of_nesting.unset (span (on t) (on c)) paths in
      by top t (o ∷ ts) is (then_is _ (expect_is paren)
      (then_is _ (laws.of_expressions.paths_complete limit is_written ts paths q (c ∷ rest) d (omega arith))
      (then_is _ (expect_is mark) refl)))
  one_statement_is top _ _ _ (g.const {ts = ts} {t = t} {c = c} {items = items} is d) small =
      let n = laws.of_nesting.constants (span (on t) (on c)) items in
      by true t ts is (then_is _ (constants_is laws limit d (omega arith)) refl)

-- a statement is a node, and a leaf is nested 1 deep
statement_positive : (laws : Laws) {top : Bool} {ts rest : List Token} {x : Statement} → IsStatement top ts x rest → 0 < statement_nesting x
statement_positive laws (g.empty {t = t} is) = omega (arith, laws.of_nesting.empty (on t))
statement_positive laws (g.inline_text {t = t} {bytes = bytes} is) = omega (arith, laws.of_nesting.inline_text (on t) bytes)
statement_positive laws (g.block {o = o} {c = c} {body = body} brace d mark) = omega (
  arith,
  laws.of_nesting.block
      (span (on o) (on c)) body,
)
statement_positive laws (g.expression {c = c} {x = x} d mark) = omega (arith, laws.of_nesting.expression (span (place x) (on c)) x)
statement_positive laws (g.function {f = f} d) = omega (arith, laws.of_nesting.of_function f, laws.of_nesting.function f)
statement_positive laws (g.class {c = c} d) = omega (arith, laws.of_nesting.of_class c, laws.of_nesting.class c)
statement_positive laws (g.if_ {t = t} {x = x} {body = body} {more = more} {other = other} is d f h i) =
    omega (arith, laws.of_nesting.if_statement (span (on t) (last_part (statement_place body) more other)) x body more other)
statement_positive laws (g.while {t = t} {x = x} {body = body} is d f) =
    omega (arith, laws.of_nesting.while_loop (span (on t) (statement_place body)) x body)
statement_positive laws (g.do_while {t = t} {c = c} {x = x} {body = body} is d word f mark) =
    omega (arith, laws.of_nesting.do_while_loop (span (on t) (on c)) body x)
statement_positive laws (g.for {t = t} {init = init} {test = test} {step = step} {body = body} is paren d f h i) =
    omega (arith, laws.of_nesting.for_loop (span (on t) (statement_place body)) init test step body)
statement_positive laws (g.foreach {t = t} {x = x} {key = key} {value = value} {body = body} is paren d word f h mark i) =
    omega (arith, laws.of_nesting.foreach_loop (span (on t) (statement_place body)) x key value body)
statement_positive laws (g.switch {t = t} {c = c} {x = x} {cases = cases} is d brace f mark one) =
    omega (arith, laws.of_nesting.switch_statement (span (on t) (on c)) x cases)
statement_positive laws (g.break {t = t} {c = c} {n = n} is d) = omega (arith, laws.of_nesting.break_statement (span (on t) (on c)) n)
statement_positive laws (g.continue {t = t} {c = c} {n = n} is d) = omega (arith, laws.of_nesting.continue_statement (span (on t) (on c)) n)
statement_positive laws (g.return_nothing {t = t} {c = c} is mark) = omega (
  arith,
  laws.of_nesting.return_statement
      (span (on t) (on c)) None,
)
statement_positive laws (g.return {t = t} {c = c} {x = x} is d mark) = omega (
  arith,
  laws.of_nesting.return_statement
      (span (on t) (on c)) (Some x),
)
statement_positive laws (g.echo {t = t} {c = c} {xs = xs} is d) = omega (arith, laws.of_nesting.echo (span (on t) (on c)) xs)
statement_positive laws (g.global {t = t} {c = c} {names = names} is d) = omega (arith, laws.of_nesting.global (span (on t) (on c)) names)
statement_positive laws (g.static {t = t} {c = c} {variables = variables} is d) =
    omega (arith, laws.of_nesting.static_variables (span (on t) (on c)) variables)
statement_positive laws (g.unset {t = t} {c = c} {paths = paths} is paren d mark) = omega (
  arith,
  laws.of_nesting.unset
      (span (on t) (on c)) paths,
)
statement_positive laws (g.const {t = t} {c = c} {items = items} is d) = omega (arith, laws.of_nesting.constants (span (on t) (on c)) items)

pub statement_is : (laws : Laws) (limit depth : ℕ) → depth ≤ suc limit → (top : Bool) (ts rest : List Token) (x : Statement) →
    IsStatement top ts x rest → statement_nesting x ≤ depth → statement (parse limit) depth top ts ≡ Some (x, rest)
unfolding statement
statement_is laws limit zero fits top ts rest x d small = absurd (omega (arith, statement_positive laws d))
statement_is laws limit (suc depth) fits top ts rest x d small =
    one_statement_is laws limit depth (omega arith) (statement (parse limit) depth false)
    (λ ts rest x d small. statement_is laws limit depth (omega arith) false ts rest x d small) top ts rest x d small
