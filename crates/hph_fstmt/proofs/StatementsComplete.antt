-- Statements: what is in the grammar is what the parser answers.
use Rattle.std.specs.Prelude.{◌≡◌, ◌≢◌, ℕ, suc, ◌<◌, ◌≤◌, Bool, true, false, not, List, [], ◌∷◌, length, Option, Some, None, nat_le, max, refl}
use Rattle.std.proofs.Common.{ap, ◌∙◌, arith}
use Rattle.hph_ast.specs.declared.token.At.{At}
use Rattle.hph_ast.specs.declared.token.Token.{Token}
use Rattle.hph_ast.specs.declared.token.Identifier.{Identifier}
use Rattle.hph_ast.specs.declared.token.Kind.{Kind}
use Rattle.hph_ast.specs.declared.token.Kind.TheVariants as k
use Rattle.hph_ast.specs.declared.token.Mark.{Mark}
use Rattle.hph_ast.specs.declared.token.Mark.TheVariants as m
use Rattle.hph_ast.specs.declared.keyword.Keyword.{Keyword}
use Rattle.hph_ast.specs.declared.keyword.Keyword.TheVariants as w
use Rattle.hph_ast.specs.declared.expr.Expr.{Expr}
use Rattle.hph_ast.specs.declared.expr.Item.{Item}
use Rattle.hph_ast.specs.declared.stmt.Statement.{Statement}
use Rattle.hph_ast.specs.declared.stmt.Statement.TheVariants as s
use Rattle.hph_ast.specs.declared.stmt.ElseIf.{ElseIf, roll-ElseIf}
use Rattle.hph_ast.specs.declared.stmt.Case.{Case, roll-Case}
use denote.Hole.Carrier.{out}
use Rattle.hph_ast.specs.declared.stmt.ForeachTarget.{ForeachTarget}
use Rattle.hph_ast.specs.declared.stmt.ForeachTarget.TheVariants as target
use Rattle.hph_ast.specs.Levels.{binds, Stops}
use Rattle.hph_ast.specs.Nesting.{nesting, greatest}
use Rattle.hph_ast.specs.StatementNesting.{maybe, target_nesting, statement_nesting, case_nesting, else_if_nesting}
use Rattle.hph_ast.specs.Places.{place, on, span}
use Rattle.hph_ast.specs.Terminals.{IsMark, IsKeyword}
use Rattle.hph_ast.specs.Shapes.{is_source}
use Rattle.hph_ast.specs.Expressions as i
use Rattle.hph_ast.specs.Expressions.{IsExpression, IsPostfix, IsPaths, IsTargets, IsElement, IsWrittenOnly, IsItem}
use Rattle.hph_ast.specs.Statements as g
use Rattle.hph_ast.specs.Statements.{keyword_next, last_statement, last_part, statement_place, is_default, IsTest, IsExprs, IsMaybeExprs, IsForeachKey, IsForeachTarget, IsLevels, IsLabel, IsLabelEnd, IsStatement, IsStatements, IsElseIfs, IsElse, IsCases, IsExtends}
use Rattle.hph_fexpr.specs.declared.form.Form.TheVariants.{Level}
use Rattle.hph_fexpr.specs.Endings.{Ends}
use Rattle.hph_fexpr.specs.Arrays.{source}
use Rattle.hph_fexpr.specs.Parser.{parse}
use Rattle.hph_cursor.specs.Steps.{Parser, is_mark, sees}
use Rattle.hph_fstmt.specs.Laws.{Laws}
use Rattle.hph_fstmt.specs.Words.{is_keyword, sees_keyword, expect_kind}
use Rattle.hph_fstmt.specs.Repeats.{at_end, many}
use Rattle.hph_fstmt.specs.Statements as p
use Rattle.hph_fstmt.proofs.Tools.{then_is, if_true, if_false, mark_is, expect_is}
use Rattle.hph_fstmt.proofs.Keywords.{keyword_is, not_keyword, kind_is, name_is}
use Rattle.hph_fstmt.proofs.Repeats.{Separated, last, more, ending, separated_is, Many, many_end, many_more, many_is}
use Rattle.hph_cursor.proofs.Shorter.{expression_shorter}
use Rattle.hph_fstmt.proofs.Shorter.{statement_shorter, test_shorter, label_shorter, statements_shorter}
use Rattle.hph_fstmt.proofs.Firsts.{begins_expression, Begins, begins, begins_static, expression_begins, postfix_begins, not_first}
use Rattle.hph_fstmt.proofs.StatementsSound.{ABranch, a_branch, ACase, a_case}
use Rattle.hph_fstmt.proofs.DeclarationsComplete.{level_is, closed_is, ending_stops}

-- ---- without expressions

-- no postfix expression goes on behind a parenthesis that closes
pub paren_ends : {c : Token} {rest : List Token} → IsMark m.CloseParen c → Ends (c ∷ rest)
paren_ends mark = record {
  call = ap (is_mark m.OpenParen) mark;
  bracket = ap (is_mark m.OpenBracket) mark;
  arrow = ap (is_mark m.Arrow) mark;
  colons = ap (is_mark m.DoubleColon) mark;
}

-- no target begins with "=>"
item_no_arrow : {ts rest : List Token} {x : Item} → IsItem ts x rest → sees m.DoubleArrow ts ≡ false
item_no_arrow (i.value d) = not_first m.DoubleArrow refl (expression_begins d)
item_no_arrow (i.pair d arrow f) = not_first m.DoubleArrow refl (expression_begins d)
item_no_arrow (i.reference is d _) = ap (is_mark m.DoubleArrow) is
item_no_arrow (i.pair_reference d arrow is f _) = not_first m.DoubleArrow refl (expression_begins d)

written_no_arrow : {ts rest : List Token} {x : Expr} → IsWrittenOnly ts x rest → sees m.DoubleArrow ts ≡ false
written_no_arrow (i.appended d unread is) = not_first m.DoubleArrow refl (postfix_begins d)
written_no_arrow (i.nested_targets opens d has) = ap (is_mark m.DoubleArrow) opens

element_no_arrow : {ts rest : List Token} {x : Item} → IsElement ts x rest → sees m.DoubleArrow ts ≡ false
element_no_arrow (i.element_item d) = item_no_arrow d
element_no_arrow (i.element d) = written_no_arrow d
element_no_arrow (i.element_pair d arrow f) = not_first m.DoubleArrow refl (expression_begins d)

targets_no_arrow : {ts rest : List Token} {xs : List Item} {c : Token} → IsTargets ts xs c rest → sees m.DoubleArrow ts ≡ false
targets_no_arrow (i.targets_end mark) = ap (is_mark m.DoubleArrow) mark
targets_no_arrow (i.targets_last d mark) = element_no_arrow d
targets_no_arrow (i.targets_more d mark f) = element_no_arrow d
targets_no_arrow (i.targets_hole mark d) = ap (is_mark m.DoubleArrow) mark

-- no target is read as a key
no_key_before : {ts rest : List Token} {value : ForeachTarget} {c : Token} → IsForeachTarget ts value (c ∷ rest) → IsMark m.CloseParen c →
    p.foreach_key ts ≡ Some (None, ts)
unfolding p.foreach_key
no_key_before (g.to_variable is) mark = if_false _ _ (ap (is_mark m.DoubleArrow) mark) refl
no_key_before (g.to_reference {ts = []} amp d _) mark = refl
no_key_before (g.to_reference {ts = q ∷ ts} amp d _) mark = if_false _ _ (not_first m.DoubleArrow refl (postfix_begins d)) refl
no_key_before (g.to_items {ts = []} o d) mark = refl
no_key_before (g.to_items {ts = q ∷ ts} o d) mark = if_false _ _ (targets_no_arrow d) refl

pub foreach_key_is : {ts mid rest : List Token} {key : Option Identifier} {value : ForeachTarget} {c : Token} → IsForeachKey ts key mid →
    IsForeachTarget mid value (c ∷ rest) → IsMark m.CloseParen c → p.foreach_key ts ≡ Some (key, mid)
unfolding p.foreach_key
foreach_key_is g.no_key d mark = no_key_before d mark
foreach_key_is (g.a_key {rest = rest} {t = t} {q = q} is arrow) d mark =
    if_true _ _ (mark_is m.DoubleArrow arrow) (ap (λ kind. p.key_by t kind (q ∷ rest)) is)

pub levels_is : {ts rest : List Token} {n : Option ℕ} {c : Token} → IsLevels ts n c rest → p.levels ts ≡ Some ((n, c), rest)
unfolding p.levels p.maybe_levels
levels_is (g.no_levels {rest = rest} {c = c} mark) = then_is _ (ap (λ kind. p.levels_by kind (c ∷ rest)) mark)
    (then_is _ (expect_is mark) refl)
levels_is (g.levels {rest = rest} {t = t} {c = c} is mark) =
    then_is _ (ap (λ kind. p.levels_by kind (t ∷ c ∷ rest)) is) (then_is _ (expect_is mark) refl)

pub extends_is : {ts rest : List Token} {parent : Option Identifier} {c : Token} → IsExtends ts parent (c ∷ rest) → IsMark m.OpenBrace c →
    p.extends ts ≡ Some (parent, c ∷ rest)
unfolding p.extends
extends_is g.no_parent brace = if_false _ _ (ap (is_keyword w.Extends) brace) refl
extends_is (g.extends is named) brace = if_true _ _ (keyword_is w.Extends is) (then_is _ (name_is named) refl)

from_exprs : {closing : Mark} {ts rest : List Token} {xs : List Expr} {c : Token} → IsExprs closing ts xs c rest →
    Separated (IsExpression 1) closing ts xs c rest
from_exprs (g.exprs_last d mark) = last d mark
from_exprs (g.exprs_more d comma f) = more d comma (from_exprs f)

exprs_begin : {closing : Mark} {ts rest : List Token} {xs : List Expr} {c : Token} → IsExprs closing ts xs c rest → Begins ts
exprs_begin (g.exprs_last d mark) = expression_begins d
exprs_begin (g.exprs_more d comma f) = expression_begins d

shorter_expression : (ts rest : List Token) (x : Expr) → IsExpression 1 ts x rest → length rest ≤ length ts
shorter_expression ts rest x d = omega (arith, expression_shorter d)

label_end_is : {c : Token} {rest : List Token} → IsLabelEnd c → expect_kind p.ends_label (c ∷ rest) ≡ Some (c, rest)
label_end_is (g.colon mark) = kind_is p.ends_label mark refl
label_end_is (g.semicolon mark) = kind_is p.ends_label mark refl

label_stops : {c : Token} {rest : List Token} → IsLabelEnd c → Stops 1 (c ∷ rest)
label_stops (g.colon mark) = ending_stops (ending m.Colon refl mark)
label_stops (g.semicolon mark) = ending_stops (ending m.Semicolon refl mark)

pub keyword_stops : (w : Keyword) → binds (k.Keyword w) ≡ 0 → {c : Token} {rest : List Token} → IsKeyword w c → Stops 1 (c ∷ rest)
keyword_stops w loose {c = c} is = let h : binds c.kind ≡ 0 = ap binds is ∙ loose in record { below = omega arith }

module _ (laws : Laws) (limit : ℕ) where
  pub test_is : {ts rest : List Token} {x : Expr} → IsTest ts x rest → nesting x ≤ limit → p.in_parentheses (parse limit) ts ≡ Some (x, rest)
  unfolding p.in_parentheses
  test_is (g.test opens d mark) small =
      then_is _ (expect_is opens) (then_is _ (closed_is laws limit m.CloseParen refl d mark small) (then_is _ (expect_is mark) refl))

  pub exprs_is : (closing : Mark) → binds (k.Mark closing) ≡ 0 → is_mark m.Comma (k.Mark closing) ≡ false →
      {ts rest : List Token} {xs : List Expr} {c : Token} → IsExprs closing ts xs c rest → greatest nesting xs ≤ limit →
      p.exprs (parse limit) closing ts ≡ Some ((xs, c), rest)
  exprs_is closing loose other {ts = ts} d small = separated_is (IsExpression 1) (parse limit (Level 1)) nesting limit closing loose other
      (λ ts rest x c f e fits. level_is laws limit f (ending_stops e) fits) shorter_expression (length ts) [] (from_exprs d)
      (omega arith) small

  pub maybe_exprs_is : (closing : Mark) → binds (k.Mark closing) ≡ 0 → is_mark m.Comma (k.Mark closing) ≡ false →
      begins_expression (k.Mark closing) ≡ false → {ts rest : List Token} {xs : List Expr} → IsMaybeExprs closing ts xs rest →
      greatest nesting xs ≤ limit → p.maybe_exprs (parse limit) closing ts ≡ Some (xs, rest)
  unfolding p.maybe_exprs
  maybe_exprs_is closing loose other none (g.no_exprs mark) small = if_true _ _ (mark_is closing mark) refl
  maybe_exprs_is closing loose other none (g.some_exprs d) small =
      if_false _ _ (not_first closing none (exprs_begin d)) (then_is _ (exprs_is closing loose other d small) refl)

  destructured_is : (o : Token) {ts rest : List Token} {items : _} {c : Token} → IsTargets ts items c rest →
      target_nesting (target.Destructure o.start items) ≤ limit →
      p.destructured (parse limit) o ts ≡ Some (target.Destructure o.start items, rest)
  unfolding p.destructured
  destructured_is o {ts = ts} {rest = rest} {items = items} {c = c} d small =
      then_is _ (laws.of_expressions.targets_complete limit ts items c rest d small) refl

  source_is : {ts rest : List Token} {x : Expr} → IsPostfix ts x rest → is_source x ≡ true → nesting x ≤ limit → Ends rest →
      source (parse limit) ts ≡ Some (x, rest)
  unfolding source
  source_is {ts = ts} {rest = rest} {x = x} d is small ends =
      then_is _ (laws.of_expressions.postfix_complete limit ts x rest d small ends) (if_true _ _ is refl)

  pub foreach_target_is : {ts rest : List Token} {value : ForeachTarget} → IsForeachTarget ts value rest → target_nesting value ≤ limit → Ends rest →
      p.foreach_target (parse limit) ts ≡ Some (value, rest)
  unfolding p.foreach_target p.referenced
  foreach_target_is (g.to_variable {rest = rest} {t = t} is) small ends = ap (λ kind. p.target_by (parse limit) t kind rest) is
  foreach_target_is (g.to_reference {ts = ts} {t = t} amp d is) small ends =
      ap (λ kind. p.target_by (parse limit) t kind ts) amp ∙ then_is _ (source_is d is small ends) refl
  foreach_target_is (g.to_items {ts = ts} {o = o} opens d) small ends =
      ap (λ kind. p.target_by (parse limit) o kind ts) opens ∙ destructured_is o d small

  pub label_is : {ts rest : List Token} {found : Option Expr} {c : Token} → IsLabel ts found c rest → maybe nesting found ≤ limit →
      p.label (parse limit) ts ≡ Some ((found, c), rest)
  unfolding p.label
  label_is (g.of_case {ts = ts} {c = c} is d end) small =
      then_is _ (ap (λ kind. p.label_by (parse limit) kind ts) is ∙ then_is _ (level_is laws limit d (label_stops end) small) refl)
      (then_is _ (label_end_is end) refl)
  label_is (g.of_default {rest = rest} {c = c} is end) small =
      then_is _ (ap (λ kind. p.label_by (parse limit) kind (c ∷ rest)) is) (then_is _ (label_end_is end) refl)

  pub expression_is : {ts rest : List Token} {x : Expr} {c : Token} → IsExpression 1 ts x (c ∷ rest) → IsMark m.Semicolon c →
      nesting x ≤ limit → p.expression (parse limit) ts ≡ Some (s.Expression (span (place x) (on c)) x, rest)
  unfolding p.expression
  expression_is d mark small = then_is _ (closed_is laws limit m.Semicolon refl d mark small) (then_is _ (expect_is mark) refl)

-- ---- lists of statements

pub ends_no_expression : (kind : Kind) → begins_expression kind ≡ true → p.ends_statements kind ≡ false
ends_no_expression (k.Mark m.CloseBrace) h = absurd (cc)
ends_no_expression (k.Keyword w.Case) h = absurd (cc)
ends_no_expression (k.Keyword w.Default) h = absurd (cc)
ends_no_expression _ h = refl

begins_statement : {ts : List Token} → Begins ts → at_end p.ends_statements ts ≡ false
begins_statement (begins {t = t} h) = ends_no_expression t.kind h
begins_statement (begins_static is colons) = ap p.ends_statements is

-- no statement begins with a token that ends a list of them
pub statement_begins : {top : Bool} {ts rest : List Token} {x : Statement} → IsStatement top ts x rest → at_end p.ends_statements ts ≡ false
statement_begins (g.empty is) = ap p.ends_statements is
statement_begins (g.inline_text is) = ap p.ends_statements is
statement_begins (g.block o d c) = ap p.ends_statements o
statement_begins (g.expression d c) = begins_statement (expression_begins d)
statement_begins (g.function (g.a_function is q o d f b h c)) = ap p.ends_statements is
statement_begins (g.class (g.a_class is q d o f c)) = ap p.ends_statements is
statement_begins (g.if_ is d f h i) = ap p.ends_statements is
statement_begins (g.while is d f) = ap p.ends_statements is
statement_begins (g.do_while is d q f c) = ap p.ends_statements is
statement_begins (g.for is o d f h i) = ap p.ends_statements is
statement_begins (g.foreach is o d q f h c i) = ap p.ends_statements is
statement_begins (g.switch is d o f c one) = ap p.ends_statements is
statement_begins (g.break is d) = ap p.ends_statements is
statement_begins (g.continue is d) = ap p.ends_statements is
statement_begins (g.return_nothing is c) = ap p.ends_statements is
statement_begins (g.return is d c) = ap p.ends_statements is
statement_begins (g.echo is d) = ap p.ends_statements is
statement_begins (g.global is d) = ap p.ends_statements is
statement_begins (g.static is d) = ap p.ends_statements is
statement_begins (g.unset is o d c) = ap p.ends_statements is
statement_begins (g.const is d) = ap p.ends_statements is

from_statements : {top : Bool} {ts rest : List Token} {xs : List Statement} → IsStatements top ts xs rest →
    at_end p.ends_statements rest ≡ true →
    Many p.ends_statements (IsStatement top) ts xs rest
from_statements g.statements_end e = many_end e
from_statements (g.statements_more d f) e = many_more d (from_statements f e)

pub statements_of_is : (top : Bool) (one : Parser Statement) (depth : ℕ) →
    ((ts rest : List Token) (x : Statement) → IsStatement top ts x rest → statement_nesting x ≤ depth → one ts ≡ Some (x, rest)) →
    {ts rest : List Token} {xs : List Statement} → IsStatements top ts xs rest → at_end p.ends_statements rest ≡ true →
    greatest statement_nesting xs ≤ depth → many p.ends_statements one ts ≡ Some (xs, rest)
statements_of_is top one depth all {ts = ts} d e small = many_is (IsStatement top) one statement_nesting depth p.ends_statements
    all (λ ts rest x f. statement_begins f) (λ ts rest x f. statement_shorter f) (length ts) [] (from_statements d e) (omega arith) small

-- ---- branches and cases

branches_end_is : (ts : List Token) → keyword_next ts ≢ Some w.ElseIf → at_end p.ends_branches ts ≡ true
branches_end_is [] h = refl
branches_end_is (t ∷ ts) h = ap not (not_keyword w.ElseIf t.kind (λ e. h (ap g.is_keyword_of e)))

from_branches : {ts rest : List Token} {xs : List ElseIf} → IsElseIfs ts xs rest → Many p.ends_branches ABranch ts xs rest
from_branches {ts = ts} (g.else_ifs_end h) = many_end (branches_end_is ts h)
from_branches (g.else_if is d f h) = many_more (a_branch is d f) (from_branches h)

branch_begins : (ts rest : List Token) (x : ElseIf) → ABranch ts x rest → at_end p.ends_branches ts ≡ false
branch_begins _ _ _ (a_branch is d f) = ap not (keyword_is w.ElseIf is)

branch_shorter : (ts rest : List Token) (x : ElseIf) → ABranch ts x rest → length rest < length ts
branch_shorter _ _ _ (a_branch is d f) = omega (arith, test_shorter d, statement_shorter f)

no_else_is : (ts : List Token) → keyword_next ts ≢ Some w.Else → sees_keyword w.Else ts ≡ false
no_else_is [] h = refl
no_else_is (t ∷ ts) h = not_keyword w.Else t.kind (λ e. h (ap g.is_keyword_of e))

-- a case whose statements are ended by what follows
data EndedCase (ts : List Token) (x : Case) (rest : List Token) : Type 0 where
  ended : ACase ts x rest → at_end p.ends_statements rest ≡ true → EndedCase ts x rest

cases_end_statements : {ts rest : List Token} {xs : List Case} {c : Token} → IsCases ts xs (c ∷ rest) → IsMark m.CloseBrace c →
    at_end p.ends_statements ts ≡ true
cases_end_statements g.cases_end mark = ap p.ends_statements mark
cases_end_statements (g.cases_more (g.of_case is d e) f h) mark = ap p.ends_statements is
cases_end_statements (g.cases_more (g.of_default is e) f h) mark = ap p.ends_statements is

from_cases : {ts rest : List Token} {xs : List Case} {c : Token} → IsCases ts xs (c ∷ rest) → IsMark m.CloseBrace c →
    Many (is_mark m.CloseBrace) EndedCase ts xs (c ∷ rest)
from_cases g.cases_end mark = many_end (mark_is m.CloseBrace mark)
from_cases (g.cases_more d f h) mark = many_more (ended (a_case d f) (cases_end_statements h mark)) (from_cases h mark)

case_begins : (ts rest : List Token) (x : Case) → EndedCase ts x rest → at_end (is_mark m.CloseBrace) ts ≡ false
case_begins _ _ _ (ended (a_case (g.of_case is d e) f) h) = ap (is_mark m.CloseBrace) is
case_begins _ _ _ (ended (a_case (g.of_default is e) f) h) = ap (is_mark m.CloseBrace) is

case_shorter : (ts rest : List Token) (x : Case) → EndedCase ts x rest → length rest < length ts
case_shorter _ _ _ (ended (a_case d f) h) = omega (arith, label_shorter d, statements_shorter f)

pub at_most_one : {n : ℕ} → n ≤ 1 → nat_le n 1 ≡ true
at_most_one h = grind arith

case_nests : (laws : Laws) (at : At) (test : Option Expr) (body : List Statement) →
    case_nesting (roll-Case (record { at = at; test = test; body = body })) ≡ suc (max (maybe nesting test)
    (greatest statement_nesting body))
unfolding out
case_nests laws at test body = laws.of_nesting.case (roll-Case (record { at = at; test = test; body = body }))

else_if_nests : (laws : Laws) (test : Expr) (body : Statement) →
    else_if_nesting (roll-ElseIf (record { test = test; body = body })) ≡ max (nesting test) (statement_nesting body)
unfolding out
else_if_nests laws test body = laws.of_nesting.else_if (roll-ElseIf (record { test = test; body = body }))

abbrev pub CompleteStatement : ℕ → Parser Statement → Type 0
CompleteStatement depth nested = (ts rest : List Token) (x : Statement) → IsStatement false ts x rest → statement_nesting x ≤ depth →
    nested ts ≡ Some (x, rest)

module _ (laws : Laws) (limit depth : ℕ) (fits : depth ≤ limit) (nested : Parser Statement) (all : CompleteStatement depth nested) where
  pub statements_is : {ts rest : List Token} {xs : List Statement} {c : Token} → IsStatements false ts xs (c ∷ rest) →
      IsMark m.CloseBrace c →
      greatest statement_nesting xs ≤ depth → p.statements (parse limit) nested ts ≡ Some (xs, c ∷ rest)
  statements_is d mark small = statements_of_is false nested depth all d (ap p.ends_statements mark) small

  branch_is : (ts rest : List Token) (x : ElseIf) → ABranch ts x rest → else_if_nesting x ≤ depth →
      p.else_if (parse limit) nested ts ≡ Some (x, rest)
  unfolding p.else_if
  branch_is _ rest _ (a_branch {mid = mid} {x = x} {body = body} is d f) small =
      let n = else_if_nests laws x body in
      then_is _ (test_is laws limit d (omega arith)) (then_is _ (all mid rest body f (omega arith)) refl)

  pub branches_is : {ts rest : List Token} {xs : List ElseIf} → IsElseIfs ts xs rest → greatest else_if_nesting xs ≤ depth →
      many p.ends_branches (p.else_if (parse limit) nested) ts ≡ Some (xs, rest)
  branches_is {ts = ts} d small = many_is ABranch (p.else_if (parse limit) nested) else_if_nesting depth p.ends_branches
      branch_is branch_begins branch_shorter (length ts) [] (from_branches d) (omega arith) small

  pub otherwise_is : {ts rest : List Token} {x : Option Statement} → IsElse ts x rest → maybe statement_nesting x ≤ depth →
      p.otherwise (parse limit) nested ts ≡ Some (x, rest)
  unfolding p.otherwise
  otherwise_is {ts = ts} (g.no_else h) small = if_false _ _ (no_else_is ts h) refl
  otherwise_is (g.an_else {ts = ts} {rest = rest} {body = body} is d) small =
      if_true _ _ (keyword_is w.Else is) (then_is _ (all ts rest body d small) refl)

  case_is : (ts rest : List Token) (x : Case) → EndedCase ts x rest → case_nesting x ≤ depth →
      p.case (parse limit) nested ts ≡ Some (x, rest)
  unfolding p.case p.case_from
  case_is _ rest _ (ended (a_case {t = t} {c = c} {test = test} {body = body} d f) e) small =
      let n = case_nests laws (span (on t) (last_statement (on c) body)) test body in
      then_is _ (label_is laws limit d (omega arith)) (then_is _ (statements_of_is false nested depth all f e (omega arith)) refl)

  pub cases_is : {ts rest : List Token} {xs : List Case} {c : Token} → IsCases ts xs (c ∷ rest) → IsMark m.CloseBrace c →
      greatest case_nesting xs ≤ depth → many (is_mark m.CloseBrace) (p.case (parse limit) nested) ts ≡ Some (xs, c ∷ rest)
  cases_is {ts = ts} d mark small = many_is EndedCase (p.case (parse limit) nested) case_nesting depth (is_mark m.CloseBrace)
      case_is case_begins case_shorter (length ts) [] (from_cases d mark) (omega arith) small
