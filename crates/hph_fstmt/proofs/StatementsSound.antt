-- Statements: what the parser answers is in the grammar.
use Rattle.std.specs.Prelude.{◌≡◌, ◌≢◌, ℕ, ◌≤◌, Bool, true, false, not, List, [], ◌∷◌, Option, Some, nat_le, count_by, refl}
use Rattle.std.proofs.Common.{arith}
use Rattle.hph_ast.specs.declared.token.Token.{Token}
use Rattle.hph_ast.specs.declared.token.Kind.{Kind}
use Rattle.hph_ast.specs.declared.token.Kind.TheVariants as k
use Rattle.hph_ast.specs.declared.token.Mark.{Mark}
use Rattle.hph_ast.specs.declared.token.Mark.TheVariants as m
use Rattle.hph_ast.specs.declared.keyword.Keyword.TheVariants as w
use Rattle.hph_ast.specs.declared.operator.Binary.TheVariants as b
use Rattle.hph_ast.specs.declared.expr.Expr.{Expr}
use Rattle.hph_ast.specs.declared.stmt.Statement.{Statement}
use Rattle.hph_ast.specs.declared.stmt.ElseIf.{ElseIf, roll-ElseIf}
use Rattle.hph_ast.specs.declared.stmt.Case.{Case, roll-Case}
use Rattle.hph_ast.specs.Places.{on, span}
use Rattle.hph_ast.specs.Shapes.{is_written, is_source}
use Rattle.hph_ast.specs.Terminals.{IsMark, IsKeyword}
use Rattle.hph_ast.specs.Expressions.{IsExpression, IsPostfix, IsPaths, IsTargets}
use Rattle.hph_ast.specs.Statements as g
use Rattle.hph_ast.specs.Statements.{keyword_next, last_statement, is_default, IsTest, IsExprs, IsMaybeExprs, IsForeachKey, IsForeachTarget, IsLevels, IsLabel, IsLabelEnd, IsStatement, IsStatements, IsElseIfs, IsElse, IsCases, IsExtends}
use Rattle.hph_fexpr.specs.declared.form.Form.{Form}
use Rattle.hph_fexpr.specs.declared.form.Form.TheVariants.{Level, Postfix}
use Rattle.hph_cursor.specs.Steps.{Parser, ◌>>=◌, and_then, is_mark, expect, pure}
use Rattle.hph_fexpr.specs.Lists.{paths}
use Rattle.hph_fexpr.specs.Arrays.{source, elements}
use Rattle.hph_fstmt.specs.Words.{is_keyword, sees_keyword, expect_kind}
use Rattle.hph_fstmt.specs.Repeats.{at_end, many}
use Rattle.hph_fstmt.specs.Statements as p
use Rattle.hph_fstmt.proofs.Tools.{Gives, none, some, then_ok, map_ok, if_ok, is_mark_true, sees_at, expect_at, expect_with, kind_at, kind_with, name_at}
use Rattle.hph_fstmt.proofs.Keywords.{keyword_true, keyword_at}
use Rattle.hph_fstmt.proofs.Repeats.{Separated, last, more, separated_ok, Many, many_end, many_more, many_ok}
use Rattle.hph_fstmt.proofs.DeclarationsSound.{SoundLevel, variables_ok, statics_ok, constants_ok}

-- ---- without expressions

pub foreach_key_ok : (ts : List Token) → Gives (IsForeachKey ts) (p.foreach_key ts)
unfolding p.foreach_key
foreach_key_ok [] = some g.no_key
foreach_key_ok (t ∷ []) = some g.no_key
foreach_key_ok (t ∷ q ∷ us) = if_ok (is_mark m.DoubleArrow q.kind) (λ e. go t.kind refl (is_mark_true m.DoubleArrow q.kind e))
    (λ _. some g.no_key)
  where
    go : (kind : Kind) → t.kind ≡ kind → IsMark m.DoubleArrow q → Gives (IsForeachKey (t ∷ q ∷ us)) (p.key_by t kind (q ∷ us))
    go (k.Variable spelled) is arrow = some (g.a_key is arrow)
    go _ is arrow = none

pub levels_ok : (ts : List Token) → Gives (λ r. IsLevels ts r.0 r.1) (p.levels ts)
unfolding p.levels p.maybe_levels
levels_ok [] = none
levels_ok (t ∷ us) = go t.kind refl
  where
    go : (kind : Kind) → t.kind ≡ kind →
        Gives (λ (r : Option ℕ × Token). IsLevels (t ∷ us) r.0 r.1) (and_then (p.levels_by kind (t ∷ us))
        (λ n. expect m.Semicolon >>= λ c. pure (n, c)))
    go (k.Int n) is = expect_at (λ us (r : Option ℕ × Token). IsLevels (t ∷ us) r.0 r.1) m.Semicolon us
        (λ c rest mark. some (g.levels is mark))
    go _ is = expect_at (λ us (r : Option ℕ × Token). IsLevels us r.0 r.1) m.Semicolon (t ∷ us) (λ c rest mark. some (g.no_levels mark))

pub extends_ok : (ts : List Token) → Gives (IsExtends ts) (p.extends ts)
unfolding p.extends
extends_ok ts = keyword_at IsExtends w.Extends ts (λ t us is. name_at (λ us. IsExtends (t ∷ us)) us _
    (λ q rest spelled e. some (g.extends is e)))
    (λ _. some g.no_parent)

-- what is known of the parser of expressions
-- a path behind `&`
record Source (ts : List Token) (x : Expr) (rest : List Token) : Type 0 where
  is : IsPostfix ts x rest
  source : is_source x ≡ true

pub record SoundExpr (below : Form → Parser Expr) : Type 0 where
  pub level : SoundLevel below
  pub paths_ok : (ts : List Token) → Gives (λ r rest. (c : Token) × IsPaths is_written ts r.0 c rest) (paths below is_written ts)
  pub targets_ok : (ts : List Token) → Gives (λ r rest. (c : Token) × IsTargets ts r.items c rest) (elements below m.CloseBracket ts)
  pub postfix : (ts : List Token) → Gives (IsPostfix ts) (below Postfix ts)

as_exprs : {closing : Mark} {ts rest : List Token} {xs : List Expr} {c : Token} → Separated (IsExpression 1) closing ts xs c rest →
    IsExprs closing ts xs c rest
as_exprs (last d mark) = g.exprs_last d mark
as_exprs (more d comma f) = g.exprs_more d comma (as_exprs f)

-- one or more and then the mark that closes
as_maybe : {closing : Mark} {ts rest : List Token} {xs : List Expr} {c : Token} → IsExprs closing ts xs c rest →
    IsMaybeExprs closing ts xs rest
as_maybe (g.exprs_last d mark) = g.some_exprs (g.exprs_last d mark)
as_maybe (g.exprs_more d comma f) = g.some_exprs (g.exprs_more d comma f)

label_end : (t : Token) (kind : Kind) → t.kind ≡ kind → p.ends_label kind ≡ true → IsLabelEnd t
label_end t (k.Mark m.Colon) is h = g.colon is
label_end t (k.Mark m.Semicolon) is h = g.semicolon is
label_end t _ is h = absurd (cc)

data Cased : List Token → Option Expr → List Token → Type 0 where
  cased : {ts rest : List Token} {x : Expr} → IsExpression 1 ts x rest → Cased ts (Some x) rest

as_case : {t c : Token} {ts rest : List Token} {found : Option Expr} → IsKeyword w.Case t → Cased ts found (c ∷ rest) → IsLabelEnd c →
    IsLabel (t ∷ ts) found c rest
as_case is (cased d) end = g.of_case is d end

module _ (below : Form → Parser Expr) (ok : SoundExpr below) where
  pub test_ok : (ts : List Token) → Gives (IsTest ts) (p.in_parentheses below ts)
  unfolding p.in_parentheses
  test_ok ts = expect_at IsTest m.OpenParen ts (λ o us opens. then_ok (ok.level us) (λ x vs d.
      expect_with (IsExpression 1 us x) m.CloseParen vs d (λ c rest mark d. some (g.test opens d mark))))

  pub exprs_ok : (closing : Mark) (ts : List Token) → Gives (λ r. IsExprs closing ts r.0 r.1) (p.exprs below closing ts)
  exprs_ok closing ts = map_ok (separated_ok (IsExpression 1) (below (Level 1)) ok.level closing ts) (λ r rest d. as_exprs d)

  pub maybe_exprs_ok : (closing : Mark) (ts : List Token) → Gives (IsMaybeExprs closing ts) (p.maybe_exprs below closing ts)
  unfolding p.maybe_exprs
  maybe_exprs_ok closing ts = sees_at (IsMaybeExprs closing) closing ts (λ c us mark. some (g.no_exprs mark))
      (λ _. then_ok (exprs_ok closing ts) (λ r rest d. some (as_maybe d)))

  source_ok : (ts : List Token) → Gives (Source ts) (source below ts)
  unfolding source
  source_ok ts = then_ok (ok.postfix ts) (λ x rest d. if_ok (is_source x) (λ h. some (record { is = d; source = h })) (λ _. none))

  pub foreach_target_ok : (ts : List Token) → Gives (IsForeachTarget ts) (p.foreach_target below ts)
  unfolding p.foreach_target p.referenced p.destructured
  foreach_target_ok [] = none
  foreach_target_ok (t ∷ us) = go t.kind refl
    where
      go : (kind : Kind) → t.kind ≡ kind → Gives (IsForeachTarget (t ∷ us)) (p.target_by below t kind us)
      go (k.Variable spelled) is = some (g.to_variable is)
      go (k.Operator b.BitAnd) is = then_ok (source_ok us) (λ x rest d. some (g.to_reference is d.is d.source))
      go (k.Mark m.OpenBracket) is = then_ok (ok.targets_ok us) (λ r rest d. some (g.to_items is d.1))
      go _ is = none

  cased_ok : (ts : List Token) → Gives (Cased ts) (p.label_by below (k.Keyword w.Case) ts)
  cased_ok ts = then_ok (ok.level ts) (λ x rest d. some (cased d))

  pub label_ok : (ts : List Token) → Gives (λ r. IsLabel ts r.0 r.1) (p.label below ts)
  unfolding p.label
  label_ok [] = none
  label_ok (t ∷ us) = go t.kind refl
    where
      go : (kind : Kind) → t.kind ≡ kind → Gives (λ (r : Option Expr × Token). IsLabel (t ∷ us) r.0 r.1)
          (and_then (p.label_by below kind us) (λ x. expect_kind p.ends_label >>= λ c. pure (x, c)))
      go (k.Keyword w.Case) is = then_ok (cased_ok us) (λ r vs d. kind_with (Cased us r) p.ends_label vs d
          (λ c rest e d. some (as_case is d (label_end c c.kind refl e))))
      go (k.Keyword w.Default) is = kind_at (λ us (r : Option Expr × Token). IsLabel (t ∷ us) r.0 r.1) p.ends_label us
          (λ c rest e. some (g.of_default is (label_end c c.kind refl e)))
      go _ is = none

  pub expression_ok : (top : Bool) (ts : List Token) → Gives (IsStatement top ts) (p.expression below ts)
  unfolding p.expression
  expression_ok top ts = then_ok (ok.level ts) (λ x us d. expect_with (IsExpression 1 ts x) m.Semicolon us d
      (λ c rest mark d. some (g.expression d mark)))

  pub returned_ok : (top : Bool) (t : Token) (ts : List Token) → IsKeyword w.Return t →
      Gives (IsStatement top (t ∷ ts)) (p.returned below t ts)
  unfolding p.returned
  returned_ok top t ts is = sees_at (λ ts. IsStatement top (t ∷ ts)) m.Semicolon ts (λ c us mark. some (g.return_nothing is mark))
      (λ _. then_ok (ok.level ts) (λ x us d. expect_with (IsExpression 1 ts x) m.Semicolon us d
      (λ c rest mark d. some (g.return is d mark))))

  pub echo_ok : (top : Bool) (t : Token) (ts : List Token) → IsKeyword w.Echo t → Gives (IsStatement top (t ∷ ts)) (p.echo below t ts)
  unfolding p.echo
  echo_ok top t ts is = then_ok (exprs_ok m.Semicolon ts) (λ r rest d. some (g.echo is d))

  pub unset_ok : (top : Bool) (t : Token) (ts : List Token) → IsKeyword w.Unset t → Gives (IsStatement top (t ∷ ts)) (p.unset below t ts)
  unfolding p.unset
  unset_ok top t ts is = expect_at (λ ts. IsStatement top (t ∷ ts)) m.OpenParen ts (λ o us paren. then_ok (ok.paths_ok us) (λ r vs d.
      expect_with (λ vs. (c : Token) × IsPaths is_written us r.0 c vs) m.Semicolon vs d (λ c rest mark d. some
      (g.unset is paren d.1 mark))))

  pub static_ok : (top : Bool) (t : Token) (ts : List Token) → IsKeyword w.Static t → Gives (IsStatement top (t ∷ ts)) (p.static_ below t ts)
  unfolding p.static_
  static_ok top t ts is = then_ok (statics_ok below ok.level ts) (λ r rest d. some (g.static is d))

  pub consts_ok : (t : Token) (ts : List Token) → IsKeyword w.Const t → Gives (IsStatement true (t ∷ ts)) (p.constants below t ts)
  unfolding p.constants
  consts_ok t ts is = then_ok (constants_ok below ok.level ts) (λ r rest d. some (g.const is d))

  pub static_or_expression_ok : (top : Bool) (t : Token) (ts : List Token) → IsKeyword w.Static t →
      Gives (IsStatement top (t ∷ ts)) (p.static_or_expression below (t ∷ ts))
  unfolding p.static_or_expression
  static_or_expression_ok top t ts is = if_ok _ (λ _. static_ok top t ts is) (λ _. expression_ok top (t ∷ ts))

pub global_ok : (top : Bool) (t : Token) (ts : List Token) → IsKeyword w.Global t → Gives (IsStatement top (t ∷ ts)) (p.global t ts)
unfolding p.global
global_ok top t ts is = then_ok (variables_ok m.Semicolon ts) (λ r rest d. some (g.global is d))

pub break_ok : (top : Bool) (t : Token) (ts : List Token) → IsKeyword w.Break t → Gives (IsStatement top (t ∷ ts)) (p.break_ t ts)
unfolding p.break_
break_ok top t ts is = then_ok (levels_ok ts) (λ r rest d. some (g.break is d))

pub continue_ok : (top : Bool) (t : Token) (ts : List Token) → IsKeyword w.Continue t → Gives (IsStatement top (t ∷ ts)) (p.continue_ t ts)
unfolding p.continue_
continue_ok top t ts is = then_ok (levels_ok ts) (λ r rest d. some (g.continue is d))

-- ---- with statements nested one deeper

abbrev pub SoundStatement : Parser Statement → Type 0
SoundStatement nested = (ts : List Token) → Gives (IsStatement false ts) (nested ts)

as_statements : {top : Bool} {ts rest : List Token} {xs : List Statement} → Many p.ends_statements (IsStatement top) ts xs rest →
    IsStatements top ts xs rest
as_statements (many_end e) = g.statements_end
as_statements (many_more d f) = g.statements_more d (as_statements f)

pub statements_of_ok : (top : Bool) (one : Parser Statement) → ((ts : List Token) → Gives (IsStatement top ts) (one ts)) →
    (ts : List Token) →
    Gives (IsStatements top ts) (many p.ends_statements one ts)
statements_of_ok top one ok ts = map_ok (many_ok (IsStatement top) one p.ends_statements (λ ts _. ok ts) ts) (λ xs rest d. as_statements d)

pub data ABranch : List Token → ElseIf → List Token → Type 0 where
  a_branch : {ts mid rest : List Token} {t : Token} {x : Expr} {body : Statement} →
      IsKeyword w.ElseIf t → IsTest ts x mid → IsStatement false mid body rest →
      ABranch (t ∷ ts) (roll-ElseIf (record { test = x; body = body })) rest

pub branches_end : (ts : List Token) → at_end p.ends_branches ts ≡ true → keyword_next ts ≢ Some w.ElseIf
branches_end [] h e = absurd (cc)
branches_end (t ∷ ts) h e = go t.kind refl h e
  where
    go : (kind : Kind) → t.kind ≡ kind → not (is_keyword w.ElseIf kind) ≡ true → g.is_keyword_of kind ≡ Some w.ElseIf → ⊥
    go (k.Keyword w.ElseIf) is h e = absurd (cc)
    go _ is h e = absurd (cc)

as_branches : {ts rest : List Token} {xs : List ElseIf} → Many p.ends_branches ABranch ts xs rest → IsElseIfs ts xs rest
as_branches {ts = ts} (many_end e) = g.else_ifs_end (branches_end ts e)
as_branches (many_more (a_branch is d f) after) = g.else_if is d f (as_branches after)

at_most_one : {n : ℕ} → nat_le n 1 ≡ true → n ≤ 1
at_most_one h = grind arith

pub data ACase : List Token → Case → List Token → Type 0 where
  a_case : {ts mid rest : List Token} {t c : Token} {test : Option Expr} {body : List Statement} →
      IsLabel (t ∷ ts) test c mid → IsStatements false mid body rest →
      ACase (t ∷ ts) (roll-Case (record { at = span (on t) (last_statement (on c) body); test = test; body = body })) rest

as_cases : {ts rest : List Token} {xs : List Case} → Many (is_mark m.CloseBrace) ACase ts xs rest → IsCases ts xs rest
as_cases (many_end e) = g.cases_end
as_cases (many_more (a_case d f) after) = g.cases_more d f (as_cases after)

not_false : (b : Bool) → not b ≡ false → b ≡ true
not_false true h = refl
not_false false h = absurd (cc)

no_else_next : (ts : List Token) → sees_keyword w.Else ts ≡ false → keyword_next ts ≢ Some w.Else
no_else_next [] h e = absurd (cc)
no_else_next (t ∷ ts) h e = go t.kind h e
  where
    go : (kind : Kind) → is_keyword w.Else kind ≡ false → g.is_keyword_of kind ≡ Some w.Else → ⊥
    go (k.Keyword w.Else) h e = absurd (cc)
    go _ h e = absurd (cc)

module _ (below : Form → Parser Expr) (ok : SoundExpr below) (nested : Parser Statement) (sound : SoundStatement nested) where
  pub statements_ok : (ts : List Token) → Gives (IsStatements false ts) (p.statements below nested ts)
  statements_ok ts = statements_of_ok false nested sound ts

  pub block_ok : (top : Bool) (o : Token) (ts : List Token) → IsMark m.OpenBrace o →
      Gives (IsStatement top (o ∷ ts)) (p.block below nested o ts)
  unfolding p.block
  block_ok top o ts brace = then_ok (statements_ok ts) (λ body us d. expect_with (IsStatements false ts body) m.CloseBrace us d
      (λ c rest mark d. some (g.block brace d mark)))

  pub while_ok : (top : Bool) (t : Token) (ts : List Token) → IsKeyword w.While t →
      Gives (IsStatement top (t ∷ ts)) (p.while_ below nested t ts)
  unfolding p.while_
  while_ok top t ts is = then_ok (test_ok below ok ts) (λ x us d. then_ok (sound us) (λ body rest f. some (g.while is d f)))

  pub do_while_ok : (top : Bool) (t : Token) (ts : List Token) → IsKeyword w.Do t →
      Gives (IsStatement top (t ∷ ts)) (p.do_while below nested t ts)
  unfolding p.do_while
  do_while_ok top t ts is = then_ok (sound ts) (λ body us d. kind_with (IsStatement false ts body) (is_keyword w.While) us d (λ q vs e d.
      then_ok (test_ok below ok vs) (λ x mid f. expect_with (IsTest vs x) m.Semicolon mid f (λ c rest mark f.
      some (g.do_while is d (keyword_true w.While q.kind e) f mark)))))

  pub for_ok : (top : Bool) (t : Token) (ts : List Token) → IsKeyword w.For t → Gives (IsStatement top (t ∷ ts)) (p.for_ below nested t ts)
  unfolding p.for_ p.for_body
  for_ok top t ts is = expect_at (λ ts. IsStatement top (t ∷ ts)) m.OpenParen ts (λ o us paren.
      then_ok (maybe_exprs_ok below ok m.Semicolon us) (λ init ts1 d1. then_ok (maybe_exprs_ok below ok m.Semicolon ts1) (λ test ts2 d2.
      then_ok (maybe_exprs_ok below ok m.CloseParen ts2) (λ step ts3 d3. then_ok (sound ts3) (λ body rest f.
      some (g.for is paren d1 d2 d3 f))))))

  pub foreach_ok : (top : Bool) (t : Token) (ts : List Token) → IsKeyword w.Foreach t →
      Gives (IsStatement top (t ∷ ts)) (p.foreach below nested t ts)
  unfolding p.foreach p.foreach_as p.foreach_body
  foreach_ok top t ts is = expect_at (λ ts. IsStatement top (t ∷ ts)) m.OpenParen ts (λ o us paren.
      then_ok (ok.level us) (λ x vs d. kind_with (IsExpression 1 us x) (is_keyword w.As) vs d (λ q mid e d.
      then_ok (foreach_key_ok mid) (λ key after f. then_ok (foreach_target_ok below ok after) (λ value ws h.
      expect_with (IsForeachTarget after value) m.CloseParen ws h (λ c later mark h. then_ok (sound later) (λ body rest l.
      some (g.foreach is paren d (keyword_true w.As q.kind e) f h mark l))))))))

  branch_ok : (ts : List Token) → at_end p.ends_branches ts ≡ false → Gives (ABranch ts) (p.else_if below nested ts)
  unfolding p.else_if
  branch_ok [] h = none
  branch_ok (t ∷ us) h = then_ok (test_ok below ok us) (λ x vs d. then_ok (sound vs) (λ body rest f.
      some (a_branch (keyword_true w.ElseIf t.kind (not_false _ h)) d f)))

  otherwise_ok : (ts : List Token) → Gives (IsElse ts) (p.otherwise below nested ts)
  unfolding p.otherwise
  otherwise_ok ts = keyword_at IsElse w.Else ts (λ t us is. then_ok (sound us) (λ body rest d. some (g.an_else is d)))
      (λ e. some (g.no_else (no_else_next ts e)))

  branches_ok : (ts : List Token) → Gives (IsElseIfs ts) (many p.ends_branches (p.else_if below nested) ts)
  branches_ok ts = map_ok (many_ok ABranch (p.else_if below nested) p.ends_branches branch_ok ts) (λ xs rest d. as_branches d)

  pub if_ok_ : (top : Bool) (t : Token) (ts : List Token) → IsKeyword w.If t → Gives (IsStatement top (t ∷ ts)) (p.if_ below nested t ts)
  unfolding p.if_ p.branches p.last_branch
  if_ok_ top t ts is = then_ok (test_ok below ok ts) (λ x us d. then_ok (sound us) (λ body after f. then_ok (branches_ok after)
      (λ more later h.
      then_ok (otherwise_ok later) (λ other rest l. some (g.if_ is d f h l)))))

  case_ok : (ts : List Token) → Gives (ACase ts) (p.case below nested ts)
  unfolding p.case p.case_from
  case_ok [] = none
  case_ok (t ∷ us) = then_ok (label_ok below ok (t ∷ us)) (λ r mid d. then_ok (statements_ok mid) (λ body rest f. some (a_case d f)))

  cases_ok : (ts : List Token) → Gives (IsCases ts) (many (is_mark m.CloseBrace) (p.case below nested) ts)
  cases_ok ts = map_ok (many_ok ACase (p.case below nested) (is_mark m.CloseBrace) (λ ts _. case_ok ts) ts) (λ xs rest d. as_cases d)

  pub switch_ok : (top : Bool) (t : Token) (ts : List Token) → IsKeyword w.Switch t →
      Gives (IsStatement top (t ∷ ts)) (p.switch below nested t ts)
  unfolding p.switch p.switch_cases
  switch_ok top t ts is = then_ok (test_ok below ok ts) (λ x us d. expect_with (IsTest ts x) m.OpenBrace us d (λ o vs brace d.
      then_ok (cases_ok vs) (λ cases ws f. expect_with (IsCases vs cases) m.CloseBrace ws f (λ c rest mark f.
      if_ok (nat_le (count_by is_default cases) 1) (λ e. some (g.switch is d brace f mark (at_most_one e))) (λ _. none)))))
