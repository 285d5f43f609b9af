-- Functions, classes and all statements: what the parser answers is in the grammar.
use Rattle.std.specs.Prelude.{◌≡◌, ℕ, zero, suc, Bool, true, false, List, [], ◌∷◌, refl}
use Rattle.hph_ast.specs.declared.token.Token.{Token}
use Rattle.hph_ast.specs.declared.token.Kind.{Kind}
use Rattle.hph_ast.specs.declared.token.Kind.TheVariants as k
use Rattle.hph_ast.specs.declared.token.Mark.TheVariants as m
use Rattle.hph_ast.specs.declared.keyword.Keyword.{Keyword}
use Rattle.hph_ast.specs.declared.keyword.Keyword.TheVariants as w
use Rattle.hph_ast.specs.declared.expr.Expr.{Expr}
use Rattle.hph_ast.specs.declared.class.Member.{Member}
use Rattle.hph_ast.specs.declared.class.Modifiers.{Modifiers}
use Rattle.hph_ast.specs.declared.stmt.Statement.{Statement}
use Rattle.hph_ast.specs.Places.{on}
use Rattle.hph_ast.specs.Terminals.{IsKeyword}
use Rattle.hph_ast.specs.Declarations.{no_modifiers, has_modifier, IsModifiers, IsResult}
use Rattle.hph_ast.specs.Statements as g
use Rattle.hph_ast.specs.Statements.{IsStatement, IsStatements, IsFunction, IsClassDeclaration, IsExtends, IsMember, IsMembers}
use Rattle.hph_fexpr.specs.declared.form.Form.{Form}
use Rattle.hph_cursor.specs.Steps.{Parser, is_mark}
use Rattle.hph_fstmt.specs.Words.{is_keyword, sees_keyword}
use Rattle.hph_fstmt.specs.Repeats.{many}
use Rattle.hph_fstmt.specs.Statements as p
use Rattle.hph_fstmt.specs.Parser.{statement}
use Rattle.hph_fstmt.proofs.Tools.{Gives, none, some, then_ok, map_ok, if_ok, expect_at, expect_with, name_at}
use Rattle.hph_fstmt.proofs.Keywords.{keyword_true}
use Rattle.hph_fstmt.proofs.Repeats.{Many, many_end, many_more, many_ok}
use Rattle.hph_fstmt.proofs.DeclarationsSound.{params_ok, result_type_ok, maybe_type_ok, modifiers_ok, constants_ok, properties_ok}
use Rattle.hph_fstmt.proofs.StatementsSound.{SoundExpr, SoundStatement, extends_ok, statements_ok, expression_ok, returned_ok, echo_ok, unset_ok, consts_ok, static_or_expression_ok, global_ok, break_ok, continue_ok, block_ok, while_ok, do_while_ok, for_ok, foreach_ok, if_ok_, switch_ok}

as_members : {ts rest : List Token} {xs : List Member} → Many (is_mark m.CloseBrace) IsMember ts xs rest → IsMembers ts xs rest
as_members (many_end e) = g.members_end
as_members (many_more d f) = g.members_more d (as_members f)

module _ (below : Form → Parser Expr) (ok : SoundExpr below) (nested : Parser Statement) (sound : SoundStatement nested) where
  function_ok : (t : Token) (ts : List Token) → IsKeyword w.Function t → Gives (IsFunction (t ∷ ts)) (p.function_from below nested t ts)
  unfolding p.function_from p.function_body
  function_ok t ts is = name_at (λ ts. IsFunction (t ∷ ts)) ts _ (λ q us spelled named.
      expect_at (λ us. IsFunction (t ∷ q ∷ us)) m.OpenParen us (λ o vs paren.
      then_ok (params_ok below ok.level vs) (λ ps mid d1. then_ok (result_type_ok mid) (λ result ws d2.
      expect_with (IsResult mid result) m.OpenBrace ws d2 (λ b after brace d2.
      then_ok (statements_ok below ok nested sound after) (λ body xs d3. expect_with (IsStatements false after body) m.CloseBrace xs d3
      (λ c rest mark d3.
      some (g.a_function is named paren d1 d2 brace d3 mark))))))))

  method_ok : (o : Token) (start : List Token) (mods : Modifiers) (ts : List Token) → IsModifiers no_modifiers (o ∷ start) mods ts →
      sees_keyword w.Function ts ≡ true → Gives (IsMember (o ∷ start)) (p.method below nested (on o) mods ts)
  unfolding p.method
  method_ok o start mods [] d e = none
  method_ok o start mods (t ∷ ts) d e = then_ok (function_ok t ts (keyword_true w.Function t.kind e)) (λ f rest h. some (g.method d h))

  class_constants_ok : (o : Token) (start : List Token) (mods : Modifiers) (t : Token) (ts : List Token) →
      IsModifiers no_modifiers (o ∷ start) mods (t ∷ ts) →
      mods.is_static ≡ false → IsKeyword w.Const t → Gives (IsMember (o ∷ start)) (p.class_constants below nested (on o) mods ts)
  unfolding p.class_constants
  class_constants_ok o start mods t ts d off is = then_ok (constants_ok below ok.level ts) (λ r rest f. some (g.constants d off is f))

  members_properties_ok : (o : Token) (start : List Token) (mods : Modifiers) (ts : List Token) →
      IsModifiers no_modifiers (o ∷ start) mods ts →
      has_modifier mods ≡ true → Gives (IsMember (o ∷ start)) (p.properties below nested (on o) mods ts)
  unfolding p.properties
  members_properties_ok o start mods ts d on = then_ok (maybe_type_ok ts) (λ found mid f. then_ok (properties_ok below ok.level mid)
      (λ r rest h.
      some (g.properties d on f h)))

  member_of_ok : (o : Token) (start : List Token) (mods : Modifiers) (ts : List Token) → IsModifiers no_modifiers (o ∷ start) mods ts →
      Gives (IsMember (o ∷ start)) (p.member_of below nested (on o) mods ts)
  unfolding p.member_of
  member_of_ok o start mods [] d = if_ok (has_modifier mods) (λ e. members_properties_ok o start mods [] d e) (λ _. none)
  member_of_ok o start mods (t ∷ ts) d = if_ok (is_keyword w.Const t.kind)
      (λ e. if_ok mods.is_static (λ _. none) (λ off. class_constants_ok o start mods t ts d off (keyword_true w.Const t.kind e)))
      (λ _. if_ok (is_keyword w.Function t.kind) (λ e. method_ok o start mods (t ∷ ts) d e)
      (λ _. if_ok (has_modifier mods) (λ e. members_properties_ok o start mods (t ∷ ts) d e) (λ _. none)))

  member_ok : (ts : List Token) → Gives (IsMember ts) (p.class_member below nested ts)
  unfolding p.class_member p.member_from
  member_ok [] = none
  member_ok (o ∷ ts) = then_ok (modifiers_ok no_modifiers (o ∷ ts)) (λ mods us d. member_of_ok o ts mods us d)

  members_ok : (ts : List Token) → Gives (IsMembers ts) (many (is_mark m.CloseBrace) (p.class_member below nested) ts)
  members_ok ts = map_ok (many_ok IsMember (p.class_member below nested) (is_mark m.CloseBrace) (λ ts _. member_ok ts) ts)
      (λ xs rest d. as_members d)

  class_ok : (t : Token) (ts : List Token) → IsKeyword w.Class t → Gives (IsClassDeclaration (t ∷ ts)) (p.class_from below nested t ts)
  unfolding p.class_from p.class_body
  class_ok t ts is = name_at (λ ts. IsClassDeclaration (t ∷ ts)) ts _ (λ q us spelled named.
      then_ok (extends_ok us) (λ parent vs d1. expect_with (IsExtends us parent) m.OpenBrace vs d1 (λ o mid brace d1.
      then_ok (members_ok mid) (λ members ws d2. expect_with (IsMembers mid members) m.CloseBrace ws d2 (λ c rest mark d2.
      some (g.a_class is named d1 brace d2 mark))))))

  keyword_ok : (top : Bool) (t : Token) (ts : List Token) (word : Keyword) → IsKeyword word t →
      Gives (IsStatement top (t ∷ ts)) (p.keyword_by below nested top word (t ∷ ts))
  keyword_ok top t ts w.If is = if_ok_ below ok nested sound top t ts is
  keyword_ok top t ts w.While is = while_ok below ok nested sound top t ts is
  keyword_ok top t ts w.Do is = do_while_ok below ok nested sound top t ts is
  keyword_ok top t ts w.For is = for_ok below ok nested sound top t ts is
  keyword_ok top t ts w.Foreach is = foreach_ok below ok nested sound top t ts is
  keyword_ok top t ts w.Switch is = switch_ok below ok nested sound top t ts is
  keyword_ok top t ts w.Break is = break_ok top t ts is
  keyword_ok top t ts w.Continue is = continue_ok top t ts is
  keyword_ok top t ts w.Return is = returned_ok below ok top t ts is
  keyword_ok top t ts w.Echo is = echo_ok below ok top t ts is
  keyword_ok top t ts w.Global is = global_ok top t ts is
  keyword_ok top t ts w.Static is = static_or_expression_ok below ok top t ts is
  keyword_ok top t ts w.Unset is = unset_ok below ok top t ts is
  keyword_ok true t ts w.Const is = consts_ok below ok t ts is
  keyword_ok false t ts w.Const is = none
  keyword_ok top t ts w.Function is = then_ok (function_ok t ts is) (λ f rest d. some (g.function d))
  keyword_ok top t ts w.Class is = then_ok (class_ok t ts is) (λ c rest d. some (g.class d))
  keyword_ok top t ts _ is = expression_ok below ok top (t ∷ ts)

  one_statement_ok : (top : Bool) (ts : List Token) → Gives (IsStatement top ts) (p.one_statement below nested top ts)
  one_statement_ok top [] = none
  one_statement_ok top (t ∷ ts) = go t.kind refl
    where
      go : (kind : Kind) → t.kind ≡ kind → Gives (IsStatement top (t ∷ ts)) (p.statement_by below nested top kind (t ∷ ts))
      go (k.Mark m.Semicolon) is = some (g.empty is)
      go (k.InlineText bytes) is = some (g.inline_text is)
      go (k.Mark m.OpenBrace) is = block_ok below ok nested sound top t ts is
      go (k.Keyword word) is = keyword_ok top t ts word is
      go _ is = expression_ok below ok top (t ∷ ts)

pub statement_ok : (below : Form → Parser Expr) → SoundExpr below → (depth : ℕ) (top : Bool) (ts : List Token) →
    Gives (IsStatement top ts) (statement below depth top ts)
unfolding statement
statement_ok below ok zero top ts = none
statement_ok below ok (suc depth) top ts = one_statement_ok below ok (statement below depth false)
    (λ us. statement_ok below ok depth false us) top ts
