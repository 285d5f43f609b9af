-- Primaries: what the parser answers is in the grammar.
use Rattle.std.specs.Prelude.{◌≡◌, ℕ, Bool, true, false, not, List, [], ◌∷◌, refl}
use Rattle.std.proofs.Common.{sym, subst, ◌∙◌}
use Rattle.hph_ast.specs.declared.token.Token.{Token}
use Rattle.hph_ast.specs.declared.token.Kind.{Kind}
use Rattle.hph_ast.specs.declared.token.Kind.TheVariants as k
use Rattle.hph_ast.specs.declared.token.Mark.{Mark}
use Rattle.hph_ast.specs.declared.token.Mark.TheVariants as m
use Rattle.hph_ast.specs.declared.keyword.Keyword.{Keyword}
use Rattle.hph_ast.specs.declared.keyword.Keyword.TheVariants as w
use Rattle.hph_ast.specs.declared.expr.Expr.{Expr}
use Rattle.hph_ast.specs.declared.expr.Expr.TheVariants as e
use Rattle.hph_ast.specs.declared.expr.ArrayForm.{ArrayForm}
use Rattle.hph_ast.specs.declared.expr.ArrayForm.TheVariants.{Short, Long}
use Rattle.hph_ast.specs.declared.expr.Item.{Item}
use Rattle.hph_ast.specs.declared.expr.ClassReference.{ClassReference}
use Rattle.hph_ast.specs.declared.expr.ClassReference.TheVariants as c
use Rattle.hph_ast.specs.Places.{class_place, on, span}
use Rattle.hph_ast.specs.Shapes.{is_path}
use Rattle.hph_ast.specs.Terminals as terminal
use Rattle.hph_ast.specs.Terminals.{IsMark, IsKeyword, IsClass, IsExit}
use Rattle.hph_ast.specs.Expressions as g
use Rattle.hph_ast.specs.Expressions.{IsExpression, IsPrimary, IsItems, IsMaybeArguments, IsArguments, IsPaths}
use Rattle.hph_fexpr.specs.declared.form.Form.{Form}
use Rattle.hph_fexpr.specs.declared.form.Form.TheVariants.{Level}
use Rattle.hph_fexpr.specs.declared.elements.Elements.{Elements}
use Rattle.hph_cursor.specs.Steps.{Parser, sees}
use Rattle.hph_fexpr.specs.Classes.{scoped}
use Rattle.hph_fexpr.specs.Primaries as p
use Rattle.hph_fexpr.specs.Primaries.{array_of}
use Rattle.hph_fexpr.proofs.Tools.{Gives, none, some, then_ok, map_ok, if_ok, sees_at, take_at, expect_at, expect_with, opens_sees, Sound, closed_as}
use Rattle.hph_fexpr.proofs.ListsSound.{Maybe, arguments_ok, maybe_arguments_ok, paths_ok}
use Rattle.hph_fexpr.proofs.ArraysSound.{Found, elements_ok}
use Rattle.hph_fexpr.proofs.StringsSound.{interpolated_ok}
use Rattle.hph_fexpr.proofs.ClassesSound.{ScopedAt, scoped_at, Parenthesis, parenthesis_is, Refers, by_name, by_target, class_place_is, expression_place_is, parenthesis_ok, scoped_ok, class_reference_ok}

not_true : (x : Bool) → not x ≡ true → x ≡ false
not_true false h = refl
not_true true h = absurd (cc)

-- elements of which none stands in a destructuring alone, as an array
pub array_ok : (closing : Mark) (t : Token) (form : ArrayForm) (ts us mid : List Token) (r : Elements) → Found closing [] false us r mid →
    ((xs : List Item) (c : Token) → IsItems closing us xs c mid → IsPrimary ts (e.Array (span (on t) (on c)) form xs) mid) →
    Gives (IsPrimary ts) (array_of t form r mid)
array_ok closing t form ts us mid r f h = if_ok (not r.targets)
    (λ shut. some (subst (λ xs. IsPrimary ts (e.Array (span (on t) r.close) form xs) mid) (sym f.is_all)
    (subst (λ last. IsPrimary ts (e.Array (span (on t) last) form f.xs) mid) (sym f.is_close)
    (h f.xs f.close (f.as_items (not_true r.targets shut))))))
    (λ _. none)

module _ (below : Form → Parser Expr) (ok : Sound below) where
  pub short_array_ok : (o : Token) → IsMark m.OpenBracket o → (ts : List Token) → Gives (IsPrimary (o ∷ ts)) (p.short_array below o ts)
  unfolding p.short_array
  short_array_ok o opens ts =
      then_ok (elements_ok below ok m.CloseBracket ts)
      (λ r us f. array_ok m.CloseBracket o Short (o ∷ ts) ts us r f (λ xs c d. g.short_array opens d))

  long_array_ok : (t : Token) → IsKeyword w.Array t → (ts : List Token) → Gives (IsPrimary (t ∷ ts)) (p.long_array below t ts)
  unfolding p.long_array
  long_array_ok t is ts = expect_at (λ ts. IsPrimary (t ∷ ts)) m.OpenParen ts
      (λ o us mark. then_ok (elements_ok below ok m.CloseParen us) (λ r vs f.
      array_ok m.CloseParen t Long (t ∷ o ∷ us) us vs r f (λ xs c d. g.long_array is mark d)))

  class_member_ok : (class : ClassReference) (t : Token) → IsClass t class → {x : Expr} {ts rest : List Token} → ScopedAt class ts x rest →
      IsPrimary (t ∷ ts) x rest
  class_member_ok class t is (scoped_at mark d) = g.scoped is mark d

  named_ok : (t : Token) (name : List ℕ) → t.kind ≡ k.Name name → (ts : List Token) → Gives (IsPrimary (t ∷ ts)) (p.named below t name ts)
  unfolding p.named p.call
  named_ok t name is ts = sees_at (λ ts. IsPrimary (t ∷ ts)) m.OpenParen ts
      (λ o us mark. then_ok (arguments_ok below ok us)
      (λ r rest a. some (closed_as (λ xs last. IsPrimary (t ∷ o ∷ us) (e.Call (span (on t) last) name xs) rest) a
      (λ xs c args. g.call is mark args))))
      (λ shut. if_ok (sees m.DoubleColon ts)
      (λ _. map_ok (scoped_ok below ok (c.ByName (on t) name) ts)
      (λ x rest d. class_member_ok (c.ByName (on t) name) t (terminal.named is) d))
      (λ _. some (g.constant is (opens_sees ts ∙ shut))))

  new_is : (t : Token) → IsKeyword w.New t → {ts mid rest : List Token} {class : ClassReference} → Refers ts class mid → (r : _) →
      Maybe (class_place class) mid r rest → IsPrimary (t ∷ ts) (e.New (span (on t) r.1) class r.0) rest
  new_is t is {mid = mid} {rest = rest} (by_name names) r a =
      g.new is names (subst (λ at. IsMaybeArguments at mid r.0 r.1 rest) (class_place_is names) a.is)
  new_is t is {mid = mid} {rest = rest} (by_target {x = x} d) r a =
      g.new_by is d (subst (λ at. IsMaybeArguments at mid r.0 r.1 rest) (expression_place_is x) a.is)

  new_ok : (t : Token) → IsKeyword w.New t → (ts : List Token) → Gives (IsPrimary (t ∷ ts)) (p.new below t ts)
  unfolding p.new
  new_ok t is ts = then_ok (class_reference_ok below ok ts)
      (λ class mid d. then_ok (maybe_arguments_ok below ok (class_place class) mid) (λ r rest a. some (new_is t is d r a)))

  isset_ok : (t : Token) → IsKeyword w.Isset t → (ts : List Token) → Gives (IsPrimary (t ∷ ts)) (p.isset below t ts)
  unfolding p.isset
  isset_ok t is ts = expect_at (λ ts. IsPrimary (t ∷ ts)) m.OpenParen ts (λ o us mark. then_ok (paths_ok below ok is_path us) (λ r rest a.
      some (closed_as (λ xs last. IsPrimary (t ∷ o ∷ us) (e.Isset (span (on t) last) xs) rest) a (λ xs c d. g.isset is mark d))))

  empty_ok : (t : Token) → IsKeyword w.Empty t → (ts : List Token) → Gives (IsPrimary (t ∷ ts)) (p.empty below t ts)
  unfolding p.empty
  empty_ok t is ts = expect_at (λ ts. IsPrimary (t ∷ ts)) m.OpenParen ts
      (λ o us opens. then_ok (ok (Level 1) us) (λ x vs d. expect_with (IsExpression 1 us x) m.CloseParen vs d.is
      (λ c rest mark d. some (g.empty is opens d mark))))

  exit_with_ok : (t o : Token) → IsExit t → IsMark m.OpenParen o → (ts : List Token) →
      Gives (IsPrimary (t ∷ o ∷ ts)) (p.exit_with below t ts)
  unfolding p.exit_with
  exit_with_ok t o is opens ts = sees_at (λ ts. IsPrimary (t ∷ o ∷ ts)) m.CloseParen ts
      (λ c us mark. some (g.exit_of_nothing is opens mark))
      (λ _. then_ok (ok (Level 1) ts)
      (λ x us d. expect_with (IsExpression 1 ts x) m.CloseParen us d.is (λ c rest mark d. some (g.exit_with is opens d mark))))

  exit_ok : (t : Token) → IsExit t → (ts : List Token) → Gives (IsPrimary (t ∷ ts)) (p.exit below t ts)
  unfolding p.exit
  exit_ok t is ts = sees_at (λ ts. IsPrimary (t ∷ ts)) m.OpenParen ts (λ o us opens. exit_with_ok t o is opens us)
      (λ shut. some (g.exit is (opens_sees ts ∙ shut)))

  class_keyword_ok : (class : ClassReference) (t : Token) → IsClass t class → (ts : List Token) →
      Gives (IsPrimary (t ∷ ts)) (scoped below class ts)
  class_keyword_ok class t is ts = map_ok (scoped_ok below ok class ts) (λ x rest d. class_member_ok class t is d)

  keyword_by_ok : (t : Token) (word : Keyword) → IsKeyword word t → (ts : List Token) →
      Gives (IsPrimary (t ∷ ts)) (p.keyword_by below t word ts)
  keyword_by_ok t w.MagicDir is ts = some (g.directory is)
  keyword_by_ok t w.Array is ts = long_array_ok t is ts
  keyword_by_ok t w.New is ts = new_ok t is ts
  keyword_by_ok t w.Isset is ts = isset_ok t is ts
  keyword_by_ok t w.Empty is ts = empty_ok t is ts
  keyword_by_ok t w.Exit is ts = exit_ok t (terminal.exit is) ts
  keyword_by_ok t w.Die is ts = exit_ok t (terminal.die is) ts
  keyword_by_ok t w.SelfClass is ts = class_keyword_ok (c.SelfClass (on t)) t (terminal.self_class is) ts
  keyword_by_ok t w.Parent is ts = class_keyword_ok (c.Parent (on t)) t (terminal.parent is) ts
  keyword_by_ok t w.Static is ts = class_keyword_ok (c.Static (on t)) t (terminal.static is) ts
  keyword_by_ok t _ is ts = none

  paren_is : {o : Token} {ts rest : List Token} {x : Expr} → IsMark m.OpenParen o → Parenthesis o ts x rest → IsPrimary (o ∷ ts) x rest
  paren_is opens (parenthesis_is d mark) = g.paren opens d mark

  primary_by_ok : (t : Token) (kind : Kind) → t.kind ≡ kind → (ts : List Token) → Gives (IsPrimary (t ∷ ts)) (p.primary_by below t kind ts)
  primary_by_ok t (k.Int v) is ts = some (g.int is)
  primary_by_ok t (k.Text bytes) is ts = some (g.text is)
  primary_by_ok t (k.TextHead bytes) is ts = interpolated_ok below ok t bytes is ts
  primary_by_ok t (k.Variable name) is ts = some (g.variable is)
  primary_by_ok t (k.Name name) is ts = named_ok t name is ts
  primary_by_ok t (k.Keyword word) is ts = keyword_by_ok t word is ts
  primary_by_ok t (k.Mark m.OpenBracket) is ts = short_array_ok t is ts
  primary_by_ok t (k.Mark m.OpenParen) is ts = map_ok (parenthesis_ok below ok t ts) (λ x rest d. paren_is is d)
  primary_by_ok t _ is ts = none

  pub primary_ok : (ts : List Token) → Gives (IsPrimary ts) (p.primary below ts)
  unfolding p.primary
  primary_ok ts = take_at IsPrimary ts (λ t us. primary_by_ok t t.kind refl us)
