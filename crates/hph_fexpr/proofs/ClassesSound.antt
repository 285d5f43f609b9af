-- Classes and their members: what the parser answers is in the grammar.
use Rattle.std.specs.Prelude.{◌≡◌, ℕ, zero, suc, ◌<◌, ◌≤◌, Bool, true, false, List, [], ◌∷◌, ◌++◌, length, Some, if◌then◌else◌, refl}
use Rattle.std.proofs.Common.{sym, subst, ◌∙◌, arith}
use Rattle.hph_ast.specs.declared.token.At.{At}
use Rattle.hph_ast.specs.declared.token.Token.{Token}
use Rattle.hph_ast.specs.declared.token.Kind.{Kind}
use Rattle.hph_ast.specs.declared.token.Kind.TheVariants as k
use Rattle.hph_ast.specs.declared.token.Mark.TheVariants as m
use Rattle.hph_ast.specs.declared.keyword.Keyword.TheVariants as w
use Rattle.hph_ast.specs.declared.expr.Expr.{Expr}
use Rattle.hph_ast.specs.declared.expr.Expr.TheVariants as e
use Rattle.hph_ast.specs.declared.expr.ClassReference.{ClassReference, out-ClassReference}
use Rattle.hph_ast.specs.declared.expr.MemberName.{MemberName}
use Rattle.hph_ast.specs.declared.expr.MemberName.TheVariants as n
use Rattle.hph_ast.specs.declared.expr.Step.{Step}
use Rattle.hph_ast.specs.declared.expr.Step.TheVariants as s
use denote.Hole.Carrier.{out}
use Rattle.hph_ast.specs.Levels.{opens}
use Rattle.hph_ast.specs.Places.{place, class_place, on, span, with_steps}
use Rattle.hph_ast.specs.Terminals as terminal
use Rattle.hph_ast.specs.Terminals.{IsMark, IsClass, is_class_word, goes_on_as_target, is_target_step}
use Rattle.hph_ast.specs.Expressions as g
use Rattle.hph_ast.specs.Expressions.{IsExpression, IsMember, IsScoped, IsTarget, IsTargetSteps}
use Rattle.hph_fexpr.specs.declared.form.Form.{Form}
use Rattle.hph_fexpr.specs.declared.form.Form.TheVariants.{Level}
use Rattle.hph_cursor.specs.Steps.{Parser, is_mark, sees}
use Rattle.hph_cursor.specs.Next.{class_by}
use Rattle.hph_fexpr.specs.Classes as p
use Rattle.hph_fexpr.specs.Classes.{constant_of, by_expression}
use Rattle.hph_fexpr.proofs.Tools.{some_inj, is_mark_true, Gives, none, some, then_ok, map_ok, choose_ok, if_ok, take_at, expect_at, expect_with, opens_sees, Sound, More, no_more, one_more, closed_as}
use Rattle.hph_cursor.proofs.Shorter.{expression_shorter, member_shorter}
use Rattle.hph_fexpr.proofs.ListsSound.{arguments_ok}

-- the name of a member and the place of its last token
pub record Member (ts : List Token) (r : MemberName × At) (rest : List Token) : Type 0 where
  pub last : Token
  pub is_last : r.1 ≡ on last
  pub is : IsMember ts r.0 last rest

-- "::" and what stands behind it
pub data ScopedAt (class : ClassReference) : List Token → Expr → List Token → Type 0 where
  scoped_at : {q : Token} {ts rest : List Token} {x : Expr} → IsMark m.DoubleColon q → IsScoped class q ts x rest →
      ScopedAt class (q ∷ ts) x rest

-- a parenthesis, behind "("
pub data Parenthesis (o : Token) (ts : List Token) : Expr → List Token → Type 0 where
  parenthesis_is : {c : Token} {rest : List Token} {x : Expr} → IsExpression 1 ts x (c ∷ rest) → IsMark m.CloseParen c →
      Parenthesis o ts (e.Paren (span (on o) (on c)) x) rest

-- a class that a token names, or that an expression gives
pub data Refers : List Token → ClassReference → List Token → Type 0 where
  by_name : {q : Token} {ts : List Token} {class : ClassReference} → IsClass q class → Refers (q ∷ ts) class ts
  by_target : {ts rest : List Token} {x : Expr} → IsTarget ts x rest → Refers ts (by_expression x) rest

pub class_place_is : {t : Token} {class : ClassReference} → IsClass t class → class_place class ≡ on t
unfolding out-ClassReference out
class_place_is (terminal.named is) = refl
class_place_is (terminal.self_class is) = refl
class_place_is (terminal.parent is) = refl
class_place_is (terminal.static is) = refl

pub expression_place_is : (x : Expr) → class_place (by_expression x) ≡ place x
unfolding out-ClassReference out
expression_place_is x = refl

pub class_by_ok : (t : Token) (kind : Kind) (class : ClassReference) → t.kind ≡ kind → class_by t kind ≡ Some class → IsClass t class
class_by_ok t (k.Name name) class is h = subst (IsClass t) (some_inj h) (terminal.named is)
class_by_ok t (k.Keyword w.SelfClass) class is h = subst (IsClass t) (some_inj h) (terminal.self_class is)
class_by_ok t (k.Keyword w.Parent) class is h = subst (IsClass t) (some_inj h) (terminal.parent is)
class_by_ok t (k.Keyword w.Static) class is h = subst (IsClass t) (some_inj h) (terminal.static is)
class_by_ok t _ class is h = absurd (cc)

pub not_target : (ts : List Token) → sees m.OpenBracket ts ≡ false → sees m.Arrow ts ≡ false → sees m.DoubleColon ts ≡ false →
    goes_on_as_target ts ≡ false
not_target [] h f q = refl
not_target (t ∷ ts) h f q = go t.kind h f q
  where
    go : (kind : Kind) → is_mark m.OpenBracket kind ≡ false → is_mark m.Arrow kind ≡ false → is_mark m.DoubleColon kind ≡ false →
        is_target_step kind ≡ false
    go (k.Mark m.OpenBracket) h f q = absurd (cc)
    go (k.Mark m.Arrow) h f q = absurd (cc)
    go (k.Mark m.DoubleColon) h f q = absurd (cc)
    go _ h f q = refl

-- a step of a class that an expression gives
data TargetStep : List Token → Step → List Token → Type 0 where
  index_step : {ts rest : List Token} {o c : Token} {x : Expr} →
      IsMark m.OpenBracket o → IsExpression 1 ts x (c ∷ rest) → IsMark m.CloseBracket c →
      TargetStep (o ∷ ts) (s.Index (span (on o) (on c)) x) rest
  property_step : {ts rest : List Token} {t l : Token} {name : MemberName} → IsMark m.Arrow t → IsMember ts name l rest →
      TargetStep (t ∷ ts) (s.Property (span (on t) (on l)) name) rest
  static_step : {rest : List Token} {t l : Token} {name : List ℕ} → IsMark m.DoubleColon t → l.kind ≡ k.Variable name →
      TargetStep (t ∷ l ∷ rest) (s.Property (span (on t) (on l)) (n.Computed (e.Variable (on l) name))) rest

step_shorter : {ts rest : List Token} {x : Step} → TargetStep ts x rest → length rest < length ts
step_shorter (index_step o d c) = omega (arith, expression_shorter d)
step_shorter (property_step t d) = omega (arith, member_shorter d)
step_shorter (static_step t l) = omega arith

before_steps : {ts mid rest : List Token} {x : Step} {xs : List Step} → TargetStep ts x mid → IsTargetSteps mid xs rest →
    IsTargetSteps ts (x ∷ xs) rest
before_steps (index_step o d c) more = g.target_index o d c more
before_steps (property_step t d) more = g.target_property t d more
before_steps (static_step t l) more = g.target_static_property t l more

-- an expression with all steps that follow, as a class
record BySteps (x : Expr) (ts : List Token) (class : ClassReference) (rest : List Token) : Type 0 where
  steps : List Step
  is_class : class ≡ by_expression (with_steps x steps)
  is : IsTargetSteps ts steps rest

refers_by : {ts us rest : List Token} {class : ClassReference} (x : Expr) → BySteps x us class rest →
    ((ss : List Step) → IsTargetSteps us ss rest → IsTarget ts (with_steps x ss) rest) → Refers ts class rest
refers_by {ts = ts} {rest = rest} x b h = subst (λ class. Refers ts class rest) (sym b.is_class) (by_target (h b.steps b.is))

constant_ok : (class : ClassReference) (q t : Token) (name : List ℕ) (rest : List Token) → t.kind ≡ k.Name name → opens rest ≡ false →
    IsScoped class q (t ∷ rest) (constant_of class q t name) rest
constant_ok class q t name rest is shut = go (is_class_word name) refl
  where
    go : (b : Bool) → is_class_word name ≡ b →
        IsScoped class q (t ∷ rest)
        (if b then e.ClassName (span (class_place class) (on t)) class q.start else e.ClassConstant
        (span (class_place class) (on t)) class name) rest
    go true h = g.class_name is h shut
    go false h = g.class_constant is h shut

module _ (below : Form → Parser Expr) (ok : Sound below) where
  pub parenthesis_ok : (o : Token) (ts : List Token) → Gives (Parenthesis o ts) (p.parenthesis below o ts)
  unfolding p.parenthesis
  parenthesis_ok o ts = then_ok (ok (Level 1) ts)
      (λ x us d. expect_with (IsExpression 1 ts x) m.CloseParen us d.is (λ c rest mark d. some (parenthesis_is d mark)))

  computed_ok : (o : Token) → IsMark m.OpenBrace o → (ts : List Token) → Gives (Member (o ∷ ts)) (p.computed below ts)
  unfolding p.computed
  computed_ok o opens ts = then_ok (ok (Level 1) ts) (λ x us d. expect_with (IsExpression 1 ts x) m.CloseBrace us d.is
      (λ c rest mark d. some (record { last = c; is_last = refl; is = g.by_expression opens d mark })))

  member_by_ok : (t : Token) (kind : Kind) → t.kind ≡ kind → (ts : List Token) → Gives (Member (t ∷ ts)) (p.member_by below t kind ts)
  member_by_ok t (k.Name name) is ts = some (record { last = t; is_last = refl; is = g.by_name is })
  member_by_ok t (k.Variable name) is ts = some (record { last = t; is_last = refl; is = g.by_variable is })
  member_by_ok t (k.Mark m.OpenBrace) is ts = computed_ok t is ts
  member_by_ok t _ is ts = none

  pub member_ok : (ts : List Token) → Gives (Member ts) (p.member below ts)
  unfolding p.member
  member_ok ts = take_at Member ts (λ t us. member_by_ok t t.kind refl us)

  static_call_ok : (class : ClassReference) (q l : Token) (name : MemberName) (ts us : List Token) → IsMember ts name l us →
      Gives (IsScoped class q ts) (p.static_call below class name us)
  unfolding p.static_call
  static_call_ok class q l name ts us d =
      expect_with (IsMember ts name l) m.OpenParen us d (λ o vs mark d. then_ok (arguments_ok below ok vs) (λ r rest a.
      some (closed_as (λ xs last. IsScoped class q ts (e.StaticCall (span (class_place class) last) class name xs) rest) a
      (λ xs c args. g.static_call d mark args))))

  scoped_by_ok : (class : ClassReference) (q t : Token) (kind : Kind) → t.kind ≡ kind → (ts : List Token) →
      Gives (IsScoped class q (t ∷ ts)) (p.scoped_by below class q t kind ts)
  scoped_by_ok class q t (k.Name name) is ts = if_ok (sees m.OpenParen ts)
      (λ _. static_call_ok class q t (n.Named name) (t ∷ ts) ts (g.by_name is))
      (λ shut. some (constant_ok class q t name ts is (opens_sees ts ∙ shut)))
  scoped_by_ok class q t (k.Variable name) is ts = if_ok (sees m.OpenParen ts)
      (λ _. static_call_ok class q t (n.Computed (e.Variable (on t) name)) (t ∷ ts) ts (g.by_variable is))
      (λ shut. some (g.static_property is (opens_sees ts ∙ shut)))
  scoped_by_ok class q t (k.Mark m.OpenBrace) is ts =
      then_ok (computed_ok t is ts) (λ r us d. static_call_ok class q d.last r.0 (t ∷ ts) us d.is)
  scoped_by_ok class q t _ is ts = none

  pub scoped_ok : (class : ClassReference) (ts : List Token) → Gives (ScopedAt class ts) (p.scoped below class ts)
  unfolding p.scoped
  scoped_ok class ts = expect_at (ScopedAt class) m.DoubleColon ts
      (λ q us mark. take_at (λ us. ScopedAt class (q ∷ us)) us
      (λ t vs. map_ok (scoped_by_ok class q t t.kind refl vs) (λ x rest d. scoped_at mark d)))

  target_index_ok : (ts : List Token) → sees m.OpenBracket ts ≡ true → Gives (TargetStep ts) (p.target_index below ts)
  unfolding p.target_index
  target_index_ok [] h = none
  target_index_ok (o ∷ ts) h = then_ok (ok (Level 1) ts) (λ x us d. expect_with (IsExpression 1 ts x) m.CloseBracket us d.is
      (λ c rest mark d. some (index_step (is_mark_true m.OpenBracket o.kind h) d mark)))

  target_property_ok : (ts : List Token) → sees m.Arrow ts ≡ true → Gives (TargetStep ts) (p.target_property below ts)
  unfolding p.target_property
  target_property_ok [] h = none
  target_property_ok (t ∷ ts) h =
      then_ok (member_ok ts) (λ r rest d. some (subst (λ last. TargetStep (t ∷ ts) (s.Property (span (on t) last) r.0) rest) (sym d.is_last)
      (property_step (is_mark_true m.Arrow t.kind h) d.is)))

  static_step_by_ok : (t l : Token) (kind : Kind) → IsMark m.DoubleColon t → l.kind ≡ kind → (ts : List Token) →
      Gives (TargetStep (t ∷ l ∷ ts)) (p.static_step_by below t l kind ts)
  static_step_by_ok t l (k.Variable name) mark is ts = some (static_step mark is)
  static_step_by_ok t l _ mark is ts = none

  static_property_ok : (ts : List Token) → sees m.DoubleColon ts ≡ true → Gives (TargetStep ts) (p.target_static_property below ts)
  unfolding p.target_static_property
  static_property_ok [] h = none
  static_property_ok (t ∷ []) h = none
  static_property_ok (t ∷ l ∷ ts) h = static_step_by_ok t l l.kind (is_mark_true m.DoubleColon t.kind h) refl ts

  target_steps_from_ok : (n : ℕ) (found : List Step) (ts : List Token) → length ts ≤ n →
      Gives (More IsTargetSteps found ts) (p.target_steps_from below n found ts)
  unfolding p.target_steps_from
  target_steps_from_ok zero found [] small = some (no_more (g.target_end refl))
  target_steps_from_ok zero found (t ∷ ts) small = absurd (omega arith)
  target_steps_from_ok (suc n) found ts small = if_ok (sees m.OpenBracket ts)
      (λ h. then_ok (target_index_ok ts h)
      (λ x us d. map_ok (target_steps_from_ok n (found ++ x ∷ []) us (omega (arith, step_shorter d)))
      (λ all rest r. one_more r (λ xs more. before_steps d more))))
      (λ h. if_ok (sees m.Arrow ts)
      (λ f. then_ok (target_property_ok ts f)
      (λ x us d. map_ok (target_steps_from_ok n (found ++ x ∷ []) us (omega (arith, step_shorter d)))
      (λ all rest r. one_more r (λ xs more. before_steps d more))))
      (λ f. if_ok (sees m.DoubleColon ts)
      (λ q. then_ok (static_property_ok ts q)
      (λ x us d. map_ok (target_steps_from_ok n (found ++ x ∷ []) us (omega (arith, step_shorter d)))
      (λ all rest r. one_more r (λ xs more. before_steps d more))))
      (λ q. some (no_more (g.target_end (not_target ts h f q))))))

  by_steps_ok : (x : Expr) (ts : List Token) → Gives (BySteps x ts) (p.by_steps below x ts)
  unfolding p.by_steps
  by_steps_ok x ts = then_ok (target_steps_from_ok (length ts) [] ts (omega arith))
      (λ ss rest r. some (record { steps = ss; is_class = refl; is = subst (λ ss. IsTargetSteps ts ss rest) (sym r.is_all) r.is }))

  target_by_ok : (t : Token) (kind : Kind) → t.kind ≡ kind → (ts : List Token) → Gives (Refers (t ∷ ts)) (p.target_by below t kind ts)
  target_by_ok t (k.Variable name) is ts =
      map_ok (by_steps_ok (e.Variable (on t) name) ts)
      (λ class rest b. refers_by (e.Variable (on t) name) b (λ ss d. g.target_variable is d))
  target_by_ok t (k.Mark m.OpenParen) is ts = then_ok (parenthesis_ok t ts) (λ x rest d. some (by_target (in_paren is d)))
    where
      in_paren : {x : Expr} {rest : List Token} → IsMark m.OpenParen t → Parenthesis t ts x rest → IsTarget (t ∷ ts) x rest
      in_paren is (parenthesis_is d mark) = g.target_paren is d mark
  target_by_ok t _ is ts = none

  static_target_by_ok : (class : ClassReference) (t o v : Token) (kind : Kind) → IsClass t class → IsMark m.DoubleColon o → v.kind ≡ kind →
      (ts : List Token) →
      Gives (Refers (t ∷ o ∷ v ∷ ts)) (p.static_target_by below class v kind ts)
  static_target_by_ok class t o v (k.Variable name) names mark is ts =
      map_ok (by_steps_ok (e.StaticProperty (span (class_place class) (on v)) class name) ts) (λ found rest b.
      refers_by (e.StaticProperty (span (class_place class) (on v)) class name) b (λ ss d. g.target_static names mark is d))
  static_target_by_ok class t o v _ names mark is ts = none

  named_class_ok : (class : ClassReference) (t : Token) → IsClass t class → (ts : List Token) →
      Gives (Refers (t ∷ ts)) (p.named_class below class ts)
  unfolding p.static_target
  named_class_ok class t names ts = if_ok (sees m.DoubleColon ts)
      (λ _. expect_at (λ ts. Refers (t ∷ ts)) m.DoubleColon ts
      (λ o us mark. take_at (λ us. Refers (t ∷ o ∷ us)) us (λ v vs. static_target_by_ok class t o v v.kind names mark refl vs)))
      (λ _. some (by_name names))

  pub class_reference_ok : (ts : List Token) → Gives (Refers ts) (p.class_reference below ts)
  unfolding p.class_reference
  class_reference_ok ts = take_at Refers ts (λ t us. choose_ok (class_by t t.kind)
      (λ _. target_by_ok t t.kind refl us)
      (λ class e. named_class_ok class t (class_by_ok t t.kind class refl e) us))
