-- Steps, calls and members behind a primary: what the parser answers is in the grammar.
use Rattle.std.specs.Prelude.{◌≡◌, ℕ, zero, suc, true, false, ◌&&◌, List, [], ◌∷◌, ◌++◌, length, Option, Some, None}
use Rattle.std.proofs.Common.{sym, subst, ◌∙◌, append-nil}
use Rattle.hph_ast.specs.declared.token.Token.{Token}
use Rattle.hph_ast.specs.declared.token.Mark.TheVariants as m
use Rattle.hph_ast.specs.declared.expr.Expr.{Expr}
use Rattle.hph_ast.specs.declared.expr.Expr.TheVariants as e
use Rattle.hph_ast.specs.declared.expr.MemberName.{MemberName}
use Rattle.hph_ast.specs.declared.expr.Step.{Step}
use Rattle.hph_ast.specs.declared.expr.Step.TheVariants as s
use Rattle.hph_ast.specs.Places.{place, on, span, with_steps}
use Rattle.hph_ast.specs.Shapes.{is_read, is_callable, is_class_expression}
use Rattle.hph_ast.specs.Terminals.{IsMark}
use Rattle.hph_ast.specs.Expressions as g
use Rattle.hph_ast.specs.Expressions.{IsExpression, IsStep, IsSteps, IsMember, IsPostfix, GoesOn, GoesOnByCall}
use Rattle.hph_fexpr.specs.declared.form.Form.{Form}
use Rattle.hph_fexpr.specs.declared.form.Form.TheVariants.{Level}
use Rattle.hph_fexpr.specs.declared.turn.Turn.{Turn}
use Rattle.hph_fexpr.specs.declared.turn.Turn.TheVariants.{Longer, Whole}
use Rattle.hph_cursor.specs.Steps.{Parser, sees}
use Rattle.hph_fexpr.specs.Classes.{by_expression}
use Rattle.hph_fexpr.specs.Postfix as p
use Rattle.hph_fexpr.proofs.Tools.{Gives, none, some, then_ok, map_ok, if_ok, sees_at, expect_with, opens_sees, is_mark_true, both_true, Sound, shift, closed_as}
use Rattle.hph_fexpr.proofs.ListsSound.{arguments_ok}
use Rattle.hph_fexpr.proofs.ClassesSound.{Member, ScopedAt, scoped_at, member_ok, scoped_ok}
use Rattle.hph_fexpr.proofs.PrimariesSound.{primary_ok}

-- where steps end: before a method's arguments, or anywhere
data Stop : List Token → Option MemberName → List Token → Type 0 where
  no_method : {ts : List Token} → Stop ts None ts
  a_method : {t l : Token} {ts rest : List Token} {name : MemberName} → IsMark m.Arrow t → IsMember ts name l rest →
      sees m.OpenParen rest ≡ true → Stop (t ∷ ts) (Some name) rest

record StepsFound (found : List Step) (ts : List Token) (r : List Step × Option MemberName) (rest : List Token) : Type 0 where
  steps : List Step
  mid : List Token
  is_all : r.0 ≡ found ++ steps
  is : IsSteps ts steps mid
  stop : Stop mid r.1 rest

no_step : {found : List Step} (ts : List Token) → StepsFound found ts (found, None) ts
no_step {found = found} ts = record { steps = []; mid = ts; is_all = sym (append-nil found); is = g.steps_end; stop = no_method }

one_step : {found : List Step} {x : Step} {ts us rest : List Token} {r : List Step × Option MemberName} → IsStep ts x us →
    StepsFound (found ++ x ∷ []) us r rest → StepsFound found ts r rest
one_step {found = found} {x = x} d f =
    record { steps = x ∷ f.steps; mid = f.mid; is_all = shift found x f.steps f.is_all; is = g.steps_more d f.is; stop = f.stop }

-- the steps before a call or a member
steps_before : {ts mid rest : List Token} {x y : Expr} (ss : List Step) → IsSteps ts ss mid → GoesOnByCall (with_steps x ss) mid y rest →
    GoesOn x ts y rest
steps_before [] g.steps_end d = g.no_steps d
steps_before (s ∷ ss) more d = g.path more d

-- a call or a member, or nothing
data TurnOf (x : Expr) (mid : List Token) : Turn → List Token → Type 0 where
  longer : {y : Expr} {us : List Token} → ((z : Expr) (rest : List Token) → GoesOn y us z rest → GoesOnByCall x mid z rest) →
      TurnOf x mid (Longer y) us
  whole : TurnOf x mid (Whole x) mid

-- steps, and a call or a member behind them
record OneTurn (x : Expr) (ts : List Token) (turn : Turn) (rest : List Token) : Type 0 where
  steps : List Step
  mid : List Token
  are : IsSteps ts steps mid
  of : TurnOf (with_steps x steps) mid turn rest

turned_ok : {ts mid vs : List Token} {turn : Turn} (x : Expr) (go : Expr → Parser Expr) →
    ((y : Expr) (us : List Token) → Gives (GoesOn y us) (go y us)) → (ss : List Step) → IsSteps ts ss mid →
    TurnOf (with_steps x ss) mid turn vs → Gives (GoesOn x ts) (p.turned go turn vs)
turned_ok x go ok ss d (longer {y = y} {us = vs} h) = map_ok (ok y vs) (λ z rest more. steps_before ss d (h z rest more))
turned_ok x go ok ss d whole = some (steps_before ss d g.ends)

module _ (below : Form → Parser Expr) (ok : Sound below) where
  index_ok : (o : Token) → IsMark m.OpenBracket o → (ts : List Token) → Gives (IsStep (o ∷ ts)) (p.index below o ts)
  unfolding p.index
  index_ok o opens ts = sees_at (λ ts. IsStep (o ∷ ts)) m.CloseBracket ts
      (λ c us mark. some (g.append opens mark))
      (λ _. then_ok (ok (Level 1) ts)
      (λ x us d. expect_with (IsExpression 1 ts x) m.CloseBracket us d.is (λ c rest mark d. some (g.index opens d mark))))

  property_is : (t : Token) (ts us : List Token) (r : _) → IsMark m.Arrow t → Member ts r us → sees m.OpenParen us ≡ false →
      IsStep (t ∷ ts) (s.Property (span (on t) r.1) r.0) us
  property_is t ts us r arrow d shut =
      subst (λ last. IsStep (t ∷ ts) (s.Property (span (on t) last) r.0) us) (sym d.is_last) (g.property arrow d.is (opens_sees us ∙ shut))

  steps_from_ok : (n : ℕ) (found : List Step) (ts : List Token) → Gives (StepsFound found ts) (p.steps_from below n found ts)
  unfolding p.steps_from
  steps_from_ok zero found ts = some (no_step ts)
  steps_from_ok (suc n) found ts = sees_at (StepsFound found) m.OpenBracket ts
      (λ o us opens. then_ok (index_ok o opens us) (λ x vs d. map_ok (steps_from_ok n (found ++ x ∷ []) vs) (λ r rest f. one_step d f)))
      (λ _. sees_at (StepsFound found) m.Arrow ts
      (λ t us arrow. then_ok (member_ok below ok us) (λ r vs d. if_ok (sees m.OpenParen vs)
      (λ h. some (record { steps = []; mid = t ∷ us; is_all = sym (append-nil found); is = g.steps_end; stop = a_method arrow d.is h }))
      (λ shut. map_ok (steps_from_ok n (found ++ s.Property (span (on t) r.1) r.0 ∷ []) vs)
      (λ all rest f. one_step (property_is t us vs r arrow d shut) f))))
      (λ _. some (no_step ts)))

  method_ok : (x : Expr) (t l : Token) (name : MemberName) (ts us : List Token) → is_read x ≡ true → IsMark m.Arrow t →
      IsMember ts name l us → sees m.OpenParen us ≡ true →
      Gives (λ y rest. TurnOf x (t ∷ ts) (Longer y) rest) (p.method_call below x name us)
  unfolding p.method_call
  method_ok x t l name ts [] read arrow d h = none
  method_ok x t l name ts (o ∷ us) read arrow d h = then_ok (arguments_ok below ok us) (λ r rest a.
      some (closed_as (λ xs last. TurnOf x (t ∷ ts) (Longer (e.MethodCall (span (place x) last) x name xs)) rest) a
      (λ xs c args. longer (λ z end more. g.method read arrow d (is_mark_true m.OpenParen o.kind h) args more))))

  call_ok : (x : Expr) (ts : List Token) → is_read x ≡ true → is_callable x ≡ true → sees m.OpenParen ts ≡ true →
      Gives (λ y rest. TurnOf x ts (Longer y) rest) (p.dynamic_call below x ts)
  unfolding p.dynamic_call
  call_ok x [] read callable h = none
  call_ok x (o ∷ us) read callable h = then_ok (arguments_ok below ok us) (λ r rest a.
      some (closed_as (λ xs last. TurnOf x (o ∷ us) (Longer (e.DynamicCall (span (place x) last) x xs)) rest) a
      (λ xs c args. longer (λ z end more. g.call_of read callable (is_mark_true m.OpenParen o.kind h) args more))))

  member_of_ok : (x : Expr) → is_read x ≡ true → is_class_expression x ≡ true → {y : Expr} {ts rest : List Token} →
      ScopedAt (by_expression x) ts y rest → TurnOf x ts (Longer y) rest
  member_of_ok x read class (scoped_at mark d) = longer (λ z end more. g.member_of read class mark d more)

  turn_ok : (x : Expr) {mid us : List Token} {stop : Option MemberName} → Stop mid stop us → Gives (TurnOf x mid) (p.turn below x stop us)
  unfolding p.turn
  turn_ok x (a_method {t = t} {l = l} {ts = ts} {rest = us} {name = name} arrow d h) = if_ok (is_read x)
      (λ read. then_ok (method_ok x t l name ts us read arrow d h) (λ y rest f. some f))
      (λ _. none)
  turn_ok x (no_method {ts = ts}) = if_ok (sees m.OpenParen ts && (is_read x && is_callable x))
      (λ h. let a = both_true (sees m.OpenParen ts) (is_read x && is_callable x) h in let b = both_true (is_read x) (is_callable x) a.1 in
      then_ok (call_ok x ts b.0 b.1 a.0) (λ y rest f. some f))
      (λ _. if_ok (sees m.DoubleColon ts && (is_read x && is_class_expression x))
      (λ h. let a = both_true (sees m.DoubleColon ts) (is_read x && is_class_expression x) h in
      let b = both_true (is_read x) (is_class_expression x) a.1 in
      then_ok (scoped_ok below ok (by_expression x) ts) (λ y rest d. some (member_of_ok x b.0 b.1 d)))
      (λ _. some whole))

  one_turn_ok : (x : Expr) (ts : List Token) → Gives (OneTurn x ts) (p.one_turn below x ts)
  unfolding p.one_turn p.steps
  one_turn_ok x ts = then_ok (steps_from_ok (length ts) [] ts) (λ r us f. map_ok (turn_ok (with_steps x r.0) f.stop) (λ turn vs d.
      record { steps = r.0; mid = f.mid; are = subst (λ ss. IsSteps ts ss f.mid) (sym f.is_all) f.is; of = d }))

  goes_on_from_ok : (n : ℕ) (x : Expr) (ts : List Token) → Gives (GoesOn x ts) (p.goes_on_from below n x ts)
  unfolding p.goes_on_from
  goes_on_from_ok zero x ts = none
  goes_on_from_ok (suc n) x ts = then_ok (one_turn_ok x ts) (λ turn vs d. turned_ok x (p.goes_on_from below n) (goes_on_from_ok n) d.steps d.are d.of)

  pub goes_on_ok : (links : ℕ) (ts mid : List Token) (x : Expr) → ((z : Expr) (rest : List Token) → GoesOn x mid z rest → IsPostfix ts z rest) →
      Gives (IsPostfix ts) (p.goes_on below links x mid)
  unfolding p.goes_on
  goes_on_ok links ts mid x h = map_ok (goes_on_from_ok (suc links) x mid) h

  pub postfix_ok : (links : ℕ) (ts : List Token) → Gives (IsPostfix ts) (p.postfix below links ts)
  unfolding p.postfix
  postfix_ok links ts = then_ok (primary_ok below ok ts) (λ x mid d. goes_on_ok links ts mid x (λ z rest more. g.primary d more))
