-- Steps, calls and members behind a primary: what is in the grammar is what the parser answers.
use Rattle.std.specs.Prelude.{◌≡◌, ℕ, zero, suc, ◌+◌, ◌<◌, ◌≤◌, Bool, true, false, ◌&&◌, List, [], ◌∷◌, ◌++◌, length, Option, Some, None, refl}
use Rattle.std.proofs.Common.{ap, sym, ◌∙◌, arith, append_assoc, append-nil}
use Rattle.hph_ast.specs.declared.token.Token.{Token}
use Rattle.hph_ast.specs.declared.token.Mark.TheVariants as m
use Rattle.hph_ast.specs.declared.expr.Expr.{Expr}
use Rattle.hph_ast.specs.declared.expr.Expr.TheVariants as e
use Rattle.hph_ast.specs.declared.expr.MemberName.{MemberName}
use Rattle.hph_ast.specs.declared.expr.Step.{Step}
use Rattle.hph_ast.specs.declared.expr.Step.TheVariants as s
use Rattle.hph_ast.specs.Nesting.{nesting, member_nesting, step_nesting, greatest}
use Rattle.hph_ast.specs.Places.{place, on, span, with_steps}
use Rattle.hph_ast.specs.Shapes.{is_read, is_callable, is_class_expression}
use Rattle.hph_ast.specs.Terminals.{IsMark}
use Rattle.hph_ast.specs.Expressions as g
use Rattle.hph_ast.specs.Expressions.{IsStep, IsSteps, IsMember, IsScoped, IsPostfix, GoesOn, GoesOnByCall}
use Rattle.hph_fexpr.specs.NestingLaws.{NestingLaws}
use Rattle.hph_fexpr.specs.declared.form.Form.{Form}
use Rattle.hph_fexpr.specs.declared.turn.Turn.{Turn}
use Rattle.hph_fexpr.specs.declared.turn.Turn.TheVariants.{Longer, Whole}
use Rattle.hph_fexpr.specs.Endings.{Ends}
use Rattle.hph_cursor.specs.Steps.{Parser, sees, is_mark}
use Rattle.hph_fexpr.specs.Postfix as p
use Rattle.hph_fexpr.proofs.Tools.{then_is, if_true, if_false, mark_is, expect_is, opens_sees}
use Rattle.hph_cursor.proofs.Shorter.{expression_shorter, step_shorter, steps_shorter, member_shorter}
use Rattle.hph_fexpr.proofs.Firsts.{Complete, closed_is, not_first, expression_heads}
use Rattle.hph_fexpr.proofs.NestingGrows.{goes_on_deep, by_call_deep, steps_deep, with_steps_deep, scoped_deep, primary_positive}
use Rattle.hph_fexpr.proofs.ListsComplete.{arguments_is}
use Rattle.hph_fexpr.proofs.ClassesComplete.{member_is, scoped_is}
use Rattle.hph_fexpr.proofs.PrimariesComplete.{Colons, primary_is}

-- ---- what comes behind

steps_colons : {ts rest : List Token} {step : Step} {ss : List Step} → IsSteps ts (step ∷ ss) rest → sees m.DoubleColon ts ≡ false
steps_colons (g.steps_more (g.index opens d c) more) = ap (is_mark m.DoubleColon) opens
steps_colons (g.steps_more (g.append opens c) more) = ap (is_mark m.DoubleColon) opens
steps_colons (g.steps_more (g.property arrow d shut) more) = ap (is_mark m.DoubleColon) arrow

-- "::" behind an expression that goes on is a member of it
colons_of : {x y : Expr} {ts rest : List Token} → GoesOn x ts y rest → Ends rest → Colons x ts
colons_of (g.no_steps g.ends) ends = λ h. absurd (let f = ends.colons in cc)
colons_of (g.no_steps (g.method read arrow d opens args more)) ends = λ h. absurd (let f = ap (is_mark m.DoubleColon) arrow in cc)
colons_of (g.no_steps (g.call_of read callable opens args more)) ends = λ h. absurd (let f = ap (is_mark m.DoubleColon) opens in cc)
colons_of (g.no_steps (g.member_of read class colons d more)) ends = λ h. class
colons_of (g.path ss d) ends = λ h. absurd (let f = steps_colons ss in cc)

false_and : (x y : Bool) → x ≡ false → (x && y) ≡ false
false_and true y h = absurd (cc)
false_and false y h = refl

module _ (laws : NestingLaws) (depth : ℕ) (below : Form → Parser Expr) (all : Complete depth below) where
  -- where steps end: before a method's arguments, or before what is no step
  data StopIs : List Token → Option MemberName → List Token → Type 0 where
    no_method : {ts : List Token} → sees m.OpenBracket ts ≡ false → sees m.Arrow ts ≡ false → StopIs ts None ts
    a_method : {t l o : Token} {ts rest : List Token} {name : MemberName} → IsMark m.Arrow t → IsMember ts name l (o ∷ rest) →
        IsMark m.OpenParen o → member_nesting name ≤ depth →
        StopIs (t ∷ ts) (Some name) (o ∷ rest)

  steps_from_is : (n : ℕ) (found : List Step) {ts mid rest : List Token} {ss : List Step} {stop : Option MemberName} → IsSteps ts ss mid →
      StopIs mid stop rest → length ts ≤ n →
      greatest step_nesting ss ≤ depth → p.steps_from below n found ts ≡ Some ((found ++ ss, stop), rest)
  unfolding p.steps_from p.index
  steps_from_is zero found (g.steps_end {ts = ts}) (no_method a b) short small = ap (λ ss. Some ((ss, None), ts)) (sym (append-nil found))
  steps_from_is zero found g.steps_end (a_method arrow d opens deep) short small = absurd (omega arith)
  steps_from_is zero found (g.steps_more d more) stop short small = absurd (omega (arith, step_shorter d))
  steps_from_is (suc n) found (g.steps_end {ts = ts}) (no_method a b) short small =
      if_false _ _ a (if_false _ _ b (ap (λ ss. Some ((ss, None), ts)) (sym (append-nil found))))
  steps_from_is (suc n) found g.steps_end (a_method {o = o} {rest = rest} {name = name} arrow d opens deep) short small =
      if_false _ _ (ap (is_mark m.OpenBracket) arrow) (if_true _ _ (mark_is m.Arrow arrow) (then_is _ (member_is laws depth below all d deep)
      (if_true _ _ (mark_is m.OpenParen opens) (ap (λ ss. Some ((ss, Some name), o ∷ rest)) (sym (append-nil found))))))
  steps_from_is (suc n) found {rest = rest} {stop = stop}
      (g.steps_more {steps = ss} (g.index {o = o} {c = c} {x = x} opens d mark) more) at short small =
      let step = s.Index (span (on o) (on c)) x in
      let deep = laws.step_index (span (on o) (on c)) x in
      if_true _ _ (mark_is m.OpenBracket opens) (then_is _ (if_false _ _ (not_first m.CloseBracket refl (expression_heads d))
      (then_is _ (closed_is all m.CloseBracket refl d mark (omega arith)) (then_is _ (expect_is mark) refl)))
      (steps_from_is n (found ++ step ∷ []) more at (omega (arith, expression_shorter d)) (omega arith)
      ∙ ap (λ ss. Some ((ss, stop), rest)) (append_assoc found (step ∷ []) ss)))
  steps_from_is (suc n) found {rest = rest} {stop = stop}
      (g.steps_more {steps = ss} (g.append {o = o} {c = c} opens mark) more) at short small =
      let step = s.Append (span (on o) (on c)) in
      if_true _ _ (mark_is m.OpenBracket opens) (then_is _ (if_true _ _ (mark_is m.CloseBracket mark) refl)
      (steps_from_is n (found ++ step ∷ []) more at (omega arith) (omega arith)
      ∙ ap (λ ss. Some ((ss, stop), rest)) (append_assoc found (step ∷ []) ss)))
  steps_from_is (suc n) found {rest = rest} {stop = stop}
      (g.steps_more {mid = mid} {steps = ss} (g.property {t = t} {l = l} {name = name} arrow d shut) more) at short small =
      let step = s.Property (span (on t) (on l)) name in
      let deep = laws.step_property (span (on t) (on l)) name in
      if_false _ _ (ap (is_mark m.OpenBracket) arrow)
      (if_true _ _ (mark_is m.Arrow arrow) (then_is _ (member_is laws depth below all d (omega arith))
      (if_false _ _ (sym (opens_sees mid) ∙ shut)
      (steps_from_is n (found ++ step ∷ []) more at (omega (arith, member_shorter d)) (omega arith)
      ∙ ap (λ ss. Some ((ss, stop), rest)) (append_assoc found (step ∷ []) ss)))))

  -- what a turn leaves to do
  data After (start y : Expr) (rest : List Token) : Turn → List Token → Type 0 where
    done : After start y rest (Whole y) rest
    goes : {x : Expr} {us : List Token} → GoesOn x us y rest → nesting start < nesting x → After start y rest (Longer x) us

  record TurnIs (x : Expr) (mid : List Token) (y : Expr) (rest : List Token) : Type 0 where
    stop : Option MemberName
    us : List Token
    stops : StopIs mid stop us
    turn : Turn
    vs : List Token
    is : p.turn below x stop us ≡ Some (turn, vs)
    after : After x y rest turn vs

  turn_is : {x y : Expr} {mid rest : List Token} → GoesOnByCall x mid y rest → nesting y ≤ suc depth → Ends rest → TurnIs x mid y rest
  unfolding p.turn p.method_call p.dynamic_call
  turn_is {rest = rest} (g.ends {x = x}) small ends = record {
    stop = None;
    us = rest;
    stops = no_method ends.bracket ends.arrow;
    turn = Whole x;
    vs = rest;
    after = done;
    is = if_false _ _ (false_and (sees m.OpenParen rest) (is_read x && is_callable x) ends.call)
        (if_false _ _ (false_and (sees m.DoubleColon rest) (is_read x && is_class_expression x) ends.colons) refl);
  }
  turn_is (g.method {mid = mid} {after = after} {o = o} {c = c} {x = x} {name = name} {xs = xs} read arrow d opens args more) small ends =
      let n = laws.method_call (span (place x) (on c)) x name xs in
      let deep = goes_on_deep laws more in record {
        stop = Some name;
        us = o ∷ mid;
        stops = a_method arrow d opens (omega arith);
        turn = Longer (e.MethodCall (span (place x) (on c)) x name xs);
        vs = after;
        is = if_true _ _ read (then_is _ (then_is _ (arguments_is laws depth below all args (omega arith)) refl) refl);
        after = goes more (omega arith);
      }
  turn_is (g.call_of {ts = ts} {mid = mid} {o = o} {c = c} {x = x} {xs = xs} read callable opens args more) small ends =
      let n = laws.dynamic_call (span (place x) (on c)) x xs in
      let deep = goes_on_deep laws more in
      let three : (sees m.OpenParen (o ∷ ts) && (is_read x && is_callable x)) ≡ true = let seen =
      mark_is m.OpenParen opens in cc (seen, read, callable) in record {
        stop = None;
        us = o ∷ ts;
        stops = no_method (ap (is_mark m.OpenBracket) opens) (ap (is_mark m.Arrow) opens);
        turn = Longer (e.DynamicCall (span (place x) (on c)) x xs);
        vs = mid;
        is = if_true _ _ three (then_is _ (then_is _ (arguments_is laws depth below all args (omega arith)) refl) refl);
        after = goes more (omega arith);
      }
  turn_is (g.member_of {ts = ts} {mid = mid} {t = t} {x = x} {y = y} read class colons d more) small ends =
      let deep = goes_on_deep laws more in
      let three : (sees m.DoubleColon (t ∷ ts) && (is_read x && is_class_expression x)) ≡ true = let seen =
      mark_is m.DoubleColon colons in cc (seen, read, class) in record {
        stop = None;
        us = t ∷ ts;
        stops = no_method (ap (is_mark m.OpenBracket) colons) (ap (is_mark m.Arrow) colons);
        turn = Longer y;
        vs = mid;
        is = if_false _ _ (false_and (sees m.OpenParen (t ∷ ts)) (is_read x && is_callable x) (ap (is_mark m.OpenParen) colons))
            (if_true _ _ three (then_is _ (scoped_is laws depth below all colons d (omega arith)) refl));
        after = goes more (omega (arith, laws.class_by_expression (place x) x, scoped_deep laws d));
      }

  turned_is : {rest vs : List Token} {start y : Expr} {turn : Turn} (go : Expr → Parser Expr) →
      ((x : Expr) (us : List Token) → GoesOn x us y rest → nesting start < nesting x → go x us ≡ Some (y, rest)) →
      After start y rest turn vs → p.turned go turn vs ≡ Some (y, rest)
  turned_is go h done = refl
  turned_is go h (goes {x = x} {us = us} more deeper) = h x us more deeper

  -- the steps of an expression that goes on, and what it goes on with behind them
  record Split (x : Expr) (ts : List Token) (y : Expr) (rest : List Token) : Type 0 where
    steps : List Step
    mid : List Token
    are : IsSteps ts steps mid
    more : GoesOnByCall (with_steps x steps) mid y rest

  split : {x y : Expr} {ts rest : List Token} → GoesOn x ts y rest → Split x ts y rest
  split {ts = ts} (g.no_steps d) = record { steps = []; mid = ts; are = g.steps_end; more = d }
  split (g.path {mid = mid} {step = step} {steps = steps} ss d) = record { steps = step ∷ steps; mid = mid; are = ss; more = d }

  -- each turn but the last nests at least one deeper
  goes_on_from_is : (n : ℕ) {x y : Expr} {ts rest : List Token} → GoesOn x ts y rest → nesting y < nesting x + n → nesting y ≤ suc depth →
      Ends rest → p.goes_on_from below n x ts ≡ Some (y, rest)
  unfolding p.goes_on_from p.one_turn p.steps
  goes_on_from_is zero d few small ends = absurd (omega (arith, goes_on_deep laws d))
  goes_on_from_is (suc n) {x = x} {ts = ts} d few small ends =
      let a = split d in
      let deep = by_call_deep laws a.more in
      let with = with_steps_deep laws x a.steps in
      let t = turn_is a.more small ends in
      let steps_use = steps_shorter a.are in
      then_is _ (then_is _ (steps_from_is (length ts) [] a.are t.stops (omega arith) (steps_deep laws depth x a.steps (omega arith))) t.is)
      (turned_is (p.goes_on_from below n) (λ z us more deeper. goes_on_from_is n more (omega arith) small ends) t.after)

  pub goes_on_is : {x y : Expr} {ts rest : List Token} → GoesOn x ts y rest → 1 ≤ nesting x → nesting y ≤ suc depth → Ends rest →
      p.goes_on below depth x ts ≡ Some (y, rest)
  unfolding p.goes_on
  goes_on_is d positive small ends = goes_on_from_is (suc depth) d (omega arith) small ends

  pub postfix_is : {ts rest : List Token} {x : Expr} → IsPostfix ts x rest → nesting x ≤ suc depth → Ends rest →
      p.postfix below depth ts ≡ Some (x, rest)
  unfolding p.postfix
  postfix_is (g.primary d more) small ends = let deep = goes_on_deep laws more in
      then_is _ (primary_is laws depth below all d (omega arith) (colons_of more ends)) (goes_on_is more (primary_positive laws d) small ends)
