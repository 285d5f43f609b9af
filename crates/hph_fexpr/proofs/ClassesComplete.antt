-- Classes and their members: what is in the grammar is what the parser answers.
use Rattle.std.specs.Prelude.{◌≡◌, ℕ, zero, suc, ◌≤◌, true, false, List, [], ◌∷◌, ◌++◌, length, Some, refl}
use Rattle.std.proofs.Common.{ap, sym, ◌∙◌, arith, append_assoc, append-nil}
use Rattle.hph_ast.specs.declared.token.Token.{Token}
use Rattle.hph_ast.specs.declared.token.Kind.TheVariants as k
use Rattle.hph_ast.specs.declared.token.Mark.{Mark}
use Rattle.hph_ast.specs.declared.token.Mark.TheVariants as m
use Rattle.hph_ast.specs.declared.expr.Expr.{Expr}
use Rattle.hph_ast.specs.declared.expr.Expr.TheVariants as e
use Rattle.hph_ast.specs.declared.expr.ClassReference.{ClassReference}
use Rattle.hph_ast.specs.declared.expr.MemberName.{MemberName}
use Rattle.hph_ast.specs.declared.expr.MemberName.TheVariants as n
use Rattle.hph_ast.specs.declared.expr.Step.{Step}
use Rattle.hph_ast.specs.declared.expr.Step.TheVariants as s
use Rattle.hph_ast.specs.Nesting.{nesting, member_nesting, step_nesting, greatest}
use Rattle.hph_ast.specs.Places.{class_place, on, span, with_steps}
use Rattle.hph_ast.specs.Terminals as terminal
use Rattle.hph_ast.specs.Terminals.{IsMark, IsClass, goes_on_as_target, is_target_step}
use Rattle.hph_ast.specs.Expressions as g
use Rattle.hph_ast.specs.Expressions.{IsExpression, IsMember, IsArguments, IsScoped, IsTarget, IsTargetSteps}
use Rattle.hph_fexpr.specs.NestingLaws.{NestingLaws}
use Rattle.hph_fexpr.specs.declared.form.Form.{Form}
use Rattle.hph_cursor.specs.Steps.{Parser, sees, is_mark}
use Rattle.hph_cursor.specs.Next.{class_by}
use Rattle.hph_fexpr.specs.Classes as p
use Rattle.hph_fexpr.specs.Classes.{by_expression}
use Rattle.hph_fexpr.proofs.Tools.{then_is, choose_some, choose_none, if_true, if_false, mark_is, not_mark, expect_is, opens_sees}
use Rattle.hph_cursor.proofs.Shorter.{expression_shorter, member_shorter}
use Rattle.hph_fexpr.proofs.Firsts.{Complete, closed_is}
use Rattle.hph_fexpr.proofs.NestingGrows.{steps_deep}
use Rattle.hph_fexpr.proofs.ListsComplete.{arguments_is}

pub class_by_is : {t : Token} {class : ClassReference} → IsClass t class → class_by t t.kind ≡ Some class
class_by_is {t = t} (terminal.named is) = ap (class_by t) is
class_by_is {t = t} (terminal.self_class is) = ap (class_by t) is
class_by_is {t = t} (terminal.parent is) = ap (class_by t) is
class_by_is {t = t} (terminal.static is) = ap (class_by t) is

target_shut : (m : Mark) → is_target_step (k.Mark m) ≡ true → (ts : List Token) → goes_on_as_target ts ≡ false → sees m ts ≡ false
target_shut m is [] h = refl
target_shut m is (t ∷ ts) h =
    not_mark m t.kind (λ e. let f : is_target_step t.kind ≡ is_target_step (k.Mark m) = ap is_target_step e in absurd (cc))

module _ (laws : NestingLaws) (depth : ℕ) (below : Form → Parser Expr) (all : Complete depth below) where
  pub parenthesis_is : (o : Token) {ts rest : List Token} {x : Expr} {c : Token} → IsExpression 1 ts x (c ∷ rest) → IsMark m.CloseParen c →
      nesting x ≤ depth →
      p.parenthesis below o ts ≡ Some (e.Paren (span (on o) (on c)) x, rest)
  unfolding p.parenthesis
  parenthesis_is o d mark small = then_is _ (closed_is all m.CloseParen refl d mark small) (then_is _ (expect_is mark) refl)

  computed_is : {ts rest : List Token} {x : Expr} {c : Token} → IsExpression 1 ts x (c ∷ rest) → IsMark m.CloseBrace c → nesting x ≤ depth →
      p.computed below ts ≡ Some ((n.Computed x, on c), rest)
  unfolding p.computed
  computed_is d mark small = then_is _ (closed_is all m.CloseBrace refl d mark small) (then_is _ (expect_is mark) refl)

  pub member_is : {ts rest : List Token} {name : MemberName} {l : Token} → IsMember ts name l rest → member_nesting name ≤ depth →
      p.member below ts ≡ Some ((name, on l), rest)
  unfolding p.member
  member_is (g.by_name {rest = rest} {t = t} is) small = ap (λ kind. p.member_by below t kind rest) is
  member_is (g.by_variable {rest = rest} {t = t} is) small = ap (λ kind. p.member_by below t kind rest) is
  member_is (g.by_expression {ts = ts} {o = o} {x = x} opens d mark) small =
      ap (λ kind. p.member_by below o kind ts) opens ∙ computed_is d mark (omega (arith, laws.member_computed x))

  static_call_is : (class : ClassReference) (name : MemberName) (o : Token) {c : Token} {ts rest : List Token} {xs : List Expr} →
      IsMark m.OpenParen o → IsArguments ts xs c rest → greatest nesting xs ≤ depth →
      p.static_call below class name (o ∷ ts) ≡ Some (e.StaticCall (span (class_place class) (on c)) class name xs, rest)
  unfolding p.static_call
  static_call_is class name o opens d small = then_is _ (expect_is opens) (then_is _ (arguments_is laws depth below all d small) refl)

  scoped_by_is : (class : ClassReference) (q : Token) {ts mid rest : List Token} {name : MemberName} {l o c : Token} {xs : List Expr} →
      IsMember ts name l (o ∷ mid) → IsMark m.OpenParen o →
      IsArguments mid xs c rest → member_nesting name ≤ depth → greatest nesting xs ≤ depth →
      p.scoped_from below class q ts ≡ Some (e.StaticCall (span (class_place class) (on c)) class name xs, rest)
  scoped_by_is class q {mid = mid} {o = o} (g.by_name {t = t} {name = name} is) opens d small smalls =
      ap (λ kind. p.scoped_by below class q t kind (o ∷ mid)) is
      ∙ if_true _ _ (mark_is m.OpenParen opens) (static_call_is class (n.Named name) o opens d smalls)
  scoped_by_is class q {mid = mid} {o = o} (g.by_variable {t = t} {name = name} is) opens d small smalls =
      ap (λ kind. p.scoped_by below class q t kind (o ∷ mid)) is
      ∙ if_true _ _ (mark_is m.OpenParen opens) (static_call_is class (n.Computed (e.Variable (on t) name)) o opens d smalls)
  scoped_by_is class q {o = o} (g.by_expression {ts = ts} {o = open_brace} {x = x} brace f mark) opens d small smalls =
      ap (λ kind. p.scoped_by below class q open_brace kind ts) brace
      ∙ then_is _ (computed_is f mark (omega (arith, laws.member_computed x))) (static_call_is class (n.Computed x) o opens d smalls)

  pub scoped_is : {class : ClassReference} {q : Token} {ts rest : List Token} {x : Expr} → IsMark m.DoubleColon q →
      IsScoped class q ts x rest → nesting x ≤ suc depth →
      p.scoped below class (q ∷ ts) ≡ Some (x, rest)
  unfolding p.scoped
  scoped_is mark (g.class_constant {class = class} {rest = rest} {q = q} {t = t} is other shut) small = then_is _ (expect_is mark)
      (ap (λ kind. p.scoped_by below class q t kind rest) is
      ∙ if_false _ _ (sym (opens_sees rest) ∙ shut) (ap (λ x. Some (x, rest)) (if_false _ _ other refl)))
  scoped_is mark (g.class_name {class = class} {rest = rest} {q = q} {t = t} is word shut) small = then_is _ (expect_is mark)
      (ap (λ kind. p.scoped_by below class q t kind rest) is
      ∙ if_false _ _ (sym (opens_sees rest) ∙ shut) (ap (λ x. Some (x, rest)) (if_true _ _ word refl)))
  scoped_is mark (g.static_property {class = class} {rest = rest} {q = q} {t = t} is shut) small = then_is _ (expect_is mark)
      (ap (λ kind. p.scoped_by below class q t kind rest) is ∙ if_false _ _ (sym (opens_sees rest) ∙ shut) refl)
  scoped_is mark (g.static_call {class = class} {q = q} {c = c} {name = name} {xs = xs} d opens args) small =
      let n = laws.static_call (span (class_place class) (on c)) class name xs in
      then_is _ (expect_is mark) (scoped_by_is class q d opens args (omega arith) (omega arith))

  target_steps_from_is : (n : ℕ) (found : List Step) {ts rest : List Token} {ss : List Step} → IsTargetSteps ts ss rest → length ts ≤ n →
      greatest step_nesting ss ≤ depth →
      p.target_steps_from below n found ts ≡ Some (found ++ ss, rest)
  unfolding p.target_steps_from p.target_index p.target_property p.target_static_property
  target_steps_from_is zero found (g.target_end {ts = ts} h) short small = ap (λ ss. Some (ss, ts)) (sym (append-nil found))
  target_steps_from_is zero found (g.target_index opens d mark more) short small = absurd (omega arith)
  target_steps_from_is zero found (g.target_property arrow d more) short small = absurd (omega arith)
  target_steps_from_is zero found (g.target_static_property colons is more) short small = absurd (omega arith)
  target_steps_from_is (suc n) found (g.target_end {ts = ts} h) short small =
      if_false _ _ (target_shut m.OpenBracket refl ts h)
      (if_false _ _ (target_shut m.Arrow refl ts h)
      (if_false _ _ (target_shut m.DoubleColon refl ts h) (ap (λ ss. Some (ss, ts)) (sym (append-nil found)))))
  target_steps_from_is (suc n) found (g.target_index {rest = rest} {o = o} {c = c} {x = x} {steps = steps} opens d mark more) short small =
      let step = s.Index (span (on o) (on c)) x in
      if_true _ _ (mark_is m.OpenBracket opens)
      (then_is _ (then_is _ (closed_is all m.CloseBracket refl d mark (omega (arith, laws.step_index (span (on o) (on c)) x)))
      (then_is _ (expect_is mark) refl))
      (target_steps_from_is n (found ++ step ∷ []) more (omega (arith, expression_shorter d)) (omega arith)
      ∙ ap (λ ss. Some (ss, rest)) (append_assoc found (step ∷ []) steps)))
  target_steps_from_is (suc n) found
      (g.target_property {rest = rest} {t = t} {l = l} {name = name} {steps = steps} arrow d more) short small =
      let step = s.Property (span (on t) (on l)) name in
      if_false _ _ (ap (is_mark m.OpenBracket) arrow) (if_true _ _ (mark_is m.Arrow arrow)
      (then_is _ (then_is _ (member_is d (omega (arith, laws.step_property (span (on t) (on l)) name))) refl)
      (target_steps_from_is n (found ++ step ∷ []) more (omega (arith, member_shorter d)) (omega arith)
      ∙ ap (λ ss. Some (ss, rest)) (append_assoc found (step ∷ []) steps))))
  target_steps_from_is (suc turns) found
      (g.target_static_property {ts = ts} {rest = rest} {t = t} {l = l} {name = name} {steps = steps} colons is more) short small =
      let step = s.Property (span (on t) (on l)) (n.Computed (e.Variable (on l) name)) in
      if_false _ _ (ap (is_mark m.OpenBracket) colons) (if_false _ _ (ap (is_mark m.Arrow) colons) (if_true _ _ (mark_is m.DoubleColon colons)
      (then_is _ (ap (λ kind. p.static_step_by below t l kind ts) is)
      (target_steps_from_is turns (found ++ step ∷ []) more (omega arith) (omega arith)
      ∙ ap (λ ss. Some (ss, rest)) (append_assoc found (step ∷ []) steps)))))

  by_steps_is : (x : Expr) {ts rest : List Token} {ss : List Step} → IsTargetSteps ts ss rest → nesting (with_steps x ss) ≤ depth →
      p.by_steps below x ts ≡ Some (by_expression (with_steps x ss), rest)
  unfolding p.by_steps
  by_steps_is x {ts = ts} {ss = ss} d small = then_is _ (target_steps_from_is (length ts) [] d (omega arith) (steps_deep laws depth x ss (omega arith))) refl

  pub named_class_is : {q : Token} {ts : List Token} {class : ClassReference} → IsClass q class → sees m.DoubleColon ts ≡ false →
      p.class_reference below (q ∷ ts) ≡ Some (class, ts)
  unfolding p.class_reference
  named_class_is names shut = choose_some _ _ (class_by_is names) (if_false _ _ shut refl)

  pub target_is : {ts rest : List Token} {x : Expr} → IsTarget ts x rest → nesting x ≤ depth →
      p.class_reference below ts ≡ Some (by_expression x, rest)
  unfolding p.class_reference p.static_target
  target_is (g.target_variable {ts = ts} {t = t} {name = name} is d) small =
      choose_none _ _ (ap (class_by t) is) (ap (λ kind. p.target_by below t kind ts) is ∙ by_steps_is (e.Variable (on t) name) d small)
  target_is (g.target_static {ts = ts} {q = q} {class = class} {name = name} names mark is d) small =
      choose_some _ _ (class_by_is names) (if_true _ _ (mark_is m.DoubleColon mark) (then_is _ (expect_is mark)
      (ap (λ kind. p.static_target_by below class q kind ts) is
      ∙ by_steps_is (e.StaticProperty (span (class_place class) (on q)) class name) d small)))
  target_is (g.target_paren {ts = ts} {o = o} {c = c} {x = x} opens d mark) small =
      choose_none _ _ (ap (class_by o) opens) (ap (λ kind. p.target_by below o kind ts) opens
      ∙ then_is _ (parenthesis_is o d mark (omega (arith, laws.paren (span (on o) (on c)) x))) refl)
