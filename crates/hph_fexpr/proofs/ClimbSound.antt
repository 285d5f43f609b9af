-- Operators, level by level: what the parser answers is in the grammar.
use Rattle.std.specs.Prelude.{◌≡◌, ℕ, zero, suc, ◌<◌, ◌≤◌, true, false, List, [], ◌∷◌, ◌++◌, length, Option, Some, None, if◌then◌else◌, refl, nat_le, ◌==◌}
use Rattle.std.proofs.Common.{ap, sym, subst, ◌∙◌, inl, inr, arith}
use Rattle.std.proofs.lemmas.Option.{cond_some}
use Rattle.std.proofs.lemmas.Bool.Decides.{nat_tests, leb_tells}
use Rattle.hph_ast.specs.declared.token.Token.{Token}
use Rattle.hph_ast.specs.declared.token.Kind.{Kind}
use Rattle.hph_ast.specs.declared.token.Kind.TheVariants as k
use Rattle.hph_ast.specs.declared.token.Mark.TheVariants as m
use Rattle.hph_ast.specs.declared.keyword.Keyword.TheVariants as w
use Rattle.hph_ast.specs.declared.operator.Binary.{Binary}
use Rattle.hph_ast.specs.declared.operator.Grouping.{Grouping}
use Rattle.hph_ast.specs.declared.operator.Grouping.TheVariants.{Left, Right, Alone}
use Rattle.hph_ast.specs.declared.expr.Expr.{Expr}
use Rattle.hph_ast.specs.declared.expr.Expr.TheVariants as e
use Rattle.hph_ast.specs.declared.expr.ClassReference.{ClassReference}
use Rattle.hph_ast.specs.Levels.{level, grouping, instance_level, ternary_level, top, next, binds}
use Rattle.hph_ast.specs.Places.{place, span, last_operand, last_expr, last_class}
use Rattle.hph_ast.specs.Terminals.{IsMark, IsKeyword}
use Rattle.hph_ast.specs.Expressions as g
use Rattle.hph_ast.specs.Expressions.{IsExpression, IsTail, IsShorts, IsInstances, IsTerm}
use Rattle.hph_fexpr.specs.declared.form.Form.{Form}
use Rattle.hph_fexpr.specs.declared.form.Form.TheVariants.{Level}
use Rattle.hph_fexpr.specs.Endings.{Whole, WholeValue, expression, only_written}
use Rattle.hph_cursor.specs.Steps.{Parser, is_mark}
use Rattle.hph_cursor.specs.Next.{binary_of, operator_of, is_instance_of}
use Rattle.hph_fexpr.specs.Terms.{stopped}
use Rattle.hph_fexpr.specs.Climb as p
use Rattle.hph_fexpr.proofs.Tools.{some_inj, is_mark_true, Gives, none, some, then_ok, map_ok, choose_ok, if_ok, sees_at, choose_at, next_at, expect_at, expect_with, Sound, More, no_more, one_more}
use Rattle.hph_fexpr.proofs.ClassesSound.{Refers, by_name, by_target, class_reference_ok}
use Rattle.hph_fexpr.proofs.TermsSound.{Used, a_term, an_element, stopped_ok, term_ok}
use Rattle.hph_fexpr.proofs.Left.{skip, reached}

-- what stands at a level stands at each looser one
weaker : {l n : ℕ} {ts rest : List Token} {x : Expr} → n ≤ l → IsExpression l ts x rest → IsExpression n ts x rest
weaker h (g.term t) = g.term t
weaker h (g.run le is d tail) = g.run (omega arith) is d tail
weaker h (g.to_right le is d t f) = g.to_right (omega arith) is d t f
weaker h (g.single le is d t f) = g.single (omega arith) is d t f
weaker h (g.instance_of le d more) = g.instance_of (omega arith) d more
weaker h (g.ternary le d q e c f) = g.ternary (omega arith) d q e c f
weaker h (g.short le d more) = g.short (omega arith) d more

operator_ok : (n : ℕ) (kind : Kind) (op : Binary) → operator_of n kind ≡ Some op → (kind ≡ k.Operator op) × (level op ≡ n)
operator_ok n (k.Operator found) op e =
    let c = cond_some (level found == n) found op e in
    let same : found ≡ op = c.1 in
    let le : level found ≡ n = grind (arith, nat_tests, c.0) in
    (ap k.Operator same, sym (ap level same) ∙ le)
operator_ok n _ op e = absurd (cc)

binary_ok : (kind : Kind) (op : Binary) → binary_of kind ≡ Some op → kind ≡ k.Operator op
binary_ok (k.Operator found) op is = ap k.Operator (some_inj is)
binary_ok _ op is = absurd (cc)

instance_of_true : (kind : Kind) → is_instance_of kind ≡ true → kind ≡ k.Keyword w.InstanceOf
instance_of_true (k.Keyword w.InstanceOf) h = refl
instance_of_true _ h = absurd (cc)

one_class : {t : Token} {ts mid rest : List Token} {class : ClassReference} {classes : List ClassReference} → IsKeyword w.InstanceOf t →
    Refers ts class mid → IsInstances mid classes rest →
    IsInstances (t ∷ ts) (class ∷ classes) rest
one_class is (by_name d) more = g.instance is d more
one_class is (by_target d) more = g.instance_by is d more

-- one operand or more, the first behind this operator
record Operands (n : ℕ) (op : Binary) (ts : List Token) (all : List (Binary × Expr)) (rest : List Token) : Type 0 where
  first : Expr
  others : List (Binary × Expr)
  is_all : all ≡ (op, first) ∷ others
  is : IsTail n ts ((op, first) ∷ others) rest

record Classes (ts : List Token) (all : List ClassReference) (rest : List Token) : Type 0 where
  first : ClassReference
  others : List ClassReference
  is_all : all ≡ first ∷ others
  is : IsInstances ts (first ∷ others) rest

-- where no element may stand alone, it is a term
the_term : {ts rest : List Token} {x : Expr} → Used false ts x rest → IsTerm ts x rest
the_term (a_term d) = d
the_term (an_element is d stops) = absurd (cc)

module _ (below : Form → Parser Expr) (ok : Sound below) where
  operands_from_ok : (n turns : ℕ) (found : List (Binary × Expr)) (ts : List Token) →
      Gives (More (IsTail n) found ts) (p.operands_from below n turns found ts)
  unfolding p.operands_from
  operands_from_ok n zero found ts = some (no_more g.operands_end)
  operands_from_ok n (suc turns) found ts = choose_at (More (IsTail n) found) (operator_of n) ts (some (no_more g.operands_end))
      (λ op t us e. then_ok (ok (Level (suc n)) us) (λ x vs d. map_ok (operands_from_ok n turns (found ++ (op, x) ∷ []) vs) (λ all rest r.
      one_more r (λ os more. let c = operator_ok n t.kind op e in g.operand c.0 c.1 d.is more))))

  operands_ok : (n : ℕ) (op : Binary) (t : Token) (us : List Token) → operator_of n t.kind ≡ Some op →
      Gives (Operands n op (t ∷ us)) (p.operands_from below n (suc (length us)) [] (t ∷ us))
  unfolding p.operands_from
  operands_ok n op t us is = choose_ok (operator_of n t.kind) (λ no. absurd (let yes = is in cc))
      (λ found e. then_ok (ok (Level (suc n)) us) (λ x vs d. map_ok (operands_from_ok n (length us) ((found, x) ∷ []) vs) (λ all rest r.
      let same : found ≡ op = some_inj (sym e ∙ is) in
      let c = operator_ok n t.kind found e in
      record {
        first = x;
        others = r.xs;
        is_all = r.is_all
            ∙ ap (λ op. (op, x) ∷ r.xs) same;
        is =
            subst (λ op. IsTail n (t ∷ us) ((op, x) ∷ r.xs) rest) same (g.operand c.0 c.1 d.is r.is);
      })))

  run_ok : (x : Expr) (ts us : List Token) (t : Token) (op : Binary) → operator_of (level op) t.kind ≡ Some op → grouping op ≡ Left →
      IsExpression (suc (level op)) ts x (t ∷ us) → Gives (IsExpression (level op) ts) (p.run below (level op) x (t ∷ us))
  unfolding p.run
  run_ok x ts us t op is how d = then_ok (operands_ok (level op) op t us is) (λ all rest r.
      some (subst (λ all. IsExpression (level op) ts (e.Run (span (place x) (last_operand (place x) all)) x all) rest) (sym r.is_all)
      (g.run (omega arith) how d r.is)))

  pair_ok : (x : Expr) (ts us : List Token) (t : Token) (op : Binary) (n : ℕ) →
      ((y : Expr) (rest : List Token) → IsExpression n us y rest →
      IsExpression (level op) ts (e.Pair (span (place x) (place y)) op x y) rest) →
      Gives (IsExpression (level op) ts) (p.pair below x op n (t ∷ us))
  unfolding p.pair
  pair_ok x ts us t op n h = then_ok (ok (Level n) us) (λ y rest d. some (h y rest d.is))

  grouped_ok : (x : Expr) (ts us : List Token) (t : Token) (op : Binary) → t.kind ≡ k.Operator op →
      IsExpression (suc (level op)) ts x (t ∷ us) →
      (how : Grouping) → grouping op ≡ how → Gives (IsExpression (level op) ts) (p.grouped below (level op) x op how (t ∷ us))
  grouped_ok x ts us t op is d Left how =
      let same : (level op == level op) ≡ true = grind (arith, nat_tests) in
      run_ok x ts us t op (ap (operator_of (level op)) is ∙ ap (λ b. if◌then◌else◌ {A = Option Binary} b (Some op) None) same) how d
  grouped_ok x ts us t op is d Right how = pair_ok x ts us t op (level op) (λ y rest f. g.to_right (omega arith) how d is f)
  grouped_ok x ts us t op is d Alone how = pair_ok x ts us t op (suc (level op)) (λ y rest f. g.single (omega arith) how d is f)

  shorts_from_ok : (n : ℕ) (found : List Expr) (ts : List Token) → Gives (More IsShorts found ts) (p.shorts_from below n found ts)
  unfolding p.shorts_from
  shorts_from_ok zero found ts = some (no_more g.shorts_end)
  shorts_from_ok (suc n) found ts = sees_at (More IsShorts found) m.Question ts
      (λ q us question. expect_at (λ us. More IsShorts found (q ∷ us)) m.Colon us
      (λ c vs colon. then_ok (ok (Level (suc ternary_level)) vs) (λ y ws d.
      map_ok (shorts_from_ok n (found ++ y ∷ []) ws) (λ all rest r. one_more r (λ ys more. g.shorts_more question colon d.is more)))))
      (λ _. some (no_more g.shorts_end))

  short_ok : (x : Expr) (ts us : List Token) (q c : Token) → IsMark m.Question q → IsMark m.Colon c →
      IsExpression (suc ternary_level) ts x (q ∷ c ∷ us) → Gives (IsExpression ternary_level ts) (p.short below x (c ∷ us))
  unfolding p.short
  short_ok x ts us q c question colon d =
      then_ok (ok (Level (suc ternary_level)) us) (λ y vs f. then_ok (shorts_from_ok (length vs) (y ∷ []) vs) (λ all rest r.
      some (subst (λ all. IsExpression ternary_level ts (e.ShortTernary (span (place x) (last_expr (place x) all)) x all) rest)
      (sym r.is_all)
      (g.short (omega arith) d (g.shorts_more question colon f.is r.is)))))

  ternary_ok : (x : Expr) (ts us : List Token) (q : Token) → IsMark m.Question q → IsExpression (suc ternary_level) ts x (q ∷ us) →
      Gives (IsExpression ternary_level ts) (p.ternary below x us)
  unfolding p.ternary p.other_branch
  ternary_ok x ts us q question d =
      then_ok (ok (Level 1) us)
      (λ y vs f. expect_with (IsExpression 1 us y) m.Colon vs f.is (λ c ws colon f. then_ok (ok (Level (suc ternary_level)) ws) (λ z rest h.
      some (g.ternary (omega arith) d question f colon h.is))))

  questioned_ok : (x : Expr) (ts us : List Token) (q : Token) → IsMark m.Question q → IsExpression (suc ternary_level) ts x (q ∷ us) →
      Gives (IsExpression ternary_level ts) (p.questioned below x (q ∷ us))
  unfolding p.questioned
  questioned_ok x ts [] q question d = ternary_ok x ts [] q question d
  questioned_ok x ts (c ∷ us) q question d = if_ok (is_mark m.Colon c.kind)
      (λ h. short_ok x ts us q c question (is_mark_true m.Colon c.kind h) d)
      (λ _. ternary_ok x ts (c ∷ us) q question d)

  classes_from_ok : (n : ℕ) (found : List ClassReference) (ts : List Token) →
      Gives (More IsInstances found ts) (p.classes_from below n found ts)
  unfolding p.classes_from
  classes_from_ok zero found ts = some (no_more g.instances_end)
  classes_from_ok (suc n) found ts = next_at (More IsInstances found) is_instance_of ts
      (λ t us h. then_ok (class_reference_ok below ok us) (λ class vs d. map_ok (classes_from_ok n (found ++ class ∷ []) vs) (λ all rest r.
      one_more r (λ classes more. one_class (instance_of_true t.kind h) d more))))
      (some (no_more g.instances_end))

  classes_ok : (t : Token) (us : List Token) → IsKeyword w.InstanceOf t →
      Gives (Classes (t ∷ us)) (p.classes_from below (suc (length us)) [] (t ∷ us))
  unfolding p.classes_from
  classes_ok t us is = if_ok (is_instance_of t.kind)
      (λ _. then_ok (class_reference_ok below ok us) (λ class vs d. map_ok (classes_from_ok (length us) (class ∷ []) vs) (λ all rest r.
      record { first = class; others = r.xs; is_all = r.is_all; is = one_class is d r.is })))
      (λ no. absurd (let yes = ap is_instance_of is in cc))

  instances_ok : (x : Expr) (ts us : List Token) (t : Token) → IsKeyword w.InstanceOf t → IsExpression (suc instance_level) ts x (t ∷ us) →
      Gives (IsExpression instance_level ts) (p.instances below x (t ∷ us))
  unfolding p.instances
  instances_ok x ts us t is d = then_ok (classes_ok t us is) (λ all rest r.
      some (subst (λ all. IsExpression instance_level ts (e.InstanceOf (span (place x) (last_class (place x) all)) x all) rest)
      (sym r.is_all) (g.instance_of (omega arith) d r.is)))

  -- the level of a token is that of the operator that it is
  at_level : {n v : ℕ} {ts mid : List Token} {x : Expr} (o : Parser Expr) → v ≡ n →
      (IsExpression (suc v) ts x mid → Gives (IsExpression v ts) (o mid)) →
      IsExpression (suc n) ts x mid → Gives (IsExpression n ts) (o mid)
  at_level {ts = ts} {mid = mid} {x = x} o same h d =
      subst (λ n. IsExpression (suc n) ts x mid → Gives (IsExpression n ts) (o mid)) same h d

  longer_ok : (n : ℕ) (x : Expr) (ts mid : List Token) → next mid ≡ n → IsExpression (suc n) ts x mid →
      Gives (IsExpression n ts) (p.longer below n x mid)
  unfolding p.longer
  longer_ok n x ts [] b d = none
  longer_ok n x ts (t ∷ us) b d = choose_ok (binary_of t.kind)
      (λ _. if_ok (is_mark m.Question t.kind)
      (λ h. let is = is_mark_true m.Question t.kind h in
      at_level (p.questioned below x) (sym (ap binds is) ∙ b) (λ d. questioned_ok x ts us t is d) d)
      (λ _. if_ok (is_instance_of t.kind)
      (λ h. let is = instance_of_true t.kind h in
      at_level (p.instances below x) (sym (ap binds is) ∙ b) (λ d. instances_ok x ts us t is d) d)
      (λ _. none)))
      (λ op h. let is = binary_ok t.kind op h in
      subst (λ n. IsExpression (suc n) ts x (t ∷ us) → Gives (IsExpression n ts) (p.grouped below n x op (grouping op) (t ∷ us)))
      (sym (ap binds is) ∙ b) (λ d. grouped_ok x ts us t op is d (grouping op) refl) d)

  finish_ok : (l : ℕ) (x : Expr) (ts mid : List Token) → IsExpression l ts x mid → Gives (Whole l ts) (stopped l x mid)
  finish_ok l x ts mid d = stopped_ok l x mid (λ stops. record { is = d; stops = stops })

  climb_ok : (least n : ℕ) (x : Expr) (ts mid : List Token) → least ≤ n → IsExpression n ts x mid →
      Gives (Whole least ts) (p.climb below least n x mid)
  unfolding p.climb
  climb_ok least zero x ts mid le d = finish_ok least x ts mid (weaker le d)
  climb_ok least (suc n) x ts mid le d = if_ok (nat_le least n)
      (λ h. let low : least ≤ n = grind (arith, nat_tests, h) in if_ok (next mid == n)
      (λ b. then_ok (longer_ok n x ts mid (grind (arith, nat_tests, b)) d) (λ y us f. climb_ok least n y ts us low f))
      (λ _. climb_ok least n x ts mid low (weaker (omega arith) d)))
      (λ _. finish_ok least x ts mid (weaker le d))

  -- where no level is left
  climb_none : (least n : ℕ) (x : Expr) (ts mid : List Token) → n < least → IsTerm ts x mid →
      Gives (Whole least ts) (p.climb below least n x mid)
  unfolding p.climb
  climb_none least zero x ts mid h d = finish_ok least x ts mid (g.term d)
  climb_none least (suc n) x ts mid h d =
      if_ok (nat_le least n) (λ f. absurd (grind (arith, nat_tests, f, h))) (λ _. finish_ok least x ts mid (g.term d))

  climb_any : (least n : ℕ) (x : Expr) (ts mid : List Token) → IsTerm ts x mid → Gives (Whole least ts) (p.climb below least n x mid)
  climb_any least n x ts mid d =
      elim (leb_tells least n) [ inl h ↦ climb_ok least n x ts mid h.1 (g.term d) | inr h ↦ climb_none least n x ts mid h.1 d ]

  pub one_level_ok : (links least : ℕ) (ts : List Token) → Gives (Whole least ts) (p.one_level below links least ts)
  unfolding p.one_level p.climbed
  one_level_ok links least ts = then_ok (term_ok links below ok false ts) (λ x mid d. climb_any least top x ts mid (the_term d))

  climb_used : (ts mid : List Token) (x : Expr) → Used true ts x mid → Gives (WholeValue ts) (p.climb below 1 top x mid)
  climb_used ts mid x (a_term d) = map_ok (climb_any 1 top x ts mid d) (λ y rest w. record { is = expression w.is; stops = w.stops })
  climb_used ts mid x (an_element is d stops) =
      subst (λ o. Gives (WholeValue ts) o)
      (sym (skip below 1 top 1 x mid (omega arith) (omega arith) stops.below ∙ reached below 1 1 x mid (omega arith) stops.below))
      (some (record { is = only_written d; stops = stops }))

  pub one_element_ok : (links : ℕ) (ts : List Token) → Gives (WholeValue ts) (p.one_element below links ts)
  unfolding p.one_element p.climbed
  one_element_ok links ts = then_ok (term_ok links below ok true ts) (λ x mid d. climb_used ts mid x d)
