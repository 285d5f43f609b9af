-- Operators, level by level: what is in the grammar is what the parser answers.
use Rattle.std.specs.Prelude.{◌≡◌, ℕ, zero, suc, ◌<◌, ◌≤◌, Bool, true, false, List, [], ◌∷◌, ◌++◌, length, Some, None, nat_le, ◌==◌, refl}
use Rattle.std.proofs.Common.{ap, sym, ◌∙◌, arith, append_assoc, append-nil}
use Rattle.std.proofs.lemmas.Bool.Decides.{nat_tests}
use Rattle.hph_ast.specs.declared.token.Token.{Token}
use Rattle.hph_ast.specs.declared.token.Kind.{Kind}
use Rattle.hph_ast.specs.declared.token.Kind.TheVariants as k
use Rattle.hph_ast.specs.declared.token.Mark.TheVariants as m
use Rattle.hph_ast.specs.declared.keyword.Keyword.TheVariants as w
use Rattle.hph_ast.specs.declared.operator.Binary.{Binary}
use Rattle.hph_ast.specs.declared.operator.Grouping.{Grouping}
use Rattle.hph_ast.specs.declared.operator.Grouping.TheVariants.{Left, Right, Alone}
use Rattle.hph_ast.specs.declared.expr.Expr.{Expr}
use Rattle.hph_ast.specs.declared.expr.Expr.TheVariants as e
use Rattle.hph_ast.specs.declared.expr.ClassReference.{ClassReference}
use Rattle.hph_ast.specs.Levels.{level, grouping, instance_level, ternary_level, top, next, binds, Stops}
use Rattle.hph_ast.specs.Nesting.{nesting, class_nesting, greatest}
use Rattle.hph_ast.specs.Places.{place, span, last_operand, last_expr, last_class}
use Rattle.hph_ast.specs.Terminals.{IsMark, IsKeyword}
use Rattle.hph_ast.specs.Expressions as g
use Rattle.hph_ast.specs.Expressions.{IsExpression, IsTail, IsShorts, IsInstances}
use Rattle.hph_fexpr.specs.NestingLaws.{NestingLaws}
use Rattle.hph_fexpr.specs.declared.form.Form.{Form}
use Rattle.hph_cursor.specs.Steps.{Parser, and_then, sees, is_mark}
use Rattle.hph_cursor.specs.Next.{of_next, is_next, binary_of, operator_of, is_instance_of}
use Rattle.hph_fexpr.specs.Classes.{by_expression}
use Rattle.hph_fexpr.specs.Terms.{term}
use Rattle.hph_fexpr.specs.Endings.{IsValue, expression, only_written}
use Rattle.hph_fexpr.specs.Climb as p
use Rattle.hph_fexpr.proofs.Tools.{then_is, choose_some, choose_none, if_true, if_false, mark_is, expect_is}
use Rattle.hph_cursor.proofs.Shorter.{expression_shorter, target_shorter}
use Rattle.hph_fexpr.proofs.Firsts.{Complete, closed_is, not_first, not_seen, expression_heads, level_top}
use Rattle.hph_fexpr.proofs.ClassesComplete.{named_class_is, target_is}
use Rattle.hph_fexpr.proofs.TermsComplete.{term_is, written_only_is}
use Rattle.hph_fexpr.proofs.Left.{skip, reached}

-- ---- what comes next

operator_is : (n : ℕ) {kind : Kind} {op : Binary} → kind ≡ k.Operator op → level op ≡ n → operator_of n kind ≡ Some op
operator_is n {op = op} is l = let same : (level op == n) ≡ true =
    grind (arith, nat_tests, l) in ap (operator_of n) is ∙ if_true _ _ same refl

operator_none : (n : ℕ) (ts : List Token) → next ts < n → of_next (operator_of n) ts ≡ None
operator_none n [] h = refl
operator_none n (t ∷ ts) h = go t.kind h
  where
    go : (kind : Kind) → binds kind < n → operator_of n kind ≡ None
    go (k.Operator op) h = let other : (level op == n) ≡ false = grind (arith, nat_tests, h) in if_false _ _ other refl
    go _ h = refl

no_instance : (ts : List Token) → next ts < instance_level → is_next is_instance_of ts ≡ false
no_instance [] h = refl
no_instance (t ∷ ts) h = go t.kind h
  where
    go : (kind : Kind) → binds kind < instance_level → is_instance_of kind ≡ false
    go (k.Keyword w.InstanceOf) h = absurd (omega arith)
    go _ h = refl

tail_next : {n : ℕ} {ts rest : List Token} {os : List (Binary × Expr)} → IsTail n ts os rest → next rest < n → Stops (suc n) ts
tail_next g.operands_end h = record { below = omega arith }
tail_next (g.operand {t = t} {op = op} is l d more) h = let e : binds t.kind ≡ level op = ap binds is in record { below = omega arith }

shorts_next : {ts rest : List Token} {ys : List Expr} → IsShorts ts ys rest → next rest < ternary_level → Stops (suc ternary_level) ts
shorts_next g.shorts_end h = record { below = omega arith }
shorts_next (g.shorts_more {q = q} is c d more) h = let e : binds q.kind ≡ ternary_level = ap binds is in record { below = omega arith }

instances_next : {ts rest : List Token} {class : ClassReference} {classes : List ClassReference} → IsInstances ts (class ∷ classes) rest →
    next ts ≡ instance_level
instances_next (g.instance is names more) = ap binds is
instances_next (g.instance_by is d more) = ap binds is

instances_colons : {ts rest : List Token} {classes : List ClassReference} → IsInstances ts classes rest → next rest < instance_level →
    sees m.DoubleColon ts ≡ false
instances_colons (g.instances_end {ts = ts}) h = not_seen m.DoubleColon ts (omega arith)
instances_colons (g.instance is names more) h = ap (is_mark m.DoubleColon) is
instances_colons (g.instance_by is d more) h = ap (is_mark m.DoubleColon) is

module _ (laws : NestingLaws) (depth : ℕ) (below : Form → Parser Expr) (all : Complete depth below) where
  -- ---- one level

  operands_from_is : (n turns : ℕ) (found : List (Binary × Expr)) {ts rest : List Token} {os : List (Binary × Expr)} → IsTail n ts os rest →
      next rest < n → suc n ≤ top →
      length ts ≤ turns → greatest (λ (o : Binary × Expr). nesting o.1) os ≤ depth →
      p.operands_from below n turns found ts ≡ Some (found ++ os, rest)
  unfolding p.operands_from
  operands_from_is n zero found (g.operands_end {ts = ts}) h t short small = ap (λ os. Some (os, ts)) (sym (append-nil found))
  operands_from_is n zero found (g.operand is l d more) h t short small = absurd (omega arith)
  operands_from_is n (suc turns) found (g.operands_end {ts = ts}) h t short small =
      choose_none _ _ (operator_none n ts h) (ap (λ os. Some (os, ts)) (sym (append-nil found)))
  operands_from_is n (suc turns) found
      (g.operand {ts = ts} {mid = mid} {rest = rest} {op = op} {x = x} {os = os} is l d more) h t short small =
      choose_some _ _ (operator_is n is l) (then_is _ (all.level (suc n) ts mid x t d (omega arith) (tail_next more h))
      (operands_from_is n turns (found ++ (op, x) ∷ []) more h t (omega (arith, expression_shorter d)) (omega arith)
      ∙ ap (λ os. Some (os, rest)) (append_assoc found ((op, x) ∷ []) os)))

  run_is : (n : ℕ) (x : Expr) {ts rest : List Token} {os : List (Binary × Expr)} → IsTail n ts os rest → next rest < n → suc n ≤ top →
      greatest (λ (o : Binary × Expr). nesting o.1) os ≤ depth →
      p.run below n x ts ≡ Some (e.Run (span (place x) (last_operand (place x) os)) x os, rest)
  unfolding p.run
  run_is n x {ts = ts} more h t small = then_is _ (operands_from_is n (length ts) [] more h t (omega arith) small) refl

  pair_is : (x : Expr) (op : Binary) (n : ℕ) (t : Token) {ts rest : List Token} {y : Expr} → n ≤ top → IsExpression n ts y rest →
      next rest < n → nesting y ≤ depth →
      p.pair below x op n (t ∷ ts) ≡ Some (e.Pair (span (place x) (place y)) op x y, rest)
  unfolding p.pair
  pair_is x op n t {ts = ts} {rest = rest} {y = y} le d h small = then_is _ (all.level n ts rest y le d small (record { below = h })) refl

  shorts_from_is : (n : ℕ) (found : List Expr) {ts rest : List Token} {ys : List Expr} → IsShorts ts ys rest → next rest < ternary_level →
      length ts ≤ n →
      greatest nesting ys ≤ depth → p.shorts_from below n found ts ≡ Some (found ++ ys, rest)
  unfolding p.shorts_from
  shorts_from_is zero found (g.shorts_end {ts = ts}) h short small = ap (λ ys. Some (ys, ts)) (sym (append-nil found))
  shorts_from_is zero found (g.shorts_more is colon d more) h short small = absurd (omega arith)
  shorts_from_is (suc n) found (g.shorts_end {ts = ts}) h short small =
      if_false _ _ (not_seen m.Question ts h) (ap (λ ys. Some (ys, ts)) (sym (append-nil found)))
  shorts_from_is (suc n) found (g.shorts_more {ts = ts} {mid = mid} {rest = rest} {x = x} {xs = xs} is colon d more) h short small =
      if_true _ _ (mark_is m.Question is)
      (then_is _ (expect_is colon)
      (then_is _ (all.level (suc ternary_level) ts mid x (omega arith) d (omega arith) (shorts_next more h))
      (shorts_from_is n (found ++ x ∷ []) more h (omega (arith, expression_shorter d)) (omega arith)
      ∙ ap (λ ys. Some (ys, rest)) (append_assoc found (x ∷ []) xs))))

  ternary_is : (x : Expr) (q : Token) {ts mid rest : List Token} {y z : Expr} {c : Token} → IsExpression 1 ts y (c ∷ mid) →
      IsMark m.Colon c → IsExpression (suc ternary_level) mid z rest →
      next rest < suc ternary_level → nesting y ≤ depth → nesting z ≤ depth →
      p.questioned below x (q ∷ ts) ≡ Some (e.Ternary (span (place x) (place z)) x y z, rest)
  unfolding p.questioned p.ternary p.other_branch
  ternary_is x q {mid = mid} {rest = rest} {z = z} d is f h small smaller =
      if_false _ _ (not_first m.Colon refl (expression_heads d)) (then_is _ (closed_is all m.Colon refl d is small)
      (then_is _ (expect_is is) (then_is _ (all.level (suc ternary_level) mid rest z (omega arith) f smaller (record { below = h })) refl)))

  short_is : (x : Expr) (q c : Token) {ts mid rest : List Token} {y : Expr} {ys : List Expr} → IsMark m.Colon c →
      IsExpression (suc ternary_level) ts y mid → IsShorts mid ys rest →
      next rest < ternary_level → nesting y ≤ depth → greatest nesting ys ≤ depth →
      p.questioned below x (q ∷ c ∷ ts) ≡ Some (e.ShortTernary (span (place x) (last_expr (place x) (y ∷ ys))) x (y ∷ ys), rest)
  unfolding p.questioned p.short
  short_is x q c {ts = ts} {mid = mid} {y = y} is d more h small smalls =
      if_true _ _ (mark_is m.Colon is) (then_is _ (all.level (suc ternary_level) ts mid y (omega arith) d small (shorts_next more h))
      (then_is _ (shorts_from_is (length mid) (y ∷ []) more h (omega arith) smalls) refl))

  classes_from_is : (n : ℕ) (found : List ClassReference) {ts rest : List Token} {classes : List ClassReference} →
      IsInstances ts classes rest → next rest < instance_level → length ts ≤ n →
      greatest class_nesting classes ≤ depth → p.classes_from below n found ts ≡ Some (found ++ classes, rest)
  unfolding p.classes_from
  classes_from_is zero found (g.instances_end {ts = ts}) h short small = ap (λ cs. Some (cs, ts)) (sym (append-nil found))
  classes_from_is zero found (g.instance is names more) h short small = absurd (omega arith)
  classes_from_is zero found (g.instance_by is d more) h short small = absurd (omega arith)
  classes_from_is (suc n) found (g.instances_end {ts = ts}) h short small =
      if_false _ _ (no_instance ts h) (ap (λ cs. Some (cs, ts)) (sym (append-nil found)))
  classes_from_is (suc n) found (g.instance {rest = rest} {class = class} {classes = classes} is names more) h short small =
      if_true _ _ (ap is_instance_of is) (then_is _ (named_class_is laws depth below all names (instances_colons more h))
      (classes_from_is n (found ++ class ∷ []) more h (omega arith) (omega arith)
      ∙ ap (λ cs. Some (cs, rest)) (append_assoc found (class ∷ []) classes)))
  classes_from_is (suc n) found (g.instance_by {rest = rest} {x = x} {classes = classes} is d more) h short small =
      let deep = laws.class_by_expression (place x) x in
      let class = by_expression x in
      if_true _ _ (ap is_instance_of is) (then_is _ (target_is laws depth below all d (omega arith))
      (classes_from_is n (found ++ class ∷ []) more h (omega (arith, target_shorter d)) (omega arith)
      ∙ ap (λ cs. Some (cs, rest)) (append_assoc found (class ∷ []) classes)))

  instances_is : (x : Expr) {ts rest : List Token} {classes : List ClassReference} → IsInstances ts classes rest →
      next rest < instance_level → greatest class_nesting classes ≤ depth →
      p.instances below x ts ≡ Some (e.InstanceOf (span (place x) (last_class (place x) classes)) x classes, rest)
  unfolding p.instances
  instances_is x {ts = ts} more h small = then_is _ (classes_from_is (length ts) [] more h (omega arith) small) refl

  -- ---- which level comes next

  longer_operator : (n : ℕ) (x : Expr) (t : Token) (ts : List Token) (op : Binary) (how : Grouping) {z : _} → t.kind ≡ k.Operator op →
      grouping op ≡ how →
      p.grouped below n x op how (t ∷ ts) ≡ z → p.longer below n x (t ∷ ts) ≡ z
  unfolding p.longer
  longer_operator n x t ts op how is groups h =
      choose_some _ _ (ap binary_of is) (ap (λ how. p.grouped below n x op how (t ∷ ts)) groups ∙ h)

  longer_question : (n : ℕ) (x : Expr) (t : Token) (ts : List Token) {z : _} → IsMark m.Question t → p.questioned below x (t ∷ ts) ≡ z →
      p.longer below n x (t ∷ ts) ≡ z
  unfolding p.longer
  longer_question n x t ts is h = choose_none _ _ (ap binary_of is) (if_true _ _ (mark_is m.Question is) h)

  longer_instance : (n : ℕ) (x : Expr) (t : Token) (ts : List Token) {z : _} → IsKeyword w.InstanceOf t → p.instances below x (t ∷ ts) ≡ z →
      p.longer below n x (t ∷ ts) ≡ z
  unfolding p.longer
  longer_instance n x t ts is h =
      choose_none _ _ (ap binary_of is) (if_false _ _ (ap (is_mark m.Question) is) (if_true _ _ (ap is_instance_of is) h))

  instances_longer : (x : Expr) {ts rest : List Token} {class : ClassReference} {classes : List ClassReference} →
      IsInstances ts (class ∷ classes) rest → next rest < instance_level →
      greatest class_nesting (class ∷ classes) ≤ depth →
      p.longer below instance_level x ts ≡ Some
      (e.InstanceOf (span (place x) (last_class (place x) (class ∷ classes))) x (class ∷ classes), rest)
  instances_longer x (g.instance {ts = ts} {t = t} {q = q} is names more) h small =
      longer_instance instance_level x t (q ∷ ts) is (instances_is x (g.instance is names more) h small)
  instances_longer x (g.instance_by {ts = ts} {t = t} is d more) h small =
      longer_instance instance_level x t ts is (instances_is x (g.instance_by is d more) h small)

  -- ---- all levels

  -- a level at which the expression goes on
  here : (least n : ℕ) (x y : Expr) (mid rest : List Token) → least ≤ n → next mid ≡ n → p.longer below n x mid ≡ Some (y, rest) →
      p.climb below least (suc n) x mid ≡ p.climb below least n y rest
  unfolding p.climb
  here least n x y mid rest le at h =
      let test : nat_le least n ≡ true = grind (arith, nat_tests, le) in
      let same : (next mid == n) ≡ true = grind (arith, nat_tests, at) in
      if_true _ _ test (if_true _ _ same (then_is _ h refl))

  -- After an expression of a level, the levels below it are left.
  spelled : (alone : Bool) (least : ℕ) {l : ℕ} {ts rest : List Token} {x : Expr} → IsExpression l ts x rest → least ≤ l → l ≤ top → next rest < l →
      nesting x ≤ suc depth →
      and_then (term depth below alone ts) (p.climb below least top) ≡ p.climb below least l x rest
  spelled alone least {l = l} (g.term {rest = rest} {x = x} d) low high h small =
      then_is _ (term_is laws depth below all alone d small (omega arith)) (skip below least top l x rest high low h)
  spelled alone least {l = l} (g.run {rest = rest} {x = x} le how d
      (g.operand {ts = ts} {t = t} {op = op} {x = y} {os = os} is lv f more)) low high h small =
      let at = span (place x) (last_operand (place x) ((op, y) ∷ os)) in
      let n = laws.run at x ((op, y) ∷ os) in
      let nx : next (t ∷ ts) ≡ level op = ap binds is in
      let run = e.Run at x ((op, y) ∷ os) in
      spelled alone least d (omega arith) (level_top op) (omega arith) (omega arith)
      ∙ here least (level op) x run (t ∷ ts) rest (omega arith) nx
      (longer_operator (level op) x t ts op Left is how
      (run_is (level op) x (g.operand is lv f more) (omega arith) (level_top op) (omega arith)))
      ∙ skip below least (level op) l run rest le low h
  spelled alone least {l = l} (g.to_right {mid = mid} {rest = rest} {t = t} {op = op} {x = x} {y = y} le how d is f) low high h small =
      let at = span (place x) (place y) in
      let n = laws.pair at op x y in
      let nx : next (t ∷ mid) ≡ level op = ap binds is in
      let lt = level_top op in
      spelled alone least d (omega arith) (level_top op) (omega arith) (omega arith)
      ∙ here least (level op) x (e.Pair at op x y) (t ∷ mid) rest (omega arith) nx
      (longer_operator (level op) x t mid op Right is how (pair_is x op (level op) t (omega arith) f (omega arith) (omega arith)))
      ∙ skip below least (level op) l (e.Pair at op x y) rest le low h
  spelled alone least {l = l} (g.single {mid = mid} {rest = rest} {t = t} {op = op} {x = x} {y = y} le how d is f) low high h small =
      let at = span (place x) (place y) in
      let n = laws.pair at op x y in
      let nx : next (t ∷ mid) ≡ level op = ap binds is in
      spelled alone least d (omega arith) (level_top op) (omega arith) (omega arith)
      ∙ here least (level op) x (e.Pair at op x y) (t ∷ mid) rest (omega arith) nx
      (longer_operator (level op) x t mid op Alone is how
      (pair_is x op (suc (level op)) t (level_top op) f (omega arith) (omega arith)))
      ∙ skip below least (level op) l (e.Pair at op x y) rest le low h
  spelled alone least {l = l} (g.instance_of {mid = mid} {rest = rest} {x = x} {class = class} {classes = classes} le d more) low high h small =
      let at = span (place x) (last_class (place x) (class ∷ classes)) in
      let n = laws.instance_of at x (class ∷ classes) in
      let nx = instances_next more in
      spelled alone least d (omega arith) (omega arith) (omega arith) (omega arith)
      ∙ here least instance_level x (e.InstanceOf at x (class ∷ classes)) mid rest (omega arith) nx
      (instances_longer x more (omega arith) (omega arith))
      ∙ skip below least instance_level l (e.InstanceOf at x (class ∷ classes)) rest le low h
  spelled alone least {l = l} (g.ternary {mid = mid} {rest = rest} {q = q} {x = x} {y = y} {z = z} le d question first colon second) low high h small =
      let at = span (place x) (place z) in
      let n = laws.ternary at x y z in
      let nx : next (q ∷ mid) ≡ ternary_level = ap binds question in
      spelled alone least d (omega arith) (omega arith) (omega arith) (omega arith)
      ∙ here least ternary_level x (e.Ternary at x y z) (q ∷ mid) rest (omega arith) nx
      (longer_question ternary_level x q mid question (ternary_is x q first colon second (omega arith) (omega arith) (omega arith)))
      ∙ skip below least ternary_level l (e.Ternary at x y z) rest le low h
  spelled alone least {l = l} (g.short {rest = rest} {x = x} le d
      (g.shorts_more {ts = ts} {q = q} {c = c} {x = y} {xs = ys} question colon first more)) low high h small =
      let at = span (place x) (last_expr (place x) (y ∷ ys)) in
      let n = laws.short_ternary at x (y ∷ ys) in
      let nx : next (q ∷ c ∷ ts) ≡ ternary_level = ap binds question in
      spelled alone least d (omega arith) (omega arith) (omega arith) (omega arith)
      ∙ here least ternary_level x (e.ShortTernary at x (y ∷ ys)) (q ∷ c ∷ ts) rest (omega arith) nx
      (longer_question ternary_level x q (c ∷ ts) question (short_is x q c colon first more (omega arith) (omega arith) (omega arith)))
      ∙ skip below least ternary_level l (e.ShortTernary at x (y ∷ ys)) rest le low h

  pub one_level_is : (l : ℕ) (ts rest : List Token) (x : Expr) → l ≤ top → IsExpression l ts x rest → nesting x ≤ suc depth → Stops l rest →
      p.one_level below depth l ts ≡ Some (x, rest)
  unfolding p.one_level p.climbed
  one_level_is l ts rest x high d small stops =
      spelled false l d (omega arith) high stops.below small ∙ reached below l l x rest (omega arith) stops.below

  pub one_element_is : {ts rest : List Token} {x : Expr} → IsValue ts x rest → nesting x ≤ suc depth → Stops 1 rest →
      p.one_element below depth ts ≡ Some (x, rest)
  unfolding p.one_element p.climbed
  one_element_is {rest = rest} {x = x} (expression d) small stops =
      spelled true 1 d (omega arith) (omega arith) stops.below small ∙ reached below 1 1 x rest (omega arith) stops.below
  one_element_is {rest = rest} {x = x} (only_written d) small stops =
      then_is _ (written_only_is laws depth below all d small stops.below)
      (skip below 1 top 1 x rest (omega arith) (omega arith) stops.below ∙ reached below 1 1 x rest (omega arith) stops.below)
