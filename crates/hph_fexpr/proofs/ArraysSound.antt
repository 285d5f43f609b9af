-- Elements of arrays: what the parser answers is in the grammar.
use Rattle.std.specs.Prelude.{◌≡◌, ℕ, zero, suc, Bool, true, false, ◌||◌, List, [], ◌∷◌, ◌++◌, length, refl}
use Rattle.std.proofs.Common.{ap, sym, ◌∙◌, append-nil}
use Rattle.hph_ast.specs.declared.token.Token.{Token}
use Rattle.hph_ast.specs.declared.token.Kind.{Kind}
use Rattle.hph_ast.specs.declared.token.Kind.TheVariants as k
use Rattle.hph_ast.specs.declared.token.Mark.{Mark}
use Rattle.hph_ast.specs.declared.token.Mark.TheVariants as m
use Rattle.hph_ast.specs.declared.operator.Binary.TheVariants as b
use Rattle.hph_ast.specs.declared.expr.Expr.{Expr}
use Rattle.hph_ast.specs.declared.expr.Item.{Item, out-Item}
use Rattle.hph_ast.specs.declared.expr.ClassReference.TheBlock.{shown-the_row-Expr-0}
use denote.Hole.Carrier.{out, shown, hidden}
use Rattle.hph_ast.specs.declared.expr.Item.TheVariants as item
use Rattle.hph_ast.specs.Places.{place, on, span}
use Rattle.hph_ast.specs.Shapes.{is_source, is_target, is_written_only, has_targets}
use Rattle.hph_ast.specs.Terminals.{IsMark}
use Rattle.hph_ast.specs.Expressions as g
use Rattle.hph_ast.specs.Expressions.{IsExpression, IsPostfix, IsItem, IsItems, IsElement, IsTargets}
use Rattle.hph_fexpr.specs.declared.form.Form.{Form}
use Rattle.hph_fexpr.specs.declared.form.Form.TheVariants.{Postfix, Element}
use Rattle.hph_fexpr.specs.declared.elements.Elements.{Elements}
use Rattle.hph_cursor.specs.Steps.{Parser, sees}
use Rattle.hph_cursor.specs.Next.{is_ampersand}
use Rattle.hph_fexpr.specs.Endings.{IsValue, expression, only_written}
use Rattle.hph_fexpr.specs.Arrays as p
use Rattle.hph_fexpr.proofs.Written.{value_is, written_is}
use Rattle.hph_fexpr.proofs.Tools.{both_false, never, or_assoc, or_false, or_true, Gives, none, some, then_ok, map_ok, if_ok, is_mark_true, sees_at, sees_with, next_at, next_with, expect_with, Sound, shift}

pub ampersand_true : (kind : Kind) → is_ampersand kind ≡ true → kind ≡ k.Operator b.BitAnd
ampersand_true (k.Operator b.BitAnd) h = refl
ampersand_true _ h = absurd (cc)

record Source (ts : List Token) (x : Expr) (rest : List Token) : Type 0 where
  is : IsPostfix ts x rest
  is_a_source : is_source x ≡ true

-- elements behind others: those of an array where none stands in a destructuring alone, and before "]" those of a destructuring
pub record Found (closing : Mark) (found : List Item) (targets : Bool) (ts : List Token) (r : Elements) (rest : List Token) : Type 0 where
  pub xs : List Item
  pub close : Token
  pub is_all : r.items ≡ found ++ xs
  pub is_close : r.close ≡ on close
  pub are_targets : r.targets ≡ (targets || has_targets xs)
  pub as_items : r.targets ≡ false → IsItems closing ts xs close rest
  pub as_targets : closing ≡ m.CloseBracket → IsTargets ts xs close rest

closing_is : {closing : Mark} (c : Token) → IsMark closing c → closing ≡ m.CloseBracket → IsMark m.CloseBracket c
closing_is c mark e = mark ∙ ap k.Mark e

-- an element that does not stand in a destructuring alone is one of an array
element_is_item : {ts rest : List Token} {x : Item} → IsElement ts x rest → is_target x ≡ false → IsItem ts x rest
unfolding shown-the_row-Expr-0 shown hidden out-Item out
element_is_item (g.element_item d) h = d
element_is_item (g.element d) h = absurd (never (written_is d) h)
element_is_item (g.element_pair d arrow f) h = absurd (never (written_is f) h)

no_element : (closing : Mark) (found : List Item) (targets : Bool) (c : Token) (rest : List Token) → IsMark closing c →
    Found closing found targets (c ∷ rest) (record { items = found; targets = targets; close = on c }) rest
no_element closing found targets c rest mark = record {
  xs = [];
  close = c;
  is_all = sym (append-nil found);
  is_close = refl;
  are_targets = sym (or_false targets);
  as_items = λ _. g.items_end mark;
  as_targets = λ e. g.targets_end (closing_is c mark e);
}

last_element : (closing : Mark) (found : List Item) (targets : Bool) (x : Item) (c : Token) (ts rest : List Token) → IsElement ts x (c ∷ rest) →
    IsMark closing c →
    Found closing found targets ts (record { items = found ++ x ∷ []; targets = targets || is_target x; close = on c }) rest
last_element closing found targets x c ts rest d mark = record {
  xs = x ∷ [];
  close = c;
  is_all = refl;
  is_close = refl;
  are_targets = ap (λ b. targets || b) (sym (or_false (is_target x)));
  as_items = λ h. g.items_last (element_is_item d (both_false targets (is_target x) h).1) mark;
  as_targets = λ e. g.targets_last d (closing_is c mark e);
}

one_element : (closing : Mark) (found : List Item) (targets : Bool) (x : Item) (t : Token) (ts us rest : List Token) (r : Elements) →
    IsElement ts x (t ∷ us) → IsMark m.Comma t →
    Found closing (found ++ x ∷ []) (targets || is_target x) us r rest → Found closing found targets ts r rest
one_element closing found targets x t ts us rest r d comma f = record {
  xs = x ∷ f.xs;
  close = f.close;
  is_all = shift found x f.xs f.is_all;
  is_close = f.is_close;
  are_targets = f.are_targets ∙ or_assoc targets (is_target x) (has_targets f.xs);
  as_items = λ h. let none_is = both_false (targets || is_target x) (has_targets f.xs) (sym f.are_targets ∙ h) in
      g.items_more (element_is_item d (both_false targets (is_target x) none_is.0).1) comma (f.as_items h);
  as_targets = λ e. g.targets_more d comma (f.as_targets e);
}

a_hole : (closing : Mark) (found : List Item) (targets : Bool) (t : Token) (us rest : List Token) (r : Elements) → IsMark m.Comma t →
    Found closing (found ++ item.Hole (on t) ∷ []) true us r rest → Found closing found targets (t ∷ us) r rest
unfolding out-Item out
a_hole closing found targets t us rest r comma f = record {
  xs = item.Hole (on t) ∷ f.xs;
  close = f.close;
  is_all = shift found (item.Hole (on t)) f.xs f.is_all;
  is_close = f.is_close;
  are_targets = f.are_targets ∙ sym (or_true targets);
  as_items = λ h. absurd (let e = f.are_targets in cc);
  as_targets = λ e. g.targets_hole comma (f.as_targets e);
}

module _ (below : Form → Parser Expr) (ok : Sound below) where
  source_ok : (ts : List Token) → Gives (Source ts) (p.source below ts)
  unfolding p.source
  source_ok ts = then_ok (ok Postfix ts) (λ x rest d. if_ok (is_source x) (λ h. some (record { is = d; is_a_source = h })) (λ _. none))

  pair_ok : {ts mid rest : List Token} {t : Token} {x y : Expr} → IsExpression 1 ts x (t ∷ mid) → IsMark m.DoubleArrow t → IsValue mid y rest →
      IsElement ts (item.Keyed (span (place x) (place y)) x y) rest
  pair_ok d arrow (expression f) = g.element_item (g.pair d arrow f)
  pair_ok d arrow (only_written f) = g.element_pair d arrow f

  plain_ok : {ts rest : List Token} {x : Expr} → IsValue ts x rest → IsElement ts (item.Plain (place x) x) rest
  plain_ok (expression d) = g.element_item (g.value d)
  plain_ok (only_written d) = g.element d

  keyed_ok : (x : Expr) (t : Token) (ts mid : List Token) → IsExpression 1 ts x (t ∷ mid) → IsMark m.DoubleArrow t →
      Gives (IsElement ts) (p.keyed below x mid)
  unfolding p.keyed p.keyed_reference
  keyed_ok x t ts mid d arrow = next_with (λ mid. IsExpression 1 ts x (t ∷ mid)) is_ampersand mid d
      (λ q us e d. then_ok (source_ok us)
      (λ y rest f. some (g.element_item (g.pair_reference d arrow (ampersand_true q.kind e) f.is f.is_a_source))))
      (then_ok (ok Element mid) (λ y rest f. some (pair_ok d arrow f.is)))

  keyed_by_ok : (x : Expr) (ts us : List Token) → IsValue ts x us → sees m.DoubleArrow us ≡ true → Gives (IsElement ts) (p.keyed_by below x us)
  unfolding p.keyed_by
  keyed_by_ok x ts [] d h = absurd (cc)
  keyed_by_ok x ts (t ∷ us) d h = if_ok (is_written_only x) (λ _. none)
      (λ f. keyed_ok x t ts us (value_is d f) (is_mark_true m.DoubleArrow t.kind h))

  valued_ok : (ts : List Token) → Gives (IsElement ts) (p.valued below ts)
  unfolding p.valued
  valued_ok ts = then_ok (ok Element ts) (λ x us d. if_ok (sees m.DoubleArrow us) (λ h. keyed_by_ok x ts us d.is h) (λ _. some (plain_ok d.is)))

  element_ok : (ts : List Token) → Gives (IsElement ts) (p.element below ts)
  unfolding p.element p.reference
  element_ok ts = next_at IsElement is_ampersand ts
      (λ t us e. then_ok (source_ok us)
      (λ x rest d. some (g.element_item (g.reference (ampersand_true t.kind e) d.is d.is_a_source))))
      (valued_ok ts)

  elements_from_ok : (closing : Mark) (n : ℕ) (found : List Item) (targets : Bool) (ts : List Token) →
      Gives (Found closing found targets ts) (p.elements_from below closing n found targets ts)
  unfolding p.elements_from
  elements_from_ok closing zero found targets ts = none
  elements_from_ok closing (suc n) found targets ts = sees_at (Found closing found targets) closing ts
      (λ c us mark. some (no_element closing found targets c us mark))
      (λ _. sees_at (Found closing found targets) m.Comma ts
      (λ t us comma. map_ok (elements_from_ok closing n (found ++ item.Hole (on t) ∷ []) true us)
      (λ r rest f. a_hole closing found targets t us rest r comma f))
      (λ _. then_ok (element_ok ts) (λ x us d. sees_with (IsElement ts x) m.Comma us d
      (λ t vs comma d. map_ok (elements_from_ok closing n (found ++ x ∷ []) (targets || is_target x) vs)
      (λ r rest f. one_element closing found targets x t ts vs rest r d comma f))
      (λ _. expect_with (IsElement ts x) closing us d (λ c rest mark d. some (last_element closing found targets x c ts rest d mark))))))

  pub elements_ok : (closing : Mark) (ts : List Token) → Gives (Found closing [] false ts) (p.elements below closing ts)
  unfolding p.elements
  elements_ok closing ts = elements_from_ok closing (length ts) [] false ts
