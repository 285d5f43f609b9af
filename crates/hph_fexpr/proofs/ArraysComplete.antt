-- Elements of arrays: what is in the grammar is what the parser answers.
use Rattle.std.specs.Prelude.{◌≡◌, ℕ, zero, suc, ◌≤◌, Bool, true, false, ◌||◌, List, [], ◌∷◌, ◌++◌, length, Some, refl}
use Rattle.std.proofs.Common.{ap, sym, ◌∙◌, arith, append_assoc, append-nil}
use Rattle.hph_ast.specs.declared.token.Token.{Token}
use Rattle.hph_ast.specs.declared.token.Kind.TheVariants as k
use Rattle.hph_ast.specs.declared.token.Mark.{Mark}
use Rattle.hph_ast.specs.declared.token.Mark.TheVariants as m
use Rattle.hph_ast.specs.declared.expr.Expr.{Expr}
use Rattle.hph_ast.specs.declared.expr.Item.{Item, out-Item}
use denote.Hole.Carrier.{out}
use Rattle.hph_ast.specs.declared.expr.Item.TheVariants as item
use Rattle.hph_ast.specs.Levels.{binds, Stops}
use Rattle.hph_ast.specs.Nesting.{nesting, item_nesting, greatest}
use Rattle.hph_ast.specs.Places.{place, on, span}
use Rattle.hph_ast.specs.Shapes.{is_source, is_target, has_targets}
use Rattle.hph_ast.specs.Terminals.{IsMark}
use Rattle.hph_ast.specs.Expressions as g
use Rattle.hph_ast.specs.Expressions.{IsExpression, IsPostfix, IsItem, IsItems, IsElement, IsTargets}
use Rattle.hph_fexpr.specs.NestingLaws.{NestingLaws}
use Rattle.hph_fexpr.specs.declared.form.Form.{Form}
use Rattle.hph_fexpr.specs.declared.elements.Elements.{Elements}
use Rattle.hph_fexpr.specs.Endings.{Ends, IsValue, expression, only_written}
use Rattle.hph_cursor.specs.Steps.{Parser, Outcome, sees, is_mark}
use Rattle.hph_cursor.specs.Next.{is_ampersand}
use Rattle.hph_fexpr.specs.Arrays as p
use Rattle.hph_fexpr.proofs.Written.{expression_read, item_read}
use Rattle.hph_fexpr.proofs.Tools.{or_assoc, or_false, or_true, then_is, if_true, if_false, mark_is, expect_is}
use Rattle.hph_cursor.proofs.Shorter.{element_shorter, item_shorter, items_shorter, targets_shorter}
use Rattle.hph_fexpr.proofs.Firsts.{begins_none, Complete, mark_ends, mark_stops, no_ampersand, expression_heads, value_heads, item_not_first, element_not_first}

-- what may follow an element
record Follows (rest : List Token) : Type 0 where
  stops : Stops 1 rest
  ends : Ends rest
  arrow : sees m.DoubleArrow rest ≡ false

follows : (mark : Mark) → binds (k.Mark mark) ≡ 0 → is_mark m.DoubleArrow (k.Mark mark) ≡ false → {c : Token} {rest : List Token} →
    IsMark mark c → Follows (c ∷ rest)
follows mark shut other is =
    record { stops = mark_stops mark shut is; ends = mark_ends mark shut is; arrow = ap (is_mark m.DoubleArrow) is ∙ other }

-- what a mark is that closes elements
pub record Closing (closing : Mark) : Type 0 where
  pub begins : begins_none (k.Mark closing) ≡ true
  pub binds_none : binds (k.Mark closing) ≡ 0
  pub comma : is_mark m.Comma (k.Mark closing) ≡ false
  pub at_comma : is_mark closing (k.Mark m.Comma) ≡ false
  pub arrow : is_mark m.DoubleArrow (k.Mark closing) ≡ false

pub bracket_closes : Closing m.CloseBracket
bracket_closes = record { begins = refl; binds_none = refl; comma = refl; at_comma = refl; arrow = refl }

pub paren_closes : Closing m.CloseParen
paren_closes = record { begins = refl; binds_none = refl; comma = refl; at_comma = refl; arrow = refl }

module _ (laws : NestingLaws) (depth : ℕ) (below : Form → Parser Expr) (all : Complete depth below) where
  source_is : {ts rest : List Token} {x : Expr} → IsPostfix ts x rest → is_source x ≡ true → nesting x ≤ depth → Ends rest →
      p.source below ts ≡ Some (x, rest)
  unfolding p.source
  source_is {ts = ts} {rest = rest} {x = x} d source small ends = then_is _ (all.postfix ts rest x d small ends) (if_true _ _ source refl)

  -- a value and then what follows an element
  value_is : {ts rest : List Token} {x : Expr} → IsValue ts x rest → nesting x ≤ depth → Follows rest →
      p.element below ts ≡ Some (item.Plain (place x) x, rest)
  unfolding p.element p.valued
  value_is {ts = ts} {rest = rest} {x = x} d small f =
      if_false _ _ (no_ampersand (value_heads d)) (then_is _ (all.element ts rest x d small f.stops) (if_false _ _ f.arrow refl))

  -- a key, and "=>" behind it
  key_is : {ts mid : List Token} {t : Token} {x : Expr} {z : _} → IsExpression 1 ts x (t ∷ mid) → IsMark m.DoubleArrow t → nesting x ≤ depth →
      p.keyed below x mid ≡ z → p.element below ts ≡ z
  unfolding p.element p.valued p.keyed_by
  key_is {ts = ts} {mid = mid} {t = t} {x = x} d arrow small h = if_false _ _ (no_ampersand (expression_heads d))
      (then_is _ (all.element ts (t ∷ mid) x (expression d) small (mark_stops m.DoubleArrow refl arrow))
      (if_true _ _ (mark_is m.DoubleArrow arrow) (if_false _ _ (expression_read d) h)))

  -- a value behind "=>"
  keyed_is : {mid rest : List Token} (x : Expr) {y : Expr} → IsValue mid y rest → nesting y ≤ depth → Stops 1 rest →
      p.keyed below x mid ≡ Some (item.Keyed (span (place x) (place y)) x y, rest)
  unfolding p.keyed
  keyed_is {mid = mid} {rest = rest} x {y = y} d small stops =
      if_false _ _ (no_ampersand (value_heads d)) (then_is _ (all.element mid rest y d small stops) refl)

  item_is : {ts rest : List Token} {x : Item} → IsItem ts x rest → item_nesting x ≤ depth → Follows rest →
      p.element below ts ≡ Some (x, rest)
  unfolding p.element p.keyed p.reference p.keyed_reference
  item_is (g.value {x = x} d) small f = let n = laws.item_plain (place x) x in value_is (expression d) (omega arith) f
  item_is (g.pair {x = x} {y = y} d arrow e) small f =
      let n = laws.item_keyed (span (place x) (place y)) x y in key_is d arrow (omega arith) (keyed_is x (expression e) (omega arith) f.stops)
  item_is (g.reference {t = t} {x = x} is d source) small f =
      let n = laws.item_reference (span (on t) (place x)) x in
      if_true _ _ (ap is_ampersand is) (then_is _ (source_is d source (omega arith) f.ends) refl)
  item_is (g.pair_reference {q = q} {x = x} {y = y} d arrow is e source) small f =
      let n = laws.item_keyed_reference (span (place x) (place y)) x y q.start in
      key_is d arrow (omega arith) (if_true _ _ (ap is_ampersand is) (then_is _ (source_is e source (omega arith) f.ends) refl))

  element_is : {ts rest : List Token} {x : Item} → IsElement ts x rest → item_nesting x ≤ depth → Follows rest →
      p.element below ts ≡ Some (x, rest)
  element_is (g.element_item d) small f = item_is d small f
  element_is (g.element {x = x} d) small f = let n = laws.item_plain (place x) x in value_is (only_written d) (omega arith) f
  element_is (g.element_pair {x = x} {y = y} d arrow e) small f =
      let n = laws.item_keyed (span (place x) (place y)) x y in key_is d arrow (omega arith) (keyed_is x (only_written e) (omega arith) f.stops)

  -- an element, and then a comma or the mark that closes
  comma_is : {ts mid : List Token} {x : Item} {t : Token} → IsElement ts x (t ∷ mid) → IsMark m.Comma t → item_nesting x ≤ depth →
      p.element below ts ≡ Some (x, t ∷ mid)
  comma_is d comma small = element_is d small (follows m.Comma refl refl comma)

  close_is : (closing : Mark) → Closing closing → {ts mid : List Token} {x : Item} {c : Token} → IsElement ts x (c ∷ mid) → IsMark closing c →
      item_nesting x ≤ depth → p.element below ts ≡ Some (x, c ∷ mid)
  close_is closing closes d mark small = element_is d small (follows closing closes.binds_none closes.arrow mark)

  -- what is found, by its parts
  found_is : {items others : List Item} {targets others_are : Bool} (c : Token) (rest : List Token) → items ≡ others → targets ≡ others_are →
      ◌≡◌ {A = Outcome Elements} (Some (record { items = items; targets = targets; close = on c }, rest))
      (Some (record { items = others; targets = others_are; close = on c }, rest))
  found_is {items = items} {others_are = others_are} c rest same are =
      ap (λ b. Some (record { items = items; targets = b; close = on c }, rest)) are
      ∙ ap (λ xs. Some (record { items = xs; targets = others_are; close = on c }, rest)) same

  items_from_is : (closing : Mark) → Closing closing →
      (n : ℕ) (found : List Item) {ts rest : List Token} {xs : List Item} {c : Token} → IsItems closing ts xs c rest →
      length ts ≤ n → greatest item_nesting xs ≤ depth →
      p.elements_from below closing n found false ts ≡ Some (record { items = found ++ xs; targets = false; close = on c }, rest)
  unfolding p.elements_from
  items_from_is closing closes zero found d short small = absurd (omega (arith, items_shorter d))
  items_from_is closing closes (suc n) found (g.items_end {rest = rest} {c = c} mark) short small =
      if_true _ _ (mark_is closing mark) (found_is c rest (sym (append-nil found)) refl)
  items_from_is closing closes (suc n) found (g.items_last {rest = rest} {c = c} {x = x} d mark) short small =
      if_false _ _ (item_not_first closing closes.begins d)
      (if_false _ _ (item_not_first m.Comma refl d) (then_is _ (close_is closing closes (g.element_item d) mark (omega arith))
      (if_false _ _ (ap (is_mark m.Comma) mark ∙ closes.comma) (then_is _ (expect_is mark) (found_is c rest refl (item_read d))))))
  items_from_is closing closes (suc n) found (g.items_more {mid = mid} {rest = rest} {c = c} {x = x} {xs = xs} d comma more) short small =
      if_false _ _ (item_not_first closing closes.begins d)
      (if_false _ _ (item_not_first m.Comma refl d) (then_is _ (comma_is (g.element_item d) comma (omega arith))
      (if_true _ _ (mark_is m.Comma comma)
      (ap (λ b. p.elements_from below closing n (found ++ x ∷ []) b mid) (item_read d)
      ∙ items_from_is closing closes n (found ++ x ∷ []) more (omega (arith, item_shorter d)) (omega arith)
      ∙ found_is c rest (append_assoc found (x ∷ []) xs) refl))))

  pub items_is : (closing : Mark) → Closing closing → {ts rest : List Token} {xs : List Item} {c : Token} → IsItems closing ts xs c rest →
      greatest item_nesting xs ≤ depth →
      p.elements below closing ts ≡ Some (record { items = xs; targets = false; close = on c }, rest)
  unfolding p.elements
  items_is closing closes {ts = ts} d small = items_from_is closing closes (length ts) [] d (omega arith) small

  targets_from_is : (n : ℕ) (found : List Item) (targets : Bool) {ts rest : List Token} {xs : List Item} {c : Token} → IsTargets ts xs c rest →
      length ts ≤ n → greatest item_nesting xs ≤ depth →
      p.elements_from below m.CloseBracket n found targets ts
      ≡ Some (record { items = found ++ xs; targets = targets || has_targets xs; close = on c }, rest)
  unfolding p.elements_from out-Item out
  targets_from_is zero found targets d short small = absurd (omega (arith, targets_shorter d))
  targets_from_is (suc n) found targets (g.targets_end {rest = rest} {c = c} mark) short small =
      if_true _ _ (mark_is m.CloseBracket mark) (found_is c rest (sym (append-nil found)) (sym (or_false targets)))
  targets_from_is (suc n) found targets (g.targets_last {rest = rest} {c = c} {x = x} d mark) short small =
      if_false _ _ (element_not_first m.CloseBracket refl d)
      (if_false _ _ (element_not_first m.Comma refl d) (then_is _ (close_is m.CloseBracket bracket_closes d mark (omega arith))
      (if_false _ _ (ap (is_mark m.Comma) mark) (then_is _ (expect_is mark)
      (found_is c rest refl (ap (λ b. targets || b) (sym (or_false (is_target x)))))))))
  targets_from_is (suc n) found targets (g.targets_more {rest = rest} {c = c} {x = x} {xs = xs} d comma more) short small =
      if_false _ _ (element_not_first m.CloseBracket refl d)
      (if_false _ _ (element_not_first m.Comma refl d)
      (then_is _ (comma_is d comma (omega arith)) (if_true _ _ (mark_is m.Comma comma)
      (targets_from_is n (found ++ x ∷ []) (targets || is_target x) more (omega (arith, element_shorter d)) (omega arith)
      ∙ found_is c rest (append_assoc found (x ∷ []) xs) (or_assoc targets (is_target x) (has_targets xs))))))
  targets_from_is (suc n) found targets (g.targets_hole {rest = rest} {t = t} {c = c} {xs = xs} comma more) short small =
      if_false _ _ (ap (is_mark m.CloseBracket) comma) (if_true _ _ (mark_is m.Comma comma)
      (targets_from_is n (found ++ item.Hole (on t) ∷ []) true more (omega arith) (omega arith)
      ∙ found_is c rest (append_assoc found (item.Hole (on t) ∷ []) xs) (sym (or_true targets))))

  pub targets_is : {ts rest : List Token} {xs : List Item} {c : Token} → IsTargets ts xs c rest → greatest item_nesting xs ≤ depth →
      p.elements below m.CloseBracket ts ≡ Some (record { items = xs; targets = has_targets xs; close = on c }, rest)
  unfolding p.elements
  targets_is {ts = ts} d small = targets_from_is (length ts) [] false d (omega arith) small
