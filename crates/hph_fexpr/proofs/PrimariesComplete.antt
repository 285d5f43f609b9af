-- Primaries: what is in the grammar is what the parser answers.
use Rattle.std.specs.Prelude.{◌≡◌, ℕ, suc, ◌≤◌, Bool, true, false, List, ◌∷◌, Some, refl}
use Rattle.std.proofs.Common.{ap, sym, ◌∙◌, arith}
use Rattle.hph_ast.specs.declared.token.At.{At}
use Rattle.hph_ast.specs.declared.token.Token.{Token}
use Rattle.hph_ast.specs.declared.token.Mark.TheVariants as m
use Rattle.hph_ast.specs.declared.expr.Expr.{Expr, out-Expr}
use Rattle.hph_ast.specs.declared.expr.Expr.TheVariants as e
use Rattle.hph_ast.specs.declared.expr.ArrayForm.TheVariants.{Short, Long}
use Rattle.hph_ast.specs.declared.expr.StringPart.TheVariants as part
use Rattle.hph_ast.specs.declared.expr.ClassReference.{ClassReference}
use denote.Hole.Carrier.{out}
use Rattle.hph_ast.specs.Nesting.{nesting}
use Rattle.hph_ast.specs.Places.{place, on, span}
use Rattle.hph_ast.specs.Shapes.{is_class_expression, is_path}
use Rattle.hph_ast.specs.Terminals as terminal
use Rattle.hph_ast.specs.Terminals.{IsMark, IsClass, IsExit}
use Rattle.hph_ast.specs.Expressions as g
use Rattle.hph_ast.specs.Expressions.{IsPrimary, IsScoped, IsMaybeArguments}
use Rattle.hph_fexpr.specs.NestingLaws.{NestingLaws}
use Rattle.hph_fexpr.specs.declared.form.Form.{Form}
use Rattle.hph_cursor.specs.Steps.{Parser, sees, is_mark}
use Rattle.hph_fexpr.specs.Lists.{maybe_arguments}
use Rattle.hph_fexpr.specs.Classes.{by_expression}
use Rattle.hph_fexpr.specs.Primaries as p
use Rattle.hph_fexpr.proofs.Tools.{then_is, if_true, if_false, mark_is, expect_is, opens_sees}
use Rattle.hph_fexpr.proofs.Firsts.{Complete, closed_is, not_first, expression_heads}
use Rattle.hph_fexpr.proofs.ListsComplete.{arguments_is, maybe_arguments_is, paths_is}
use Rattle.hph_fexpr.proofs.ArraysComplete.{bracket_closes, paren_closes, items_is}
use Rattle.hph_fexpr.proofs.StringsComplete.{interpolated_is}
use Rattle.hph_fexpr.proofs.ClassesSound.{class_place_is, expression_place_is}
use Rattle.hph_fexpr.proofs.ClassesComplete.{parenthesis_is, scoped_is, named_class_is, target_is}

-- where "::" follows, the expression may stand for a class
abbrev pub Colons : Expr → List Token → Type 0
Colons x rest = sees m.DoubleColon rest ≡ true → is_class_expression x ≡ true

constant_is_no_class : (at : At) (name : List ℕ) → is_class_expression (e.Constant at name) ≡ false
unfolding out-Expr out
constant_is_no_class at name = refl

new_is_no_class : (at : At) (class : ClassReference) (xs : List Expr) → is_class_expression (e.New at class xs) ≡ false
unfolding out-Expr out
new_is_no_class at class xs = refl

no_colons : (x : Expr) (rest : List Token) → is_class_expression x ≡ false → Colons x rest → sees m.DoubleColon rest ≡ false
no_colons x rest other h = go (sees m.DoubleColon rest) refl
  where
    go : (b : Bool) → sees m.DoubleColon rest ≡ b → sees m.DoubleColon rest ≡ false
    go true seen = absurd (let f = h seen in cc)
    go false seen = seen

maybe_shut : {at last : At} {ts rest : List Token} {xs : List Expr} → IsMaybeArguments at ts xs last rest →
    sees m.DoubleColon rest ≡ false → sees m.DoubleColon ts ≡ false
maybe_shut (g.no_arguments h) shut = shut
maybe_shut (g.some_arguments mark d) shut = ap (is_mark m.DoubleColon) mark

module _ (laws : NestingLaws) (depth : ℕ) (below : Form → Parser Expr) (all : Complete depth below) where
  exit_kind : {t : Token} → IsExit t → (ts : List Token) → p.primary_by below t t.kind ts ≡ p.exit below t ts
  exit_kind {t = t} (terminal.exit is) ts = ap (λ kind. p.primary_by below t kind ts) is
  exit_kind {t = t} (terminal.die is) ts = ap (λ kind. p.primary_by below t kind ts) is

  class_kind : {t q : Token} {ts rest : List Token} {class : ClassReference} {x : Expr} → IsClass t class → IsMark m.DoubleColon q →
      IsScoped class q ts x rest → nesting x ≤ suc depth →
      p.primary_by below t t.kind (q ∷ ts) ≡ Some (x, rest)
  unfolding p.named
  class_kind {t = t} {q = q} {ts = ts} (terminal.named is) mark d small = ap (λ kind. p.primary_by below t kind (q ∷ ts)) is
      ∙ if_false _ _ (ap (is_mark m.OpenParen) mark) (if_true _ _ (mark_is m.DoubleColon mark) (scoped_is laws depth below all mark d small))
  class_kind {t = t} {q = q} {ts = ts} (terminal.self_class is) mark d small =
      ap (λ kind. p.primary_by below t kind (q ∷ ts)) is ∙ scoped_is laws depth below all mark d small
  class_kind {t = t} {q = q} {ts = ts} (terminal.parent is) mark d small =
      ap (λ kind. p.primary_by below t kind (q ∷ ts)) is ∙ scoped_is laws depth below all mark d small
  class_kind {t = t} {q = q} {ts = ts} (terminal.static is) mark d small =
      ap (λ kind. p.primary_by below t kind (q ∷ ts)) is ∙ scoped_is laws depth below all mark d small

  pub primary_is : {ts rest : List Token} {x : Expr} → IsPrimary ts x rest → nesting x ≤ suc depth → Colons x rest →
      p.primary below ts ≡ Some (x, rest)
  unfolding p.primary p.named p.call p.short_array p.long_array p.new p.isset p.empty p.exit p.exit_with
  primary_is (g.int {rest = rest} {t = t} is) small colons = ap (λ kind. p.primary_by below t kind rest) is
  primary_is (g.text {rest = rest} {t = t} is) small colons = ap (λ kind. p.primary_by below t kind rest) is
  primary_is (g.interpolated {ts = ts} {t = t} {c = c} {bytes = bytes} {parts = parts} is d) small colons =
      ap (λ kind. p.primary_by below t kind ts) is
      ∙ interpolated_is laws depth below all t bytes d
      (omega (arith, laws.interpolated (span (on t) (on c)) (part.Piece (on t) bytes ∷ parts)))
  primary_is (g.variable {rest = rest} {t = t} is) small colons = ap (λ kind. p.primary_by below t kind rest) is
  primary_is (g.constant {rest = rest} {t = t} {name = name} is shut) small colons = ap (λ kind. p.primary_by below t kind rest) is
      ∙ if_false _ _ (sym (opens_sees rest) ∙ shut)
      (if_false _ _ (no_colons (e.Constant (on t) name) rest (constant_is_no_class (on t) name) colons) refl)
  primary_is (g.directory {rest = rest} {t = t} is) small colons = ap (λ kind. p.primary_by below t kind rest) is
  primary_is (g.short_array {ts = ts} {o = o} {c = c} {items = items} is d) small colons = ap (λ kind. p.primary_by below o kind ts) is
      ∙ then_is _ (items_is laws depth below all m.CloseBracket bracket_closes d
      (omega (arith, laws.array (span (on o) (on c)) Short items))) refl
  primary_is (g.long_array {ts = ts} {t = t} {o = o} {c = c} {items = items} is opens d) small colons =
      ap (λ kind. p.primary_by below t kind (o ∷ ts)) is
      ∙ then_is _ (expect_is opens)
      (then_is _ (items_is laws depth below all m.CloseParen paren_closes d
      (omega (arith, laws.array (span (on t) (on c)) Long items))) refl)
  primary_is (g.call {ts = ts} {t = t} {o = o} {c = c} {name = name} {xs = xs} is opens d) small colons =
      ap (λ kind. p.primary_by below t kind (o ∷ ts)) is
      ∙ if_true _ _ (mark_is m.OpenParen opens)
      (then_is _ (arguments_is laws depth below all d (omega (arith, laws.call (span (on t) (on c)) name xs))) refl)
  primary_is (g.scoped names mark d) small colons = class_kind names mark d small
  primary_is (g.new {ts = ts} {rest = rest} {t = t} {q = q} {class = class} {xs = xs} {last = last} is names d) small colons =
      let n = laws.new (span (on t) last) class xs in
      let shut = maybe_shut d (no_colons (e.New (span (on t) last) class xs) rest (new_is_no_class (span (on t) last) class xs) colons) in
      ap (λ kind. p.primary_by below t kind (q ∷ ts)) is ∙ then_is _ (named_class_is laws depth below all names shut)
      (then_is _ (ap (λ at. maybe_arguments below at ts) (class_place_is names) ∙ maybe_arguments_is laws depth below all d (omega arith)) refl)
  primary_is (g.new_by {ts = ts} {mid = mid} {t = t} {x = x} {xs = xs} {last = last} is d more) small colons =
      let n = laws.new (span (on t) last) (by_expression x) xs in
      let c = laws.class_by_expression (place x) x in
      ap (λ kind. p.primary_by below t kind ts) is ∙ then_is _ (target_is laws depth below all d (omega arith))
      (then_is _ (ap (λ at. maybe_arguments below at mid) (expression_place_is x)
      ∙ maybe_arguments_is laws depth below all more (omega arith)) refl)
  primary_is (g.paren {ts = ts} {o = o} {c = c} {x = x} opens d mark) small colons = ap (λ kind. p.primary_by below o kind ts) opens
      ∙ parenthesis_is laws depth below all o d mark (omega (arith, laws.paren (span (on o) (on c)) x))
  primary_is (g.isset {ts = ts} {t = t} {o = o} {c = c} {xs = xs} is opens d) small colons =
      ap (λ kind. p.primary_by below t kind (o ∷ ts)) is
      ∙ then_is _ (expect_is opens)
      (then_is _ (paths_is laws depth below all is_path d (omega (arith, laws.isset (span (on t) (on c)) xs))) refl)
  primary_is (g.empty {ts = ts} {t = t} {o = o} {c = c} {x = x} is opens d mark) small colons =
      ap (λ kind. p.primary_by below t kind (o ∷ ts)) is
      ∙ then_is _ (expect_is opens)
      (then_is _ (closed_is all m.CloseParen refl d mark (omega (arith, laws.empty (span (on t) (on c)) x)))
      (then_is _ (expect_is mark) refl))
  primary_is (g.exit {rest = rest} is shut) small colons = exit_kind is rest ∙ if_false _ _ (sym (opens_sees rest) ∙ shut) refl
  primary_is (g.exit_of_nothing {rest = rest} {o = o} {c = c} is opens mark) small colons =
      exit_kind is (o ∷ c ∷ rest) ∙ if_true _ _ (mark_is m.OpenParen opens) (if_true _ _ (mark_is m.CloseParen mark) refl)
  primary_is (g.exit_with {ts = ts} {t = t} {o = o} {c = c} {x = x} is opens d mark) small colons =
      exit_kind is (o ∷ ts) ∙ if_true _ _ (mark_is m.OpenParen opens)
      (if_false _ _ (not_first m.CloseParen refl (expression_heads d))
      (then_is _ (closed_is all m.CloseParen refl d mark (omega (arith, laws.exit_with (span (on t) (on c)) x)))
      (then_is _ (expect_is mark) refl)))
