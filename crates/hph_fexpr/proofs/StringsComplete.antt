-- Strings with interpolations: what is in the grammar is what the parser answers.
use Rattle.std.specs.Prelude.{◌≡◌, ℕ, zero, suc, ◌≤◌, false, List, [], ◌∷◌, ◌++◌, length, Some, refl}
use Rattle.std.proofs.Common.{ap, ◌∙◌, arith, append_assoc}
use Rattle.hph_ast.specs.declared.token.Token.{Token}
use Rattle.hph_ast.specs.declared.token.Mark.TheVariants as m
use Rattle.hph_ast.specs.declared.expr.Expr.{Expr}
use Rattle.hph_ast.specs.declared.expr.Expr.TheVariants as e
use Rattle.hph_ast.specs.declared.expr.StringPart.{StringPart}
use Rattle.hph_ast.specs.declared.expr.StringPart.TheVariants as part
use Rattle.hph_ast.specs.Nesting.{nesting, part_nesting, greatest}
use Rattle.hph_ast.specs.Places.{on, span}
use Rattle.hph_ast.specs.Terminals as terminal
use Rattle.hph_ast.specs.Terminals.{IsMark, IsKey}
use Rattle.hph_ast.specs.Expressions as g
use Rattle.hph_ast.specs.Expressions.{IsInterpolation, IsParts}
use Rattle.hph_fexpr.specs.NestingLaws.{NestingLaws}
use Rattle.hph_fexpr.specs.declared.form.Form.{Form}
use Rattle.hph_cursor.specs.Steps.{Parser, sees, is_mark}
use Rattle.hph_cursor.specs.Next.{is_variable}
use Rattle.hph_fexpr.specs.Strings as p
use Rattle.hph_fexpr.proofs.Tools.{then_is, choose_some, choose_none, if_true, if_false, mark_is, expect_is}
use Rattle.hph_cursor.proofs.Shorter.{interpolation_shorter, parts_shorter}
use Rattle.hph_fexpr.proofs.Firsts.{Complete, closed_is}

key_is : {q : Token} (us : List Token) {x : Expr} → IsKey q x → p.key (q ∷ us) ≡ Some (x, us)
unfolding p.key
key_is {q = q} us (terminal.key_name is) = ap (λ kind. p.given (p.key_by q kind) us) is
key_is {q = q} us (terminal.key_variable is) = ap (λ kind. p.given (p.key_by q kind) us) is
key_is {q = q} us (terminal.key_int is) = ap (λ kind. p.given (p.key_by q kind) us) is

module _ (laws : NestingLaws) (depth : ℕ) (below : Form → Parser Expr) (all : Complete depth below) where
  interpolation_is : {ts rest : List Token} {x : Expr} → IsInterpolation ts x rest → nesting x ≤ depth → sees m.OpenBracket rest ≡ false →
      sees m.Arrow rest ≡ false → p.interpolation below ts ≡ Some (x, rest)
  unfolding p.interpolation p.simple p.simple_index p.simple_property p.in_braces
  interpolation_is (g.plain_variable {rest = rest} {t = t} is) small bracket arrow =
      ap (λ kind. p.interpolation_by below t kind rest) is ∙ if_false _ _ bracket (if_false _ _ arrow refl)
  interpolation_is (g.with_key {rest = rest} {t = t} {o = o} {q = q} {c = c} is opens key close) small bracket arrow =
      ap (λ kind. p.interpolation_by below t kind (o ∷ q ∷ c ∷ rest)) is
      ∙ if_true _ _ (mark_is m.OpenBracket opens) (then_is _ (key_is (c ∷ rest) key) (then_is _ (expect_is close) refl))
  interpolation_is (g.with_property {rest = rest} {t = t} {o = o} {q = q} {name = name} is at property) small bracket arrow =
      ap (λ kind. p.interpolation_by below t kind (o ∷ q ∷ rest)) is
      ∙ if_false _ _ (ap (is_mark m.OpenBracket) at) (if_true _ _ (mark_is m.Arrow at)
      (ap (λ kind. p.simple_property_by t name o q kind rest) property))
  interpolation_is (g.in_braces {ts = ts} {rest = rest} {o = o} {t = t} opens is d mark) small bracket arrow =
      ap (λ kind. p.interpolation_by below o kind (t ∷ ts)) opens
      ∙ if_true _ _ (ap is_variable is) (then_is _ (closed_is all m.CloseBrace refl d mark small) (then_is _ (expect_is mark) refl))

  parts_from_is : (n : ℕ) (found : List StringPart) {ts rest : List Token} {parts : List StringPart} {c : Token} → IsParts ts parts c rest →
      length ts ≤ n → greatest part_nesting parts ≤ depth →
      p.parts_from below n found ts ≡ Some ((found ++ parts, on c), rest)
  unfolding p.parts_from
  parts_from_is zero found d short small = absurd (omega (arith, parts_shorter d))
  parts_from_is (suc n) found (g.parts_last {c = c} {x = x} d is) short small =
      then_is _ (interpolation_is d (omega (arith, laws.part_interpolation x)) (ap (is_mark m.OpenBracket) is) (ap (is_mark m.Arrow) is))
      (choose_some _ _ (ap p.text_tail is) refl)
  parts_from_is (suc n) found (g.parts_more {rest = rest} {t = t} {c = c} {x = x} {bytes = bytes} {parts = parts} d is more) short small =
      then_is _ (interpolation_is d (omega (arith, laws.part_interpolation x)) (ap (is_mark m.OpenBracket) is) (ap (is_mark m.Arrow) is))
      (choose_none _ _ (ap p.text_tail is) (choose_some _ _ (ap p.text_middle is)
      (parts_from_is n (found ++ part.Interpolation x ∷ part.Piece (on t) bytes ∷ []) more (omega (arith, interpolation_shorter d))
      (omega arith)
      ∙ ap (λ parts. Some ((parts, on c), rest)) (append_assoc found (part.Interpolation x ∷ part.Piece (on t) bytes ∷ []) parts))))

  pub interpolated_is : (t : Token) (bytes : List ℕ) {ts rest : List Token} {parts : List StringPart} {c : Token} →
      IsParts ts parts c rest → greatest part_nesting parts ≤ depth →
      p.interpolated below t bytes ts ≡ Some (e.Interpolated (span (on t) (on c)) (part.Piece (on t) bytes ∷ parts), rest)
  unfolding p.interpolated
  interpolated_is t bytes {ts = ts} d small =
      then_is _ (parts_from_is (length ts) (part.Piece (on t) bytes ∷ []) d (omega arith) small) refl
