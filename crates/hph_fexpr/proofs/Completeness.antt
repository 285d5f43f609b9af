-- What is in the grammar is what the parser answers.
use Rattle.std.specs.Prelude.{◌≡◌, ◌≤◌, ℕ, zero, suc, List, true, Some, nat_le}
use Rattle.std.proofs.Common.{arith, refl}
use Rattle.std.proofs.lemmas.Bool.Decides.{nat_tests}
use Rattle.hph_ast.specs.declared.expr.Expr.{Expr}
use Rattle.hph_fexpr.specs.NestingLaws.{NestingLaws}
use Rattle.hph_fexpr.specs.declared.form.Form.{Form}
use Rattle.hph_fexpr.specs.declared.form.Form.TheVariants.{Level, Postfix, Element}
use Rattle.hph_ast.specs.declared.token.Token.{Token}
use Rattle.hph_ast.specs.Nesting.{nesting}
use Rattle.hph_cursor.specs.Steps.{Parser}
use Rattle.hph_fexpr.proofs.Tools.{then_is, if_true}
use Rattle.hph_fexpr.specs.Parser.{one_form, kept, parse}
use Rattle.hph_fexpr.proofs.Firsts.{Complete}
use Rattle.hph_fexpr.proofs.NestingGrows.{postfix_positive, expression_positive, value_positive}
use Rattle.hph_fexpr.proofs.PostfixComplete.{postfix_is}
use Rattle.hph_fexpr.proofs.ClimbComplete.{one_level_is, one_element_is}

one_form_is : (laws : NestingLaws) (depth : ℕ) (below : Form → Parser Expr) → Complete depth below → Complete (suc depth) (one_form depth below)
one_form_is laws depth below all = record {
  level = λ l ts rest x high d small stops. one_level_is laws depth below all l ts rest x high d small stops;
  postfix = λ ts rest x d small ends. postfix_is laws depth below all d small ends;
  element = λ ts rest x d small stops. one_element_is laws depth below all d small stops;
}

kept_is : (depth : ℕ) (inner : Parser Expr) (ts : List Token) {x : Expr} {rest : List Token} → inner ts ≡ Some (x, rest) → nesting x ≤ depth →
    kept depth inner ts ≡ Some (x, rest)
kept_is depth inner ts {x} h small =
    let fits : nat_le (nesting x) depth ≡ true = grind (arith, nat_tests) in then_is _ h (if_true _ _ fits refl)

pub parse_is : (laws : NestingLaws) (depth : ℕ) → Complete depth (parse depth)
unfolding parse
parse_is laws zero = record {
  level = λ l ts rest x high d small stops. absurd (omega (arith, expression_positive laws d));
  postfix = λ ts rest x d small ends. absurd (omega (arith, postfix_positive laws d));
  element = λ ts rest x d small stops. absurd (omega (arith, value_positive laws d));
}
parse_is laws (suc depth) =
    let r = one_form_is laws depth (parse depth) (parse_is laws depth) in record {
      level = λ l ts rest x high d small stops. kept_is (suc depth) (one_form depth (parse depth) (Level l)) ts (r.level l ts rest x high d small stops) small;
      postfix = λ ts rest x d small ends. kept_is (suc depth) (one_form depth (parse depth) Postfix) ts (r.postfix ts rest x d small ends) small;
      element = λ ts rest x d small stops. kept_is (suc depth) (one_form depth (parse depth) Element) ts (r.element ts rest x d small stops) small;
    }
