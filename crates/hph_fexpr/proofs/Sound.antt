-- What the parser answers is in the grammar.
use Rattle.std.specs.Prelude.{ℕ, zero, suc, List}
use Rattle.hph_ast.specs.declared.expr.Expr.{Expr}
use Rattle.hph_fexpr.specs.declared.form.Form.{Form}
use Rattle.hph_fexpr.specs.declared.form.Form.TheVariants.{Level, Postfix, Element}
use Rattle.hph_ast.specs.declared.token.Token.{Token}
use Rattle.hph_cursor.specs.Steps.{Parser}
use Rattle.hph_fexpr.specs.Parser.{one_form, kept, parse}
use Rattle.hph_fexpr.proofs.Tools.{none, some, Gives, then_ok, if_ok, Sound}
use Rattle.hph_fexpr.proofs.PostfixSound.{postfix_ok}
use Rattle.hph_fexpr.proofs.ClimbSound.{one_level_ok, one_element_ok}

one_form_ok : (depth : ℕ) (below : Form → Parser Expr) → Sound below → Sound (one_form depth below)
one_form_ok depth below ok (Level least) ts = one_level_ok below ok depth least ts
one_form_ok depth below ok Postfix ts = postfix_ok below ok depth ts
one_form_ok depth below ok Element ts = one_element_ok below ok depth ts

kept_ok : {P : Expr → List Token → Type 0} (depth : ℕ) (inner : Parser Expr) (ts : List Token) → Gives P (inner ts) → Gives P (kept depth inner ts)
kept_ok depth inner ts r = then_ok r (λ x mid q. if_ok _ (λ _. some q) (λ _. none))

pub parse_ok : (depth : ℕ) → Sound (parse depth)
unfolding parse
parse_ok zero form ts = none
parse_ok (suc depth) form ts = kept_ok (suc depth) (one_form depth (parse depth) form) ts (one_form_ok depth (parse depth) (parse_ok depth) form ts)
