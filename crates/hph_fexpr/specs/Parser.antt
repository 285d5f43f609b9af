-- The parser of expressions as a function on lists of tokens.
use Rattle.std.specs.Prelude.{ℕ, zero, suc, nat_le}
use Rattle.hph_ast.specs.declared.expr.Expr.{Expr}
use Rattle.hph_fexpr.specs.declared.form.Form.{Form}
use Rattle.hph_fexpr.specs.declared.form.Form.TheVariants.{Level, Postfix, Element}
use Rattle.hph_ast.specs.Nesting.{nesting}
use Rattle.hph_cursor.specs.Steps.{Parser, ◌>>=◌, fail, pure_if}
use Rattle.hph_fexpr.specs.Postfix.{postfix}
use Rattle.hph_fexpr.specs.Climb.{one_level, one_element}

abbrev pub one_form : ℕ → (Form → Parser Expr) → Form → Parser Expr
one_form depth below (Level least) = one_level below depth least
one_form depth below Postfix = postfix below depth
one_form depth below Element = one_element below depth

-- what a parser reads, where it is nested no deeper than the number: so a tree is never much deeper than one that is kept
abbrev pub kept : ℕ → Parser Expr → Parser Expr
kept depth inner = inner >>= λ x. pure_if (nat_le (nesting x) depth) x

-- trees nested no deeper than the number
unfoldable pub parse : ℕ → Form → Parser Expr
parse zero form = fail
parse (suc depth) form = kept (suc depth) (one_form depth (parse depth) form)
