-- What a file prints that is made of inline text, empty statements and `echo` of whole numbers and texts (PHP manual, PHP tags and
-- echo); and of any other file the first node that is none of these. This project's own.
use Rattle.std.specs.Prelude.{◌≡◌, ℕ, List, [], ◌∷◌, ◌++◌, Option, Some, None, Result, Ok, Err, codes, refl}
use Rattle.std.specs.Fmt.{decimal}
use Rattle.hph_ast.specs.declared.expr.Expr.{Expr, out-Expr}
use Rattle.hph_ast.specs.declared.expr.ClassReference.TheOpen.{Expr-F}
use Rattle.hph_ast.specs.declared.function.Function.{Function, out-Function}
use Rattle.hph_ast.specs.declared.class.Class.{Class, out-Class}
use Rattle.hph_ast.specs.declared.class.Member.{Member}
use Rattle.hph_ast.specs.declared.class.Member.TheOpen.{Statement-F}
use Rattle.hph_ast.specs.declared.stmt.Statement.{Statement, out-Statement}
use Rattle.hph_ast.specs.declared.stmt.Case.{Case}
use Rattle.hph_ast.specs.declared.stmt.ElseIf.{ElseIf}
use Rattle.hph_ast.specs.declared.program.FileTree.{FileTree}
use Rattle.hph_ast.specs.Layers.{ExprLayer}
use Rattle.hph_ast.specs.Places.{place}

abbrev pub StatementLayer : Type 0
StatementLayer = Statement-F Member Statement Class Function Case ElseIf

-- texts in order, or the offset of the first node that prints none of its own
abbrev pub Texts : Type 0
Texts = Result (List (List ℕ)) ℕ

abbrev pub behind : Texts → Texts → Texts
behind (Err at) more = Err at
behind (Ok texts) (Ok more) = Ok (texts ++ more)
behind (Ok texts) (Err at) = Err at

abbrev pub in_order : {A : Type 0} → (A → Texts) → List A → Texts
in_order f [] = Ok []
in_order f (x ∷ xs) = behind (f x) (in_order f xs)

-- a whole number prints its digits, and a text itself
abbrev pub operand_text : ExprLayer → Option (List ℕ)
operand_text (Expr-F.Int at value) = Some (decimal value)
operand_text (Expr-F.Text at bytes) = Some bytes
operand_text _ = None

abbrev pub text_or : Option (List ℕ) → ℕ → Texts
text_or (Some text) at = Ok (text ∷ [])
text_or None at = Err at

abbrev pub operand_texts : Expr → Texts
operand_texts x = text_or (operand_text (out-Expr x)) (place x).start

-- where a statement starts
abbrev pub statement_start : StatementLayer → ℕ
statement_start (Statement-F.Empty at) = at.start
statement_start (Statement-F.InlineText at bytes) = at.start
statement_start (Statement-F.Block at body) = at.start
statement_start (Statement-F.Expression at x) = at.start
statement_start (Statement-F.Function f) = (out-Function f).at.start
statement_start (Statement-F.Class declared) = (out-Class declared).at.start
statement_start (Statement-F.If at x body more other) = at.start
statement_start (Statement-F.While at x body) = at.start
statement_start (Statement-F.DoWhile at body x) = at.start
statement_start (Statement-F.For at init test step body) = at.start
statement_start (Statement-F.Foreach at x key value body) = at.start
statement_start (Statement-F.Switch at x cases) = at.start
statement_start (Statement-F.Break at levels) = at.start
statement_start (Statement-F.Continue at levels) = at.start
statement_start (Statement-F.Return at value) = at.start
statement_start (Statement-F.Echo at values) = at.start
statement_start (Statement-F.Global at names) = at.start
statement_start (Statement-F.Static at variables) = at.start
statement_start (Statement-F.Unset at paths) = at.start
statement_start (Statement-F.Const at items) = at.start

abbrev pub layer_texts : StatementLayer → Texts
layer_texts (Statement-F.Empty at) = Ok []
layer_texts (Statement-F.InlineText at bytes) = Ok (bytes ∷ [])
layer_texts (Statement-F.Echo at values) = in_order operand_texts values
layer_texts s = Err (statement_start s)

abbrev pub statement_texts : Statement → Texts
statement_texts s = layer_texts (out-Statement s)

abbrev pub file_texts : FileTree → Texts
file_texts tree = in_order statement_texts tree.statements
