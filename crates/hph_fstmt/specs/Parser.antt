-- The parser of statements and of files as a function on lists of tokens.
use Rattle.std.specs.Prelude.{ℕ, zero, suc, Bool, true, false, List, [], ◌∷◌, Option, Some, None}
use Rattle.hph_ast.specs.declared.token.Token.{Token}
use Rattle.hph_ast.specs.declared.expr.Expr.{Expr}
use Rattle.hph_ast.specs.declared.stmt.Statement.{Statement}
use Rattle.hph_ast.specs.declared.program.FileTree.{FileTree}
use Rattle.hph_ast.specs.Statements.{file_place}
use Rattle.hph_fexpr.specs.declared.form.Form.{Form}
use Rattle.hph_fexpr.specs.Parser.{parse}
use Rattle.hph_cursor.specs.Steps.{Outcome, Parser, fail}
use Rattle.hph_fstmt.specs.Repeats.{many}
use Rattle.hph_fstmt.specs.Statements.{ends_statements, one_statement}

-- with statements nested no deeper than the number, and whether it stands directly in a file
unfoldable pub statement : (Form → Parser Expr) → ℕ → Bool → Parser Statement
statement below zero top = fail
statement below (suc depth) top = one_statement below (statement below depth false) top

abbrev pub whole : Outcome (List Statement) → Option FileTree
whole None = None
whole (Some (xs, [])) = Some (record { at = file_place xs; statements = xs })
whole (Some (xs, t ∷ ts)) = None

-- a file whose statements are nested no deeper than the number
unfoldable pub file : ℕ → List Token → Option FileTree
file depth tokens = whole (many ends_statements (statement (parse depth) depth true) tokens)

-- how deep the expressions and the statements of a file are nested at most; its tree is a node too
abbrev pub deepest : ℕ
deepest = 511

unfoldable pub expressions : Form → Parser Expr
expressions = parse deepest

-- statements in statements
unfoldable pub nested : ℕ → Parser Statement
nested depth = statement expressions depth false
