-- The parser reads what is in the grammar and nothing else, and so tokens spell one statement and one file.
use Rattle.std.specs.Prelude.{◌≡◌, ◌≤◌, ℕ, suc, max, Bool, true, List, [], ◌∷◌, Some, None, refl}
use Rattle.std.proofs.Common.{ap, sym, subst, ◌∙◌, arith}
use Rattle.hph_ast.specs.declared.token.Token.{Token}
use Rattle.hph_ast.specs.declared.token.Mark.TheVariants as m
use Rattle.hph_ast.specs.declared.stmt.Statement.{Statement}
use Rattle.hph_ast.specs.declared.program.FileTree.{FileTree}
use Rattle.hph_ast.specs.StatementNesting.{statement_nesting, file_nesting}
use Rattle.hph_ast.specs.Shapes.{is_written}
use Rattle.hph_ast.specs.Statements as g
use Rattle.hph_ast.specs.Statements.{file_place, IsStatement, IsStatements, IsFile}
use Rattle.hph_fexpr.specs.declared.form.Form.TheVariants.{Level, Postfix}
use Rattle.hph_fexpr.specs.Lists.{paths}
use Rattle.hph_fexpr.specs.Arrays.{elements}
use Rattle.hph_fexpr.specs.Parser.{parse}
use Rattle.hph_cursor.specs.Steps.{Outcome}
use Rattle.hph_fstmt.specs.Laws.{Laws}
use Rattle.hph_fstmt.specs.Repeats.{many}
use Rattle.hph_fstmt.specs.Statements.{ends_statements}
use Rattle.hph_fstmt.specs.Parser.{statement, whole, file}
use Rattle.hph_fstmt.proofs.Tools.{Gives, some, gives, given, some_inj}
use Rattle.hph_fstmt.proofs.StatementsSound.{SoundExpr, statements_of_ok}
use Rattle.hph_fstmt.proofs.MembersSound.{statement_ok}
use Rattle.hph_fstmt.proofs.StatementsComplete.{statements_of_is}
use Rattle.hph_fstmt.proofs.Completeness.{statement_is}

expressions_ok : (laws : Laws) (limit : ℕ) → SoundExpr (parse limit)
expressions_ok laws limit = record {
  level = λ ts. gives (parse limit (Level 1) ts) (λ x rest e. (laws.of_expressions.level_sound limit 1 ts x rest e).is);
  paths_ok = λ ts. gives (paths (parse limit) is_written ts)
      (λ r rest e. let p = laws.of_expressions.paths_sound limit is_written ts r.0 r.1 rest e in (p.0, p.2));
  postfix = λ ts. gives (parse limit Postfix ts) (λ x rest e. laws.of_expressions.postfix_sound limit ts x rest e);
  targets_ok = λ ts. gives (elements (parse limit) m.CloseBracket ts) (λ r rest e. laws.of_expressions.targets_sound limit ts r rest e);
}

pub statement_sound : (laws : Laws) (limit depth : ℕ) (top : Bool) (tokens : List Token) (x : Statement) (rest : List Token) →
    statement (parse limit) depth top tokens ≡ Some (x, rest) → IsStatement top tokens x rest
statement_sound laws limit depth top tokens x rest h =
    given (IsStatement top tokens) (statement_ok (parse limit) (expressions_ok laws limit) depth top tokens) h

pub statement_complete : (laws : Laws) (limit depth : ℕ) (top : Bool) (tokens : List Token) (x : Statement) (rest : List Token) →
    depth ≤ suc limit →
    IsStatement top tokens x rest → statement_nesting x ≤ depth → statement (parse limit) depth top tokens ≡ Some (x, rest)
statement_complete laws limit depth top tokens x rest fits d small = statement_is laws limit depth fits top tokens rest x d small

-- the deeper of two trees bounds both
pub one : (laws : Laws) (top : Bool) (tokens : List Token) (x y : Statement) (rest other : List Token) → IsStatement top tokens x rest →
    IsStatement top tokens y other → ◌≡◌ {A = Statement × List Token} (x, rest) (y, other)
one laws top tokens x y rest other d f =
    let depth = max (statement_nesting x) (statement_nesting y) in
    some_inj (sym (statement_complete laws depth depth top tokens x rest (omega arith) d (omega arith))
    ∙ statement_complete laws depth depth top tokens y other (omega arith) f (omega arith))

whole_is : (ts : List Token) (o : Outcome (List Statement)) (tree : FileTree) → Gives (IsStatements true ts) o → whole o ≡ Some tree →
    IsFile ts tree
whole_is ts None tree d h = absurd (cc)
whole_is ts (Some (xs, [])) tree (some d) h = subst (IsFile ts) (some_inj h) (g.file d)
whole_is ts (Some (xs, t ∷ rest)) tree d h = absurd (cc)

pub file_sound : (laws : Laws) (depth : ℕ) (tokens : List Token) (tree : FileTree) → file depth tokens ≡ Some tree → IsFile tokens tree
unfolding file
file_sound laws depth tokens tree h = whole_is tokens (many ends_statements (statement (parse depth) depth true) tokens) tree
    (statements_of_ok true (statement (parse depth) depth true) (statement_ok (parse depth)
    (expressions_ok laws depth) depth true) tokens) h

pub file_complete : (laws : Laws) (depth : ℕ) (tokens : List Token) (tree : FileTree) → IsFile tokens tree → file_nesting tree ≤ suc depth →
    file depth tokens ≡ Some tree
unfolding file
file_complete laws depth tokens _ (g.file d) small =
    ap whole (statements_of_is true (statement (parse depth) depth true) depth (statement_is laws depth depth (omega arith) true) d refl
    (omega arith))

pub one_tree : (laws : Laws) (tokens : List Token) (x y : FileTree) → IsFile tokens x → IsFile tokens y → x ≡ y
one_tree laws tokens x y d f =
    let depth = max (file_nesting x) (file_nesting y) in
    some_inj (sym (file_complete laws depth tokens x d (omega arith)) ∙ file_complete laws depth tokens y f (omega arith))
