-- How deep statements, functions, classes and files are nested, and which trees a file may have. This project's own.
use Rattle.std.specs.Prelude.{◌≤◌, ℕ, suc, max, List, Option, Some, None}
use Rattle.hph_ast.specs.declared.token.Token.{Token}
use Rattle.hph_ast.specs.declared.function.DeclaredType.{DeclaredType}
use Rattle.hph_ast.specs.declared.function.Param.{Param}
use Rattle.hph_ast.specs.declared.function.Function.{Function}
use Rattle.hph_ast.specs.declared.class.Class.{Class}
use Rattle.hph_ast.specs.declared.class.Member.{Member}
use Rattle.hph_ast.specs.declared.class.Member.TheOpen.{Member-F, Statement-F, Class-F, Function-F, Case-F, ElseIf-F}
use Rattle.hph_ast.specs.declared.class.Member.TheFolds.{fold-Statement, fold-Member, fold-Class, fold-Function, fold-Case, fold-ElseIf}
use Rattle.hph_ast.specs.declared.stmt.Statement.{Statement}
use Rattle.hph_ast.specs.declared.stmt.Case.{Case}
use Rattle.hph_ast.specs.declared.stmt.ElseIf.{ElseIf}
use Rattle.hph_ast.specs.declared.stmt.ForeachTarget.{ForeachTarget}
use Rattle.hph_ast.specs.declared.stmt.ForeachTarget.TheVariants as target
use Rattle.hph_ast.specs.declared.program.FileTree.{FileTree}
use Rattle.hph_ast.specs.Nesting.{nesting, item_nesting, greatest, greatest_of}
use Rattle.hph_ast.specs.Statements.{IsFile}

-- 0 where there is nothing
abbrev pub maybe : {A : Type 0} → (A → ℕ) → Option A → ℕ
maybe f None = 0
maybe f (Some x) = f x

-- a type is a leaf
abbrev pub type_nesting : DeclaredType → ℕ
type_nesting ty = 1

abbrev pub param_nesting : Param → ℕ
param_nesting p = suc (max (maybe type_nesting p.ty) (maybe nesting p.default))

abbrev pub target_nesting : ForeachTarget → ℕ
target_nesting (target.Reference x ampersand) = nesting x
target_nesting (target.Destructure bracket items) = greatest item_nesting items
target_nesting _ = 0

-- each is given the nesting of its parts
abbrev pub function_nesting_by : Function-F ℕ ℕ ℕ ℕ ℕ ℕ → ℕ
function_nesting_by f = suc (max (greatest param_nesting f.params) (max (maybe type_nesting f.result) (greatest_of f.body)))

abbrev pub class_nesting_by : Class-F ℕ ℕ ℕ ℕ ℕ ℕ → ℕ
class_nesting_by c = suc (greatest_of c.members)

abbrev pub member_nesting_by : Member-F ℕ ℕ ℕ ℕ ℕ ℕ → ℕ
member_nesting_by (Member-F.Constants at mods items) = suc (greatest (λ i. nesting i.value) items)
member_nesting_by (Member-F.Properties at mods ty items) = suc (max (maybe type_nesting ty) (greatest (λ i. maybe nesting i.value) items))
member_nesting_by (Member-F.Method at mods f) = suc f

abbrev pub case_nesting_by : Case-F ℕ ℕ ℕ ℕ ℕ ℕ → ℕ
case_nesting_by c = suc (max (maybe nesting c.test) (greatest_of c.body))

-- the branches of an `if` are a list
abbrev pub else_if_nesting_by : ElseIf-F ℕ ℕ ℕ ℕ ℕ ℕ → ℕ
else_if_nesting_by b = max (nesting b.test) b.body

-- a declaration of a function or of a class is the node of what it declares
abbrev pub statement_nesting_by : Statement-F ℕ ℕ ℕ ℕ ℕ ℕ → ℕ
statement_nesting_by (Statement-F.Empty at) = 1
statement_nesting_by (Statement-F.InlineText at bytes) = 1
statement_nesting_by (Statement-F.Block at body) = suc (greatest_of body)
statement_nesting_by (Statement-F.Expression at x) = suc (nesting x)
statement_nesting_by (Statement-F.Function f) = f
statement_nesting_by (Statement-F.Class c) = c
statement_nesting_by (Statement-F.If at x body more other) = suc (max (nesting x) (max body (max (greatest_of more) (maybe (λ n. n) other))))
statement_nesting_by (Statement-F.While at x body) = suc (max (nesting x) body)
statement_nesting_by (Statement-F.DoWhile at body x) = suc (max body (nesting x))
statement_nesting_by (Statement-F.For at init test step body) = suc (max (greatest nesting init) (max (greatest nesting test) (max (greatest nesting step) body)))
statement_nesting_by (Statement-F.Foreach at x key value body) = suc (max (nesting x) (max (target_nesting value) body))
statement_nesting_by (Statement-F.Switch at x cases) = suc (max (nesting x) (greatest_of cases))
statement_nesting_by (Statement-F.Break at levels) = 1
statement_nesting_by (Statement-F.Continue at levels) = 1
statement_nesting_by (Statement-F.Return at value) = suc (maybe nesting value)
statement_nesting_by (Statement-F.Echo at values) = suc (greatest nesting values)
statement_nesting_by (Statement-F.Global at names) = 1
statement_nesting_by (Statement-F.Static at variables) = suc (greatest (λ v. maybe nesting v.value) variables)
statement_nesting_by (Statement-F.Unset at paths) = suc (greatest nesting paths)
statement_nesting_by (Statement-F.Const at items) = suc (greatest (λ i. nesting i.value) items)

unfoldable pub statement_nesting : Statement → ℕ
statement_nesting = fold-Statement ℕ ℕ ℕ ℕ ℕ ℕ member_nesting_by statement_nesting_by class_nesting_by function_nesting_by case_nesting_by else_if_nesting_by

unfoldable pub member_nesting : Member → ℕ
member_nesting = fold-Member ℕ ℕ ℕ ℕ ℕ ℕ member_nesting_by statement_nesting_by class_nesting_by function_nesting_by case_nesting_by else_if_nesting_by

unfoldable pub class_nesting : Class → ℕ
class_nesting = fold-Class ℕ ℕ ℕ ℕ ℕ ℕ member_nesting_by statement_nesting_by class_nesting_by function_nesting_by case_nesting_by else_if_nesting_by

unfoldable pub function_nesting : Function → ℕ
function_nesting = fold-Function ℕ ℕ ℕ ℕ ℕ ℕ member_nesting_by statement_nesting_by class_nesting_by function_nesting_by case_nesting_by else_if_nesting_by

unfoldable pub case_nesting : Case → ℕ
case_nesting = fold-Case ℕ ℕ ℕ ℕ ℕ ℕ member_nesting_by statement_nesting_by class_nesting_by function_nesting_by case_nesting_by else_if_nesting_by

unfoldable pub else_if_nesting : ElseIf → ℕ
else_if_nesting = fold-ElseIf ℕ ℕ ℕ ℕ ℕ ℕ member_nesting_by statement_nesting_by class_nesting_by function_nesting_by case_nesting_by else_if_nesting_by

-- the tree of a file is a node too
abbrev pub file_nesting : FileTree → ℕ
file_nesting tree = suc (greatest statement_nesting tree.statements)

abbrev pub nesting_limit : ℕ
nesting_limit = 512

-- the tokens of a file spell this tree
pub record SpellsTree (tokens : List Token) (tree : FileTree) : Type 0 where
  pub is : IsFile tokens tree
  pub nests : file_nesting tree ≤ nesting_limit
