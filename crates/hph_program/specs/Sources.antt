-- What a file of a program is read from, and which files it includes. A path is the bytes of its text; that of an include is
-- normalised, and stands in the folder of its file unless it begins with `/` (PHP manual, include). This project's own.
use Rattle.std.specs.Prelude.{◌≡◌, ℕ, List, [], ◌∷◌, ◌++◌, flat_map, filter_map, Option, None, Some}
use Rattle.std.specs.Option.{option_map_or}
use Rattle.hph_src.specs.Files.{Files, file_at}
use Rattle.hph_ast.specs.declared.token.Token.{Token}
use Rattle.hph_ast.specs.declared.operator.Prefix.TheVariants as prefix
use Rattle.hph_ast.specs.declared.expr.Expr.{out-Expr}
use Rattle.hph_ast.specs.declared.class.Member.TheOpen.{Member-F, Statement-F, Class-F, Function-F, Case-F, ElseIf-F}
use Rattle.hph_ast.specs.declared.class.Member.TheFolds.{fold-Statement}
use Rattle.hph_ast.specs.declared.expr.ClassReference.TheOpen.{Expr-F}
use Rattle.hph_ast.specs.declared.stmt.Statement.{Statement}
use Rattle.hph_ast.specs.declared.program.File.{File}
use Rattle.hph_ast.specs.declared.program.FileTree.{FileTree}
use Rattle.hph_ast.specs.Layers.{ExprLayer}
use Rattle.hph_ast.specs.Faults.{Reads}
use Rattle.hph_ast.specs.StatementNesting.{SpellsTree}
use Rattle.hph_ast.specs.RefusedExpressions.{Shape, a_text, a_directory_path, part}
use Rattle.hph_ast.specs.RefusedStatements.{tree_construct}
use Rattle.hph_php.specs.Declarations.{path_of}
use Rattle.hph_php.specs.Targets.{from_directory, another}
use Rattle.hph_php.specs.Includes.{normalised, folder, from_folder}

-- The file at a path: its bytes spell its tokens, and these its tree, with nothing that is refused. Its sites aren't numbered.
pub record IsSource (files : Files) (path : List ℕ) (f : File) : Type 0 where
  pub is_at : path_of f ≡ path
  pub holds : file_at files path ≡ Some f.bytes
  pub reads : Reads f.bytes f.tokens
  pub spells : SpellsTree f.tokens f.tree
  pub no_construct : tree_construct f.tree ≡ None

-- What a file says. Its path is the bytes of the path's text.
pub record Content : Type 0 where
  pub path : List ℕ
  pub bytes : List ℕ
  pub tokens : List Token
  pub tree : FileTree

abbrev pub content : File → Content
content f = record { path = path_of f; bytes = f.bytes; tokens = f.tokens; tree = f.tree }

-- ---- includes

-- the path that an include names, by its literal: a text, or one behind `__DIR__`; others are refused
abbrev pub path_named : (folder : List ℕ) → Shape → Option (List ℕ)
path_named folder (a_text bytes) = Some (normalised (from_folder another folder bytes))
path_named folder (a_directory_path bytes) = Some (normalised (from_folder from_directory folder (folder ++ bytes)))
path_named folder _ = None

-- the literal of a statement that is an include
abbrev pub include_at : ExprLayer → List Shape
include_at (Expr-F.Prefix at (prefix.Include form) x) = (part x).shape ∷ []
include_at _ = []

-- each is given the includes of its parts; functions and classes have none, as those are refused there
abbrev pub statement_includes : Statement-F (Unit {0}) (List Shape) (Unit {0}) (Unit {0}) (List Shape) (List Shape) → List Shape
statement_includes (Statement-F.Block at body) = flat_map (λ s. s) body
statement_includes (Statement-F.Expression at x) = include_at (out-Expr x)
statement_includes (Statement-F.If at x body more other) = body ++ (flat_map (λ b. b) more ++ option_map_or (λ s. s) other [])
statement_includes (Statement-F.While at x body) = body
statement_includes (Statement-F.DoWhile at body x) = body
statement_includes (Statement-F.For at init test step body) = body
statement_includes (Statement-F.Foreach at x key value body) = body
statement_includes (Statement-F.Switch at x cases) = flat_map (λ c. c) cases
statement_includes _ = []

abbrev pub member_includes : Member-F (Unit {0}) (List Shape) (Unit {0}) (Unit {0}) (List Shape) (List Shape) → Unit {0}
member_includes m = tt

abbrev pub class_includes : Class-F (Unit {0}) (List Shape) (Unit {0}) (Unit {0}) (List Shape) (List Shape) → Unit {0}
class_includes c = tt

abbrev pub function_includes : Function-F (Unit {0}) (List Shape) (Unit {0}) (Unit {0}) (List Shape) (List Shape) → Unit {0}
function_includes f = tt

abbrev pub case_includes : Case-F (Unit {0}) (List Shape) (Unit {0}) (Unit {0}) (List Shape) (List Shape) → List Shape
case_includes c = flat_map (λ s. s) c.body

abbrev pub else_if_includes : ElseIf-F (Unit {0}) (List Shape) (Unit {0}) (Unit {0}) (List Shape) (List Shape) → List Shape
else_if_includes b = b.body

-- the literals of the includes in a statement, in order of text
unfoldable pub includes_in : Statement → List Shape
includes_in = fold-Statement (Unit {0}) (List Shape) (Unit {0}) (Unit {0}) (List Shape) (List Shape)
    member_includes statement_includes class_includes function_includes case_includes else_if_includes

-- the paths of the files that a file includes, in order of text
abbrev pub included_from : (path : List ℕ) → FileTree → List (List ℕ)
included_from path tree = filter_map (path_named (folder path)) (flat_map includes_in tree.statements)

abbrev pub included : File → List (List ℕ)
included f = included_from (path_of f) f.tree
