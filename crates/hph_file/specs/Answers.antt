-- What the reader of a file answers. The order of faults is the one of FirstFault, in the library of trees.
use Rattle.std.specs.Prelude.{◌≡◌, ℕ, List, Some, None}
use Rattle.hph_ast.specs.declared.token.Token.{Token}
use Rattle.hph_ast.specs.declared.program.FileTree.{FileTree}
use Rattle.hph_ast.specs.Faults.{FileFault, lex, construct, too_many_brackets, syntax_error, Reads, FirstFault}
use Rattle.hph_ast.specs.RefusedStatements.{tree_construct}
use Rattle.hph_ast.specs.StatementNesting.{SpellsTree}
use Rattle.hph_file.specs.declared.fault.FileFault.{FileFault as Fault}
use Rattle.hph_file.specs.declared.fault.FileFault.TheVariants as fault

-- The bytes spell the tokens and these the tree, and neither has a refused construct or too many open brackets.
pub record IsParsed (bytes : List ℕ) (tokens : List Token) (tree : FileTree) : Type 0 where
  pub reads : Reads bytes tokens
  pub spells : SpellsTree tokens tree
  pub no_construct : tree_construct tree ≡ None

-- the same with tokens that aren't named
pub record IsRead (bytes : List ℕ) (tree : FileTree) : Type 0 where
  pub tokens : List Token
  pub reads : Reads bytes tokens
  pub spells : SpellsTree tokens tree
  pub no_construct : tree_construct tree ≡ None

-- a fault is the first one of the file, unless memory ran out; of wrong syntax any offset is
abbrev pub IsFirst : List ℕ → Fault → Type 0
IsFirst bytes (fault.Lex kind offset) = FirstFault bytes (Some (lex kind offset))
IsFirst bytes (fault.Construct kind offset) = FirstFault bytes (Some (construct kind offset))
IsFirst bytes (fault.TooDeep offset) = FirstFault bytes (Some (too_many_brackets offset))
IsFirst bytes (fault.Syntax offset) = FirstFault bytes (Some (syntax_error offset))
IsFirst bytes fault.NoMemory = Unit {0}

-- two faults are one, but for the offset of wrong syntax
abbrev pub SameFault : FileFault → FileFault → Type 0
SameFault (syntax_error at) (syntax_error other) = Unit {0}
SameFault x y = x ≡ y
