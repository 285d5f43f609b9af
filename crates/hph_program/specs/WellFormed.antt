-- When a program is well-formed: what the passes behind the front end may take for granted of it, and nothing else. The trees come
-- from some tokens, which needn't be those of the files, so that a program may be changed and stay well-formed. This project's own.
use Rattle.std.specs.Prelude.{◌≡◌, ◌≤◌, ◌<◌, ◌^◌, ℕ, true, List, length, map, flat_map, sum_by, All, None, bytes_eq}
use Rattle.std.specs.List.{AllZip, IsDistinct, list_any}
use Rattle.hph_ast.specs.declared.token.Token.{Token}
use Rattle.hph_ast.specs.declared.token.Kind.{Kind}
use Rattle.hph_ast.specs.declared.token.Kind.TheVariants as k
use Rattle.hph_ast.specs.declared.program.File.{File}
use Rattle.hph_ast.specs.declared.program.FileTree.{FileTree}
use Rattle.hph_ast.specs.declared.program.Program.{Program}
use Rattle.hph_ast.specs.StatementNesting.{SpellsTree}
use Rattle.hph_ast.specs.RefusedStatements.{tree_construct}
use Rattle.hph_php.specs.State.{is_site}
use Rattle.hph_php.specs.Declarations.{Placed, path_of, codes_of}
use Rattle.hph_program.specs.Sites.{numbered_trees}
use Rattle.hph_program.specs.Sources.{included}
use Rattle.hph_program.specs.Program.{files_limit}
use Rattle.hph_program.specs.Names.{AgreesOnNames}

-- ---- limits of tokens

-- the bytes that a token holds beside its place
abbrev pub held_bytes : Kind → ℕ
held_bytes (k.InlineText bytes) = length bytes
held_bytes (k.Text bytes) = length bytes
held_bytes (k.TextHead bytes) = length bytes
held_bytes (k.TextMiddle bytes) = length bytes
held_bytes (k.TextTail bytes) = length bytes
held_bytes (k.Variable name) = length name
held_bytes (k.Name name) = length name
held_bytes _ = 0

abbrev pub tokens_limit : ℕ
tokens_limit = 4194304

abbrev pub token_bytes_limit : ℕ
token_bytes_limit = 134217728

-- the numbers of a program are ints of 64 bits
abbrev pub IsIntOfPrograms : Kind → Type 0
IsIntOfPrograms (k.Int value) = value < 2 ^ 63
IsIntOfPrograms _ = Unit {0}

-- ---- trees

-- tokens spell a tree that has no refused construct
pub record IsSpelled (tokens : List Token) (tree : FileTree) : Type 0 where
  pub spells : SpellsTree tokens tree
  pub no_construct : tree_construct tree ≡ None

-- ---- includes

-- each path that a file includes is that of one of these files
abbrev pub IncludeEachOther : List File → Type 0
IncludeEachOther fs = (path : List ℕ) → list_any (bytes_eq path) (flat_map included fs) ≡ true → list_any (bytes_eq path) (map path_of fs) ≡ true

-- ---- places

-- Code and static variables are found by their places: no two pieces of code have one place, and no two static variables.
pub record HasPlacesApart (p : Program) : Type 0 where
  pub codes : IsDistinct is_site (map (λ (c : Placed). c.site) (codes_of p).codes)
  pub statics : IsDistinct is_site (codes_of p).statics

-- ---- programs

pub record IsWellFormed (p : Program) : Type 0 where
  pub main : 1 ≤ length p.files
  pub few : length p.files ≤ files_limit
  -- the tokens of each file, and the tree that they spell, whose sites have no numbers
  pub tokens : List (List Token)
  pub trees : List FileTree
  pub spelled : AllZip IsSpelled tokens trees
  pub few_tokens : sum_by (λ (ts : List Token). length ts) tokens ≤ tokens_limit
  pub few_bytes : sum_by (λ ts. sum_by (λ (t : Token). held_bytes t.kind) ts) tokens ≤ token_bytes_limit
  pub small : All (λ ts. All (λ (t : Token). IsIntOfPrograms t.kind) ts) tokens
  pub numbered : map (λ (f : File). f.tree) p.files ≡ numbered_trees trees
  pub includes : IncludeEachOther p.files
  pub places : HasPlacesApart p
  pub names : AgreesOnNames p
