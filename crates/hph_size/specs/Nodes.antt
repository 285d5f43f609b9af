-- How many nodes the tree of a file has.
use Rattle.std.specs.Prelude.{◌≡◌, ℕ, suc, refl}
use Rattle.hph_ast.specs.declared.program.File.{File}
use Rattle.hph_ast.specs.declared.program.FileTree.{FileTree}
use Rattle.hph_php.specs.Cost.{total_of, statement_nodes, file_nodes}

-- the tree itself is a node too
abbrev pub tree_nodes : FileTree → ℕ
tree_nodes tree = suc (total_of statement_nodes tree.statements)

-- they are those of its file
pub file_nodes-tree : (f : File) → file_nodes f ≡ tree_nodes f.tree
file_nodes-tree f = refl
