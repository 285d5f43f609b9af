-- The compiler theorem: what the bytes of a compiled file do. This project's own.
use Rattle.std.specs.Prelude.{◌≡◌, ℕ, List, Ok}
use Rattle.hph_ast.specs.declared.program.FileTree.{FileTree}
use Rattle.hph_wasm.specs.declared.module.Module.{Module}
use Rattle.hph_wasm.specs.ModuleGrammar.{SpellsModule}
use Rattle.hph_wasm.specs.Spelling.{spelling}
use Rattle.hph_file.specs.Answers.{IsRead}
use Rattle.hph_text.specs.Texts.{file_texts}
use Rattle.hph_size.specs.Nodes.{tree_nodes}
use Rattle.hph_lowm.specs.Layout.{module_of}
use Rattle.hph_lowm.specs.Compiles.{Compiles}

-- The file has a tree without a fault, which prints the texts, and the bytes spell a module that is valid, asks the host for
-- nothing but its functions, and prints and ends as the program does, both ways, for every bound on steps.
pub record CompilesTo (file bytes : List ℕ) : Type 0 where
  pub tree : FileTree
  pub read : IsRead file tree
  pub texts : List (List ℕ)
  pub prints : file_texts tree ≡ Ok texts
  pub m : Module
  pub spelled : SpellsModule bytes m
  pub compiles : Compiles texts (tree_nodes tree) m
  -- its layout, in the shortest spelling
  pub laid_out : m ≡ module_of texts
  pub shortest : bytes ≡ spelling m
