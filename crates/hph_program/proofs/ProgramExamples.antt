-- The program of a source tree that has one empty file, and the sites of a small tree.
use Rattle.std.proofs.Common.{◌≡◌, ◌∙◌, ◌≤◌, ◌<◌, ℕ, zero, suc, [], ◌∷◌, length, refl, codes, Some, String, Global, arith}
use Rattle.std.specs.List.{slice_index_or}
use Rattle.std.specs.String.{string_bytes}
use Rattle.std.specs.FinMap as fin_map
use Rattle.std.specs.FinMap.{get-from_entries}
use Rattle.std.specs.Cmp.Lexicographic.{nat_list_cmp_total}
use Rattle.hph_src.specs.Files.{Files, file_at}
use Rattle.hph_ast.specs.declared.token.At.{At}
use Rattle.hph_ast.specs.declared.operator.Binary.TheVariants as b
use Rattle.hph_ast.specs.declared.expr.Expr.{Expr, roll-Expr}
use Rattle.hph_ast.specs.declared.expr.ClassReference.TheOpen.{Expr-F}
use Rattle.hph_ast.specs.declared.stmt.Statement.{roll-Statement}
use Rattle.hph_ast.specs.declared.class.Member.TheOpen.{Statement-F}
use Rattle.hph_ast.specs.declared.program.File.{File}
use Rattle.hph_ast.specs.declared.program.FileTree.{FileTree}
use Rattle.hph_ast.specs.declared.program.Program.{Program}
use Rattle.hph_ast.specs.Tokens as tokens
use Rattle.hph_ast.specs.Statements.{statements_end}
use Rattle.hph_ast.specs.Statements as statements
use Rattle.hph_program.specs.Sites.{numbered_trees, numbered_files}
use Rattle.hph_program.specs.Sources.{IsSource}
use Rattle.hph_program.specs.Program.{last, wave, IsProgramOf}
use Rattle.hph_program.proofs.SiteLevels.{statement_rolled, expression_rolled}
use Rattle.hph_program.proofs.Trees.{from_to, int, run_of_two, echo, file}

-- ---- sites: those of `<?php echo 1+2;` are the file, the statement, the sum and its numbers

abbrev pub at_site : ℕ → ℕ → ℕ → At
at_site start end n = record { start = start; end = end; site = n }

abbrev sum_tree : FileTree
sum_tree = record { at = from_to 6 15; statements = echo 6 15 (run_of_two 11 14 b.Add (int 11 12 1) (int 13 14 2) ∷ []) ∷ [] }

abbrev numbered_int : ℕ → ℕ → ℕ → ℕ → Expr
numbered_int start end site n = roll-Expr (Expr-F.Int (at_site start end site) n)

abbrev numbered_sum : FileTree
numbered_sum = record {
  at = at_site 6 15 0;
  statements = roll-Statement (Statement-F.Echo (at_site 6 15 1)
      (roll-Expr (Expr-F.Run (at_site 11 14 2) (numbered_int 11 12 3 1) ((b.Add, numbered_int 13 14 4 2) ∷ [])) ∷ [])) ∷ [];
}

sites_of_a_sum : numbered_trees (sum_tree ∷ []) ≡ numbered_sum ∷ []
sites_of_a_sum = simp (statement_rolled, expression_rolled)

-- ---- an empty file

abbrev files : Files
files = fin_map.from_entries ((codes "m.php", []) ∷ [])

module _ (path : String Global) (path_is : string_bytes path ≡ codes "m.php") where
  abbrev empty : File
  empty = file path 0 0 []

  empty_is_there : file_at files (codes "m.php") ≡ Some []
  empty_is_there = get-from_entries nat_list_cmp_total ((codes "m.php", []) ∷ []) (codes "m.php") ∙ refl

  empty_is_a_source : IsSource files (codes "m.php") empty
  empty_is_a_source = record {
    is_at = path_is;
    holds = empty_is_there;
    reads = record { spells = tokens.end refl; no_construct = refl; not_deep = refl };
    spells = record { is = statements.file statements_end; nests = omega arith };
    no_construct = refl;
  }

  empty_is_short : (k : ℕ) (d : File) → k < 1 → length (slice_index_or (empty ∷ []) k d).bytes ≤ 1048576
  empty_is_short zero d h = omega arith
  empty_is_short (suc k) d h = absurd (omega arith)

  abbrev program : Program
  program = record { files = numbered_files (empty ∷ []) }

  empty_has_a_program : IsProgramOf files (codes "m.php") program
  empty_has_a_program = record {
    sources = empty ∷ [];
    waves = wave (empty ∷ []) (empty_is_a_source, tt) last;
    limits = record { few = omega arith; short = empty_is_short; short_together = omega arith };
    numbered = refl;
  }
