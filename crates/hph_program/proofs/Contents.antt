-- What a program does is told by the contents of its files.
use Rattle.std.proofs.Common.{◌≡◌, ◌∙◌, sym, refl, ℕ, suc, ◌+◌, ◌*◌, ◌^◌, List, [], ◌∷◌, ◌++◌, map}
use Rattle.std.specs.Prelude.{flat_map, filter_map}
use Rattle.hph_ast.specs.declared.program.File.{File}
use Rattle.hph_ast.specs.declared.program.Program.{Program}
use Rattle.hph_wasm.specs.Outcome.{Outcome}
use Rattle.hph_php.specs.Answers.{Means, Stop}
use Rattle.hph_php.specs.Cost.{total_of, statement_nodes, file_nodes, cost}
use Rattle.hph_php.specs.Declarations.{Codes, Declaration, Placed, path_of, file_declarations, declarations_in, numbered_from, all_declarations, class_declaration, static_declaration, body_code, constant_codes, static_codes, initial_code, codes_of}
use Rattle.hph_php.specs.World.{World}
use Rattle.hph_php.specs.Executions.{execute}
use Rattle.hph_php.specs.Files.{entering, run_file}
use Rattle.hph_php.specs.Run.{Meanings, routine_in, meanings_of, run, outcome_of, php, calls}
use Rattle.hph_program.specs.Sources.{Content, content}
use Rattle.hph_program.specs.Laws.{ContentsDecide}
use Rattle.hph_program.proofs.Runs.{calls_by}

-- ---- declarations and code

abbrev declarations_of : ℕ × Content → List (ℕ × Declaration)
declarations_of (k, c) = map (λ d. (k, d)) (flat_map declarations_in c.tree.statements)

abbrev declarations_by : List Content → List (ℕ × Declaration)
declarations_by cs = flat_map declarations_of (numbered_from 0 cs)

declared_from : (k : ℕ) (fs : List File) →
    flat_map (λ f. map (λ d. (f.0, d)) (file_declarations f.1)) (numbered_from k fs) ≡ flat_map declarations_of (numbered_from k (map content fs))
declared_from k [] = refl
declared_from k (f ∷ fs) = λ i. map (λ d. (k, d)) (file_declarations f) ++ declared_from (suc k) fs i

declared : (p : Program) → all_declarations p ≡ declarations_by (map content p.files)
declared p = declared_from 0 p.files

paths : (fs : List File) → map path_of fs ≡ map (λ (c : Content). c.path) (map content fs)
paths [] = refl
paths (f ∷ fs) = λ i. path_of f ∷ paths fs i

abbrev codes_from : List (ℕ × Declaration) → List Placed
codes_from ds =
    filter_map (body_code (filter_map class_declaration ds)) ds
    ++ (flat_map constant_codes (numbered_from 0 (filter_map class_declaration ds))
    ++ (flat_map static_codes (numbered_from 0 (filter_map class_declaration ds))
    ++ map initial_code (numbered_from 0 (filter_map class_declaration ds))))

abbrev codes_by : List Content → Codes
codes_by cs = record {
  paths = map (λ (c : Content). c.path) cs;
  classes = filter_map class_declaration (declarations_by cs);
  codes = codes_from (declarations_by cs);
  statics = filter_map static_declaration (declarations_by cs);
}

codes_are : (p : Program) → codes_of p ≡ codes_by (map content p.files)
codes_are p = λ i. record {
  paths = paths p.files i;
  classes = filter_map class_declaration (declared p i);
  codes = codes_from (declared p i);
  statics = filter_map static_declaration (declared p i);
}

-- ---- meanings

abbrev meaning_of : Codes → ℕ × Content → World → Means (Unit {0})
meaning_of program (k, c) world = entering program k c.tree.statements (λ context. map (execute world context) c.tree.statements)

abbrev meanings_by : List Content → Codes → Meanings
meanings_by cs program = record {
  files = map (meaning_of program) (numbered_from 0 cs);
  routines = map (λ (c : Placed). routine_in program c.site.file c.code) program.codes;
}

files_mean : (program : Codes) (k : ℕ) (fs : List File) →
    map (λ f. λ world. run_file program world f.0 f.1) (numbered_from k fs) ≡ map (meaning_of program) (numbered_from k (map content fs))
files_mean program k [] = refl
files_mean program k (f ∷ fs) = λ i. (λ world. run_file program world k f) ∷ files_mean program (suc k) fs i

meanings_are : (p : Program) (program : Codes) → meanings_of p.files program ≡ meanings_by (map content p.files) program
meanings_are p program = λ i. record {
  files = files_mean program 0 p.files i;
  routines = map (λ (c : Placed). routine_in program c.site.file c.code) program.codes;
}

abbrev php_by : List Content → ℕ → Outcome Stop
php_by cs n = outcome_of (run (meanings_by cs (codes_by cs)) n)

php_is : (p : Program) (n : ℕ) → php p n ≡ php_by (map content p.files) n
php_is p n = (λ i. outcome_of (run (meanings_of p.files (codes_are p i)) n))
    ∙ (λ i. outcome_of (run (meanings_are p (codes_by (map content p.files)) i) n))

calls_are : (p : Program) (n : ℕ) → calls p n
    ≡ calls_by (declarations_by (map content p.files)) (codes_by (map content p.files)) (meanings_by (map content p.files) (codes_by (map content p.files))) n
calls_are p n = (λ i. calls_by (declared p i) (codes_are p i) (meanings_of p.files (codes_are p i)) n)
    ∙ (λ i. calls_by (declarations_by (map content p.files)) (codes_by (map content p.files)) (meanings_are p (codes_by (map content p.files)) i) n)

-- ---- sizes

abbrev nodes_of : Content → ℕ
nodes_of c = suc (total_of statement_nodes c.tree.statements)

nodes_are : (fs : List File) → total_of file_nodes fs ≡ total_of nodes_of (map content fs)
nodes_are [] = refl
nodes_are (f ∷ fs) = λ i. file_nodes f + nodes_are fs i

cost_is : (p : Program) (n : ℕ) → cost p n ≡ 4096 * (n + 1) * (total_of nodes_of (map content p.files) + 1) ^ 2
cost_is p n = λ i. 4096 * (n + 1) * (nodes_are p.files i + 1) ^ 2

pub contents_decide : ContentsDecide
contents_decide p q e n = record {
  php = php_is p n ∙ (λ i. php_by (e i) n) ∙ sym (php_is q n);
  calls = calls_are p n
      ∙ (λ i. calls_by (declarations_by (e i)) (codes_by (e i)) (meanings_by (e i) (codes_by (e i))) n)
      ∙ sym (calls_are q n);
  cost = cost_is p n ∙ (λ i. 4096 * (n + 1) * (total_of nodes_of (e i) + 1) ^ 2) ∙ sym (cost_is q n);
}
