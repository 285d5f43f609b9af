-- A source tree with the file `<?php echo 3;`: its program, and what that prints.
use Rattle.std.proofs.Common.{◌≡◌, ◌∙◌, ◌≤◌, ◌<◌, ◌++◌, ℕ, zero, suc, max, List, [], ◌∷◌, length, refl, sym, subst, codes, None, String, Global, arith}
use Rattle.std.specs.List.{slice_index_or}
use Rattle.std.specs.String.{string_bytes}
use Rattle.std.specs.Fmt.{digits}
use Rattle.std.specs.FinMap as fin_map
use Rattle.std.specs.FinMap.{get-from_entries}
use Rattle.std.specs.Cmp.Lexicographic.{nat_list_cmp_total}
use denote.Hole.Carrier.{out, roll, shown, hidden}
use Rattle.hph_ast.specs.declared.class.Member.TheBlock.{shown-the_row-Function-1, shown-the_row-Class-3}
use Rattle.hph_src.specs.Files.{Files}
use Rattle.hph_ast.specs.declared.token.Token.{Token}
use Rattle.hph_ast.specs.declared.token.Kind.TheVariants as k
use Rattle.hph_ast.specs.declared.keyword.Keyword.TheVariants as w
use Rattle.hph_ast.specs.declared.expr.Expr.{Expr, roll-Expr}
use Rattle.hph_ast.specs.declared.expr.Expr.TheVariants as e
use Rattle.hph_ast.specs.declared.expr.ClassReference.TheOpen.{Expr-F}
use Rattle.hph_ast.specs.declared.expr.ClassReference.TheFolds.{fold-roll-Expr}
use Rattle.hph_ast.specs.declared.stmt.Statement.{Statement, out-Statement, roll-Statement}
use Rattle.hph_ast.specs.declared.stmt.Statement.TheVariants as s
use Rattle.hph_ast.specs.declared.class.Member.TheOpen.{Statement-F}
use Rattle.hph_ast.specs.declared.class.Member.TheFolds.{fold-roll-Statement}
use Rattle.hph_ast.specs.declared.program.File.{File}
use Rattle.hph_ast.specs.declared.program.FileTree.{FileTree}
use Rattle.hph_ast.specs.declared.program.Program.{Program}
use Rattle.hph_ast.specs.Lexical.{token}
use Rattle.hph_ast.specs.Statements.{IsFile, file_place}
use Rattle.hph_ast.specs.Statements as g
use Rattle.hph_ast.specs.Nesting.{nesting}
use Rattle.hph_ast.specs.StatementNesting.{SpellsTree, statement_nesting}
use Rattle.hph_ast.specs.RefusedExpressions.{Context as Place, Refused, Part, part, refused_in, class_refused, part_of, item_refused, member_refused, step_refused, piece_refused}
use Rattle.hph_ast.specs.RefusedStatements.{MemberPart, FunctionPart, statement_refused, member_part, statement_part, class_part, function_part, case_part, else_if_part, top_level, first_found, tree_construct}
use Rattle.hph_ast.proofs.TokenExamples.{echo_of_an_int, semicolon_at}
use Rattle.hph_ast.proofs.ExpressionExamples.{int}
use Rattle.hph_wasm.specs.Outcome.{Done}
use Rattle.hph_php.specs.Answers.{Means}
use Rattle.hph_php.specs.Declarations.{Codes, codes_of, declarations_in}
use Rattle.hph_php.specs.World.{World, Context}
use Rattle.hph_php.specs.Statements.{Way}
use Rattle.hph_php.specs.Files.{entering}
use Rattle.hph_php.specs.Run.{Meanings, meanings_of, php}
use Rattle.hph_php.proofs.Levels as meaning
use Rattle.hph_program.specs.Sites.{numbered_files}
use Rattle.hph_program.specs.Sources.{IsSource, includes_in}
use Rattle.hph_program.specs.Program.{Waves, last, wave, IsProgramOf, next_wave}
use Rattle.hph_program.proofs.Trees.{trees, from_to}
use Rattle.hph_program.proofs.Trees as tree
use Rattle.hph_program.proofs.Runs.{AllDone, php_is, and_done, none_done}
use Rattle.hph_program.proofs.Runs as means
use Rattle.hph_program.proofs.SiteLevels.{statement_rolled, expression_rolled}
use Rattle.hph_program.proofs.ProgramExamples.{at_site}

-- ---- the file and its tree

abbrev source : List ℕ
source = codes "<?php echo 3;"

abbrev tokens : List Token
tokens = token 6 4 (k.Keyword w.Echo) ∷ token 11 1 (k.Int 3) ∷ semicolon_at 12

abbrev echo_three : Statement
echo_three = tree.echo 6 13 (tree.int 11 12 3 ∷ [])

abbrev three_tree : FileTree
three_tree = record { at = file_place (echo_three ∷ []); statements = echo_three ∷ [] }

echo_is_rolled : s.Echo (from_to 6 13) (e.Int (from_to 11 12) 3 ∷ []) ≡ echo_three
echo_is_rolled = (λ i. s.Echo (from_to 6 13) (sym (e.rolls-Int (from_to 11 12) 3) i ∷ [])) ∙ sym (s.rolls-Echo (from_to 6 13) (tree.int 11 12 3 ∷ []))

abbrev tree_of : Statement → FileTree
tree_of x = record { at = file_place (x ∷ []); statements = x ∷ [] }

tokens_are_a_file : IsFile tokens three_tree
tokens_are_a_file = subst (λ x. IsFile tokens (tree_of x)) echo_is_rolled
    (g.file (g.statements_more (g.echo refl (g.exprs_last (int refl) refl)) g.statements_end))

echo_nests : statement_nesting echo_three ≡ 2
unfolding statement_nesting nesting
echo_nests = simp trees

tokens_spell : SpellsTree tokens three_tree
tokens_spell = record { is = tokens_are_a_file; nests = subst (λ n. suc (max n 0) ≤ 512) (sym echo_nests) (omega arith) }

-- ---- nothing in it is refused, and it includes nothing

int_refuses : (c : Place) → refused_in (tree.int 11 12 3) c ≡ []
unfolding part
int_refuses c = λ i. (fold-roll-Expr Refused Part Refused Refused Refused Refused
    class_refused part_of item_refused member_refused step_refused piece_refused (Expr-F.Int (from_to 11 12) 3) i).refused c

echo_refuses : (c : Place) → statement_refused echo_three c ≡ refused_in (tree.int 11 12 3) c ++ []
unfolding statement_refused
echo_refuses c = λ i. fold-roll-Statement MemberPart Refused Refused FunctionPart Refused Refused
    member_part statement_part class_part function_part case_part else_if_part (Statement-F.Echo (from_to 6 13) (tree.int 11 12 3 ∷ [])) i c

nothing_is_refused : tree_construct three_tree ≡ None
nothing_is_refused = (λ i. first_found (echo_refuses top_level i ++ [])) ∙ (λ i. first_found ((int_refuses top_level i ++ []) ++ []))

nothing_is_included : includes_in echo_three ≡ []
unfolding includes_in
nothing_is_included = simp trees

-- ---- the program

abbrev files : Files
files = fin_map.from_entries ((codes "m.php", source) ∷ [])

module _ (path : String Global) (path_is : string_bytes path ≡ codes "m.php") where
  abbrev three : File
  three = record { path = path; bytes = source; tokens = tokens; tree = three_tree }

  three_is_a_source : IsSource files (codes "m.php") three
  three_is_a_source = record {
    is_at = path_is;
    holds = get-from_entries nat_list_cmp_total ((codes "m.php", source) ∷ []) (codes "m.php") ∙ refl;
    reads = record { spells = echo_of_an_int; no_construct = refl; not_deep = refl };
    spells = tokens_spell;
    no_construct = nothing_is_refused;
  }

  three_is_short : (j : ℕ) (d : File) → j < 1 → length (slice_index_or (three ∷ []) j d).bytes ≤ 1048576
  three_is_short zero d h = omega arith
  three_is_short (suc j) d h = absurd (omega arith)

  no_second_wave : next_wave (three ∷ []) (three ∷ []) ≡ []
  unfolding includes_in
  no_second_wave = simp trees

  abbrev program : Program
  program = record { files = numbered_files (three ∷ []) }

  three_has_a_program : IsProgramOf files (codes "m.php") program
  three_has_a_program = record {
    sources = three ∷ [];
    waves = wave (three ∷ []) (three_is_a_source, tt) (subst (λ ps. Waves files (three ∷ []) ps (three ∷ [])) (sym no_second_wave) last);
    limits = record { few = omega arith; short = three_is_short; short_together = omega arith };
    numbered = refl;
  }

  -- ---- what it prints: the file is site 0

  abbrev numbered_int : Expr
  numbered_int = roll-Expr (Expr-F.Int (at_site 11 12 2) 3)

  abbrev numbered_statements : List Statement
  numbered_statements = roll-Statement (Statement-F.Echo (at_site 6 13 1) (numbered_int ∷ [])) ∷ []

  abbrev numbered_three : File
  numbered_three = record {
    path = path;
    bytes = source;
    tokens = tokens;
    tree = record { at = record { start = (file_place (echo_three ∷ [])).start; end = (file_place (echo_three ∷ [])).end; site = 0 }; statements = numbered_statements };
  }

  sites_of_three : numbered_files (three ∷ []) ≡ numbered_three ∷ []
  sites_of_three = simp (statement_rolled, expression_rolled)

  abbrev numbered_program : Program
  numbered_program = record { files = numbered_three ∷ [] }

  abbrev prints_three : World → Context → List (Means Way)
  prints_three w c = means.echoes w c (means.int w c 3 ∷ []) ∷ []

  three_is : (w : World) (c : Context) → AllDone w c numbered_statements (prints_three w c)
  three_is w c = and_done w c (record {
    is = meaning.statement_rolled w c (Statement-F.Echo (at_site 6 13 1) (numbered_int ∷ []))
        ∙ (λ i. means.echoes w c (meaning.reading_rolled w c (Expr-F.Int (at_site 11 12 2) 3) i ∷ []));
  }) (none_done w c)

  abbrev three_code : Codes
  three_code = record { paths = string_bytes path ∷ []; classes = []; codes = []; statics = [] }

  three_codes : codes_of numbered_program ≡ three_code
  unfolding declarations_in
  three_codes = simp trees

  abbrev one_file : (World → Context → List (Means Way)) → Meanings
  one_file m = record { files = (λ w. entering three_code 0 numbered_statements (λ c. m w c)) ∷ []; routines = [] }

  three_meanings : meanings_of numbered_program.files three_code ≡ one_file prints_three
  three_meanings = λ i. one_file (λ w c. (three_is w c).is i)

  -- from the bytes of the file to what they print
  three_prints : php program 1 ≡ record { output = codes "3"; end = Done }
  unfolding out-Statement roll-Statement shown-the_row-Function-1 shown-the_row-Class-3 shown hidden out roll digits
  three_prints = (λ i. php (record { files = sites_of_three i }) 1) ∙ php_is numbered_program three_codes three_meanings 1 ∙ refl
