-- `echo f(); function f(){return 1;} function g(){return "b";}` is a well-formed program, and may be lowered by computation.
use Rattle.std.specs.Prelude.{◌≡◌, ◌++◌, ℕ, true, false, ◌&&◌, List, [], ◌∷◌, All, Contains, None, Some, String, codes, slice_get, map, flat_map, bytes_eq}
use Rattle.std.proofs.Common.{arith, refl, ap, sym, ◌∙◌, subst}
use Rattle.std.proofs.lemmas.List.Elements.{All-contains, All-from_recursion}
use Rattle.std.specs.declared.alloc.Global.{Global}
use Rattle.std.specs.List.{IsDistinct, list_any}
use Rattle.std.specs.String.{string_bytes}
use denote.Hole.Carrier.{out, roll, shown, hidden}
use Rattle.hph_ast.specs.declared.class.Member.TheBlock.{shown-the_row-Function-1, shown-the_row-Class-3}
use Rattle.hph_ast.specs.declared.token.Token.{Token}
use Rattle.hph_ast.specs.declared.token.Kind.TheVariants as k
use Rattle.hph_ast.specs.declared.token.Mark.TheVariants as m
use Rattle.hph_ast.specs.declared.keyword.Keyword.TheVariants as w
use Rattle.hph_ast.specs.declared.expr.Expr.{roll-Expr, out-Expr}
use Rattle.hph_ast.specs.declared.expr.Expr.TheVariants as e
use Rattle.hph_ast.specs.declared.expr.ClassReference.TheOpen.{Expr-F}
use Rattle.hph_ast.specs.declared.function.Function.{Function, roll-Function}
use Rattle.hph_ast.specs.declared.function.Param.{Param}
use Rattle.hph_ast.specs.declared.class.Member.TheOpen.{Statement-F}
use Rattle.hph_ast.specs.declared.stmt.Statement.{Statement, roll-Statement, out-Statement}
use Rattle.hph_ast.specs.declared.stmt.Statement.TheVariants as s
use Rattle.hph_ast.specs.declared.program.FileTree.{FileTree}
use Rattle.hph_ast.specs.declared.program.Program.{Program}
use Rattle.hph_ast.specs.Lexical.{token}
use Rattle.hph_ast.specs.Expressions as x
use Rattle.hph_ast.specs.Declarations as d
use Rattle.hph_ast.specs.Statements.{IsFile, IsStatement, IsFunction, IsStatements, file_place}
use Rattle.hph_ast.specs.Statements as g
use Rattle.hph_ast.specs.Nesting.{nesting}
use Rattle.hph_ast.specs.StatementNesting.{SpellsTree, statement_nesting, file_nesting}
use Rattle.hph_ast.specs.RefusedStatements.{file_refused, first_found, tree_construct}
use Rattle.hph_ast.proofs.ExpressionExamples.{int}
use Rattle.hph_php.specs.Cost.{nodes, statement_nodes, program_nodes}
use Rattle.hph_php.specs.State.{is_site}
use Rattle.hph_php.specs.Declarations.{Codes, Placed, Declaration, declarations_in, codes_of, all_declarations, class_declarations, PlacedClass, placed_at, a_body, a_function}
use Rattle.hph_program.specs.Names.{AgreesOnNames, AgreeOnReferences, KeepsPrivates, params_of, wrong_arguments, wrong_arguments_of, expressions_in}
use Rattle.hph_program.specs.Sites.{numbered_trees}
use Rattle.hph_program.specs.Sources.{includes_in, included}
use Rattle.hph_program.specs.WellFormed.{HasPlacesApart, IsWellFormed, IncludeEachOther, IsIntOfPrograms}
use Rattle.hph_program.proofs.Trees.{trees, from_to, name_at}
use Rattle.hph_program.proofs.Trees as tree
use Rattle.hph_program.proofs.ProgramExamples.{at_site}
use Rattle.hph_program.proofs.SiteLevels as sites
use Rattle.hph_lowerable.specs.Facts.{tree_fits}
use Rattle.hph_lowerable.specs.Lowerable.{IsLowerable, includes_fit}
use Rattle.hph_lowerable.proofs.StatementLevels.{statement_fits_rolled, function_fits_rolled}
use Rattle.hph_lowerable.proofs.RefusedLevels.{fits_rolled, part_rolled, statement_rolled, function_rolled}

-- ---- its tokens and the trees that they spell

abbrev tokens : List Token
tokens =
    token 6 4 (k.Keyword w.Echo) ∷ token 11 1 (k.Name (codes "f")) ∷ token 12 1 (k.Mark m.OpenParen) ∷ token 13 1 (k.Mark m.CloseParen)
    ∷ token 14 1 (k.Mark m.Semicolon) ∷ token 16 8 (k.Keyword w.Function) ∷ token 25 1 (k.Name (codes "f")) ∷ token 26 1 (k.Mark m.OpenParen)
    ∷ token 27 1 (k.Mark m.CloseParen) ∷ token 28 1 (k.Mark m.OpenBrace) ∷ token 29 6 (k.Keyword w.Return) ∷ token 36 1 (k.Int 1)
    ∷ token 37 1 (k.Mark m.Semicolon) ∷ token 38 1 (k.Mark m.CloseBrace) ∷ token 40 8 (k.Keyword w.Function) ∷ token 49 1 (k.Name (codes "g"))
    ∷ token 50 1 (k.Mark m.OpenParen) ∷ token 51 1 (k.Mark m.CloseParen) ∷ token 52 1 (k.Mark m.OpenBrace) ∷ token 53 6 (k.Keyword w.Return)
    ∷ token 60 3 (k.Text (codes "b")) ∷ token 63 1 (k.Mark m.Semicolon) ∷ token 64 1 (k.Mark m.CloseBrace) ∷ []

abbrev echo_f : Statement
echo_f = tree.echo 6 15 (tree.call 11 14 (codes "f") [] ∷ [])

abbrev returns_1 : Statement
returns_1 = tree.returned 29 38 (tree.int 36 37 1)

abbrev returns_b : Statement
returns_b = tree.returned 53 64 (tree.text 60 63 (codes "b"))

abbrev f_of : Statement → Statement
f_of body = s.Function (tree.function 16 39 25 (codes "f") [] (body ∷ []))

abbrev g_of : Statement → Statement
g_of body = s.Function (tree.function 40 65 49 (codes "g") [] (body ∷ []))

abbrev statements : List Statement
statements = echo_f ∷ tree.declared (tree.function 16 39 25 (codes "f") [] (returns_1 ∷ [])) ∷ tree.declared (tree.function 40 65 49 (codes "g") [] (returns_b ∷ [])) ∷ []

abbrev tree_of : List Statement → FileTree
tree_of ss = record { at = file_place ss; statements = ss }

echo_is : s.Echo (from_to 6 15) (e.Call (from_to 11 14) (codes "f") [] ∷ []) ≡ echo_f
echo_is = (λ i. s.Echo (from_to 6 15) (sym (e.rolls-Call (from_to 11 14) (codes "f") []) i ∷ []))
    ∙ sym (s.rolls-Echo (from_to 6 15) (tree.call 11 14 (codes "f") [] ∷ []))

returns_1_is : s.Return (from_to 29 38) (Some (e.Int (from_to 36 37) 1)) ≡ returns_1
returns_1_is = (λ i. s.Return (from_to 29 38) (Some (sym (e.rolls-Int (from_to 36 37) 1) i)))
    ∙ sym (s.rolls-Return (from_to 29 38) (Some (tree.int 36 37 1)))

returns_b_is : s.Return (from_to 53 64) (Some (e.Text (from_to 60 63) (codes "b"))) ≡ returns_b
returns_b_is = (λ i. s.Return (from_to 53 64) (Some (sym (e.rolls-Text (from_to 60 63) (codes "b")) i)))
    ∙ sym (s.rolls-Return (from_to 53 64) (Some (tree.text 60 63 (codes "b"))))

abbrev as_spelled : List Statement
as_spelled = s.Echo (from_to 6 15) (e.Call (from_to 11 14) (codes "f") [] ∷ [])
    ∷ f_of (s.Return (from_to 29 38) (Some (e.Int (from_to 36 37) 1)))
    ∷ g_of (s.Return (from_to 53 64) (Some (e.Text (from_to 60 63) (codes "b")))) ∷ []

statements_are : as_spelled ≡ statements
statements_are = (λ i. echo_is i ∷ f_of (returns_1_is i) ∷ g_of (returns_b_is i) ∷ [])
    ∙ (λ i. echo_f ∷ sym (s.rolls-Function (tree.function 16 39 25 (codes "f") [] (returns_1 ∷ []))) i
    ∷ sym (s.rolls-Function (tree.function 40 65 49 (codes "g") [] (returns_b ∷ []))) i ∷ [])

tokens_are_statements : IsStatements true tokens as_spelled []
unfolding out-Expr out-Statement out
tokens_are_statements =
    g.statements_more (g.echo refl (g.exprs_last
    (x.term (x.postfix (x.primary (x.call refl refl (x.arguments_end refl)) (x.no_steps x.ends)) refl)) refl))
    (g.statements_more (g.function (g.a_function refl refl refl (d.params_end refl) d.no_result refl
    (g.statements_more (g.return refl (int refl) refl) g.statements_end) refl))
    (g.statements_more (g.function (g.a_function refl refl refl (d.params_end refl) d.no_result refl
    (g.statements_more (g.return refl (x.term (x.postfix (x.primary (x.text refl) (x.no_steps x.ends)) refl)) refl) g.statements_end) refl))
    g.statements_end))

nesting_is : file_nesting (tree_of statements) ≡ 4
unfolding statement_nesting nesting
nesting_is = simp trees

tokens_spell : SpellsTree tokens (tree_of statements)
tokens_spell = record {
  is = subst (λ ss. IsFile tokens (tree_of ss)) statements_are (g.file tokens_are_statements);
  nests = omega (arith, nesting_is);
}

nothing_refused : file_refused (tree_of statements) ≡ []
nothing_refused = simp (statement_rolled, function_rolled, part_rolled)

no_construct : tree_construct (tree_of statements) ≡ None
no_construct = ap first_found nothing_refused

-- ---- the program, with the numbers of sites in order of text

abbrev numbered_1 : Function
numbered_1 = roll-Function (record {
  at = at_site 16 39 3;
  name = name_at 25 (codes "f");
  params = [];
  result = None;
  body = roll-Statement (Statement-F.Return (at_site 29 38 4) (Some (roll-Expr (Expr-F.Int (at_site 36 37 5) 1)))) ∷ [];
})

abbrev numbered_b : Function
numbered_b = roll-Function (record {
  at = at_site 40 65 6;
  name = name_at 49 (codes "g");
  params = [];
  result = None;
  body = roll-Statement (Statement-F.Return (at_site 53 64 7) (Some (roll-Expr (Expr-F.Text (at_site 60 63 8) (codes "b"))))) ∷ [];
})

abbrev numbered_statements : List Statement
numbered_statements = roll-Statement (Statement-F.Echo (at_site 6 15 1) (roll-Expr (Expr-F.Call (at_site 11 14 2) (codes "f") []) ∷ []))
    ∷ tree.declared numbered_1 ∷ tree.declared numbered_b ∷ []

abbrev numbered_tree : FileTree
numbered_tree = record { at = record (file_place statements) { site = 0 }; statements = numbered_statements }

sites_are : numbered_trees (tree_of statements ∷ []) ≡ numbered_tree ∷ []
sites_are = simp (sites.statement_rolled, sites.expression_rolled, sites.function_rolled)

module _ (path : String Global) where
  abbrev program : Program
  program = record { files = record { path = path; bytes = []; tokens = []; tree = numbered_tree } ∷ [] }

  its_codes : codes_of program ≡ record {
    paths = string_bytes path ∷ [];
    classes = [];
    codes = placed_at 0 16 (a_body numbered_1 None false) ∷ placed_at 0 40 (a_body numbered_b None false) ∷ [];
    statics = [];
  }
  unfolding declarations_in
  its_codes = simp trees

  its_declarations : all_declarations program ≡ (0, a_function numbered_1) ∷ (0, a_function numbered_b) ∷ []
  unfolding declarations_in
  its_declarations = simp trees

  places : HasPlacesApart program
  unfolding IsDistinct
  places = record {
    codes = subst (λ (c : Codes). IsDistinct is_site (map (λ (x : Placed). x.site) c.codes)) (sym its_codes) ((refl, tt), (tt, tt));
    statics = subst (λ (c : Codes). IsDistinct is_site c.statics) (sym its_codes) tt;
  }

  -- functions without parameters, and no classes
  abbrev HasNoParams : ℕ × Declaration → Type 0
  HasNoParams d = params_of d.1 ≡ []

  no_params : (d : ℕ × Declaration) → Contains (all_declarations program) d → HasNoParams d
  unfolding shown-the_row-Function-1 shown-the_row-Class-3 shown hidden out roll
  no_params d here = All-contains HasNoParams (all_declarations program) d
      (subst (All HasNoParams) (sym its_declarations) (All-from_recursion HasNoParams ((0, a_function numbered_1) ∷ (0, a_function numbered_b) ∷ []) (refl, (refl, tt)))) here

  at_none : (position : ℕ) (x : Param) (ps : List Param) → ps ≡ [] → slice_get ps position ≡ Some x → ⊥
  at_none position x [] e h = absurd (cc)
  at_none position x (p ∷ ps) e h = absurd (cc)

  references : AgreeOnReferences program
  references d e position x y in_d in_e same at_d at_e = absurd (at_none position x (params_of d.1) (no_params d in_d) at_d)

  no_classes : class_declarations program ≡ []
  no_classes = ap (λ (c : Codes). c.classes) its_codes

  none_in : (cs : List PlacedClass) (c : PlacedClass) → cs ≡ [] → Contains cs c → ⊥
  none_in [] c e (i, below, is) = absurd (omega (arith, below))
  none_in (d ∷ cs) c e h = absurd (cc)

  privates : KeepsPrivates program
  privates = record {
    properties = λ c d name it ancestor here there. none_in (class_declarations program) c no_classes it;
    methods = λ c d name it ancestor here there. none_in (class_declarations program) c no_classes it;
  }

  right_arguments : wrong_arguments_of program ≡ []
  unfolding wrong_arguments expressions_in declarations_in
  right_arguments = simp trees

  names : AgreesOnNames program
  names = record { references = references; privates = privates; arguments = right_arguments }

  -- ---- it may be lowered, by computation

  its_nodes : program_nodes program ≡ 9
  unfolding nodes statement_nodes
  its_nodes = simp trees

  its_facts : tree_fits numbered_tree ≡ true
  its_facts = simp (statement_fits_rolled, function_fits_rolled, fits_rolled)

  its_refusals : file_refused numbered_tree ≡ []
  its_refusals = simp (statement_rolled, function_rolled, part_rolled)

  its_includes : includes_fit (string_bytes path ∷ []) (record { path = path; bytes = []; tokens = []; tree = numbered_tree }) ≡ true
  unfolding includes_in
  its_includes = simp trees

  is_lowerable : IsLowerable program
  is_lowerable = record {
    main = omega arith;
    few = omega arith;
    few_nodes = omega (arith, its_nodes);
    fits = ap (λ b. b && true) its_facts;
    refused = ap (λ found. found ++ []) its_refusals;
    includes = ap (λ b. b && true) its_includes;
    places = places;
    names = names;
  }

  -- ---- and it is well-formed

  includes_nothing : flat_map included program.files ≡ []
  unfolding includes_in
  includes_nothing = simp trees

  any_of_none : (p : List ℕ) (ps : List (List ℕ)) → ps ≡ [] → list_any (bytes_eq p) ps ≡ true → ⊥
  any_of_none p [] e h = absurd (cc)
  any_of_none p (q ∷ ps) e h = absurd (cc)

  includes : IncludeEachOther program.files
  includes p h = absurd (any_of_none p (flat_map included program.files) includes_nothing h)

  small_ints : All (λ (t : Token). IsIntOfPrograms t.kind) tokens
  small_ints = All-from_recursion (λ (t : Token). IsIntOfPrograms t.kind) tokens
      (tt, (tt, (tt, (tt, (tt, (tt, (tt, (tt, (tt, (tt, (tt, (omega arith, (tt, (tt, (tt, (tt, (tt, (tt, (tt, (tt, (tt, (tt, (tt, tt)))))))))))))))))))))))

  is_well_formed : IsWellFormed program
  is_well_formed = record {
    main = omega arith;
    few = omega arith;
    tokens = tokens ∷ [];
    trees = tree_of statements ∷ [];
    spelled = (record { spells = tokens_spell; no_construct = no_construct }, tt);
    few_tokens = omega arith;
    few_bytes = omega arith;
    small = All-from_recursion (λ (ts : List Token). All (λ (t : Token). IsIntOfPrograms t.kind) ts) (tokens ∷ []) (small_ints, tt);
    numbered = sym sites_are;
    includes = includes;
    places = places;
    names = names;
  }
