-- A well-formed program may be lowered.
use Rattle.std.specs.Prelude.{◌≡◌, ◌≤◌, ◌+◌, ◌*◌, ℕ, suc, Bool, true, false, ◌&&◌, ◌||◌, List, [], ◌∷◌, ◌++◌, length, map, flat_map, filter_map, fold, All, None, bytes_eq}
use Rattle.std.specs.List.{AllZip, list_all, list_any}
use Rattle.std.proofs.Common.{arith, refl, ap, sym, ◌∙◌}
use Rattle.std.proofs.lemmas.List.Elements.{All-head, All-tail}
use Rattle.std.proofs.lemmas.Slice.Eq.{bytes_eq-Decides}
use Rattle.hph_ast.specs.declared.token.Token.{Token}
use Rattle.hph_ast.specs.declared.program.File.{File}
use Rattle.hph_ast.specs.declared.program.FileTree.{FileTree}
use Rattle.hph_ast.specs.RefusedExpressions.{Found, Shape, a_variable, a_text, a_directory, a_directory_path, another, is_include_path}
use Rattle.hph_ast.specs.RefusedStatements.{statement_refused, top_level, file_refused, first_found}
use Rattle.hph_php.specs.Cost.{total_of, statement_nodes}
use Rattle.hph_php.specs.Declarations.{path_of}
use Rattle.hph_php.specs.Includes.{folder}
use Rattle.hph_program.specs.Sites.{each, statement, file_tree, numbered_trees}
use Rattle.hph_program.specs.Sources.{path_named, includes_in, included}
use Rattle.hph_program.specs.WellFormed.{IsSpelled}
use Rattle.hph_lowerable.specs.Facts.{statement_fits, tree_fits}
use Rattle.hph_lowerable.specs.Lowerable.{names_file, includes_fit}
use Rattle.hph_lowerable.specs.Laws.{WellFormedIsLowerable}
use Rattle.hph_lowerable.proofs.Numbering.{Kept, each_kept}
use Rattle.hph_lowerable.proofs.StatementFacts.{total_kept, all_fit_kept, all_refused_kept, statement_nodes_kept, statement_fits_kept, statement_refused_kept}
use Rattle.hph_lowerable.proofs.Chains.{AreInts}
use Rattle.hph_lowerable.proofs.SpelledStatements.{file}
use Rattle.hph_lowerable.proofs.IncludePaths.{first_empty, second_empty, all_are_paths}

-- ---- trees, and those with their sites numbered

abbrev tree_nodes : FileTree → ℕ
tree_nodes tree = suc (total_of statement_nodes tree.statements)

nodes_kept : (t : FileTree) → Kept tree_nodes file_tree t
nodes_kept t n = λ i. suc (total_kept statement_nodes statement statement_nodes_kept t.statements (suc n) i)

fits_kept : (t : FileTree) → Kept tree_fits file_tree t
fits_kept t n = all_fit_kept statement_fits statement statement_fits_kept t.statements (suc n)

refused_kept : (t : FileTree) → Kept file_refused file_tree t
refused_kept t n = λ i. all_refused_kept statement_refused statement statement_refused_kept t.statements (suc n) i top_level

-- what is told of each tree, by the list of trees that files have
total_is : (f : FileTree → ℕ) (fs : List File) → total_of (λ (g : File). f g.tree) fs ≡ total_of f (map (λ (g : File). g.tree) fs)
total_is f [] = refl
total_is f (g ∷ fs) = λ i. f g.tree + total_is f fs i

all_is : (f : FileTree → Bool) (fs : List File) → list_all (λ (g : File). f g.tree) fs ≡ list_all f (map (λ (g : File). g.tree) fs)
all_is f [] = refl
all_is f (g ∷ fs) = λ i. f g.tree && all_is f fs i

found_is : (f : FileTree → Found) (fs : List File) → flat_map (λ (g : File). f g.tree) fs ≡ flat_map f (map (λ (g : File). g.tree) fs)
found_is f [] = refl
found_is f (g ∷ fs) = λ i. f g.tree ++ found_is f fs i

all_found_kept : (f : FileTree → Found) → ((t : FileTree) → Kept f file_tree t) → (ts : List FileTree) (n : ℕ) →
    flat_map f (each (map file_tree ts) n).0 ≡ flat_map f ts
all_found_kept f kept [] n = refl
all_found_kept f kept (t ∷ ts) n = λ i. kept t n i ++ all_found_kept f kept ts (file_tree t n).1 i

length_map : {A B : Type 0} (f : A → B) (xs : List A) → length (map f xs) ≡ length xs
length_map f [] = refl
length_map f (x ∷ xs) = ap suc (length_map f xs)

abbrev counted : FileTree → ℕ
counted t = 0

as_many : (fs : List File) (ts : List FileTree) → map (λ (f : File). f.tree) fs ≡ numbered_trees ts → length ts ≡ length fs
as_many fs ts same = sym (length_map counted ts) ∙ ap length (sym (each_kept counted file_tree (λ t n. refl) ts 0))
    ∙ length_map counted (numbered_trees ts) ∙ ap length (sym same) ∙ length_map (λ (f : File). f.tree) fs

-- ---- what tokens tell of their trees

none_found : (xs : Found) → first_found xs ≡ None → xs ≡ []
none_found [] e = refl
none_found (x ∷ xs) e = absurd (cc)

pub sum_is : {A : Type 0} (f : A → ℕ) (n : ℕ) (xs : List A) → fold (λ n x. n + f x) n xs ≡ n + total_of f xs
sum_is f n [] = omega arith
sum_is f n (x ∷ xs) = omega (arith, sum_is f (n + f x) xs)

few_nodes : (tokens : List (List Token)) (trees : List FileTree) → AllZip IsSpelled tokens trees →
    total_of tree_nodes trees ≤ 2 * total_of (λ (ts : List Token). length ts) tokens + length trees
few_nodes [] [] a = omega arith
few_nodes [] (t ∷ trees) a = absurd a
few_nodes (ts ∷ tokens) [] a = absurd a
few_nodes (ts ∷ tokens) (t ∷ trees) a = omega (arith, (file a.0.spells.is).few, few_nodes tokens trees a.1)

both_true : (a b : Bool) → a ≡ true → b ≡ true → (a && b) ≡ true
both_true true b p q = q
both_true false b p q = p

all_fit : (tokens : List (List Token)) (trees : List FileTree) → AllZip IsSpelled tokens trees → All AreInts tokens → list_all tree_fits trees ≡ true
all_fit [] [] a small = refl
all_fit [] (t ∷ trees) a small = absurd a
all_fit (ts ∷ tokens) [] a small = absurd a
all_fit (ts ∷ tokens) (t ∷ trees) a small = both_true (tree_fits t) (list_all tree_fits trees)
    ((file a.0.spells.is).tells (All-head AreInts ts tokens small)).0 (all_fit tokens trees a.1 (All-tail AreInts ts tokens small))

none_refused : (tokens : List (List Token)) (trees : List FileTree) → AllZip IsSpelled tokens trees → flat_map file_refused trees ≡ []
none_refused [] [] a = refl
none_refused [] (t ∷ trees) a = absurd a
none_refused (ts ∷ tokens) [] a = absurd a
none_refused (ts ∷ tokens) (t ∷ trees) a = (λ i. none_found (file_refused t) a.0.no_construct i ++ flat_map file_refused trees) ∙ none_refused tokens trees a.1

-- ---- includes

abbrev any : List ℕ → List (List ℕ) → Bool
any path paths = list_any (bytes_eq path) paths

or_left : (a b : Bool) → a ≡ true → (a || b) ≡ true
or_left true b h = refl
or_left false b h = absurd (cc)

or_right : (a b : Bool) → b ≡ true → (a || b) ≡ true
or_right true b h = refl
or_right false b h = h

any_left : (p : List ℕ) (xs ys : List (List ℕ)) → any p xs ≡ true → any p (xs ++ ys) ≡ true
any_left p [] ys h = absurd (cc)
any_left p (x ∷ xs) ys h = by_test (bytes_eq p x) (any_left p xs ys) h
  where
    by_test : (b : Bool) → (any p xs ≡ true → any p (xs ++ ys) ≡ true) → (b || any p xs) ≡ true → (b || any p (xs ++ ys)) ≡ true
    by_test true behind h = refl
    by_test false behind h = behind h

any_right : (p : List ℕ) (xs ys : List (List ℕ)) → any p ys ≡ true → any p (xs ++ ys) ≡ true
any_right p [] ys h = h
any_right p (x ∷ xs) ys h = or_right (bytes_eq p x) _ (any_right p xs ys h)

module _ (paths : List (List ℕ)) where
  -- paths that are all there
  abbrev There : List (List ℕ) → Type 0
  There ps = (p : List ℕ) → any p ps ≡ true → any p paths ≡ true

  itself : (p : List ℕ) (ps : List (List ℕ)) → There (p ∷ ps) → any p paths ≡ true
  itself p ps there = there p (or_left (bytes_eq p p) (any p ps) ((bytes_eq-Decides p p).1 refl))

  further : (p : List ℕ) (ps : List (List ℕ)) → There (p ∷ ps) → There ps
  further p ps there q h = there q (or_right (bytes_eq q p) (any q ps) h)

  tail_true : (a b : Bool) → (a && b) ≡ true → b ≡ true
  tail_true true b h = h
  tail_true false b h = absurd (cc)

  shapes_fit : (here : List ℕ) (shapes : List Shape) → list_all is_include_path shapes ≡ true →
      There (filter_map (path_named here) shapes) → list_all (names_file paths here) shapes ≡ true
  shapes_fit here [] are there = refl
  shapes_fit here (a_text bytes ∷ shapes) are there = both_true _ _ (itself _ _ there)
      (shapes_fit here shapes (tail_true (is_include_path (a_text bytes)) _ are) (further _ _ there))
  shapes_fit here (a_directory_path bytes ∷ shapes) are there = both_true _ _ (itself _ _ there)
      (shapes_fit here shapes (tail_true (is_include_path (a_directory_path bytes)) _ are) (further _ _ there))
  shapes_fit here (a_variable this ∷ shapes) are there = absurd (cc)
  shapes_fit here (a_directory ∷ shapes) are there = absurd (cc)
  shapes_fit here (another ∷ shapes) are there = absurd (cc)

  files_fit : (fs : List File) → flat_map (λ (f : File). file_refused f.tree) fs ≡ [] → There (flat_map included fs) → list_all (includes_fit paths) fs ≡ true
  files_fit [] none there = refl
  files_fit (f ∷ fs) none there = both_true _ _
      (shapes_fit (folder (path_of f)) (flat_map includes_in f.tree.statements)
      (all_are_paths f.tree.statements top_level (first_empty _ _ none)) (λ p h. there p (any_left p (included f) (flat_map included fs) h)))
      (files_fit fs (second_empty (file_refused f.tree) _ none) (λ p h. there p (any_right p (included f) (flat_map included fs) h)))

-- ---- the law

pub well_formed_is_lowerable : WellFormedIsLowerable
well_formed_is_lowerable p w = record {
  main = w.main;
  few = w.few;
  few_nodes = omega (
    arith,
    total_is tree_nodes p.files,
    ap (total_of tree_nodes) w.numbered,
    total_kept tree_nodes file_tree nodes_kept w.trees 0,
    few_nodes w.tokens w.trees w.spelled,
    sum_is (λ (ts : List Token). length ts) 0 w.tokens,
    as_many p.files w.trees w.numbered,
    w.few,
    w.few_tokens,
  );
  fits = all_is tree_fits p.files ∙ ap (list_all tree_fits) w.numbered ∙ all_fit_kept tree_fits file_tree fits_kept w.trees 0
      ∙ all_fit w.tokens w.trees w.spelled w.small;
  refused = refused;
  includes = files_fit (map path_of p.files) p.files refused w.includes;
  places = w.places;
  names = w.names;
}
  where
    refused : flat_map (λ (f : File). file_refused f.tree) p.files ≡ []
    refused = found_is file_refused p.files ∙ ap (flat_map file_refused) w.numbered ∙ all_found_kept file_refused refused_kept w.trees 0
        ∙ none_refused w.tokens w.trees w.spelled
