-- A source tree has at most one program from a main file on, where bytes spell one list of tokens and tokens one tree at most.
use Rattle.std.proofs.Common.{◌≡◌, ◌∙◌, sym, subst, refl, ℕ, List, [], ◌∷◌, ◌++◌, map, Some}
use Rattle.std.specs.Prelude.{flat_map}
use Rattle.std.specs.List.{AllZip}
use Rattle.hph_src.specs.Files.{Files}
use Rattle.hph_ast.specs.declared.program.File.{File}
use Rattle.hph_ast.specs.Tokens.{SpellsTokens}
use Rattle.hph_ast.specs.StatementNesting.{SpellsTree}
use Rattle.hph_php.specs.Declarations.{path_of}
use Rattle.hph_program.specs.Sites.{Numbered, give, bind, each, file_tree, file, numbered_files}
use Rattle.hph_program.specs.Sources.{IsSource, Content, content, included, included_from}
use Rattle.hph_program.specs.Program.{Waves, last, wave, next_wave, new_paths}
use Rattle.hph_program.specs.Laws.{TokensAreOne, TreesAreOne, ProgramsAreOne}

-- ---- lists of files with the same content

some_is_one : {A : Type 0} {a b : A} → Some a ≡ Some b → a ≡ b
some_is_one e = cc

map_append : (fs gs : List File) → map content (fs ++ gs) ≡ map content fs ++ map content gs
map_append [] gs = refl
map_append (f ∷ fs) gs = λ i. content f ∷ map_append fs gs i

content_appended : (fs gs hs ks : List File) → map content fs ≡ map content gs → map content hs ≡ map content ks
    → map content (fs ++ hs) ≡ map content (gs ++ ks)
content_appended fs gs hs ks p q = map_append fs hs ∙ (λ i. p i ++ q i) ∙ sym (map_append gs ks)

paths_of_contents : (fs : List File) → map path_of fs ≡ map (λ (c : Content). c.path) (map content fs)
paths_of_contents [] = refl
paths_of_contents (f ∷ fs) = λ i. path_of f ∷ paths_of_contents fs i

-- ---- a wave's files, and the next wave's paths

module _ (tokens_are_one : TokensAreOne) (trees_are_one : TreesAreOne) where
  source_is_one : {files : Files} {path : List ℕ} (f g : File) → IsSource files path f → IsSource files path g → content f ≡ content g
  source_is_one f g a b = λ i. record { path = paths i; bytes = bytes i; tokens = tokens i; tree = trees i }
    where
      paths : path_of f ≡ path_of g
      paths = a.is_at ∙ sym b.is_at

      bytes : f.bytes ≡ g.bytes
      bytes = some_is_one (sym a.holds ∙ b.holds)

      tokens : f.tokens ≡ g.tokens
      tokens = tokens_are_one g.bytes f.tokens g.tokens (subst (λ bs. SpellsTokens bs f.tokens) bytes a.reads.spells) b.reads.spells

      trees : f.tree ≡ g.tree
      trees = trees_are_one g.tokens f.tree g.tree (subst (λ ts. SpellsTree ts f.tree) tokens a.spells) b.spells

  sources_are_one : (files : Files) (paths : List (List ℕ)) (fs gs : List File) →
      AllZip (IsSource files) paths fs → AllZip (IsSource files) paths gs → map content fs ≡ map content gs
  sources_are_one files [] [] [] a b = refl
  sources_are_one files [] (f ∷ fs) gs a b = absurd a
  sources_are_one files [] [] (g ∷ gs) a b = absurd b
  sources_are_one files (p ∷ ps) [] gs a b = absurd a
  sources_are_one files (p ∷ ps) (f ∷ fs) [] a b = absurd b
  sources_are_one files (p ∷ ps) (f ∷ fs) (g ∷ gs) a b = λ i. source_is_one f g a.0 b.0 i ∷ sources_are_one files ps fs gs a.1 b.1 i

-- a file's includes are told by its content
included_by : Content → List (List ℕ)
included_by c = included_from c.path c.tree

includes_of_contents : (fs : List File) → flat_map included fs ≡ flat_map included_by (map content fs)
unfolding included_by
includes_of_contents [] = refl
includes_of_contents (f ∷ fs) = λ i. included f ++ includes_of_contents fs i

next_wave_is_one : (fs gs hs ks : List File) → map content fs ≡ map content gs → map content hs ≡ map content ks → next_wave fs hs ≡ next_wave gs ks
next_wave_is_one fs gs hs ks p q = λ i. new_paths (paths i) (includes i)
  where
    paths : map path_of fs ≡ map path_of gs
    paths = paths_of_contents fs ∙ (λ i. map (λ (c : Content). c.path) (p i)) ∙ sym (paths_of_contents gs)

    includes : flat_map included hs ≡ flat_map included ks
    includes = includes_of_contents hs ∙ (λ i. flat_map included_by (q i)) ∙ sym (includes_of_contents ks)

-- ---- all waves

module _ (tokens_are_one : TokensAreOne) (trees_are_one : TreesAreOne) where
  waves_are_one : {files : Files} {read other : List File} {paths others : List (List ℕ)} {fs gs : List File} →
      Waves files read paths fs → Waves files other others gs → map content read ≡ map content other → paths ≡ others → map content fs ≡ map content gs
  waves_are_one last last same e = same
  waves_are_one last (wave gs b v) same e = absurd (cc)
  waves_are_one (wave fs a w) last same e = absurd (cc)
  waves_are_one {files} {read} {other} (wave {path = path} {paths = paths} fs a w) (wave gs b v) same e =
      waves_are_one w v (content_appended read other fs gs same here)
      (next_wave_is_one (read ++ fs) (other ++ gs) fs gs (content_appended read other fs gs same here) here)
    where
      here : map content fs ≡ map content gs
      here = sources_are_one tokens_are_one trees_are_one files (path ∷ paths) fs gs a (subst (λ ps. AllZip (IsSource files) ps gs) (sym e) b)

-- ---- sites

number_content : Content → Numbered Content
number_content c = bind (file_tree c.tree) (λ tree. give (record { path = c.path; bytes = c.bytes; tokens = c.tokens; tree = tree }))

contents_numbered : (fs : List File) (n : ℕ) → (map content (each (map file fs) n).0, (each (map file fs) n).1) ≡ each (map number_content (map content fs)) n
unfolding number_content
contents_numbered [] n = refl
contents_numbered (f ∷ fs) n = λ i. ((number_content (content f) n).0 ∷ (contents_numbered fs (file f n).1 i).0, (contents_numbered fs (file f n).1 i).1)

numbered_is_one : (fs gs : List File) → map content fs ≡ map content gs → map content (numbered_files fs) ≡ map content (numbered_files gs)
numbered_is_one fs gs e = (λ i. (contents_numbered fs 0 i).0) ∙ (λ i. (each (map number_content (e i)) 0).0) ∙ sym (λ i. (contents_numbered gs 0 i).0)

pub programs_are_one : TokensAreOne → TreesAreOne → ProgramsAreOne
programs_are_one tokens_are_one trees_are_one files main p q a b =
    (λ i. map content (a.numbered i)) ∙ numbered_is_one a.sources b.sources sources ∙ (λ i. map content (sym b.numbered i))
  where
    sources : map content a.sources ≡ map content b.sources
    sources = waves_are_one tokens_are_one trees_are_one a.waves b.waves refl refl
