-- A program of a source tree is well-formed, where its names agree.
use Rattle.std.specs.Prelude.{◌≡◌, ◌≤◌, ◌+◌, ℕ, suc, List, [], ◌∷◌, ◌++◌, length, map, flat_map, filter_map, fold, All, bytes_eq}
use Rattle.std.specs.List.{AllZip, AllByRecursion, list_any}
use Rattle.std.proofs.Common.{arith, refl, ap, sym, ◌∙◌, subst, length-append}
use Rattle.std.proofs.lemmas.List.Elements.{All-from_recursion}
use Rattle.hph_src.specs.Files.{Files}
use Rattle.hph_ast.specs.declared.token.Token.{Token}
use Rattle.hph_ast.specs.declared.program.File.{File}
use Rattle.hph_ast.specs.declared.stmt.Statement.{Statement}
use Rattle.hph_php.specs.Declarations.{path_of}
use Rattle.hph_php.specs.Includes.{normalised, folder}
use Rattle.hph_program.specs.Sites.{Numbered, each, statement, file_tree, numbered_trees, numbered_files}
use Rattle.hph_program.specs.Sites as sites
use Rattle.hph_program.specs.Sources.{path_named, includes_in, included}
use Rattle.hph_program.specs.Program.{Waves, last, wave}
use Rattle.hph_program.specs.WellFormed.{IsSpelled, IncludeEachOther, held_bytes}
use Rattle.hph_program.proofs.Closed.{waves_are_closed}
use Rattle.hph_wellformed.specs.Laws.{SourcesAreWellFormed}
use Rattle.hph_lowerable.proofs.Numbering.{Kept, each_kept}
use Rattle.hph_lowerable.proofs.StatementFacts.{statement_includes_kept}
use Rattle.hph_lowerable.proofs.Chains.{AreInts}
use Rattle.hph_wellformed.proofs.Sources.{AreSources, sources_of}
use Rattle.hph_wellformed.proofs.SourceInts.{tokens_are_ints}
use Rattle.hph_wellformed.proofs.PlacesApart.{places_are_apart}
use Rattle.hph_wellformed.proofs.SourceTokens.{tokens_are_few}
use Rattle.hph_lowerable.proofs.WellFormedLaw.{sum_is}
use Rattle.hph_php.specs.Cost.{total_of}

-- ---- files

-- no file is lost
more_files : {files : Files} {read all : List File} {paths : List (List ℕ)} → Waves files read paths all → length read ≤ length all
more_files last = omega arith
more_files {read = read} (wave fs here w) = omega (arith, more_files w, length-append read fs)

some_file : (files : Files) (path : List ℕ) (all : List File) → Waves files [] (path ∷ []) all → 1 ≤ length all
some_file files path all (wave [] here w) = absurd here
some_file files path all (wave (f ∷ fs) here w) = omega (arith, more_files w)

-- ---- what is told of each

spelled : (files : Files) (fs : List File) → AreSources files fs → AllZip IsSpelled (map (λ (f : File). f.tokens) fs) (map (λ (f : File). f.tree) fs)
spelled files [] a = tt
spelled files (f ∷ fs) a = (record { spells = a.0.1.spells; no_construct = a.0.1.no_construct }, spelled files fs a.1)

ints : (files : Files) (fs : List File) → AreSources files fs → All AreInts (map (λ (f : File). f.tokens) fs)
ints files fs a = All-from_recursion AreInts (map (λ (f : File). f.tokens) fs) (by_files fs a)
  where
    by_files : (fs : List File) → AreSources files fs → AllByRecursion AreInts (map (λ (f : File). f.tokens) fs)
    by_files [] a = tt
    by_files (f ∷ fs) a = (tokens_are_ints f.bytes f.tokens a.0.1.reads.spells, by_files fs a.1)

-- tokens are no more than bytes, and hold no more
few_tokens : (files : Files) (n : ℕ) (fs : List File) → AreSources files fs →
    fold (λ n (f : File). n + length f.tokens) n fs ≤ n + total_of (λ (f : File). length f.bytes) fs
few_tokens files n [] a = omega arith
few_tokens files n (f ∷ fs) a = omega (arith, (tokens_are_few f.bytes f.tokens a.0.1.reads.spells).0, few_tokens files (n + length f.tokens) fs a.1)

abbrev held_in : List Token → ℕ
held_in ts = fold (λ n (t : Token). n + held_bytes t.kind) 0 ts

few_held : (files : Files) (n : ℕ) (fs : List File) → AreSources files fs →
    fold (λ n (f : File). n + held_in f.tokens) n fs ≤ n + total_of (λ (f : File). length f.bytes) fs
few_held files n [] a = omega arith
few_held files n (f ∷ fs) a = omega (
  arith,
  (tokens_are_few f.bytes f.tokens a.0.1.reads.spells).1,
  sum_is (λ (t : Token). held_bytes t.kind) 0 f.tokens,
  few_held files (n + held_in f.tokens) fs a.1,
)

sums : (f : List Token → ℕ) (n : ℕ) (fs : List File) →
    fold (λ n ts. n + f ts) n (map (λ (g : File). g.tokens) fs) ≡ fold (λ n (g : File). n + f g.tokens) n fs
sums f n [] = refl
sums f n (g ∷ fs) = sums f (n + f g.tokens) fs

-- ---- files with their sites numbered

trees_numbered : (fs : List File) (n : ℕ) → map (λ (f : File). f.tree) (each (map sites.file fs) n).0 ≡ (each (map file_tree (map (λ (f : File). f.tree) fs)) n).0
trees_numbered [] n = refl
trees_numbered (f ∷ fs) n = λ i. (file_tree f.tree n).0 ∷ trees_numbered fs (file_tree f.tree n).1 i

all_includes_kept : (ss : List Statement) (n : ℕ) → flat_map includes_in (each (map statement ss) n).0 ≡ flat_map includes_in ss
all_includes_kept [] n = refl
all_includes_kept (s ∷ ss) n = λ i. statement_includes_kept s n i ++ all_includes_kept ss (statement s n).1 i

included_kept : (f : File) → Kept included sites.file f
included_kept f n = λ i. filter_map (path_named (folder (path_of f))) (all_includes_kept f.tree.statements (suc n) i)

all_included_kept : (fs : List File) (n : ℕ) → flat_map included (each (map sites.file fs) n).0 ≡ flat_map included fs
all_included_kept [] n = refl
all_included_kept (f ∷ fs) n = λ i. included_kept f n i ++ all_included_kept fs (sites.file f n).1 i

paths_kept : (fs : List File) (n : ℕ) → map path_of (each (map sites.file fs) n).0 ≡ map path_of fs
paths_kept fs n = each_kept path_of sites.file (λ f n. refl) fs n

include_each_other : (fs : List File) → IncludeEachOther fs → IncludeEachOther (numbered_files fs)
include_each_other fs h path known = ap (list_any (bytes_eq path)) (paths_kept fs 0)
    ∙ h path (ap (list_any (bytes_eq path)) (sym (all_included_kept fs 0)) ∙ known)

as_many : (fs : List File) → length (numbered_files fs) ≡ length fs
as_many fs = by_number fs 0
  where
    by_number : (fs : List File) (n : ℕ) → length (each (map sites.file fs) n).0 ≡ length fs
    by_number [] n = refl
    by_number (f ∷ fs) n = ap suc (by_number fs (sites.file f n).1)

-- ---- the law

pub sources_are_well_formed : SourcesAreWellFormed
sources_are_well_formed files main p source names = record {
  main = omega (arith, ap length source.numbered, as_many source.sources, some_file files (normalised main) source.sources source.waves);
  few = omega (arith, ap length source.numbered, as_many source.sources, source.limits.few);
  tokens = map (λ (f : File). f.tokens) source.sources;
  trees = map (λ (f : File). f.tree) source.sources;
  spelled = spelled files source.sources sources;
  few_tokens = omega (
    arith,
    sums (λ ts. length ts) 0 source.sources,
    few_tokens files 0 source.sources sources,
    sum_is (λ (f : File). length f.bytes) 0 source.sources,
    source.limits.short_together,
  );
  few_bytes = omega (
    arith,
    sums held_in 0 source.sources,
    few_held files 0 source.sources sources,
    sum_is (λ (f : File). length f.bytes) 0 source.sources,
    source.limits.short_together,
  );
  small = ints files source.sources sources;
  numbered = ap (map (λ (f : File). f.tree)) source.numbered ∙ trees_numbered source.sources 0;
  includes = subst IncludeEachOther (sym source.numbered) (include_each_other source.sources (waves_are_closed files main source.sources source.waves));
  places = places_are_apart files main p source;
  names = names;
}
  where
    sources : AreSources files source.sources
    sources = sources_of source.waves
