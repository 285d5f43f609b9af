-- The pieces of code of a program of a source tree have places apart, and so have its static variables.
use Rattle.std.specs.Prelude.{◌≡◌, ℕ, zero, suc, ◌+◌, ◌<◌, ◌≤◌, Bool, true, false, ◌&&◌, ◌==◌, List, [], ◌∷◌, ◌++◌, map, flat_map, filter_map, Option, None, Some, ◌≢◌, if◌then◌else◌}
use Rattle.std.specs.List.{AllByRecursion, IsDistinct, cons_option}
use Rattle.std.specs.Option.{option_map}
use Rattle.std.proofs.Common.{arith, refl, ap, sym, subst, ◌⊎◌, inl, inr}
use Rattle.std.proofs.lemmas.Bool.Decides.{nat_tests}
use Rattle.hph_src.specs.Files.{Files}
use Rattle.hph_ast.specs.declared.expr.Expr.{Expr}
use Rattle.hph_ast.specs.declared.function.Function.{out-Function}
use Rattle.hph_ast.specs.declared.class.Class.{out-Class}
use Rattle.hph_ast.specs.declared.class.Member.{Member}
use Rattle.hph_ast.specs.declared.class.ConstantItem.{ConstantItem}
use Rattle.hph_ast.specs.declared.class.PropertyItem.{PropertyItem}
use Rattle.hph_ast.specs.declared.program.File.{File}
use Rattle.hph_ast.specs.declared.program.Program.{Program}
use Rattle.hph_php.specs.Cost.{total_of}
use Rattle.hph_php.specs.State.{Site, is_site}
use Rattle.hph_php.specs.Declarations.{Declaration, a_function, a_class, a_method, a_static, Found, Code, a_value, Placed, PlacedClass, site_at, placed_at, numbered_from, file_declarations, all_declarations, static_declaration, class_declaration, class_declarations, body_code, constants_in, properties_in, members_of, constant_codes, static_codes, initial_code, all_codes}
use Rattle.hph_program.specs.Sites.{each, statement, numbered_files}
use Rattle.hph_program.specs.Sites as sites
use Rattle.hph_program.specs.Sources.{IsSource}
use Rattle.hph_program.specs.Program.{IsProgramOf}
use Rattle.hph_program.specs.WellFormed.{HasPlacesApart}
use Rattle.hph_lowerable.proofs.StatementFacts.{total_kept}
use Rattle.hph_wellformed.proofs.CodePlaces as place
use Rattle.hph_wellformed.proofs.DeclaredPlaces as declared
use Rattle.hph_wellformed.proofs.DeclaredPlaces.{total_append}
use Rattle.hph_wellformed.proofs.TokenPlaces.{starts_once}
use Rattle.hph_wellformed.proofs.Sources.{AreSources, sources_of}

-- ---- sites that are no more than once in a list

abbrev bit : Bool → ℕ
bit b = if b then 1 else 0

abbrev hit : Site → Site → ℕ
hit a b = bit (is_site a b)

itself : (a : Site) → hit a a ≡ 1
itself a = ap bit (both (a.file == a.file) (a.offset == a.offset) (same a.file) (same a.offset))
  where
    same : (n : ℕ) → (n == n) ≡ true
    same n = grind (arith, nat_tests)

    both : (b c : Bool) → b ≡ true → c ≡ true → (b && c) ≡ true
    both true c p q = q
    both false c p q = p

no_bit : (b : Bool) → bit b ≡ 0 → b ≡ false
no_bit true e = absurd (cc)
no_bit false e = refl

none_is : (a : Site) (xs : List Site) → total_of (hit a) xs ≡ 0 → AllByRecursion (λ b. is_site a b ≡ false) xs
none_is a [] e = tt
none_is a (x ∷ xs) e = (no_bit (is_site a x) (omega (arith, e)), none_is a xs (omega (arith, e)))

distinct : (xs : List Site) → ((a : Site) → total_of (hit a) xs ≤ 1) → IsDistinct is_site xs
unfolding IsDistinct
distinct [] once = tt
distinct (x ∷ xs) once = (none_is x xs (omega (arith, once x, itself x)), distinct xs (λ a. omega (arith, once a)))

sites_of : (a : Site) (cs : List Placed) → total_of (hit a) (map (λ (c : Placed). c.site) cs) ≡ total_of (λ (c : Placed). hit a c.site) cs
sites_of a [] = refl
sites_of a (c ∷ cs) = ap (λ n. hit a c.site + n) (sites_of a cs)

module _ (file offset : ℕ) where
  abbrev there : Site
  there = site_at file offset

  abbrev placed_there : Placed → ℕ
  placed_there c = hit there c.site

  -- of a file's, if it is this one
  abbrev of_file : ℕ → ℕ → ℕ
  of_file k n = if file == k then n else 0

  of_sum : (k m n : ℕ) → of_file k (m + n) ≡ of_file k m + of_file k n
  of_sum k m n = by_test (file == k)
    where
      by_test : (b : Bool) → (if b then m + n else 0) ≡ (if b then m else 0) + (if b then n else 0)
      by_test true = refl
      by_test false = refl

  of_none : (k : ℕ) → of_file k 0 ≡ 0
  of_none k = by_test (file == k)
    where
      by_test : (b : Bool) → (if b then 0 else 0) ≡ zero
      by_test true = refl
      by_test false = refl

  hit_few : (k start : ℕ) → hit there (site_at k start) ≤ of_file k (place.here offset start)
  hit_few k start = by_tests (file == k) (offset == start) (start == offset) (λ e. grind (arith, nat_tests))
    where
      by_tests : (b c d : Bool) → (c ≡ true → d ≡ true) → bit (b && c) ≤ (if b then (if d then 1 else 0) else 0)
      by_tests true true d h = subst (λ (d : Bool). 1 ≤ (if d then 1 else 0)) (sym (h refl)) (omega arith)
      by_tests true false d h = omega arith
      by_tests false c d h = omega arith

  -- ---- what the declarations of a program begin there

  abbrev Placement : Type 0
  Placement = ℕ × Declaration

  body_weight : Placement → ℕ
  body_weight (k, a_function f) = of_file k (place.here offset (out-Function f).at.start)
  body_weight (k, a_method class is_static f) = of_file k (place.here offset (out-Function f).at.start)
  body_weight (k, a_class c) = 0
  body_weight (k, a_static start) = 0

  static_weight : Placement → ℕ
  static_weight (k, a_function f) = 0
  static_weight (k, a_method class is_static f) = 0
  static_weight (k, a_class c) = 0
  static_weight (k, a_static start) = of_file k (place.here offset start)

  class_sum : PlacedClass → ℕ
  class_sum c = of_file c.site.file (total_of (declared.own offset) (members_of c)) + hit there c.site

  class_weight : Placement → ℕ
  class_weight (k, a_function f) = 0
  class_weight (k, a_method class is_static f) = 0
  class_weight (k, a_class c) = of_file k (total_of (declared.own offset) (out-Class c).members) + of_file k (place.here offset (out-Class c).at.start)
  class_weight (k, a_static start) = 0

  abbrev weight : Placement → ℕ
  weight d = of_file d.0 (declared.weight offset d.1)

  each_weight : (d : Placement) → body_weight d + (static_weight d + class_weight d) ≡ weight d
  unfolding body_weight static_weight class_weight
  each_weight (k, a_function f) = omega arith
  each_weight (k, a_method class is_static f) = omega arith
  each_weight (k, a_class c) = omega (arith, of_sum k (place.here offset (out-Class c).at.start) (total_of (declared.own offset) (out-Class c).members))
  each_weight (k, a_static start) = omega arith

  all_weights : (ds : List Placement) → total_of body_weight ds + (total_of static_weight ds + total_of class_weight ds) ≡ total_of weight ds
  all_weights [] = omega arith
  all_weights (d ∷ ds) = omega (arith, each_weight d, all_weights ds)

  bodies : (cs : List PlacedClass) (ds : List Placement) → total_of placed_there (filter_map (body_code cs) ds) ≤ total_of body_weight ds
  unfolding body_weight
  bodies cs [] = omega arith
  bodies cs ((k, a_function f) ∷ ds) = omega (arith, bodies cs ds, hit_few k (out-Function f).at.start)
  bodies cs ((k, a_method class is_static f) ∷ ds) = omega (arith, bodies cs ds, hit_few k (out-Function f).at.start)
  bodies cs ((k, a_class c) ∷ ds) = omega (arith, bodies cs ds)
  bodies cs ((k, a_static start) ∷ ds) = omega (arith, bodies cs ds)

  statics : (ds : List Placement) → total_of (hit there) (filter_map static_declaration ds) ≤ total_of static_weight ds
  unfolding static_weight
  statics [] = omega arith
  statics ((k, a_function f) ∷ ds) = omega (arith, statics ds)
  statics ((k, a_method class is_static f) ∷ ds) = omega (arith, statics ds)
  statics ((k, a_class c) ∷ ds) = omega (arith, statics ds)
  statics ((k, a_static start) ∷ ds) = omega (arith, statics ds, hit_few k start)

  classes : (ds : List Placement) → total_of class_sum (filter_map class_declaration ds) ≤ total_of class_weight ds
  unfolding class_sum class_weight
  classes [] = omega arith
  classes ((k, a_function f) ∷ ds) = omega (arith, classes ds)
  classes ((k, a_method class is_static f) ∷ ds) = omega (arith, classes ds)
  classes ((k, a_class c) ∷ ds) = omega (arith, classes ds, hit_few k (out-Class c).at.start)
  classes ((k, a_static start) ∷ ds) = omega (arith, classes ds)

  -- ---- the code of classes

  constants_few : (k : ℕ) (code : ConstantItem → Code) (is : List ConstantItem) →
      total_of placed_there (map (λ (i : ConstantItem). placed_at k i.name.start (code i)) is) ≤ of_file k (total_of (place.constant_here offset) is)
  constants_few k code [] = omega (arith, of_none k)
  constants_few k code (i ∷ is) = omega (
    arith,
    constants_few k code is,
    hit_few k i.name.start,
    of_sum k (place.constant_here offset i) (total_of (place.constant_here offset) is),
  )

  values_few : (k : ℕ) (code : PropertyItem → Expr → Code) (is : List PropertyItem) →
      total_of placed_there (filter_map (λ (i : PropertyItem). option_map (λ x. placed_at k i.name.start (code i x)) i.value) is)
      ≤ of_file k (total_of (place.property_here offset) is)
  values_few k code [] = omega (arith, of_none k)
  values_few k code (i ∷ is) = by_value i.value (filter_map (λ (i : PropertyItem). option_map (λ x. placed_at k i.name.start (code i x)) i.value) is) (values_few k code is)
    where
      by_value : (o : Option Expr) (later : List Placed) → total_of placed_there later ≤ of_file k (total_of (place.property_here offset) is) →
          total_of placed_there (cons_option (option_map (λ x. placed_at k i.name.start (code i x)) o) later)
          ≤ of_file k (place.property_here offset i + total_of (place.property_here offset) is)
      by_value None later h = omega (arith, h, of_sum k (place.property_here offset i) (total_of (place.property_here offset) is))
      by_value (Some x) later h = omega (arith, h, hit_few k i.name.start, of_sum k (place.property_here offset i) (total_of (place.property_here offset) is))

  owned : (ms : List Member) → total_of (place.constant_here offset) (flat_map constants_in ms) + total_of (place.property_here offset) (flat_map (properties_in true) ms)
      ≡ total_of (declared.own offset) ms
  owned [] = omega arith
  owned (m ∷ ms) = omega (
    arith,
    owned ms,
    total_append (place.constant_here offset) (constants_in m) (flat_map constants_in ms),
    total_append (place.property_here offset) (properties_in true m) (flat_map (properties_in true) ms),
  )

  class_few : (n : ℕ) (c : PlacedClass) → total_of placed_there (constant_codes (n, c)) + (total_of placed_there (static_codes (n, c)) + placed_there (initial_code (n, c))) ≤ class_sum c
  unfolding class_sum
  class_few n c = omega (
    arith,
    constants_few c.site.file (λ i. a_value i.value n) (flat_map constants_in (members_of c)),
    values_few c.site.file (λ i x. a_value x n) (flat_map (properties_in true) (members_of c)),
    ap (of_file c.site.file) (owned (members_of c)),
    of_sum c.site.file (total_of (place.constant_here offset) (flat_map constants_in (members_of c))) (total_of (place.property_here offset) (flat_map (properties_in true) (members_of c))),
  )

  classes_few : (n : ℕ) (cs : List PlacedClass) → total_of placed_there (flat_map constant_codes (numbered_from n cs))
      + (total_of placed_there (flat_map static_codes (numbered_from n cs)) + total_of placed_there (map initial_code (numbered_from n cs))) ≤ total_of class_sum cs
  classes_few n [] = omega arith
  classes_few n (c ∷ cs) = omega (
    arith,
    class_few n c,
    classes_few (suc n) cs,
    total_append placed_there (constant_codes (n, c)) (flat_map constant_codes (numbered_from (suc n) cs)),
    total_append placed_there (static_codes (n, c)) (flat_map static_codes (numbered_from (suc n) cs)),
  )

  -- ---- all code, and all static variables

  codes_few : (p : Program) → total_of placed_there (all_codes p) + total_of (hit there) (filter_map static_declaration (all_declarations p)) ≤ total_of weight (all_declarations p)
  codes_few p = omega (
    arith,
    bodies (class_declarations p) (all_declarations p),
    statics (all_declarations p),
    classes (all_declarations p),
    classes_few 0 (class_declarations p),
    all_weights (all_declarations p),
    total_append placed_there (filter_map (body_code (class_declarations p)) (all_declarations p)) rest,
    total_append placed_there (flat_map constant_codes (numbered_from 0 (class_declarations p))) last,
    total_append placed_there (flat_map static_codes (numbered_from 0 (class_declarations p))) (map initial_code (numbered_from 0 (class_declarations p))),
  )
    where
      last : List Placed
      last = flat_map static_codes (numbered_from 0 (class_declarations p)) ++ map initial_code (numbered_from 0 (class_declarations p))

      rest : List Placed
      rest = flat_map constant_codes (numbered_from 0 (class_declarations p)) ++ last

  -- ---- files: at most one begins in each, and one file is this one

  in_file : (k : ℕ) (ds : Found) → total_of weight (map (λ d. (k, d)) ds) ≡ of_file k (declared.weights offset ds)
  in_file k [] = sym (of_none k)
  in_file k (d ∷ ds) = omega (arith, in_file k ds, of_sum k (declared.weight offset d) (declared.weights offset ds))

  abbrev AreFew : List File → Type 0
  AreFew fs = AllByRecursion (λ (f : File). declared.weights offset (file_declarations f) ≤ 1) fs

  abbrev placements : ℕ × File → List Placement
  placements f = map (λ d. (f.0, d)) (file_declarations f.1)

  abbrev total_from : ℕ → List File → ℕ
  total_from n fs = total_of weight (flat_map placements (numbered_from n fs))

  of_this : (k w : ℕ) → ((k ≡ file) × (of_file k w ≡ w)) ⊎ ((k ≢ file) × (of_file k w ≡ 0))
  of_this k w = by_test (file == k) (λ e. grind (arith, nat_tests)) (λ e. grind (arith, nat_tests))
    where
      by_test : (b : Bool) → (b ≡ true → k ≡ file) → (b ≡ false → k ≢ file) → ((k ≡ file) × ((if b then w else 0) ≡ w)) ⊎ ((k ≢ file) × ((if b then w else 0) ≡ zero))
      by_test true p q = inl (p refl, refl)
      by_test false p q = inr (q refl, refl)

  files_few : (n : ℕ) (fs : List File) → AreFew fs → (total_from n fs ≤ 1) × (file < n → total_from n fs ≡ 0)
  files_few n [] few = (omega arith, λ h. refl)
  files_few n (f ∷ fs) few = by_place (of_this n (declared.weights offset (file_declarations f))) (files_few (suc n) fs few.1)
    where
      split : total_from n (f ∷ fs) ≡ of_file n (declared.weights offset (file_declarations f)) + total_from (suc n) fs
      split = omega (arith, total_append weight (placements (n, f)) (flat_map placements (numbered_from (suc n) fs)), in_file n (file_declarations f))

      by_place : ((n ≡ file) × (of_file n (declared.weights offset (file_declarations f)) ≡ declared.weights offset (file_declarations f)))
          ⊎ ((n ≢ file) × (of_file n (declared.weights offset (file_declarations f)) ≡ 0)) →
          (total_from (suc n) fs ≤ 1) × (file < suc n → total_from (suc n) fs ≡ 0) →
          (total_from n (f ∷ fs) ≤ 1) × (file < n → total_from n (f ∷ fs) ≡ 0)
      by_place (inl it) later = (omega (arith, split, it.1, few.0, later.1 (omega (arith, it.0))), λ h. absurd (omega (arith, it.0, h)))
      by_place (inr it) later = (omega (arith, split, it.1, later.0), λ h. omega (arith, split, it.1, later.1 (omega (arith, h))))

  -- the declarations of a source, with its sites numbered
  source_few : (files : Files) (path : List ℕ) (f : File) (n : ℕ) → IsSource files path f → declared.weights offset (file_declarations (sites.file f n).0) ≤ 1
  source_few files path f n source = omega (
    arith,
    declared.all_declared_few offset (each (map statement f.tree.statements) (suc n)).0,
    total_kept (place.placed offset) statement (place.placed_kept offset) f.tree.statements (suc n),
    place.file_places offset source.spells.is,
    starts_once offset f.bytes f.tokens source.reads.spells,
  )

  sources_few : (files : Files) (fs : List File) (n : ℕ) → AreSources files fs → AreFew (each (map sites.file fs) n).0
  sources_few files [] n a = tt
  sources_few files (f ∷ fs) n a = (source_few files a.0.0 f n a.0.1, sources_few files fs (sites.file f n).1 a.1)

  program_few : (files : Files) (sources : List File) (p : Program) → AreSources files sources → p.files ≡ numbered_files sources →
      total_of weight (all_declarations p) ≤ 1
  program_few files sources p a same = (files_few 0 p.files (subst AreFew (sym same) (sources_few files sources 0 a))).0

-- ---- the law

pub places_are_apart : (files : Files) (main : List ℕ) (p : Program) → IsProgramOf files main p → HasPlacesApart p
places_are_apart files main p source = record {
  codes = distinct (map (λ (c : Placed). c.site) (all_codes p)) (λ a. omega (
    arith,
    sites_of a (all_codes p),
    codes_few a.file a.offset p,
    program_few a.file a.offset files source.sources p (sources_of source.waves) source.numbered,
  ));
  statics = distinct (filter_map static_declaration (all_declarations p)) (λ a. omega (
    arith,
    codes_few a.file a.offset p,
    program_few a.file a.offset files source.sources p (sources_of source.waves) source.numbered,
  ));
}
