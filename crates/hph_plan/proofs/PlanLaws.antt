-- Literals lie where they are placed, slots tell names apart, and lists of a plan have each element once.
use Rattle.std.proofs.Common.{◌≡◌, ◌∙◌, ◌≤◌, ◌<◌, ◌+◌, ◌++◌, ◌||◌, ℕ, Bool, true, false, cond, List, [], ◌∷◌, length, take, drop, flat_map, map, Some, None, refl, sym, ap, subst, arith, get_or, bytes_eq}
use Rattle.std.specs.Prelude.{is_some}
use Rattle.std.proofs.lemmas.List.Quantifiers.{position-Some}
use Rattle.std.proofs.lemmas.List.Recursion.{is_position_or_len}
use Rattle.std.proofs.lemmas.Bool.Decides.{Decides-ltb}
use Rattle.hph_ast.specs.declared.function.Function.{out-Function}
use Rattle.hph_ast.specs.declared.function.Param.{Param}
use Rattle.hph_ast.specs.declared.program.Program.{Program}
use Rattle.std.specs.Cmp.{IsEquivalence}
use Rattle.std.specs.List.{concat, list_any, position_or_len, AllByRecursion, IsDistinct}
use Rattle.std.proofs.lemmas.Slice.Eq.{bytes_eq-Decides}
use Rattle.std.proofs.lemmas.List.{length-append}
use Rattle.std.proofs.lemmas.Map.Views.{list_any-from_Contains, Contains-from_any}
use Rattle.std.proofs.Math.Seq.{drop-append-add, take-append_seam}
use Rattle.hph_php.specs.State.{Name}
use Rattle.hph_plan.specs.Parts.{distinct, each_part, statement_parts}
use Rattle.hph_plan.specs.Plan.{place_in, slot_in, file_parts, texts_of, globals_of}
use Rattle.hph_plan.specs.Laws.{LiteralsLieAtTheirPlaces, LiteralsHavePlaces, NamesHaveSlots, SlotsAreApart, PlansListOnce, BodiesListOnce, ListsTheSame}

-- ---- tests of bytes

same : (a b : List ℕ) → bytes_eq a b ≡ true → a ≡ b
same a b e = (bytes_eq-Decides a b).0 e

itself : (a : List ℕ) → bytes_eq a a ≡ true
itself a = (bytes_eq-Decides a a).1 refl

either_way : (b c : Bool) → (b ≡ true → c ≡ true) → (c ≡ true → b ≡ true) → b ≡ c
either_way true c there back = sym (there refl)
either_way false true there back = back refl
either_way false false there back = refl

turned : (a b : List ℕ) → bytes_eq a b ≡ bytes_eq b a
turned a b = either_way (bytes_eq a b) (bytes_eq b a)
    (λ e. subst (λ c. bytes_eq c a ≡ true) (same a b e) (itself a)) (λ e. subst (λ c. bytes_eq c b ≡ true) (same b a e) (itself b))

is_equivalence : IsEquivalence bytes_eq
is_equivalence = record { refl = itself; symm = turned; congr = λ x y z e. ap (λ c. bytes_eq c z) (same x y e) }

abbrev has : List ℕ → List (List ℕ) → Bool
has x xs = list_any (bytes_eq x) xs

-- ---- literals

-- where a text lies that was placed
pub record Lies (texts : List (List ℕ)) (at : ℕ) (text : List ℕ) (place : ℕ) : Type 0 where
  pub before : ℕ
  pub from : place ≡ at + before
  pub fits : before + length text ≤ length (concat texts)
  pub bytes : take (length text) (drop before (concat texts)) ≡ text

some_is : (a b : ℕ) → Some a ≡ Some b → a ≡ b
some_is a b e = cc

first_lies : (t : List ℕ) (ts : List (List ℕ)) (at place : ℕ) → at ≡ place → Lies (t ∷ ts) at t place
first_lies t ts at place e = record {
  before = 0;
  from = let e : at ≡ place = e in grind (arith);
  fits = let l : length (t ++ concat ts) ≡ length t + length (concat ts) = length-append t (concat ts) in grind (arith);
  bytes = take-append_seam t (concat ts);
}

later_lies : (t : List ℕ) (ts : List (List ℕ)) (at : ℕ) (text : List ℕ) (place : ℕ) → Lies ts (at + length t) text place → Lies (t ∷ ts) at text place
later_lies t ts at text place l = record {
  before = length t + l.before;
  from = let e : place ≡ (at + length t) + l.before = l.from in grind (arith);
  fits =
      let f : l.before + length text ≤ length (concat ts) = l.fits in
      let n : length (t ++ concat ts) ≡ length t + length (concat ts) = length-append t (concat ts) in grind (arith);
  bytes = ap (take (length text)) (drop-append-add t (concat ts) l.before) ∙ l.bytes;
}

lies : (texts : List (List ℕ)) (at : ℕ) (text : List ℕ) (place : ℕ) → place_in texts at text ≡ Some place → Lies texts at text place
lies [] at text place is = let none : ⊥ = cc in absurd none
lies (t ∷ ts) at text place is = by_test (bytes_eq t text) (same t text) (λ is. lies ts (at + length t) text place is) is
  where
    by_test : (b : Bool) → (b ≡ true → t ≡ text) → (place_in ts (at + length t) text ≡ Some place → Lies ts (at + length t) text place) →
        cond b (Some at) (place_in ts (at + length t) text) ≡ Some place → Lies (t ∷ ts) at text place
    by_test true found rest is = subst (λ text. Lies (t ∷ ts) at text place) (found refl) (first_lies t ts at place (some_is at place is))
    by_test false found rest is = later_lies t ts at text place (rest is)

pub literals_lie : LiteralsLieAtTheirPlaces
literals_lie texts text place is = told (lies texts 0 text place is)
  where
    told : Lies texts 0 text place → (place + length text ≤ length (concat texts)) × (take (length text) (drop place (concat texts)) ≡ text)
    told l =
        let from : place ≡ 0 + l.before = l.from in
        let here : l.before ≡ place = grind (arith) in
        (subst (λ p. p + length text ≤ length (concat texts)) here l.fits, subst (λ p. take (length text) (drop p (concat texts)) ≡ text) here l.bytes)

placed : (texts : List (List ℕ)) (at : ℕ) (text : List ℕ) → has text texts ≡ true → is_some (place_in texts at text) ≡ true
placed [] at text is = let none : ⊥ = cc in absurd none
placed (t ∷ ts) at text is =
    by_test (bytes_eq t text) (λ is. placed ts (at + length t) text is) (subst (λ b. (b || has text ts) ≡ true) (turned text t) is)
  where
    by_test : (b : Bool) → (has text ts ≡ true → is_some (place_in ts (at + length t) text) ≡ true) → (b || has text ts) ≡ true →
        is_some (cond b (Some at) (place_in ts (at + length t) text)) ≡ true
    by_test true rest is = refl
    by_test false rest is = rest is

pub literals_have_places : LiteralsHavePlaces
literals_have_places texts text there = placed texts 0 text (list_any-from_Contains is_equivalence text texts there)

-- ---- slots

abbrev get_in : List Name → ℕ → Name
get_in names slot = get_or names slot []

is_at : (names : List Name) (name : Name) (slot : ℕ) → slot_in names name ≡ Some slot → name ≡ get_in names slot
is_at names name slot is = same name (get_in names slot) (position-Some (bytes_eq name) names slot [] is).1

pub slots_apart : SlotsAreApart
slots_apart names a b slot a_is b_is = is_at names a slot a_is ∙ sym (is_at names b slot b_is)

-- the first element that passes, or the end
abbrev first_at : (List ℕ → Bool) → List (List ℕ) → ℕ
first_at p [] = 0
first_at p (x ∷ xs) = cond (p x) 0 (1 + first_at p xs)

before_end : (p : List ℕ → Bool) (xs : List (List ℕ)) → list_any p xs ≡ true → first_at p xs < length xs
before_end p [] is = let none : ⊥ = cc in absurd none
before_end p (x ∷ xs) is = by_test (p x) (λ is. before_end p xs is) is
  where
    by_test : (b : Bool) → (list_any p xs ≡ true → first_at p xs < length xs) → (b || list_any p xs) ≡ true →
        cond b 0 (1 + first_at p xs) < length (x ∷ xs)
    by_test true rest is = grind (arith)
    by_test false rest is = let below : first_at p xs < length xs = rest is in grind (arith)

found : (names : List Name) (name : Name) → has name names ≡ true → is_some (slot_in names name) ≡ true
found names name is =
    let p = bytes_eq name in
    let at : first_at p names ≡ position_or_len p names = is_position_or_len (first_at p) p refl (λ x xs. refl) names in
    let below : position_or_len p names < length names = subst (λ k. k < length names) at (before_end p names is) in
    ap (λ b. is_some (cond b (Some (position_or_len p names)) None)) ((Decides-ltb (position_or_len p names) (length names)).1 below)

pub names_found : NamesHaveSlots
names_found names name there = found names name (list_any-from_Contains is_equivalence name names there)

-- ---- lists with each element once

-- what is known isn't what isn't
unlike : (known : List (List ℕ)) (x y : List ℕ) → has x known ≡ true → has y known ≡ false → bytes_eq x y ≡ false
unlike known x y x_is y_is = by_test (bytes_eq x y) (same x y)
  where
    by_test : (b : Bool) → (b ≡ true → x ≡ y) → b ≡ false
    by_test true are = let none : true ≡ false = sym x_is ∙ (ap (λ z. has z known) (are refl) ∙ y_is) in absurd (cc)
    by_test false are = refl

either_known : (b : Bool) (rest : Bool) → rest ≡ true → (b || rest) ≡ true
either_known true rest is = refl
either_known false rest is = is

abbrev Apart : List ℕ → List (List ℕ) → Type 0
Apart x zs = AllByRecursion (λ z. bytes_eq x z ≡ false) zs

none_again : (known : List (List ℕ)) (x : List ℕ) (xs : List (List ℕ)) → has x known ≡ true → Apart x (distinct known xs)
none_again known x [] is = tt
none_again known x (y ∷ ys) is = by_test (has y known) refl (none_again known x ys is)
    (none_again (y ∷ known) x ys (either_known (bytes_eq x y) (has x known) is))
  where
    by_test : (b : Bool) → has y known ≡ b → Apart x (distinct known ys) → Apart x (distinct (y ∷ known) ys) →
        Apart x (cond b (distinct known ys) (y ∷ distinct (y ∷ known) ys))
    by_test true y_is passed more = passed
    by_test false y_is passed more = (unlike known x y is y_is, more)

listed_once : (known xs : List (List ℕ)) → IsDistinct bytes_eq (distinct known xs)
unfolding IsDistinct
listed_once known [] = tt
listed_once known (y ∷ ys) = by_test (has y known) (listed_once known ys) (listed_once (y ∷ known) ys)
  where
    by_test : (b : Bool) → IsDistinct bytes_eq (distinct known ys) → IsDistinct bytes_eq (distinct (y ∷ known) ys) →
        IsDistinct bytes_eq (cond b (distinct known ys) (y ∷ distinct (y ∷ known) ys))
    by_test true passed more = passed
    by_test false passed more = (none_again (y ∷ known) y ys (ap (λ b. (b || has y known)) (itself y)), more)

pub plans_list_once : PlansListOnce
plans_list_once p = (texts_once p, globals_once p)
  where
    texts_once : (p : Program) → IsDistinct bytes_eq (texts_of p)
    texts_once p = listed_once [] (flat_map (λ f. (file_parts f).texts) p.files)

    globals_once : (p : Program) → IsDistinct bytes_eq (globals_of p)
    globals_once p = listed_once [] (flat_map (λ f. (file_parts f).variables) p.files ++ flat_map (λ f. (file_parts f).globals) p.files)

pub bodies_list_once : BodiesListOnce
bodies_list_once f = listed_once [] (map (λ (p : Param). p.name.spelled) (out-Function f).params
    ++ (each_part (statement_parts []) (out-Function f).body).variables)

-- what isn't known yet stays
kept : (known : List (List ℕ)) (x : List ℕ) (xs : List (List ℕ)) → has x xs ≡ true → has x known ≡ false → has x (distinct known xs) ≡ true
kept known x [] is unknown = let none : ⊥ = cc in absurd none
kept known x (y ∷ ys) is unknown = by_tests (bytes_eq x y) (has y known) refl refl (λ is. kept known x ys is unknown)
    (λ is more. kept (y ∷ known) x ys is more) is
  where
    by_tests : (b k : Bool) → bytes_eq x y ≡ b → has y known ≡ k → (has x ys ≡ true → has x (distinct known ys) ≡ true) →
        (has x ys ≡ true → has x (y ∷ known) ≡ false → has x (distinct (y ∷ known) ys) ≡ true) → (b || has x ys) ≡ true →
        has x (cond k (distinct known ys) (y ∷ distinct (y ∷ known) ys)) ≡ true
    by_tests true true b_is k_is passed more is =
        let none : true ≡ false = sym k_is ∙ (ap (λ z. has z known) (sym (same x y b_is)) ∙ unknown) in absurd (cc)
    by_tests true false b_is k_is passed more is = ap (λ b. (b || has x (distinct (y ∷ known) ys))) b_is
    by_tests false true b_is k_is passed more is = passed is
    by_tests false false b_is k_is passed more is = ap (λ b. (b || has x (distinct (y ∷ known) ys))) b_is
        ∙ more is (ap (λ b. (b || has x known)) b_is ∙ unknown)

none_new : (known : List (List ℕ)) (x : List ℕ) (xs : List (List ℕ)) → has x (distinct known xs) ≡ true → has x xs ≡ true
none_new known x [] is = is
none_new known x (y ∷ ys) is = by_test (has y known) (λ is. none_new known x ys is) (λ is. none_new (y ∷ known) x ys is) is
  where
    by_equal : (b : Bool) → (has x (distinct (y ∷ known) ys) ≡ true → has x ys ≡ true) → (b || has x (distinct (y ∷ known) ys)) ≡ true →
        (b || has x ys) ≡ true
    by_equal true more is = refl
    by_equal false more is = more is

    by_test : (k : Bool) → (has x (distinct known ys) ≡ true → has x ys ≡ true) → (has x (distinct (y ∷ known) ys) ≡ true → has x ys ≡ true) →
        has x (cond k (distinct known ys) (y ∷ distinct (y ∷ known) ys)) ≡ true → has x (y ∷ ys) ≡ true
    by_test true passed more is = either_known (bytes_eq x y) (has x ys) (passed is)
    by_test false passed more is = by_equal (bytes_eq x y) more is

pub lists_same : ListsTheSame
lists_same xs x = (
  λ there. Contains-from_any same x (distinct [] xs) (kept [] x xs (list_any-from_Contains is_equivalence x xs there) refl),
  λ there. Contains-from_any same x xs (none_new [] x xs (list_any-from_Contains is_equivalence x (distinct [] xs) there)),
)
