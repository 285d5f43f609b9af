-- A name more in a set.
use Rattle.std.specs.Prelude.{◌≡◌, ℕ, Bool, true, false, ◌||◌, List, [], ◌∷◌, ◌++◌, map, not, refl, bytes_eq, Option, Some, if◌then◌else◌}
use Rattle.std.proofs.Common.{ap, sym, subst, ◌∙◌, arith}
use Rattle.std.specs.List.{list_any}
use Rattle.std.specs.Option.{option_map}
use Rattle.std.specs.Global.{Vec}
use Rattle.std.specs.Char.{to_ascii_lowercase}
use Rattle.std.proofs.lemmas.Bool.Decides.{nat_tests}
use Rattle.std.proofs.lemmas.List.Folds.{list_any-append}
use Rattle.std.proofs.lemmas.List.{map-append}
use lib.Pointwise.{bytes_decides}
use Rattle.indexmap.specs.IndexSet.{insert_key}
use Rattle.hph_ast.specs.Bytes.{lower}
use Rattle.hph_names.specs.declared.met.Case.{Case}
use Rattle.hph_names.specs.Names.{folded, is_same, spelled, Knows}

lowered : (b : ℕ) → to_ascii_lowercase b ≡ lower b
lowered b = grind (arith, nat_tests)

pub lowered_all : (bs : List ℕ) → map to_ascii_lowercase bs ≡ map lower bs
lowered_all [] = refl
lowered_all (b ∷ bs) = let head = lowered b in let tail = lowered_all bs in cc

-- a test of spellings
pub any_spelled : {A : Type 0} (items : A → List ℕ) (test : List ℕ → Bool) (names : List A) → list_any (λ n. test (items n)) names ≡ list_any test (map items names)
any_spelled items test [] = refl
any_spelled items test (n ∷ names) = ap (λ r. test (items n) || r) (any_spelled items test names)

-- what is true of one more that is there already
there : (names : List (List ℕ)) (name other : List ℕ) → list_any (bytes_eq name) names ≡ true → list_any (bytes_eq other) names ≡ (list_any (bytes_eq other) names || bytes_eq other name)
there names name other h = either (bytes_eq other name) refl
  where
    nothing : (a : Bool) → a ≡ (a || false)
    nothing true = refl
    nothing false = refl

    all : (a : Bool) → a ≡ true → a ≡ (a || true)
    all true e = refl
    all false e = e

    either : (b : Bool) → bytes_eq other name ≡ b → list_any (bytes_eq other) names ≡ (list_any (bytes_eq other) names || b)
    either false e = nothing (list_any (bytes_eq other) names)
    either true e = all (list_any (bytes_eq other) names) (ap (λ n. list_any (bytes_eq n) names) ((bytes_decides other name).0 e) ∙ h)

-- one name more
pub any_inserted : {A : Type 0} (items : A → List ℕ) (names : List A) (name : A) (other : List ℕ) →
    list_any (bytes_eq other) (map items (insert_key (λ l r. bytes_eq (items l) (items r)) names name)) ≡ (list_any (bytes_eq other) (map items names) || bytes_eq other (items name))
any_inserted items names name other = either (list_any (λ r. bytes_eq (items name) (items r)) names) refl
  where
    last : (a b : Bool) → (a || (b || false)) ≡ (a || b)
    last a true = refl
    last a false = refl

    either : (is_there : Bool) → list_any (λ r. bytes_eq (items name) (items r)) names ≡ is_there →
        list_any (bytes_eq other) (map items (if is_there then names else names ++ name ∷ [])) ≡ (list_any (bytes_eq other) (map items names) || bytes_eq other (items name))
    either true e = there (map items names) (items name) other (sym (any_spelled items (bytes_eq (items name)) names) ∙ e)
    either false e = ap (list_any (bytes_eq other)) (map-append items names (name ∷ [])) ∙ list_any-append (bytes_eq other) (map items names) (items name ∷ [])
        ∙ last (list_any (bytes_eq other) (map items names)) (bytes_eq other (items name))

-- whether a set has a name, and what it has after a name more
pub has_name : (names : List (Vec ℕ)) (name : Vec ℕ) → list_any (λ (n : Vec ℕ). bytes_eq name.items n.items) names ≡ list_any (bytes_eq name.items) (spelled names)
has_name names name = any_spelled (λ (n : Vec ℕ). n.items) (bytes_eq name.items) names

pub has_one_more : (names : List (Vec ℕ)) (name : Vec ℕ) (other : List ℕ) →
    list_any (bytes_eq other) (spelled (insert_key (λ (l r : Vec ℕ). bytes_eq l.items r.items) names name)) ≡ (list_any (bytes_eq other) (spelled names) || bytes_eq other name.items)
has_one_more names name other = any_inserted (λ (n : Vec ℕ). n.items) names name other

-- a name more, of those that were met
pub any_met : (case : Case) (kept before : List (List ℕ)) (name other : List ℕ) →
    list_any (bytes_eq (folded case other)) kept ≡ list_any (is_same case other) before →
    (list_any (bytes_eq (folded case other)) kept || bytes_eq (folded case other) (folded case name)) ≡ list_any (is_same case other) (before ++ name ∷ [])
any_met case kept before name other h =
    ap (λ a. a || is_same case other name) h ∙ sym (list_any-append (is_same case other) before (name ∷ []) ∙ last (list_any (is_same case other) before) (is_same case other name))
  where
    last : (a b : Bool) → (a || (b || false)) ≡ (a || b)
    last a true = refl
    last a false = refl

-- what is known of names that are at hand
pub knows_kept : {A : Type 0} (case : Case) (f : A → List (List ℕ)) (maybe : Option A) (kept : A) (seen : Case × Option (List (List ℕ))) (names : List (List ℕ)) →
    maybe ≡ Some kept → (case, option_map f maybe) ≡ seen → Knows seen names → Knows (case, Some (f kept)) names
knows_kept case f maybe kept seen names is view k =
    subst (λ (s : Case × Option (List (List ℕ))). Knows s names) (sym view ∙ ap (λ m. (case, option_map f m)) is) k

-- a name that isn't new was there
pub not_new : (is_new is_there : Bool) → is_new ≡ not is_there → not is_new ≡ is_there
not_new is_new true e = ap not e
not_new is_new false e = ap not e
