-- Where the slashes of a path stand.
use Rattle.std.proofs.Common.{◌≡◌, ◌≢◌, refl, sym, ap, ◌∙◌, ◌==◌, ◌&&◌, ℕ, suc, zero, List, [], ◌∷◌, ◌<◌, length, take, Bool, true, false, Some, None, codes, get_or, arith, if◌then◌else◌}
use Rattle.std.specs.List.{slice_split, onto_first, position_or_len, before_first, after_first}
use Rattle.std.proofs.lemmas.List.Splits.{slice_split_first, slice_split_none}
use Rattle.std.proofs.lemmas.List.Sums.{fails_before_first}
use Rattle.std.proofs.lemmas.Bool.{ne_eqb}
use Rattle.hph_php.specs.StringFunctions.{explode, pieces}
use Rattle.hph_php.specs.StringFunctions.{onto_first as onto}
use Rattle.hph_php.specs.Includes.{before_last, folder}

-- ---- segments

same_onto : (b : ℕ) (ps : List (List ℕ)) → onto b ps ≡ onto_first b ps
same_onto b [] = refl
same_onto b (p ∷ ps) = refl

one_more : (b : ℕ) (bs : List ℕ) (is_slash : Bool) → pieces (codes "/") 0 bs ≡ slice_split (λ b. b == 47) bs →
    (if is_slash && true then [] ∷ pieces (codes "/") 0 bs else onto b (pieces (codes "/") 0 bs))
    ≡ (if is_slash then [] ∷ slice_split (λ b. b == 47) bs else onto_first b (slice_split (λ b. b == 47) bs))
one_more b bs true same = ap (λ ps. [] ∷ ps) same
one_more b bs false same = same_onto b (pieces (codes "/") 0 bs) ∙ ap (onto_first b) same

either_way : (b : ℕ) → (47 == b) ≡ (b == 47)
either_way b = grind arith

explode_is_split : (bs : List ℕ) → explode (codes "/") bs ≡ slice_split (λ b. b == 47) bs
explode_is_split [] = refl
explode_is_split (b ∷ bs) = rw (either_way b) (one_more b bs (b == 47) (explode_is_split bs))

-- ---- folders

is_no_slash : (b : ℕ) → b ≢ 47 → (b == 47) ≡ false
is_no_slash b differs = ne_eqb b 47 differs

pub no_slash : (bs : List ℕ) → ((i : ℕ) → i < length bs → get_or bs i 0 ≢ 47) → before_last bs ≡ None
no_slash [] none = refl
no_slash (b ∷ bs) none =
    let rest = no_slash bs (λ i l. none (suc i) (omega (arith, l))) in
    rw (rest, is_no_slash b (none 0 (omega arith))) refl

pub last_slash : (bs : List ℕ) (k : ℕ) → k < length bs → get_or bs k 0 ≡ 47 →
    ((i : ℕ) → k < i → i < length bs → get_or bs i 0 ≢ 47) → before_last bs ≡ Some (take k bs)
last_slash [] k l is none = absurd (omega (arith, l))
last_slash (b ∷ bs) zero l is none =
    let rest = no_slash bs (λ i l. none (suc i) (omega arith) (omega (arith, l))) in
    rw (rest, is) refl
last_slash (b ∷ bs) (suc k) l is none =
    let rest = last_slash bs k (omega (arith, l)) is (λ i after l. none (suc i) (omega (arith, after)) (omega (arith, l))) in
    rw rest refl

pub root_folder : (bs : List ℕ) (k : ℕ) → k ≡ 0 → k < length bs → get_or bs k 0 ≡ 47 →
    ((i : ℕ) → k < i → i < length bs → get_or bs i 0 ≢ 47) → codes "/" ≡ folder bs
root_folder bs k first within is none = rw (last_slash bs k within is none, first) refl

pub folder_before : (bs : List ℕ) (k : ℕ) → (k ≡ 0 → ⊥) → k < length bs → get_or bs k 0 ≡ 47 →
    ((i : ℕ) → k < i → i < length bs → get_or bs i 0 ≢ 47) → take k bs ≡ folder bs
folder_before [] k some within is none = absurd (omega (arith, within))
folder_before (b ∷ bs) zero some within is none = absurd (some refl)
folder_before (b ∷ bs) (suc k) some within is none = rw (last_slash (b ∷ bs) (suc k) within is none) refl

-- ---- the first slash

pub one_segment : (bs : List ℕ) → position_or_len (λ b. b == 47) bs ≡ length bs → explode (codes "/") bs ≡ bs ∷ []
one_segment bs none = explode_is_split bs ∙ slice_split_none (λ b. b == 47) bs (λ i d l. fails_before_first (λ b. b == 47) bs i d (omega (arith, none, l)))

pub first_segment : (bs : List ℕ) → position_or_len (λ b. b == 47) bs < length bs →
    explode (codes "/") bs ≡ before_first (λ b. b == 47) bs ∷ explode (codes "/") (after_first (λ b. b == 47) bs)
first_segment bs some = explode_is_split bs ∙ slice_split_first (λ b. b == 47) bs 0 some
    ∙ ap (λ rest. before_first (λ b. b == 47) bs ∷ rest) (sym (explode_is_split (after_first (λ b. b == 47) bs)))

pub cut_at : (bs front back : List ℕ) → position_or_len (λ b. b == 47) bs < length bs → front ≡ before_first (λ b. b == 47) bs →
    back ≡ after_first (λ b. b == 47) bs → explode (codes "/") bs ≡ front ∷ explode (codes "/") back
cut_at bs front back some front_is back_is = rw (front_is, back_is) (first_segment bs some)
