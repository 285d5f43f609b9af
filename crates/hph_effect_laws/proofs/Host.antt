-- The host as a whole, from its rows.
use Rattle.std.proofs.Common.{◌≡◌, ◌≢◌, ℕ, suc, ◌+◌, Bool, true, false, List, [], ◌∷◌, length, Option, None, Some, ◌<◌, ◌∙◌, cond, refl, sym, subst, ap, arith}
use Rattle.std.proofs.lemmas.Bool.Decides.{nat_tests}
use Rattle.std.specs.List.{position_or_len}
use Rattle.std.specs.Prelude.{position, slice_get, find, not, nat_lt, bytes_eq, ◌&&◌, ◌==◌, if◌then◌else◌}
use Rattle.std.specs.Cmp.Lexicographic.{pointwise}
use Rattle.std.specs.Option.{option_map_or}
use Rattle.std.proofs.lemmas.List.{append-nil}
use Rattle.hph_wasm.specs.declared.types.ValType.{ValType}
use Rattle.hph_wasm.specs.declared.types.ValType.TheVariants.{I32, I64}
use Rattle.hph_wasm.specs.declared.types.FuncType.{FuncType}
use Rattle.hph_wasm.specs.Outcome.{IsPrefix}
use Rattle.hph_wasm.specs.Configuration.{Goes, Stops}
use Rattle.hph_wasm.specs.Run.{KeepsOutput, NeverTakesBack}
use Rattle.hph_wasm.specs.HostAnswers.{FitsResult, ResultsFit, HaveOneType}
use Rattle.hph_php.specs.declared.fatal.Fatal.TheVariants.{Misuse}
use Rattle.hph_php.specs.Answers.{Stop, Fails}
use Rattle.hph_php.specs.Imports.{Import, imports, host_name, import_row, is_same, is_same_type}
use Rattle.hph_effects.specs.declared.row.Row.{Row}
use Rattle.hph_effects.specs.Hosts.{HostState, HostStatus, Serving, Halted, Replied, found, misuse}
use Rattle.hph_effects.specs.Rows.{row_number, all_rows, row_with}
use Rattle.hph_effects.specs.Effects.{Effect, plain, of_one, of_long, of_two, of_four, of_five, of_text, params_of, applied, effect_of, call_row, effect, output_of, php1, results_of}
use Rattle.hph_effect_laws.specs.Below.{Below, over, IsAbove, LeavesBelow}
use Rattle.hph_effect_laws.specs.Laws.{CountsArguments, StaysHalted, EndsHalted, GoesServing}
use Rattle.hph_effect_laws.proofs.Sound.{FitsGiven, Holds}
use Rattle.hph_effect_laws.proofs.RowsAreSound.{row_sound}

itself : (out : List ℕ) → IsPrefix out out
itself out = ([], sym (append-nil out))

-- ---- one row

is_above : (b : Below) (out : List ℕ) (results : List ValType) (reply over_reply : Replied) → Holds b out results reply over_reply → IsAbove b reply over_reply
is_above b out results (Goes (Serving h) result) over_reply (grew, (fits, same)) = same
is_above b out results (Goes (Halted o stop) result) over_reply none = absurd none
is_above b out results (Stops (Serving h) reason) over_reply none = absurd none
is_above b out results (Stops (Halted o stop) reason) over_reply (grew, (ended, same)) = same

pub leaves_below : LeavesBelow
leaves_below row b h covers args memory = is_above b h.core.out (results_of row) (call_row row h args memory) (call_row row (over b h) args memory)
    (row_sound row h (record { grew = itself h.core.out; covers = covers }) args memory).holds

nothing_below : Below
nothing_below = record { stack = []; holds = []; frames = [] }

-- what holds of a reply alone
abbrev Kept : List ℕ → List ValType → Replied → Type 0
Kept out results (Goes (Serving h) result) = IsPrefix out h.core.out × FitsGiven results result
Kept out results (Goes (Halted o stop) result) = ⊥
Kept out results (Stops (Serving h) reason) = ⊥
Kept out results (Stops (Halted o stop) reason) = IsPrefix out o × (stop ≡ reason)

kept : (out : List ℕ) (results : List ValType) (reply over_reply : Replied) → Holds nothing_below out results reply over_reply → Kept out results reply
kept out results (Goes (Serving h) result) over_reply (grew, (fits, same)) = (grew, fits)
kept out results (Goes (Halted o stop) result) over_reply none = absurd none
kept out results (Stops (Serving h) reason) over_reply none = absurd none
kept out results (Stops (Halted o stop) reason) over_reply (grew, (ended, same)) = (grew, ended)

row_kept : (row : Row) (h : HostState) (args memory : List ℕ) → Kept h.core.out (results_of row) (call_row row h args memory)
unfolding nothing_below
row_kept row h args memory = kept h.core.out (results_of row) (call_row row h args memory) (call_row row (over nothing_below h) args memory)
    (row_sound row h (record { grew = itself h.core.out; covers = tt }) args memory).holds

counts : (e : Effect) (h : HostState) (args memory : List ℕ) → length args ≢ length (params_of e) → applied e h args memory ≡ misuse h
counts (plain go) h [] memory other = absurd (other refl)
counts (plain go) h (n ∷ args) memory other = refl
counts (of_one go) h [] memory other = refl
counts (of_one go) h (n ∷ []) memory other = absurd (other refl)
counts (of_one go) h (n ∷ m ∷ args) memory other = refl
counts (of_long go) h [] memory other = refl
counts (of_long go) h (n ∷ []) memory other = absurd (other refl)
counts (of_long go) h (n ∷ m ∷ args) memory other = refl
counts (of_two go) h [] memory other = refl
counts (of_two go) h (n ∷ []) memory other = refl
counts (of_two go) h (n ∷ m ∷ []) memory other = absurd (other refl)
counts (of_two go) h (n ∷ m ∷ l ∷ args) memory other = refl
counts (of_text go) h [] memory other = refl
counts (of_text go) h (n ∷ []) memory other = refl
counts (of_text go) h (n ∷ m ∷ []) memory other = absurd (other refl)
counts (of_text go) h (n ∷ m ∷ l ∷ args) memory other = refl
counts (of_four go) h [] memory other = refl
counts (of_four go) h (k ∷ []) memory other = refl
counts (of_four go) h (k ∷ p ∷ []) memory other = refl
counts (of_four go) h (k ∷ p ∷ m ∷ []) memory other = refl
counts (of_four go) h (k ∷ p ∷ m ∷ n ∷ []) memory other = absurd (other refl)
counts (of_four go) h (k ∷ p ∷ m ∷ n ∷ l ∷ args) memory other = refl
counts (of_five go) h [] memory other = refl
counts (of_five go) h (k ∷ []) memory other = refl
counts (of_five go) h (k ∷ p ∷ []) memory other = refl
counts (of_five go) h (k ∷ p ∷ m ∷ []) memory other = refl
counts (of_five go) h (k ∷ p ∷ m ∷ n ∷ []) memory other = refl
counts (of_five go) h (k ∷ p ∷ m ∷ n ∷ decl ∷ []) memory other = absurd (other refl)
counts (of_five go) h (k ∷ p ∷ m ∷ n ∷ decl ∷ l ∷ args) memory other = refl

pub counts_arguments : CountsArguments
counts_arguments row h args memory other = counts (effect_of row) h args memory other

-- ---- types

fits : (results : List ValType) (result : Option ℕ) (s : HostStatus) → FitsGiven results result → FitsResult {E = Stop} results (Goes s result)
fits [] None s given = given
fits [] (Some n) s given = absurd given
fits (ty ∷ []) None s given = absurd given
fits (ty ∷ []) (Some n) s given = given
fits (ty ∷ other ∷ more) None s given = absurd given
fits (ty ∷ other ∷ more) (Some n) s given = absurd given

stops_fit : (results : List ValType) (s : HostStatus) (reason : Stop) → FitsResult results (Stops s reason)
stops_fit [] s reason = tt
stops_fit (ty ∷ []) s reason = tt
stops_fit (ty ∷ other ∷ more) s reason = tt

reply_fits : (out : List ℕ) (results : List ValType) (reply : Replied) → Kept out results reply → FitsResult results reply
reply_fits out results (Goes (Serving h) result) (grew, given) = fits results result (Serving h) given
reply_fits out results (Goes (Halted o stop) result) none = absurd none
reply_fits out results (Stops s reason) k = stops_fit results s reason

same_types : (ts us : List ValType) → pointwise is_same ts us ≡ true → ts ≡ us
same_types [] [] is = refl
same_types [] (u ∷ us) is = let none : ⊥ = cc in absurd none
same_types (t ∷ ts) [] is = let none : ⊥ = cc in absurd none
same_types (I32 ∷ ts) (I32 ∷ us) is = ap (λ xs. I32 ∷ xs) (same_types ts us is)
same_types (I64 ∷ ts) (I64 ∷ us) is = ap (λ xs. I64 ∷ xs) (same_types ts us is)
same_types (I32 ∷ ts) (I64 ∷ us) is = let none : ⊥ = cc in absurd none
same_types (I64 ∷ ts) (I32 ∷ us) is = let none : ⊥ = cc in absurd none

both : (a b : Bool) → (a && b) ≡ true → (a ≡ true) × (b ≡ true)
both true b is = (refl, is)
both false b is = let none : ⊥ = cc in absurd none

of_lists : List ValType → List ValType → FuncType
of_lists params results = record { params = params; results = results }

same_type : (t u : FuncType) → is_same_type t u ≡ true → t ≡ u
unfolding of_lists
same_type t u is =
    let (params, results) = both (pointwise is_same t.params u.params) (pointwise is_same t.results u.results) is in
    let p : t.params ≡ u.params = same_types t.params u.params params in
    let q : t.results ≡ u.results = same_types t.results u.results results in
    cong_types t u p q
  where
    cong_types : (t u : FuncType) → t.params ≡ u.params → t.results ≡ u.results → t ≡ u
    cong_types t u p q = ap (λ ps. of_lists ps t.results) p ∙ ap (of_lists u.params) q

-- ---- look-ups

module _ {X : Type 0} (p : X → Bool) where
  place_behind : (x : X) (xs : List X) (b : Bool) → p x ≡ b → cond (not b) (1 + position_or_len p xs) 0 < suc (length xs) →
      (position_or_len p xs < length xs → (y : X) × ((slice_get xs (position_or_len p xs) ≡ Some y) × (p y ≡ true))) →
      (y : X) × ((slice_get (x ∷ xs) (cond (not b) (1 + position_or_len p xs) 0) ≡ Some y) × (p y ≡ true))
  place_behind x xs true is within behind = (x, (refl, is))
  place_behind x xs false is within behind =
      let e : suc (position_or_len p xs) ≡ 1 + position_or_len p xs = omega arith in
      subst (λ k. (y : X) × ((slice_get (x ∷ xs) k ≡ Some y) × (p y ≡ true))) e (behind (omega (arith, within)))

  at_position : (xs : List X) → position_or_len p xs < length xs → (x : X) × ((slice_get xs (position_or_len p xs) ≡ Some x) × (p x ≡ true))
  at_position [] within = absurd (omega (arith, within))
  at_position (x ∷ xs) within = place_behind x xs (p x) refl within (at_position xs)

  some_place : (xs : List X) (n : ℕ) → position p xs ≡ Some n → (x : X) × ((slice_get xs n ≡ Some x) × (p x ≡ true))
  some_place xs n is = by_test (nat_lt (position_or_len p xs) (length xs)) refl is
    where
      by_test : (b : Bool) → nat_lt (position_or_len p xs) (length xs) ≡ b → cond b (Some (position_or_len p xs)) None ≡ Some n →
          (x : X) × ((slice_get xs n ≡ Some x) × (p x ≡ true))
      by_test true within same = let e : position_or_len p xs ≡ n = cc in
          subst (λ k. (x : X) × ((slice_get xs k ≡ Some x) × (p x ≡ true))) e (at_position xs (grind (arith, nat_tests, within)))
      by_test false within same = let none : ⊥ = cc in absurd none

  passes_behind : (y : X) (b : Bool) → p y ≡ b → (rest : Option X) (x : X) → cond b (Some y) rest ≡ Some x →
      (rest ≡ Some x → p x ≡ true) → p x ≡ true
  passes_behind y true passes rest x same behind = let e : y ≡ x = cc in subst (λ z. p z ≡ true) e passes
  passes_behind y false passes rest x same behind = behind same

  found_passes : (xs : List X) (x : X) → find p xs ≡ Some x → p x ≡ true
  found_passes [] x is = let none : ⊥ = cc in absurd none
  found_passes (y ∷ ys) x is = passes_behind y (p y) refl (find p ys) x is (found_passes ys x)

-- the row of an import, and its type
row_of_import : (host name : List ℕ) (ty : FuncType) (n : ℕ) → import_row host name ty ≡ Some n →
    (i : Import) × ((slice_get imports n ≡ Some i) × (i.type ≡ ty))
row_of_import host name ty n is = by_host (bytes_eq host host_name) is
  where
    by_host : (b : Bool) → (if b then position (λ (i : Import). bytes_eq i.name name && is_same_type i.type ty) imports else None) ≡ Some n →
        (i : Import) × ((slice_get imports n ≡ Some i) × (i.type ≡ ty))
    by_host false is = let none : ⊥ = cc in absurd none
    by_host true is =
        let (i, (there, passes)) = some_place (λ (i : Import). bytes_eq i.name name && is_same_type i.type ty) imports n is in
        (i, (there, same_type i.type ty (both (bytes_eq i.name name) (is_same_type i.type ty) passes).1))

pub have_one_type : HaveOneType php1
have_one_type host name other_host other_name ty other n is other_is =
    let (i, (there, same)) = row_of_import host name ty n is in
    let (j, (other_there, other_same)) = row_of_import other_host other_name other n other_is in
    let e : i ≡ j = some_same i j (sym there ∙ other_there) in
    sym same ∙ ap (λ (i : Import). i.type) e ∙ other_same
  where
    some_same : (i j : Import) → ◌≡◌ {A = Option Import} (Some i) (Some j) → i ≡ j
    some_same i j e = cc

number_of : (n : ℕ) (row : Row) → row_with n ≡ Some row → row_number row ≡ n
number_of n row is = grind (arith, nat_tests, found_passes (λ row. row_number row == n) all_rows row is)

-- a call on a host that serves
serves : (n : ℕ) (h : HostState) (args memory : List ℕ) → (P : Replied → Type 0) → P (misuse h) →
    ((row : Row) → row_number row ≡ n → P (call_row row h args memory)) → P (effect n (Serving h) args memory)
serves n h args memory P none some = by_row (row_with n) (number_of n)
  where
    by_row : (o : Option Row) → ((row : Row) → o ≡ Some row → row_number row ≡ n) → P (found o h (λ row. call_row row h args memory))
    by_row None goes = none
    by_row (Some row) goes = some row (goes row refl)

pub results_fit : ResultsFit php1
results_fit host name ty n is (Halted out stop) args memory = stops_fit ty.results (Halted out stop) stop
results_fit host name ty n is (Serving h) args memory = serves n h args memory (FitsResult ty.results)
    (stops_fit ty.results (Halted h.core.out (Fails Misuse)) (Fails Misuse))
    (λ row numbered. subst (λ results. FitsResult results (call_row row h args memory)) (its_results row numbered)
    (reply_fits h.core.out (results_of row) (call_row row h args memory) (row_kept row h args memory)))
  where
    its_results : (row : Row) → row_number row ≡ n → results_of row ≡ ty.results
    its_results row numbered =
        let (i, (there, same)) = row_of_import host name ty n is in
        let e : slice_get imports (row_number row) ≡ Some i = ap (slice_get imports) numbered ∙ there in
        ap (λ o. option_map_or (λ (i : Import). i.type.results) o []) e ∙ ap (λ (t : FuncType). t.results) same

keeps : (out : List ℕ) (results : List ValType) (reply : Replied) → Kept out results reply → KeepsOutput php1 out reply
keeps out results (Goes (Serving h) result) (grew, given) = grew
keeps out results (Goes (Halted o stop) result) none = absurd none
keeps out results (Stops (Serving h) reason) none = absurd none
keeps out results (Stops (Halted o stop) reason) (grew, ended) = grew

pub never_takes_back : NeverTakesBack php1
never_takes_back n (Halted out stop) args memory = itself out
never_takes_back n (Serving h) args memory = serves n h args memory (KeepsOutput php1 h.core.out) (itself h.core.out)
    (λ row numbered. keeps h.core.out (results_of row) (call_row row h args memory) (row_kept row h args memory))

-- ---- a host that has ended the run

pub stays_halted : StaysHalted
stays_halted number out stop args memory = refl

abbrev EndsSo : Replied → Type 0
EndsSo (Goes (Serving h) result) = Unit {0}
EndsSo (Goes (Halted out stop) result) = ⊥
EndsSo (Stops (Serving h) reason) = ⊥
EndsSo (Stops (Halted out stop) reason) = stop ≡ reason

kept_ends : (out : List ℕ) (results : List ValType) (reply : Replied) → Kept out results reply → EndsSo reply
kept_ends out results (Goes (Serving h) result) k = tt
kept_ends out results (Goes (Halted o stop) result) none = absurd none
kept_ends out results (Stops (Serving h) reason) none = absurd none
kept_ends out results (Stops (Halted o stop) reason) (grew, ended) = ended

all_end : (n : ℕ) (before : HostStatus) (args memory : List ℕ) → EndsSo (effect n before args memory)
all_end n (Halted out stop) args memory = refl
all_end n (Serving h) args memory = serves n h args memory EndsSo refl
    (λ row numbered. kept_ends h.core.out (results_of row) (call_row row h args memory) (row_kept row h args memory))

halted_so : (after : HostStatus) (reason : Stop) → EndsSo (Stops after reason) → after ≡ Halted (output_of after) reason
halted_so (Serving h) reason none = absurd none
halted_so (Halted out stop) reason ended = ap (Halted out) ended

pub ends_halted : EndsHalted
ends_halted n before after args memory reason is = halted_so after reason (subst EndsSo is (all_end n before args memory))

serving_so : (after : HostStatus) (result : Option ℕ) → EndsSo (Goes after result) → (h : HostState) × (after ≡ Serving h)
serving_so (Serving h) result k = (h, refl)
serving_so (Halted out stop) result none = absurd none

pub goes_serving : GoesServing
goes_serving n before after args memory result is = serving_so after result (subst EndsSo is (all_end n before args memory))
