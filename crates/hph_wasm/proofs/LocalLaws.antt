-- Locals kept in runs.
use Rattle.std.proofs.Common.{◌≡◌, ◌∙◌, ◌<◌, ◌≤◌, ℕ, zero, suc, ◌+◌, ◌-◌, List, [], ◌∷◌, ◌++◌, length, get_or, true, false, refl, sym, ap, arith, append_assoc, length-append, leb, leb-true, leb-false}
use Rattle.std.specs.Prelude.{Some, None, replicate, slice_get, slice_set}
use Rattle.std.specs.List.Sorted.{IsPartitionPoint, IsNonDecreasingBy}
use Rattle.std.specs.Option.{option_map}
use Rattle.std.proofs.lemmas.Grind.{elements}
use Rattle.std.proofs.lemmas.List.{append-nil, length-replicate, replicate-append-replicate}
use Rattle.hph_wasm.specs.ModuleGrammar.{locals_of}
use Rattle.hph_wasm.specs.LocalRuns.{IsRising, EndsIn, counted, expanded, end_of}
use Rattle.hph_wasm.specs.declared.locals.RunOfLocals.{RunOfLocals}
use Rattle.hph_wasm.specs.declared.types.ValType.{ValType}

-- there are as many locals as the last run ends behind
pub length_counted : (from : ℕ) (runs : List RunOfLocals) → IsRising from runs → from + length (locals_of (counted from runs)) ≡ end_of from runs
length_counted from [] rising = omega arith
length_counted from (run ∷ runs) rising =
    omega (arith, rising.0, length_counted run.end runs rising.1, length-replicate (run.end - from) run.ty, length-append (replicate (run.end - from) run.ty) (locals_of (counted run.end runs)))

pub length_expanded : (runs : List RunOfLocals) → IsRising 0 runs → end_of 0 runs ≡ length (expanded runs)
length_expanded runs rising = omega (arith, length_counted 0 runs rising)

-- ---- one more run

end_of_more : (from : ℕ) (runs : List RunOfLocals) (run : RunOfLocals) → end_of from (runs ++ run ∷ []) ≡ run.end
end_of_more from [] run = refl
end_of_more from (first ∷ runs) run = end_of_more first.end runs run

rising_more : (from : ℕ) (runs : List RunOfLocals) (run : RunOfLocals) → IsRising from runs → end_of from runs < run.end → IsRising from (runs ++ run ∷ [])
rising_more from [] run rising behind = (behind, tt)
rising_more from (first ∷ runs) run rising behind = (rising.0, rising_more first.end runs run rising.1 behind)

rising_less : (from : ℕ) (runs : List RunOfLocals) (run : RunOfLocals) → IsRising from (runs ++ run ∷ []) → IsRising from runs × (end_of from runs < run.end)
rising_less from [] run rising = (tt, rising.0)
rising_less from (first ∷ runs) run rising = let less = rising_less first.end runs run rising.1 in ((rising.0, less.0), less.1)

made_more : (from : ℕ) (runs : List RunOfLocals) (run : RunOfLocals) →
    locals_of (counted from (runs ++ run ∷ [])) ≡ locals_of (counted from runs) ++ replicate (run.end - end_of from runs) run.ty
made_more from [] run = append-nil (replicate (run.end - from) run.ty)
made_more from (first ∷ runs) run =
    let rest : List ValType = locals_of (counted first.end runs) in
    ap (λ l. replicate (first.end - from) first.ty ++ l) (made_more first.end runs run)
    ∙ sym (append_assoc (replicate (first.end - from) first.ty) rest (replicate (run.end - end_of first.end runs) run.ty))

-- a run that is added
pub added : (runs : List RunOfLocals) (run : RunOfLocals) (count : ℕ) → run.end ≡ end_of 0 runs + count → expanded (runs ++ run ∷ []) ≡ expanded runs ++ replicate count run.ty
added runs run count ends =
    let counts : run.end - end_of 0 runs ≡ count = omega (arith, ends) in
    made_more 0 runs run ∙ ap (λ n. expanded runs ++ replicate n run.ty) counts

pub added_rises : (runs : List RunOfLocals) (run : RunOfLocals) → IsRising 0 runs → end_of 0 runs < run.end → IsRising 0 (runs ++ run ∷ [])
added_rises runs run rising behind = rising_more 0 runs run rising behind

-- ---- a longer last run

-- the last run is in another's place
set_last : (runs : List RunOfLocals) (last run : RunOfLocals) → slice_set (runs ++ last ∷ []) (length (runs ++ last ∷ []) - 1) run ≡ runs ++ run ∷ []
set_last runs last run = ap (λ n. slice_set (runs ++ last ∷ []) n run) (omega (arith, length-append runs (last ∷ []))) ∙ at_end runs
  where
    at_end : (runs : List RunOfLocals) → slice_set (runs ++ last ∷ []) (length runs) run ≡ runs ++ run ∷ []
    at_end [] = refl
    at_end (first ∷ runs) = ap (λ l. first ∷ l) (at_end runs)

longer : (before : List RunOfLocals) (last run : RunOfLocals) (count : ℕ) → IsRising 0 (before ++ last ∷ []) → last.ty ≡ run.ty →
    run.end ≡ end_of 0 (before ++ last ∷ []) + count → expanded (before ++ run ∷ []) ≡ expanded (before ++ last ∷ []) ++ replicate count run.ty
longer before last run count rising same ends =
    let less = rising_less 0 before last rising in
    let from : ℕ = end_of 0 before in
    let split : run.end - from ≡ (last.end - from) + count = omega (arith, ends, end_of_more 0 before last, less.1) in
    made_more 0 before run
    ∙ ap (λ n. expanded before ++ replicate n run.ty) split
    ∙ ap (λ l. expanded before ++ l) (sym (replicate-append-replicate (last.end - from) count run.ty))
    ∙ sym (append_assoc (expanded before) (replicate (last.end - from) run.ty) (replicate count run.ty))
    ∙ ap (λ t. (expanded before ++ replicate (last.end - from) t) ++ replicate count run.ty) (sym same)
    ∙ ap (λ l. l ++ replicate count run.ty) (sym (made_more 0 before last))

pub lengthened : (runs : List RunOfLocals) (run : RunOfLocals) (count : ℕ) → EndsIn run.ty runs → IsRising 0 runs → run.end ≡ end_of 0 runs + count →
    expanded (slice_set runs (length runs - 1) run) ≡ expanded runs ++ replicate count run.ty
lengthened runs run count ends rising end =
    rw (ends.split, set_last ends.before ends.last run) (longer ends.before ends.last run count (rw (sym ends.split) rising) ends.same (end ∙ ap (λ l. end_of 0 l + count) ends.split))

pub lengthened_rises : (runs : List RunOfLocals) (run : RunOfLocals) (count : ℕ) → EndsIn run.ty runs → IsRising 0 runs → run.end ≡ end_of 0 runs + count →
    IsRising 0 (slice_set runs (length runs - 1) run)
lengthened_rises runs run count ends rising end =
    let less = rising_less 0 ends.before ends.last (rw (sym ends.split) rising) in
    rw (ends.split, set_last ends.before ends.last run)
    (rising_more 0 ends.before run less.0 (omega (arith, less.1, end, ap (end_of 0) ends.split, end_of_more 0 ends.before ends.last)))

-- ---- the last run

behind_first : (first : RunOfLocals) (runs : List RunOfLocals) (run : RunOfLocals) → 0 < length runs → slice_get (first ∷ runs) (length (first ∷ runs) - 1) ≡ Some run →
    slice_get runs (length runs - 1) ≡ Some run
behind_first first runs run some is =
    let steps : suc (length runs - 1) ≡ length (first ∷ runs) - 1 = omega (arith, some) in ap (slice_get (first ∷ runs)) steps ∙ is

pub last_end : (from : ℕ) (runs : List RunOfLocals) (run : RunOfLocals) → slice_get runs (length runs - 1) ≡ Some run → run.end ≡ end_of from runs
last_end from [] run is = absurd (let no : ⊥ = cc in no)
last_end from (first ∷ []) run is = let same : first ≡ run = grind arith in ap (λ r. r.end) (sym same)
last_end from (first ∷ second ∷ runs) run is = last_end first.end (second ∷ runs) run (behind_first first (second ∷ runs) run (omega arith) is)

pub no_end : (runs : List RunOfLocals) → slice_get runs (length runs - 1) ≡ None → 0 ≡ end_of 0 runs
no_end [] is = refl
no_end (first ∷ []) is = absurd (let no : ⊥ = cc in no)
no_end (first ∷ second ∷ runs) is = absurd (let no : ⊥ = grind (arith, elements) in no)

pub last_split : (runs : List RunOfLocals) (run : RunOfLocals) → slice_get runs (length runs - 1) ≡ Some run → (before : List RunOfLocals) × (runs ≡ before ++ run ∷ [])
last_split [] run is = absurd (let no : ⊥ = cc in no)
last_split (first ∷ []) run is = let same : first ≡ run = grind arith in ([], ap (λ r. r ∷ []) same)
last_split (first ∷ second ∷ runs) run is = let rest = last_split (second ∷ runs) run (behind_first first (second ∷ runs) run (omega arith) is) in (first ∷ rest.0, ap (λ l. first ∷ l) rest.1)

pub ends_in : (ty : ValType) (runs : List RunOfLocals) (run : RunOfLocals) → slice_get runs (length runs - 1) ≡ Some run → run.ty ≡ ty → EndsIn ty runs
ends_in ty runs run is same = let split = last_split runs run is in record { before = split.0; last = run; split = split.1; same = same }

-- ---- the local of a number

-- the ends of runs don't fall
ends_behind : (from : ℕ) (runs : List RunOfLocals) (k : ℕ) (d : RunOfLocals) → IsRising from runs → k < length runs → from ≤ (get_or runs k d).end
ends_behind from [] k d rising within = absurd (omega (arith, within))
ends_behind from (run ∷ runs) zero d rising within = omega (arith, rising.0)
ends_behind from (run ∷ runs) (suc k) d rising within = omega (arith, rising.0, ends_behind run.end runs k d rising.1 (omega (arith, within)))

rising_between : (from : ℕ) (runs : List RunOfLocals) → IsRising from runs → IsNonDecreasingBy (λ run. run.end) runs
rising_between from [] rising i j d low high = omega arith
rising_between from (run ∷ runs) rising zero zero d low high = omega arith
rising_between from (run ∷ runs) rising zero (suc j) d low high = ends_behind run.end runs j d rising.1 (omega (arith, high))
rising_between from (run ∷ runs) rising (suc i) zero d low high = absurd (omega (arith, low))
rising_between from (run ∷ runs) rising (suc i) (suc j) d low high = rising_between run.end runs rising.1 i j d (omega (arith, low)) (omega (arith, high))

pub rising_by : (runs : List RunOfLocals) → IsRising 0 runs → IsNonDecreasingBy (λ run. run.end) runs
rising_by runs rising = rising_between 0 runs rising

within : (n k : ℕ) (t : ValType) (rest : List ValType) → k < n → slice_get (replicate n t ++ rest) k ≡ Some t
within zero k t rest small = absurd (omega (arith, small))
within (suc n) zero t rest small = refl
within (suc n) (suc k) t rest small = within n k t rest (omega (arith, small))

past : (n k : ℕ) (t : ValType) (rest : List ValType) → slice_get (replicate n t ++ rest) (n + k) ≡ slice_get rest k
past zero k t rest = ap (slice_get rest) (omega arith)
past (suc n) k t rest =
    let steps : suc n + k ≡ suc (n + k) = omega arith in ap (slice_get (replicate (suc n) t ++ rest)) steps ∙ past n k t rest

-- the first run that ends behind the number is of the local's type
pub found : (from : ℕ) (runs : List RunOfLocals) (index place : ℕ) → IsRising from runs → from ≤ index → place ≤ length runs →
    IsPartitionPoint (λ run. leb run.end index ≡ true) (λ run. leb run.end index ≡ false) runs place →
    slice_get (locals_of (counted from runs)) (index - from) ≡ option_map (λ run. run.ty) (slice_get runs place)
found from [] index place rising behind bound point = refl
found from (run ∷ runs) index zero rising behind bound point =
    let ends : index < run.end = leb-false run.end index (point.1 0 run (omega arith) (omega arith)) in
    within (run.end - from) (index - from) run.ty (locals_of (counted run.end runs)) (omega (arith, ends, behind))
found from (run ∷ runs) index (suc place) rising behind bound point =
    let ends : run.end ≤ index = leb-true run.end index (point.0 0 run (omega arith) (omega arith)) in
    let steps : index - from ≡ (run.end - from) + (index - run.end) = omega (arith, ends, rising.0) in
    ap (slice_get (locals_of (counted from (run ∷ runs)))) steps
    ∙ past (run.end - from) (index - run.end) run.ty (locals_of (counted run.end runs))
    ∙ found run.end runs index place rising.1 ends (omega (arith, bound))
    ((λ k d low high. point.0 (suc k) d (omega arith) (omega (arith, high))), (λ k d low high. point.1 (suc k) d (omega (arith, low)) (omega (arith, high))))

pub found_first : (runs : List RunOfLocals) (index place : ℕ) → IsRising 0 runs → place ≤ length runs →
    IsPartitionPoint (λ run. leb run.end index ≡ true) (λ run. leb run.end index ≡ false) runs place →
    option_map (λ run. run.ty) (slice_get runs place) ≡ slice_get (expanded runs) index
found_first runs index place rising bound point =
    let all : index - 0 ≡ index = omega arith in
    sym (ap (slice_get (expanded runs)) (sym all) ∙ found 0 runs index place rising (omega arith) bound point)
