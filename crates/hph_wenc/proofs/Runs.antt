-- How many locals the longest runs count.
use Rattle.std.proofs.Common.{◌≡◌, ◌<◌, ◌≤◌, ◌^◌, ℕ, suc, ◌+◌, ◌-◌, List, [], ◌∷◌, length, get_or, reverse, true, false, if◌then◌else◌, arith, ap, subst, refl, sym, zero, ◌++◌, append_assoc, ◌∙◌}
use Rattle.std.specs.Prelude.{All, replicate}
use Rattle.std.specs.List.{AllByRecursion}
use Rattle.std.proofs.lemmas.List.{append-nil, get_or-reverse, length-reverse}
use Rattle.std.proofs.lemmas.List.Elements.{All-from_recursion}
use Rattle.hph_wasm.specs.ModuleGrammar.{locals_of}
use Rattle.hph_wasm.specs.Spelling.{same_type, with_local, runs_of}
use Rattle.hph_wasm.specs.declared.types.ValType.{ValType}
use Rattle.hph_wasm.specs.declared.types.ValType.TheVariants.{I32, I64}
use Rattle.hph_wenc.specs.Runs.{with_locals}

-- no run counts more locals than this
abbrev pub CountAtMost : ℕ → List (ℕ × ValType) → Type 0
CountAtMost most runs = AllByRecursion (λ run. run.0 ≤ most) runs

-- a larger bound is one too
CountAtMost-suc : (most : ℕ) (runs : List (ℕ × ValType)) → CountAtMost most runs → CountAtMost (suc most) runs
CountAtMost-suc most [] all = tt
CountAtMost-suc most (run ∷ runs) all = (omega (arith, all.0), CountAtMost-suc most runs all.1)

-- one more local adds one at most to a run
CountAtMost-with_local : (most : ℕ) (t : ValType) (runs : List (ℕ × ValType)) → CountAtMost most runs → CountAtMost (suc most) (with_local t runs)
CountAtMost-with_local most t [] all = (omega arith, tt)
CountAtMost-with_local most t (run ∷ runs) all =
    elim (same_type t run.1) as (λ same. CountAtMost (suc most) (if same then (run.0 + 1, t) ∷ runs else (1, t) ∷ run ∷ runs)) [
      | true ↦ (omega (arith, all.0), CountAtMost-suc most runs all.1)
      | false ↦ (omega arith, (omega (arith, all.0), CountAtMost-suc most runs all.1))
    ]

-- no run counts more locals than there are
pub CountAtMost-runs_of : (locals : List ValType) → CountAtMost (length locals) (runs_of locals)
CountAtMost-runs_of [] = tt
CountAtMost-runs_of (t ∷ locals) = CountAtMost-with_local (length locals) t (runs_of locals) (CountAtMost-runs_of locals)

-- there are no more runs than locals
length-with_local : (t : ValType) (runs : List (ℕ × ValType)) → length (with_local t runs) ≤ suc (length runs)
length-with_local t [] = omega arith
length-with_local t (run ∷ runs) =
    elim (same_type t run.1) as (λ same. length (if same then (run.0 + 1, t) ∷ runs else (1, t) ∷ run ∷ runs) ≤ suc (suc (length runs))) [ true ↦ omega arith | false ↦ omega arith ]

-- there are no more runs than locals
pub length-runs_of : (locals : List ValType) → length (runs_of locals) ≤ length locals
length-runs_of [] = omega arith
length-runs_of (t ∷ locals) = let rest : length (runs_of locals) ≤ length locals = length-runs_of locals in omega (arith, length-with_local t (runs_of locals))

-- what holds of each element of the reversed list holds of each of the list
All-from_reverse : {X : Type 0} (P : X → Type 0) (xs : List X) → All P (reverse xs) → All P xs
All-from_reverse P xs all k d within =
    let mirrored : length xs - 1 - (length xs - 1 - k) ≡ k = omega arith in
    subst P (get_or-reverse xs (length xs - 1 - k) d (omega arith) ∙ ap (λ i. get_or xs i d) mirrored) (all (length xs - 1 - k) d (omega (arith, length-reverse xs)))

-- the runs of few locals can each count so many more
pub counts_small : (count : ℕ) (locals : List ValType) (runs : List (ℕ × ValType)) → reverse runs ≡ runs_of locals → length locals + count < 2 ^ 32 →
    All (λ run. run.0 + count < 2 ^ 32) runs
counts_small count locals runs same few =
    All-from_reverse (λ run. run.0 + count < 2 ^ 32) runs (λ k d within.
    let bounded : All (λ run. run.0 ≤ length locals) (reverse runs) = rw same (All-from_recursion (λ run. run.0 ≤ length locals) (runs_of locals) (CountAtMost-runs_of locals)) in
    omega (arith, bounded k d within))

-- ---- several locals of one type

-- the locals of the last run stand before those behind it
last_made : (runs : List (ℕ × ValType)) (last : ℕ × ValType) (behind : List ValType) →
    locals_of (runs ++ last ∷ []) ++ behind ≡ locals_of runs ++ (replicate last.0 last.1 ++ behind)
last_made [] last behind = ap (λ l. l ++ behind) (append-nil (replicate last.0 last.1))
last_made (run ∷ runs) last behind =
    append_assoc (replicate run.0 run.1) (locals_of (runs ++ last ∷ [])) behind
    ∙ ap (λ l. replicate run.0 run.1 ++ l) (last_made runs last behind)
    ∙ sym (append_assoc (replicate run.0 run.1) (locals_of runs) (replicate last.0 last.1 ++ behind))

pub last_stands : (kept runs : List (ℕ × ValType)) (last : ℕ × ValType) (behind locals : List ValType) → kept ≡ runs ++ last ∷ [] →
    locals_of kept ++ behind ≡ locals → locals_of runs ++ (replicate last.0 last.1 ++ behind) ≡ locals
last_stands kept runs last behind locals split whole = sym (last_made runs last behind) ∙ ap (λ l. locals_of l ++ behind) (sym split) ∙ whole

same_as_itself : (t : ValType) → same_type t t ≡ true
same_as_itself I32 = refl
same_as_itself I64 = refl

one_more : (count : ℕ) (t : ValType) (runs : List (ℕ × ValType)) → with_local t (with_locals count t runs) ≡ with_locals (suc count) t runs
one_more count t [] = rw (same_as_itself t) (ap (λ n. (n, t) ∷ []) (omega arith))
one_more count t (run ∷ runs) =
    elim (same_type t run.1) as (λ same. with_local t (if same then (run.0 + count, t) ∷ runs else (count, t) ∷ run ∷ runs) ≡ (if same then (run.0 + suc count, t) ∷ runs else (suc count, t) ∷ run ∷ runs)) [
      | true ↦ rw (same_as_itself t) (ap (λ n. (n, t) ∷ runs) (omega arith))
      | false ↦ rw (same_as_itself t) (ap (λ n. (n, t) ∷ run ∷ runs) (omega arith))
    ]

-- the runs of some locals of one type and of those behind them
pub runs_of-replicate : (count : ℕ) (t : ValType) (locals : List ValType) → 0 < count → runs_of (replicate count t ++ locals) ≡ with_locals count t (runs_of locals)
runs_of-replicate zero t locals some = absurd (omega (arith, some))
runs_of-replicate (suc count) t locals some = all count
  where
    none : (runs : List (ℕ × ValType)) → with_local t runs ≡ with_locals 1 t runs
    none [] = refl
    none (run ∷ runs) = refl

    all : (count : ℕ) → runs_of (replicate (suc count) t ++ locals) ≡ with_locals (suc count) t (runs_of locals)
    all zero = none (runs_of locals)
    all (suc count) = ap (with_local t) (all count) ∙ one_more (suc count) t (runs_of locals)
