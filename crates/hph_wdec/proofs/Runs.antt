-- Reading locals, run by run (Core Specification 1.0, 5.5.13).
use Rattle.std.proofs.Common.{◌≡◌, ◌∙◌, ◌<◌, ◌≤◌, inl, inr, ℕ, ◌+◌, List, [], ◌∷◌, ◌++◌, length, refl, sym, ap, subst, arith, append_assoc, length-append}
use Rattle.std.specs.Prelude.{replicate}
use Rattle.std.proofs.lemmas.List.{append-nil, length-replicate}
use Rattle.hph_wasm.specs.Leb128.{Unsigned}
use Rattle.hph_wasm.specs.Grammar.{◌⊳◌, Each, Vector, ValueType}
use Rattle.hph_wasm.specs.OneWay.{OneForm, OneStop}
use Rattle.hph_wasm.specs.ModuleGrammar.{LocalRun, Locals, locals_of}
use Rattle.hph_wasm.specs.Unsupported.{Any, Read, Nowhere, AtNumber, IsAnything, AreFew, StopsValueType, StopsRun, StopsRuns, StopsLocals, total_of, most_locals}
use Rattle.hph_wasm.specs.declared.feature.Feature.{Feature}
use Rattle.hph_wasm.specs.declared.feature.Feature.TheVariants.{LocalCount}
use Rattle.hph_wasm.specs.declared.types.ValType.{ValType}
use Rattle.hph_wread.specs.Counted.{Counted}
use Rattle.hph_wread.specs.declared.fault.Fault.{Fault}
use Rattle.hph_wread.specs.declared.fault.Fault.TheVariants.{Malformed, Unsupported, NoMemory}
use Rattle.hph_wread.specs.Reading.{Took, Fails}
use Rattle.hph_wread.proofs.Combinators.{took_then, took_split, took_behind, behind_took, fails_map, fails_first, fails_second, one_end}
use Rattle.hph_wread.proofs.Vectors.{took_alike, took_apart, nothing_took, each_more, each_goes_on, dependent_first, dependent_second}
use Rattle.hph_wdec.specs.Locals.{RunsOf}

-- ---- one run

-- no number stands there, so none that is too great
number_missing : (TooGreat : ℕ → Type 0) (name : Feature) {bytes : List ℕ} (e : Fault) → Fails (Any (Unsigned 32)) Nowhere bytes e →
    Fails (Any (Unsigned 32)) (AtNumber TooGreat name) bytes e
number_missing TooGreat name (Malformed left) f = let r = f.reason in record {
  reason = (
    r.0,
    record {
      none = r.1.none;
      nowhere = λ place feature t. r.1.none t.rest (record { front = t.front; split = t.split; spelled = (t.number.0, t.number.1, tt) });
    },
  );
}
number_missing TooGreat name (Unsupported left feature) f = absurd f.reason.stops
number_missing TooGreat name NoMemory f = record { reason = tt }

run_parts : (front : List ℕ) → Any LocalRun front → (Any (Unsigned 32) ⊳ Any ValueType) front
run_parts front p =
    let r = p.1 in record { front = r.front; rest = r.rest; split = r.split; first = (p.0.0, r.first, tt); second = (p.0.1, r.second, tt) }

pub run_number : (total : ℕ) {bytes : List ℕ} (e : Fault) → Fails (Any (Unsigned 32)) Nowhere bytes e → Fails (Any LocalRun) (StopsRun total) bytes e
run_number total e f = fails_map run_parts (λ place feature t. t) (λ place feature t. t) e
    (fails_first (Read (Unsigned 32) (λ n. total + n ≤ most_locals)) (Any ValueType) StopsValueType (λ front q. (q.0, q.1, tt)) e
    (number_missing (λ n. most_locals < total + n) LocalCount e f))

pub run_type : (total : ℕ) {bytes mid : List ℕ} → OneForm (Unsigned 32) → (n : ℕ) → total + n ≤ most_locals → Took (Unsigned 32 n) bytes mid →
    (e : Fault) → Fails (Any ValueType) StopsValueType mid e → Fails (Any LocalRun) (StopsRun total) bytes e
run_type total {bytes} {mid} o n small p e f =
    let number : Took (Read (Unsigned 32) (λ n. total + n ≤ most_locals)) bytes mid =
    record { front = p.front; split = p.split; spelled = (n, p.spelled, small) } in
    fails_map run_parts (λ place feature t. t) (λ place feature t. t) e
    (fails_second (AtNumber (λ n. most_locals < total + n) LocalCount) (one_end o) (λ front q. (q.0, q.1, tt))
    (λ place feature t.
    let same = took_alike o n t.number.0 p (record { front = t.front; split = t.split; spelled = t.number.1 }) in
    omega (arith, same.thing, t.number.2, small))
    number e f)

pub run_great : (total : ℕ) {bytes mid : List ℕ} (n : ℕ) → most_locals < total + n → Took (Unsigned 32 n) bytes mid →
    Fails (Any LocalRun) (StopsRun total) bytes (Unsupported (length bytes) LocalCount)
run_great total {bytes} {mid} n great p = record {
  reason = record {
    place = 0;
    counted = omega arith;
    stops = inl (record { here = refl; named = refl; front = p.front; rest = mid; split = p.split; number = (n, p.spelled, great) });
  };
}

-- nothing stops in a run that was read
run_apart : {bytes rest : List ℕ} → OneForm (Unsigned 32) → OneStop ValueType IsAnything StopsValueType → (total : ℕ) (x : ℕ × ValType) →
    total + x.0 ≤ most_locals → Took (LocalRun x) bytes rest → (place : ℕ) (feature : Feature) → ¬ StopsRun total place feature bytes
run_apart o stops total x small p place feature (inl t) =
    let two = took_split p in
    let same = took_alike o x.0 t.number.0 two.first (record { front = t.front; split = t.split; spelled = t.number.1 }) in
    omega (arith, same.thing, t.number.2, small)
run_apart o stops total x small p place feature (inr b) =
    let two = took_split p in
    let same = took_alike o x.0 b.before.0 two.first (record { front = b.front; split = b.split; spelled = b.before.1 }) in
    took_apart stops x.1 two.second tt b.place feature (subst (StopsValueType b.place feature) (sym same.behind) b.stops)

-- ---- runs

-- what runs make
pub total_length : (runs : List (ℕ × ValType)) → length (locals_of runs) ≡ total_of runs
total_length [] = refl
total_length (run ∷ runs) =
    omega (arith, length-append (replicate run.0 run.1) (locals_of runs), length-replicate run.0 run.1, total_length runs)

locals_more : (runs : List (ℕ × ValType)) (run : ℕ × ValType) → locals_of (runs ++ run ∷ []) ≡ locals_of runs ++ replicate run.0 run.1
locals_more [] run = append-nil (replicate run.0 run.1)
locals_more (x ∷ runs) run =
    ap (λ l. replicate x.0 x.1 ++ l) (locals_more runs run) ∙ sym (append_assoc (replicate x.0 x.1) (locals_of runs) (replicate run.0 run.1))

-- so many runs were read, and make these locals
pub record RunsSoFar (bytes : List ℕ) (locals : List ValType) (count : ℕ) (rest : List ℕ) : Type 0 where
  pub runs : List (ℕ × ValType)
  pub took : Took (Each LocalRun runs) bytes rest
  pub made : locals_of runs ≡ locals
  pub counted : length runs ≡ count
  pub few : length locals ≤ most_locals

pub no_runs : (bytes : List ℕ) → RunsSoFar bytes [] 0 bytes
no_runs bytes = record { runs = []; took = nothing_took LocalRun bytes; made = refl; counted = refl; few = omega arith }

pub one_more_run : {bytes mid rest : List ℕ} (locals more : List ValType) (count n : ℕ) (ty : ValType) → RunsSoFar bytes locals count mid →
    Took (LocalRun (n, ty)) mid rest → length locals + n ≤ most_locals → more ≡ locals ++ replicate n ty → RunsSoFar bytes more (count + 1) rest
one_more_run locals more count n ty before p small is = record {
  runs = before.runs ++ (n, ty) ∷ [];
  took = each_more LocalRun before.runs (n, ty) before.took p;
  made = locals_more before.runs (n, ty) ∙ ap (λ l. l ++ replicate n ty) before.made ∙ sym is;
  counted = omega (arith, length-append before.runs ((n, ty) ∷ []), before.counted);
  few = omega (arith, ap length is, length-append locals (replicate n ty), length-replicate n ty, small);
}

pub runs_took : {bytes rest : List ℕ} (locals : List ValType) (count n : ℕ) → RunsSoFar bytes locals n rest → n ≡ count → Took (RunsOf count locals) bytes rest
runs_took locals count n so_far all =
    let took = so_far.took in
    record { front = took.front; split = took.split; spelled = (so_far.runs, so_far.counted ∙ all, so_far.made, took.spelled) }

-- where no run is read behind those that were, nothing stops there or before
runs_stop : OneForm (Unsigned 32) → OneForm LocalRun → OneStop ValueType IsAnything StopsValueType → (total n m : ℕ) (xs ys : List (ℕ × ValType)) →
    {bytes r s : List ℕ} → n ≡ total + total_of xs → m ≡ total + total_of ys → n ≤ most_locals → Took (Each LocalRun xs) bytes r →
    ((rest : List ℕ) → ¬ Took (Any LocalRun) r rest) → ((place : ℕ) (feature : Feature) → ¬ StopsRun n place feature r) →
    Took (Each LocalRun ys) bytes s → (place : ℕ) (feature : Feature) → ¬ StopsRun m place feature s
runs_stop number o stops total n m [] [] {bytes} {r} {s} is is' small p none clear q place feature t =
    let same : m ≡ n = omega arith in
    let there : s ≡ r = sym (nothing_behind q) ∙ nothing_behind p in
    clear place feature (subst (λ l. StopsRun n place feature l) there (subst (λ k. StopsRun k place feature s) same t))
  where
    nothing_behind : {bytes rest : List ℕ} → Took (Each LocalRun []) bytes rest → bytes ≡ rest
    nothing_behind {rest = rest} p = p.split ∙ ap (λ l. l ++ rest) p.spelled
runs_stop number o stops total n m [] (y ∷ ys) is is' small p none clear q place feature t =
    let more = each_goes_on o [] (y ∷ ys) (omega arith) p q in none more.0 more.1
runs_stop number o stops total n m (x ∷ xs) [] {bytes} {r} {s} is is' small p none clear q place feature t =
    let two = took_split p in
    let there : bytes ≡ s = q.split ∙ ap (λ l. l ++ s) q.spelled in
    run_apart number stops m x (omega arith) two.first place feature (subst (λ l. StopsRun m place feature l) (sym there) t)
runs_stop number o stops total n m (x ∷ xs) (y ∷ ys) {bytes} {r} {s} is is' small p none clear q place feature t =
    let a = took_split p in
    let b = took_split q in
    let same = took_alike o x y a.first b.first in
    let first : x.0 ≡ y.0 = ap (λ run. run.0) same.thing in
    runs_stop number o stops (total + x.0) n m xs ys (omega arith) (omega arith) small a.second none clear
    (subst (λ l. Took (Each LocalRun ys) l s) (sym same.behind) b.second) place feature t

-- the next of so many runs isn't there
pub runs_fail : OneForm (Unsigned 32) → OneForm LocalRun → OneStop ValueType IsAnything StopsValueType → {bytes rest : List ℕ} (locals : List ValType) (n count : ℕ) →
    RunsSoFar bytes locals n rest → n < count → (e : Fault) → Fails (Any LocalRun) (StopsRun (length locals)) rest e →
    Fails (Counted LocalRun count) (StopsRuns count) bytes e
runs_fail number o stops {bytes} {rest} locals n count so_far fewer (Malformed left) f =
    let r = f.reason in
    let took = so_far.took in
    let total : length locals ≡ 0 + total_of so_far.runs = omega (arith, total_length so_far.runs, ap length so_far.made) in
    record {
      reason = (
        omega (arith, r.0, ap length took.split, length-append took.front rest),
        record {
          none = λ after q.
              let more = each_goes_on o so_far.runs q.spelled.0 (omega (arith, q.spelled.1, so_far.counted)) took
              (record { front = q.front; split = q.split; spelled = q.spelled.2 }) in
              r.1.none more.0 more.1;
          nowhere = λ place feature t.
              runs_stop number o stops 0 (length locals) (total_of t.done) so_far.runs t.done total (omega arith) so_far.few took r.1.none r.1.nowhere
              (took_behind place feature t.stops) t.stops.place feature t.stops.stops;
        },
      );
    }
runs_fail number o stops {bytes} {rest} locals n count so_far fewer (Unsupported left feature) f =
    let r = f.reason in
    let took = so_far.took in
    let total : length locals ≡ total_of so_far.runs = omega (arith, total_length so_far.runs, ap length so_far.made) in
    record {
      reason = record {
        place = length took.front + r.place;
        counted = omega (arith, r.counted, ap length took.split, length-append took.front rest);
        stops = record {
          done = so_far.runs;
          fewer = omega (arith, so_far.counted);
          few = omega (arith, so_far.few);
          stops = behind_took r.place feature took (subst (λ k. StopsRun k r.place feature rest) total r.stops);
        };
      };
    }
runs_fail number o stops locals n count so_far fewer NoMemory f = record { reason = tt }

-- ---- runs behind their number

locals_counted : (front : List ℕ) → Any Locals front → (count : ℕ) × (Unsigned 32 count ⊳ Counted LocalRun count) front
locals_counted front p =
    let runs = p.1.runs in
    let v = p.1.spelled in
    (length runs, record { front = v.front; rest = v.rest; split = v.split; first = v.first; second = (runs, refl, v.second) })

pub locals_count : {bytes : List ℕ} (e : Fault) → Fails (Any (Unsigned 32)) Nowhere bytes e → Fails (Any Locals) StopsLocals bytes e
locals_count e f = fails_map locals_counted (λ place feature t. t) (λ place feature t. t) e
    (dependent_first (λ n. Counted LocalRun n) (λ n. StopsRuns n) e f)

pub locals_runs : {bytes mid : List ℕ} → OneForm (Unsigned 32) → (count : ℕ) → Took (Unsigned 32 count) bytes mid → (e : Fault) →
    Fails (Counted LocalRun count) (StopsRuns count) mid e → Fails (Any Locals) StopsLocals bytes e
locals_runs o count p e f = fails_map locals_counted (λ place feature t. t) (λ place feature t. t) e
    (dependent_second o count (λ n. Counted LocalRun n) (λ n. StopsRuns n) p e f)

pub locals_took : {bytes mid rest : List ℕ} (locals : List ValType) (count : ℕ) → AreFew locals → Took (Unsigned 32 count) bytes mid →
    Took (RunsOf count locals) mid rest → Took (Locals locals) bytes rest
locals_took {bytes} {mid} {rest} locals count few p q =
    let runs = q.spelled.0 in
    let first : Took (Unsigned 32 (length runs)) bytes mid = subst (λ n. Took (Unsigned 32 n) bytes mid) (sym q.spelled.1) p in
    let second : Took (Each LocalRun runs) mid rest = record { front = q.front; split = q.split; spelled = q.spelled.3 } in
    let both : Took (Vector LocalRun runs) bytes rest = took_then first second in
    record { front = both.front; split = both.split; spelled = record { runs = runs; made = q.spelled.2; few = omega (arith, few); spelled = both.spelled } }
