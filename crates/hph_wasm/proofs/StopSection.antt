-- Code and the contents of sections stop a reader in at most one place.
use Rattle.std.proofs.Common.{◌≡◌, ◌<◌, ◌≤◌, ◌∙◌, ℕ, ◌+◌, List, [], ◌∷◌, ◌++◌, length, refl, sym, ap, subst, arith, length-append, zero-add}
use Rattle.std.specs.Prelude.{replicate}
use Rattle.std.proofs.lemmas.List.{length-replicate}
use Rattle.hph_wasm.specs.Leb128.{Unsigned}
use Rattle.hph_wasm.specs.Grammar.{Grammar, ◌⊳◌, Each, Vector, Bytes}
use Rattle.hph_wasm.specs.InstructionGrammar.{Expression}
use Rattle.hph_wasm.specs.ModuleGrammar.{GlobalWithValue, Elements, LocalRun, locals_of, Locals, Code, Data}
use Rattle.hph_wasm.specs.Unsupported.{IsAnything, most_locals, IsShallowExpression, HasShallowValue, HasShallowEntry, HasShallowPlace, IsSmallCode, StopsGlobal, StopsOffset, total_of, StopsRun, StopsLocals, StopsCode}
use Rattle.hph_wasm.specs.declared.feature.Feature.{Feature}
use Rattle.hph_wasm.specs.declared.feature.Feature.TheVariants.{LocalCount}
use Rattle.hph_wasm.specs.declared.types.ValType.{ValType}
use Rattle.hph_wasm.specs.declared.instr.Instr.{Instr}
use Rattle.hph_wasm.proofs.Leb128Laws.{unsigned_form}
use Rattle.hph_wasm.proofs.OneSection.{global_type_form, local_run_form, locals_form}
use Rattle.hph_wasm.proofs.OneStop.{Same, OneStop, number_stops, first_stops, second_stops, either_stops, along_stops, narrow_stops, sized_stops, split_front}
use Rattle.hph_wasm.proofs.StopParts.{value_type_stops, global_type_stops}
use Rattle.hph_wasm.proofs.StopInstruction.{expression_stops}

-- a global
pub global_stops : OneStop GlobalWithValue HasShallowValue StopsGlobal
global_stops = narrow_stops {Fits = λ g. Unit {0} × IsShallowExpression g.init} (λ g shallow. (tt, shallow))
    (along_stops (λ g. (g.ty, g.init)) (either_stops {First = IsAnything} global_type_form global_type_stops expression_stops))

-- an index, and an expression before other things
offset_stops : {X : Type 0} (P : X → Grammar) →
    OneStop {X = ℕ × (List Instr × X)} (λ parts. Unsigned 32 parts.0 ⊳ Expression parts.1.0 ⊳ P parts.1.1)
    (λ parts. IsShallowExpression parts.1.0) StopsOffset
offset_stops P = narrow_stops {Fits = λ parts. Unit {0} × IsShallowExpression parts.1.0} (λ parts shallow. (tt, shallow))
    (second_stops {Q = λ more. Expression more.0 ⊳ P more.1} IsAnything (unsigned_form 32) (first_stops P expression_stops))

-- an element segment
pub element_stops : OneStop Elements HasShallowEntry StopsOffset
element_stops = along_stops {Fits = λ parts. IsShallowExpression parts.1.0} (λ e. (e.table, (e.offset, e.funcs))) (offset_stops (Vector (Unsigned 32)))

-- a data segment
pub data_stops : OneStop Data HasShallowPlace StopsOffset
data_stops = along_stops {Fits = λ parts. IsShallowExpression parts.1.0} (λ s. (s.memory, (s.offset, s.bytes))) (offset_stops Bytes)

-- a run of locals behind so many: it is read where they aren't too many with it
run_stops : (total : ℕ) → OneStop LocalRun (λ run. total + run.0 ≤ most_locals) (StopsRun total)
run_stops total = narrow_stops {Fits = λ (run : ℕ × ValType). (total + run.0 ≤ most_locals) × Unit {0}} (λ run few. (few, tt))
    (either_stops {First = λ n. total + n ≤ most_locals} (unsigned_form 32)
    (number_stops (λ n. most_locals < total + n) (λ n. total + n ≤ most_locals) LocalCount (λ n few many. omega arith)) value_type_stops)

-- the runs of which this one's places are
runs_one : (before : ℕ) (xs ys : List (ℕ × ValType)) (at at' : ℕ) (feature feature' : Feature) (f g r s : List ℕ) →
    before + total_of xs ≤ most_locals → before + total_of ys ≤ most_locals → Each LocalRun xs f → Each LocalRun ys g → f ++ r ≡ g ++ s →
    StopsRun (before + total_of xs) at feature r → StopsRun (before + total_of ys) at' feature' s →
    Same (length f + at) (length g + at') feature feature'
runs_one before [] [] at at' feature feature' f g r s few few' p q e stop stop' =
    let here : r ≡ s = ap (λ l. l ++ r) (sym p) ∙ e ∙ ap (λ l. l ++ s) q in
    let same = (run_stops (before + 0)).one at at' feature feature' s (subst (StopsRun (before + 0) at feature) here stop) stop' in
    record { place = (λ i. length ((p ∙ sym q) i) + same.place i); named = same.named }
runs_one before [] (y ∷ ys) at at' feature feature' f g r s few few' p q e stop stop' =
    let here : r ≡ q.front ++ (q.rest ++ s) = ap (λ l. l ++ r) (sym p) ∙ e ∙ split_front g s q in
    absurd ((run_stops (before + 0)).apart y at feature q.front (q.rest ++ s) q.first (omega arith)
    (subst (StopsRun (before + 0) at feature) here stop))
runs_one before (x ∷ xs) [] at at' feature feature' f g r s few few' p q e stop stop' =
    let here : s ≡ p.front ++ (p.rest ++ r) = ap (λ l. l ++ s) (sym q) ∙ sym e ∙ split_front f r p in
    absurd ((run_stops (before + 0)).apart x at' feature' p.front (p.rest ++ r) p.first (omega arith)
    (subst (StopsRun (before + 0) at' feature') here stop'))
runs_one before (x ∷ xs) (y ∷ ys) at at' feature feature' f g r s few few' p q e stop stop' =
    let a = local_run_form.alike x y p.front q.front (p.rest ++ r) (q.rest ++ s) p.first q.first
    (sym (split_front f r p) ∙ e ∙ split_front g s q) in
    let heads : x.0 ≡ y.0 = ap (λ (run : ℕ × ValType). run.0) a.thing in
    let total : before + (x.0 + total_of xs) ≡ (before + x.0) + total_of xs = omega arith in
    let total' : before + (y.0 + total_of ys) ≡ (before + x.0) + total_of ys = omega (arith, heads) in
    let same = runs_one (before + x.0) xs ys at at' feature feature' p.rest q.rest r s (omega arith) (omega (arith, heads)) p.second
    q.second a.behind
    (subst (λ t. StopsRun t at feature r) total stop) (subst (λ t. StopsRun t at' feature' s) total' stop') in
    let fronts : length p.front ≡ length q.front = ap length a.spelling in
    record {
      place = omega (
        arith,
        same.place,
        fronts,
        ap length p.split,
        ap length q.split,
        length-append p.front p.rest,
        length-append
            q.front q.rest,
      );
      named = same.named;
    }

-- and not where all are read
runs_apart : (before : ℕ) (xs ys : List (ℕ × ValType)) (at : ℕ) (feature : Feature) (f g r s : List ℕ) → length xs < length ys →
    before + total_of ys ≤ most_locals → Each LocalRun xs f → Each LocalRun ys g → f ++ r ≡ g ++ s →
    StopsRun (before + total_of xs) at feature r → ⊥
runs_apart before xs [] at feature f g r s fewer few p q e stop = omega arith
runs_apart before [] (y ∷ ys) at feature f g r s fewer few p q e stop =
    let here : r ≡ q.front ++ (q.rest ++ s) = ap (λ l. l ++ r) (sym p) ∙ e ∙ split_front g s q in
    (run_stops (before + 0)).apart y at feature q.front (q.rest ++ s) q.first (omega arith)
    (subst (StopsRun (before + 0) at feature) here stop)
runs_apart before (x ∷ xs) (y ∷ ys) at feature f g r s fewer few p q e stop =
    let a = local_run_form.alike x y p.front q.front (p.rest ++ r) (q.rest ++ s) p.first q.first
    (sym (split_front f r p) ∙ e ∙ split_front g s q) in
    let heads : x.0 ≡ y.0 = ap (λ (run : ℕ × ValType). run.0) a.thing in
    let total : before + (x.0 + total_of xs) ≡ (before + x.0) + total_of xs = omega arith in
    runs_apart (before + x.0) xs ys at feature p.rest q.rest r s (omega arith) (omega (arith, heads)) p.second q.second a.behind
    (subst (λ t. StopsRun t at feature r) total stop)

-- as many locals as the runs' counts make
pub length-locals_of : (runs : List (ℕ × ValType)) → length (locals_of runs) ≡ total_of runs
length-locals_of [] = refl
length-locals_of (run ∷ runs) = length-append (replicate run.0 run.1) (locals_of runs) ∙
    (λ i. length-replicate run.0 run.1 i + length-locals_of runs i)

-- locals
pub locals_stops : OneStop Locals (λ locals. length locals ≤ most_locals) StopsLocals
locals_stops = record {
  one = λ at at' feature feature' bytes p q.
      let a = (unsigned_form 32).alike p.0 q.0 p.1.front q.1.front p.1.rest q.1.rest p.1.before q.1.before (sym p.1.split ∙ q.1.split) in
      let x = p.1.stops in
      let y = q.1.stops in
      let b = x.stops in
      let c = y.stops in
      let same = runs_one 0 x.done y.done b.place c.place feature feature' b.front c.front b.rest c.rest (omega (arith, x.few))
      (omega (arith, y.few)) b.before c.before
      (sym b.split ∙ a.behind ∙ c.split)
      (subst (λ t. StopsRun t b.place feature b.rest) (sym (zero-add (total_of x.done))) b.stops)
      (subst (λ t. StopsRun t c.place feature' c.rest) (sym (zero-add (total_of y.done))) c.stops) in
      record {
        place = omega (arith, p.1.counted, q.1.counted, b.counted, c.counted, same.place, ap length a.spelling);
        named =
            same.named;
      };
  apart = λ locals at feature front rest p few stop.
      let all = p.spelled in
      let a = (unsigned_form 32).alike stop.0 (length p.runs) stop.1.front all.front stop.1.rest (all.rest ++ rest) stop.1.before
      all.first (sym stop.1.split ∙ split_front front rest all) in
      let x = stop.1.stops in
      let b = x.stops in
      let count : length (locals_of p.runs) ≡ length locals = ap length p.made in
      runs_apart 0 x.done p.runs b.place feature b.front all.rest b.rest rest (omega (arith, a.thing, x.fewer))
      (omega (arith, few, count, length-locals_of p.runs)) b.before all.second
      (sym b.split ∙ a.behind)
      (subst (λ t. StopsRun t b.place feature b.rest) (sym (zero-add (total_of x.done))) b.stops);
}

-- code
pub code_stops : OneStop Code IsSmallCode StopsCode
code_stops = sized_stops (either_stops {First = λ locals. length locals ≤ most_locals} locals_form locals_stops expression_stops)
