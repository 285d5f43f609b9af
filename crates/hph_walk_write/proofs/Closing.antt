-- Arrays that are closed over values, step by step.
use Rattle.std.proofs.Common.{◌≡◌, ◌∙◌, ◌<◌, ℕ, suc, ◌+◌, add-one, get_or, length, List, [], ◌∷◌, ◌++◌, drop, Option, None, Some, Result, Ok, Err, refl, sym, ap}
use Rattle.std.proofs.Math.Seq.{drop-cons}
use Rattle.std.specs.Option.{option_map}
use Rattle.hph_php.specs.declared.fatal.Fatal.{Fatal}
use Rattle.hph_php.specs.Values.{Value}
use Rattle.hph_php.specs.State.{Heap}
use Rattle.hph_php.specs.Conversions.{and_then, map_ok}
use Rattle.hph_php.specs.Paths.{PathStep, Written, read_path, write_path}
use Rattle.hph_value.specs.declared.value.Stop.{Stop}
use Rattle.hph_value.specs.declared.value.Stop.TheVariants as stop
use Rattle.hph_walk.specs.declared.step.Step.{Step}
use Rattle.hph_walk_write.specs.declared.level.Level.{Level}
use Rattle.hph_walk_write.specs.Levels.{filled, closed, written_in}
use Rattle.hph_walk_write.specs.Writes.{IsEntered, Enters, IsOpening, IsOpened, Opens}

-- A level more is filled first.
pub closed-more : (levels : List Level) (level : Level) (value : Value) → closed (levels ++ level ∷ []) value ≡ closed levels (filled level value)
closed-more [] level value = refl
closed-more (l ∷ levels) level value = ap (filled l) (closed-more levels level value)

module _ (levels : List Level) (level : Level) where
  placed_more : (place : Option Value) → option_map (closed levels) (option_map (filled level) place) ≡ option_map (closed (levels ++ level ∷ [])) place
  placed_more None = refl
  placed_more (Some value) = ap Some (sym (closed-more levels level value))

  pub written_more : (r : Result Written Fatal)
      → map_ok (written_in (closed levels)) (map_ok (written_in (filled level)) r) ≡ map_ok (written_in (closed (levels ++ level ∷ []))) r
  written_more (Ok w) = ap (λ (place : Option Value). Ok (record { place = place; objects = w.objects })) (placed_more w.place)
  written_more (Err kind) = refl

-- The steps from one on are it and those behind it.
pub next_step : (steps : List Step) (i : ℕ) (step : Step) → i < length steps → step ≡ get_or steps i step → drop i steps ≡ step ∷ drop (i + 1) steps
next_step steps i step within e = rw (add-one) (drop-cons steps i step within ∙ ap (λ s. s ∷ drop (suc i) steps) (sym e))

module _ (heap : Heap) (within : Option ℕ) (place : Option Value) (steps : List PathStep) where
  -- One more step is open.
  pub opening_more : (levels : List Level) (inner : Option Value) (step : PathStep) (rest : List PathStep) (level : Level) (next : Option Value)
      → IsOpening heap within place steps levels inner (step ∷ rest) → IsEntered heap within inner step level next
      → IsOpening heap within place steps (levels ++ level ∷ []) next rest
  opening_more levels inner step rest level next opening entered = record {
    writes = λ value.
        opening.writes value
        ∙ (ap (map_ok (written_in (closed levels))) (entered.writes (write_path heap within rest value))
        ∙ written_more levels level (write_path heap within rest value next));
    reads = opening.reads ∙ ap (λ r. and_then r (λ v. read_path heap within v rest)) entered.reads;
  }

  -- All is open where no step is left.
  pub opened_all : (levels : List Level) (inner : Option Value) → IsOpening heap within place steps levels inner [] → IsOpened heap within place steps levels inner
  opened_all levels inner opening = record { writes = opening.writes; reads = opening.reads }

-- A step that is fatal is so behind others.
pub fails_behind : (stop : Stop) (place : Option Value) (steps : List PathStep) (levels : List Level) (inner : Option Value) (step : PathStep) (rest : List PathStep)
    → ((heap : Heap) (within : Option ℕ) → IsOpening heap within place steps levels inner (step ∷ rest))
    → Enters (Err stop) inner step → Opens (Err stop) place steps
fails_behind (stop.Fatal kind) place steps levels inner step rest opening fails = λ heap within value.
    (opening heap within).writes value ∙ ap (map_ok (written_in (closed levels))) (fails heap within (write_path heap within rest value))
fails_behind stop.NoMemory place steps levels inner step rest opening fails = tt
