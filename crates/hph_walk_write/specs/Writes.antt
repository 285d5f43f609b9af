-- What the calls answer. Steps by keys go to no object, so the answers are the same in every heap and every class.
use Rattle.std.specs.Prelude.{◌≡◌, ℕ, List, Option, Result, Ok, Err}
use Rattle.std.specs.Option.{option_map}
use Rattle.hph_php.specs.Values.{Value}
use Rattle.hph_php.specs.State.{Heap}
use Rattle.hph_php.specs.Conversions.{map_ok}
use Rattle.hph_php.specs.Paths.{PathStep, WriteBelow, written, old_value, read_step, read_path, write_step, write_path}
use Rattle.hph_value.specs.declared.value.Stop.{Stop}
use Rattle.hph_value.specs.declared.value.Stop.TheVariants.{Fatal as Fatally, NoMemory}
use Rattle.hph_value.specs.declared.value.Value as code
use Rattle.hph_value.specs.Shown.{value_of, TellsBy}
use Rattle.hph_walk_write.specs.declared.level.Level.{Level}
use Rattle.hph_walk_write.specs.declared.opening.Opened.{Opened}
use Rattle.hph_walk_write.specs.Levels.{filled, closed, written_in}

-- what a place has, if it isn't unset
abbrev pub place_of : Option code.Value → Option Value
place_of place = option_map value_of place

-- A step goes from a place into an array, which is open at an inner place.
pub record IsEntered (heap : Heap) (within : Option ℕ) (place : Option Value) (step : PathStep) (level : Level) (inner : Option Value) : Type 0 where
  pub writes : (below : WriteBelow) → write_step heap within step below place ≡ map_ok (written_in (filled level)) (below inner)
  pub reads : read_step heap within (old_value place) step ≡ Ok (old_value inner)

abbrev pub Enters : Result (Level × Option code.Value) Stop → Option Value → PathStep → Type 0
Enters (Ok entered) place step = (heap : Heap) (within : Option ℕ) → IsEntered heap within place step entered.0 (place_of entered.1)
Enters (Err (Fatally kind)) place step = (heap : Heap) (within : Option ℕ) (below : WriteBelow) → write_step heap within step below place ≡ Err kind
Enters (Err NoMemory) place step = Unit {0}

-- A path is open where what is written behind it is the arrays closed over that; and what is read behind it is the inner place.
pub record IsOpened (heap : Heap) (within : Option ℕ) (place : Option Value) (steps : List PathStep) (levels : List Level) (inner : Option Value) : Type 0 where
  pub writes : (value : Value) → write_path heap within steps value place ≡ Ok (written heap within (closed levels value))
  pub reads : read_path heap within (old_value place) steps ≡ Ok (old_value inner)

-- It is open so far, and the other steps are still to go.
pub record IsOpening (heap : Heap) (within : Option ℕ) (place : Option Value) (steps : List PathStep) (levels : List Level) (inner : Option Value) (rest : List PathStep) : Type 0 where
  pub writes : (value : Value) → write_path heap within steps value place ≡ map_ok (written_in (closed levels)) (write_path heap within rest value inner)
  pub reads : read_path heap within (old_value place) steps ≡ read_path heap within (old_value inner) rest

abbrev pub Opens : Result (Option code.Value × Opened) Stop → Option Value → List PathStep → Type 0
Opens (Ok opened) place steps = (heap : Heap) (within : Option ℕ) → IsOpened heap within place steps opened.1.levels.items (place_of opened.0)
Opens (Err (Fatally kind)) place steps = (heap : Heap) (within : Option ℕ) (value : Value) → write_path heap within steps value place ≡ Err kind
Opens (Err NoMemory) place steps = Unit {0}

-- a value is written behind steps
abbrev pub Writes : Result code.Value Stop → Option Value → List PathStep → Value → Type 0
Writes answer place steps value = (heap : Heap) (within : Option ℕ)
    → TellsBy (λ whole. written heap within (value_of whole)) answer (write_path heap within steps value place)
