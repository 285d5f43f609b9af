-- The steps of hph_php that steps in code are, and what walks along them answer. Steps by keys go to no object, so the answers
-- are the same in every heap and every class.
use Rattle.std.specs.Prelude.{◌≡◌, ℕ, List, map, Option, None, Result}
use Rattle.std.specs.Option.{option_map}
use Rattle.hph_php.specs.declared.fatal.Fatal.{Fatal}
use Rattle.hph_php.specs.Values.{Value}
use Rattle.hph_php.specs.State.{Heap, empty_heap}
use Rattle.hph_php.specs.Paths.{PathStep, by_key, at_end, read_step, read_path, try_step, try_path}
use Rattle.hph_value.specs.declared.value.Stop.{Stop}
use Rattle.hph_value.specs.declared.value.Value as code
use Rattle.hph_value.specs.Shown.{value_of, Tells}
use Rattle.hph_walk.specs.declared.step.Step.{Step}
use Rattle.hph_walk.specs.declared.step.Step.TheVariants.{Key, End}

abbrev pub step_of : Step → PathStep
step_of (Key key) = by_key (value_of key)
step_of End = at_end

abbrev pub steps_of : List Step → List PathStep
steps_of steps = map step_of steps

-- one step, where there are no objects
abbrev pub read_by : Value → Step → Result Value Fatal
read_by value step = read_step empty_heap None value (step_of step)

abbrev pub try_by : Value → Step → Option Value
try_by value step = try_step empty_heap None value (step_of step)

-- what is read behind steps
abbrev pub Reads : Result code.Value Stop → Value → List PathStep → Type 0
Reads answer value steps = (heap : Heap) (within : Option ℕ) → Tells answer (read_path heap within value steps)

-- what is set behind steps
abbrev pub IsTried : Option code.Value → Value → List PathStep → Type 0
IsTried answer value steps = (heap : Heap) (within : Option ℕ) → try_path heap within value steps ≡ option_map value_of answer
