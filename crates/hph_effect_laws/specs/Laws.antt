-- What holds of every row, and of the host as a whole.
use Rattle.std.specs.Prelude.{◌≡◌, ◌≢◌, ℕ, List, length, Option, Some}
use Rattle.std.specs.Option.{option_map}
use Rattle.hph_wasm.specs.Configuration.{Goes, Stops}
use Rattle.hph_php.specs.Imports.{Import, host_name, import_row}
use Rattle.hph_php.specs.Answers.{Stop}
use Rattle.hph_effects.specs.declared.row.Row.{Row}
use Rattle.hph_effects.specs.Hosts.{HostState, HostStatus, Serving, Halted, misuse}
use Rattle.hph_effects.specs.Rows.{row_number, row_import}
use Rattle.hph_effects.specs.Effects.{effect_of, params_of, call_row, effect, output_of}

-- A row's effect takes what its type in the table of imports says.
abbrev pub TakesItsParams : Type 0
TakesItsParams = (row : Row) → option_map (λ (i : Import). i.type.params) (row_import row) ≡ Some (params_of (effect_of row))

-- A module imports a row by its name and type, and a call of that import is the row's.
abbrev pub IsImportedAsItself : Type 0
IsImportedAsItself = (row : Row) → option_map (λ (i : Import). import_row host_name i.name i.type) (row_import row) ≡ Some (Some (row_number row))

abbrev pub CallsGoByRow : Type 0
CallsGoByRow = (row : Row) (h : HostState) (args memory : List ℕ) → effect (row_number row) (Serving h) args memory ≡ call_row row h args memory

-- Another number of arguments is a wrong use.
abbrev pub CountsArguments : Type 0
CountsArguments = (row : Row) (h : HostState) (args memory : List ℕ) → length args ≢ length (params_of (effect_of row)) →
    call_row row h args memory ≡ misuse h

-- A host that has ended the run is left as it is by each call, with the same end.
abbrev pub StaysHalted : Type 0
StaysHalted = (number : ℕ) (out : List ℕ) (stop : Stop) (args memory : List ℕ) →
    effect number (Halted out stop) args memory ≡ Stops (Halted out stop) stop

-- A call that ends the run leaves a host that has ended it so, and a call that returns leaves one that serves.
abbrev pub EndsHalted : Type 0
EndsHalted = (number : ℕ) (before after : HostStatus) (args memory : List ℕ) (reason : Stop) →
    effect number before args memory ≡ Stops after reason → after ≡ Halted (output_of after) reason

abbrev pub GoesServing : Type 0
GoesServing = (number : ℕ) (before after : HostStatus) (args memory : List ℕ) (result : Option ℕ) →
    effect number before args memory ≡ Goes after result → (h : HostState) × (after ≡ Serving h)
