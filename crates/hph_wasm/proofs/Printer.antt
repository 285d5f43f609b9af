-- A host for examples: it prints, and does nothing else. Its state is what has been printed.
use Rattle.std.specs.Prelude.{ℕ, zero, suc, ◌+◌, List, [], ◌∷◌, ◌++◌, length, take, drop, nat_le, if◌then◌else◌, Bool, true, false, ◌&&◌, Option, Some, None, bytes_eq, codes}
use Rattle.hph_wasm.specs.declared.types.ValType.{ValType}
use Rattle.hph_wasm.specs.declared.types.ValType.TheVariants.{I32}
use Rattle.hph_wasm.specs.declared.types.FuncType.{FuncType}
use Rattle.hph_wasm.specs.Configuration.{Reply, Goes, Stops, Host}

-- Why the host ends a run: a call that breaks its rules.
pub data PrinterStop : Type 0 where
  Misuse : PrinterStop

-- Prints `count` bytes of the memory from `place`, all of which have to be there.
abbrev pub write_effect : List ℕ → List ℕ → List ℕ → Reply (List ℕ) PrinterStop
write_effect output (place ∷ count ∷ []) memory =
    if nat_le (place + count) (length memory) then Goes (output ++ take count (drop place memory)) None else Stops output Misuse
write_effect output _ memory = Stops output Misuse

-- What each row does; no call has a row that isn't there.
abbrev pub effect_of_row : ℕ → List ℕ → List ℕ → List ℕ → Reply (List ℕ) PrinterStop
effect_of_row zero output arguments memory = write_effect output arguments memory
effect_of_row (suc row) output arguments memory = Stops output Misuse

-- [i32 i32] -> [].
abbrev pub is_write_type : List ValType → List ValType → Bool
is_write_type (I32 ∷ I32 ∷ []) [] = true
is_write_type _ _ = false

-- Row 0 is `write`; nothing else can be imported.
abbrev pub row_of : List ℕ → List ℕ → FuncType → Option ℕ
row_of module_name name ty =
    if bytes_eq module_name (codes "php1") && (bytes_eq name (codes "write") && is_write_type ty.params ty.results) then Some 0 else None

-- The host.
abbrev pub printer : Host (List ℕ) PrinterStop
printer = record { row = row_of; effect = effect_of_row; output = λ output. output }
