-- A host of one function, by which a module prints to a sink. This project's own. Its state is what the sink tells that it holds.
use Rattle.std.specs.Prelude.{◌≡◌, ℕ, ◌+◌, List, [], ◌∷◌, length, take, drop, Bool, true, false, ◌&&◌, Option, Some, None, if◌then◌else◌, nat_eq, nat_le, bytes_eq, codes, refl}
use Rattle.hph_src.specs.Sink.{grown_by}
use Rattle.hph_wasm.specs.declared.types.ValType.{ValType}
use Rattle.hph_wasm.specs.declared.types.ValType.TheVariants.{I32}
use Rattle.hph_wasm.specs.declared.types.FuncType.{FuncType}
use Rattle.hph_wasm.specs.Choice.{if_some}
use Rattle.hph_wasm.specs.Configuration.{Reply, Goes, Stops, Host}

-- Why it ends a run: a call names no bytes of the memory.
pub data Stop : Type 0 where
  Misuse : Stop

-- A call has a place and a count of bytes.
abbrev pub write_type : FuncType
write_type = record { params = I32 ∷ I32 ∷ []; results = [] }

abbrev pub are_two_words : List ValType → Bool
are_two_words (I32 ∷ I32 ∷ []) = true
are_two_words _ = false

-- A function has this type.
abbrev pub is_write_type : FuncType → Bool
is_write_type ty = are_two_words ty.params && nat_eq (length ty.results) 0

-- The one function is `write` of the module `php1`.
abbrev pub row_of : (module_name name : List ℕ) → FuncType → Option ℕ
row_of module_name name ty =
    if bytes_eq module_name (codes "php1") && (bytes_eq name (codes "write") && is_write_type ty) then Some 0 else None

-- So many bytes of the memory from a place on, if all of them are there.
abbrev pub bytes_at : (place count : ℕ) → List ℕ → Option (List ℕ)
bytes_at place count memory = if nat_le (place + count) (length memory) then Some (take count (drop place memory)) else None

-- The bytes that a call prints.
abbrev pub piece_of : (arguments memory : List ℕ) → Option (List ℕ)
piece_of (place ∷ count ∷ []) memory = bytes_at place count memory
piece_of _ memory = None

-- A call prints its bytes, and gives nothing.
abbrev pub effect_of : ℕ → Option (List ℕ) → (arguments memory : List ℕ) → Reply (Option (List ℕ)) Stop
effect_of row held arguments memory = if_some (piece_of arguments memory) (Stops held Misuse) (λ piece. Goes (grown_by held piece) None)

-- What has been printed, as far as the sink tells it.
abbrev pub printed : Option (List ℕ) → List ℕ
printed None = []
printed (Some held) = held

abbrev pub writing : Host (Option (List ℕ)) Stop
writing = record { row = row_of; effect = effect_of; output = printed }

two_of_three : effect_of 0 (Some (7 ∷ [])) (1 ∷ 2 ∷ []) (4 ∷ 5 ∷ 6 ∷ []) ≡ Goes (Some (7 ∷ 5 ∷ 6 ∷ [])) None
two_of_three = refl

past_the_end : effect_of 0 (Some (7 ∷ [])) (2 ∷ 2 ∷ []) (4 ∷ 5 ∷ 6 ∷ []) ≡ Stops (Some (7 ∷ [])) Misuse
past_the_end = refl
