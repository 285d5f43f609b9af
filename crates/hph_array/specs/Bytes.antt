-- What a byte string feeds to a hasher. Source: this project's own.
use Rattle.std.specs.Prelude.{◌≡◌, ℕ, List, IsTrue}
use Rattle.std.specs.Str.{bytes_eq}
use Rattle.std.specs.Hash as fed
use Rattle.std.specs.Cmp.Lexicographic.{bytes_decides}
use Rattle.std.proofs.Common.{ap}

-- A byte string is hashed as a slice of its bytes.
abbrev pub bytes_input : List ℕ → List (List ℕ)
bytes_input bytes = fed.slice fed.u8 bytes

-- Equal byte strings feed the same.
pub bytes_input_respects : (x y : List ℕ) → IsTrue (bytes_eq x y) → bytes_input x ≡ bytes_input y
bytes_input_respects x y same = ap bytes_input ((bytes_decides x y).0 same)
