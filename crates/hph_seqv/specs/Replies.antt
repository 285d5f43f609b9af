-- What a host replies, beside what a part of a program answers that takes no unit.
use Rattle.std.specs.Prelude.{◌≡◌, ℕ, List, ◌++◌, Option, Some}
use Rattle.hph_wasm.specs.declared.value.Value.{Value as Word}
use Rattle.hph_wasm.specs.declared.types.ValType.{ValType}
use Rattle.hph_wasm.specs.Configuration.{Goes, Stops}
use Rattle.hph_wasm.specs.Reduction.{results}
use Rattle.hph_php.specs.State.{State}
use Rattle.hph_php.specs.Answers.{Answer, Gets, Ends, More}
use Rattle.hph_effects.specs.Hosts.{Item, Serving, Halted, Replied}
use Rattle.hph_seqv.specs.Simulates.{Setup, Around, Places, Fits, host_of}

module _ (s : Setup) where
  -- A reply of the host that leaves these values on wasm's stack and these items on its own, with the program's core.
  pub record Gives (k : Around) (types : List ValType) (words : List Word) (stack : List Item) (st : State) (reply : Replied) : Type 0 where
    pub places : Places
    pub result : Option ℕ
    pub fits : Fits s k.situation places st.frames st.globals st.core.heap
    pub is : reply ≡ Goes (Serving (host_of k places stack st)) result
    pub typed : results types result ≡ Some words

  -- A reply is what an answer says that takes no unit.
  abbrev pub Replies : {A : Type 0} → Around → List ValType → (A → List Word) → (A → List Item) → ℕ → Replied → Answer A → Type 0
  Replies k types leaves gives n reply (Gets a n' st) = (n' ≡ n) × Gives k types (leaves a) (gives a ++ k.stack) st reply
  Replies k types leaves gives n reply (Ends stop st) = reply ≡ Stops (Halted st.core.out stop) stop
  Replies k types leaves gives n reply (More st) = ⊥
