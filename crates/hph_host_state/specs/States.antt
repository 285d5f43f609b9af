-- The state of a host of hph_effects that a state in code is, beside the output; and what it means that a call in code takes
-- something off the state, or that its answer is what a definition gives.
use Rattle.std.specs.Prelude.{◌≡◌, ℕ, List, [], map, drop, Option, None, Some, Result, Ok, Err}
use Rattle.hph_array.specs.declared.key.Key as keys
use Rattle.hph_array.specs.Array.{array_map}
use Rattle.hph_wasm.specs.Configuration.{Goes, Stops}
use Rattle.hph_php.specs.declared.fatal.Fatal.TheVariants.{Misuse}
use Rattle.hph_php.specs.Answers.{Fails}
use Rattle.hph_php.specs.Values as php
use Rattle.hph_php.specs.Paths.{by_key, at_end, by_property}
use Rattle.hph_php.specs.State.{empty_core}
use Rattle.hph_effects.specs.Hosts.{HostState, Serving, Halted, Replied, a_value, a_step, an_item, an_iterator}
use Rattle.hph_effects.specs.Hosts as hosts
use Rattle.hph_value.specs.declared.value.Stop.{Stop}
use Rattle.hph_value.specs.declared.value.Stop.TheVariants.{Fatal, NoMemory}
use Rattle.hph_value.specs.Shown.{value_of}
use Rattle.hph_host_state.specs.declared.item.Item.{Item}
use Rattle.hph_host_state.specs.declared.item.Item.TheVariants.{Value, Key, Append, Property}
use Rattle.hph_host_state.specs.declared.item.Held.{Held}
use Rattle.hph_host_state.specs.declared.item.Held.TheVariants as held
use Rattle.hph_host_state.specs.declared.item.Held.TheVariants.{Loop}
use Rattle.hph_host_state.specs.declared.item.Turns.{Turns}
use Rattle.hph_host_state.specs.declared.item.Turns.TheVariants.{Over, Nothing}
use Rattle.hph_host_state.specs.declared.state.State.{State}

abbrev pub item_of : Item → hosts.Item
item_of (Value value) = a_value (value_of value)
item_of (Key key) = a_step (by_key (value_of key))
item_of Append = a_step at_end
item_of (Property name) = a_step (by_property name)

-- the pairs that a loop has still to go through
abbrev pub left : Turns → List (keys.Key × php.Value)
left (Over elements at) = drop at (array_map value_of elements.map).pairs
left Nothing = []

abbrev pub held_of : Held → hosts.Held
held_of (held.Item item) = an_item (item_of item)
held_of (Loop turns) = an_iterator (left turns)

-- the state of a host that has printed this
abbrev pub seen : List ℕ → State → HostState
seen out state = record {
  core = record empty_core { out = out };
  stack = map item_of state.stack;
  holds = map held_of state.holds;
  globals = [];
  frames = [];
  declaring = None;
}

-- ---- contracts

-- A host that has printed `out` ends the run with a fatal error. It may also find no memory, whatever the definition says.
abbrev pub Ends : Stop → List ℕ → Replied → Type 0
Ends (Fatal kind) out reply = reply ≡ Stops (Halted out (Fails kind)) (Fails kind)
Ends NoMemory out reply = Unit {0}

-- An answer, with the state that is left, is this reply of a host that has printed `out`.
abbrev pub Tells : Result (Option ℕ) Stop → List ℕ → Replied → State → Type 0
Tells (Ok given) out reply new = reply ≡ Goes (Serving (seen out new)) given
Tells (Err stop) out reply new = Ends stop out reply

-- A call serves as the definition says, whatever was printed before.
abbrev pub Serves : Result (Option ℕ) Stop → (HostState → Replied) → State → State → Type 0
Serves answer effect old new = (out : List ℕ) → Tells answer out (effect (seen out old)) new

-- How a definition takes something off a host.
abbrev pub Taking : Type 0 → Type 0
Taking A = HostState → (A → HostState → Replied) → Replied

-- What was taken, seen by `f`, is what the definition goes on with; where nothing was, it ends, however it would go on.
abbrev pub Takes : {A B : Type 0} → Taking B → (A → B) → Result A Stop → State → State → Type 0
Takes {B = B} taking f (Ok a) old new = (out : List ℕ) (go : B → HostState → Replied) → taking (seen out old) go ≡ go (f a) (seen out new)
Takes {B = B} taking f (Err stop) old new = (out : List ℕ) (go : B → HostState → Replied) → Ends stop out (taking (seen out old) go)

-- What is found, seen by `f`, or that it is a wrong use because there is nothing.
abbrev pub Finds : {A B : Type 0} → (A → B) → Result A Stop → Option B → Type 0
Finds f (Ok a) there = there ≡ Some (f a)
Finds f (Err (Fatal kind)) there = (there ≡ None) × (kind ≡ Misuse)
Finds f (Err NoMemory) there = Unit {0}
