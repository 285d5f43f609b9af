-- The state of a host of `php1`, and how its functions take items off its stacks and go on. This project's own. A helper of a
-- running host has the equation of one of these combinators as its contract, for every continuation.
use Rattle.std.specs.Prelude.{ℕ, zero, suc, ◌+◌, ◌^◌, Bool, List, [], ◌∷◌, length, take, drop, Option, None, Some, Result, Ok, Err, if◌then◌else◌, nat_le, nat_lt}
use Rattle.hph_array.specs.declared.key.Key.{Key}
use Rattle.hph_wasm.specs.Configuration.{Reply, Goes, Stops}
use Rattle.hph_wasm.specs.Integers.{truth}
use Rattle.hph_php.specs.declared.fatal.Fatal.{Fatal}
use Rattle.hph_php.specs.declared.fatal.Fatal.TheVariants.{Misuse}
use Rattle.hph_php.specs.Values.{Value, Str}
use Rattle.hph_php.specs.State.{Core, Heap, Places, Class, Name, empty_core, on_heap, on_places, printed}
use Rattle.hph_php.specs.Answers.{Stop, Fails}
use Rattle.hph_php.specs.Paths.{PathStep}

-- An item of the operand stack: a value, a location, a step of a path, a class, or an object in the making, which has a class and
-- the properties that it has so far, and no number yet.
pub data Item : Type 0 where
  a_value : (value : Value) → Item
  a_place : (location : ℕ) → Item
  a_step : (step : PathStep) → Item
  class_item : (class : ℕ) → Item
  in_making : (class : ℕ) → (properties : List (Name × Value)) → Item

-- what is held: an item, or an iterator with the pairs that are left
pub data Held : Type 0 where
  an_item : (item : Item) → Held
  an_iterator : (pairs : List (Key × Value)) → Held

-- the slots of a frame, each with a location or none; those behind the last have none
abbrev pub Slots : Type 0
Slots = List (Option ℕ)

-- The frame of a function that runs has as many slots as its size, the class whose code runs, the late static class, and `$this`.
pub record HostFrame : Type 0 where
  pub size : ℕ
  pub slots : Slots
  pub class : Option ℕ
  pub static_class : Option ℕ
  pub object : Option ℕ

-- A host that serves calls. The core is that of the program's run. The stacks have their tops first. The first frame has the
-- slots of the global variables, without an end, and nothing else; the others stand in `frames`, the innermost first.
-- `declaring` is a class between the rows that begin and end its declaration.
pub record HostState : Type 0 where
  pub core : Core
  pub stack : List Item
  pub holds : List Held
  pub globals : Slots
  pub frames : List HostFrame
  pub declaring : Option Class

-- A host serves calls, or has ended the run: then what was printed and the end are left.
pub data HostStatus : Type 0 where
  Serving : (h : HostState) → HostStatus
  Halted : (out : List ℕ) → (stop : Stop) → HostStatus

abbrev pub Replied : Type 0
Replied = Reply HostStatus Stop

abbrev pub empty_host : HostState
empty_host = record { core = empty_core; stack = []; holds = []; globals = []; frames = []; declaring = None }

-- ---- replies

abbrev pub stops : Stop → HostState → Replied
stops stop h = Stops (Halted h.core.out stop) stop

abbrev pub fails : Fatal → HostState → Replied
fails kind h = stops (Fails kind) h

abbrev pub misuse : HostState → Replied
misuse h = fails Misuse h

abbrev pub done : HostState → Replied
done h = Goes (Serving h) None

abbrev pub gives : ℕ → HostState → Replied
gives n h = Goes (Serving h) (Some n)

-- a truth value is 1 or 0
abbrev pub gives_truth : Bool → HostState → Replied
gives_truth b h = gives (truth b) h

-- the number of a function of the module, which is a number of 32 bits
abbrev pub gives_code : ℕ → HostState → Replied
gives_code code h = if nat_lt code (2 ^ 32) then gives code h else misuse h

-- ---- changes

abbrev pub with_stack : List Item → HostState → HostState
with_stack stack h = record h { stack = stack }

abbrev pub with_holds : List Held → HostState → HostState
with_holds holds h = record h { holds = holds }

abbrev pub with_core : (Core → Core) → HostState → HostState
with_core change h = record h { core = change h.core }

abbrev pub with_heap : (Heap → Heap) → HostState → HostState
with_heap change h = with_core (on_heap change) h

abbrev pub with_places : (Places → Places) → HostState → HostState
with_places change h = with_core (on_places change) h

abbrev pub print : List ℕ → HostState → HostState
print bytes h = with_core (printed bytes) h

abbrev pub push_item : Item → HostState → HostState
push_item item h = record h { stack = item ∷ h.stack }

abbrev pub push : Value → HostState → HostState
push v h = push_item (a_value v) h

abbrev pub hold_on : Held → HostState → HostState
hold_on x h = record h { holds = x ∷ h.holds }

-- ---- going on

-- what comes of a rule, or its fatal error
abbrev pub on_ok : {A : Type 0} → Result A Fatal → HostState → (A → Replied) → Replied
on_ok (Ok a) h go = go a
on_ok (Err kind) h go = fails kind h

-- the value of a rule is pushed
abbrev pub settled : Result Value Fatal → HostState → Replied
settled r h = on_ok r h (λ v. done (push v h))

-- what has to be there
abbrev pub found : {A : Type 0} → Option A → HostState → (A → Replied) → Replied
found None h go = misuse h
found (Some a) h go = go a

-- what has to hold
abbrev pub only_if : Bool → HostState → Replied → Replied
only_if test h go = if test then go else misuse h

-- `count` bytes of the memory from `place`, all of which have to be there
abbrev pub read_memory : ℕ → ℕ → List ℕ → HostState → (List ℕ → Replied) → Replied
read_memory place count memory h go = only_if (nat_le (place + count) (length memory)) h (go (take count (drop place memory)))

-- ---- taking items off the operand stack

-- the top, and what lies below it
abbrev pub on_top : List Item → HostState → (Item → HostState → Replied) → Replied
on_top [] h go = misuse h
on_top (item ∷ stack) h go = go item (with_stack stack h)

abbrev pub popped_any : HostState → (Item → HostState → Replied) → Replied
popped_any h go = on_top h.stack h go

abbrev pub the_value : Item → Option Value
the_value (a_value v) = Some v
the_value _ = None

abbrev pub the_text : Item → Option Name
the_text (a_value (Str bytes)) = Some bytes
the_text _ = None

abbrev pub the_place : Item → Option ℕ
the_place (a_place l) = Some l
the_place _ = None

abbrev pub the_class : Item → Option ℕ
the_class (class_item class) = Some class
the_class _ = None

-- an object in the making is no item that is moved, copied or dropped
abbrev pub the_whole : Item → Option Item
the_whole (in_making class properties) = None
the_whole item = Some item

-- an object in the making: its class, and its properties so far
pub record Making : Type 0 where
  pub class : ℕ
  pub properties : List (Name × Value)

abbrev pub the_making : Item → Option Making
the_making (in_making class properties) = Some (record { class = class; properties = properties })
the_making _ = None

-- an item that is of a sort
abbrev pub popped_as : {A : Type 0} → (Item → Option A) → HostState → (A → HostState → Replied) → Replied
popped_as sort h go = popped_any h (λ item below. found (sort item) h (λ a. go a below))

abbrev pub popped : HostState → (Value → HostState → Replied) → Replied
popped h go = popped_as the_value h go

abbrev pub popped_text : HostState → (Name → HostState → Replied) → Replied
popped_text h go = popped_as the_text h go

abbrev pub popped_item : HostState → (Item → HostState → Replied) → Replied
popped_item h go = popped_as the_whole h go

-- so many items from the top, the last one last, and those below
abbrev pub items_onto : List Item → ℕ → List Item → Option (List Item × List Item)
items_onto above zero stack = Some (above, stack)
items_onto above (suc n) (x ∷ stack) = items_onto (x ∷ above) n stack
items_onto above (suc n) [] = None

-- each is of a sort
abbrev pub before : {A : Type 0} → Option A → Option (List A) → Option (List A)
before (Some a) (Some rest) = Some (a ∷ rest)
before _ _ = None

abbrev pub all_as : {A : Type 0} → (Item → Option A) → List Item → Option (List A)
all_as sort [] = Some []
all_as sort (item ∷ items) = before (sort item) (all_as sort items)

-- so many items of a sort, the last one last
abbrev pub popped_all : {A : Type 0} → (Item → Option A) → ℕ → HostState → (List A → HostState → Replied) → Replied
popped_all sort n h go =
    found (items_onto [] n h.stack) h (λ items. found (all_as sort items.0) h (λ xs. go xs (with_stack items.1 h)))

-- ---- arguments of a call

abbrev pub on_none : List ℕ → HostState → Replied → Replied
on_none [] h go = go
on_none _ h go = misuse h

abbrev pub on_one : List ℕ → HostState → (ℕ → Replied) → Replied
on_one (n ∷ []) h go = go n
on_one _ h go = misuse h

abbrev pub on_two : List ℕ → HostState → (ℕ → ℕ → Replied) → Replied
on_two (m ∷ n ∷ []) h go = go m n
on_two _ h go = misuse h

abbrev pub on_four : List ℕ → HostState → (ℕ → ℕ → ℕ → ℕ → Replied) → Replied
on_four (k ∷ p ∷ m ∷ n ∷ []) h go = go k p m n
on_four _ h go = misuse h

abbrev pub on_five : List ℕ → HostState → (ℕ → ℕ → ℕ → ℕ → ℕ → Replied) → Replied
on_five (k ∷ p ∷ m ∷ n ∷ decl ∷ []) h go = go k p m n decl
on_five _ h go = misuse h
