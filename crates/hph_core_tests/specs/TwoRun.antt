-- Two workers on the system two, whose scope 0 asks int of cell 0, and whose scope 1 asks the type of cell 0 of cell 1.
-- Source: this project's own; worked by hand.
use Rattle.std.specs.Prelude.{◌≡◌, ℕ, Bool, true, false, List, [], ◌∷◌, ◌++◌}
use Rattle.hph_type.specs.Types.{PhpType, none}
use Rattle.hph_sys.specs.Two.{two, int}
use Rattle.hph_sys.specs.Ring.{str}
use Rattle.hph_core.specs.declared.event.Event.{Event}
use Rattle.hph_core.specs.declared.event.Event.TheVariants.{Take, Mark, PutBack, TryHold, Release, Read, Raise, Add, DropOne, ReadPending}
use Rattle.hph_core.specs.declared.event.Answer.{Answer}
use Rattle.hph_core.specs.declared.event.Answer.TheVariants.{Nothing, Bit, Word, Held, Known}
use Rattle.hph_core.specs.declared.event.Hold.TheVariants.{Got, Busy}
use Rattle.hph_core.specs.State.{WorkerState, HasAll}
use Rattle.hph_core.specs.Events.{start, happens, answers, Enabled, run, AllEnabled}

-- the first state: both scopes are in the set
abbrev pub begin : WorkerState
begin = start two 2 (3 ∷ [])

-- worker 0 has scope 0, and worker 1, which finds it held, puts scope 1 back
abbrev pub meeting : List Event
meeting =
    Take 0 0 ∷ TryHold 0 0 ∷ Read 0 0
    ∷ Take 1 1 ∷ TryHold 1 0 ∷ PutBack 1 1 ∷ []

-- worker 0 marks scope 1, which waits already, and pays
abbrev pub marking : List Event
marking = Add 0 ∷ Mark 0 1 ∷ DropOne 0 ∷ []

-- it raises cell 0 and is done; two events follow that only show the number pending
abbrev pub raising : List Event
raising = Raise 0 0 int ∷ DropOne 0 ∷ Release 0 0 ∷ ReadPending 0 ∷ []

-- worker 1 does the same with scope 1
abbrev pub second : List Event
second =
    Take 1 1 ∷ TryHold 1 0 ∷ TryHold 1 1 ∷ Read 1 0 ∷ Read 1 1
    ∷ Raise 1 1 int ∷ DropOne 1 ∷ Release 1 1 ∷ Release 1 0 ∷ ReadPending 1 ∷ []

abbrev pub events : List Event
events = meeting ++ (marking ++ (raising ++ second))

-- what the events answer, in order
abbrev pub answers_along : WorkerState → List Event → List Answer
answers_along st [] = []
answers_along st (e ∷ es) = answers st e ∷ answers_along (happens two st e) es

abbrev pub expected : List Answer
expected =
    Bit true ∷ Held Got ∷ Known none
    ∷ Bit true ∷ Held (Busy 0) ∷ Bit true
    ∷ Nothing ∷ Bit false ∷ Nothing
    ∷ Nothing ∷ Nothing ∷ Nothing ∷ Word 1
    ∷ Bit true ∷ Held Got ∷ Held Got ∷ Known int ∷ Known none
    ∷ Nothing ∷ Nothing ∷ Nothing ∷ Nothing ∷ Word 0 ∷ []

pub record GoesThrough : Type 0 where
  pub begins : HasAll 2 (3 ∷ [])
  pub enabled : AllEnabled two begin events
  pub answered : answers_along begin events ≡ expected
  pub put_back_counted : (run two begin meeting).pending ≡ 2
  pub added : (run two begin (meeting ++ Add 0 ∷ [])).pending ≡ 3
  pub paid : (run two begin (meeting ++ marking)).pending ≡ 2
  pub cells : (run two begin events).cells ≡ int ∷ int ∷ []

-- Right after worker 0 has paid, and before it has marked scope 1.
pub record Refuses : Type 0 where
  pub raise_unasked : ¬ Enabled two (run two begin (meeting ++ marking)) (Raise 0 0 str)
  pub drop_unmet : ¬ Enabled two (run two begin (meeting ++ marking)) (DropOne 0)
  pub put_back_needless : ¬ Enabled two (run two begin (meeting ++ marking)) (PutBack 0 0)
  pub raise_unmarked : ¬ Enabled two (run two begin meeting) (Raise 0 0 int)
