-- Events, where each is enabled and what it answers and leaves; runs are lists of them. Source: this project's own.
use Rattle.std.specs.Prelude.{◌≡◌, ◌≢◌, ℕ, zero, suc, ◌<◌, ◌+◌, ◌-◌, ◌==◌, not, true, false, if◌then◌else◌, List, [], ◌∷◌, length, replicate, Option, None, Some}
use Rattle.hph_type.specs.Types.{none}
use Rattle.hph_sys.specs.Typings.{In, at}
use Rattle.hph_sys.specs.Shape.{Shape}
use Rattle.hph_core.specs.declared.view.View.{View}
use Rattle.hph_core.specs.declared.event.Event.{Event}
use Rattle.hph_core.specs.declared.event.Event.TheVariants.{Peek, Take, Mark, PutBack, TryHold, Release, Read, Raise, Add, DropOne, ReadPending, Split, Join}
use Rattle.hph_core.specs.declared.event.Hold.{Hold}
use Rattle.hph_core.specs.declared.event.Hold.TheVariants as hold
use Rattle.hph_core.specs.declared.event.Answer.{Answer}
use Rattle.hph_core.specs.declared.event.Answer.TheVariants as answer
use Rattle.hph_core.specs.State.{WorkerState, entry, holder, member, work_word, fresh}
use Rattle.hph_core.specs.Effects.{peek, take, mark, put_back, try_hold, release, read, raise, add, pay, finish, read_pending, split, join_seats}
use Rattle.hph_core.specs.Conditions.{MayRaise, MayFinish, MayPutBack, MayMark, IsIdle}

-- the scope of a hand
abbrev pub of_hand : Option ℕ → ℕ
of_hand None = 0
of_hand (Some s) = s

-- a drop pays the debt, or empties the hand
abbrev pub drop_one : WorkerState → ℕ → WorkerState
drop_one st w = if (entry st w).debt then pay st w else finish st w (of_hand (entry st w).hand)

-- the state after an event
abbrev pub happens : Shape → WorkerState → Event → WorkerState
happens sys st (Peek w j) = peek st w j
happens sys st (Take w s) = take st w s
happens sys st (Mark w r) = mark st w r
happens sys st (PutBack w s) = put_back st w s
happens sys st (TryHold w d) = try_hold st w d
happens sys st (Release w d) = release st w d
happens sys st (Read w c) = read st w c (sys.owner c)
happens sys st (Raise w c t) = raise st w c (sys.owner c) t
happens sys st (Add w) = add st w
happens sys st (DropOne w) = drop_one st w
happens sys st (ReadPending w) = read_pending st w
happens sys st (Split w v) = split st v
happens sys st (Join w v) = join_seats st w v

-- the answer of a try that found this word
abbrev pub hold_of : ℕ → Hold
hold_of found = if found == 0 then hold.Got else hold.Busy (found - 1)

-- the answer of an event
abbrev pub answers : WorkerState → Event → Answer
answers st (Peek w j) = answer.Word (work_word st j)
answers st (Take w s) = answer.Bit (member st s == 1)
answers st (Mark w r) = answer.Bit (not (member st r == 1))
answers st (PutBack w s) = answer.Bit (not (member st s == 1))
answers st (TryHold w d) = answer.Held (hold_of (holder st d))
answers st (Read w c) = answer.Known (at st.cells c)
answers st (ReadPending w) = answer.Word st.pending
answers st _ = answer.Nothing

-- The worker has a live seat.
abbrev pub Lives : WorkerState → ℕ → Type 0
Lives st w = (w < length st.entries) × ((entry st w).live ≡ true)

-- The event is enabled.
abbrev pub Enabled : Shape → WorkerState → Event → Type 0
Enabled sys st (Peek w j) = Lives st w × (j < length st.work)
Enabled sys st (Take w s) = Lives st w × (s < sys.scopes) × ((entry st w).hand ≡ None) × ((entry st w).holds ≡ [])
Enabled sys st (Mark w r) = Lives st w × MayMark sys (entry st w) r
Enabled sys st (PutBack w s) = Lives st w × MayPutBack sys (entry st w) s
Enabled sys st (TryHold w d) = Lives st w × (d < sys.scopes) × (¬ In d (entry st w).holds)
Enabled sys st (Release w d) = Lives st w × (d < sys.scopes) × In d (entry st w).holds
Enabled sys st (Read w c) = Lives st w × (c < sys.cells) × In (sys.owner c) (entry st w).holds
Enabled sys st (Raise w c t) = Lives st w × ((s : ℕ) × MayRaise sys st.cells (entry st w) s c (sys.owner c) t)
Enabled sys st (Add w) = Lives st w × ((s : ℕ) × ((entry st w).hand ≡ Some s)) × ((entry st w).debt ≡ false)
Enabled sys st (DropOne w) = Lives st w × ((entry st w).debt ≡ false → (s : ℕ) × MayFinish sys st.cells (entry st w) s)
Enabled sys st (ReadPending w) = Lives st w
Enabled sys st (Split w v) = Lives st w × IsIdle (entry st w) × (v < length st.entries) × ((entry st v).live ≡ false)
Enabled sys st (Join w v) = Lives st w × IsIdle (entry st w) × (v < length st.entries) × IsIdle (entry st v) × (v ≢ w)

-- the state after a list of events
abbrev pub run : Shape → WorkerState → List Event → WorkerState
run sys st [] = st
run sys st (e ∷ es) = run sys (happens sys st e) es

-- Each event of a list is enabled when its turn comes.
abbrev pub AllEnabled : Shape → WorkerState → List Event → Type 0
AllEnabled sys st [] = Unit {0}
AllEnabled sys st (e ∷ es) = Enabled sys st e × AllEnabled sys (happens sys st e) es

abbrev pub seats_from : ℕ → ℕ → List View
seats_from zero k = []
seats_from (suc n) k = fresh k ∷ seats_from n (suc k)

-- the first state: all scopes are in the set, nothing is held or known, and all seats are live
abbrev pub start : Shape → ℕ → List ℕ → WorkerState
start sys workers work = record { cells = replicate sys.cells none; holders = replicate sys.scopes 0; work = work; pending = sys.scopes; entries = seats_from workers 0 }

-- the first state of a table, which has one seat
abbrev pub first_state : Shape → List ℕ → WorkerState
first_state sys work = record { cells = replicate sys.cells none; holders = replicate sys.scopes 0; work = work; pending = sys.scopes; entries = fresh 0 ∷ [] }
