-- A state of the machine, from the value that has it. Source: this project's own.
use Rattle.hph_core.specs.State.{WorkerState}
use Rattle.hph_machine.specs.declared.state.State.{State}

-- the state that a value is
abbrev pub state_of : State → WorkerState
state_of s = record { cells = s.cells.items; holders = s.holders.items; work = s.work.items; pending = s.pending; entries = s.entries.items }
