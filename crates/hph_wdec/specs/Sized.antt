-- Faults in what stands behind its size (sections 5.5.2 and 5.5.13 of the WebAssembly Core Specification 1.0).
use Rattle.std.specs.Prelude.{ℕ, ◌+◌, ◌≤◌, List, length}
use Rattle.hph_wread.specs.declared.fault.Fault.{Fault}
use Rattle.hph_wread.specs.declared.fault.Fault.TheVariants.{Malformed, Unsupported, NoMemory}

-- the place of a fault is one of these bytes, or their end
abbrev pub StandsIn : List ℕ → Fault → Type 0
StandsIn bytes (Malformed left) = left ≤ length bytes
StandsIn bytes (Unsupported left feature) = left ≤ length bytes
StandsIn bytes NoMemory = Unit {0}

-- the same fault, where so many more bytes are left
abbrev pub moved_by : ℕ → Fault → Fault
moved_by more (Malformed left) = Malformed (left + more)
moved_by more (Unsupported left feature) = Unsupported (left + more) feature
moved_by more NoMemory = NoMemory
