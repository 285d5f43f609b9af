-- What is printed to a sink of what was to be printed, where some of it waits in a buffer.
use Rattle.std.specs.Prelude.{◌≡◌, ◌++◌, ℕ, true, false, List, Option, Result, Ok, Err}
use Rattle.hph_src.specs.Sink.{grown_by, GrowsByPrefix}
use Rattle.hph_php.specs.declared.fatal.Fatal.TheVariants.{ObjectUse}
use Rattle.hph_php.specs.VarDump.{Dump}
use Rattle.hph_value.specs.declared.value.Stop.{Stop}
use Rattle.hph_value.specs.declared.value.Stop.TheVariants as value
use Rattle.hph_builtin_dump.specs.declared.flush.HostStop.{HostStop}
use Rattle.hph_builtin_dump.specs.declared.flush.HostStop.TheVariants.{Fatal, NoMemory, WriteFault}
use Rattle.hph_builtin_dump.specs.Dumps.{nothing, an_object}

abbrev pub host_stop : Stop → HostStop
host_stop (value.Fatal kind) = Fatal kind
host_stop value.NoMemory = NoMemory

-- The front of what waited was written, and the rest still waits.
pub record Passes (c d : Option (List ℕ)) (old new : List ℕ) : Type 0 where
  pub flushed : List ℕ
  pub content : d ≡ grown_by c flushed
  pub bytes : old ≡ flushed ++ new

abbrev pub Flushes : Result (Unit {0}) HostStop → Option (List ℕ) → Option (List ℕ) → List ℕ → List ℕ → Type 0
Flushes (Ok u) c d old new = Passes c d old new
Flushes (Err (Fatal kind)) c d old new = ⊥
Flushes (Err NoMemory) c d old new = GrowsByPrefix c d old
Flushes (Err WriteFault) c d old new = GrowsByPrefix c d old

-- Of what waited and one dump some was written; the rest waits, or is the other dump.
pub record Prints (before rest : Dump) (c d : Option (List ℕ)) (old new : List ℕ) : Type 0 where
  pub flushed : List ℕ
  pub content : d ≡ grown_by c flushed
  pub text : old ++ before.text ≡ flushed ++ (new ++ rest.text)
  pub meets : before.meets_object ≡ rest.meets_object

-- The whole dump is written or waits, up to an object where it meets one. After other stops a prefix is written.
abbrev pub Printed : Result (Unit {0}) HostStop → Dump → Option (List ℕ) → Option (List ℕ) → List ℕ → List ℕ → Type 0
Printed (Ok u) dump c d old new = Prints dump nothing c d old new
Printed (Err (Fatal kind)) dump c d old new = Prints dump an_object c d old new × (kind ≡ ObjectUse)
Printed (Err NoMemory) dump c d old new = GrowsByPrefix c d (old ++ dump.text)
Printed (Err WriteFault) dump c d old new = GrowsByPrefix c d (old ++ dump.text)

-- The whole dump is written: it meets no object where all is well, and meets one where the call ends in ObjectUse. After other
-- stops a prefix is written.
abbrev pub Shows : Result (Unit {0}) HostStop → Dump → Option (List ℕ) → Option (List ℕ) → Type 0
Shows (Ok u) dump c d = (d ≡ grown_by c dump.text) × (dump.meets_object ≡ false)
Shows (Err (Fatal kind)) dump c d = (d ≡ grown_by c dump.text) × ((dump.meets_object ≡ true) × (kind ≡ ObjectUse))
Shows (Err NoMemory) dump c d = GrowsByPrefix c d dump.text
Shows (Err WriteFault) dump c d = GrowsByPrefix c d dump.text
