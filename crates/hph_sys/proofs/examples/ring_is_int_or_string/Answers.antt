use Rattle.hph_sys.proofs.RingLeast.{ring_is_lawful, ring_is_least}
use Rattle.hph_sys.proofs.examples.ring_is_int_or_string.Goals as goal

pub returns : goal.returns
returns c = record { lawful = ring_is_lawful; least = ring_is_least }
