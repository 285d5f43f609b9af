use Rattle.std.proofs.Common.{take}
use Rattle.hph_plain.specs.Waiting.{Wakes}
use Rattle.hph_plain.proofs.waiting.wake.Given as goal

abbrev pub invariant-loop-reader : goal.invariant-loop-reader
invariant-loop-reader l = Wakes (take l.reader-index l.readers) l.fn.waiting l.waiting
