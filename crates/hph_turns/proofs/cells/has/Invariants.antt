use Rattle.std.proofs.Common.{take}
use Rattle.hph_sys.specs.Typings.{In}
use Rattle.hph_turns.proofs.cells.has.Given as goal

abbrev pub invariant-loop-y : goal.invariant-loop-y
invariant-loop-y l = ¬ In l.x (take l.y-index l.xs)
