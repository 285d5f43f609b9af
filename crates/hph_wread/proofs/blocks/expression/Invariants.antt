use Rattle.std.proofs.Common.{length}
use Rattle.hph_wread.specs.Nesting.{Nested}
use Rattle.hph_wread.specs.Reading.{Took}
use Rattle.hph_wread.proofs.blocks.expression.Given as goal

abbrev pub invariant-instructions : goal.invariant-instructions
invariant-instructions l = Took (Nested l.nest) l.fn.bytes l.rest

abbrev pub decreases-instructions : goal.decreases-instructions
decreases-instructions l = length l.rest
