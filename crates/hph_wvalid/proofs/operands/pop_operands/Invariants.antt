use Rattle.std.proofs.Common.{◌≡◌, length, reverse}
use Rattle.hph_wvalid.specs.Checking.{pops}
use Rattle.hph_wvalid.proofs.operands.pop_operands.Given as goal

-- What is left is taken from what is left of the stack.
abbrev pub invariant-loop-rest : goal.invariant-loop-rest
invariant-loop-rest l = pops (reverse l.rest) l.stack ≡ pops (reverse l.types) l.fn.stack

abbrev pub decreases-loop-rest : goal.decreases-loop-rest
decreases-loop-rest l = length l.rest
