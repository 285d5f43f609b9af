use Rattle.std.proofs.Common.{◌≡◌, drop}
use Rattle.hph_wvalid.specs.Checking.{pops}
use Rattle.hph_wvalid.proofs.stack.pop_all.Given as goal

-- What is left is taken from what is left of the stack.
abbrev pub invariant-loop-ty : goal.invariant-loop-ty
invariant-loop-ty l = pops (drop l.ty-index l.types) l.stack ≡ pops l.types l.fn.stack
