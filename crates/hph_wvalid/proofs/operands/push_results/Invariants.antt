use Rattle.std.proofs.Common.{◌≡◌, take, reverse}
use Rattle.hph_wvalid.specs.Checking.{push_all}
use Rattle.hph_wvalid.proofs.operands.push_results.Given as goal

-- The types so far are given.
abbrev pub invariant-loop-ty : goal.invariant-loop-ty
invariant-loop-ty l = l.stack ≡ push_all (reverse (take l.ty-index l.types)) l.fn.stack
