use Rattle.std.proofs.Common.{◌≡◌, drop}
use Rattle.hph_wvalid.specs.Outside.{every, is_limits}
use Rattle.hph_wvalid.proofs.outside.all_have_limits.Given as goal

abbrev pub invariant-loop-limits : goal.invariant-loop-limits
invariant-loop-limits l = every (is_limits l.range) (drop l.limits-index l.all) ≡ every (is_limits l.range) l.all
