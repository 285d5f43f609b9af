use Rattle.std.proofs.Common.{◌≡◌, map, None}
use Rattle.hph_core.specs.Conditions.{last_met}
use Rattle.hph_machine.proofs.conditions.last_met.Given as goal

-- what those seen so far make of it
abbrev pub invariant-loop-finding : goal.invariant-loop-finding
invariant-loop-finding l = l.met ≡ last_met None (map (λ f. f.now) l.yielded)
