use Rattle.std.proofs.Common.{◌≡◌, ◌-◌, drop, length}
use Rattle.hph_sys.specs.Shape.{asked_in}
use Rattle.hph_machine.proofs.conditions.asked_of.Given as goal

-- what the pairs seen so far ask, from the last one on
abbrev pub invariant-loop-i : goal.invariant-loop-i
invariant-loop-i l = l.asked ≡ asked_in l.tree (drop (length l.pairs - l.i) l.pairs) l.cell
