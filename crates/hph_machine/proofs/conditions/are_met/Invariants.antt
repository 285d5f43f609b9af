use Rattle.std.proofs.Common.{ℕ, take}
use Rattle.hph_type.specs.Types.{PhpType}
use Rattle.hph_type.specs.Order.{Leq}
use Rattle.hph_sys.specs.Typings.{In, at}
use Rattle.hph_machine.proofs.conditions.are_met.Given as goal

-- the pairs seen so far are met
abbrev pub invariant-loop-cell : goal.invariant-loop-cell
invariant-loop-cell l = (pair : ℕ × PhpType) → In pair (take l.cell-index l.pairs) → Leq l.tree pair.1 (at l.cells pair.0)
