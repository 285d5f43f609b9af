use Rattle.std.proofs.Common.{◌≡◌}
use Rattle.hph_turns.specs.Phases.{IsAtWork, Slack}
use Rattle.hph_turns.proofs.raise.settle.Given as goal

abbrev pub invariant-loop-pairs : goal.invariant-loop-pairs
invariant-loop-pairs g l = record {
  table : l.seat.0 ≡ l.shared.0;
  at_work : IsAtWork (g.S.System.shape l.system) l.seat.1 l.fn.seat.1.number l.s l.known.items;
}

abbrev pub decreases-loop-pairs : goal.decreases-loop-pairs
decreases-loop-pairs g l = Slack (g.S.System.shape l.system) l.known.items
