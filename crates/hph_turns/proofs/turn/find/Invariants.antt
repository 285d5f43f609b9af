use Rattle.std.proofs.Common.{◌≡◌}
use Rattle.hph_core.specs.Conditions.{IsIdle}
use Rattle.hph_turns.proofs.turn.find.Given as goal

abbrev pub invariant-loop-word : goal.invariant-loop-word
invariant-loop-word g l = record {
  table : l.seat.0 ≡ l.shared.0;
  idle : IsIdle l.seat.1;
  number : l.seat.1.number ≡ l.fn.seat.1.number;
}
