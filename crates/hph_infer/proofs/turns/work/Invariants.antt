use Rattle.std.proofs.Common.{◌≡◌, length}
use Rattle.hph_core.specs.Conditions.{IsIdle}
use Rattle.hph_sys.specs.Shape.{IsTyping}
use Rattle.hph_turns.proofs.Rounds.{AllNothing}
use Rattle.hph_infer.proofs.turns.work.Given as goal

abbrev pub invariant-loop-c : goal.invariant-loop-c
invariant-loop-c g l = AllNothing l._c l.known.items

abbrev pub invariant-loop-turn : goal.invariant-loop-turn
invariant-loop-turn g l = record {
  table : l.seat.0 ≡ l.shared.0;
  idle : IsIdle l.seat.1;
  number : l.seat.1.number ≡ l.fn.seat.1.number;
  typing : IsTyping (g.S.System.shape l.system) l.known.items;
  turns : length l.turns.items ≡ l._turn;
}
