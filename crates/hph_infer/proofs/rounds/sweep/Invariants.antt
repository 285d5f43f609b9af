use Rattle.hph_sys.specs.Shape.{IsTyping}
use Rattle.hph_turns.specs.Phases.{Slack}
use Rattle.hph_infer.specs.Raising.{RaisedBy}
use Rattle.hph_infer.proofs.rounds.sweep.Given as goal

abbrev pub invariant-rounds : goal.invariant-rounds
invariant-rounds g l = record {
  typing : IsTyping (g.S.System.shape l.system) l.cells.items;
  raised : RaisedBy (g.S.System.shape l.system) l.raises l.fn.cells.items l.cells.items;
}

abbrev pub decreases-rounds : goal.decreases-rounds
decreases-rounds g l = Slack (g.S.System.shape l.system) l.cells.items
