use Rattle.hph_machine_value.proofs.Firsts.{HasBelow}
use Rattle.hph_machine_value.proofs.first.full_set.Given as goal

abbrev pub invariant-loop-s : goal.invariant-loop-s
invariant-loop-s l = HasBelow l.scopes l.s l.work.items
