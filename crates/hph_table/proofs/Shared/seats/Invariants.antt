use Rattle.std.proofs.Common.{◌≡◌, ℕ, suc, ◌<◌, ◌-◌, length, get_or}
use Rattle.hph_core.specs.declared.view.View.{View}
use Rattle.hph_core.specs.State.{spent, fresh}
use Rattle.hph_table.specs.Ids.{TableId}
use Rattle.hph_table.specs.Seats.{SoFar}
use Rattle.hph_table.proofs.Shared.seats.Given as goal

abbrev pub invariant-loop-number : goal.invariant-loop-number
invariant-loop-number g l = SoFar l.self.0 l.number l.first l.others.items
