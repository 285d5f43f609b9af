use Rattle.std.proofs.Common.{rules}
use Rattle.hph_array.proofs.Rising.{RiseFrom-remove}
use Rattle.hph_array.proofs.keys.Keys.remove.Goals as goal
use Rattle.hph_array.proofs.keys.Keys.remove.Goals.{in-Rising, in-Indexed}

pub invariant_of-self : goal.invariant_of-self
invariant_of-self c =
    elim c.match-self.branch [
      | in-Rising w ↦ rw (w.self-inside-is, w.remove_rising.ensures.keys) (RiseFrom-remove 0 _ w.in-Rising.keys.items (search rules))
      | in-Indexed w ↦ rw w.self-inside-is tt
    ]
