use Rattle.std.proofs.Common.{sym, ◌∙◌, ap}
use Rattle.hph_array.specs.Keys.{keys_in}
use Rattle.hph_array.proofs.keys.Keys.copy_with_room.Goals as goal
use Rattle.hph_array.proofs.keys.Keys.copy_with_room.Goals.{in-Rising+in_ok-copy_rising-in-Rising, in-Indexed+in_ok-copy_indexed-in-Indexed}

pub returns : goal.returns
returns c =
    elim c.match-self.branch [
      | in-Rising+in_ok-copy_rising-in-Rising w ↦ rw w.form-is
          (w.in_ok-copy_rising-in-Rising.ensures ∙ sym (ap keys_in w.in-Rising.is) ∙ c.self.view_is)
      | in-Indexed+in_ok-copy_indexed-in-Indexed w ↦ rw w.form-is
          (w.in_ok-copy_indexed-in-Indexed.ensures ∙ ap (λ s. s.keys) w.deref.ensures ∙ sym (ap keys_in w.in-Indexed.is)
          ∙ c.self.view_is)
    ]
