use Rattle.std.proofs.Common.{slice_get, ap, sym, ◌∙◌}
use Rattle.hph_array.proofs.Places.{lookup-zip-absent, lookup-zip-there}
use Rattle.hph_array.proofs.map.OrdMap.get.Goals as goal

pub returns-in_err-at : goal.returns-in_err-at
returns-in_err-at g c =
    rw (c.from_residual.ensures, ← c.self.view_is)
    (sym (lookup-zip-absent _ _ _ c.self.invariant.same_length (sym c.in_err-at.ensures.place)))

pub returns : goal.returns
returns g c =
    rw (← c.self.view_is)
    (c.item.ensures ∙ ap (λ l. slice_get l c.in_ok-at.at) c.deref.ensures.value
    ∙ sym (lookup-zip-there _ _ _ c.self.invariant.same_length _ (sym c.in_ok-at.ensures.place)))
