use Rattle.std.proofs.Common.{slice_get, ap, sym, ◌∙◌}
use Rattle.hph_array.proofs.Places.{slice_get-zip, slice_get-zip-no_key, slice_get-zip-no_value}
use Rattle.hph_array.proofs.map.OrdMap.at.Goals as goal

pub returns-in_err-key : goal.returns-in_err-key
returns-in_err-key g c =
    rw (c.from_residual.ensures, ← c.self.view_is)
    (sym (slice_get-zip-no_key c.self.inside.keys c.self.inside.values.items c.args.index
    (sym c.in_err-key.ensures)))

pub returns-in_err-value : goal.returns-in_err-value
returns-in_err-value g c =
    rw (c.from_residual-in_err-value.ensures, ← c.self.view_is)
    (sym (slice_get-zip-no_value c.self.inside.keys c.self.inside.values.items c.args.index
    (sym (c.in_err-value.ensures ∙ ap (λ l. slice_get l c.args.index) c.deref.ensures.value))))

pub returns : goal.returns
returns g c =
    rw (← c.self.view_is)
    (sym (slice_get-zip c.self.inside.keys c.self.inside.values.items c.args.index _ _
    (sym c.in_ok-key.ensures) (sym
    (c.in_ok-value.ensures ∙ ap (λ l. slice_get l c.args.index) c.deref.ensures.value))))
