use Rattle.std.proofs.Common.{sym, ◌∙◌}
use Rattle.hph_array.proofs.Places.{lookup-zip-there, lookup-zip-absent}
use Rattle.hph_array.proofs.MapSteps.{replace-there, replace-absent}
use Rattle.hph_array.proofs.map.OrdMap.take.Goals as goal

pub returns-clause-value : goal.returns-clause-value
returns-clause-value g c =
    rw (← c.self.view_is)
    (sym c.exchange.ensures.old ∙ sym
    (lookup-zip-there _ _ _ c.self.invariant.same_length _ (sym c.in_ok-place.ensures.place)))

pub returns-clause-rest : goal.returns-clause-rest
returns-clause-rest g c =
    rw (← c.self.view_is, c.exchange.ensures.new)
    (replace-there c.self.inside.keys c.self.inside.values.items c.self.inside.next
    c.self.invariant.same_length c.args.key.now c.in_ok-place.place c.args.empty (sym c.in_ok-place.ensures.place))

pub returns-in_err-place-clause-value : goal.returns-in_err-place-clause-value
returns-in_err-place-clause-value g c =
    rw (c.from_residual.ensures, ← c.self.view_is) (sym (lookup-zip-absent _ _ _ c.self.invariant.same_length (sym c.in_err-place.ensures.place)))

pub returns-in_err-place-clause-rest : goal.returns-in_err-place-clause-rest
returns-in_err-place-clause-rest g c =
    rw (← c.self.view_is)
    (replace-absent c.self.inside.keys c.self.inside.values.items c.self.inside.next
    c.self.invariant.same_length c.args.key.now c.args.empty (sym c.in_err-place.ensures.found))
