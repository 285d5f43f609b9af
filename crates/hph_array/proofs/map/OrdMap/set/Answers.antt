use Rattle.std.proofs.Common.{sym, arith, true≢false}
use Rattle.hph_array.proofs.Places.{lookup-zip-absent, length-push}
use Rattle.hph_array.proofs.NextKeyLaws.{AreBelow-push, AreBelow-rise}
use Rattle.hph_array.proofs.MapSteps.{set-there, set-absent}
use Rattle.hph_array.proofs.map.OrdMap.set.Goals as goal

pub returns-in-Some-clause-ok : goal.returns-in-Some-clause-ok
returns-in-Some-clause-ok g c =
    rw (← c.self.view_is)
    (set-there _ _ _ c.self.invariant.same_length _ c.self.invariant.below _ _ (sym c.in-Some.ensures.place)
    (sym c.in-Some.ensures.found))

pub returns-in_err-push_pair-clause-there : goal.returns-in_err-push_pair-clause-there
returns-in_err-push_pair-clause-there g c =
    rw (← c.self.view_is, lookup-zip-absent _ _ _ c.self.invariant.same_length (sym c.in_default.ensures.place))
    (λ there. absurd (true≢false (sym there)))

pub invariant_of-self-2 : goal.invariant_of-self-2
invariant_of-self-2 g c =
    rw (c.in_ok-push_pair.ensures.keys, c.in_ok-push_pair.ensures.values) record {
      same_length = length-push c.self.inside.keys c.self.inside.values.items _ _ c.self.invariant.same_length;
      below = AreBelow-push c.max-self-inside.result c.self.inside.keys c.args.key
          (AreBelow-rise c.self.inside.next c.max-self-inside.result c.self.inside.keys
          c.self.invariant.below (omega (arith, c.max-self-inside.ensures)))
          (omega (arith, c.max-self-inside.ensures, c.number_after-past.ensures));
      within = omega (arith, c.max-self-inside.ensures, c.self.invariant.within, c.number_after-past.ensures);
    }

pub returns-clause-ok : goal.returns-clause-ok
returns-clause-ok g c =
    rw (
      ← c.self.view_is,
      c.in_ok-push_pair.ensures.keys,
      c.in_ok-push_pair.ensures.values,
      c.max-self-inside.ensures,
      c.number_after-past.ensures.value,
    )
    (set-absent c.self.inside.keys c.self.inside.values.items c.self.inside.next c.self.invariant.same_length
    c.args.key c.args.value (sym c.in_default.ensures.place))
