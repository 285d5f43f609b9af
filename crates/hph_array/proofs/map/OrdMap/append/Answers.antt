use Rattle.std.proofs.Common.{◌+◌, ap, arith}
use Rattle.hph_array.specs.Key.{number_after}
use Rattle.hph_array.proofs.Places.{length-push}
use Rattle.hph_array.proofs.NextKeyLaws.{next_key_is_new, int_key, AreBelow-push, AreBelow-rise}
use Rattle.hph_array.proofs.MapSteps.{append-whole}
use Rattle.hph_array.proofs.map.OrdMap.append.Goals as goal

pub push_pair-requires : goal.push_pair-requires
push_pair-requires g c =
    rw (int_key _ c.self.invariant.within c.if-self.false) (next_key_is_new _ _ c.self.invariant.below)

pub invariant_of-self-2 : goal.invariant_of-self-2
invariant_of-self-2 g c =
    let key = int_key c.self.inside.next c.self.invariant.within c.if-self.false in
    rw (c.in_ok-push_pair.ensures.keys, c.in_ok-push_pair.ensures.values) record {
      same_length = length-push c.self.inside.keys c.self.inside.values.items _ _ c.self.invariant.same_length;
      below = AreBelow-push (c.self.inside.next + 1) c.self.inside.keys _
          (AreBelow-rise _ _ _ c.self.invariant.below (omega arith)) (omega (arith, ap number_after key));
      within = omega (arith, c.self.invariant.within, c.if-self.false);
    }

pub returns-clause-ok : goal.returns-clause-ok
returns-clause-ok g c =
    let key = int_key c.self.inside.next c.self.invariant.within c.if-self.false in
    rw (← c.self.view_is, c.in_ok-push_pair.ensures.keys, c.in_ok-push_pair.ensures.values)
    (append-whole c.self.inside.keys c.self.inside.values.items c.self.inside.next
    c.self.invariant.same_length _ c.args.value key)
