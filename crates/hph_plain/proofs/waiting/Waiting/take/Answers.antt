use Rattle.std.proofs.Common.{◌≡◌, ap, subst, true, arith}
use Rattle.std.specs.Prelude.{slice_set, false}
use Rattle.hph_plain.specs.Waiting.{waits, StandOnce}
use Rattle.hph_plain.proofs.Waits.{last-waits, stand-take, waits-in}
use Rattle.hph_plain.proofs.waiting.Waiting.take.Goals as goal

pub index_mut-requires : goal.index_mut-requires
index_mut-requires c =
    let flags = c.self.inside.flags.items in
    let scope = c.in_ok-scope.scope in
    let stands = subst (StandOnce flags) c.in_ok-scope.ensures.items c.self.invariant in
    let within = waits-in flags scope (last-waits flags c.pop.new.self.items scope stands) in
    omega (arith, within, c.self.inside.flags.ok.0)

pub invariant_of-self-2 : goal.invariant_of-self-2
invariant_of-self-2 c =
    let flags = c.self.inside.flags.items in
    stand-take flags c.pop.new.self.items c.in_ok-scope.scope
    (subst (StandOnce flags) c.in_ok-scope.ensures.items c.self.invariant)

pub returns : goal.returns
returns c =
    let flags = c.self.inside.flags.items in
    let scope = c.in_ok-scope.scope in
    let stands = subst (StandOnce flags) c.in_ok-scope.ensures.items c.self.invariant in (
      subst (λ fs. waits fs scope ≡ true) c.self.view_is (last-waits flags c.pop.new.self.items scope stands),
      ap (λ fs. slice_set fs scope false) c.self.view_is,
    )
