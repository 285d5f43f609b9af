use Rattle.std.proofs.Common.{subst, ap, ◌-◌, drop, true, false}
use Rattle.hph_wstate.specs.Written.{Written, values_from}
use Rattle.hph_wstate.proofs.Kept.{refused, set_done}
use Rattle.hph_wstate.proofs.far.FarLocals.set.Goals as goal

pub returns-then-place-left : goal.returns-then-place-left
returns-then-place-left c = subst (λ l. Written c.args.place c.args.value l false l) c.self.view_is
    (refused c.self.inside.written c.self.inside.types.now c.self.inside.first _ c.args.place c.args.value c.self.invariant
    (ap (λ n. n - c.self.inside.first) c.len.ensures) c.if-place-left.true)

pub returns : goal.returns
returns c = subst (λ l. Written c.args.place c.args.value l true
    (values_from c.insert.new.self 0 (drop c.self.inside.first c.self.inside.types.now))) c.self.view_is
    (set_done c.self.inside.written c.insert.new.self c.self.inside.types.now c.self.inside.first _ c.args.place c.args.value c.self.invariant
    (ap (λ n. n - c.self.inside.first) c.len.ensures) c.if-place-left.false c.in_ok-insert.ensures.updates)
