use Rattle.std.proofs.Common.{refl, inr}
use Rattle.hph_wstate.specs.Machine.{core}
use Rattle.hph_wmach.proofs.Arguments.{entered_told, refused_told, never_short}
use Rattle.hph_wmach.proofs.calls.enter.Goals as goal

pub returns-then-not-holds : goal.returns-then-not-holds
returns-then-not-holds g c = λ m found typed arity h. (
  inr (refused_told g.H.AnyHost.meaning m c.args.f c.args.own.now found typed arity
      (core c.args.machine.now) _ h c.as_slice.ensures c.if-not-holds.ensures),
  (refl, refl, refl),
)

pub returns-in-Ok-true : goal.returns-in-Ok-true
returns-in-Ok-true g c = λ m found typed arity h. entered_told g.H.AnyHost.meaning m c.args.f c.args.own.now found typed arity
    (core c.args.machine.now) (core c.call.new.self) _ _ _ h c.as_slice.ensures c.if-not-holds.ensures c.len.ensures c.in-Ok-true.field-0-test c.in-Ok-true.ensures

pub returns-in-Ok-false : goal.returns-in-Ok-false
returns-in-Ok-false g c = λ m found typed arity h. never_short g.H.AnyHost.meaning m c.args.f c.args.own.now found typed arity
    (core c.args.machine.now) (core c.call.new.self) _ _ _ c.as_slice.ensures c.if-not-holds.ensures c.len.ensures c.in-Ok-false.field-0-test c.in-Ok-false.ensures

pub returns-in-Err : goal.returns-in-Err
returns-in-Err g c = λ m found typed arity h. tt
