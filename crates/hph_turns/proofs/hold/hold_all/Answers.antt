use Rattle.std.proofs.Common.{sym, ◌∙◌, arith}
use Rattle.hph_turns.proofs.Steps.{hold_step, not_yet, in_get_of, take_in_all, ascends_take, busy_just, busy_met}
use Rattle.hph_turns.proofs.hold.hold_all.Goals as goal

pub try_hold-requires-clause-scope : goal.try_hold-requires-clause-scope
try_hold-requires-clause-scope g c = c.requires.scopes _ (in_get_of c.args.look.now c.loop-i.i (omega arith))

pub try_hold-requires-clause-may : goal.try_hold-requires-clause-may
try_hold-requires-clause-may g c = not_yet c.args.shared.now.0 c.args.seat.now c.loop-i.seat c.args.look.now c.loop-i.i (omega arith) c.requires.ascends c.loop-i.invariant

pub release_all-requires-clause-scopes : goal.release_all-requires-clause-scopes
release_all-requires-clause-scopes g c d i = c.requires.scopes d (take_in_all c.args.look.now c.loop-i.i d i)

pub release_all-requires-clause-ascends : goal.release_all-requires-clause-ascends
release_all-requires-clause-ascends g c = ascends_take c.args.look.now c.loop-i.i c.requires.ascends

pub release_all-requires-clause-just : goal.release_all-requires-clause-just
release_all-requires-clause-just g c = busy_just c.loop-i.seat.1 c.try_hold.new.seat.1 _ c.in-Busy.h _ c.in-Busy.ensures.view.0 c.loop-i.invariant.just

pub returns-in-Busy-clause-all : goal.returns-in-Busy-clause-all
returns-in-Busy-clause-all g c = (
  c.release_all.ensures.none,
  in_get_of c.args.look.now c.loop-i.i (omega arith),
  c.release_all.ensures.met ∙ busy_met c.loop-i.seat.1 c.try_hold.new.seat.1 _ c.in-Busy.h c.in-Busy.ensures.view.0,
  (λ e. c.in-Busy.ensures.view.1 (e ∙ sym c.loop-i.invariant.frame.number)),
)

pub loop-i-preserved : goal.loop-i-preserved
loop-i-preserved g c = hold_step c.args.shared.now.0 c.args.seat.now c.loop-i.seat c.try_hold.new.seat c.args.look.now c.loop-i.i (omega arith) c.loop-i.invariant c.in-Got.ensures.seat c.in-Got.ensures.view
