use Rattle.std.proofs.Common.{arith}
use Rattle.hph_turns.proofs.Steps.{release_step, released_all, still_held, in_get_of}
use Rattle.hph_turns.proofs.hold.release_all.Goals as goal

pub release-requires-clause-scope : goal.release-requires-clause-scope
release-requires-clause-scope g c = c.requires.scopes _ (in_get_of c.args.held.now c.loop-d.d-index (omega arith))

pub release-requires-clause-may : goal.release-requires-clause-may
release-requires-clause-may g c = still_held c.args.shared.now.0 c.args.seat.now c.loop-d.seat c.args.held.now c.loop-d.d-index (omega arith) c.loop-d.invariant

pub loop-d-preserved : goal.loop-d-preserved
loop-d-preserved g c = release_step c.args.shared.now.0 c.args.seat.now c.loop-d.seat c.release.new.seat c.args.held.now c.loop-d.d-index (omega arith) c.requires.ascends c.loop-d.invariant c.release.ensures.seat c.release.ensures.view

pub returns-clause-none : goal.returns-clause-none
returns-clause-none g c = released_all c.args.shared.now.0 c.args.seat.now c.loop-d.seat c.args.held.now c.loop-d.d-index (omega arith) c.loop-d.invariant
