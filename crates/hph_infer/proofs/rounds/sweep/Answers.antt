use Rattle.std.proofs.Common.{arith}
use Rattle.hph_sys.specs.Shape.{Shape}
use Rattle.hph_sys.proofs.LeastLaws.{least_is_the_meet}
use Rattle.hph_infer.proofs.Raised.{raised_typing, raised_low, raised_falls, raised_none, raised_then}
use Rattle.hph_infer.proofs.Sweeps.{least_is}
use Rattle.hph_infer.proofs.rounds.sweep.Goals as goal

pub returns-then-more-eq0-clause-least : goal.returns-then-more-eq0-clause-least
returns-then-more-eq0-clause-least g c =
    let sys : Shape = g.S.System.shape c.args.system.now in
    let law = g.met.S.System.laws c.args.system.now in
    least_is sys c.sweep_round.new.cells.items (raised_typing sys c.in_ok-more.more c.rounds.cells.items c.sweep_round.new.cells.items c.in_ok-more.ensures.round.raised c.rounds.invariant.typing)
    (raised_low sys law c.in_ok-more.more c.rounds.cells.items c.sweep_round.new.cells.items c.in_ok-more.ensures.round.raised c.rounds.invariant.typing (raised_low sys law c.rounds.raises c.args.cells.now.items c.rounds.cells.items c.rounds.invariant.raised c.requires.typing c.requires.below))
    (λ s l. c.in_ok-more.ensures.round.met c.if-more-eq0.true s l)

pub returns-then-more-eq0-clause-none : goal.returns-then-more-eq0-clause-none
returns-then-more-eq0-clause-none g c least =
    let sys : Shape = g.S.System.shape c.args.system.now in
    let law = g.met.S.System.laws c.args.system.now in
    raised_none sys law c.rounds.raises c.args.cells.now.items c.rounds.cells.items c.rounds.invariant.raised (least_is_the_meet sys c.args.cells.now.items law least).solution

pub rounds-smaller : goal.rounds-smaller
rounds-smaller g c = raised_falls (g.S.System.shape c.args.system.now) c.in_ok-more.more c.rounds.cells.items c.sweep_round.new.cells.items c.in_ok-more.ensures.round.raised c.rounds.invariant.typing c.if-more-eq0.false

pub rounds-preserved : goal.rounds-preserved
rounds-preserved g c = record {
  typing = raised_typing (g.S.System.shape c.args.system.now) c.in_ok-more.more c.rounds.cells.items c.sweep_round.new.cells.items c.in_ok-more.ensures.round.raised c.rounds.invariant.typing;
  raised = raised_then (g.S.System.shape c.args.system.now) c.rounds.raises c.in_ok-more.more c.saturating_add-raises.result c.args.cells.now.items c.rounds.cells.items c.sweep_round.new.cells.items c.rounds.invariant.raised c.in_ok-more.ensures.round.raised (let e = c.saturating_add-raises.ensures in omega arith);
}
