use Rattle.std.proofs.Common.{arith}
use Rattle.hph_infer.proofs.Raised.{raised_typing}
use Rattle.hph_infer.proofs.Sweeps.{round_more}
use Rattle.hph_infer.proofs.rounds.sweep_round.Goals as goal

pub sweep_scope-requires-clause-typing : goal.sweep_scope-requires-clause-typing
sweep_scope-requires-clause-typing g c = raised_typing (g.S.System.shape c.args.system.now) c.loop-s.raises c.args.cells.now.items c.loop-s.cells.items c.loop-s.invariant.raised c.requires.typing

pub loop-s-preserved : goal.loop-s-preserved
loop-s-preserved g c = round_more (g.S.System.shape c.args.system.now) c.loop-s.s c.loop-s.raises c.in_ok-more.more c.saturating_add-raises.result c.args.cells.now.items c.loop-s.cells.items c.sweep_scope.new.cells.items c.loop-s.invariant c.in_ok-more.ensures.swept (let e = c.saturating_add-raises.ensures in omega arith)
