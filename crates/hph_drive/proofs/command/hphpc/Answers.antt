use Rattle.std.proofs.Common.{map, string_bytes}
use Rattle.hph_src.specs.Faults.{HasRisen}
use Rattle.hph_drive.specs.Words.{main_of}
use Rattle.hph_drive.proofs.AfterTheLine.{says_after_line}
use Rattle.hph_drive.proofs.CausesExclude.{succeeds_after_line}
use Rattle.hph_drive.proofs.command.hphpc.Goals as goal

pub returns-clause-says : goal.returns-clause-says
returns-clause-says g c = says_after_line (main_of (map string_bytes c.args.words.now)) (g.T.Tree.files c.args.tree.now) (g.O.Sink.content c.args.out.now) (g.O.Sink.content c.answered-status.new.out) c.answered-status.result c.reported.result
    c.answered-status.ensures.says c.answered-status.ensures.untouched c.reported.ensures.same

pub returns-clause-succeeds : goal.returns-clause-succeeds
returns-clause-succeeds g c = succeeds_after_line (main_of (map string_bytes c.args.words.now)) (g.T.Tree.files c.args.tree.now)
    (HasRisen (g.T.Tree.faults c.args.tree.now) (g.T.Tree.faults c.answered-status.new.tree)) (HasRisen (g.O.Sink.faults c.args.out.now) (g.O.Sink.faults c.answered-status.new.out))
    c.answered-status.result c.reported.result c.answered-status.ensures.succeeds c.reported.ensures.same
