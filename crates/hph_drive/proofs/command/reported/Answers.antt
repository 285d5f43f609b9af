use Rattle.std.proofs.Common.{◌∙◌, ap}
use Rattle.hph_src.specs.Sink.{grown_by}
use Rattle.hph_drive.specs.declared.status.Status.TheVariants.{Built}
use Rattle.hph_drive.proofs.AfterTheLine.{grown_by_nothing, whole_line_reports}
use Rattle.hph_drive.proofs.command.reported.Goals as goal

pub returns-in-All-clause-reports : goal.returns-in-All-clause-reports
returns-in-All-clause-reports g c = whole_line_reports _ _ _ c.args.status (c.in-All.ensures.grown ∙ ap (grown_by (g.E.Sink.content c.args.err.now)) (c.as_bytes.ensures.value ∙ c.as_str.ensures.value ∙ c.in-Ok.ensures))

pub returns-in_default-clause-reports : goal.returns-in_default-clause-reports
returns-in_default-clause-reports g c = (Built, (0, grown_by_nothing (g.E.Sink.content c.args.err.now)))
