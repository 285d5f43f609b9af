use Rattle.hph_wread.proofs.PlainInstructions.{unknown_malformed}
use Rattle.std.proofs.Common.{◌∙◌, sym}
use Rattle.hph_wread.proofs.plain.unknown.Goals as goal

pub returns-in-None : goal.returns-in-None
returns-in-None c = unknown_malformed c.args.code c.requires.first c.requires.none (sym c.left_out_feature.ensures ∙ c.in-None.is)
