use Rattle.hph_sound.proofs.Soundness.{rules_keep_soundness}
use Rattle.hph_sound.proofs.laws.rules_keep_soundness.Goals as goal

pub returns : goal.returns
returns c = rules_keep_soundness
