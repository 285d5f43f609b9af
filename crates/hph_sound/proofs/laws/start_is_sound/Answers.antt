use Rattle.hph_sound.proofs.Soundness.{start_is_sound}
use Rattle.hph_sound.proofs.laws.start_is_sound.Goals as goal

pub returns : goal.returns
returns c = start_is_sound
