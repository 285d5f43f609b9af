use Rattle.hph_fexpr.proofs.BothWays.{level_sound, postfix_sound}
use Rattle.hph_fexpr.proofs.laws.parser_is_sound.Goals as goal

pub returns-clause-level : goal.returns-clause-level
returns-clause-level c = level_sound

pub returns-clause-postfix : goal.returns-clause-postfix
returns-clause-postfix c = postfix_sound
