use Rattle.hph_fstmt.proofs.laws.expression_laws.Goals as goal

pub returns : goal.returns
returns c = record {
  level_sound = c.parser_is_sound.ensures.level;
  level_complete = c.parser_is_complete.ensures.level;
  postfix_sound = c.parser_is_sound.ensures.postfix;
  postfix_complete = c.parser_is_complete.ensures.postfix;
  paths_sound = c.paths_are_read.ensures.sound;
  paths_complete = c.paths_are_read.ensures.complete;
  targets_sound = c.targets_are_read.ensures.sound;
  targets_complete = c.targets_are_read.ensures.complete;
}
