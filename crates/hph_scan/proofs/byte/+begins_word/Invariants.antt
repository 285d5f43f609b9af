use Rattle.std.proofs.Common.{length}
use Rattle.hph_scan.proofs.byte.+begins_word.Given as goal

abbrev pub decreases-begins_word : goal.decreases-begins_word
decreases-begins_word l = length l.word.now
