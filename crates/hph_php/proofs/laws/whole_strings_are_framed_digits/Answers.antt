-- Framed digits are read as their number.
use Rattle.hph_php.proofs.NumericLaws.{numeric_of_whole}
use Rattle.hph_php.proofs.laws.whole_strings_are_framed_digits.Goals as goal

pub returns-clause-whole : goal.returns-clause-whole
returns-clause-whole c = numeric_of_whole
