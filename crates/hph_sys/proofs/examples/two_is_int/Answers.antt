use Rattle.hph_sys.specs.TwoLaws.{two_lawful}
use Rattle.hph_sys.proofs.TwoLeast.{two_is_least}
use Rattle.hph_sys.proofs.examples.two_is_int.Goals as goal

pub returns : goal.returns
returns c = record { lawful = two_lawful; least = two_is_least }
