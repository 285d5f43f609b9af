use Rattle.hph_fstmt.proofs.BothWays.{one_tree}
use Rattle.hph_fstmt.proofs.laws.one_file.Goals as goal

pub returns-clause-tree : goal.returns-clause-tree
returns-clause-tree c = one_tree c.laws.ensures

pub returns-clause-spelled : goal.returns-clause-spelled
returns-clause-spelled c = λ tokens x y d f. one_tree c.laws.ensures tokens x y d.is f.is
