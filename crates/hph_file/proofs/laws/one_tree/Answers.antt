use Rattle.hph_file.proofs.OneFault as one
use Rattle.hph_file.proofs.laws.one_tree.Goals as goal

pub returns-clause-tree : goal.returns-clause-tree
returns-clause-tree c = one.one_tree (record {
  tokens = c.one_reading.ensures.tokens;
  fault = c.one_reading.ensures.fault;
  never_both = c.one_reading.ensures.never_both;
  tree = c.one_file.ensures.spelled;
})

pub returns-clause-no_fault : goal.returns-clause-no_fault
returns-clause-no_fault c = one.no_fault (record {
  tokens = c.one_reading.ensures.tokens;
  fault = c.one_reading.ensures.fault;
  never_both = c.one_reading.ensures.never_both;
  tree = c.one_file.ensures.spelled;
})
