use Rattle.hph_file.proofs.OneFault as one
use Rattle.hph_file.proofs.laws.one_first_fault.Goals as goal

pub returns : goal.returns
returns c = one.one_fault (record {
  tokens = c.one_reading.ensures.tokens;
  fault = c.one_reading.ensures.fault;
  never_both = c.one_reading.ensures.never_both;
  tree = c.one_file.ensures.spelled;
})
