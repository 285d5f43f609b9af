use Rattle.hph_wvalid.proofs.Places.{accepted_by, refused_by}
use Rattle.hph_wvalid.proofs.Spellings.{functions_few, bodies_short}
use Rattle.hph_wvalid.proofs.validator.valid.Goals as goal

pub decide-requires-clause-few : goal.decide-requires-clause-few
decide-requires-clause-few c = functions_few c.args.m c.requires.short

pub decide-requires-clause-short : goal.decide-requires-clause-short
decide-requires-clause-short c = bodies_short c.args.m c.requires.short

pub returns-in-Ok-clause-refused : goal.returns-in-Ok-clause-refused
returns-in-Ok-clause-refused c = λ f k first. (c.first_faults.ensures.whole c.args.m).1 f k c.in-Ok.ensures.valid first

pub returns-in-Err-clause-accepted : goal.returns-in-Err-clause-accepted
returns-in-Err-clause-accepted c = accepted_by c.args.m (c.first_faults.ensures.whole c.args.m) c.in-Err.fault c.in-Err.ensures.invalid

pub returns-in-Err-clause-refused : goal.returns-in-Err-clause-refused
returns-in-Err-clause-refused c = refused_by c.args.m (c.first_faults.ensures.whole c.args.m) c.in-Err.fault c.in-Err.ensures.invalid
