use Rattle.hph_wmach.proofs.numeric.compare.Goals as goal

pub returns-in-I32 : goal.returns-in-I32
returns-in-I32 g c = rw c.in-I32.is c.compare_i32.ensures

pub returns-in-I64 : goal.returns-in-I64
returns-in-I64 g c = rw c.in-I64.is c.compare_i64.ensures
