use Rattle.hph_wmach.proofs.numeric.combine.Goals as goal

pub returns-in-I32 : goal.returns-in-I32
returns-in-I32 g c = rw c.in-I32.is c.combine_i32.ensures

pub returns-in-I64 : goal.returns-in-I64
returns-in-I64 g c = rw c.in-I64.is c.combine_i64.ensures
