use Rattle.hph_wenc.proofs.Vectors.{params_few, results_few}
use Rattle.hph_wenc.proofs.types.FuncTypePut.put.Goals as goal

pub put_vector-requires-clause-few : goal.put_vector-requires-clause-few
put_vector-requires-clause-few c = rw c.as_slice.ensures (params_few c.args.self.now c.requires)

pub put_vector-requires-2-clause-few : goal.put_vector-requires-2-clause-few
put_vector-requires-2-clause-few c = rw c.as_slice-2.ensures (results_few c.args.self.now c.requires)
