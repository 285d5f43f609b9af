use Rattle.hph_wave.proofs.NewPaths.{set_more}
use Rattle.hph_wave.proofs.known.insert.Goals.{in-Ok, in-Err}
use Rattle.hph_wave.proofs.known.insert.Goals as goal

pub returns : goal.returns
returns c = λ known met h. elim c.match-insert_full.branch [
  | in-Ok w ↦ rw w.result-is (set_more _ _ c.args.path w.in-Ok.ensures.keys known met h)
  | in-Err w ↦ rw w.result-is tt
]
