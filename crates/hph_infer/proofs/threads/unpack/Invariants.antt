use Rattle.std.proofs.Common.{vec_len}
use Rattle.hph_infer.proofs.Packs.{UnpackedSoFar}
use Rattle.hph_infer.proofs.threads.unpack.Given as goal

abbrev pub invariant-loop-team : goal.invariant-loop-team
invariant-loop-team g l = UnpackedSoFar l.fn.team.items l.team.items l.seats.items l.reports.items

abbrev pub decreases-loop-team : goal.decreases-loop-team
decreases-loop-team g l = vec_len l.team
