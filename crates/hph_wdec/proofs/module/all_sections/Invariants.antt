use Rattle.std.proofs.Common.{length}
use Rattle.hph_wdec.specs.Next.{parts_read}
use Rattle.hph_wdec.proofs.SoFar.{SoFar}
use Rattle.hph_wdec.proofs.module.all_sections.Given as goal

abbrev pub invariant-loop-rest : goal.invariant-loop-rest
invariant-loop-rest l = SoFar l.fn.bytes (parts_read l.sections) l.sections.last l.rest

abbrev pub decreases-loop-rest : goal.decreases-loop-rest
decreases-loop-rest l = length l.rest
