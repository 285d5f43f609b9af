use Rattle.std.proofs.Common.{rules}
use Rattle.std.proofs.lemmas.Result.{IfErr-weaker}
use Rattle.hph_include.proofs.OneMore.{absent_stops, long_stops, together_stops}
use Rattle.hph_include.proofs.reading.read_one.Goals as goal

pub returns-in-Found-clause-stops : goal.returns-in-Found-clause-stops
returns-in-Found-clause-stops g c = IfErr-weaker c.counted.result _ _
    (λ fault past. rw past.0 (together_stops _ _ _ _ _ _ _ c.in_ok-path.ensures.ok c.as_str.ensures.value c.new-content.ensures.items past.1 c.in-Found.ensures.told)) c.counted.ensures.past

pub returns-in-Absent-clause-stops : goal.returns-in-Absent-clause-stops
returns-in-Absent-clause-stops g c = absent_stops _ _ _ _ _ c.in_ok-path.ensures.ok c.as_str.ensures.value c.in-Absent.ensures.told

pub returns-in-TooLong-clause-stops : goal.returns-in-TooLong-clause-stops
returns-in-TooLong-clause-stops g c = rw c.past_limit.ensures (long_stops _ _ _ _ _ c.in_ok-path.ensures.ok c.as_str.ensures.value c.in-TooLong.ensures.told)
