use Rattle.std.proofs.Common.{◌≡◌, drop}
use Rattle.hph_wvalid.specs.Outside.{every, is_segment}
use Rattle.hph_wvalid.proofs.outside.are_segments.Given as goal

abbrev pub invariant-loop-segment : goal.invariant-loop-segment
invariant-loop-segment l = every (is_segment l.spaces) (drop l.segment-index l.segments) ≡ every (is_segment l.spaces) l.segments
