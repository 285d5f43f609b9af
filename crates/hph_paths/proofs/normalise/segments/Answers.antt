use Rattle.std.proofs.Common.{rules, arith}
use Rattle.hph_paths.specs.Segments.{texts}
use Rattle.hph_paths.proofs.Segments.{goes_on, ends}
use Rattle.hph_paths.proofs.Slashes.{one_segment, cut_at}
use Rattle.hph_paths.proofs.normalise.segments.Goals as goal

pub loop-segment-preserved : goal.loop-segment-preserved
loop-segment-preserved c =
    let (front, back, within) = c.in-Some.ensures.byte (omega arith) (λ w o finds. finds) in (
      search rules,
      goes_on c.args.rooted (texts c.loop-segment.before.items) (texts c.keep.new.before.items) c.in-Some.segment.now
          c.loop-segment.rest.now c.in-Some.more.now _ (cut_at c.loop-segment.rest.now c.in-Some.segment.now c.in-Some.more.now within front back)
          c.in_ok-keep.ensures c.loop-segment.invariant.1,
    )

pub returns : goal.returns
returns c =
    let none = c.in_default.ensures.byte (omega arith) (λ w o finds. finds) in
    ends c.args.rooted (texts c.loop-segment.before.items) (texts c.keep-2.new.before.items) c.loop-segment.rest.now _
    (one_segment c.loop-segment.rest.now none) c.in_ok-keep-2.ensures c.loop-segment.invariant.1
