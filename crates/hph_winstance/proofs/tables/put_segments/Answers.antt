use Rattle.std.proofs.Common.{◌∙◌, ap}
use Rattle.hph_wasm.specs.Instantiation.{offset_of}
use Rattle.hph_winstance.proofs.Overwrites.{segment_room, segment_put}
use Rattle.hph_winstance.proofs.tables.put_segments.Goals as goal

pub overwrite-requires : goal.overwrite-requires
overwrite-requires c = segment_room c.args.m.now c.args.globals.now c.requires.globals c.as_slice-segment-items.result.now
    c.loop-segment.segment-index c.segment-item.result c.loop-segment.memory c.offset_of-place.result
    c.as_slice-in-loop-segment.result.now c.requires.fit c.as_slice-segment-items.ensures c.loop-segment-test.true c.segment-item.is
    (c.loop-segment.auto.memory ∙ c.requires.room) (c.offset_of-place.ensures ∙ ap (offset_of c.args.globals.now) c.as_slice.ensures)
    c.as_slice-in-loop-segment.ensures

pub loop-segment-preserved : goal.loop-segment-preserved
loop-segment-preserved c = c.loop-segment.invariant ∙ segment_put c.args.globals.now c.as_slice-segment-items.result.now
    c.loop-segment.segment-index c.segment-item.result c.loop-segment.memory c.offset_of-place.result
    c.as_slice-in-loop-segment.result.now c.overwrite.new.all c.loop-segment-test.true c.segment-item.is
    (c.offset_of-place.ensures ∙ ap (offset_of c.args.globals.now) c.as_slice.ensures) c.as_slice-in-loop-segment.ensures c.overwrite.ensures
