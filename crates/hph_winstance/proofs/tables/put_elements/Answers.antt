use Rattle.std.proofs.Common.{◌∙◌, Some, map, ap}
use Rattle.hph_wasm.specs.Instantiation.{offset_of}
use Rattle.hph_winstance.proofs.Overwrites.{element_room, element_put}
use Rattle.hph_winstance.proofs.tables.put_elements.Goals as goal

pub overwrite-requires : goal.overwrite-requires
overwrite-requires c = element_room c.args.m.now c.args.globals.now c.requires.globals c.as_slice-element-items.result.now
    c.loop-element.element-index c.element-item.result c.loop-element.table c.offset_of-place.result
    c.as_slice-in-loop-element-2.result.now c.requires.fit c.as_slice-element-items.ensures c.loop-element-test.true c.element-item.is
    (c.loop-element.auto.table ∙ c.requires.room)
    (c.offset_of-place.ensures ∙ ap (offset_of c.args.globals.now) c.as_slice-in-loop-element.ensures)
    (c.as_slice-in-loop-element-2.ensures.value ∙ c.in_ok-entries.ensures ∙ ap (map Some) c.as_slice.ensures)

pub loop-element-preserved : goal.loop-element-preserved
loop-element-preserved c = c.loop-element.invariant ∙ element_put c.args.globals.now c.as_slice-element-items.result.now
    c.loop-element.element-index c.element-item.result c.loop-element.table c.offset_of-place.result
    c.as_slice-in-loop-element-2.result.now c.overwrite.new.all c.loop-element-test.true c.element-item.is
    (c.offset_of-place.ensures ∙ ap (offset_of c.args.globals.now) c.as_slice-in-loop-element.ensures)
    (c.as_slice-in-loop-element-2.ensures.value ∙ c.in_ok-entries.ensures ∙ ap (map Some) c.as_slice.ensures) c.overwrite.ensures
