use Rattle.hph_wasm.specs.Instantiation.{IsWithin, segment_placement}
use Rattle.hph_winstance.proofs.Firsts.{fails_here, one_more}
use Rattle.hph_winstance.proofs.misfits.misfit_data.Goals as goal

pub returns-then-not-segment_fits-clause-told : goal.returns-then-not-segment_fits-clause-told
returns-then-not-segment_fits-clause-told c = fails_here IsWithin (segment_placement c.args.m.now) c.args.m.now.segments
    c.as_slice-segment-items.result.now c.loop-k.k c.segment-item.result c.as_slice-segment-items.ensures c.loop-k.invariant
    c.loop-k-test.true c.segment-item.is c.if-not-segment_fits.ensures

pub loop-k-preserved : goal.loop-k-preserved
loop-k-preserved c = one_more IsWithin (segment_placement c.args.m.now) c.as_slice-segment-items.result.now c.loop-k.k c.segment-item.result
    c.loop-k.invariant c.loop-k-test.true c.segment-item.is c.if-not-segment_fits.ensures
