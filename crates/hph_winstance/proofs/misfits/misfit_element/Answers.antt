use Rattle.hph_wasm.specs.Instantiation.{IsWithin, element_placement}
use Rattle.hph_winstance.proofs.Firsts.{fails_here, one_more}
use Rattle.hph_winstance.proofs.misfits.misfit_element.Goals as goal

pub returns-then-not-element_fits : goal.returns-then-not-element_fits
returns-then-not-element_fits c = fails_here IsWithin (element_placement c.args.m.now) c.args.m.now.elements c.as_slice-element-items.result.now
    c.loop-k.k c.element-item.result c.as_slice-element-items.ensures c.loop-k.invariant c.loop-k-test.true c.element-item.is
    c.if-not-element_fits.ensures

pub loop-k-preserved : goal.loop-k-preserved
loop-k-preserved c = one_more IsWithin (element_placement c.args.m.now) c.as_slice-element-items.result.now c.loop-k.k c.element-item.result
    c.loop-k.invariant c.loop-k-test.true c.element-item.is c.if-not-element_fits.ensures
