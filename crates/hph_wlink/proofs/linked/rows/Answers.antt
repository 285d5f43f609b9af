use Rattle.hph_wlink.proofs.Rows.{more_rows, first_missing}
use Rattle.hph_wlink.proofs.linked.rows.Goals as goal

pub returns-in-None-clause-fault : goal.returns-in-None-clause-fault
returns-in-None-clause-fault g c = first_missing g.H.AnyHost.meaning c.args.m.now c.as_slice-import-items.result.now c.loop-import.rows
    c.loop-import.import-index c.len.result c.import-item.result c.as_slice-import-items.ensures c.loop-import.invariant
    c.loop-import-test.true c.import-item.is c.in-None.ensures c.len.ensures

pub loop-import-preserved : goal.loop-import-preserved
loop-import-preserved g c = more_rows g.H.AnyHost.meaning c.args.m.now c.as_slice-import-items.result.now c.loop-import.rows c.push.new.self
    c.loop-import.import-index c.import-item.result c.in-Some.row c.loop-import.invariant c.loop-import-test.true c.import-item.is
    c.in-Some.ensures c.in-Ok.ensures.ok
