use Rattle.hph_wrunner.proofs.Added.{is_its_row, row_there, import_added}
use Rattle.hph_wrunner.proofs.lookup.add_imported.Goals as goal

pub imported-requires : goal.imported-requires
imported-requires g c = is_its_row g.H.AnyHost.meaning c.args.m.now c.as_slice-import-items.result.now c.args.m.now.imports c.args.rows.now
    c.loop-k.k c.import-item.result c.in-Some.row.now c.as_slice-import-items.ensures c.requires.rows c.loop-k-test.true
    c.import-item.is c.in-Some.ensures

pub unreachable-requires : goal.unreachable-requires
unreachable-requires g c = row_there g.H.AnyHost.meaning c.args.m.now c.as_slice-import-items.result.now c.args.m.now.imports c.args.rows.now
    c.loop-k.k c.import-item.result c.as_slice-import-items.ensures c.requires.rows c.loop-k-test.true c.import-item.is c.in-None.ensures

pub loop-k-preserved : goal.loop-k-preserved
loop-k-preserved g c = import_added g.H.AnyHost.meaning c.args.m.now c.as_slice-import-items.result.now c.loop-k.k c.import-item.result
    c.loop-k.callees c.push.new.self c.imported.result c.loop-k-test.true c.import-item.is c.loop-k.invariant c.imported.ensures
    c.in_ok-push-in-Some.ensures.ok
