use Rattle.hph_wasm.specs.Functions.{imported_functions}
use Rattle.hph_wrunner.proofs.Added.{own_added}
use Rattle.hph_wrunner.proofs.Valid.{is_typed}
use Rattle.hph_wrunner.proofs.lookup.add_own.Goals as goal

pub own-requires : goal.own-requires
own-requires g c = is_typed c.args.m.now c.as_slice-func-items.result.now c.loop-func.func-index c.func-item.result c.requires.valid
    c.as_slice-func-items.ensures c.loop-func-test.true c.func-item.is

pub loop-func-preserved : goal.loop-func-preserved
loop-func-preserved g c = own_added g.H.AnyHost.meaning c.args.m.now (imported_functions c.args.m.now.imports)
    c.as_slice-func-items.result.now c.loop-func.func-index c.func-item.result c.loop-func.callees c.push.new.self c.own.result
    c.loop-func-test.true c.func-item.is c.loop-func.invariant c.own.ensures c.in_ok-push.ensures.ok
