use Rattle.hph_wasm.specs.Rows.{list_size}
use Rattle.hph_wstate.specs.Machine.{core}
use Rattle.hph_wrun.proofs.Outside.{one_more}
use Rattle.hph_wrun.proofs.place.opcodes_left.Goals as goal

pub loop-k-preserved : goal.loop-k-preserved
loop-k-preserved c = one_more (core c.args.machine.now).labels c.loop-k.k (list_size (core c.args.machine.now).code) c.loop-k.left _ _ c.in-Some.label
    c.in-Some.ensures c.in_ok-opcodes_outside-in-Some.ensures c.in_ok-left-in-Some.ensures c.loop-k.invariant
