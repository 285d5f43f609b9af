use Rattle.hph_wstate.specs.Machine.{core}
use Rattle.hph_wmach.proofs.Branches.{step_end, step_first, no_code, first_code}
use Rattle.hph_wmach.proofs.reduction.step.Goals as goal

pub returns-in-empty : goal.returns-in-empty
returns-in-empty g c = λ m tells h. step_end g.H.AnyHost.meaning m (core c.args.machine.now) (core c.end.new.machine) _ h
    (no_code _ _ c.code-here.ensures c.in-empty.len_below) (c.end.ensures m h)

pub returns-in-len1-up : goal.returns-in-len1-up
returns-in-len1-up g c = λ m tells h. step_first g.H.AnyHost.meaning m (core c.args.machine.now) (core c.go_on.new.self) (core c.run_one-next.new.machine)
    (core c.stand.new.machine) c.i-item.result _ _ _ h (first_code _ _ _ c.code-here.ensures c.in-len1-up.len_at_least c.i-item.is) c.code-here.ensures
    c.go_on.ensures c.stand.ensures (c.run_one-next.ensures m tells h)
