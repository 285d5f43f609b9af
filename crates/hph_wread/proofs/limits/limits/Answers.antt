use Rattle.hph_wread.proofs.SizeLimits.{limits_flag, limits_min, limits_max, unbounded_took, bounded_took}
use Rattle.hph_wread.proofs.Combinators.{handed_on}
use Rattle.hph_wread.proofs.limits.limits.Goals as goal

pub returns-in_err-bounded-clause-stopped : goal.returns-in_err-bounded-clause-stopped
returns-in_err-bounded-clause-stopped c =
    let e = c.in_err-bounded.field-0.0 in
    let f = c.in_err-bounded.ensures.stopped in
    handed_on _ c.from_residual.result e c.from_residual.ensures.1 (limits_flag c.args.most c.args.name e f)

pub returns-in_err-min-clause-stopped : goal.returns-in_err-min-clause-stopped
returns-in_err-min-clause-stopped c =
    let e = c.in_err-min.field-0.0 in
    let f = c.in_err-min.ensures.stopped in
    handed_on _ c.from_residual-in_err-min.result e c.from_residual-in_err-min.ensures.1 (limits_min c.args.most c.args.name c.in_ok-bounded.bounded c.in_ok-bounded.ensures.read e f)

pub returns-in_err-max-clause-stopped : goal.returns-in_err-max-clause-stopped
returns-in_err-max-clause-stopped c =
    let e = c.in_err-max.field-0.0 in
    let f = c.in_err-max.ensures.stopped in
    handed_on _ c.from_residual-in_err-max.result e c.from_residual-in_err-max.ensures.1 (limits_max c.args.most c.args.name (c.types_are_read_in_one_way.ensures.unsigned 32) c.in_ok-bounded.bounded c.if-bounded.true c.in_ok-bounded.ensures.read c.in_ok-min.min c.in_ok-min.ensures.fit c.in_ok-min.ensures.read e f)

pub returns-then-bounded-clause-read : goal.returns-then-bounded-clause-read
returns-then-bounded-clause-read c = bounded_took c.limits_of.result c.in_ok-bounded.bounded c.if-bounded.true c.in_ok-bounded.ensures.read c.in_ok-min.min c.limits_of.ensures.least c.in_ok-min.ensures.read c.in_ok-max.max c.limits_of.ensures.greatest c.in_ok-max.ensures.read

pub returns-clause-read : goal.returns-clause-read
returns-clause-read c = unbounded_took c.limits_of-2.result c.in_ok-bounded.bounded c.if-bounded.false c.in_ok-bounded.ensures.read c.in_ok-min.min c.limits_of-2.ensures.least c.limits_of-2.ensures.greatest c.in_ok-min.ensures.read
