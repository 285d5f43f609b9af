use Rattle.std.proofs.Common.{◌≡◌, arith, length}
use Rattle.hph_wstate.proofs.Standing.{few_own}
use Rattle.hph_wstate.proofs.Arguments.{one_more_number, all_numbers}
use Rattle.hph_wstate.proofs.machine.Machine.copy_numbers.Goals as goal

pub loop-k-preserved : goal.loop-k-preserved
loop-k-preserved c = one_more_number c.args.self.now.values c.args.self.now.own c.args.params.now (few_own _ _ _ _ _ c.args.self.now.counted)
    c.requires c.loop-k.k _ _ _ _ c.loop-k-test.true c.in-Some.ensures c.number_of.ensures.number c.number_of.ensures.fits
    c.in_ok-push-in-Some.ensures.items c.loop-k.invariant

pub returns : goal.returns
returns c =
    let same : c.loop-k.k ≡ length c.args.params.now = omega arith in
    let all = all_numbers c.args.self.now.values c.args.self.now.own c.args.params.now (few_own _ _ _ _ _ c.args.self.now.counted)
    c.requires c.loop-k.k c.loop-k.numbers.items same c.loop-k.invariant in
    record { numbers = all.0; fit = all.1 }
