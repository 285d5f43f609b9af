use Rattle.std.proofs.Common.{◌≡◌, ℕ, ◌<◌, ◌≤◌, ◌+◌, ◌++◌, List, [], ◌∷◌, sym, ap, ◌∙◌, subst, arith, inl}
use Rattle.hph_sys.specs.Typings.{In}
use Rattle.hph_core.proofs.Sums.{in_right}
use Rattle.hph_table.proofs.Ending.{joined_start, joined_more}
use Rattle.hph_table.proofs.Shared.gather.Goals as goal

pub loop-seat-init : goal.loop-seat-init
loop-seat-init g c = joined_start c.args.self.now.0 c.args.self.now.1.workers c.args.seats.items c.pop.new.self.items c.in-Some.main c.requires.all c.in-Some.ensures.items

pub join-requires-clause-other : goal.join-requires-clause-other
join-requires-clause-other g c =
    let mine : In c.in-Some-pop.seat c.loop-seat.seats.items = subst (In c.in-Some-pop.seat) (sym c.in-Some-pop.ensures.items) (in_right c.in-Some-pop.seat c.pop-in-loop-seat.new.self.items (c.in-Some-pop.seat ∷ []) (inl (λ _. c.in-Some-pop.seat))) in
    c.requires.all.each c.in-Some-pop.seat (c.loop-seat.invariant.sub c.in-Some-pop.seat mine)

pub loop-seat-preserved : goal.loop-seat-preserved
loop-seat-preserved g c = joined_more c.args.self.now.0 c.args.self.now.1.workers c.args.seats.items c.loop-seat.seats.items c.pop-in-loop-seat.new.self.items c.loop-seat.main c.join.new.one c.in-Some-pop.seat c.requires.all c.loop-seat.invariant c.in-Some-pop.ensures.items c.join.ensures.0 c.join.ensures.1
