use Rattle.std.proofs.Common.{ℕ, ◌<◌, ◌+◌, ◌*◌, subst, sym}
use Rattle.std.specs.Int.{trailing_zeros}
use mir.Syntax.{w64}
use Rattle.hph_turns.proofs.Rounds.{lowest_in, took_after}
use Rattle.hph_turns.proofs.turn.find.Goals as goal

pub take-requires-clause-scope : goal.take-requires-clause-scope
take-requires-clause-scope g c = lowest_in (g.S.System.shape c.args.shared.now.1.system.value).scopes c.loop-word.word c.peek-bits.result c.if-bits-ne0.true c.peek-bits.type_inv c.peek-bits.ensures.bits

pub returns-then-take-clause-some : goal.returns-then-take-clause-some
returns-then-take-clause-some g c =
    let s : ℕ = 64 * c.loop-word.word + trailing_zeros w64 c.peek-bits.result in
    let low : s < (g.S.System.shape c.args.shared.now.1.system.value).scopes = lowest_in (g.S.System.shape c.args.shared.now.1.system.value).scopes c.loop-word.word c.peek-bits.result c.if-bits-ne0.true c.peek-bits.type_inv c.peek-bits.ensures.bits in
    let t = took_after c.loop-word.seat.1 c.peek-bits.new.seat.1 c.take.new.seat.1 c.args.seat.now.1.number s c.loop-word.word c.peek-bits.result c.take.result c.loop-word.invariant.idle c.loop-word.invariant.number c.peek-bits.ensures.view c.if-take.true c.take.ensures.view in
    (subst (λ (k : ℕ). s < k) (sym c.requires.scopes) low, t.0, t.1)
