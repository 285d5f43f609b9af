use Rattle.std.proofs.Common.{◌≡◌, Some, None, subst, ap, ◌-◌, ◌<◌}
use Rattle.std.specs.Prelude.{slice_get}
use Rattle.hph_wstate.proofs.Kept.{past, touched, untouched, no_local}
use Rattle.hph_wstate.proofs.far.FarLocals.get.Goals as goal

pub returns-then-place-left : goal.returns-then-place-left
returns-then-place-left c = subst (λ l. None ≡ slice_get l c.args.place) c.self.view_is
    (past c.self.inside.written c.self.inside.types.now c.self.inside.first _ c.args.place c.self.invariant
    (ap (λ n. n - c.self.inside.first) c.len.ensures) c.if-place-left.true)

pub returns-in-Some : goal.returns-in-Some
returns-in-Some c = subst (λ l. Some c.in-Some.value.now ≡ slice_get l c.args.place) c.self.view_is
    (touched c.self.inside.written c.self.inside.types.now c.self.inside.first c.args.place _ c.in-Some.ensures.value
    (subst (λ n. c.args.place < n - c.self.inside.first) c.len.ensures c.if-place-left.false))

pub returns-in-Some-get : goal.returns-in-Some-get
returns-in-Some-get c = subst (λ l. Some c.zero.result ≡ slice_get l c.args.place) c.self.view_is
    (untouched c.self.inside.written c.self.inside.types.now c.self.inside.first c.args.place _ _ c.in-None.ensures.value c.in-Some-get.ensures c.zero.ensures)

pub returns-in-None-get : goal.returns-in-None-get
returns-in-None-get c = subst (λ l. None ≡ slice_get l c.args.place) c.self.view_is
    (no_local c.self.inside.written c.self.inside.types.now c.self.inside.first c.args.place c.in-None-get.ensures)
