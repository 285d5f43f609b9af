use Rattle.std.proofs.Common.{◌<◌, ◌∙◌, sym, subst, arith}
use Rattle.hph_plain.proofs.Rises.{run-start, run-least, taken-left}
use Rattle.hph_plain.proofs.work_list.plain.Goals as goal

pub loop-scope-init : goal.loop-scope-init
loop-scope-init g c =
    run-start (g.S.System.shape c.args.system.now) (g.met.S.System.laws c.args.system.now)
    c.in_ok-typing.typing.items c.in_ok-waiting.waiting c.cells.result c.none.result
    (c.in_ok-typing.ensures.items_if_clones_equal (λ y same. same)) c.cells.ensures c.none.ensures
    (c.in_ok-waiting.ensures.len ∙ c.scopes.ensures)
    (λ scope within. c.in_ok-waiting.ensures.each scope (subst (λ n. scope < n) (sym c.scopes.ensures) within))

pub loop-scope-smaller : goal.loop-scope-smaller
loop-scope-smaller g c =
    let fewer = taken-left (g.S.System.shape c.args.system.now) (g.met.S.System.laws c.args.system.now)
    c.loop-scope.typing.items c.loop-scope.waiting _ c.in-Some.scope c.in-Some.ensures.1 c.in-Some.ensures.0 in
    let rest = c.in_ok-settle.ensures.left in
    omega (arith, fewer, rest)

pub returns : goal.returns
returns g c =
    run-least (g.S.System.shape c.args.system.now) (g.met.S.System.laws c.args.system.now)
    c.loop-scope.typing.items c.loop-scope.waiting c.loop-scope.invariant c.in_default.ensures.1
