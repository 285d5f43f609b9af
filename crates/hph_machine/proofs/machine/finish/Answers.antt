use Rattle.std.proofs.Common.{rules, ◌≡◌, ◌<◌, Some, subst}
use Rattle.hph_sys.specs.Shape.{Shape}
use Rattle.hph_core.specs.declared.view.View.{View}
use Rattle.hph_core.specs.Conditions.{MayFinish}
use Rattle.hph_machine.specs.Values.{state_of}
use Rattle.hph_machine.proofs.Owing.{hand_pending}
use Rattle.hph_machine.proofs.machine.finish.Goals as goal

pub finish-requires-clause-some : goal.finish-requires-clause-some
finish-requires-clause-some g c =
    let sys : Shape = g.S.System.shape c.args.system.now in
    let m : MayFinish sys c.deref.result.now c.in-Some.view.now c.in-Ok-Some.scope = search rules in
    hand_pending sys (state_of c.args.state.now) c.requires.rule c.args.worker c.in-Ok-Some.scope (subst (λ (v : View). v.hand ≡ Some c.in-Ok-Some.scope) c.in-Some.ensures.entry m.hand)
