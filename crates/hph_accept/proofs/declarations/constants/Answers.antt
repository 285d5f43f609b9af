use Rattle.std.proofs.Common.{◌≡◌, ◌∙◌, ap, sym, arith, drop, get_or, ◌+◌}
use Rattle.std.specs.Prelude.{flat_map}
use Rattle.hph_ast.specs.declared.class.ConstantItem.{ConstantItem}
use Rattle.hph_ast.specs.RefusedExpressions.{Found, refused_in}
use Rattle.hph_accept.specs.Order.{earliest}
use Rattle.hph_accept.specs.Enclosed.{seen}
use Rattle.hph_accept.proofs.InTurn.{earliest-drop}
use Rattle.hph_accept.proofs.declarations.constants.Goals as goal

pub loop-constant-preserved : goal.loop-constant-preserved
loop-constant-preserved c =
    let f : ConstantItem → Found = λ (i : ConstantItem). refused_in i.value (seen c.args.context) in
    let i = c.loop-constant.constant-index in
    let one : earliest c.loop-constant.met (f (get_or c.args.constants.now i c.constant-item.result)) ≡ c.expression-met.result =
    ap (λ x. earliest c.loop-constant.met (f x)) (sym c.constant-item.is)
    ∙ ap (λ x. earliest c.loop-constant.met (refused_in x (seen c.args.context))) (sym c.get.ensures) ∙ sym c.expression-met.ensures in
    c.loop-constant.invariant ∙ earliest-drop c.loop-constant.met f c.args.constants.now i c.constant-item.result (omega arith)
    ∙ ap (λ m. earliest m (flat_map f (drop (i + 1) c.args.constants.now))) one
