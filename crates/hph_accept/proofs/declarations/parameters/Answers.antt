use Rattle.std.proofs.Common.{◌≡◌, ◌∙◌, ap, sym, arith, drop, get_or, ◌+◌}
use Rattle.std.specs.Prelude.{flat_map}
use Rattle.hph_ast.specs.RefusedStatements as refused
use Rattle.hph_ast.specs.RefusedExpressions.{Found}
use Rattle.hph_ast.specs.declared.function.Param.{Param}
use Rattle.hph_accept.specs.Order.{earliest}
use Rattle.hph_accept.specs.Enclosed.{seen}
use Rattle.hph_accept.proofs.InTurn.{earliest-drop}
use Rattle.hph_accept.proofs.declarations.parameters.Goals as goal

pub loop-param-preserved : goal.loop-param-preserved
loop-param-preserved c =
    let f : Param → Found = λ x. refused.param_refused x (seen c.args.context) in
    let i = c.loop-param.param-index in
    let one : earliest c.loop-param.met (f (get_or c.args.params.now i c.param-item.result)) ≡ c.parameter-met.result =
    ap (λ x. earliest c.loop-param.met (f x)) (sym c.param-item.is) ∙ sym c.parameter-met.ensures in
    c.loop-param.invariant ∙ earliest-drop c.loop-param.met f c.args.params.now i c.param-item.result (omega arith)
    ∙ ap (λ m. earliest m (flat_map f (drop (i + 1) c.args.params.now))) one
