use Rattle.std.proofs.Common.{◌≡◌, ◌∙◌, ap, sym, arith, drop, get_or, ◌+◌, ◌++◌}
use Rattle.std.specs.Prelude.{flat_map}
use Rattle.hph_ast.specs.declared.stmt.StaticVariable.{StaticVariable}
use Rattle.hph_ast.specs.RefusedExpressions.{Found, refused_in}
use Rattle.hph_ast.specs.RefusedStatements as refused
use Rattle.hph_accept.specs.Order.{earliest}
use Rattle.hph_accept.specs.Enclosed.{seen}
use Rattle.hph_accept.proofs.InTurn.{earliest-drop}
use Rattle.hph_accept.proofs.declarations.static_variables.Goals as goal

pub loop-variable-preserved : goal.loop-variable-preserved
loop-variable-preserved c =
    let f : StaticVariable → Found = λ (v : StaticVariable). refused.bound v.name (seen c.args.context) ++ refused.maybe refused_in v.value (seen c.args.context) in
    let i = c.loop-variable.variable-index in
    let one : earliest c.loop-variable.met (f (get_or c.args.variables.now i c.variable-item.result)) ≡ c.static_variable-met.result =
    ap (λ x. earliest c.loop-variable.met (f x)) (sym c.variable-item.is) ∙ sym c.static_variable-met.ensures in
    c.loop-variable.invariant ∙ earliest-drop c.loop-variable.met f c.args.variables.now i c.variable-item.result (omega arith)
    ∙ ap (λ m. earliest m (flat_map f (drop (i + 1) c.args.variables.now))) one
