use Rattle.std.proofs.Common.{◌≡◌, ◌∙◌, ap, sym, arith, drop, get_or, ◌+◌}
use Rattle.std.specs.Prelude.{flat_map}
use Rattle.hph_ast.specs.declared.class.PropertyItem.{PropertyItem}
use Rattle.hph_ast.specs.RefusedExpressions.{Found, refused_in}
use Rattle.hph_ast.specs.RefusedStatements as refused
use Rattle.hph_accept.specs.Order.{earliest}
use Rattle.hph_accept.specs.Enclosed.{seen}
use Rattle.hph_accept.proofs.InTurn.{earliest-drop}
use Rattle.hph_accept.proofs.declarations.properties.Goals as goal

pub loop-property-preserved : goal.loop-property-preserved
loop-property-preserved c =
    let f : PropertyItem → Found = λ (i : PropertyItem). refused.maybe refused_in i.value (seen c.args.context) in
    let i = c.loop-property.property-index in
    let one : earliest c.loop-property.met (f (get_or c.args.properties.now i c.property-item.result)) ≡ c.maybe_expression-met.result =
    ap (λ x. earliest c.loop-property.met (f x)) (sym c.property-item.is) ∙ sym c.maybe_expression-met.ensures in
    c.loop-property.invariant ∙ earliest-drop c.loop-property.met f c.args.properties.now i c.property-item.result (omega arith)
    ∙ ap (λ m. earliest m (flat_map f (drop (i + 1) c.args.properties.now))) one
