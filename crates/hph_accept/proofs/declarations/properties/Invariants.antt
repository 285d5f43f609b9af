use Rattle.std.proofs.Common.{◌≡◌, drop}
use Rattle.std.specs.Prelude.{flat_map}
use Rattle.hph_ast.specs.declared.class.PropertyItem.{PropertyItem}
use Rattle.hph_ast.specs.RefusedExpressions.{refused_in}
use Rattle.hph_ast.specs.RefusedStatements as refused
use Rattle.hph_accept.specs.Order.{earliest}
use Rattle.hph_accept.specs.Enclosed.{seen}
use Rattle.hph_accept.proofs.declarations.properties.Given as goal

abbrev pub invariant-loop-property : goal.invariant-loop-property
invariant-loop-property l = earliest l.fn.met (flat_map (λ (i : PropertyItem). refused.maybe refused_in i.value (seen l.context)) l.properties) ≡ earliest l.met (flat_map (λ (i : PropertyItem). refused.maybe refused_in i.value (seen l.context)) (drop l.property-index l.properties))
