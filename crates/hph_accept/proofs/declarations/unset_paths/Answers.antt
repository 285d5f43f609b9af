use Rattle.std.proofs.Common.{◌≡◌, ◌∙◌, ap, sym, arith, drop, get_or, ◌+◌}
use Rattle.std.specs.Prelude.{flat_map}
use Rattle.hph_ast.specs.RefusedStatements as refused
use Rattle.hph_ast.specs.RefusedExpressions.{Found}
use Rattle.hph_ast.specs.declared.expr.Expr.{Expr}
use Rattle.hph_accept.specs.Order.{earliest}
use Rattle.hph_accept.specs.Enclosed.{seen}
use Rattle.hph_accept.proofs.InTurn.{earliest-drop}
use Rattle.hph_accept.proofs.declarations.unset_paths.Goals as goal

pub loop-path-preserved : goal.loop-path-preserved
loop-path-preserved c =
    let f : Expr → Found = λ x. refused.unset_refused x (seen c.args.context) in
    let i = c.loop-path.path-index in
    let one : earliest c.loop-path.met (f (get_or c.args.paths.now i c.path-item.result)) ≡ c.unset_path-met.result =
    ap (λ x. earliest c.loop-path.met (f x)) (sym c.path-item.is) ∙ sym c.unset_path-met.ensures in
    c.loop-path.invariant ∙ earliest-drop c.loop-path.met f c.args.paths.now i c.path-item.result (omega arith)
    ∙ ap (λ m. earliest m (flat_map f (drop (i + 1) c.args.paths.now))) one
