-- One item more; a call and a destructuring in their parts.
use Rattle.std.proofs.Common.{◌≡◌, ◌∙◌, ap, sym, arith, drop, get_or, ◌+◌, ◌++◌, ◌∷◌}
use Rattle.std.specs.Prelude.{flat_map}
use Rattle.hph_ast.specs.declared.operator.Binary.{Binary}
use Rattle.hph_ast.specs.declared.expr.Expr.{Expr}
use Rattle.hph_ast.specs.declared.expr.ClassReference.{ClassReference}
use Rattle.hph_ast.specs.declared.expr.Item.{Item}
use Rattle.hph_ast.specs.declared.expr.Step.{Step}
use Rattle.hph_ast.specs.declared.expr.StringPart.{StringPart}
use Rattle.hph_ast.specs.declared.refusal.Construct.TheVariants as construct
use Rattle.hph_ast.specs.RefusedExpressions.{Found, library_name, refused_in, item_found}
use Rattle.hph_accept.specs.Order.{earlier, earliest}
use Rattle.hph_accept.specs.Enclosed.{seen}
use Rattle.hph_accept.specs.Parts.{class_found, step_found, piece_found}
use Rattle.hph_accept.proofs.InTurn.{earliest-append, earliest-drop}
use Rattle.hph_accept.proofs.ExpressionParts.{refused-Call, refused-Destructure}
use Rattle.hph_accept.proofs.expressions.+expression.Goals as goal

pub expressions-loop-expr-preserved : goal.expressions-loop-expr-preserved
expressions-loop-expr-preserved t c =
    let f : Expr → Found = λ x. refused_in x (seen c.args.context) in
    let i = c.loop-expr.expr-index in
    let one : earliest c.loop-expr.met (f (get_or c.args.exprs.now i c.expr-item.result)) ≡ c.expression-met.result =
    ap (λ x. earliest c.loop-expr.met (f x)) (sym c.expr-item.is) ∙ sym c.expression-met.ensures in
    c.loop-expr.invariant ∙ earliest-drop c.loop-expr.met f c.args.exprs.now i c.expr-item.result (omega arith)
    ∙ ap (λ m. earliest m (flat_map f (drop (i + 1) c.args.exprs.now))) one

pub items-loop-element-preserved : goal.items-loop-element-preserved
items-loop-element-preserved t c =
    let f : Item → Found = λ x. item_found x (seen c.args.context) in
    let i = c.loop-element.element-index in
    let one : earliest c.loop-element.met (f (get_or c.args.elements.now i c.element-item.result)) ≡ c.item-met.result =
    ap (λ x. earliest c.loop-element.met (f x)) (sym c.element-item.is) ∙ sym c.item-met.ensures in
    c.loop-element.invariant ∙ earliest-drop c.loop-element.met f c.args.elements.now i c.element-item.result (omega arith)
    ∙ ap (λ m. earliest m (flat_map f (drop (i + 1) c.args.elements.now))) one

pub steps-loop-one-preserved : goal.steps-loop-one-preserved
steps-loop-one-preserved t c =
    let f : Step → Found = λ x. step_found x (seen c.args.context) in
    let i = c.loop-one.one-index in
    let one : earliest c.loop-one.met (f (get_or c.args.steps.now i c.one-item.result)) ≡ c.step-met.result =
    ap (λ x. earliest c.loop-one.met (f x)) (sym c.one-item.is) ∙ sym c.step-met.ensures in
    c.loop-one.invariant ∙ earliest-drop c.loop-one.met f c.args.steps.now i c.one-item.result (omega arith)
    ∙ ap (λ m. earliest m (flat_map f (drop (i + 1) c.args.steps.now))) one

pub pieces-loop-one-preserved : goal.pieces-loop-one-preserved
pieces-loop-one-preserved t c =
    let f : StringPart → Found = λ x. piece_found x (seen c.args.context) in
    let i = c.loop-one.one-index in
    let one : earliest c.loop-one.met (f (get_or c.args.pieces.now i c.one-item.result)) ≡ c.piece-met.result =
    ap (λ x. earliest c.loop-one.met (f x)) (sym c.one-item.is) ∙ sym c.piece-met.ensures in
    c.loop-one.invariant ∙ earliest-drop c.loop-one.met f c.args.pieces.now i c.one-item.result (omega arith)
    ∙ ap (λ m. earliest m (flat_map f (drop (i + 1) c.args.pieces.now))) one

pub classes-loop-one-preserved : goal.classes-loop-one-preserved
classes-loop-one-preserved t c =
    let f : ClassReference → Found = λ x. class_found x (seen c.args.context) in
    let i = c.loop-one.one-index in
    let one : earliest c.loop-one.met (f (get_or c.args.classes.now i c.one-item.result)) ≡ c.class-met.result =
    ap (λ x. earliest c.loop-one.met (f x)) (sym c.one-item.is) ∙ sym c.class-met.ensures in
    c.loop-one.invariant ∙ earliest-drop c.loop-one.met f c.args.classes.now i c.one-item.result (omega arith)
    ∙ ap (λ m. earliest m (flat_map f (drop (i + 1) c.args.classes.now))) one

pub operands-loop-operand-preserved : goal.operands-loop-operand-preserved
operands-loop-operand-preserved t c =
    let f : Binary × Expr → Found = λ (o : Binary × Expr). refused_in o.1 (seen c.args.context) in
    let i = c.loop-operand.operand-index in
    let one : earliest c.loop-operand.met (f (get_or c.args.operands.now i c.operand-item.result)) ≡ c.expression-met.result =
    ap (λ x. earliest c.loop-operand.met (f x)) (sym c.operand-item.is) ∙ sym c.expression-met.ensures in
    c.loop-operand.invariant ∙ earliest-drop c.loop-operand.met f c.args.operands.now i c.operand-item.result (omega arith)
    ∙ ap (λ m. earliest m (flat_map f (drop (i + 1) c.args.operands.now))) one

pub expression-returns-in-Call : goal.expression-returns-in-Call
expression-returns-in-Call t c =
    let met = c.args.met in
    let named = library_name c.in-Call.name c.in-Call.at.start in
    let given = flat_map (λ x. refused_in x (seen c.args.context)) c.in-Call.arguments in
    let name : c.library_name-met.result ≡ earliest met named =
    c.library_name-met.ensures ∙ ap (λ n. earliest met (library_name n c.in-Call.at.start)) c.as_slice-in-Call.ensures in
    let rest : c.expressions.result ≡ earliest c.library_name-met.result given =
    c.expressions.ensures ∙ ap (λ xs. earliest c.library_name-met.result (flat_map (λ x. refused_in x (seen c.args.context)) xs)) c.as_slice-in-Call-2.ensures in
    rest ∙ ap (λ m. earliest m given) name ∙ sym (earliest-append met named given)
    ∙ ap (earliest met) (sym (ap (λ x. refused_in x (seen c.args.context)) c.in-Call.is ∙ refused-Call c.in-Call.at c.in-Call.name c.in-Call.arguments (seen c.args.context)))

pub expression-returns-in-Destructure : goal.expression-returns-in-Destructure
expression-returns-in-Destructure t c =
    let first = earlier c.args.met (construct.Destructure, c.in-Destructure.at.start) in
    let found = flat_map (λ x. item_found x (seen c.args.context)) c.in-Destructure.elements in
    let value = refused_in c.in-Destructure.value (seen c.args.context) in
    let elements : c.items-met.result ≡ earliest first found =
    c.items-met.ensures ∙ ap (λ xs. earliest c.meet-met-in-Destructure.result (flat_map (λ x. item_found x (seen c.args.context)) xs)) c.as_slice-in-Destructure.ensures
    ∙ ap (λ m. earliest m found) c.meet-met-in-Destructure.ensures in
    let last : c.expression-in-Destructure.result ≡ earliest c.items-met.result value =
    c.expression-in-Destructure.ensures ∙ ap (λ x. earliest c.items-met.result (refused_in x (seen c.args.context))) c.get-in-Destructure.ensures in
    last ∙ ap (λ m. earliest m value) elements ∙ sym (earliest-append first found value)
    ∙ ap (earliest c.args.met) (sym (ap (λ x. refused_in x (seen c.args.context)) c.in-Destructure.is
    ∙ refused-Destructure c.in-Destructure.at c.in-Destructure.elements c.in-Destructure.value (seen c.args.context)))
