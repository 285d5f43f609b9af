use Rattle.std.proofs.Common.{◌≡◌, ℕ, ◌<◌, sym, subst, ap, ◌∙◌, length}
use Rattle.hph_type.specs.Types.{none}
use Rattle.hph_type.specs.Classes.{Parents}
use Rattle.hph_sys.specs.Typings.{at}
use Rattle.hph_sys.specs.Shape.{Shape, asked_in}
use Rattle.hph_machine.proofs.Members.{get_any}
use Rattle.hph_machine.proofs.Raises.{may, is_asked}
use Rattle.hph_machine.proofs.conditions.may_raise.Goals as goal

pub returns : goal.returns
returns g c =
    let sys : Shape = g.S.System.shape c.args.system.now in
    let T = c.args.cells.now in
    let inside : c.args.cell < length T = subst (λ (n : ℕ). c.args.cell < n) (sym c.requires.cells.len) c.requires.cell in
    let old = c.index-cells-cell.result in
    let old_is : old ≡ at T c.args.cell = c.index-cells-cell.is ∙ get_any T c.args.cell old none inside in
    let pairs_are = c.deref.ensures.value ∙ c.in_ok-pairs.ensures in
    let asks_is : c.asked_of-asked.result ≡ asked_in sys.classes (sys.contrib c.args.hand T) c.args.cell =
    c.asked_of-asked.ensures.value ∙ (ap (λ (p : Parents). asked_in p c.deref.result.now c.args.cell) c.tree.ensures ∙ ap (λ l. asked_in sys.classes l c.args.cell) pairs_are) in
    let ok = c.is_ready.ensures.0 (let f = c.if-not-is_ready.false in cc) in (
      λ t. may sys T c.args.view.now c.args.hand c.args.cell c.args.ty old c.asked_of-asked.result c.tree-2.result.now old_is c.tree-2.ensures asks_is c.requires.cell ok (c.rises_by.ensures.0 t),
      λ m. c.rises_by.ensures.1 (is_asked sys T c.args.view.now c.args.hand c.args.cell c.args.ty old c.asked_of-asked.result c.tree-2.result.now old_is c.tree-2.ensures asks_is m),
    )
