use Rattle.std.proofs.Common.{◌≡◌, ◌∙◌, true, false, take, sym, ap, arith}
use Rattle.hph_wvalid.specs.Outside.{is_named}
use Rattle.hph_wvalid.proofs.Names.{found, unfound, once_still, once_no_more, named_still}
use Rattle.hph_wvalid.proofs.outside.are_named_once.Goals as goal

pub returns-then-not-branch : goal.returns-then-not-branch
returns-then-not-branch c =
    let exports = c.args.exports.now in let i = c.loop-export.export-index in let export = c.export-item.result in
    let old : is_named export.name (take i exports) ≡ true = ap (λ name. is_named name (take i exports)) (sym c.as_str.ensures.text)
    ∙ sym (c.loop-export.invariant.names c.as_str.result) ∙ found _ _ c.in_ok-insert.ensures.added c.if-not-branch.true in
    sym (once_no_more exports i export (omega arith) c.export-item.is old)

pub loop-export-preserved : goal.loop-export-preserved
loop-export-preserved c =
    let exports = c.args.exports.now in let i = c.loop-export.export-index in let export = c.export-item.result in
    let new : is_named export.name (take i exports) ≡ false = ap (λ name. is_named name (take i exports)) (sym c.as_str.ensures.text)
    ∙ sym (c.loop-export.invariant.names c.as_str.result) ∙ unfound _ _ c.in_ok-insert.ensures.added c.if-not-branch.false in
    record {
      once = once_still exports i export (omega arith) c.export-item.is c.loop-export.invariant.once new;
      names = λ q. c.in_ok-insert.ensures.updates.0 q
          ∙ named_still exports i export (omega arith) c.export-item.is c.as_str.result.now q.now _ c.as_str.ensures.text (c.loop-export.invariant.names q);
    }
