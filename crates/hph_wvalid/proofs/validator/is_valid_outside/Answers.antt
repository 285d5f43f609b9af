use Rattle.std.proofs.Common.{◌≡◌, ◌∙◌, true, sym, ap, subst, IfOk}
use Rattle.hph_wvalid.specs.Spaces.{spaces_of}
use Rattle.hph_wvalid.specs.Outside.{are_types, are_contents}
use Rattle.hph_wvalid.proofs.OutsideLaws.{by_contents, without_types}
use Rattle.hph_wvalid.proofs.validator.is_valid_outside.Goals as goal

pub returns-then-has_types : goal.returns-then-has_types
returns-then-has_types c =
    let m = c.args.m.now in
    let types : are_types m (spaces_of m) ≡ true = ap (are_types m) (sym c.requires.numbered) ∙ sym c.has_types.ensures ∙ c.if-has_types.true in
    by_contents m types c.has_contents.result (subst (λ s. IfOk c.has_contents.result (λ valid. valid ≡ are_contents m s)) c.requires.numbered c.has_contents.ensures)

pub returns-else-has_types : goal.returns-else-has_types
returns-else-has_types c =
    let m = c.args.m.now in
    without_types m (ap (are_types m) (sym c.requires.numbered) ∙ sym c.has_types.ensures ∙ c.if-has_types.false)
