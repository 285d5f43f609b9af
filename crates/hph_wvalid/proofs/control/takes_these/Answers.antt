use Rattle.std.proofs.Common.{◌∙◌, false, refl, ap}
use Rattle.hph_wasm.specs.Choice.{if_some}
use Rattle.hph_wasm.specs.Reduction.{same_types}
use Rattle.hph_wvalid.proofs.Labels.{same_types_by}
use Rattle.hph_wvalid.proofs.control.takes_these.Goals as goal

pub returns-in-Some : goal.returns-in-Some
returns-in-Some c =
    let types = c.args.types.now in
    c.eq.ensures ∙ same_types_by _ refl refl refl refl types c.as_slice.result.now ∙ ap (same_types types) c.as_slice.ensures
    ∙ ap (λ o. if_some o false (same_types types)) c.in-Some.ensures
