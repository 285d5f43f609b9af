use Rattle.std.proofs.Common.{◌∙◌, ap, sym}
use Rattle.std.specs.Option.{option_map}
use Rattle.hph_php.specs.Paths.{old_value}
use Rattle.hph_value.specs.Shown.{value_of}
use Rattle.hph_walk.proofs.Walks.{element_tried}
use Rattle.hph_walk.proofs.testing.element_if_set.Goals as goal

pub returns-in-Some : goal.returns-in-Some
returns-in-Some c =
    ap (λ o. old_value (option_map value_of o)) c.in-Some.ensures
    ∙ ap old_value (sym (element_tried c.args.array.now (value_of c.args.key.now) c.in-Ok.key c.in-Ok.ensures))

pub returns-in-Ok : goal.returns-in-Ok
returns-in-Ok c =
    ap (λ o. old_value (option_map value_of o)) c.in-None.ensures
    ∙ ap old_value (sym (element_tried c.args.array.now (value_of c.args.key.now) c.in-Ok.key c.in-Ok.ensures))
