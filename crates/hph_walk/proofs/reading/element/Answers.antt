use Rattle.std.proofs.Common.{Ok, ◌∙◌, ap, sym}
use Rattle.std.specs.Option.{option_map, unwrap_or}
use Rattle.hph_php.specs.Values.{Null}
use Rattle.hph_value.specs.Shown.{value_of}
use Rattle.hph_walk.proofs.Walks.{element_read}
use Rattle.hph_walk.proofs.reading.element.Goals as goal

pub returns-in-Some : goal.returns-in-Some
returns-in-Some c =
    element_read c.args.array.now (value_of c.args.key.now) c.in_ok-key.key c.in_ok-key.ensures
    ∙ ap (λ o. Ok (unwrap_or (option_map value_of o) Null)) (sym c.in-Some.ensures)

pub returns : goal.returns
returns c =
    element_read c.args.array.now (value_of c.args.key.now) c.in_ok-key.key c.in_ok-key.ensures
    ∙ ap (λ o. Ok (unwrap_or (option_map value_of o) Null)) (sym c.in-None.ensures)
