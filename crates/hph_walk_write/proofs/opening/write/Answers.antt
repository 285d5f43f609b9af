use Rattle.std.proofs.Common.{◌∙◌, Ok, ap, sym}
use Rattle.hph_php.specs.Paths.{written}
use Rattle.hph_value.specs.Shown.{value_of}
use Rattle.hph_walk_write.proofs.opening.write.Goals as goal

pub returns : goal.returns
returns c = λ heap within.
    (c.in_ok-old.ensures heap within).writes (value_of c.args.value) ∙ ap (λ v. Ok (written heap within v)) (sym c.in_ok-close.ensures)
