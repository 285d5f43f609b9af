use Rattle.std.proofs.Common.{◌∙◌, ap, None}
use Rattle.hph_php.specs.Conversions.{map_ok}
use Rattle.hph_php.specs.Paths.{unset_path}
use Rattle.hph_walk.specs.Steps.{steps_of}
use Rattle.hph_walk_write.specs.Writes.{place_of}
use Rattle.hph_walk_write.specs.Unsets.{left_at}
use Rattle.hph_walk_write.proofs.Elements.{unset_none}
use Rattle.hph_walk_write.proofs.unsetting.unset.Goals as goal

pub returns-in-None : goal.returns-in-None
returns-in-None c = λ heap within.
    ap (λ p. map_ok (left_at (place_of p)) (unset_path heap within (steps_of c.args.steps.now) (place_of p))) c.in-None.is
    ∙ ap (map_ok (left_at None)) (unset_none heap within c.args.steps.now)
