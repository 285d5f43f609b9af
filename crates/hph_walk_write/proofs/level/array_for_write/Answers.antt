use Rattle.std.proofs.Common.{ap, ◌∙◌}
use Rattle.hph_value.specs.Shown.{value_of}
use Rattle.hph_walk_write.specs.Writes.{place_of}
use Rattle.hph_php.specs.Paths.{array_for_write}
use Rattle.hph_walk_write.proofs.Entering.{elements_there}
use Rattle.hph_walk_write.proofs.level.array_for_write.Goals as goal

pub returns-in_ok-owned_map-in-Ok : goal.returns-in_ok-owned_map-in-Ok
returns-in_ok-owned_map-in-Ok c =
    ap (λ p. array_for_write (place_of p)) c.in-Some.is
    ∙ elements_there (value_of c.in-Some.value) c.in-Ok.elements.map c.in_ok-owned_map-in-Ok.field-0 c.in-Ok.ensures.ok c.in_ok-owned_map-in-Ok.ensures
