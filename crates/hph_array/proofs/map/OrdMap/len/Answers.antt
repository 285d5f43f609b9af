use Rattle.std.proofs.Common.{sym, ◌∙◌}
use Rattle.hph_array.proofs.Places.{length-zip}
use Rattle.hph_array.proofs.MapSteps.{whole-IsArray}
use Rattle.hph_array.proofs.map.OrdMap.len.Goals as goal

pub returns-clause-value : goal.returns-clause-value
returns-clause-value g c =
    rw (← c.self.view_is) (c.len.ensures.value ∙ sym (length-zip _ _ c.self.invariant.same_length))

pub returns-clause-array : goal.returns-clause-array
returns-clause-array g c =
    rw (← c.self.view_is)
    (whole-IsArray _ _ _ c.self.invariant c.len.ensures.distinct)
