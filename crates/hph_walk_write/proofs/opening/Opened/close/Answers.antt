use Rattle.std.proofs.Common.{◌∙◌, ap, sym}
use Rattle.hph_value.specs.Shown.{value_of}
use Rattle.hph_walk_write.specs.Levels.{closed}
use Rattle.hph_walk_write.proofs.Closing.{closed-more}
use Rattle.hph_walk_write.proofs.opening.Opened.close.Goals as goal

pub levels-preserved : goal.levels-preserved
levels-preserved c =
    ap (closed c.pop.new.self.items) c.in_ok-value.ensures
    ∙ (sym (closed-more c.pop.new.self.items c.in-Some.level (value_of c.levels.value))
    ∙ (ap (λ l. closed l (value_of c.levels.value)) (sym c.in-Some.ensures.items)
    ∙ c.levels.invariant))
