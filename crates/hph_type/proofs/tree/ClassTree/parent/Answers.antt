use Rattle.std.proofs.Common.{refl, sym}
use Rattle.std.proofs.lemmas.Option.{slice_get_read}
use Rattle.hph_type.proofs.ClassLaws.{parent-read}
use Rattle.hph_type.proofs.tree.ClassTree.parent.Goals as goal

pub returns : goal.returns
returns c =
    rw (← c.self.view_is)
    (sym (parent-read c.self.inside.parents.items c.self.invariant.before _ _
    (slice_get_read c.self.inside.parents.items _ _ _ refl (rw c.self.view_is c.requires) c.index.ensures)))
