use Rattle.hph_walk_write.proofs.unsetting.without.Goals as goal

pub returns-in-Key : goal.returns-in-Key
returns-in-Key c = λ heap within. rw c.in-Key.is (c.without_key.ensures heap within)
