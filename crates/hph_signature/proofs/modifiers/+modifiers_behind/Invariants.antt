use Rattle.hph_signature.proofs.modifiers.+modifiers_behind.Given as goal

abbrev pub decreases-modifiers_behind : goal.decreases-modifiers_behind
decreases-modifiers_behind l = l.left
