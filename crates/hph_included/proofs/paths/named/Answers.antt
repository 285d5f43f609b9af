use Rattle.hph_included.proofs.Naming.{named_text, named_behind, named_none}
use Rattle.hph_included.proofs.paths.named.Goals as goal

pub returns-in-Some : goal.returns-in-Some
returns-in-Some c = named_text _ _ _ _ c.in-Some.ensures c.against.ensures

pub returns-in-Some-text_behind_directory : goal.returns-in-Some-text_behind_directory
returns-in-Some-text_behind_directory c = named_behind _ _ _ _ c.in-Some-text_behind_directory.ensures c.behind.ensures

pub returns-in-None : goal.returns-in-None
returns-in-None c = named_none _ _ c.in_default.ensures c.in-None.ensures
