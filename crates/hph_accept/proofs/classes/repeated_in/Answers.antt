use Rattle.std.proofs.Common.{rules}
use Rattle.hph_accept.proofs.Repeats.{tracks_none}
use Rattle.hph_accept.proofs.StatementParts.{the_parts}
use Rattle.hph_accept.proofs.classes.repeated_in.Goals as goal

pub returns-in_default-clause-names : goal.returns-in_default-clause-names
returns-in_default-clause-names c = tracks_none _ _ _ _ (search (rules, the_parts)) c.requires

pub returns-in_default-2-clause-names : goal.returns-in_default-2-clause-names
returns-in_default-2-clause-names c = tracks_none _ _ _ _ (search (rules, the_parts)) c.requires

pub returns-in_default-3-clause-names : goal.returns-in_default-3-clause-names
returns-in_default-3-clause-names c = tracks_none _ _ _ _ (search (rules, the_parts)) c.requires
