use Rattle.std.proofs.Common.{◌∙◌, ap}
use Rattle.std.specs.Prelude.{bytes_eq}
use Rattle.std.specs.List.{list_any}
use Rattle.hph_names.specs.Names.{spelled}
use Rattle.hph_names.proofs.OneMore.{has_name, has_one_more, not_new}
use Rattle.hph_names.proofs.met.insert.Goals as goal

pub returns-clause-was : goal.returns-clause-was
returns-clause-was c = not_new _ _ c.in-Ok.ensures.added ∙ has_name c.args.names.now.keys c.args.name

pub returns-clause-now : goal.returns-clause-now
returns-clause-now c = λ other. (ap (λ ks. list_any (bytes_eq other) (spelled ks)) c.in-Ok.ensures.keys ∙ has_one_more c.args.names.now.keys c.args.name other)
