use Rattle.std.proofs.Common.{◌∙◌, ap, sym}
use Rattle.std.specs.Prelude.{◌||◌, bytes_eq}
use Rattle.std.specs.List.{list_any}
use Rattle.hph_names.specs.Names.{folded, spelled}
use Rattle.hph_names.proofs.OneMore.{any_met, knows_kept}
use Rattle.hph_names.proofs.met.MetNames.meet.Goals as goal

pub returns-clause-now : goal.returns-clause-now
returns-clause-now c = λ names k other. (c.in_ok-was.ensures.now (folded c.self.inside.case other) ∙ ap (λ n. list_any (bytes_eq (folded c.self.inside.case other)) (spelled c.in_ok-names.names.keys) || bytes_eq (folded c.self.inside.case other) n) c.in_ok-name.ensures ∙ any_met c.self.inside.case (spelled c.in_ok-names.names.keys) names c.args.name.now other (knows_kept _ _ _ _ _ names (sym c.in_ok-names.ensures.value) c.self.view_is k other))
