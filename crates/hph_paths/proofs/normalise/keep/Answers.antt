use Rattle.std.proofs.Common.{◌∙◌, ◌∷◌, [], ap}
use Rattle.std.proofs.lemmas.List.{map-append}
use Rattle.hph_paths.specs.Segments.{texts}
use Rattle.hph_paths.proofs.Segments.{keeps_another}
use Rattle.hph_paths.proofs.normalise.keep.Goals as goal

pub returns-in_ok-push-in_default : goal.returns-in_ok-push-in_default
returns-in_ok-push-in_default c =
    ap texts (c.in_ok-push-in_default.ensures).items
    ∙ (map-append (λ s. s.now) c.args.before.now.items (c.args.segment ∷ [])
    ∙ keeps_another c.args.rooted (texts c.args.before.now.items) c.args.segment.now c.in_default.not-empty c.in_default.not-text c.in_default.not-text-2)
