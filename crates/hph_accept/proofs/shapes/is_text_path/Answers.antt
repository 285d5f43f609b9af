use Rattle.std.proofs.Common.{ap, sym, ◌∙◌}
use Rattle.hph_ast.specs.RefusedExpressions.{part, is_path_text}
use Rattle.hph_accept.specs.Paths.{is_text_path}
use Rattle.hph_accept.proofs.Starts.{text_shape}
use Rattle.hph_accept.proofs.shapes.is_text_path.Goals as goal

pub returns-in-Text : goal.returns-in-Text
returns-in-Text c = c.is_path_text.ensures ∙ ap is_path_text c.as_slice.ensures ∙ ap is_text_path (sym (ap (λ x. (part x).shape) c.in-Text.is ∙ text_shape c.in-Text.at c.in-Text.bytes))
