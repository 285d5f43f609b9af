use Rattle.std.proofs.Common.{ap, sym, subst, ◌≡◌, ◌∙◌}
use Rattle.std.specs.Prelude.{◌&&◌, true, false}
use Rattle.hph_ast.specs.RefusedExpressions.{part, is_path_text, is_include_path}
use Rattle.hph_accept.specs.Paths.{is_directory, is_file_name}
use Rattle.hph_accept.proofs.ExpressionParts.{shape-Run}
use Rattle.hph_accept.proofs.Starts.{text_shape}
use Rattle.hph_accept.proofs.Paths.{joined_path}
use Rattle.hph_accept.proofs.shapes.is_include_path.Goals as goal

pub returns-in-Text : goal.returns-in-Text
returns-in-Text c = c.is_path_text.ensures ∙ ap is_path_text c.as_slice-in-Text.ensures ∙ ap is_include_path (sym (ap (λ x. (part x).shape) c.in-Text.is ∙ text_shape c.in-Text.at c.in-Text.bytes))

pub returns-then-is_directory : goal.returns-then-is_directory
returns-then-is_directory c =
    let there : true ≡ is_directory (part c.in-Run.first).shape = sym c.if-is_directory.true ∙ c.is_directory.ensures ∙ ap (λ x. is_directory (part x).shape) c.get.ensures in
    let name : c.is_file_name.result ≡ is_file_name c.in-Run.more = c.is_file_name.ensures ∙ ap is_file_name c.as_slice.ensures in
    let whole = ap is_include_path (ap (λ x. (part x).shape) c.in-Run.is ∙ shape-Run c.in-Run.at c.in-Run.first c.in-Run.more) ∙ joined_path (part c.in-Run.first).shape c.in-Run.more in
    subst (λ d. c.is_file_name.result ≡ (d && is_file_name c.in-Run.more)) there name ∙ sym whole

pub returns-else-is_directory : goal.returns-else-is_directory
returns-else-is_directory c =
    let there : c.is_directory.result ≡ is_directory (part c.in-Run.first).shape = c.is_directory.ensures ∙ ap (λ x. is_directory (part x).shape) c.get.ensures in
    let never : false ≡ is_directory (part c.in-Run.first).shape = sym c.if-is_directory.false ∙ there in
    let whole = ap is_include_path (ap (λ x. (part x).shape) c.in-Run.is ∙ shape-Run c.in-Run.at c.in-Run.first c.in-Run.more) ∙ joined_path (part c.in-Run.first).shape c.in-Run.more in
    subst (λ d. c.is_directory.result ≡ (d && is_file_name c.in-Run.more)) never c.if-is_directory.false ∙ sym whole
